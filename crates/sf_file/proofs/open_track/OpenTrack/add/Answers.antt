use Rattle.std.proofs.Common.{List, ap, ◌∙◌}
use Rattle.sf_tick.specs.declared.types.Stored.{Stored}
use Rattle.sf_gather.specs.Accepting.{last_from}
use Rattle.sf_file.proofs.Room.{grows_seen, sound_more}
use Rattle.sf_file.proofs.open_track.OpenTrack.add.Goals as goal

pub add_chunk-requires-clause-addable : goal.add_chunk-requires-clause-addable
add_chunk-requires-clause-addable c = (grows_seen c.args.place c.args.chunk.now c.self.view_is c.self.invariant c.requires.joins).addable

pub invariant_of-self : goal.invariant_of-self
invariant_of-self c =
    sound_more c.args.place c.args.chunk.now c.self.view_is c.self.invariant c.requires.joins c.add_chunk.ensures.rows c.add_chunk.ensures.first
    (c.last_after-self-inside.ensures ∙ ap (λ (ss : List Stored). last_from c.self.inside.last ss) c.as_slice.ensures)
