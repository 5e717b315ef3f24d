use Rattle.std.proofs.Common.{ℕ, ◌^◌, List, length, map, refl, ap, ◌∙◌, arith}
use Rattle.sf_world.specs.Contents.{grown}
use Rattle.sf_file.specs.Open.{HeldTrack}
use Rattle.sf_file.proofs.ClosedFile.{each_entry, length_head, setups_fresh, sound_fresh, stands_fresh}
use Rattle.sf_file.proofs.out_file.OutFile.begin.Goals as goal

pub open_tracks-requires-clause-entries : goal.open_tracks-requires-clause-entries
open_tracks-requires-clause-entries g c = each_entry (2 ^ 27) c.args.setups.now c.requires.entries

pub invariant_of-result : goal.invariant_of-result
invariant_of-result g c = sound_fresh c.args.setups.now _ c.requires c.in-Ok.ensures (omega (arith, c.in_default-put.ensures.ok.size, ap length c.file_head.ensures, length_head 16))

pub returns-clause-stands : goal.returns-clause-stands
returns-clause-stands g c =
    stands_fresh c.args.setups.now c.in-Ok.ensures refl (c.in_default-put.ensures.ok.content ∙ ap (λ (b : List ℕ). grown (g.S.Sink.seen c.args.sink).content b) c.file_head.ensures)

pub returns-clause-setups : goal.returns-clause-setups
returns-clause-setups g c = ap (λ (ts : List HeldTrack). map (λ (t : HeldTrack). t.track.setup) ts) c.in-Ok.ensures ∙ setups_fresh c.args.setups.now
