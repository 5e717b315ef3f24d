use Rattle.std.proofs.Common.{ℕ, set, get_or, ap, ◌∙◌, arith}
use Rattle.std.proofs.lemmas.List.{map-set}
use Rattle.std.proofs.lemmas.Option.{slice_get-get_or}
use Rattle.sf_file.specs.Open.{HeldTrack, track_with}
use Rattle.sf_file.specs.inner.Tracks.{KeptTrack, held_in}
use Rattle.sf_file.proofs.OneMore.{held_at, with_set}
use Rattle.sf_file.proofs.tracks.add.Goals as goal

pub returns : goal.returns
returns c =
    let ks = c.args.tracks.now.items in
    let k : ℕ = c.args.chunk.now.track in
    let x : KeptTrack = get_or ks k c.index_mut.result.now in
    let read = slice_get-get_or ks k c.index_mut.result.now c.requires.track in
    map-set (λ (t : KeptTrack). t.held) ks k c.add.new.self
    ∙ ap (λ (t : HeldTrack). set (held_in ks) k t) (c.add.ensures ∙ ap (λ (t : KeptTrack). track_with t.held c.args.place c.args.chunk.now) c.index_mut.ensures.value)
    ∙ with_set 0 k (held_in ks) c.args.place c.args.chunk.now x.held (omega arith) (held_at ks k x read)
