use Rattle.std.proofs.Common.{ℕ, ◌≤◌, length, get_or, ap, ◌∙◌}
use Rattle.std.proofs.lemmas.Result.{on_ok_weaker}
use Rattle.std.proofs.Math.Seq.{map-set_same}
use Rattle.std.proofs.lemmas.Option.{slice_get-get_or}
use Rattle.sf_file.specs.inner.Tracks.{KeptTrack}
use Rattle.sf_file.proofs.OneMore.{room_set}
use Rattle.sf_file.proofs.tracks.reserve.Goals as goal

pub returns-clause-held : goal.returns-clause-held
returns-clause-held c =
    map-set_same (λ (t : KeptTrack). t.held) c.args.tracks.now.items c.args.chunk.now.track c.reserve.new.self c.index_mut.result.now (c.reserve.ensures.held ∙ ap (λ (t : KeptTrack). t.held) c.index_mut.ensures.value)

pub returns-clause-room : goal.returns-clause-room
returns-clause-room c =
    let ks = c.args.tracks.now.items in
    let k : ℕ = c.args.chunk.now.track in
    let read = slice_get-get_or ks k c.index_mut.result.now c.requires in
    on_ok_weaker c.reserve.result (λ p. room_set ks k (get_or ks k c.index_mut.result.now) c.reserve.new.self (λ t. length c.args.chunk.now.samples ≤ t.spare) read p) c.reserve.ensures.room
