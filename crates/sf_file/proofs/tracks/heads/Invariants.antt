use Rattle.std.proofs.Common.{◌≡◌, ◌*◌, ◌^◌, ◌≤◌, take, sum_by}
use Rattle.std.specs.List.{AllByRecursion}
use Rattle.sf_moov.specs.Heads.{HasEnd}
use Rattle.sf_file.specs.inner.Tracks.{heads_in, held_in}
use Rattle.sf_file.proofs.tracks.heads.Given as goal

abbrev pub invariant-loop-track : goal.invariant-loop-track
invariant-loop-track l =
    (l.heads.items ≡ heads_in l.start_us (held_in (take l.track-index l.tracks)))
    × AllByRecursion HasEnd l.heads.items
    × (sum_by (λ h. h.stbl_len) l.heads.items ≤ 2 ^ 41 * l.track-index)
