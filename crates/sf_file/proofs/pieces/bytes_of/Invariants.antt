use Rattle.std.proofs.Common.{◌≡◌, ◌≤◌, ◌*◌, ◌^◌, take, length}
use Rattle.sf_layout.specs.Layout.{stored_bytes}
use Rattle.sf_file.proofs.pieces.bytes_of.Given as goal

abbrev pub invariant-loop-sample : goal.invariant-loop-sample
invariant-loop-sample l = (l.total ≡ length (stored_bytes (take l.sample-index l.samples))) × (l.total ≤ 2 ^ 25 * l.sample-index)
