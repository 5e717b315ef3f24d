use Rattle.std.proofs.Common.{◌≡◌, take}
use Rattle.sf_layout.specs.Layout.{stored_bytes}
use Rattle.sf_file.proofs.pieces.chunk_bytes.Given as goal

abbrev pub invariant-loop-sample : goal.invariant-loop-sample
invariant-loop-sample l = l.out ≡ stored_bytes (take l.sample-index l.samples)
