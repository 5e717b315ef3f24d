-- Both nodes go down the chain, one so many links ahead of the other, whose chain still holds the file.
use Rattle.std.proofs.Common.{◌≡◌, ◌+◌, length, slice_get}
use Rattle.sf_world.specs.inner.Files.{files_from, files_of}
use Rattle.sf_world.proofs.kept.file_at.Given as goal

abbrev pub invariant-loop-ahead : goal.invariant-loop-ahead
invariant-loop-ahead l = record {
  distance : length (files_from l.node) ≡ length (files_from l.ahead) + l.count;
  same : slice_get (files_of l.files) l.count ≡ slice_get (files_from l.node) l.count;
}
