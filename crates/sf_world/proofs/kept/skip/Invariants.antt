-- The chain that is left has so many files fewer.
use Rattle.std.proofs.Common.{◌≡◌, ◌+◌, length}
use Rattle.sf_world.specs.inner.Files.{files_of}
use Rattle.sf_world.proofs.kept.skip.Given as goal

abbrev pub invariant-loop : goal.invariant-loop
invariant-loop l = length (files_of l.rest) + l.counter ≡ length (files_of l.files)
