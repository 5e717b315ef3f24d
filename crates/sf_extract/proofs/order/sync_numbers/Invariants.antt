use Rattle.std.proofs.Common.{◌≡◌, ◌++◌, drop}
use Rattle.sf_movie.specs.Loaded.{sync_samples}
use Rattle.sf_extract.proofs.order.sync_numbers.Given as goal

abbrev pub invariant-loop-k : goal.invariant-loop-k
invariant-loop-k l = l.numbers.items ++ drop l.k (sync_samples l.movie.movie l.t) ≡ sync_samples l.movie.movie l.t
