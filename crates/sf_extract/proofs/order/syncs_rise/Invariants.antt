use Rattle.std.proofs.Common.{ℕ, ◌<◌, ◌≤ℤ◌, get_or}
use Rattle.sf_movie.specs.Loaded.{sync_samples}
use Rattle.sf_extract.specs.inner.Orders.{SyncsRise, time_at}
use Rattle.sf_extract.proofs.order.syncs_rise.Given as goal

abbrev pub invariant-loop-k : goal.invariant-loop-k
invariant-loop-k l = SyncsRise l.movie.movie l.t l.k × ((i : ℕ) → i < l.k → time_at l.movie.movie l.t (get_or (sync_samples l.movie.movie l.t) i 0) ≤ℤ l.last)
