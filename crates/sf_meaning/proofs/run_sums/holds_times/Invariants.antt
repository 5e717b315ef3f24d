use Rattle.std.proofs.Common.{◌≡◌, nat_le, drop, length}
use Rattle.sf_meaning.specs.inner.Entries.{time_runs}
use Rattle.sf_meaning.specs.Tables.{expand}
use Rattle.sf_meaning.proofs.run_sums.holds_times.Given as goal

abbrev pub invariant-loop-run : goal.invariant-loop-run
invariant-loop-run l = nat_le l.left (length (expand (time_runs (drop l.run-index l.runs)))) ≡ nat_le l.count (length (expand (time_runs l.runs)))
