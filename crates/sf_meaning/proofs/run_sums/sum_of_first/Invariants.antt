use Rattle.std.proofs.Common.{◌≡◌, ◌+◌, ◌-◌, ◌*◌, ◌^◌, ◌≤◌, drop, take, sum}
use Rattle.sf_meaning.specs.inner.Entries.{time_runs}
use Rattle.sf_meaning.specs.Tables.{expand}
use Rattle.sf_meaning.proofs.run_sums.sum_of_first.Given as goal

abbrev pub invariant-loop-run : goal.invariant-loop-run
invariant-loop-run l = record {
  whole : l.total + sum (take l.left (expand (time_runs (drop l.run-index l.runs)))) ≡ sum (take l.count (expand (time_runs l.runs)));
  bound : l.total ≤ (l.count - l.left) * 2 ^ 32;
  left : l.left ≤ l.count;
}
