use Rattle.std.proofs.Common.{◌≤◌}
use Rattle.sf_cursor.specs.inner.Sound.{Lasts}
use Rattle.sf_cursor.proofs.ticks.after_runs.Given as goal

abbrev pub invariant-loop-k : goal.invariant-loop-k
invariant-loop-k l = record {
  low : l.from ≤ l.k;
  lasts : Lasts l.runs l.k l.lasting;
}
