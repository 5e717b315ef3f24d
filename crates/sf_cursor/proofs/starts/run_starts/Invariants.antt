use Rattle.std.proofs.Common.{◌≡◌, ℕ, ◌<◌, min, length, take, sum, get_or}
use Rattle.sf_cursor.specs.inner.Sound.{counts_of_runs}
use Rattle.sf_cursor.proofs.starts.run_starts.Given as goal

abbrev pub invariant-loop-run : goal.invariant-loop-run
invariant-loop-run l = record {
  long : length l.starts ≡ l.run-index;
  at : (k : ℕ) → k < length l.starts → get_or l.starts k 0 ≡ min (sum (take k (counts_of_runs l.runs))) 4294967295;
  total : l.total ≡ min (sum (take l.run-index (counts_of_runs l.runs))) 4294967295;
}
