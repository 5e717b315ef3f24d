use Rattle.std.proofs.Common.{◌≡◌, ◌+◌, ◌-◌, ◌*◌, ◌++◌, drop}
use Rattle.sf_meaning.specs.inner.Entries.{time_runs}
use Rattle.sf_meaning.specs.Tables.{run_pairs}
use Rattle.sf_meaning.proofs.stts.time_runs.Given as goal

abbrev pub invariant-loop-i : goal.invariant-loop-i
invariant-loop-i l = time_runs l.runs.items ++ run_pairs (l.count - l.i) (drop (8 + 8 * l.i) l.stts) ≡ run_pairs l.count (drop 8 l.stts)
