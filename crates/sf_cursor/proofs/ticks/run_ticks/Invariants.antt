use Rattle.std.proofs.Common.{◌≡◌, ℕ, ◌*◌, ◌^◌, ◌<◌, ◌≤◌, min, length, take, sum, get_or}
use Rattle.sf_meaning.specs.ReadTables.{time_runs}
use Rattle.sf_meaning.specs.Tables.{expand}
use Rattle.sf_cursor.specs.inner.Sound.{Lasts, counts_of_runs}
use Rattle.sf_cursor.proofs.ticks.run_ticks.Given as goal

abbrev pub invariant-loop-block : goal.invariant-loop-block
invariant-loop-block l = record {
  long : length l.ticks ≡ l.block;
  at : (b : ℕ) → b < length l.ticks → get_or l.ticks b 0 ≡ sum (take (min (sum (take (16 * b) (counts_of_runs l.runs))) 16777216) (expand (time_runs l.runs)));
  bounds : (b : ℕ) → b < length l.ticks → get_or l.ticks b 0 ≤ min (sum (take (16 * b) (counts_of_runs l.runs))) 16777216 * 2 ^ 32;
  lasts : Lasts l.runs (min (16 * l.block) (length l.runs)) l.lasting;
}
