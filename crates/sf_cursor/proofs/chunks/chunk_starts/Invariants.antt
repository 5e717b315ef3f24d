use Rattle.std.proofs.Common.{◌≡◌, ℕ, ◌-◌, ◌<◌, min, length, take, sum, get_or}
use Rattle.sf_cursor.specs.inner.Sound.{counts_in, no_run}
use Rattle.sf_cursor.proofs.chunks.chunk_starts.Given as goal

abbrev pub invariant-loop-r : goal.invariant-loop-r
invariant-loop-r l = record {
  long : length l.starts ≡ l.r;
  at : (k : ℕ) → k < length l.starts → get_or l.starts k 0 ≡ min (sum (take ((get_or l.runs k no_run).first - 1) (counts_in l.runs l.chunks))) 4294967295;
  total : l.r < length l.runs → l.total ≡ min (sum (take ((get_or l.runs l.r no_run).first - 1) (counts_in l.runs l.chunks))) 4294967295;
}
