use Rattle.std.proofs.Common.{◌≡◌, ℕ, ◌*◌, ◌^◌, ◌<◌, ◌≤◌, length, take, sum, get_or}
use Rattle.sf_cursor.proofs.sums.each_sums.Given as goal

abbrev pub invariant-loop-block : goal.invariant-loop-block
invariant-loop-block l = record {
  long : length l.sums ≡ l.block;
  at : (k : ℕ) → k < length l.sums → get_or l.sums k 0 ≡ sum (take (16 * k) l.sizes);
  bounds : (k : ℕ) → k < length l.sums → get_or l.sums k 0 ≤ 16777216 * 2 ^ 32;
  total : l.total ≡ sum (take (16 * l.block) l.sizes);
  bound : l.total ≤ l.block * (16 * 2 ^ 32);
}
