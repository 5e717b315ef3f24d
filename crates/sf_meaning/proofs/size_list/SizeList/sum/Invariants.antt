use Rattle.std.proofs.Common.{◌≡◌, ◌+◌, ◌-◌, ◌*◌, ◌^◌, ◌≤◌, drop, sum, take}
use Rattle.sf_meaning.proofs.size_list.SizeList.sum.Given as goal

abbrev pub invariant-loop-i : goal.invariant-loop-i
invariant-loop-i l = record {
  low : l.from ≤ l.i;
  whole : l.total + sum (take (l.to - l.i) (drop l.i l.self)) ≡ sum (take (l.to - l.from) (drop l.from l.self));
  bound : l.total ≤ (l.i - l.from) * 2 ^ 32;
}
