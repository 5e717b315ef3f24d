use Rattle.std.proofs.Common.{◌≡◌, ◌+◌, ◌-◌, ◌*◌, ◌++◌, drop}
use Rattle.sf_meaning.specs.Tables.{wide_words}
use Rattle.sf_meaning.proofs.numbers.wide_words.Given as goal

abbrev pub invariant-loop-i : goal.invariant-loop-i
invariant-loop-i l = l.numbers.items ++ wide_words (l.count - l.i) (drop (l.from + 8 * l.i) l.table) ≡ wide_words l.count (drop l.from l.table)
