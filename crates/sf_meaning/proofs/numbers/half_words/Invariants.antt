use Rattle.std.proofs.Common.{◌≡◌, ◌+◌, ◌-◌, ◌*◌, ◌++◌, drop}
use Rattle.sf_meaning.specs.SampleSizes.{half_words}
use Rattle.sf_meaning.proofs.numbers.half_words.Given as goal

abbrev pub invariant-loop-i : goal.invariant-loop-i
invariant-loop-i l = l.numbers.items ++ half_words (l.count - l.i) (drop (l.from + 2 * l.i) l.table) ≡ half_words l.count (drop l.from l.table)
