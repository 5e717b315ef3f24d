use Rattle.std.proofs.Common.{◌≡◌, drop}
use Rattle.sf_meaning.specs.Tables.{rising}
use Rattle.sf_meaning.proofs.stss.are_rising.Given as goal

abbrev pub invariant-loop-number : goal.invariant-loop-number
invariant-loop-number l = rising l.last (drop l.number-index l.numbers) ≡ rising 0 l.numbers
