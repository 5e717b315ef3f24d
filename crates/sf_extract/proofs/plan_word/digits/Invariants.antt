use Rattle.std.proofs.Common.{◌≡◌, ◌+◌, drop}
use Rattle.sf_extract.specs.Plan.{digits}
use Rattle.sf_extract.proofs.plan_word.digits.Given as goal

abbrev pub invariant-loop-i : goal.invariant-loop-i
invariant-loop-i l = l.i + digits (drop l.i l.bytes) ≡ digits l.bytes
