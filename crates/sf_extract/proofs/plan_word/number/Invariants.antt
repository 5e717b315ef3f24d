use Rattle.std.proofs.Common.{◌≡◌, drop}
use Rattle.sf_extract.specs.Plan.{number_after}
use Rattle.sf_extract.proofs.plan_word.number.Given as goal

abbrev pub invariant-loop-b : goal.invariant-loop-b
invariant-loop-b l = number_after l.number (drop l.b-index l.bytes) ≡ number_after 0 l.bytes
