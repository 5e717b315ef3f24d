use Rattle.std.proofs.Common.{◌≡◌, ◌-◌, ◌≤◌, length, drop}
use Rattle.sf_extract.specs.Plan.{commands_in, pieces, plan_of}
use Rattle.sf_extract.specs.inner.Words.{with_front}
use Rattle.sf_extract.proofs.plan_word.read_plan.Given as goal

abbrev pub invariant-loop-command : goal.invariant-loop-command
invariant-loop-command l = (l.at ≤ length l.bytes) × (with_front l.plan (commands_in l.at (pieces (drop l.at l.bytes))) ≡ plan_of l.bytes)

abbrev pub decreases-loop-command : goal.decreases-loop-command
decreases-loop-command l = length l.bytes - l.at
