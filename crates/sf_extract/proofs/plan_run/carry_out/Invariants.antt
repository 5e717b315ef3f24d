use Rattle.std.proofs.Common.{◌-◌, ◌≤◌, length, drop}
use Rattle.sf_extract.specs.Runs.{GoesOn}
use Rattle.sf_extract.proofs.plan_run.carry_out.Given as goal

abbrev pub invariant-loop-n : goal.invariant-loop-n
invariant-loop-n l =
    (l.n ≤ length l.plan) × GoesOn l.fn.out l.out (record { at = l.fn.extractor; left = drop l.from l.plan }) (record { at = l.extractor; left = drop l.n l.plan })

abbrev pub decreases-loop-n : goal.decreases-loop-n
decreases-loop-n l = length l.plan - l.n
