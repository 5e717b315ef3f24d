use Rattle.std.proofs.Common.{[], ◌-◌}
use Rattle.sf_coded.specs.Progress.{HasRead}
use Rattle.sf_coded.proofs.tests.all_samples.Given as goal

abbrev pub invariant-loop-samples : goal.invariant-loop-samples
invariant-loop-samples g l =
    HasRead [] l.fn.coded → HasRead l.samples.items l.coded

abbrev pub decreases-loop-samples : goal.decreases-loop-samples
decreases-loop-samples g l = l.coded.source.size - l.coded.place
