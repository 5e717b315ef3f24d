use Rattle.std.proofs.Common.{drop}
use Rattle.sf_gather.specs.Proper.{AllFollow}
use Rattle.sf_gather.proofs.following.all_follow.Given as goal

abbrev pub invariant-loop-sample : goal.invariant-loop-sample
invariant-loop-sample l = (AllFollow l.scale l.before (drop l.sample-index l.samples) → AllFollow l.scale l.fn.last l.samples) × (AllFollow l.scale l.fn.last l.samples → AllFollow l.scale l.before (drop l.sample-index l.samples))
