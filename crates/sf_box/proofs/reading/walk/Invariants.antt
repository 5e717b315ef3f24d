use Rattle.std.proofs.Common.{length}
use Rattle.sf_box.proofs.Heads.{Walk}
use Rattle.sf_box.proofs.reading.walk.Given as goal

abbrev pub invariant-loop-rest : goal.invariant-loop-rest
invariant-loop-rest l = Walk l.base l.bytes l.heads l.at l.rest

abbrev pub decreases-loop-rest : goal.decreases-loop-rest
decreases-loop-rest l = length l.rest
