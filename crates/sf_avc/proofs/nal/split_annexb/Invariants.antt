use Rattle.sf_avc.proofs.Walking.{Walk, left}
use Rattle.sf_avc.proofs.nal.split_annexb.Given as goal

abbrev pub invariant-loop-next : goal.invariant-loop-next
invariant-loop-next l = Walk l.payload l.units l.next

abbrev pub decreases-loop-next : goal.decreases-loop-next
decreases-loop-next l = left l.payload l.next
