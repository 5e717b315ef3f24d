use Rattle.std.proofs.Common.{◌-◌}
use Rattle.sf_avc.proofs.Golomb.{ZerosGo}
use Rattle.sf_avc.proofs.values.zeros.Given as goal

abbrev pub invariant-loop-bits : goal.invariant-loop-bits
invariant-loop-bits l = ZerosGo l.fn.bits l.zeros l.bits

abbrev pub decreases-loop-bits : goal.decreases-loop-bits
decreases-loop-bits l = 31 - l.zeros
