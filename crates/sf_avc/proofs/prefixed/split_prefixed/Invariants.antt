use Rattle.std.proofs.Common.{◌-◌, length}
use Rattle.sf_avc.proofs.Tiling.{Tiled}
use Rattle.sf_avc.proofs.prefixed.split_prefixed.Given as goal

abbrev pub invariant-loop-at : goal.invariant-loop-at
invariant-loop-at l = Tiled l.width l.stored l.units l.at

abbrev pub decreases-loop-at : goal.decreases-loop-at
decreases-loop-at l = length l.stored - l.at
