use Rattle.std.proofs.Common.{◌≡◌, take}
use Rattle.std.specs.List.{flat_map}
use Rattle.sf_avc.specs.Units.{unit_at}
use Rattle.sf_avc.specs.Stored.{after_length}
use Rattle.sf_avc.proofs.prefixed.prefix.Given as goal

abbrev pub invariant-loop-unit : goal.invariant-loop-unit
invariant-loop-unit l = l.out ≡ flat_map (λ u. after_length (unit_at l.payload u)) (take l.unit-index l.units)
