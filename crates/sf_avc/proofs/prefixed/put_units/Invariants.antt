use Rattle.std.proofs.Common.{◌≡◌, ◌++◌, take}
use Rattle.std.specs.List.{flat_map}
use Rattle.sf_avc.specs.Units.{unit_at}
use Rattle.sf_avc.specs.Units.{after_code}
use Rattle.sf_avc.proofs.prefixed.put_units.Given as goal

abbrev pub invariant-loop-unit : goal.invariant-loop-unit
invariant-loop-unit l = l.into ≡ l.fn.into ++ flat_map (λ u. after_code (unit_at l.stored u)) (take l.unit-index l.units)
