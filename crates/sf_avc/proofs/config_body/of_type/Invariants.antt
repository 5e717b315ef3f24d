use Rattle.std.proofs.Common.{◌≡◌, take, map}
use Rattle.std.specs.List.{All}
use Rattle.sf_avc.specs.Units.{unit_at, Within}
use Rattle.sf_avc.specs.ConfigBody.{of_type}
use Rattle.sf_avc.specs.inner.Sets.{sets_at}
use Rattle.sf_avc.proofs.config_body.of_type.Given as goal

abbrev pub invariant-loop-unit : goal.invariant-loop-unit
invariant-loop-unit l = (sets_at l.config l.kept ≡ of_type l.kind (map (unit_at l.config) (take l.unit-index l.units))) × All (Within l.config) l.kept
