use Rattle.std.proofs.Common.{ℕ, List, ◌∙◌, ◌++◌, ap, arith}
use Rattle.sf_avc.specs.Units.{after_code}
use Rattle.sf_avc.proofs.Storing.{all_units}
use Rattle.sf_avc.proofs.prefixed.put_units.Goals as goal

pub returns-clause-ok : goal.returns-clause-ok
returns-clause-ok c =
    c.loop-unit.invariant
    ∙ ap (λ (bytes : List ℕ). c.args.into.now ++ bytes) (all_units after_code c.args.stored.now c.args.units.now c.loop-unit.unit-index (grind arith))
