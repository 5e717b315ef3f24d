use Rattle.std.proofs.Common.{◌∙◌, arith}
use Rattle.sf_avc.specs.Stored.{after_length}
use Rattle.sf_avc.proofs.Storing.{all_units, stored_of}
use Rattle.sf_avc.proofs.prefixed.prefix.Goals as goal

pub returns-clause-bytes : goal.returns-clause-bytes
returns-clause-bytes c = c.loop-unit.invariant ∙ all_units after_length c.args.payload.now c.args.units.now c.loop-unit.unit-index (grind arith)

pub returns-clause-stored : goal.returns-clause-stored
returns-clause-stored c is =
    stored_of c.args.payload.now c.args.units.now c.loop-unit.out is
    (c.loop-unit.invariant ∙ all_units after_length c.args.payload.now c.args.units.now c.loop-unit.unit-index (grind arith))
