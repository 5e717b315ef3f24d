use Rattle.std.proofs.Common.{pos, ◌*ℤ◌, arith}
use Rattle.sf_tick.proofs.Floor.{quotient_above}
use Rattle.sf_tick.proofs.laws.greatest_us.Goals as goal

pub returns-clause-greatest : goal.returns-clause-greatest
returns-clause-greatest c y b = quotient_above (c.args.tick *ℤ pos 1000000) c.args.scale y (omega arith) b.before
