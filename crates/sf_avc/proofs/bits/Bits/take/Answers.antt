use Rattle.sf_avc.proofs.Taking.{taking_none, taking_bit, taking_short, taking_end}
use Rattle.sf_avc.proofs.bits.Bits.take.Goals as goal

pub loop-init : goal.loop-init
loop-init c = taking_none c.args.self.now

pub returns-in_err-next_bit-clause-taken : goal.returns-in_err-next_bit-clause-taken
returns-in_err-next_bit-clause-taken c =
    rw c.from_residual.ensures
    (taking_short c.args.self.now c.loop.counter c.loop.number c.args.count c.loop.self c.next_bit.new.self c.loop.invariant c.in_err-next_bit.ensures c.loop-test.true)

pub loop-preserved : goal.loop-preserved
loop-preserved c =
    rw c.from.ensures
    (taking_bit c.args.self.now c.loop.counter c.loop.number c.loop.self c.next_bit.new.self c.in_ok-next_bit.field-0 c.loop.invariant c.in_ok-next_bit.ensures)

pub returns-in_err-next_bit-clause-at : goal.returns-in_err-next_bit-clause-at
returns-in_err-next_bit-clause-at c =
    taking_end c.args.self.now c.loop.counter c.loop.number c.args.count c.loop.self c.next_bit.new.self c.loop.invariant c.in_err-next_bit.ensures c.loop-test.true
