use Rattle.std.proofs.Common.{ℕ, Bool, Some, Err, ap, sym, subst, ◌∙◌}
use Rattle.sf_avc.specs.declared.sps.SpsFault.TheVariants.{Truncated, ValueTooLarge}
use Rattle.sf_avc.specs.inner.Taking.{NextBit}
use Rattle.sf_avc.proofs.Golomb.{zeros_next, zeros_end, zeros_cut, zeros_many}
use Rattle.sf_avc.proofs.values.zeros.Goals as goal

pub loop-bits-preserved : goal.loop-bits-preserved
loop-bits-preserved c =
    zeros_next c.args.bits.now c.loop-bits.bits c.next_bit.new.self c.loop-bits.zeros c.loop-bits.invariant
    (subst (λ (bit : Bool). NextBit c.loop-bits.bits (Some bit) c.next_bit.new.self) c.in-Some-false.field-0-test c.in-Some-false.ensures) c.if-zeros-eq31.false

pub returns-in-None : goal.returns-in-None
returns-in-None c = λ max.
    zeros_cut c.args.bits.now c.loop-bits.bits c.next_bit.new.self c.loop-bits.zeros max c.loop-bits.invariant c.in-None.ensures
    ∙ ap (λ (bit : ℕ). Err (Truncated bit)) (sym c.at.ensures)

pub returns-in-Some-true : goal.returns-in-Some-true
returns-in-Some-true c =
    zeros_end c.args.bits.now c.loop-bits.bits c.next_bit.new.self c.loop-bits.zeros c.loop-bits.invariant
    (subst (λ (bit : Bool). NextBit c.loop-bits.bits (Some bit) c.next_bit.new.self) c.in-Some-true.field-0-test c.in-Some-true.ensures)

pub returns-then-zeros-eq31 : goal.returns-then-zeros-eq31
returns-then-zeros-eq31 c = λ max.
    zeros_many c.args.bits.now c.loop-bits.bits c.next_bit.new.self c.loop-bits.zeros max c.loop-bits.invariant
    (subst (λ (bit : Bool). NextBit c.loop-bits.bits (Some bit) c.next_bit.new.self) c.in-Some-false.field-0-test c.in-Some-false.ensures) c.if-zeros-eq31.true
    ∙ ap (λ (bit : ℕ). Err (ValueTooLarge bit)) (sym c.at-begin.ensures)
