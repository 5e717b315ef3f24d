use Rattle.std.proofs.Common.{◌≡◌, ℕ, ap, sym, refl, ◌∙◌, Err, rules, arith, ◌-◌, ◌+◌, ◌*◌, ◌^◌, ◌%◌}
use Rattle.sf_avc.specs.declared.sps.SpsFault.TheVariants.{ValueTooLarge}
use Rattle.sf_avc.specs.Sps.{value}
use Rattle.sf_avc.specs.inner.Values.{total}
use Rattle.sf_avc.proofs.Golomb.{value_cut, value_read, value_large}
use Rattle.sf_avc.proofs.values.value.Goals as goal

pub returns-in_err-number-clause-gives : goal.returns-in_err-number-clause-gives
returns-in_err-number-clause-gives c =
    let cut : value (total c.args.bits.now) c.args.max c.args.bits.now.bits ≡ Err c.in_err-number.field-0.0 =
    value_cut c.args.bits.now c.zeros.new.bits c.fixed.new.bits c.args.max c.in_ok-zeros.zeros c.in_err-number.field-0.0 c.in_ok-zeros.ensures c.in_err-number.ensures.gives in
    search rules

pub returns-then-value-from-clause-gives : goal.returns-then-value-from-clause-gives
returns-then-value-from-clause-gives c =
    value_large c.args.bits.now c.zeros.new.bits c.fixed.new.bits c.args.max c.in_ok-zeros.zeros c.in_ok-number.number
    (1 * 2 ^ c.in_ok-zeros.zeros % 2 ^ 32 - 1 + c.in_ok-number.number) c.in_ok-zeros.ensures c.in_ok-number.ensures.gives refl (omega arith)
    ∙ ap (λ (bit : ℕ). Err (ValueTooLarge bit)) (sym c.at-bit.ensures)

pub returns-clause-gives : goal.returns-clause-gives
returns-clause-gives c =
    value_read c.args.bits.now c.zeros.new.bits c.fixed.new.bits c.args.max c.in_ok-zeros.zeros c.in_ok-number.number
    (1 * 2 ^ c.in_ok-zeros.zeros % 2 ^ 32 - 1 + c.in_ok-number.number) c.in_ok-zeros.ensures c.in_ok-number.ensures.gives refl (omega arith)
