use Rattle.std.proofs.Common.{◌+◌, ◌-◌, ◌%◌, ◌∙◌, sym, arith}
use Rattle.sf_entry.proofs.LengthLemmas.{length_ends, length_last, length_more, length_none, small_length, length_grows}
use Rattle.sf_entry.proofs.esds.length.Goals as goal

pub returns-in_err-first : goal.returns-in_err-first
returns-in_err-first c =
    rw c.from_residual.ensures (sym (length_ends (4 - c.loop.counter) c.loop.number c.loop.rest.now c.in_err-first.ensures.cases) ∙ c.loop.invariant.so_far)

pub overflow_mul-number : goal.overflow_mul-number
overflow_mul-number c = let small = small_length c.loop.counter c.loop.number (omega arith) c.loop.invariant.small in omega (arith, small)

pub overflow_add-number : goal.overflow_add-number
overflow_add-number c = let small = small_length c.loop.counter c.loop.number (omega arith) c.loop.invariant.small in omega (arith, small, c.from.ensures)

pub returns-then-first-lt128 : goal.returns-then-first-lt128
returns-then-first-lt128 c =
    rw c.from.ensures
    (sym (length_last (4 - c.loop.counter) c.loop.number c.in_ok-first.first.now c.in_ok-first.more.now c.loop.rest.now c.in_ok-first.ensures.cases.0 (omega arith) c.if-first-lt128.true)
    ∙ c.loop.invariant.so_far)

pub loop-preserved : goal.loop-preserved
loop-preserved c =
    rw c.from.ensures
    (record {
      so_far = sym (length_more (4 - c.loop.counter) (4 - (c.loop.counter + 1)) c.loop.number c.in_ok-first.first.now c.in_ok-first.more.now c.loop.rest.now c.in_ok-first.ensures.cases.0 (omega arith) c.if-first-lt128.false)
          ∙ c.loop.invariant.so_far;
      small = length_grows c.loop.counter c.loop.number (c.in_ok-first.first.now % 128) c.loop.invariant.small (omega arith);
    })

pub returns : goal.returns
returns c = sym (length_none (4 - c.loop.counter) c.loop.number c.loop.rest.now (omega arith)) ∙ c.loop.invariant.so_far
