use Rattle.std.proofs.Common.{◌≡◌, ℕ, ◌+◌, ◌<◌, List, length, drop, sym, subst, arith}
use Rattle.std.specs.Prelude.{get_or}
use Rattle.sf_extract.specs.declared.plan.Command.{Command}
use Rattle.sf_app.specs.Plans.{plans_from}
use Rattle.sf_app.specs.declared.status.Status.{Status}
use Rattle.sf_app.specs.inner.Extraction.{NotRead, after}
use Rattle.sf_app.proofs.Plans.{all_plans, no_plan, one_more_plan}
use Rattle.sf_app.proofs.extract.read_plans.Goals as goal

pub returns-in-Err-clause-read : goal.returns-in-Err-clause-read
returns-in-Err-clause-read c =
    let words : List (List ℕ) = c.args.words.now in
    let n : ℕ = c.loop-number.number in
    let lt : n < length c.args.words.now = c.loop-number-test.true in
    let x = c.index-words-number.result in
    let named : c.as_str.result.now ≡ x = c.as_str.ensures in
    let is : get_or words n c.as_str.result.now ≡ c.as_str.result.now = subst (λ (w : List ℕ). get_or words n w ≡ w) (sym named) (sym c.index-words-number.is) in
    subst (λ (s : Status). NotRead (plans_from 0 words) s) (sym c.unread.ensures)
    (no_plan words n c.as_str.result.now c.in-Err.fault c.loop-number.plans.items (omega (arith, lt)) is c.in-Err.ensures c.loop-number.invariant.read)

pub loop-number-preserved : goal.loop-number-preserved
loop-number-preserved c =
    let words : List (List ℕ) = c.args.words.now in
    let n : ℕ = c.loop-number.number in
    let lt : n < length c.args.words.now = c.loop-number-test.true in
    let x = c.index-words-number.result in
    let named : c.as_str.result.now ≡ x = c.as_str.ensures in
    let is : get_or words n c.as_str.result.now ≡ c.as_str.result.now = subst (λ (w : List ℕ). get_or words n w ≡ w) (sym named) (sym c.index-words-number.is) in
    record {
      read =
          subst (λ (ps : List (List Command)). after ps (plans_from (n + 1) (drop (n + 1) words)) ≡ plans_from 0 words) (sym c.push_reserved.ensures.items)
          (one_more_plan words n c.as_str.result.now c.in-Ok-read_plan.plan c.loop-number.plans.items (omega (arith, lt)) is c.in-Ok-read_plan.ensures c.loop-number.invariant.read);
      len = omega (arith, c.loop-number.invariant.len, c.push_reserved.ensures.len);
      room = omega (arith, c.loop-number.invariant.room, c.push_reserved.ensures.capacity);
    }

pub returns-clause-read : goal.returns-clause-read
returns-clause-read c =
    let words : List (List ℕ) = c.args.words.now in
    all_plans words c.loop-number.number c.loop-number.plans.items (omega (arith, c.loop-number-test.false)) c.loop-number.invariant.read
