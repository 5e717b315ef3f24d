use Rattle.std.proofs.Common.{◌+◌, length, take, List, Ok, drop, arith, inr, sym, ap, ◌∙◌}
use Rattle.sf_extract.specs.Plan.{commands_in, pieces, plan_of}
use Rattle.sf_extract.specs.inner.Words.{with_front}
use Rattle.sf_extract.specs.declared.plan.Command.{Command}
use Rattle.sf_extract.proofs.WordLemmas.{IsCut, none_after, plan_begin, plan_end, plan_place, plan_step, some_after, plan_wrong}
use Rattle.sf_extract.proofs.plan_word.read_plan.Goals as goal

pub loop-command-init : goal.loop-command-init
loop-command-init c = (omega arith, rw c.new-plan.ensures (plan_begin c.as_bytes-bytes.result.now))

pub returns-in-Err : goal.returns-in-Err
returns-in-Err c =
    let rest = c.split_at.result.1.now in
    let cut : IsCut c.as_bytes-bytes.result.now rest c.split_at-in-loop-command.result.0.now c.split_at-in-loop-command.result.1.now c.loop-command.at = record {
      rest = c.split_at.ensures.back;
      front = c.split_at-in-loop-command.ensures.front ∙ ap (λ n. take n rest) c.piece_len.ensures.exact;
      after = c.split_at-in-loop-command.ensures.back ∙ ap (λ n. drop n rest) c.piece_len.ensures.exact;
      fits = omega (arith, c.piece_len.ensures.exact, c.piece_len.ensures.most);
    } in
    inr (sym (ap plan_of c.as_bytes-bytes.ensures.value) ∙ plan_wrong c.as_bytes-bytes.result.now rest c.split_at-in-loop-command.result.0.now c.split_at-in-loop-command.result.1.now c.loop-command.at c.loop-command.plan c.in-Err.fault _ cut c.loop-command.invariant.1 (sym c.in-Err.ensures.exact))

pub returns-then-is_empty : goal.returns-then-is_empty
returns-then-is_empty c =
    let rest = c.split_at.result.1.now in
    let cut : IsCut c.as_bytes-bytes.result.now rest c.split_at-in-loop-command.result.0.now c.split_at-in-loop-command.result.1.now c.loop-command.at = record {
      rest = c.split_at.ensures.back;
      front = c.split_at-in-loop-command.ensures.front ∙ ap (λ n. take n rest) c.piece_len.ensures.exact;
      after = c.split_at-in-loop-command.ensures.back ∙ ap (λ n. drop n rest) c.piece_len.ensures.exact;
      fits = omega (arith, c.piece_len.ensures.exact, c.piece_len.ensures.most);
    } in
    sym (ap plan_of c.as_bytes-bytes.ensures.value)
    ∙ plan_end c.as_bytes-bytes.result.now rest c.split_at-in-loop-command.result.0.now c.split_at-in-loop-command.result.1.now c.loop-command.at c.loop-command.plan c.in-Ok.command _ cut c.loop-command.invariant.1 (sym c.in-Ok.ensures.exact)
    (none_after c.split_at-in-loop-command.result.1.now (sym c.is_empty.ensures ∙ c.if-is_empty.true))
    ∙ ap (λ (cs : List Command). Ok cs) (sym c.in_ok-push-in-Ok.ensures.ok)

pub loop-command-preserved : goal.loop-command-preserved
loop-command-preserved c =
    let rest = c.split_at.result.1.now in
    let cut : IsCut c.as_bytes-bytes.result.now rest c.split_at-in-loop-command.result.0.now c.split_at-in-loop-command.result.1.now c.loop-command.at = record {
      rest = c.split_at.ensures.back;
      front = c.split_at-in-loop-command.ensures.front ∙ ap (λ n. take n rest) c.piece_len.ensures.exact;
      after = c.split_at-in-loop-command.ensures.back ∙ ap (λ n. drop n rest) c.piece_len.ensures.exact;
      fits = omega (arith, c.piece_len.ensures.exact, c.piece_len.ensures.most);
    } in
    let some = some_after c.split_at-in-loop-command.result.1.now (sym c.is_empty.ensures ∙ c.if-is_empty.false) in (
      plan_place c.as_bytes-bytes.result.now rest c.split_at-in-loop-command.result.0.now c.split_at-in-loop-command.result.1.now c.loop-command.at cut c.loop-command.invariant.0 some,
      ap (λ (cs : List Command). with_front cs (commands_in (c.loop-command.at + (length c.split_at-in-loop-command.result.0.now + 1)) (pieces (drop (c.loop-command.at + (length c.split_at-in-loop-command.result.0.now + 1)) c.as_bytes-bytes.result.now)))) c.in_ok-push-in-Ok.ensures.ok
          ∙ plan_step c.as_bytes-bytes.result.now rest c.split_at-in-loop-command.result.0.now c.split_at-in-loop-command.result.1.now c.loop-command.at c.loop-command.plan c.in-Ok.command _ cut c.loop-command.invariant.1 (sym c.in-Ok.ensures.exact) some,
    )
