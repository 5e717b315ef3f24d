use Rattle.std.proofs.Common.{◌≡◌, ℕ, ◌+◌, ◌*◌, ◌^◌, ◌≤◌, min, List, length, take, sum, sym, ap, ◌∙◌, subst, arith}
use Rattle.std.proofs.lemmas.List.{length_push}
use Rattle.sf_meaning.specs.ReadTables.{time_runs}
use Rattle.sf_meaning.specs.Tables.{expand}
use Rattle.sf_meaning.specs.declared.entries.TimeRun.{TimeRun}
use Rattle.sf_cursor.specs.inner.Sound.{Lasts, counts_of_runs}
use Rattle.sf_cursor.proofs.StartLemmas.{more_at, more_below}
use Rattle.sf_cursor.proofs.ticks.run_ticks.Goals as goal

pub after_runs-lasting-requires-clause-before : goal.after_runs-lasting-requires-clause-before
after_runs-lasting-requires-clause-before c =
    let here : min (16 * c.loop-block.block) (length c.args.runs.now) ≡ 16 * c.loop-block.block = omega (arith, c.loop-block-test.true) in
    subst (λ (k : ℕ). Lasts c.args.runs.now k c.loop-block.lasting) here c.loop-block.invariant.lasts

pub loop-block-preserved : goal.loop-block-preserved
loop-block-preserved c =
    let runs : List TimeRun = c.args.runs.now in
    let block : ℕ = c.loop-block.block in
    let here : min (16 * block) (length runs) ≡ 16 * block = omega (arith, c.loop-block-test.true) in
    let lasts : Lasts runs (16 * block) c.loop-block.lasting = subst (λ (k : ℕ). Lasts runs k c.loop-block.lasting) here c.loop-block.invariant.lasts in
    let is : c.loop-block.lasting.ticks ≡ sum (take (min (sum (take (16 * block) (counts_of_runs runs))) 16777216) (expand (time_runs runs))) =
    lasts.ticks ∙ ap (λ (n : ℕ). sum (take n (expand (time_runs runs)))) (sym lasts.counted) in
    let low : c.loop-block.lasting.ticks ≤ min (sum (take (16 * block) (counts_of_runs runs))) 16777216 * 2 ^ 32 = omega (arith, lasts.bound, lasts.counted) in
    let next : c.min-to.result ≡ min (16 * (block + 1)) (length runs) = omega (arith, c.min-to.ensures) in
    record {
      long = rw c.in_ok-push.ensures.ok (length_push c.loop-block.ticks c.loop-block.lasting.ticks ∙ ap (λ (n : ℕ). n + 1) c.loop-block.invariant.long);
      at = rw c.in_ok-push.ensures.ok (more_at (λ (b : ℕ). sum (take (min (sum (take (16 * b) (counts_of_runs runs))) 16777216) (expand (time_runs runs))))
          c.loop-block.ticks block c.loop-block.lasting.ticks c.loop-block.invariant.long c.loop-block.invariant.at is);
      bounds = rw c.in_ok-push.ensures.ok (more_below (λ (b : ℕ). min (sum (take (16 * b) (counts_of_runs runs))) 16777216 * 2 ^ 32)
          c.loop-block.ticks block c.loop-block.lasting.ticks c.loop-block.invariant.long c.loop-block.invariant.bounds low);
      lasts = subst (λ (k : ℕ). Lasts runs k c.after_runs-lasting.result) next c.after_runs-lasting.ensures;
    }
