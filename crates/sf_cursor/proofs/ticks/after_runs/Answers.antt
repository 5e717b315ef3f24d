use Rattle.std.proofs.Common.{◌≡◌, ℕ, subst, arith}
use Rattle.sf_meaning.specs.declared.entries.TimeRun.{TimeRun}
use Rattle.sf_cursor.specs.inner.Sound.{Lasts}
use Rattle.sf_cursor.proofs.TickSums.{one_more_run}
use Rattle.sf_cursor.proofs.ticks.after_runs.Goals as goal

pub loop-k-preserved : goal.loop-k-preserved
loop-k-preserved c =
    let none : TimeRun = record { count = 0; delta = 0 } in
    record {
      low = omega (arith, c.loop-k.invariant.low);
      lasts = one_more_run c.args.runs.now c.loop-k.k none c.loop-k.lasting c.after_run-lasting.result (omega (arith, c.loop-k-test.true, c.requires.within)) c.loop-k.invariant.lasts
          c.after_run-lasting.ensures.left c.after_run-lasting.ensures.ticks c.after_run-lasting.ensures.bound;
    }

pub returns : goal.returns
returns c =
    let end : c.loop-k.k ≡ c.args.to = omega (arith, c.loop-k-test.false, c.loop-k.auto.k-end, c.requires.order) in
    subst (λ (k : ℕ). Lasts c.args.runs.now k c.loop-k.lasting) end c.loop-k.invariant.lasts
