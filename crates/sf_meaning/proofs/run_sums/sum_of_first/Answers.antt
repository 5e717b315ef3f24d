use Rattle.std.proofs.Common.{◌≡◌, ℕ, ◌+◌, ◌-◌, ◌*◌, List, ◌∷◌, min, drop, take, sum, get_or, ap, ◌∙◌, arith}
use Rattle.std.proofs.lemmas.List.{drop_more}
use Rattle.sf_meaning.specs.inner.Entries.{time_runs}
use Rattle.sf_meaning.specs.Tables.{expand}
use Rattle.sf_meaning.specs.declared.entries.TimeRun.{TimeRun}
use Rattle.sf_meaning.proofs.SampleLemmas.{sum_run}
use Rattle.sf_meaning.proofs.run_sums.sum_of_first.Goals as goal

pub loop-run-preserved : goal.loop-run-preserved
loop-run-preserved c =
    let run : TimeRun = get_or c.args.runs.now c.loop-run.run-index (record { count = 0; delta = 0 }) in
    let some : ℕ = min c.loop-run.left run.count in
    let behind = time_runs (drop (c.loop-run.run-index + 1) c.args.runs.now) in
    let split : drop c.loop-run.run-index c.args.runs.now ≡ run ∷ drop (c.loop-run.run-index + 1) c.args.runs.now = drop_more c.args.runs.now c.loop-run.run-index (record { count = 0; delta = 0 }) c.loop-run-test.true in
    let step : sum (take c.loop-run.left (expand (time_runs (drop c.loop-run.run-index c.args.runs.now)))) ≡ some * run.delta + sum (take (c.loop-run.left - some) (expand behind)) =
    ap (λ (rs : List TimeRun). sum (take c.loop-run.left (expand (time_runs rs)))) split ∙ sum_run c.loop-run.left run.count run.delta (expand behind) in
    record {
      whole = rw (c.time_of-total.ensures.exact, c.min-some.ensures) (omega (arith, c.loop-run.invariant.whole, step));
      bound = omega (arith, c.loop-run.invariant.bound, c.loop-run.invariant.left, c.time_of-total.ensures.bound, c.min-some.ensures);
      left = omega (arith, c.loop-run.invariant.left);
    }
