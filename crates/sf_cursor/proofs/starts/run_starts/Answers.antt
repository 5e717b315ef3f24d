use Rattle.std.proofs.Common.{◌≡◌, ℕ, ◌+◌, ◌<◌, List, length, take, sum, get_or, ap, ◌∙◌, arith}
use Rattle.std.proofs.lemmas.List.{length_push, length-map, get_or-map}
use Rattle.std.proofs.lemmas.List.Sums.{sum_by_more}
use Rattle.sf_meaning.specs.declared.entries.TimeRun.{TimeRun}
use Rattle.sf_cursor.specs.inner.Sound.{counts_of_runs}
use Rattle.sf_cursor.proofs.StartLemmas.{more_starts}
use Rattle.sf_cursor.proofs.starts.run_starts.Goals as goal

pub loop-run-preserved : goal.loop-run-preserved
loop-run-preserved c =
    let none : TimeRun = record { count = 0; delta = 0 } in
    let counts : List ℕ = counts_of_runs c.args.runs.now in
    let per : get_or counts c.loop-run.run-index 0 ≡ (get_or c.args.runs.now c.loop-run.run-index none).count = get_or-map (λ (r : TimeRun). r.count) c.args.runs.now c.loop-run.run-index none 0 (omega arith) in
    let there : c.loop-run.run-index < length counts = omega (arith, length-map c.args.runs.now (λ (r : TimeRun). r.count)) in
    let more : sum (take (c.loop-run.run-index + 1) counts) ≡ sum (take c.loop-run.run-index counts) + get_or counts c.loop-run.run-index 0 =
    sum_by_more (λ (x : ℕ). x) counts c.loop-run.run-index 0 there in
    record {
      long = rw c.in_ok-push.ensures.ok (length_push c.loop-run.starts c.loop-run.total ∙ ap (λ (n : ℕ). n + 1) c.loop-run.invariant.long);
      at = rw c.in_ok-push.ensures.ok (more_starts counts c.loop-run.starts c.loop-run.run-index c.loop-run.total c.loop-run.invariant.long c.loop-run.invariant.at c.loop-run.invariant.total);
      total = omega (arith, c.saturating_add-total.ensures, more, per, c.loop-run.invariant.total);
    }
