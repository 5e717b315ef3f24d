use Rattle.std.proofs.Common.{◌≡◌, ℕ, ◌+◌, ◌-◌, ◌*◌, min, length, take, sum, get_or, refl, ap, ◌∙◌, arith}
use Rattle.std.proofs.lemmas.List.{length_push}
use Rattle.sf_cursor.specs.inner.Sound.{counts_in, no_run}
use Rattle.sf_cursor.proofs.ChunkStarts.{begins_at, next_start}
use Rattle.sf_cursor.proofs.StartLemmas.{more_at}
use Rattle.sf_cursor.proofs.chunks.chunk_starts.Goals as goal
use Rattle.sf_cursor.proofs.chunks.chunk_starts.Goals.{then-r-runs, else-r-runs}

pub loop-r-init : goal.loop-r-init
loop-r-init c =
    record {
      long = rw (c.from_vec-starts.ensures, c.in_ok-with_capacity.ensures.items) refl;
      at = λ k lt. absurd (omega (arith, ap length (c.from_vec-starts.ensures ∙ c.in_ok-with_capacity.ensures.items), lt));
      total = λ some. begins_at c.args.runs.now c.args.chunks c.requires some;
    }

pub loop-r-preserved : goal.loop-r-preserved
loop-r-preserved c =
    let per : ℕ = (get_or c.args.runs.now c.loop-r.r no_run).per in
    let is : c.loop-r.total ≡ min (sum (take ((get_or c.args.runs.now c.loop-r.r no_run).first - 1) (counts_in c.args.runs.now c.args.chunks))) 4294967295 =
    c.loop-r.invariant.total (omega (arith, c.loop-r-test.true)) in
    record {
      long = rw c.in_ok-push.ensures.ok (length_push c.loop-r.starts c.loop-r.total ∙ ap (λ (n : ℕ). n + 1) c.loop-r.invariant.long);
      at = rw c.in_ok-push.ensures.ok (more_at (λ (k : ℕ). min (sum (take ((get_or c.args.runs.now k no_run).first - 1) (counts_in c.args.runs.now c.args.chunks))) 4294967295)
          c.loop-r.starts c.loop-r.r c.loop-r.total c.loop-r.invariant.long c.loop-r.invariant.at is);
      total = λ lt. elim c.if-r-runs.branch [
        | then-r-runs w ↦
            w.total-is ∙ w.samples_after-total.ensures
            ∙ ap (λ (m : ℕ). min (c.loop-r.total + m * per) 4294967295) w.chunks_in.ensures
            ∙ next_start c.args.runs.now c.args.chunks c.loop-r.r c.loop-r.total c.requires is lt
        | else-r-runs w ↦ absurd (omega (arith, lt, w.if-r-runs.false))
      ];
    }
