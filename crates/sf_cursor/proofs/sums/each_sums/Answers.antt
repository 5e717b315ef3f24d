use Rattle.std.proofs.Common.{◌≡◌, ℕ, ◌+◌, ◌*◌, ◌^◌, take, drop, sum, ap, ◌∙◌, sym, arith}
use Rattle.std.proofs.lemmas.List.{length_push}
use Rattle.sf_cursor.proofs.StartLemmas.{more_at, more_under}
use Rattle.sf_cursor.proofs.SizeSums.{sum-more}
use Rattle.sf_cursor.proofs.sums.each_sums.Goals as goal

pub loop-block-preserved : goal.loop-block-preserved
loop-block-preserved c =
    let b : ℕ = c.loop-block.block in
    let next : 16 * (b + 1) ≡ 16 * b + 16 = omega arith in
    record {
      long = rw c.in_ok-push.ensures.ok (length_push c.loop-block.sums c.loop-block.total ∙ ap (λ (n : ℕ). n + 1) c.loop-block.invariant.long);
      at = rw c.in_ok-push.ensures.ok (more_at (λ (k : ℕ). sum (take (16 * k) c.args.sizes.now)) c.loop-block.sums b c.loop-block.total c.loop-block.invariant.long c.loop-block.invariant.at c.loop-block.invariant.total);
      bounds = rw c.in_ok-push.ensures.ok (more_under (16777216 * 2 ^ 32) c.loop-block.sums c.loop-block.total c.loop-block.invariant.bounds (omega (arith, c.loop-block.invariant.bound)));
      total = rw c.block_sum.ensures.exact (ap (λ (n : ℕ). n + sum (take 16 (drop (16 * b) c.args.sizes.now))) c.loop-block.invariant.total
          ∙ sym (sum-more c.args.sizes.now (16 * b) 16) ∙ sym (ap (λ (n : ℕ). sum (take n c.args.sizes.now)) next));
      bound = omega (arith, c.loop-block.invariant.bound, c.block_sum.ensures.bound);
    }
