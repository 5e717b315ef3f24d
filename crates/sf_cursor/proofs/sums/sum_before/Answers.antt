use Rattle.std.proofs.Common.{◌≡◌, ℕ, ◌+◌, ◌-◌, ◌*◌, ◌/◌, List, take, drop, sum, get_or, sym, ap, ◌∙◌, arith}
use Rattle.sf_cursor.proofs.SizeSums.{sum-more}
use Rattle.sf_cursor.proofs.sums.sum_before.Goals as goal

pub returns : goal.returns
returns c =
    let b : ℕ = c.args.i / 16 in
    let sizes : List ℕ = c.args.sizes.now in
    let at : get_or c.args.sums.now b 0 ≡ sum (take (16 * b) sizes) = c.requires.sums.at b (omega (arith, c.requires.sums.long, c.requires.within)) in
    let rest : 16 * b + (c.args.i - 16 * b) ≡ c.args.i = omega arith in
    let all : sum (take c.args.i sizes) ≡ sum (take (16 * b) sizes) + sum (take (c.args.i - 16 * b) (drop (16 * b) sizes)) =
    sym (ap (λ (n : ℕ). sum (take n sizes)) rest) ∙ sum-more sizes (16 * b) (c.args.i - 16 * b) in
    ap (λ (n : ℕ). n + c.sum.result) at ∙ ap (λ (n : ℕ). sum (take (16 * b) sizes) + n) c.sum.ensures.exact ∙ sym all
