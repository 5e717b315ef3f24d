use Rattle.std.proofs.Common.{◌≡◌, ℕ, ◌+◌, ◌*◌, ◌≤◌, List, length, take, drop, sum, replicate, sym, ap, ◌∙◌, arith}
use Rattle.std.proofs.lemmas.List.{length-replicate}
use Rattle.sf_meaning.specs.ReadTables.{sizes_view}
use Rattle.sf_cursor.proofs.RunValues.{sum-same}
use Rattle.sf_cursor.proofs.ChunkSums.{sum-take}
use Rattle.sf_cursor.proofs.SizeSums.{sum-more}
use Rattle.sf_cursor.proofs.sums.bytes_of.Goals as goal

pub returns-in-Same : goal.returns-in-Same
returns-in-Same c =
    let same : sizes_view c.args.sizes.now ≡ replicate c.in-Same.count c.in-Same.size = ap sizes_view c.in-Same.is in
    let long : length (sizes_view c.args.sizes.now) ≡ c.in-Same.count = ap (λ (xs : List ℕ). length xs) same ∙ length-replicate c.in-Same.count c.in-Same.size in
    let all : sum (take c.args.count (drop c.args.from (sizes_view c.args.sizes.now))) ≡ c.args.count * c.in-Same.size =
    ap (λ (xs : List ℕ). sum (take c.args.count (drop c.args.from xs))) same
    ∙ sum-same c.in-Same.count c.args.from c.args.count c.in-Same.size (omega (arith, long, c.requires.within)) in
    rw (c.from.ensures, c.from-in-Same.ensures) (sym all)

pub overflow_sub-result : goal.overflow_sub-result
overflow_sub-result c =
    let xs : List ℕ = c.in-Each.sizes in
    let low : sum (take c.args.from xs) ≤ sum (take (c.args.from + c.args.count) xs) = sum-take xs c.args.from (c.args.from + c.args.count) (omega arith) in
    omega (arith, low, c.sum_before.ensures, c.sum_before-end.ensures)

pub returns-in-Each : goal.returns-in-Each
returns-in-Each c =
    let xs : List ℕ = c.in-Each.sizes in
    let more : sum (take (c.args.from + c.args.count) xs) ≡ sum (take c.args.from xs) + sum (take c.args.count (drop c.args.from xs)) = sum-more xs c.args.from c.args.count in
    let here : sizes_view c.args.sizes.now ≡ xs = ap sizes_view c.in-Each.is in
    let part : sum (take c.args.count (drop c.args.from (sizes_view c.args.sizes.now))) ≡ sum (take c.args.count (drop c.args.from xs)) =
    ap (λ (ys : List ℕ). sum (take c.args.count (drop c.args.from ys))) here in
    omega (arith, more, part, c.sum_before.ensures, c.sum_before-end.ensures)
