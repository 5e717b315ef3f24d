-- How many bytes some samples have, by the sums before them.
use Rattle.std.proofs.Common.{◌≡◌, ℕ, ◌+◌, ◌-◌, ◌≤◌, min, List, length, take, drop, sum, sym, ap, ◌∙◌, arith, inl, inr}
use Rattle.std.proofs.Math.Seq.{take-add}
use Rattle.std.proofs.lemmas.Bool.{cases_lt}
use Rattle.std.proofs.lemmas.List.{length-drop, take_all}
use Rattle.std.proofs.lemmas.List.Sums.{sum_by-append}

-- the first of a list, and some after them
pub sum-more : (xs : List ℕ) (m n : ℕ) → sum (take (m + n) xs) ≡ sum (take m xs) + sum (take n (drop m xs))
sum-more xs m n = ap sum (take-add m n xs) ∙ sum_by-append (λ (x : ℕ). x) (take m xs) (take n (drop m xs))

-- a part of a list that ends before the list does, or with it
pub part_is : (xs : List ℕ) (from n : ℕ) → from ≤ length xs → take (min (length xs) (from + n) - from) (drop from xs) ≡ take n (drop from xs)
part_is xs from n le =
    elim (cases_lt (length xs) (from + n)) [
      | inl short ↦
          let len : length (drop from xs) ≡ length xs - from = length-drop from xs in
          take_all (min (length xs) (from + n) - from) (drop from xs) (omega (arith, len, le, short))
          ∙ sym (take_all n (drop from xs) (omega (arith, len, le, short)))
      | inr long ↦
          let all : min (length xs) (from + n) - from ≡ n = omega (arith, long) in
          ap (λ (k : ℕ). take k (drop from xs)) all
    ]
