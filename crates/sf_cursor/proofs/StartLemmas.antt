-- How many samples come before each of those that have so many.
use Rattle.std.proofs.Common.{◌≡◌, ℕ, ◌-◌, ◌<◌, ◌≤◌, min, List, [], ◌∷◌, ◌++◌, length, take, sum, get_or, refl, sym, ap, subst, ◌∙◌, arith, inl, inr}
use Rattle.std.proofs.lemmas.Bool.{cases_lt}
use Rattle.std.specs.List.Sorted.{IsNonDecreasingBy}
use Rattle.std.proofs.lemmas.List.Sorted.{IsNonDecreasingBy-from_default}
use Rattle.sf_cursor.specs.inner.Sound.{AreStarts}
use Rattle.sf_cursor.proofs.ChunkSums.{sum-take}
use Rattle.std.proofs.lemmas.List.{get_or_append_left, get_or-append_right, length_push}

-- one more at the end, by its index
pub more_at : (F : ℕ → ℕ) (xs : List ℕ) (i x : ℕ) → length xs ≡ i → ((k : ℕ) → k < length xs → get_or xs k 0 ≡ F k) → x ≡ F i
    → (k : ℕ) → k < length (xs ++ x ∷ []) → get_or (xs ++ x ∷ []) k 0 ≡ F k
more_at F xs i x long at is k lt =
    elim (cases_lt k (length xs)) [
      | inl before ↦ get_or_append_left xs (x ∷ []) 0 k before ∙ at k before
      | inr behind ↦
          let same : k ≡ i = omega (arith, length_push xs x, long, lt, behind) in
          let none : k - length xs ≡ 0 = omega (arith, same, long) in
          get_or-append_right xs (x ∷ []) (length xs) k 0 refl behind
          ∙ ap (λ (j : ℕ). get_or (x ∷ []) j 0) none ∙ is
          ∙ ap F (sym same)
    ]

-- one more at the end that is at most what its index says
pub more_below : (F : ℕ → ℕ) (xs : List ℕ) (i x : ℕ) → length xs ≡ i → ((k : ℕ) → k < length xs → get_or xs k 0 ≤ F k) → x ≤ F i
    → (k : ℕ) → k < length (xs ++ x ∷ []) → get_or (xs ++ x ∷ []) k 0 ≤ F k
more_below F xs i x long at is k lt =
    elim (cases_lt k (length xs)) [
      | inl before ↦
          let low : get_or xs k 0 ≤ F k = at k before in
          let same : get_or (xs ++ x ∷ []) k 0 ≡ get_or xs k 0 = get_or_append_left xs (x ∷ []) 0 k before in
          omega (arith, low, same)
      | inr behind ↦
          let here : i ≡ k = omega (arith, length_push xs x, long, lt, behind) in
          let none : k - length xs ≡ 0 = omega (arith, here, long) in
          let same : get_or (xs ++ x ∷ []) k 0 ≡ x =
          get_or-append_right xs (x ∷ []) (length xs) k 0 refl behind ∙ ap (λ (j : ℕ). get_or (x ∷ []) j 0) none in
          let low : x ≤ F k = subst (λ (j : ℕ). x ≤ F j) here is in
          omega (arith, low, same)
    ]

-- one more at the end that isn't too large
pub more_under : (most : ℕ) (xs : List ℕ) (x : ℕ) → ((k : ℕ) → k < length xs → get_or xs k 0 ≤ most) → x ≤ most
    → (k : ℕ) → k < length (xs ++ x ∷ []) → get_or (xs ++ x ∷ []) k 0 ≤ most
more_under most xs x at is k lt =
    elim (cases_lt k (length xs)) [
      | inl before ↦
          let low : get_or xs k 0 ≤ most = at k before in
          let same : get_or (xs ++ x ∷ []) k 0 ≡ get_or xs k 0 = get_or_append_left xs (x ∷ []) 0 k before in
          omega (arith, low, same)
      | inr behind ↦
          let none : k - length xs ≡ 0 = omega (arith, length_push xs x, lt, behind) in
          let same : get_or (xs ++ x ∷ []) k 0 ≡ x =
          get_or-append_right xs (x ∷ []) (length xs) k 0 refl behind ∙ ap (λ (j : ℕ). get_or (x ∷ []) j 0) none in
          omega (arith, is, same)
    ]

-- one more in front of which so many samples come
pub more_starts : (counts starts : List ℕ) (i total : ℕ) → length starts ≡ i
    → ((k : ℕ) → k < length starts → get_or starts k 0 ≡ min (sum (take k counts)) 4294967295) → total ≡ min (sum (take i counts)) 4294967295
    → (k : ℕ) → k < length (starts ++ total ∷ []) → get_or (starts ++ total ∷ []) k 0 ≡ min (sum (take k counts)) 4294967295
more_starts counts starts i total long at is = more_at (λ (k : ℕ). min (sum (take k counts)) 4294967295) starts i total long at is

-- the first one begins at 0
pub first_start : (counts starts : List ℕ) → AreStarts counts starts → 0 < length starts → get_or starts 0 0 ≡ 0
first_start counts starts a some =
    let at : get_or starts 0 0 ≡ min (sum (take 0 counts)) 4294967295 = a.at 0 some in
    at ∙ omega arith

-- none begins before an earlier one
pub starts_rise : (counts starts : List ℕ) → AreStarts counts starts → IsNonDecreasingBy (λ (x : ℕ). x) starts
starts_rise counts starts a =
    IsNonDecreasingBy-from_default (λ (x : ℕ). x) starts 0 (λ i j le lt.
    let low : get_or starts i 0 ≡ min (sum (take i counts)) 4294967295 = a.at i (omega (arith, le, lt)) in
    let high : get_or starts j 0 ≡ min (sum (take j counts)) 4294967295 = a.at j lt in
    omega (arith, low, high, sum-take counts i j le))

pub start_not_above : (counts starts : List ℕ) (j k : ℕ) → AreStarts counts starts → j ≤ k → k < length starts → get_or starts j 0 ≤ get_or starts k 0
start_not_above counts starts j k a le lt =
    let low : get_or starts j 0 ≡ min (sum (take j counts)) 4294967295 = a.at j (omega (arith, le, lt)) in
    let high : get_or starts k 0 ≡ min (sum (take k counts)) 4294967295 = a.at k lt in
    omega (arith, low, high, sum-take counts j k le)

-- one that begins by a sample begins after as many samples as the earlier ones have
pub begun_at : (counts starts : List ℕ) (i k : ℕ) → AreStarts counts starts → k < length starts → get_or starts k 0 ≤ i → i < 4294967295 → get_or starts k 0 ≡ sum (take k counts)
begun_at counts starts i k a there begun few =
    let at : get_or starts k 0 ≡ min (sum (take k counts)) 4294967295 = a.at k there in
    omega (arith, at, begun, few)

-- one that doesn't begin by a sample begins after it
pub begins_later : (counts starts : List ℕ) (i k : ℕ) → AreStarts counts starts → k < length starts → i < get_or starts k 0 → i < sum (take k counts)
begins_later counts starts i k a there later =
    let at : get_or starts k 0 ≡ min (sum (take k counts)) 4294967295 = a.at k there in
    omega (arith, at, later)
