-- Numbers that rise, and whether one is among them.
use Rattle.std.proofs.Common.{◌≡◌, ℕ, zero, suc, ◌<◌, ◌≤◌, ◌==◌, Bool, true, false, ◌&&◌, ltb, List, [], ◌∷◌, length, get_or, Result, Ok, Err, is_ok, refl, sym, arith, inl, inr}
use Rattle.std.specs.List.{list_any}
use Rattle.std.proofs.lemmas.Bool.{cases_lt, ltb-true, ne_eqb, eq-eqb}
use Rattle.std.proofs.lemmas.List.Folds.{list_any_at}
use Rattle.std.proofs.lemmas.List.Sorted.{searched}
use Rattle.std.specs.List.Sorted.{IsBinarySearchResult}
use Rattle.std.specs.Ordering.{nat_cmp}
use Rattle.sf_meaning.specs.Tables.{rising}

pub both : (a b : Bool) → (a && b) ≡ true → (a ≡ true) × (b ≡ true)
both true true e = (refl, refl)
both true false e = absurd (cc e)
both false b e = absurd (cc e)

-- numbers that rise above t are above it
pub above : (t : ℕ) (xs : List ℕ) (j : ℕ) → rising t xs ≡ true → j < length xs → t < get_or xs j 0
above t [] j up lt = absurd (omega (arith, lt))
above t (x ∷ xs) zero up lt = ltb-true t x ((both (ltb t x) (rising x xs) up).0)
above t (x ∷ xs) (suc j) up lt =
    let p = both (ltb t x) (rising x xs) up in
    let low : t < x = ltb-true t x p.0 in
    let high : x < get_or xs j 0 = above x xs j p.1 (omega (arith, lt)) in
    omega (arith, low, high)

pub none_falls : (t : ℕ) (xs : List ℕ) → rising t xs ≡ true → (i j : ℕ) → i ≤ j → j < length xs → get_or xs i 0 ≤ get_or xs j 0
none_falls t [] up i j le lt = absurd (omega (arith, lt))
none_falls t (x ∷ xs) up zero zero le lt = omega arith
none_falls t (x ∷ xs) up zero (suc j) le lt =
    let p = both (ltb t x) (rising x xs) up in
    let high : x < get_or xs j 0 = above x xs j p.1 (omega (arith, lt)) in
    omega (arith, high)
none_falls t (x ∷ xs) up (suc i) zero le lt = absurd (omega (arith, le))
none_falls t (x ∷ xs) up (suc i) (suc j) le lt =
    let p = both (ltb t x) (rising x xs) up in
    none_falls x xs p.1 i j (omega (arith, le)) (omega (arith, lt))

-- a number that stands among others
pub is_among : (xs : List ℕ) (x i : ℕ) → i < length xs → get_or xs i 0 ≡ x → list_any (λ n. n == x) xs ≡ true
is_among xs x i lt e = list_any_at (λ (n : ℕ). n == x) xs i 0 lt (eq-eqb (get_or xs i 0) x e)

-- a number that none of others is
pub is_none : (xs : List ℕ) (x : ℕ) → ((k : ℕ) → k < length xs → get_or xs k 0 ≡ x → ⊥) → list_any (λ n. n == x) xs ≡ false
is_none [] x others = refl
is_none (y ∷ xs) x others =
    let other : (y == x) ≡ false = ne_eqb y x (others 0 (omega arith)) in
    rw other (is_none xs x (λ k lt e. others (suc k) (omega (arith, lt)) e))

-- what a search in numbers that rise finds
pub is_found : (xs : List ℕ) (x : ℕ) (r : Result ℕ ℕ) → rising 0 xs ≡ true → IsBinarySearchResult (λ y. nat_cmp y x) xs r → is_ok r ≡ list_any (λ n. n == x) xs
is_found xs x (Ok i) up h =
    let s = searched xs x (Ok i) h (none_falls 0 xs up) in
    sym (is_among xs x i s.0 s.1)
is_found xs x (Err i) up h =
    let s = searched xs x (Err i) h (none_falls 0 xs up) in
    sym (is_none xs x (λ k lt e. elim (cases_lt k i) [
      | inl before ↦ let low : get_or xs k 0 < x = s.1 k before in absurd (omega (arith, low, e))
      | inr after ↦ let high : x < get_or xs k 0 = s.2 k after lt in absurd (omega (arith, high, e))
    ]))
