-- Bytes without the zero bytes at their end.
use Rattle.std.proofs.Common.{◌≡◌, ◌≢◌, ℕ, suc, ◌-◌, ◌≤◌, ◌<◌, get_or, List, [], ◌∷◌, ◌++◌, length, take, refl, sym, ap, ◌∙◌, arith}
use Rattle.std.proofs.Math.Seq.{take-suc, take-length}
use Rattle.std.proofs.lemmas.Bool.{ne_eqb}
use Rattle.sf_avc.specs.Units.{kept_before, trimmed}

-- a zero byte at the end is taken away
pub trimmed_zero : (xs : List ℕ) → trimmed (xs ++ 0 ∷ []) ≡ trimmed xs
unfolding trimmed
trimmed_zero [] = refl
trimmed_zero (a ∷ xs) = ap (kept_before a) (trimmed_zero xs)

kept_some : (a : ℕ) (xs : List ℕ) (b : ℕ) → kept_before a (xs ++ b ∷ []) ≡ a ∷ (xs ++ b ∷ [])
kept_some a [] b = refl
kept_some a (c ∷ xs) b = refl

-- bytes that end with another byte stay
pub trimmed_last : (xs : List ℕ) (b : ℕ) → b ≢ 0 → trimmed (xs ++ b ∷ []) ≡ xs ++ b ∷ []
unfolding trimmed
trimmed_last [] b ne = rw (ne_eqb b 0 ne) refl
trimmed_last (a ∷ xs) b ne = ap (kept_before a) (trimmed_last xs b ne) ∙ kept_some a xs b

-- the first bytes, one after the others
last_of : (xs : List ℕ) (n : ℕ) → 0 < n → n ≤ length xs → take n xs ≡ take (n - 1) xs ++ get_or xs (n - 1) 0 ∷ []
last_of xs n some le =
    let e : n ≡ suc (n - 1) = omega arith in
    ap (λ (k : ℕ). take k xs) e ∙ take-suc xs (n - 1) 0 (omega arith)

-- one turn of the loop: the last byte is a zero byte
pub trims_one : (xs : List ℕ) (n : ℕ) → 0 < n → n ≤ length xs → get_or xs (n - 1) 0 ≡ 0 → trimmed xs ≡ trimmed (take n xs) → trimmed xs ≡ trimmed (take (n - 1) xs)
trims_one xs n some le z e =
    e ∙ ap trimmed (last_of xs n some le ∙ ap (λ (b : ℕ). take (n - 1) xs ++ b ∷ []) z) ∙ trimmed_zero (take (n - 1) xs)

-- the end of the loop: the last byte is another byte
pub trims_last : (xs : List ℕ) (n : ℕ) → 0 < n → n ≤ length xs → get_or xs (n - 1) 0 ≢ 0 → trimmed xs ≡ trimmed (take n xs) → trimmed xs ≡ take n xs
trims_last xs n some le ne e =
    let last = last_of xs n some le in
    e ∙ ap trimmed last ∙ trimmed_last (take (n - 1) xs) (get_or xs (n - 1) 0) ne ∙ sym last

-- the end of the loop: no byte is left
pub trims_all : (xs : List ℕ) (n : ℕ) → n ≡ 0 → trimmed xs ≡ trimmed (take n xs) → trimmed xs ≡ take n xs
unfolding trimmed
trims_all xs n none e = e ∙ rw none refl

-- the start of the loop
pub trims_begins : (xs : List ℕ) → trimmed xs ≡ trimmed (take (length xs) xs)
trims_begins xs = ap trimmed (sym (take-length xs))
