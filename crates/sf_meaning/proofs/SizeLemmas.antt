-- Sizes that are read one after the other.
use Rattle.std.proofs.Common.{◌≡◌, ℕ, zero, suc, ◌+◌, ◌-◌, ◌*◌, ◌/◌, ◌%◌, ◌<◌, ◌≤◌, ◌==◌, min, inl, inr, List, [], ◌∷◌, length, take, drop, sum, get_or, refl, sym, ap, ◌∙◌, arith}
use Rattle.std.specs.List.{flat_map}
use Rattle.std.proofs.lemmas.List.{drop-drop, drop_more, get_or-take, length-take}
use Rattle.std.proofs.lemmas.List.Sums.{sum_by-cons}
use Rattle.sf_box.specs.Boxes.{word16}
use Rattle.sf_meaning.specs.SampleSizes.{both_halves, half_words, fields}
use Rattle.sf_meaning.specs.Tables.{words, wide_words}
use Rattle.sf_meaning.proofs.ListLemmas.{bool_tells}

pub half_word_step : (from : ℕ) (table : List ℕ) (n i : ℕ) → i < n
    → half_words (n - i) (drop (from + 2 * i) table) ≡ word16 (drop (from + 2 * i) table) ∷ half_words (n - (i + 1)) (drop (from + 2 * (i + 1)) table)
half_word_step from table n i lt =
    let k : n - i ≡ suc (n - (i + 1)) = omega arith in
    let next : (from + 2 * i) + 2 ≡ from + 2 * (i + 1) = omega arith in
    rw (k, drop-drop 2 (from + 2 * i) table, next) refl

-- as many numbers as are counted
pub length_words : (n : ℕ) (bytes : List ℕ) → length (words n bytes) ≡ n
length_words zero bytes = refl
length_words (suc n) bytes = ap (λ (k : ℕ). suc k) (length_words n (drop 4 bytes))

pub length_wide_words : (n : ℕ) (bytes : List ℕ) → length (wide_words n bytes) ≡ n
length_wide_words zero bytes = refl
length_wide_words (suc n) bytes = ap (λ (k : ℕ). suc k) (length_wide_words n (drop 8 bytes))

length_half_words : (n : ℕ) (bytes : List ℕ) → length (half_words n bytes) ≡ n
length_half_words zero bytes = refl
length_half_words (suc n) bytes = ap (λ (k : ℕ). suc k) (length_half_words n (drop 2 bytes))

-- the halves of bytes
pub length_both_halves : (bytes : List ℕ) → length (both_halves bytes) ≡ 2 * length bytes
length_both_halves [] = refl
length_both_halves (b ∷ bytes) = omega (arith, length_both_halves bytes)

halves_at : (bytes : List ℕ) (k : ℕ) → k < length bytes
    → (get_or (both_halves bytes) (2 * k) 0 ≡ get_or bytes k 0 / 16) × (get_or (both_halves bytes) (2 * k + 1) 0 ≡ get_or bytes k 0 % 16)
halves_at [] k lt = absurd (omega (arith, lt))
halves_at (b ∷ bytes) zero lt = (refl, refl)
halves_at (b ∷ bytes) (suc k) lt =
    let even : 2 * suc k ≡ suc (suc (2 * k)) = omega arith in
    let odd : 2 * suc k + 1 ≡ suc (suc (2 * k + 1)) = omega arith in
    let p = halves_at bytes k (omega (arith, lt)) in
    (ap (λ (n : ℕ). get_or (both_halves (b ∷ bytes)) n 0) even ∙ p.0, ap (λ (n : ℕ). get_or (both_halves (b ∷ bytes)) n 0) odd ∙ p.1)

pub half_within : (bytes : List ℕ) (i : ℕ) → i < length (both_halves bytes) → i / 2 < length bytes
half_within bytes i lt = omega (arith, lt, length_both_halves bytes)

pub high_half : (bytes : List ℕ) (i : ℕ) → i < length (both_halves bytes) → i % 2 ≡ 0 → get_or bytes (i / 2) 0 / 16 ≡ get_or (both_halves bytes) i 0
high_half bytes i lt even =
    let is : 2 * (i / 2) ≡ i = omega (arith, even) in
    sym (halves_at bytes (i / 2) (half_within bytes i lt)).0 ∙ ap (λ (n : ℕ). get_or (both_halves bytes) n 0) is

pub low_half : (bytes : List ℕ) (i : ℕ) → i < length (both_halves bytes) → (i % 2 ≡ 0 → ⊥) → get_or bytes (i / 2) 0 % 16 ≡ get_or (both_halves bytes) i 0
low_half bytes i lt odd =
    let is : 2 * (i / 2) + 1 ≡ i = omega (arith, odd) in
    sym (halves_at bytes (i / 2) (half_within bytes i lt)).1 ∙ ap (λ (n : ℕ). get_or (both_halves bytes) n 0) is

-- some of the halves
pub half_there : (bytes : List ℕ) (n i : ℕ) → i < length (take n (both_halves bytes)) → i < length (both_halves bytes)
half_there bytes n i lt = omega (arith, lt, length-take n (both_halves bytes))

pub half_on : (bytes : List ℕ) (n i x : ℕ) → i < length (take n (both_halves bytes)) → x ≡ get_or (both_halves bytes) i 0
    → drop i (take n (both_halves bytes)) ≡ x ∷ drop (i + 1) (take n (both_halves bytes))
half_on bytes n i x lt is =
    let all : List ℕ = take n (both_halves bytes) in
    let same : get_or all i 0 ≡ x = get_or-take n (both_halves bytes) i 0 (omega (arith, lt, length-take n (both_halves bytes))) ∙ sym is in
    drop_more all i 0 lt ∙ ap (λ (y : ℕ). y ∷ drop (i + 1) all) same

pub count_halves : (bytes : List ℕ) (n : ℕ) → length (take n (both_halves bytes)) ≡ min n (2 * length bytes)
count_halves bytes n = length-take n (both_halves bytes) ∙ ap (λ (m : ℕ). min n m) (length_both_halves bytes)

-- the sizes from one on
pub sizes_on : (xs : List ℕ) (i to x total all : ℕ) → i < to → drop i xs ≡ x ∷ drop (i + 1) xs → total + sum (take (to - i) (drop i xs)) ≡ all
    → (total + x) + sum (take (to - (i + 1)) (drop (i + 1) xs)) ≡ all
sizes_on xs i to x total all lt e h =
    let k : to - i ≡ suc (to - (i + 1)) = omega (arith, lt) in
    let split : take (to - i) (drop i xs) ≡ x ∷ take (to - (i + 1)) (drop (i + 1) xs) = rw (k, e) refl in
    let sums : sum (take (to - i) (drop i xs)) ≡ x + sum (take (to - (i + 1)) (drop (i + 1) xs)) =
    ap sum split ∙ sum_by-cons (λ (y : ℕ). y) x (take (to - (i + 1)) (drop (i + 1) xs)) in
    omega (arith, sums, h)

-- no more sizes than are counted
pub length_fields : (bits n : ℕ) (bytes : List ℕ) → length (fields bits n bytes) ≤ n
length_fields bits n bytes =
    elim (bool_tells (bits == 4)) [
      | inl t ↦ rw t (omega (arith, length-take n (flat_map (λ (b : ℕ). (b / 16) ∷ (b % 16) ∷ []) (take ((n + 1) / 2) bytes))))
      | inr f ↦
          elim (bool_tells (bits == 8)) [
            | inl t ↦ rw (f, t) (omega (arith, length-take n bytes))
            | inr g ↦ rw (f, g) (omega (arith, length_half_words n bytes))
          ]
    ]
