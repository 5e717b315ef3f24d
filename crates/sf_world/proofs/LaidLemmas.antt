-- What a buffer of a range holds once a piece is laid over the bytes of which the range is a part.
use Rattle.std.proofs.Common.{inl, inr, ◌≡◌, ℕ, ◌+◌, ◌-◌, ◌≤◌, ◌<◌, List, ◌++◌, length, take, drop, get_or, arith, sym, ap, ◌∙◌, length-drop, length-append}
use Rattle.std.proofs.lemmas.List.{length-take, get_or-drop, get_or-take}
use Rattle.std.proofs.lemmas.Bool.{cases_lt}
use Rattle.std.proofs.Math.Seq.{get_or-append_right}
use Rattle.std.proofs.lemmas.List.{get_or_append_left}
use Rattle.std.proofs.lemmas.Grind.{same_number_lists, elements}
use Rattle.std.proofs.lemmas.List.{drop-drop}
use borrow.Rule.Slice.PartMut.{put_mid}
use Rattle.std.specs.Prelude.{min, max}
use Rattle.sf_world.specs.Holes.{over}

-- bytes of the piece
over_within : (bytes piece : List ℕ) (place : ℕ) → place + length piece ≤ length bytes → (i : ℕ) → place ≤ i → i < place + length piece
    → get_or (over bytes place piece) i 0 ≡ get_or piece (i - place) 0
over_within bytes piece place lies i le lt = grind (arith, elements)

-- bytes before it
over_before : (bytes piece : List ℕ) (place : ℕ) → place + length piece ≤ length bytes → (i : ℕ) → i < place
    → get_or (over bytes place piece) i 0 ≡ get_or bytes i 0
over_before bytes piece place lies i lt = grind (arith, elements)

-- and after it
over_after : (bytes piece : List ℕ) (place : ℕ) → place + length piece ≤ length bytes → (i : ℕ) → place + length piece ≤ i
    → get_or (over bytes place piece) i 0 ≡ get_or bytes i 0
over_after bytes piece place lies i le = grind (arith, elements)

-- a byte of what stands in a range of the bytes
in_range : (bytes : List ℕ) (at n k : ℕ) → k < n → get_or (take n (drop at bytes)) k 0 ≡ get_or bytes (at + k) 0
in_range bytes at n k lt = get_or-take n (drop at bytes) k 0 lt ∙ get_or-drop at bytes k 0

-- a byte of three lists, one after the other
first_of : (a b c : List ℕ) (k : ℕ) → k < length a → get_or (a ++ (b ++ c)) k 0 ≡ get_or a k 0
first_of a b c k lt = get_or_append_left a (b ++ c) 0 k lt

second_of : (a b c : List ℕ) (k : ℕ) → length a ≤ k → k < length a + length b → get_or (a ++ (b ++ c)) k 0 ≡ get_or b (k - length a) 0
second_of a b c k le lt = get_or-append_right a (b ++ c) k 0 le ∙ get_or_append_left b c 0 (k - length a) (omega (arith, le, lt))

third_of : (a b c : List ℕ) (k : ℕ) → length a + length b ≤ k → get_or (a ++ (b ++ c)) k 0 ≡ get_or c (k - length a - length b) 0
third_of a b c k le = get_or-append_right a (b ++ c) k 0 (omega (arith, le)) ∙ get_or-append_right b c (k - length a) 0 (omega (arith, le))

-- where the piece and the range have bytes in common
pub laid_part : (bytes piece : List ℕ) (place at n from end : ℕ) → at + n ≤ length bytes → place + length piece ≤ length bytes
    → from ≡ max place at → end ≡ min (place + length piece) (at + n) → from < end
    → take (from - at) (take n (drop at bytes)) ++ (take (end - from) (drop (from - place) piece) ++ drop (end - at) (take n (drop at bytes)))
    ≡ take n (drop at (over bytes place piece))
laid_part bytes piece place at n from end fits lies f e l =
    let range : List ℕ = take n (drop at bytes) in
    let a : List ℕ = take (from - at) range in
    let b : List ℕ = take (end - from) (drop (from - place) piece) in
    let c : List ℕ = drop (end - at) range in
    let lr : length range ≡ n = omega (arith, length-take n (drop at bytes), length-drop at bytes) in
    let la : length a ≡ from - at = omega (arith, length-take (from - at) range) in
    let lb : length b ≡ end - from = omega (arith, length-take (end - from) (drop (from - place) piece), length-drop (from - place) piece) in
    let lc : length c ≡ n - (end - at) = omega (arith, length-drop (end - at) range) in
    let lw : length (over bytes place piece) ≡ length bytes = grind (arith, elements) in
    same_number_lists (a ++ (b ++ c)) (take n (drop at (over bytes place piece)))
    (omega (arith, length-append a (b ++ c), length-append b c, length-take n (drop at (over bytes place piece)), length-drop at (over bytes place piece)))
    (λ k k<.
    let lt : k < n = omega (arith, k<, length-append a (b ++ c), length-append b c) in
    let there : get_or (take n (drop at (over bytes place piece))) k 0 ≡ get_or (over bytes place piece) (at + k) 0 = in_range (over bytes place piece) at n k lt in
    elim (cases_lt k (from - at)) [
      | inl before ↦
          first_of a b c k (omega (arith, before, la))
          ∙ get_or-take (from - at) range k 0 before
          ∙ in_range bytes at n k lt
          ∙ sym (over_before bytes piece place lies (at + k) (omega (arith, before, f)))
          ∙ sym there
      | inr from_on ↦
          elim (cases_lt k (end - at)) [
            | inl within ↦
                second_of a b c k (omega (arith, from_on, la)) (omega (arith, within, la, lb))
                ∙ get_or-take (end - from) (drop (from - place) piece) (k - length a) 0 (omega (arith, within, la, from_on))
                ∙ get_or-drop (from - place) piece (k - length a) 0
                ∙ ap (λ (i : ℕ). get_or piece i 0) (omega (arith, la, from_on, f))
                ∙ sym (over_within bytes piece place lies (at + k) (omega (arith, from_on, f)) (omega (arith, within, e)))
                ∙ sym there
            | inr after ↦
                third_of a b c k (omega (arith, after, la, lb))
                ∙ get_or-drop (end - at) range (k - length a - length b) 0
                ∙ ap (λ (i : ℕ). get_or range i 0) (omega (arith, after, la, lb, l, f))
                ∙ in_range bytes at n k lt
                ∙ sym (over_after bytes piece place lies (at + k) (omega (arith, after, e, lt, l, f)))
                ∙ sym there
          ]
    ])

-- where they have none
pub laid_apart : (bytes piece : List ℕ) (place at n : ℕ) → at + n ≤ length bytes → place + length piece ≤ length bytes
    → min (place + length piece) (at + n) ≤ max place at
    → take n (drop at bytes) ≡ take n (drop at (over bytes place piece))
laid_apart bytes piece place at n fits lies l =
    same_number_lists _ _ (grind (arith, elements)) (λ k k<. grind (arith, elements))

-- the same, as a buffer is copied to: `part` is what the piece has of the range
pub laid_over : (bytes piece range part : List ℕ) (place at from end : ℕ) → at + length range ≤ length bytes → place + length piece ≤ length bytes
    → range ≡ take (length range) (drop at bytes) → from ≡ max place at → end ≡ min (place + length piece) (at + length range) → from < end
    → part ≡ take (end - place - (from - place)) (drop (from - place) piece)
    → put_mid (from - at) (end - at - (from - at)) range part ≡ take (length range) (drop at (over bytes place piece))
laid_over bytes piece range part place at from end fits lies holds f e l p =
    ap (λ (rest : List ℕ). take (from - at) range ++ (part ++ rest)) (drop-drop (end - at - (from - at)) (from - at) range)
    ∙ ap (λ (i : ℕ). take (from - at) range ++ (part ++ drop i range)) (omega (arith, f, l))
    ∙ ap (λ (these : List ℕ). take (from - at) range ++ (these ++ drop (end - at) range)) (p ∙ ap (λ (i : ℕ). take i (drop (from - place) piece)) (omega (arith, f, l)))
    ∙ ap (λ (r : List ℕ). take (from - at) r ++ (take (end - from) (drop (from - place) piece) ++ drop (end - at) r)) holds
    ∙ laid_part bytes piece place at (length range) from end fits lies f e l
