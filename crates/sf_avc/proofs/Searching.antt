-- The place that a search for 00 00 01 gives is where the pieces are cut.
use Rattle.std.proofs.Common.{◌≡◌, ℕ, zero, suc, ◌+◌, ◌-◌, ◌≤◌, ◌<◌, inl, inr, Bool, true, false, get_or, List, [], ◌∷◌, length, Option, Some, None, refl, sym, ap, ◌∙◌, subst, arith, add-zero}
use Rattle.std.proofs.lemmas.Bool.{cases_lt}
use Rattle.std.proofs.lemmas.Bool.Decides.{eqb_tells}
use Rattle.memchr.specs.Find.{OccursAt, FindsNeedle}
use Rattle.sf_avc.specs.Units.{is_code}
use Rattle.sf_avc.specs.inner.Units.{CutsAt}
use Rattle.sf_avc.proofs.Pieces.{Seeks, seeks_begins, seeks_on, seeks_found, seeks_none, pieces_few}

-- the bytes of a start code
abbrev pub code : List ℕ
code = 0 ∷ 0 ∷ 1 ∷ []

-- three bytes that are 00 00 01
are_code : (a b c : ℕ) → is_code a b c ≡ true → (a ≡ 0) × (b ≡ 0) × (c ≡ 1)
are_code a b c e =
    elim (eqb_tells a 0) [
      | inr p ↦ absurd (let other : is_code a b c ≡ false = rw p.0 refl in cc)
      | inl p ↦
          elim (eqb_tells b 0) [
            | inr q ↦ absurd (let other : is_code a b c ≡ false = rw (p.0, q.0) refl in cc)
            | inl q ↦
                elim (eqb_tells c 1) [
                  | inr r ↦ absurd (let other : is_code a b c ≡ false = rw (p.0, q.0, r.0) refl in cc)
                  | inl r ↦ (p.1, q.1, r.1)
                ]
          ]
    ]

reads_code : (xs : List ℕ) (at : ℕ) → get_or xs at 0 ≡ 0 → get_or xs (at + 1) 0 ≡ 0 → get_or xs (at + 2) 0 ≡ 1
    → (j : ℕ) → j < 3 → get_or xs (at + j) 0 ≡ get_or code j 0
reads_code xs at a b c zero lt = ap (λ (n : ℕ). get_or xs n 0) (add-zero at) ∙ a
reads_code xs at a b c (suc zero) lt = b
reads_code xs at a b c (suc (suc zero)) lt = c
reads_code xs at a b c (suc (suc (suc j))) lt = absurd (omega arith)

-- where the bytes are a start code, it occurs
code_occurs : (xs : List ℕ) (at : ℕ) → at + 3 ≤ length xs → is_code (get_or xs at 0) (get_or xs (at + 1) 0) (get_or xs (at + 2) 0) ≡ true → OccursAt xs code at
code_occurs xs at le e =
    let bytes = are_code (get_or xs at 0) (get_or xs (at + 1) 0) (get_or xs (at + 2) 0) e in
    record { fits = le; reads = reads_code xs at bytes.0 bytes.1 bytes.2 }

-- where it occurs, the bytes are a start code
occurs_code : (xs : List ℕ) (at : ℕ) → OccursAt xs code at → is_code (get_or xs at 0) (get_or xs (at + 1) 0) (get_or xs (at + 2) 0) ≡ true
occurs_code xs at o =
    let a : get_or xs at 0 ≡ 0 = ap (λ (n : ℕ). get_or xs n 0) (sym (add-zero at)) ∙ o.reads 0 (omega arith) in
    let b : get_or xs (at + 1) 0 ≡ 0 = o.reads 1 (omega arith) in
    let c : get_or xs (at + 2) 0 ≡ 1 = o.reads 2 (omega arith) in
    rw (a, b, c) refl

or_false : (b : Bool) → (b ≡ true → ⊥) → b ≡ false
or_false true never = absurd (never refl)
or_false false never = refl

-- no start code occurs before a place
seeks_to : (xs : List ℕ) (n : ℕ) → ((k : ℕ) → k < n → OccursAt xs code k → ⊥) → n + 2 ≤ length xs → Seeks xs n
seeks_to xs zero none le = seeks_begins xs
seeks_to xs (suc n) none le =
    let so_far : Seeks xs n = seeks_to xs n (λ k lt. none k (omega (arith, lt))) (omega (arith, le)) in
    let here : is_code (get_or xs n 0) (get_or xs (n + 1) 0) (get_or xs (n + 2) 0) ≡ false =
    or_false _ (λ e. none n (omega arith) (code_occurs xs n (omega (arith, le)) e)) in
    let next : Seeks xs (n + 1) = seeks_on xs n (omega (arith, le)) here so_far in
    let one : n + 1 ≡ suc n = omega arith in
    let P : ℕ → Type 0 = λ i. Seeks xs i in
    subst P one next

-- the first place of a start code is where the pieces are cut
pub cuts_at : (xs : List ℕ) (found : Option ℕ) → FindsNeedle xs code 0 found → CutsAt xs found
cuts_at xs None none =
    elim (cases_lt (length xs) 3) [
      | inl few ↦ pieces_few xs (omega (arith, few))
      | inr more ↦ seeks_none xs (length xs - 2) (omega arith) (seeks_to xs (length xs - 2) (λ k lt. none k (omega arith) (omega (arith, lt))) (omega (arith, more)))
    ]
cuts_at xs (Some at) first =
    let le : at + 3 ≤ length xs = first.1.fits in (
      le,
      seeks_found xs at le (occurs_code xs at first.1) (seeks_to xs at (λ k lt. first.0.before k (omega arith) lt) (omega (arith, le))),
    )
