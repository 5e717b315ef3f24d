-- Bounds on times.
use Rattle.std.proofs.Common.{◌≡◌, ℕ, ◌+◌, ◌*◌, ◌/◌, ◌^◌, ◌≤◌, ℤ, pos, negsuc, neg_ℤ, ◌+ℤ◌, ◌-ℤ◌, ◌≤ℤ◌, inl, inr, sym, ap, subst, ◌∙◌, arith}
use Rattle.std.specs.Prelude.{unsigned_abs}
use Rattle.std.proofs.lemmas.Bool.{cases_lt}
use Rattle.std.proofs.lemmas.Int.{ints, to_z-of_z}
use mir.Syntax.{w64}
use mir.Val.{SFits, of_z, to_z}
use Rattle.std.proofs.lemmas.Nat.{mul-le}
use Rattle.std.proofs.Math.Nat.{div-le_of_le-mul}
use Rattle.sf_tick.specs.Tick.{us, IsBefore}

-- what is at most so many times a number, taken that often, is at most the number
at_most : (n b s : ℕ) → 1 ≤ s → n * s ≤ b * s → n ≤ b
at_most n b s some le =
    elim (cases_lt b n) [
      | inl more ↦
          let long : (b + 1) * s ≤ n * s = mul-le (b + 1) s n s (omega (arith, more)) (omega arith) in
          let one : (b + 1) * s ≡ b * s + s = omega arith in
          absurd (omega (arith, long, one, le, some))
      | inr few ↦ few
    ]

-- a number of microseconds that isn't after a tick is within 2^41 seconds, if the tick is
pub before_most : (tick z : ℤ) (s : ℕ) → 1 ≤ s → unsigned_abs tick ≤ 2 ^ 41 * s → IsBefore tick s z → z ≤ℤ pos (2 ^ 41 * 1000000)
before_most (pos t) (pos n) s some le b =
    let f : n * s ≤ t * 1000000 = omega (arith, ints, b.before) in
    let g : n * s ≤ 2199023255552000000 * s = omega (arith, f, le) in
    let h : n ≤ 2199023255552000000 = at_most n 2199023255552000000 s some g in
    omega (arith, ints, h)
before_most (negsuc t) (pos n) s some le b = absurd (omega (arith, ints, b.before))
before_most tick (negsuc n) s some le b = omega (arith, ints)

-- 2^41 seconds before the start isn't after such a tick
pub least_before : (tick : ℤ) (s : ℕ) → 1 ≤ s → unsigned_abs tick ≤ 2 ^ 41 * s → IsBefore tick s (neg_ℤ (pos (2 ^ 41 * 1000000)))
least_before (pos t) s some le = record { before = omega (arith, ints) }
least_before (negsuc t) s some le = record { before = omega (arith, ints, le) }

-- so many ticks are so many microseconds
pub length_most : (ticks s : ℕ) → ticks ≤ 2 ^ 40 * s → ticks * 1000000 / s ≤ 2 ^ 40 * 1000000
length_most ticks s le = div-le_of_le-mul s (omega (arith, le))

pub length_is : (a b ticks s : ℕ) → a ≡ ticks → b ≡ s → ticks ≤ 2 ^ 40 * s → to_z w64 (a * 1000000 / b) ≡ pos (ticks * 1000000 / s)
length_is a b ticks s e f le =
    let q : ticks * 1000000 / s ≤ 1099511627776000000 = length_most ticks s le in
    rw (e, f) (omega (arith, ints, q))

-- sums of times
pub shown_sum : (t u lead media : ℤ) → SFits w64 t → SFits w64 lead → SFits w64 media → t ≡ u → neg_ℤ (pos 2199023255552000000) ≤ℤ t → t ≤ℤ pos 2199023255552000000
    → pos 0 ≤ℤ lead → lead ≤ℤ pos 1099511627776000000 → pos 0 ≤ℤ media → media ≤ℤ pos 1099511627776000000
    → to_z w64 (of_z w64 (to_z w64 (of_z w64 (to_z w64 (of_z w64 t) +ℤ to_z w64 (of_z w64 lead))) -ℤ to_z w64 (of_z w64 media))) ≡ (u +ℤ lead) -ℤ media
shown_sum t u lead media f g h e a b c d p q = omega (arith, ints, to_z-of_z w64 t f, to_z-of_z w64 lead g, to_z-of_z w64 media h, e, a, b, c, d, p, q)

pub time_least : (r tick x : ℤ) (s : ℕ) → SFits w64 r → x ≡ tick → r ≡ us x s → 1 ≤ s → unsigned_abs tick ≤ 2 ^ 41 * s → ((y : ℤ) → IsBefore x s y → y ≤ℤ us x s)
    → neg_ℤ (pos (2 ^ 41 * 1000000)) ≤ℤ to_z w64 (of_z w64 r)
time_least r tick x s f same e some le greatest =
    let y : ℤ = neg_ℤ (pos (2 ^ 41 * 1000000)) in
    let h : y ≤ℤ us x s = greatest y (subst (λ (z : ℤ). IsBefore z s y) (sym same) (least_before tick s some le)) in
    subst (λ (z : ℤ). y ≤ℤ z) (sym (to_z-of_z w64 r f ∙ e)) h

pub time_most : (r tick x : ℤ) (s : ℕ) → SFits w64 r → x ≡ tick → r ≡ us x s → 1 ≤ s → unsigned_abs tick ≤ 2 ^ 41 * s → IsBefore x s (us x s)
    → to_z w64 (of_z w64 r) ≤ℤ pos (2 ^ 41 * 1000000)
time_most r tick x s f same e some le is =
    let few : unsigned_abs x ≤ 2 ^ 41 * s = subst (λ (z : ℤ). unsigned_abs z ≤ 2 ^ 41 * s) (sym same) le in
    subst (λ (z : ℤ). z ≤ℤ pos (2 ^ 41 * 1000000)) (sym (to_z-of_z w64 r f ∙ e)) (before_most x (us x s) s some few is)

-- what the code computes, cast by cast
pub shown_is : (r compose lead media a b : ℤ) (s : ℕ) → SFits w64 r → SFits w64 compose → SFits w64 lead → SFits w64 media
    → r ≡ (us (to_z w64 (of_z w64 compose)) s +ℤ to_z w64 (of_z w64 lead)) -ℤ to_z w64 (of_z w64 media) → lead ≡ a → media ≡ b
    → to_z w64 (of_z w64 r) ≡ (us compose s +ℤ a) -ℤ b
shown_is r compose lead media a b s f g h k e el em =
    to_z-of_z w64 r f ∙ e
    ∙ ap (λ (x : ℤ). (us x s +ℤ to_z w64 (of_z w64 lead)) -ℤ to_z w64 (of_z w64 media)) (to_z-of_z w64 compose g)
    ∙ ap (λ (x : ℤ). (us compose s +ℤ x) -ℤ to_z w64 (of_z w64 media)) (to_z-of_z w64 lead h ∙ el)
    ∙ ap (λ (x : ℤ). (us compose s +ℤ a) -ℤ x) (to_z-of_z w64 media k ∙ em)
