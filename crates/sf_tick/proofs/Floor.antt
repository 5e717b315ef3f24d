-- The quotient of a whole number, rounded down.
use Rattle.std.proofs.Common.{◌≡◌, ℕ, zero, suc, ◌*◌, ◌/◌, ◌^◌, ◌≤◌, ◌<◌, ℤ, pos, negsuc, neg_ℤ, ◌*ℤ◌, ◌≤ℤ◌, refl, ap, ◌∙◌, arith}
use Rattle.std.specs.Prelude.{unsigned_abs, FitsSigned}
use Rattle.std.specs.Int.{int_div_euclid}
use Rattle.std.proofs.Math.Facts.{sfits_widen}
use Rattle.std.proofs.lemmas.Int.{to_z-of_z}
use mir.Syntax.{w64, w128}
use mir.Val.{to_z, of_z}
use Rattle.std.proofs.lemmas.Int.{ints}
use Rattle.std.proofs.Math.Nat.{le-div_iff_mul-le, div-lt_iff_lt-mul, div-le_of_le-mul}

-- what is at most a number, taken so many times, is at most the quotient
pub quotient_above : (a : ℤ) (s : ℕ) (y : ℤ) → 0 < s → (y *ℤ pos s) ≤ℤ a → y ≤ℤ int_div_euclid a (pos s)
quotient_above (pos n) s (pos m) some le =
    let f : m * s ≤ n = omega (arith, ints, le) in
    let g : m ≤ n / s = (le-div_iff_mul-le {k = s} {x = m} {y = n} some).1 f in
    omega (arith, ints, g)
quotient_above (pos n) s (negsuc m) some le = omega (arith, ints)
quotient_above (negsuc n) s (pos m) some le = absurd (omega (arith, ints, le))
quotient_above (negsuc n) s (negsuc m) some le =
    let f : suc n ≤ suc m * s = omega (arith, ints, le) in
    let g : n / s < suc m = (div-lt_iff_lt-mul {k = s} {x = n} {y = suc m} some).1 (omega (arith, f)) in
    omega (arith, ints, g)

-- the quotient of a number that is at most so many times the divisor
pub quotient_fits : (a : ℤ) (s : ℕ) → unsigned_abs a ≤ s * (2 ^ 41 * 1000000) → FitsSigned w64 (int_div_euclid a (pos s))
quotient_fits (pos n) s le =
    let f : n / s ≤ 2 ^ 41 * 1000000 = div-le_of_le-mul s le in
    record { sfits = omega (arith, f) }
quotient_fits (negsuc n) s le =
    let f : n / s ≤ 2 ^ 41 * 1000000 = div-le_of_le-mul s (omega (arith, le)) in
    record { sfits = omega (arith, f) }

abs_neg : (n : ℕ) → unsigned_abs (neg_ℤ (pos n)) ≡ n
abs_neg zero = refl
abs_neg (suc n) = refl

pub times_fits : (tick : ℤ) (s : ℕ) → unsigned_abs tick ≤ 2 ^ 41 * s → unsigned_abs (tick *ℤ pos 1000000) ≤ s * (2 ^ 41 * 1000000)
times_fits (pos t) s le = omega (arith, le)
times_fits (negsuc t) s le = rw (abs_neg (suc t * 1000000)) (omega (arith, le))

wide_fits : (z : ℤ) (n : ℕ) → unsigned_abs z ≤ n → n < 2 ^ 127 → FitsSigned w128 z
wide_fits (pos a) n le lt = record { sfits = omega (arith, le, lt) }
wide_fits (negsuc a) n le lt = record { sfits = omega (arith, le, lt) }

-- what the code computes, cast by cast
pub floors : (tick a b r : ℤ) (s : ℕ) → FitsSigned w64 tick → unsigned_abs tick ≤ 2 ^ 41 * s → s < 2 ^ 32 → a ≡ to_z w64 (of_z w64 tick) → b ≡ pos s
    → r ≡ int_div_euclid (to_z w128 (of_z w128 (to_z w128 (of_z w128 a) *ℤ pos 1000000))) (to_z w128 (of_z w128 b))
    → to_z w64 (of_z w64 (to_z w128 (of_z w128 r))) ≡ int_div_euclid (tick *ℤ pos 1000000) (pos s)
floors tick a b r s fits le lt ea eb er =
    let z : ℤ = tick *ℤ pos 1000000 in
    let times : unsigned_abs z ≤ s * (2 ^ 41 * 1000000) = times_fits tick s le in
    let product : to_z w128 (of_z w128 z) ≡ z = to_z-of_z w128 z (wide_fits z (s * (2 ^ 41 * 1000000)) times (omega arith)) in
    let ta : a ≡ tick = ea ∙ to_z-of_z w64 tick fits in
    let fa : FitsSigned w128 tick = sfits_widen tt fits in
    let first : to_z w128 (of_z w128 a) ≡ tick = ap (λ (x : ℤ). to_z w128 (of_z w128 x)) ta ∙ to_z-of_z w128 tick fa in
    let second : to_z w128 (of_z w128 b) ≡ pos s = ap (λ (x : ℤ). to_z w128 (of_z w128 x)) eb ∙ to_z-of_z w128 (pos s) (wide_fits (pos s) s (omega arith) (omega arith)) in
    let whole : r ≡ int_div_euclid z (pos s) =
    er ∙ ap (λ (x : ℤ). int_div_euclid (to_z w128 (of_z w128 (x *ℤ pos 1000000))) (to_z w128 (of_z w128 b))) first
    ∙ ap (λ (x : ℤ). int_div_euclid x (to_z w128 (of_z w128 b))) product
    ∙ ap (int_div_euclid z) second in
    let f : FitsSigned w64 (int_div_euclid z (pos s)) = quotient_fits z s times in
    let g : FitsSigned w128 (int_div_euclid z (pos s)) = sfits_widen tt f in
    ap (λ (x : ℤ). to_z w64 (of_z w64 (to_z w128 (of_z w128 x)))) whole
    ∙ ap (λ (x : ℤ). to_z w64 (of_z w64 x)) (to_z-of_z w128 (int_div_euclid z (pos s)) g)
    ∙ to_z-of_z w64 (int_div_euclid z (pos s)) f
