-- What is known of the nearest tick.
use Rattle.std.proofs.Common.{◌≡◌, ℕ, ◌+◌, ◌*◌, ◌/◌, ◌%◌, ◌^◌, ◌≤◌, ◌<◌, sym, ap, arith}
use Rattle.std.proofs.Math.Nat.{mul-le-mul_right}
use native.Mathlib.Nat.{add-mul, div-add-mod'}
use Rattle.sf_tick.specs.Tick.{tick}

-- a later time has no earlier tick
pub tick_rises : (a b scale : ℕ) → a ≤ b → tick a scale ≤ tick b scale
tick_rises a b scale le = let f : a * scale ≤ b * scale = mul-le-mul_right scale le in omega (arith, f)

-- the series' start is tick 0
pub tick_zero : (scale : ℕ) → tick 0 scale ≡ 0
tick_zero scale = omega arith

-- the ticks of the times of an input stay far below 2 ^ 61
pub tick_below : (us scale : ℕ) → us ≤ 2 ^ 48 → scale < 2 ^ 32 → tick us scale < 2 ^ 61
tick_below us scale le lt = let f : us * scale ≤ 2 ^ 48 * scale = mul-le-mul_right scale le in omega (arith, f)

-- the tick, from whole seconds and the rest
pub by_seconds : (us scale : ℕ) → (us / 1000000) * scale + ((us % 1000000) * scale + 500000) / 1000000 ≡ tick us scale
by_seconds us scale =
    let q : ℕ = us / 1000000 in
    let r : ℕ = us % 1000000 in
    let split : us * scale ≡ (q * 1000000 + r) * scale = ap (λ (x : ℕ). x * scale) (sym (div-add-mod' us 1000000)) in
    let apart : (q * 1000000 + r) * scale ≡ (q * scale) * 1000000 + r * scale = grind (arith, add-mul (q * 1000000) r scale) in
    omega (arith, split, apart)

-- the products of whole seconds and of the rest stay below 2 ^ 63
pub ticks_fit : (us scale : ℕ) → us ≤ 2 ^ 48 → scale < 2 ^ 32 → ((us / 1000000) * scale < 2 ^ 61) × ((us % 1000000) * scale < 2 ^ 52)
ticks_fit us scale le lt =
    let q : ℕ = us / 1000000 in
    let r : ℕ = us % 1000000 in
    let f : q * scale ≤ 281474977 * scale = mul-le-mul_right scale (omega (arith, le)) in
    let g : r * scale ≤ 1000000 * scale = mul-le-mul_right scale (omega arith) in
    (omega (arith, f, lt), omega (arith, g, lt))
