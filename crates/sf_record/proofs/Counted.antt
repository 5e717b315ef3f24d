-- Counts of faults over several calls.
use Rattle.std.proofs.Common.{ℕ, ◌≤◌, ◌⊎◌, inl, inr, arith}
use Rattle.sf_world.specs.Counts.{Rose}

-- a count that rose stays so
pub rose_later : (a b c : ℕ) → Rose a b → b ≤ c → Rose a c
rose_later a b c r le = omega (arith, r, le)

pub rose_behind : (a b c : ℕ) → a ≤ b → Rose b c → Rose a c
rose_behind a b c le r = omega (arith, r, le)

-- a fault that is kept was kept at the start, or its count rose since then
pub failed_turn : {First Before Now : Type 0} (a b c : ℕ) → (Before → First ⊎ Rose a b) → (Now → Before ⊎ Rose b c) → a ≤ b → b ≤ c → Now → First ⊎ Rose a c
failed_turn {First} {Before} {Now} a b c before now le le' e =
    elim (now e) [
      | inl same ↦ (elim (before same) [
        | inl first ↦ inl first
        | inr r ↦ inr (rose_later a b c r le')
      ])
      | inr r ↦ inr (rose_behind a b c le r)
    ]
