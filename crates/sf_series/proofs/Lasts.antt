-- The last of some samples.
use Rattle.std.proofs.Common.{◌≡◌, ℕ, zero, suc, ◌+◌, ◌-◌, ◌<◌, List, [], ◌∷◌, length, Option, Some, None, refl, ap, arith}
use Rattle.std.specs.Prelude.{slice_get}
use Rattle.sf_tick.specs.declared.types.Stored.{Stored}
use Rattle.sf_gather.specs.declared.given.LastSample.{LastSample}
use Rattle.sf_gather.specs.Accepting.{kept_of, last_from}

last_at : (before : Option LastSample) (xs : List Stored) (n : ℕ) (s : Stored) → n + 1 ≡ length xs → slice_get xs n ≡ Some s → last_from before xs ≡ Some (kept_of s)
last_at before [] n s e at = cc
last_at before (x ∷ []) zero s e at = let same : x ≡ s = cc in ap (λ (t : Stored). Some (kept_of t)) same
last_at before (x ∷ []) (suc n) s e at = cc
last_at before (x ∷ y ∷ xs) zero s e at = absurd (omega (arith, e))
last_at before (x ∷ y ∷ xs) (suc n) s e at = last_at (Some (kept_of x)) (y ∷ xs) n s (omega (arith, e)) at

never_none : (xs : List Stored) (n : ℕ) → n < length xs → slice_get xs n ≡ None → ⊥
never_none [] n less e = absurd (omega (arith, less))
never_none (x ∷ xs) zero less e = cc
never_none (x ∷ xs) (suc n) less e = never_none xs n (omega (arith, less)) e

none_at : (before : Option LastSample) (xs : List Stored) (n : ℕ) → n ≡ length xs - 1 → slice_get xs n ≡ None → last_from before xs ≡ before
none_at before [] n e at = refl
none_at before (x ∷ xs) n e at = absurd (never_none (x ∷ xs) n (omega (arith, e)) at)

some_long : (xs : List Stored) (n : ℕ) (s : Stored) → n ≡ length xs - 1 → slice_get xs n ≡ Some s → n + 1 ≡ length xs
some_long [] n s e at = cc
some_long (x ∷ xs) n s e at = omega (arith, e)

pub last_is : (before : Option LastSample) (xs : List Stored) (s : Stored) → slice_get xs (length xs - 1) ≡ Some s → last_from before xs ≡ Some (kept_of s)
last_is before xs s at = last_at before xs (length xs - 1) s (some_long xs (length xs - 1) s refl at) at

pub no_last : (before : Option LastSample) (xs : List Stored) → slice_get xs (length xs - 1) ≡ None → last_from before xs ≡ before
no_last before xs at = none_at before xs (length xs - 1) refl at

pub ruleset last_facts = (last_is, no_last)
