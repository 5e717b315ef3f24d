-- Edits of a form that isn't followed.
use Rattle.std.proofs.Common.{◌≡◌, ◌≢◌, ℕ, zero, suc, Bool, List, None, refl}
use Rattle.sf_meaning.specs.Edits.{edits, followed}

-- as many edits as no form has
pub not_followed : (wide : Bool) (n : ℕ) (bytes : List ℕ) → n ≢ 1 → n ≢ 2 → followed wide (edits wide n bytes) ≡ None
not_followed wide zero bytes one two = refl
not_followed wide (suc zero) bytes one two = absurd (one refl)
not_followed wide (suc (suc zero)) bytes one two = absurd (two refl)
not_followed wide (suc (suc (suc n))) bytes one two = refl
