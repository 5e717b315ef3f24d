-- Units that are stored one after the other.
use Rattle.std.proofs.Common.{◌≡◌, ℕ, ◌≤◌, List, length, take, map, Ok, sym, ap, ◌∙◌}
use Rattle.std.proofs.lemmas.List.{take_all}
use Rattle.std.proofs.lemmas.List.Folds.{flat_map-map}
use Rattle.std.specs.List.{flat_map}
use Rattle.sf_avc.specs.declared.nal.Unit.{Unit}
use Rattle.sf_avc.specs.Units.{Nal, nals, unit_at}
use Rattle.sf_avc.specs.Stored.{prefixed, stored_units, stored}

-- the units so far are all units
pub all_units : (form : Nal → List ℕ) (payload : List ℕ) (units : List Unit) (n : ℕ) → length units ≤ n
    → flat_map (λ u. form (unit_at payload u)) (take n units) ≡ flat_map form (map (unit_at payload) units)
all_units form payload units n le =
    ap (λ (us : List Unit). flat_map (λ u. form (unit_at payload u)) us) (take_all n units le)
    ∙ sym (flat_map-map form (unit_at payload) units)

-- the units of a payload, each after its length, are what is stored of it
pub stored_of : (payload : List ℕ) (units : List Unit) (out : List ℕ) → nals payload ≡ Ok (map (unit_at payload) units)
    → out ≡ prefixed (map (unit_at payload) units) → stored payload ≡ Ok out
unfolding stored
stored_of payload units out is e = ap stored_units is ∙ ap (λ (bytes : List ℕ). Ok bytes) (sym e)
