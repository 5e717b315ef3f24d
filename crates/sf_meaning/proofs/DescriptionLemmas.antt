-- Descriptions that are looked at one after the other.
use Rattle.std.proofs.Common.{◌≡◌, ◌⊎◌, ℕ, zero, suc, ◌-◌, ◌*◌, ◌<◌, ◌==◌, nat_le, min, true, false, not, ◌&&◌, List, [], ◌∷◌, ◌++◌, take, replicate, Result, Ok, Err, refl, sym, ap, ◌∙◌, arith, inl, inr}
use Rattle.sf_meaning.specs.Steps.{◌>>◌}
use Rattle.sf_meaning.specs.TrackSamples.{descriptions_known}
use Rattle.sf_meaning.specs.Tables.{InChunk, described}
use Rattle.sf_meaning.specs.declared.faults.TableFault.TheVariants as tables
use Rattle.sf_meaning.proofs.ListLemmas.{bool_tells}
use Rattle.sf_meaning.proofs.SampleLemmas.{described_chunks, take_run}

known-append : (at entries : ℕ) (xs ys : List ℕ) → descriptions_known at entries (xs ++ ys) ≡ (descriptions_known at entries xs >> descriptions_known at entries ys)
known-append at entries [] ys = refl
known-append at entries (x ∷ xs) ys =
    elim (bool_tells (not (x == 0) && nat_le x entries)) [ inl t ↦ rw t (known-append at entries xs ys) | inr f ↦ rw f refl ]

pub known-replicate : (at entries n d : ℕ) → (not (d == 0) && nat_le d entries) ≡ true → descriptions_known at entries (replicate n d) ≡ Ok tt
known-replicate at entries zero d t = refl
known-replicate at entries (suc n) d t = rw t (known-replicate at entries n d t)

pub unknown-replicate : (at entries n d : ℕ) → 0 < n → (not (d == 0) && nat_le d entries) ≡ false
    → descriptions_known at entries (replicate n d) ≡ Err (tables.Description at d)
unknown-replicate at entries zero d lt f = absurd (omega (arith, lt))
unknown-replicate at entries (suc n) d lt f = rw f refl

-- the chunks of an entry before others
pub described_step : (at entries left n some : ℕ) (e : InChunk) (rest all : List InChunk) → all ≡ replicate n e ++ rest → some ≡ min left (n * e.per)
    → descriptions_known at entries (take left (described all))
    ≡ (descriptions_known at entries (replicate some e.description) >> descriptions_known at entries (take (left - some) (described rest)))
described_step at entries left n some e rest all is same =
    rw (is, described_chunks n e rest, same)
    (ap (descriptions_known at entries) (take_run left (n * e.per) e.description (described rest))
    ∙ known-append at entries (replicate (min left (n * e.per)) e.description) (take (left - min left (n * e.per)) (described rest)))

-- what stops the first step stops both
pub stops_both : {E : Type 0} (none e : E) (a b all : Result (Unit {0}) E) → (a >> b) ≡ all → (e ≡ none) ⊎ (a ≡ Err e) → (e ≡ none) ⊎ (all ≡ Err e)
stops_both none e a b all h (inl p) = inl p
stops_both none e a b all h (inr p) = inr (sym h ∙ rw p refl)
