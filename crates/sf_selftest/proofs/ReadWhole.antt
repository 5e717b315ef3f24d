-- A file that is read out whole: how its extraction ends, and how long the dump is.
use Rattle.std.proofs.Common.{◌≡◌, ◌≤◌, ◌⊎◌, ℕ, zero, suc, List, [], ◌∷◌, length, map, Some, None, Ok, Err, refl, sym, ap, subst, ◌∙◌, inl, inr, arith}
use Rattle.sf_world.specs.Counts.{Rose}
use Rattle.sf_world.specs.Views.{ShelfView}
use Rattle.sf_entry.specs.declared.types.EntryAt.{EntryAt}
use Rattle.sf_meaning.specs.declared.movie.PlainMovie.{PlainMovie}
use Rattle.sf_movie.specs.Loaded.{Loaded}
use Rattle.sf_extract.specs.Current.{unmoved}
use Rattle.sf_extract.specs.Readout.{Readout, read_out}
use Rattle.sf_extract.specs.declared.plan.Command.{Command}
use Rattle.sf_extract.specs.declared.types.BadSample.{BadSample as Bad}
use Rattle.sf_reader.specs.Dumps.{AreUpTo, first_missing, told_length}
use Rattle.sf_reader.specs.Extracted.{Extracted, IsLoaded}
use Rattle.sf_reader.specs.declared.outcome.ExtractOutcome.{ExtractOutcome}
use Rattle.sf_reader.specs.declared.outcome.ExtractOutcome.TheVariants.{Done, Refused, NoTrack, BadSample, ReadFault, WriteFault, NoMemory}
use Rattle.sf_selftest.specs.inner.Made.{IsReadWhole}

-- a file is no other movie
same_loaded : (file : List ℕ) (a b : Loaded) → IsLoaded file a → IsLoaded file b → a ≡ b
same_loaded file a b p q =
    let both = sym p.movie ∙ q.movie in
    let movies : a.movie ≡ b.movie = cc in
    let all = sym p.entries ∙ q.entries in
    let entries : a.entries ≡ b.entries = cc in
    ap (λ (m : PlainMovie). let r : Loaded = record { movie = m; entries = a.entries } in r) movies
    ∙ ap (λ (es : List (List EntryAt)). let r : Loaded = record { movie = b.movie; entries = es } in r) entries

-- of a readout that is whole no sample is refused
none_up_to : (n : ℕ) (bad : Bad) (ds : List (List ℕ)) (r : Readout) → r.refused ≡ None → AreUpTo n bad ds (r ∷ []) → ⊥
none_up_to zero bad [] r none up = up
none_up_to (suc n) bad [] r none up = up
none_up_to zero bad (d ∷ ds) r none up = let wrong : None ≡ Some bad = sym none ∙ up.1 in cc
none_up_to (suc zero) bad (d ∷ []) r none up = up.2
none_up_to (suc (suc n)) bad (d ∷ []) r none up = up.2
none_up_to (suc zero) bad (d ∷ e ∷ ds) r none up = up.2
none_up_to (suc (suc n)) bad (d ∷ e ∷ ds) r none up = up.2

pub whole_for : (file : List ℕ) (plan : List Command) (m : Loaded) (w : IsReadWhole plan file) → IsLoaded file m → (read_out file plan (unmoved m)).refused ≡ None
whole_for file plan m w is = subst (λ (x : Loaded). (read_out file plan (unmoved x)).refused ≡ None) (same_loaded file w.loaded m w.is is) w.whole

there_for : (file : List ℕ) (plan : List Command) (m : Loaded) (w : IsReadWhole plan file) → IsLoaded file m → first_missing (length m.movie.tracks) 0 (plan ∷ []) ≡ None
there_for file plan m w is = subst (λ (x : Loaded). first_missing (length x.movie.tracks) 0 (plan ∷ []) ≡ None) (same_loaded file w.loaded m w.is is) w.there

ends_so : (file stem : List ℕ) (plan : List Command) (outcome : ExtractOutcome) (lengths : List ℕ) (before after : ShelfView) → Extracted file (plan ∷ []) stem outcome lengths before after → IsReadWhole plan file
    → (outcome ≡ ReadFault → ⊥) → (outcome ≡ WriteFault → ⊥) → (outcome ≡ NoMemory) ⊎ (outcome ≡ Done)
ends_so file stem plan Done lengths before after ends w read write = inr refl
ends_so file stem plan (Refused fault) lengths before after ends w read write = absurd (let both = sym ends.0 ∙ w.is.movie in let wrong : ⊥ = cc in wrong)
ends_so file stem plan (NoTrack reader command) lengths before after ends w read write =
    absurd (let both = sym (there_for file plan ends.0.0 w ends.0.1) ∙ ends.0.2 in let wrong : ⊥ = cc in wrong)
ends_so file stem plan (BadSample reader track sample at) lengths before after ends w read write =
    absurd (none_up_to reader (record { track = track; sample = sample; at = at }) ends.3.0 (read_out file plan (unmoved ends.0)) (whole_for file plan ends.0 w ends.1) ends.3.2)
ends_so file stem plan ReadFault lengths before after ends w read write = absurd (read refl)
ends_so file stem plan WriteFault lengths before after ends w read write = absurd (write refl)
ends_so file stem plan NoMemory lengths before after ends w read write = inl refl

-- the extraction of one plan is done, or memory ran out, where no fault is told
pub ends_done : (file stem : List ℕ) (plans : List (List Command)) (plan : List Command) (outcome : ExtractOutcome) (lengths : List ℕ) (before after : ShelfView) → plans ≡ plan ∷ []
    → Extracted file plans stem outcome lengths before after → IsReadWhole plan file → (outcome ≡ ReadFault → ⊥) → (outcome ≡ WriteFault → ⊥) → (outcome ≡ NoMemory) ⊎ (outcome ≡ Done)
ends_done file stem plans plan outcome lengths before after one ends =
    ends_so file stem plan outcome lengths before after (subst (λ (ps : List (List Command)). Extracted file ps stem outcome lengths before after) one ends)

length_so : (file stem : List ℕ) (plan : List Command) (lengths : List ℕ) (before after : ShelfView) (m : Loaded) → Extracted file (plan ∷ []) stem Done lengths before after
    → IsLoaded file m → lengths ≡ told_length (read_out file plan (unmoved m)).dump ∷ []
length_so file stem plan lengths before after m e is = e.3.2 ∙ ap (λ (x : Loaded). told_length (read_out file plan (unmoved x)).dump ∷ []) (same_loaded file e.0 m e.1 is)

-- the only length that is told is that of the dump
pub length_told : (file stem : List ℕ) (plans : List (List Command)) (plan : List Command) (outcome : ExtractOutcome) (lengths : List ℕ) (before after : ShelfView) (m : Loaded) → plans ≡ plan ∷ [] → outcome ≡ Done
    → Extracted file plans stem outcome lengths before after → IsLoaded file m → lengths ≡ told_length (read_out file plan (unmoved m)).dump ∷ []
length_told file stem plans plan outcome lengths before after m one done ends =
    length_so file stem plan lengths before after m
    (subst (λ (o : ExtractOutcome). Extracted file (plan ∷ []) stem o lengths before after) done (subst (λ (ps : List (List Command)). Extracted file ps stem outcome lengths before after) one ends))

-- a count that stays at 0 doesn't rise
pub never_rose : Rose 0 0 → ⊥
never_rose rose = let wrong : 1 ≤ 0 = omega (arith, rose) in omega (arith, wrong)
