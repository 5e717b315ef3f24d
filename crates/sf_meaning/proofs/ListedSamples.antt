-- Samples that are listed one after the other.
use Rattle.std.proofs.Common.{◌≡◌, ℕ, zero, suc, ℤ, pos, ◌+ℤ◌, ◌+◌, ◌-◌, ◌<◌, ◌≤◌, Bool, inl, inr, ◌⊎◌, List, [], ◌∷◌, ◌++◌, take, drop, map, get_or, replicate, Option, Ok, Err, refl, sym, ap, ◌∙◌, append_assoc, arith}
use Rattle.sf_meaning.specs.Steps.{◌>>◌}
use Rattle.sf_meaning.specs.TrackSamples.{rows}
use Rattle.sf_meaning.specs.Tracks.{Step, held_sample, held_in}
use Rattle.sf_meaning.specs.declared.movie.PlainSample.{PlainSample}
use Rattle.sf_meaning.specs.declared.faults.MovieFault.{MovieFault}
use Rattle.sf_meaning.specs.declared.faults.MovieFault.TheVariants as movies
use Rattle.sf_meaning.specs.declared.entries.ChunkAt.{ChunkAt}
use Rattle.sf_meaning.specs.declared.entries.Places.{Places}
use Rattle.sf_meaning.specs.inner.Entries.{places_as, held_as_listed, places_left, descriptions_left, sample_at}
use Rattle.sf_meaning.specs.Tables.{is_sync, running, placed, described}

-- the samples so far, and the others, which count from i
abbrev pub held_from : ℕ → ℕ → ℕ → List PlainSample → List PlainSample → Step (List PlainSample)
held_from bytes track i front samples = held_in bytes track i samples >> Ok (front ++ samples)

-- one more sample that is held
held_more : (bytes track i : ℕ) (front : List PlainSample) (s : PlainSample) (ss : List PlainSample) → held_sample bytes track i s ≡ Ok s
    → held_from bytes track (i + 1) (front ++ s ∷ []) ss ≡ held_from bytes track i front (s ∷ ss)
held_more bytes track i front s ss e = rw e (ap (λ (all : List PlainSample). held_in bytes track (i + 1) ss >> Ok all) (append_assoc front (s ∷ []) ss))

-- a sample that isn't held
held_wrong : (bytes track i : ℕ) (front : List PlainSample) (s : PlainSample) (ss : List PlainSample) (f : MovieFault) → held_sample bytes track i s ≡ Err f
    → held_from bytes track i front (s ∷ ss) ≡ Err f
held_wrong bytes track i front s ss f e = rw e refl

-- places, and descriptions, in a chunk of which some samples are left
abbrev pub in_places : ℕ → ℕ → List ChunkAt → List ℕ → List ℕ
in_places place left chunks sizes = running place (take left sizes) ++ placed (places_as chunks) (map (λ c. c.per) (held_as_listed chunks)) (drop left sizes)

place_step : (place left : ℕ) (chunks : List ChunkAt) (z : ℕ) (zs : List ℕ) → 0 < left → in_places place left chunks (z ∷ zs) ≡ place ∷ in_places (place + z) (left - 1) chunks zs
place_step place zero chunks z zs lt = absurd (omega (arith, lt))
place_step place (suc k) chunks z zs lt = let e : suc k - 1 ≡ k = omega arith in rw e refl

description_step : (description left : ℕ) (rest : List ℕ) → 0 < left → replicate left description ++ rest ≡ description ∷ (replicate (left - 1) description ++ rest)
description_step description zero rest lt = absurd (omega (arith, lt))
description_step description (suc k) rest lt = let e : suc k - 1 ≡ k = omega arith in rw e refl

-- the places after a sample
abbrev pub behind : Places → ℕ → Places
behind here size = record { place = here.place + size; left = here.left - 1; description = here.description; chunks = here.chunks }

-- numbers that tell the same of the samples that are left
rows_told : (number : ℕ) (sizes decodes : List ℕ) (offsets : List ℤ) (a b : Option (List ℕ)) (places descriptions : List ℕ)
    → ((later : ℕ) → number ≤ later → is_sync a later ≡ is_sync b later) → rows number sizes decodes offsets a places descriptions ≡ rows number sizes decodes offsets b places descriptions
rows_told number [] decodes offsets a b places descriptions same = refl
rows_told number (z ∷ sizes) [] offsets a b places descriptions same = refl
rows_told number (z ∷ sizes) (d ∷ decodes) offsets a b [] descriptions same = refl
rows_told number (z ∷ sizes) (d ∷ decodes) offsets a b (p ∷ places) [] same = refl
rows_told number (z ∷ sizes) (d ∷ decodes) offsets a b (p ∷ places) (e ∷ descriptions) same =
    rw (same number (omega arith))
    (ap (λ (ss : List PlainSample). record { decode = d; compose = pos d +ℤ get_or offsets 0 (pos 0); sync = is_sync b number; place = p; size = z; description = e } ∷ ss)
    (rows_told (number + 1) sizes decodes (drop 1 offsets) a b places descriptions (λ later le. same later (omega (arith, le)))))

-- What is left of the tables of a track, for the samples from a number on.
abbrev pub rows_left : ℕ → List ℕ → List ℕ → List ℤ → Option (List ℕ) → Places → List PlainSample
rows_left number sizes times offsets sync places = rows number sizes times offsets sync (places_left places sizes) (descriptions_left places)

-- the samples that are left, one of them in front
pub rows_step : (number : ℕ) (sizes times : List ℕ) (offsets offsets_behind : List ℤ) (sync sync_behind : Option (List ℕ)) (places here : Places) (size decode : ℕ) (offset : ℤ) (is : Bool) (zs ts : List ℕ)
    → sizes ≡ size ∷ zs → times ≡ decode ∷ ts → offset ≡ get_or offsets 0 (pos 0) → offsets_behind ≡ drop 1 offsets
    → is ≡ is_sync sync number → ((later : ℕ) → number < later → is_sync sync_behind later ≡ is_sync sync later) → 0 < here.left
    → ((xs : List ℕ) → places_left here xs ≡ places_left places xs) → descriptions_left here ≡ descriptions_left places
    → rows_left number sizes times offsets sync places ≡ sample_at here decode offset is size ∷ rows_left (number + 1) zs ts offsets_behind sync_behind (behind here size)
rows_step number sizes times offsets offsets_behind sync sync_behind places here size decode offset is zs ts s t o ob y yb some same described_same =
    let p : places_left places (size ∷ zs) ≡ here.place ∷ places_left (behind here size) zs = sym (same (size ∷ zs)) ∙ place_step here.place here.left here.chunks.now size zs some in
    let d : descriptions_left places ≡ here.description ∷ descriptions_left (behind here size) =
    sym described_same ∙ description_step here.description here.left (described (held_as_listed here.chunks.now)) some in
    let told : rows (number + 1) zs ts (drop 1 offsets) sync (places_left (behind here size) zs) (descriptions_left (behind here size)) ≡ rows_left (number + 1) zs ts offsets_behind sync_behind (behind here size) =
    ap (λ (os : List ℤ). rows (number + 1) zs ts os sync (places_left (behind here size) zs) (descriptions_left (behind here size))) (sym ob)
    ∙ rows_told (number + 1) zs ts offsets_behind sync sync_behind (places_left (behind here size) zs) (descriptions_left (behind here size)) (λ later le. sym (yb later (omega (arith, le)))) in
    ap (λ (xs : List ℕ). rows number xs times offsets sync (places_left places xs) (descriptions_left places)) s
    ∙ ap (λ (xs : List ℕ). rows number (size ∷ zs) xs offsets sync (places_left places (size ∷ zs)) (descriptions_left places)) t
    ∙ ap (λ (xs : List ℕ). rows number (size ∷ zs) (decode ∷ ts) offsets sync xs (descriptions_left places)) p
    ∙ ap (λ (xs : List ℕ). rows number (size ∷ zs) (decode ∷ ts) offsets sync (here.place ∷ places_left (behind here size) zs) xs) d
    ∙ ap (λ (z : ℤ). record { decode = decode; compose = pos decode +ℤ z; sync = is_sync sync number; place = here.place; size = size; description = here.description } ∷ rows (number + 1) zs ts (drop 1 offsets) sync (places_left (behind here size) zs) (descriptions_left (behind here size))) (sym o)
    ∙ ap (λ (b : Bool). sample_at here decode offset b size ∷ rows (number + 1) zs ts (drop 1 offsets) sync (places_left (behind here size) zs) (descriptions_left (behind here size))) (sym y)
    ∙ ap (λ (ss : List PlainSample). sample_at here decode offset is size ∷ ss) told

pub whole_step : (bytes track i : ℕ) (front rest behind_rest : List PlainSample) (s : PlainSample) (all : Step (List PlainSample))
    → held_from bytes track i front rest ≡ all → rest ≡ s ∷ behind_rest → held_sample bytes track i s ≡ Ok s → held_from bytes track (i + 1) (front ++ s ∷ []) behind_rest ≡ all
whole_step bytes track i front rest behind_rest s all h e ok = held_more bytes track i front s behind_rest ok ∙ ap (held_from bytes track i front) (sym e) ∙ h

pub list_wrong : (bytes track i : ℕ) (front rest behind_rest : List PlainSample) (s : PlainSample) (all : Step (List PlainSample)) (e : MovieFault)
    → held_from bytes track i front rest ≡ all → rest ≡ s ∷ behind_rest → (e ≡ movies.NoMemory) ⊎ (held_sample bytes track i s ≡ Err e) → (e ≡ movies.NoMemory) ⊎ (all ≡ Err e)
list_wrong bytes track i front rest behind_rest s all e h is (inl p) = inl p
list_wrong bytes track i front rest behind_rest s all e h is (inr p) = inr (sym h ∙ ap (held_from bytes track i front) is ∙ held_wrong bytes track i front s behind_rest e p)
