-- Tracks that are read one after the other.
use Rattle.std.proofs.Common.{◌≡◌, ◌⊎◌, ℕ, ◌+◌, ◌<◌, ◌≤◌, length, drop, get_or, Some, None, arith, List, [], ◌∷◌, ◌++◌, Ok, Err, refl, sym, ap, ◌∙◌, append_assoc, inl, inr}
use Rattle.std.proofs.lemmas.List.{append-nil, length-map, drop_more, drop_all}
use Rattle.std.specs.List.{drop-map}
use Rattle.sf_box.specs.Boxes.{Piece}
use Rattle.sf_meaning.specs.Steps.{◌>>=◌, first_of}
use Rattle.sf_meaning.specs.Tracks.{Step, track_in, tracks_in}
use Rattle.sf_meaning.specs.inner.Found.{piece, pieces}
use Rattle.sf_meaning.specs.declared.found.Found.{Found}
use Rattle.sf_meaning.specs.declared.movie.PlainTrack.{PlainTrack}
use Rattle.sf_meaning.specs.declared.faults.MovieFault.{MovieFault}
use Rattle.sf_meaning.specs.declared.faults.MovieFault.TheVariants as movies

-- ---- any items that are read one after the other: those in front, one, and the rest

joined_step : {A : Type 0} (front : List A) (t : A) (rest : Step (List A)) → (rest >>= (λ ts. Ok ((front ++ t ∷ []) ++ ts))) ≡ ((rest >>= (λ ts. Ok (t ∷ ts))) >>= (λ ts. Ok (front ++ ts)))
joined_step {A} front t (Ok ts) = ap (λ (all : List A). Ok all) (append_assoc front (t ∷ []) ts)
joined_step front t (Err e) = refl

-- one more item
pub next_step : {A : Type 0} (front : List A) (one : Step A) (rest : Step (List A)) (t : A) (all : Step (List A)) → ((one >>= (λ t. rest >>= (λ ts. Ok (t ∷ ts)))) >>= (λ ts. Ok (front ++ ts))) ≡ all → one ≡ Ok t
    → (rest >>= (λ ts. Ok ((front ++ t ∷ []) ++ ts))) ≡ all
next_step front one rest t all h e = joined_step front t rest ∙ sym (rw e refl) ∙ h

-- an item that isn't read
pub wrong_step : {A : Type 0} (front : List A) (one : Step A) (rest : Step (List A)) (all : Step (List A)) (e : MovieFault) → ((one >>= (λ t. rest >>= (λ ts. Ok (t ∷ ts)))) >>= (λ ts. Ok (front ++ ts))) ≡ all
    → (e ≡ movies.NoMemory) ⊎ (one ≡ Err e) → (e ≡ movies.NoMemory) ⊎ (all ≡ Err e)
wrong_step front one rest all e h (inl wrong) = inl wrong
wrong_step front one rest all e h (inr wrong) = inr (sym h ∙ rw wrong refl)

-- no item in front
pub first_step : {A : Type 0} (r : Step (List A)) → (r >>= (λ ts. Ok ([] ++ ts))) ≡ r
first_step (Ok ts) = refl
first_step (Err e) = refl

-- ---- tracks

-- the tracks so far, and the others, which count from a number
abbrev pub tracks_from : ℕ → ℕ → ℕ → List PlainTrack → List Piece → Step (List PlainTrack)
tracks_from bytes scale number front traks = tracks_in bytes scale number traks >>= (λ ts. Ok (front ++ ts))

-- one more track
pub tracks_step : (bytes scale number : ℕ) (front : List PlainTrack) (trak : Piece) (traks : List Piece) (t : PlainTrack) (all : Step (List PlainTrack))
    → tracks_from bytes scale number front (trak ∷ traks) ≡ all → track_in bytes scale number trak ≡ Ok t → tracks_from bytes scale (number + 1) (front ++ t ∷ []) traks ≡ all
unfolding tracks_in
tracks_step bytes scale number front trak traks t all h e = next_step front (track_in bytes scale number trak) (tracks_in bytes scale (number + 1) traks) t all h e

-- a track that isn't read
pub tracks_wrong : (bytes scale number : ℕ) (front : List PlainTrack) (trak : Piece) (traks : List Piece) (all : Step (List PlainTrack)) (e : MovieFault)
    → tracks_from bytes scale number front (trak ∷ traks) ≡ all → (e ≡ movies.NoMemory) ⊎ (track_in bytes scale number trak ≡ Err e) → (e ≡ movies.NoMemory) ⊎ (all ≡ Err e)
unfolding tracks_in
tracks_wrong bytes scale number front trak traks all e h wrong = wrong_step front (track_in bytes scale number trak) (tracks_in bytes scale (number + 1) traks) all e h wrong

pub tracks_none : (bytes scale number : ℕ) (front : List PlainTrack) → tracks_from bytes scale number front [] ≡ Ok front
unfolding tracks_in
tracks_none bytes scale number front = ap (λ (ts : List PlainTrack). Ok ts) (append-nil front)

pub tracks_begin : (bytes scale number : ℕ) (traks : List Piece) → tracks_from bytes scale number [] traks ≡ tracks_in bytes scale number traks
tracks_begin bytes scale number traks = first_step (tracks_in bytes scale number traks)

-- the box after the first 64
pub behind_64 : (fs : List Found) (x : Found) → 64 < length fs → x ≡ get_or fs 64 x → first_of (drop 64 (pieces fs)) ≡ Some (piece x)
behind_64 fs x lt e = ap first_of (drop-map piece 64 fs ∙ ap pieces (drop_more fs 64 x lt)) ∙ ap (λ (y : Found). Some (piece y)) (sym e)

pub none_behind_64 : (fs : List Found) → length fs ≤ 64 → first_of (drop 64 (pieces fs)) ≡ None
none_behind_64 fs le = let n : length (pieces fs) ≡ length fs = length-map fs piece in ap first_of (drop_all 64 (pieces fs) (omega (arith, n, le)))
