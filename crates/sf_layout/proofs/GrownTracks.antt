-- What one more chunk adds to the tracks of a file, and how long a file is.
use Rattle.std.proofs.Common.{◌≡◌, ℕ, zero, suc, ◌+◌, ◌<◌, List, [], ◌∷◌, ◌++◌, length, set, codes, Some, refl, ap, arith}
use Rattle.std.specs.List.{slice_get}
use Rattle.std.proofs.lemmas.List.{length-append}
use Rattle.sf_box.specs.Boxes.{box_of, wide_box, be32, be64}
use Rattle.sf_box.proofs.BoxLaws.{length-box_of, length-wide_box}
use Rattle.sf_tick.specs.declared.types.Stored.{Stored}
use Rattle.sf_tick.specs.declared.types.Chunk.{Chunk}
use Rattle.sf_entry.specs.declared.track_setup.TrackSetup.{TrackSetup}
use Rattle.sf_layout.specs.Headers.{ftyp_body}
use Rattle.sf_layout.specs.Layout.{samples_of, stored_bytes, track_samples, track_rows, first_us, TrackRows, tracks_from, tracks_of, first_with, track_with, movie_box, layout}
use Rattle.sf_layout.proofs.GrownRows.{rows_grown, rows_kept, samples_grown, samples_kept}

-- what a file holds of a track
abbrev held_of : ℕ → TrackSetup → List Chunk → TrackRows
held_of number setup chunks = record { setup = setup; first = first_us (track_samples number chunks); rows = track_rows number 40 chunks }

first_grown : (ss ts : List Stored) → first_us (ss ++ ts) ≡ first_with (first_us ss) (first_us ts)
first_grown [] ts = refl
first_grown (s ∷ ss) ts = refl

held_grown : (number : ℕ) (setup : TrackSetup) (chunks : List Chunk) (c : Chunk) → c.track ≡ number
    → held_of number setup (chunks ++ (c ∷ [])) ≡ track_with (held_of number setup chunks) (40 + length (stored_bytes (samples_of chunks))) c
held_grown number setup chunks c e =
    rw (samples_grown number chunks c e, rows_grown number 40 chunks c e, first_grown (track_samples number chunks) c.samples) refl

held_kept : (number : ℕ) (setup : TrackSetup) (chunks : List Chunk) (c : Chunk) → (c.track ≡ number → ⊥) → held_of number setup (chunks ++ (c ∷ [])) ≡ held_of number setup chunks
held_kept number setup chunks c other = rw (samples_kept number chunks c other, rows_kept number 40 chunks c other) refl

tracks_kept : (number : ℕ) (setups : List TrackSetup) (chunks : List Chunk) (c : Chunk) → c.track < number → tracks_from number setups (chunks ++ (c ∷ [])) ≡ tracks_from number setups chunks
tracks_kept number [] chunks c lt = refl
tracks_kept number (setup ∷ setups) chunks c lt =
    rw (held_kept number setup chunks c (λ e. omega (arith, e, lt)), tracks_kept (number + 1) setups chunks c (omega (arith, lt))) refl

tracks_grown_by : (number i : ℕ) (setups : List TrackSetup) (chunks : List Chunk) (c : Chunk) (t : TrackRows) → number + i ≡ c.track → slice_get (tracks_from number setups chunks) i ≡ Some t
    → tracks_from number setups (chunks ++ (c ∷ [])) ≡ set (tracks_from number setups chunks) i (track_with t (40 + length (stored_bytes (samples_of chunks))) c)
tracks_grown_by number i [] chunks c t e found = absurd (cc found)
tracks_grown_by number zero (setup ∷ setups) chunks c t e found =
    let is : held_of number setup chunks ≡ t = cc found in
    let place : ℕ = 40 + length (stored_bytes (samples_of chunks)) in
    rw (held_grown number setup chunks c (omega (arith, e)), tracks_kept (number + 1) setups chunks c (omega (arith, e)))
    (ap (λ (k : TrackRows). track_with k place c ∷ tracks_from (number + 1) setups chunks) is)
tracks_grown_by number (suc i) (setup ∷ setups) chunks c t e found =
    rw (held_kept number setup chunks c (λ f. omega (arith, e, f)), tracks_grown_by (number + 1) i setups chunks c t (omega (arith, e)) found) refl

-- the track of the chunk has one row more, and every other stays as it is
pub tracks_grown : (setups : List TrackSetup) (chunks : List Chunk) (c : Chunk) (t : TrackRows) → slice_get (tracks_of setups chunks) c.track ≡ Some t
    → tracks_of setups (chunks ++ (c ∷ [])) ≡ set (tracks_of setups chunks) c.track (track_with t (40 + length (stored_bytes (samples_of chunks))) c)
tracks_grown setups chunks c t found = tracks_grown_by 0 c.track setups chunks c t (omega arith) found

-- there is a track for each setup
length-tracks_from : (number : ℕ) (setups : List TrackSetup) (chunks : List Chunk) → length (tracks_from number setups chunks) ≡ length setups
length-tracks_from number [] chunks = refl
length-tracks_from number (setup ∷ setups) chunks = ap suc (length-tracks_from (number + 1) setups chunks)

pub tracks_many : (setups : List TrackSetup) (chunks : List Chunk) → length (tracks_of setups chunks) ≡ length setups
tracks_many setups chunks = length-tracks_from 0 setups chunks

-- a file by its parts
pub layout_parts : (setups : List TrackSetup) (chunks : List Chunk)
    → layout setups chunks
    ≡ (box_of (codes "ftyp") ftyp_body ++ (be32 1 ++ (codes "mdat" ++ be64 (16 + length (stored_bytes (samples_of chunks)))))) ++ (stored_bytes (samples_of chunks) ++ movie_box (tracks_of setups chunks))
unfolding layout wide_box box_of be32 be64
layout_parts setups chunks = refl

pub layout_long : (setups : List TrackSetup) (chunks : List Chunk) → length (layout setups chunks) ≡ 40 + length (stored_bytes (samples_of chunks)) + length (movie_box (tracks_of setups chunks))
unfolding layout
layout_long setups chunks =
    let payload : List ℕ = stored_bytes (samples_of chunks) in
    let moov : List ℕ = movie_box (tracks_of setups chunks) in
    omega (
      arith,
      length-append (box_of (codes "ftyp") ftyp_body) (wide_box (codes "mdat") payload ++ moov),
      length-append (wide_box (codes "mdat") payload) moov,
      length-box_of (codes "ftyp") ftyp_body refl,
      length-wide_box (codes "mdat") payload refl,
    )
