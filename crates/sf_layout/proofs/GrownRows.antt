-- What one more chunk adds to a file.
use Rattle.std.proofs.Common.{◌≡◌, ℕ, ◌+◌, ◌==◌, true, false, List, [], ◌∷◌, ◌++◌, length, refl, sym, ap, ◌∙◌, append_assoc, arith, inl, inr}
use Rattle.std.proofs.lemmas.List.{append-nil}
use Rattle.std.proofs.lemmas.List.Concat.{flat_map-append}
use Rattle.sf_tick.specs.declared.types.Stored.{Stored}
use Rattle.sf_tick.specs.declared.types.Chunk.{Chunk}
use Rattle.sf_meaning.specs.Stbl.{Row}
use Rattle.sf_layout.specs.Layout.{samples_of, stored_bytes, row_at, track_samples, track_rows}
use Rattle.sf_meaning.proofs.ListLemmas.{bool_tells}
use Rattle.sf_layout.proofs.TrackRows.{length-stored}
use Rattle.sf_layout.proofs.Payload.{other_track}

same_number : (t : ℕ) (c : Chunk) → c.track ≡ t → (c.track == t) ≡ true
same_number t c e = grind (arith, e)

-- the bytes of the samples of chunks, with one more chunk
pub payload_grown : (chunks : List Chunk) (c : Chunk) → stored_bytes (samples_of (chunks ++ (c ∷ []))) ≡ stored_bytes (samples_of chunks) ++ stored_bytes c.samples
payload_grown chunks c =
    ap (λ (ss : List Stored). stored_bytes ss) (flat_map-append (λ (d : Chunk). d.samples) chunks (c ∷ []) ∙ ap (λ (ss : List Stored). samples_of chunks ++ ss) (append-nil c.samples))
    ∙ flat_map-append (λ (s : Stored). s.bytes) (samples_of chunks) c.samples

-- the rows of its track
rows_grown_by : (t at : ℕ) (chunks : List Chunk) (c : Chunk) → (c.track == t) ≡ true
    → track_rows t at (chunks ++ (c ∷ [])) ≡ track_rows t at chunks ++ (row_at (at + length (stored_bytes (samples_of chunks))) c ∷ [])
rows_grown_by t at [] c e =
    let same : at + 0 ≡ at = omega arith in
    rw (e, same) refl
rows_grown_by t at (d ∷ ds) c e =
    let next : ℕ = at + length (stored_bytes d.samples) in
    let place : next + length (stored_bytes (samples_of ds)) ≡ at + length (stored_bytes (d.samples ++ samples_of ds)) = omega (arith, length-stored d.samples (samples_of ds)) in
    let more : track_rows t next (ds ++ (c ∷ [])) ≡ track_rows t next ds ++ (row_at (at + length (stored_bytes (d.samples ++ samples_of ds))) c ∷ []) =
    rows_grown_by t next ds c e ∙ ap (λ (p : ℕ). track_rows t next ds ++ (row_at p c ∷ [])) place in
    elim (bool_tells (d.track == t)) [ inl b ↦ rw b (ap (λ (rs : List Row). row_at at d ∷ rs) more) | inr b ↦ rw b more ]

-- and those of every other
rows_kept_by : (t at : ℕ) (chunks : List Chunk) (c : Chunk) → (c.track == t) ≡ false → track_rows t at (chunks ++ (c ∷ [])) ≡ track_rows t at chunks
rows_kept_by t at [] c e = rw e refl
rows_kept_by t at (d ∷ ds) c e =
    let next : ℕ = at + length (stored_bytes d.samples) in
    let more : track_rows t next (ds ++ (c ∷ [])) ≡ track_rows t next ds = rows_kept_by t next ds c e in
    elim (bool_tells (d.track == t)) [ inl b ↦ rw b (ap (λ (rs : List Row). row_at at d ∷ rs) more) | inr b ↦ rw b more ]

-- the samples of its track
samples_grown_by : (t : ℕ) (chunks : List Chunk) (c : Chunk) → (c.track == t) ≡ true → track_samples t (chunks ++ (c ∷ [])) ≡ track_samples t chunks ++ c.samples
samples_grown_by t [] c e = rw e (append-nil c.samples)
samples_grown_by t (d ∷ ds) c e =
    let more : track_samples t (ds ++ (c ∷ [])) ≡ track_samples t ds ++ c.samples = samples_grown_by t ds c e in
    elim (bool_tells (d.track == t)) [
      | inl b ↦ rw b (ap (λ (ss : List Stored). d.samples ++ ss) more ∙ sym (append_assoc d.samples (track_samples t ds) c.samples))
      | inr b ↦ rw b more
    ]

samples_kept_by : (t : ℕ) (chunks : List Chunk) (c : Chunk) → (c.track == t) ≡ false → track_samples t (chunks ++ (c ∷ [])) ≡ track_samples t chunks
samples_kept_by t [] c e = rw e refl
samples_kept_by t (d ∷ ds) c e =
    let more : track_samples t (ds ++ (c ∷ [])) ≡ track_samples t ds = samples_kept_by t ds c e in
    elim (bool_tells (d.track == t)) [ inl b ↦ rw b (ap (λ (ss : List Stored). d.samples ++ ss) more) | inr b ↦ rw b more ]

pub samples_grown : (t : ℕ) (chunks : List Chunk) (c : Chunk) → c.track ≡ t → track_samples t (chunks ++ (c ∷ [])) ≡ track_samples t chunks ++ c.samples
samples_grown t chunks c e = samples_grown_by t chunks c (same_number t c e)

pub rows_grown : (t at : ℕ) (chunks : List Chunk) (c : Chunk) → c.track ≡ t
    → track_rows t at (chunks ++ (c ∷ [])) ≡ track_rows t at chunks ++ (row_at (at + length (stored_bytes (samples_of chunks))) c ∷ [])
rows_grown t at chunks c e = rows_grown_by t at chunks c (same_number t c e)

pub samples_kept : (t : ℕ) (chunks : List Chunk) (c : Chunk) → (c.track ≡ t → ⊥) → track_samples t (chunks ++ (c ∷ [])) ≡ track_samples t chunks
samples_kept t chunks c other = samples_kept_by t chunks c (other_track t c other)

pub rows_kept : (t at : ℕ) (chunks : List Chunk) (c : Chunk) → (c.track ≡ t → ⊥) → track_rows t at (chunks ++ (c ∷ [])) ≡ track_rows t at chunks
rows_kept t at chunks c other = rows_kept_by t at chunks c (other_track t c other)
