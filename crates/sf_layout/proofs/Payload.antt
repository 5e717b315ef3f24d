-- How many bytes the samples of writable chunks have.
use Rattle.std.proofs.Common.{◌≡◌, ℕ, zero, suc, ◌+◌, ◌*◌, ◌^◌, ◌<◌, ◌≤◌, ◌==◌, true, false, List, [], ◌∷◌, length, refl, ap, ◌∙◌, arith, inl, inr}
use Rattle.std.specs.List.{AllByRecursion}
use Rattle.std.proofs.lemmas.List.{length-append}
use Rattle.std.proofs.lemmas.Bool.{eqb-true, cases_lt}
use Rattle.sf_tick.specs.declared.types.Stored.{Stored}
use Rattle.sf_tick.specs.declared.types.Chunk.{Chunk}
use Rattle.sf_entry.specs.declared.track_setup.TrackSetup.{TrackSetup}
use Rattle.sf_layout.specs.Layout.{samples_of, stored_bytes, track_samples}
use Rattle.sf_layout.specs.Writable.{IsWritable, AllWritable, Writable}
use Rattle.sf_meaning.proofs.ListLemmas.{bool_tells}
use Rattle.sf_layout.proofs.TrackRows.{length-stored, samples_with, samples_without}

-- how many bytes the samples of a track have
abbrev bytes_of : ℕ → List Chunk → ℕ
bytes_of k chunks = length (stored_bytes (track_samples k chunks))

-- the same of so many tracks, from one on
abbrev total : ℕ → ℕ → List Chunk → ℕ
total k zero chunks = 0
total k (suc n) chunks = bytes_of k chunks + total (k + 1) n chunks

total_none : (k n : ℕ) → total k n [] ≡ 0
total_none k zero = refl
total_none k (suc n) = omega (arith, total_none (k + 1) n)

bytes_with : (k : ℕ) (c : Chunk) (cs : List Chunk) → (c.track == k) ≡ true → bytes_of k (c ∷ cs) ≡ length (stored_bytes c.samples) + bytes_of k cs
bytes_with k c cs t = ap (λ (ss : List Stored). length (stored_bytes ss)) (samples_with k c cs t) ∙ length-stored c.samples (track_samples k cs)

bytes_without : (k : ℕ) (c : Chunk) (cs : List Chunk) → (c.track == k) ≡ false → bytes_of k (c ∷ cs) ≡ bytes_of k cs
bytes_without k c cs f = ap (λ (ss : List Stored). length (stored_bytes ss)) (samples_without k c cs f)

pub other_track : (k : ℕ) (c : Chunk) → (c.track ≡ k → ⊥) → (c.track == k) ≡ false
other_track k c other = elim (bool_tells (c.track == k)) [ inl t ↦ absurd (other (eqb-true c.track k t)) | inr f ↦ f ]

same_track : (k : ℕ) (c : Chunk) → (c.track == k) ≡ false → c.track ≡ k → ⊥
same_track k c f e = grind (arith, f, e)

after_it : (k : ℕ) (c : Chunk) → k ≤ c.track → (c.track == k) ≡ false → k + 1 ≤ c.track
after_it k c le f = elim (cases_lt k c.track) [ inl lt ↦ omega (arith, lt) | inr ge ↦ absurd (same_track k c f (omega (arith, le, ge))) ]

total_below : (k n : ℕ) (c : Chunk) (cs : List Chunk) → c.track < k → total k n (c ∷ cs) ≡ total k n cs
total_below k zero c cs lt = refl
total_below k (suc n) c cs lt =
    let f : (c.track == k) ≡ false = other_track k c (λ e. omega (arith, e, lt)) in
    omega (arith, bytes_without k c cs f, total_below (k + 1) n c cs (omega (arith, lt)))

total_in : (k n : ℕ) (c : Chunk) (cs : List Chunk) → k ≤ c.track → c.track < k + n → total k n (c ∷ cs) ≡ length (stored_bytes c.samples) + total k n cs
total_in k zero c cs le lt = absurd (omega (arith, le, lt))
total_in k (suc n) c cs le lt =
    elim (bool_tells (c.track == k)) [
      | inl t ↦ omega (arith, bytes_with k c cs t, total_below (k + 1) n c cs (omega (arith, eqb-true c.track k t)))
      | inr f ↦
          let more : k + 1 ≤ c.track = after_it k c le f in
          omega (arith, bytes_without k c cs f, total_in (k + 1) n c cs more (omega (arith, lt)))
    ]

-- all the bytes are those of the tracks
total_is : (n : ℕ) (chunks : List Chunk) → AllByRecursion (λ c. c.track < n) chunks → length (stored_bytes (samples_of chunks)) ≡ total 0 n chunks
total_is n [] all = omega (arith, total_none 0 n)
total_is n (c ∷ cs) all = omega (arith, length-stored c.samples (samples_of cs), total_is n cs all.1, total_in 0 n c cs (omega arith) (omega (arith, all.0)))

stored_short : (ss : List Stored) → AllByRecursion IsWritable ss → length (stored_bytes ss) ≤ 67108864 * length ss
stored_short [] all = omega arith
stored_short (s ∷ ss) all = omega (arith, all.0.short, stored_short ss all.1, length-append s.bytes (stored_bytes ss))

total_short : (k : ℕ) (setups : List TrackSetup) (chunks : List Chunk) → AllWritable k setups chunks → total k (length setups) chunks ≤ 2 ^ 50 * length setups
total_short k [] chunks all = omega arith
total_short k (setup ∷ setups) chunks all =
    omega (arith, stored_short (track_samples k chunks) all.0.each, all.0.few, total_short (k + 1) setups chunks all.1)

-- the places in the file are numbers of eight bytes
pub payload_of : (setups : List TrackSetup) (chunks : List Chunk) → Writable setups chunks → 40 + length (stored_bytes (samples_of chunks)) < 2 ^ 64
payload_of setups chunks w = omega (arith, total_is (length setups) chunks w.known, total_short 0 setups chunks w.each, w.tracks)
