-- The chunks of one track among those of several that stand one after the other in a file.
use Rattle.std.proofs.Common.{◌≡◌, ℕ, ◌+◌, ◌^◌, ◌<◌, ◌≤◌, ◌==◌, true, false, List, [], ◌∷◌, ◌++◌, length, drop, map, Ok, refl, sym, ap, ◌∙◌, append_assoc, subst, arith, inl, inr}
use Rattle.std.specs.List.{AllByRecursion}
use Rattle.std.proofs.lemmas.List.{map-append, length-append, length-map, drop-drop, take_at, drop_at}
use Rattle.std.proofs.lemmas.List.Concat.{flat_map-append}
use Rattle.sf_tick.specs.declared.types.Stored.{Stored}
use Rattle.sf_tick.specs.declared.types.Chunk.{Chunk}
use Rattle.sf_entry.specs.declared.track_setup.TrackSetup.{TrackSetup}
use Rattle.sf_meaning.specs.Joined.{Held, held_in_file}
use Rattle.sf_meaning.specs.Groups.{Group, cut}
use Rattle.sf_meaning.specs.Tracks.{held_in}
use Rattle.sf_meaning.specs.Stbl.{Timed, timed_of, ticks_of, places_in_rows, counts_in_rows}
use Rattle.sf_meaning.specs.Rows.{decodes_of, timed}
use Rattle.sf_meaning.specs.Written.{samples_at, listed, held_since}
use Rattle.sf_meaning.specs.Writable.{PacedFrom, Sized, Tellable}
use Rattle.sf_meaning.specs.declared.movie.PlainSample.{PlainSample}
use Rattle.sf_meaning.proofs.MeaningLaws.{chunk_held, chunk_shown, length-samples_at, group_is}
use Rattle.sf_layout.specs.Layout.{samples_of, stored_bytes, track_samples, track_rows}
use Rattle.sf_layout.specs.Written.{first_tick, base_of, track_groups}
use Rattle.sf_layout.specs.Writable.{IsWritable, WritableTrack}
use Rattle.sf_meaning.proofs.ListLemmas.{bool_tells, all_front, all_behind}
use Rattle.sf_layout.proofs.Timing.{paced_of, brief}

-- where the chunk after another begins
abbrev next : ℕ → Chunk → ℕ
next at c = at + length (stored_bytes c.samples)

stored-append : (ss ts : List Stored) → stored_bytes (ss ++ ts) ≡ stored_bytes ss ++ stored_bytes ts
stored-append ss ts = flat_map-append (λ (s : Stored). s.bytes) ss ts

pub length-stored : (ss ts : List Stored) → length (stored_bytes (ss ++ ts)) ≡ length (stored_bytes ss) + length (stored_bytes ts)
length-stored ss ts = ap length (stored-append ss ts) ∙ length-append (stored_bytes ss) (stored_bytes ts)

-- what the tables list of a track's chunks
pub rows_timed : (number at : ℕ) (chunks : List Chunk) → timed_of (track_rows number at chunks) ≡ map timed (track_samples number chunks)
rows_timed number at [] = refl
rows_timed number at (c ∷ cs) =
    elim (bool_tells (c.track == number)) [
      | inl t ↦ rw t (ap (λ (ts : List Timed). map timed c.samples ++ ts) (rows_timed number (next at c) cs) ∙ sym (map-append timed c.samples (track_samples number cs)))
      | inr f ↦ rw f (rows_timed number (next at c) cs)
    ]

decodes_timed : (ss : List Stored) → map (λ s. s.decode) (map timed ss) ≡ decodes_of ss
decodes_timed [] = refl
decodes_timed (s ∷ ss) = ap (λ (ts : List ℕ). s.decode ∷ ts) (decodes_timed ss)

pub rows_ticks : (number at : ℕ) (chunks : List Chunk) → ticks_of (track_rows number at chunks) ≡ decodes_of (track_samples number chunks)
rows_ticks number at chunks = ap (λ (ts : List Timed). map (λ (s : Timed). s.decode) ts) (rows_timed number at chunks) ∙ decodes_timed (track_samples number chunks)

rows_filled : (number at : ℕ) (chunks : List Chunk) → AllByRecursion (λ c. 0 < length c.samples) chunks → AllByRecursion (λ r. 0 < length r.samples) (track_rows number at chunks)
rows_filled number at [] all = tt
rows_filled number at (c ∷ cs) all =
    elim (bool_tells (c.track == number)) [
      | inl t ↦ rw t (omega (arith, all.0, length-map c.samples timed), rows_filled number (next at c) cs all.1)
      | inr f ↦ rw f (rows_filled number (next at c) cs all.1)
    ]

rows_near : (number at : ℕ) (chunks : List Chunk) → at + length (stored_bytes (samples_of chunks)) < 2 ^ 64 → AllByRecursion (λ p. p < 2 ^ 64) (places_in_rows (track_rows number at chunks))
rows_near number at [] lt = tt
rows_near number at (c ∷ cs) lt =
    let long : length (stored_bytes (c.samples ++ samples_of cs)) ≡ length (stored_bytes c.samples) + length (stored_bytes (samples_of cs)) = length-stored c.samples (samples_of cs) in
    let more : AllByRecursion (λ p. p < 2 ^ 64) (places_in_rows (track_rows number (next at c) cs)) = rows_near number (next at c) cs (omega (arith, lt, long)) in
    elim (bool_tells (c.track == number)) [ inl t ↦ rw t (omega (arith, lt), more) | inr f ↦ rw f more ]

all_sized : (ss : List Stored) → AllByRecursion IsWritable ss → AllByRecursion Sized (map timed ss)
all_sized [] all = tt
all_sized (s ∷ ss) all = (record { some = all.0.some; short = all.0.short; near = (all.0.early, all.0.late) }, all_sized ss all.1)

-- the tables can say a track's chunks
pub rows_tellable : (number at : ℕ) (setup : TrackSetup) (chunks : List Chunk) → AllByRecursion (λ c. 0 < length c.samples) chunks → WritableTrack setup (track_samples number chunks)
    → at + length (stored_bytes (samples_of chunks)) < 2 ^ 64 → Tellable setup.scale (base_of number chunks) (track_rows number at chunks)
rows_tellable number at setup chunks filled w lt =
    let ss : List Stored = track_samples number chunks in
    let same : timed_of (track_rows number at chunks) ≡ map timed ss = rows_timed number at chunks in
    let n : length (timed_of (track_rows number at chunks)) ≡ length ss = ap length same ∙ length-map ss timed in
    let ticks : ticks_of (track_rows number at chunks) ≡ decodes_of ss = rows_ticks number at chunks in
    record {
      filled = rows_filled number at chunks filled;
      each = rw same (all_sized ss w.each);
      paced = subst (PacedFrom (first_tick ss)) (sym ticks) (paced_of setup.scale ss w.timed w.rise);
      few = omega (arith, n, w.few);
      early = rw ticks (brief setup.scale ss w.scale_some w.timed w.rise);
      places = rows_near number at chunks lt;
    }

pub samples_with : (number : ℕ) (c : Chunk) (cs : List Chunk) → (c.track == number) ≡ true → track_samples number (c ∷ cs) ≡ c.samples ++ track_samples number cs
samples_with number c cs t = rw t refl

pub samples_without : (number : ℕ) (c : Chunk) (cs : List Chunk) → (c.track == number) ≡ false → track_samples number (c ∷ cs) ≡ track_samples number cs
samples_without number c cs f = rw f refl

-- a file holds the samples of a track whose chunks end in it
pub rows_held : (bytes track base number at : ℕ) (chunks : List Chunk) → at + length (stored_bytes (samples_of chunks)) ≤ bytes → AllByRecursion IsWritable (track_samples number chunks)
    → (i : ℕ) → held_in bytes track i (listed base (track_rows number at chunks)) ≡ Ok tt
rows_held bytes track base number at [] le all i = refl
rows_held bytes track base number at (c ∷ cs) le all i =
    let long : length (stored_bytes (c.samples ++ samples_of cs)) ≡ length (stored_bytes c.samples) + length (stored_bytes (samples_of cs)) = length-stored c.samples (samples_of cs) in
    elim (bool_tells (c.track == number)) [
      | inl t ↦
          let both : AllByRecursion IsWritable (c.samples ++ track_samples number cs) = subst (AllByRecursion IsWritable) (samples_with number c cs t) all in
          rw t
          (chunk_held bytes track base at c.samples (listed base (track_rows number (next at c) cs)) (omega (arith, le, long)) (all_front IsWritable c.samples (track_samples number cs) both)
          (rows_held bytes track base number (next at c) cs (omega (arith, le, long)) (all_behind IsWritable c.samples (track_samples number cs) both)) i)
      | inr f ↦ rw f (rows_held bytes track base number (next at c) cs (omega (arith, le, long)) (subst (AllByRecursion IsWritable) (samples_without number c cs f) all) i)
    ]

-- what stands in front of the rest of a file's samples
chunk_front : (file : List ℕ) (at : ℕ) (c : Chunk) (cs : List Chunk) (rest : List ℕ) → drop at file ≡ stored_bytes (samples_of (c ∷ cs)) ++ rest
    → drop at file ≡ stored_bytes c.samples ++ (stored_bytes (samples_of cs) ++ rest)
chunk_front file at c cs rest e =
    e ∙ ap (λ (b : List ℕ). b ++ rest) (stored-append c.samples (samples_of cs)) ∙ append_assoc (stored_bytes c.samples) (stored_bytes (samples_of cs)) rest

chunk_after : (file : List ℕ) (at : ℕ) (c : Chunk) (cs : List Chunk) (rest : List ℕ) → drop at file ≡ stored_bytes (samples_of (c ∷ cs)) ++ rest
    → drop (next at c) file ≡ stored_bytes (samples_of cs) ++ rest
chunk_after file at c cs rest e =
    let n : ℕ = length (stored_bytes c.samples) in
    sym (drop-drop n at file) ∙ ap (drop n) (chunk_front file at c cs rest e) ∙ drop_at (stored_bytes c.samples) (stored_bytes (samples_of cs) ++ rest) n refl

-- the samples of a track in a file are the stored ones, each once, in order
pub rows_shown : (file : List ℕ) (base number at : ℕ) (chunks : List Chunk) (rest : List ℕ) → drop at file ≡ stored_bytes (samples_of chunks) ++ rest
    → map (held_in_file file) (listed base (track_rows number at chunks)) ≡ map (held_since base) (track_samples number chunks)
rows_shown file base number at [] rest e = refl
rows_shown file base number at (c ∷ cs) rest e =
    let more : map (held_in_file file) (listed base (track_rows number (next at c) cs)) ≡ map (held_since base) (track_samples number cs) =
    rows_shown file base number (next at c) cs rest (chunk_after file at c cs rest e) in
    let front : drop at file ≡ stored_bytes c.samples ++ (stored_bytes (samples_of cs) ++ rest) = chunk_front file at c cs rest e in
    elim (bool_tells (c.track == number)) [
      | inl t ↦
          rw t
          (map-append (held_in_file file) (samples_at base at (map timed c.samples)) (listed base (track_rows number (next at c) cs))
          ∙ ap (λ (hs : List Held). hs ++ map (held_in_file file) (listed base (track_rows number (next at c) cs))) (chunk_shown file base at c.samples (stored_bytes (samples_of cs) ++ rest) front)
          ∙ ap (λ (hs : List Held). map (held_since base) c.samples ++ hs) more
          ∙ sym (map-append (held_since base) c.samples (track_samples number cs)))
      | inr f ↦ rw f more
    ]

-- the samples of a track in a file, cut where the chunk changes
pub rows_cut : (file : List ℕ) (base number at : ℕ) (chunks : List Chunk) (rest : List ℕ) → AllByRecursion (λ c. 0 < length c.samples) chunks
    → drop at file ≡ stored_bytes (samples_of chunks) ++ rest
    → cut file (counts_in_rows (track_rows number at chunks)) (listed base (track_rows number at chunks)) ≡ track_groups base number at chunks
rows_cut file base number at [] rest filled e = refl
rows_cut file base number at (c ∷ cs) rest filled e =
    let more : cut file (counts_in_rows (track_rows number (next at c) cs)) (listed base (track_rows number (next at c) cs)) ≡ track_groups base number (next at c) cs =
    rows_cut file base number (next at c) cs rest filled.1 (chunk_after file at c cs rest e) in
    let first : List PlainSample = samples_at base at (map timed c.samples) in
    let others : List PlainSample = listed base (track_rows number (next at c) cs) in
    let n : length first ≡ length (map timed c.samples) = length-samples_at base at (map timed c.samples) in
    elim (bool_tells (c.track == number)) [
      | inl t ↦
          rw t
          (rw (
            take_at first others (length (map timed c.samples)) n,
            drop_at first others (length (map timed c.samples)) n,
            group_is file base at c.samples (stored_bytes (samples_of cs) ++ rest) filled.0 (chunk_front file at c cs rest e),
          )
          (ap (λ (gs : List Group). let g : Group = record { place = at; samples = map (held_since base) c.samples } in g ∷ gs) more))
      | inr f ↦ rw f more
    ]
