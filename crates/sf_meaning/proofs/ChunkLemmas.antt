-- Chunks of stored samples that stand one after the other in a file, as rows of its tables.
use Rattle.std.proofs.Common.{◌≡◌, ℕ, suc, pos, ◌+ℤ◌, ◌-ℤ◌, ◌+◌, ◌-◌, ◌<◌, ◌≤◌, List, [], ◌∷◌, ◌++◌, length, take, drop, map, Ok, refl, sym, ap, ◌∙◌, append_assoc, arith}
use Rattle.std.specs.List.{AllByRecursion}
use Rattle.std.proofs.lemmas.List.{map-append, length-append, drop-drop, take_at, drop_at}
use Rattle.std.proofs.lemmas.Bool.{le-leb}
use Rattle.std.proofs.lemmas.Int.{ints}
use Rattle.sf_tick.specs.declared.types.Stored.{Stored}
use Rattle.sf_tick.specs.declared.types.Chunk.{Chunk}
use Rattle.sf_meaning.specs.Joined.{Held, held_in_file, later}
use Rattle.sf_meaning.specs.Groups.{Group, group_of}
use Rattle.sf_meaning.specs.Written.{samples_at, held_since}
use Rattle.sf_meaning.specs.Tracks.{held_in}
use Rattle.sf_meaning.specs.Stbl.{Timed, timed_of, ticks_of}
use Rattle.sf_tick.specs.Samples.{samples_of}
use Rattle.sf_meaning.specs.Rows.{stored_bytes, decodes_of, held_as, timed, rows_from}
use Rattle.sf_meaning.specs.Writable.{IsWritable}
use Rattle.sf_meaning.specs.declared.movie.PlainSample.{PlainSample}

-- what the tables list of chunks
pub timed_rows : (at : ℕ) (chunks : List Chunk) → timed_of (rows_from at chunks) ≡ map timed (samples_of chunks)
timed_rows at [] = refl
timed_rows at (c ∷ cs) =
    ap (λ (ts : List Timed). map timed c.samples ++ ts) (timed_rows (at + length (stored_bytes c.samples)) cs) ∙ sym (map-append timed c.samples (samples_of cs))

decodes_timed : (ss : List Stored) → map (λ s. s.decode) (map timed ss) ≡ decodes_of ss
decodes_timed [] = refl
decodes_timed (s ∷ ss) = ap (λ (ts : List ℕ). s.decode ∷ ts) (decodes_timed ss)

pub ticks_rows : (at : ℕ) (chunks : List Chunk) → ticks_of (rows_from at chunks) ≡ decodes_of (samples_of chunks)
ticks_rows at chunks = ap (λ (ts : List Timed). map (λ (s : Timed). s.decode) ts) (timed_rows at chunks) ∙ decodes_timed (samples_of chunks)

pub chunk_held : (bytes track base place : ℕ) (ss : List Stored) (rest : List PlainSample) → place + length (stored_bytes ss) ≤ bytes → AllByRecursion IsWritable ss
    → ((j : ℕ) → held_in bytes track j rest ≡ Ok tt) → (i : ℕ) → held_in bytes track i (samples_at base place (map timed ss) ++ rest) ≡ Ok tt
chunk_held bytes track base place [] rest le all more i = more i
chunk_held bytes track base place (s ∷ ss) rest le all more i =
    let long : length (s.bytes ++ stored_bytes ss) ≡ length s.bytes + length (stored_bytes ss) = length-append s.bytes (stored_bytes ss) in
    rw (le-leb (place + length s.bytes) bytes (omega (arith, le, long)), le-leb (length s.bytes) 67108864 all.0.short)
    (chunk_held bytes track base (place + length s.bytes) ss rest (omega (arith, le, long)) all.1 more (i + 1))

-- listed samples with their bytes
abbrev pub with_bytes : List ℕ → List PlainSample → List Held
with_bytes file samples = map (held_in_file file) samples

pub chunk_shown : (file : List ℕ) (base place : ℕ) (ss : List Stored) (rest : List ℕ) → drop place file ≡ stored_bytes ss ++ rest
    → with_bytes file (samples_at base place (map timed ss)) ≡ map (held_since base) ss
chunk_shown file base place [] rest e = refl
chunk_shown file base place (s ∷ ss) rest e =
    let front : drop place file ≡ s.bytes ++ (stored_bytes ss ++ rest) = e ∙ append_assoc s.bytes (stored_bytes ss) rest in
    let first : take (length s.bytes) (drop place file) ≡ s.bytes = ap (take (length s.bytes)) front ∙ take_at s.bytes (stored_bytes ss ++ rest) (length s.bytes) refl in
    let behind : drop (place + length s.bytes) file ≡ stored_bytes ss ++ rest =
    sym (drop-drop (length s.bytes) place file) ∙ ap (drop (length s.bytes)) front ∙ drop_at s.bytes (stored_bytes ss ++ rest) (length s.bytes) refl in
    rw first (ap (λ (hs : List Held). held_since base s ∷ hs) (chunk_shown file base (place + length s.bytes) ss rest behind))

-- times from the series' start
pub since_start : (by : ℕ) (ss : List Stored) → AllByRecursion (λ s. by ≤ s.decode) (map timed ss) → later by (map (held_since by) ss) ≡ map held_as ss
since_start by [] above = refl
since_start by (s ∷ ss) above =
    let decode : s.decode - by + by ≡ s.decode = omega (arith, above.0) in
    let compose : (pos s.compose -ℤ pos by) +ℤ pos by ≡ pos s.compose = omega (arith, ints) in
    rw (decode, compose) (ap (λ (hs : List Held). held_as s ∷ hs) (since_start by ss above.1))

pub length-samples_at : (base place : ℕ) (ss : List Timed) → length (samples_at base place ss) ≡ length ss
length-samples_at base place [] = refl
length-samples_at base place (s ∷ ss) = ap suc (length-samples_at base (place + s.size) ss)

-- a chunk that isn't empty makes a group
pub group_is : (file : List ℕ) (base place : ℕ) (ss : List Stored) (rest : List ℕ) → 0 < length ss → drop place file ≡ stored_bytes ss ++ rest
    → group_of file (samples_at base place (map timed ss)) ≡ record { place = place; samples = map (held_since base) ss } ∷ []
group_is file base place [] rest some e = absurd (omega (arith, some))
group_is file base place (s ∷ ss) rest some e =
    ap (λ (hs : List Held). let g : Group = record { place = place; samples = hs } in g ∷ []) (chunk_shown file base place (s ∷ ss) rest e)
