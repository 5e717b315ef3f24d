-- The rows that kept samples and chunks stand for, and how they grow.
use Rattle.std.proofs.Common.{◌≡◌, ℕ, ◌+◌, ◌^◌, ◌<◌, ◌≤◌, ◌==◌, cond, List, [], ◌∷◌, ◌++◌, length, take, drop, map, sum, Option, Some, None, refl, sym, ap, ◌∙◌, append_assoc, arith}
use Rattle.std.specs.List.{AllByRecursion}
use Rattle.std.proofs.lemmas.List.{append-nil, length-append, length-map, length-take, length-drop, map-append, take-append-drop, take-append-le, drop-append-le, take_all}
use Rattle.std.proofs.lemmas.List.Sums.{sum_by-cons}
use Rattle.sf_tick.specs.declared.types.Stored.{Stored}
use Rattle.sf_tick.specs.declared.types.Chunk.{Chunk}
use Rattle.sf_meaning.specs.Stbl.{Timed, Row, timed_of, ticks_of, counts_in_rows, places_in_rows, stbl_parts}
use Rattle.sf_tables.specs.declared.kept.KeptSample.{KeptSample}
use Rattle.sf_tables.specs.declared.kept.KeptChunk.{KeptChunk}
use Rattle.sf_tables.specs.declared.totals.SampleTotals.{SampleTotals}
use Rattle.sf_tables.specs.declared.totals.ChunkTotals.{ChunkTotals}
use Rattle.sf_tables.specs.inner.Kept.{OffsetFits, timed_kept, rows_kept, counts_kept, places_kept, stbl_from}
use Rattle.sf_meaning.specs.Rows.{timed, row_at}
use Rattle.sf_tables.specs.Rows.{Addable, AllHaveRoom, with_chunk, last_tick, last_in_rows}
use Rattle.sf_tables.specs.inner.Totals.{CountsSamples, CountsChunks, Steady, after_chunk, after_samples, last_counted, last_or}
use Rattle.sf_tables.specs.inner.Sound.{Sound}
use Rattle.sf_tables.proofs.Backs.{sum-more, some_of}
use Rattle.sf_tables.proofs.Counting.{counts_samples, counts_chunk}
use Rattle.sf_tables.proofs.BoxLengths.{stbl_is}

sum-first : (c : KeptChunk) (cs : List KeptChunk) → sum (counts_kept (c ∷ cs)) ≡ c.count + sum (counts_kept cs)
sum-first c cs = sum_by-cons (λ (x : ℕ). x) c.count (counts_kept cs)

nothing : {A : Type 0} (xs : List A) → 0 ≡ length xs → xs ≡ []
nothing [] e = refl
nothing (x ∷ xs) e = absurd (omega (arith, e))

pub timed_back : (cs : List KeptChunk) (ss : List Timed) → sum (counts_kept cs) ≡ length ss → timed_of (rows_kept cs ss) ≡ ss
timed_back [] ss e = sym (nothing ss e)
timed_back (c ∷ cs) ss e =
    let rest : sum (counts_kept cs) ≡ length (drop c.count ss) = omega (arith, e, sum-first c cs, length-drop c.count ss) in
    ap (λ (xs : List Timed). take c.count ss ++ xs) (timed_back cs (drop c.count ss) rest) ∙ take-append-drop c.count ss

pub counts_back : (cs : List KeptChunk) (ss : List Timed) → sum (counts_kept cs) ≡ length ss → counts_in_rows (rows_kept cs ss) ≡ counts_kept cs
counts_back [] ss e = refl
counts_back (c ∷ cs) ss e =
    let rest : sum (counts_kept cs) ≡ length (drop c.count ss) = omega (arith, e, sum-first c cs, length-drop c.count ss) in
    let one : length (take c.count ss) ≡ c.count = omega (arith, e, sum-first c cs, length-take c.count ss) in
    rw (one, counts_back cs (drop c.count ss) rest) refl

pub places_back : (cs : List KeptChunk) (ss : List Timed) → places_in_rows (rows_kept cs ss) ≡ places_kept cs
places_back [] ss = refl
places_back (c ∷ cs) ss = ap (λ (xs : List ℕ). c.place ∷ xs) (places_back cs (drop c.count ss))

pub rows_more : (cs : List KeptChunk) (ss more : List Timed) (c : KeptChunk) → sum (counts_kept cs) ≡ length ss → c.count ≡ length more
    → rows_kept (cs ++ c ∷ []) (ss ++ more) ≡ rows_kept cs ss ++ record { place = c.place; samples = more } ∷ []
rows_more [] ss more c e k =
    let all : take c.count (ss ++ more) ≡ more = rw (nothing ss e, k) (take_all (length more) more (omega arith)) in
    ap (λ (xs : List Timed). record { place = c.place; samples = xs } ∷ []) all
rows_more (d ∷ cs) ss more c e k =
    let rest : sum (counts_kept cs) ≡ length (drop d.count ss) = omega (arith, e, sum-first d cs, length-drop d.count ss) in
    let le : d.count ≤ length ss = omega (arith, e, sum-first d cs) in
    let one : take d.count (ss ++ more) ≡ take d.count ss = take-append-le d.count ss more le in
    let others : drop d.count (ss ++ more) ≡ drop d.count ss ++ more = drop-append-le d.count ss more le in
    rw (one, others) (ap (λ (rs : List Row). record { place = d.place; samples = take d.count ss } ∷ rs) (rows_more cs (drop d.count ss) more c rest k))

-- what the totals count, in the rows
pub counted : (t : SampleTotals) (k : ChunkTotals) (ss : List KeptSample) (cs : List KeptChunk) → Sound t k ss cs → CountsSamples t (timed_of (rows_kept cs (map timed_kept ss)))
counted t k ss cs s =
    let whole : sum (counts_kept cs) ≡ length (map timed_kept ss) = s.whole ∙ sym (length-map ss timed_kept) in
    rw (timed_back cs (map timed_kept ss) whole) s.of_samples

pub chunks_counted : (t : SampleTotals) (k : ChunkTotals) (ss : List KeptSample) (cs : List KeptChunk) → Sound t k ss cs
    → CountsChunks k (places_in_rows (rows_kept cs (map timed_kept ss))) (counts_in_rows (rows_kept cs (map timed_kept ss)))
chunks_counted t k ss cs s =
    let whole : sum (counts_kept cs) ≡ length (map timed_kept ss) = s.whole ∙ sym (length-map ss timed_kept) in
    rw (places_back cs (map timed_kept ss), counts_back cs (map timed_kept ss) whole) s.of_chunks

last_of : (t : ℕ) (ts : List ℕ) → last_tick (Some t) ts ≡ Some (last_or t ts)
last_of t [] = refl
last_of t (u ∷ ts) = last_of u ts

last_is : (n d : ℕ) (ts : List ℕ) → n ≡ length ts → d ≡ last_or 0 ts → cond (n == 0) None (Some d) ≡ last_tick None ts
last_is n d [] count e = rw count refl
last_is n d (t ∷ ts) count e = rw (count, some_of (length ts), e) (sym (last_of t ts))

pub last_counted_is : (t : SampleTotals) (rows : List Row) → CountsSamples t (timed_of rows) → last_counted t ≡ last_in_rows rows
last_counted_is t rows c = last_is t.count t.decode (ticks_of rows) (c.count ∙ sym (length-map (timed_of rows) (λ (s : Timed). s.decode))) c.decode

pub room_more : (last : Option ℕ) (ss more : List Timed) → AllHaveRoom last ss → AllHaveRoom (last_tick last (map (λ (s : Timed). s.decode) ss)) more → AllHaveRoom last (ss ++ more)
room_more last [] more a b = b
room_more last (s ∷ ss) more a b = (a.0, room_more (Some s.decode) ss more a.1 b)

pub offsets_fit : (last : Option ℕ) (ss : List Timed) → AllHaveRoom last ss → AllByRecursion OffsetFits ss
offsets_fit last [] a = tt
offsets_fit last (s ∷ ss) a = (record { late = a.0.late; early = a.0.early }, offsets_fit (Some s.decode) ss a.1)

pub sizes_fit : (last : Option ℕ) (ss : List Stored) → AllHaveRoom last (map timed ss) → AllByRecursion (λ (s : Stored). length s.bytes < 2 ^ 32) ss
sizes_fit last [] a = tt
sizes_fit last (s ∷ ss) a = (a.0.size, sizes_fit (Some s.decode) ss a.1)

-- the samples and chunks of one more chunk
pub timed_with : (rows : List Row) (place : ℕ) (chunk : Chunk) → timed_of (with_chunk rows place chunk) ≡ timed_of rows ++ map timed chunk.samples
timed_with [] place chunk = append-nil (map timed chunk.samples)
timed_with (r ∷ rows) place chunk = ap (λ (xs : List Timed). r.samples ++ xs) (timed_with rows place chunk) ∙ sym (append_assoc r.samples (timed_of rows) (map timed chunk.samples))

pub counted_with : (t : SampleTotals) (rows : List Row) (place : ℕ) (chunk : Chunk) → CountsSamples t (timed_of rows)
    → CountsSamples (after_samples t (map timed chunk.samples)) (timed_of (with_chunk rows place chunk))
counted_with t rows place chunk c = rw (timed_with rows place chunk) (counts_samples t (timed_of rows) (map timed chunk.samples) c)

pub chunks_counted_with : (k : ChunkTotals) (rows : List Row) (place : ℕ) (chunk : Chunk) → CountsChunks k (places_in_rows rows) (counts_in_rows rows)
    → CountsChunks (after_chunk k place (length chunk.samples)) (places_in_rows (with_chunk rows place chunk)) (counts_in_rows (with_chunk rows place chunk))
chunks_counted_with k rows place chunk c =
    let places : places_in_rows (with_chunk rows place chunk) ≡ places_in_rows rows ++ place ∷ [] = map-append (λ (r : Row). r.place) rows (row_at place chunk ∷ []) in
    let counts : counts_in_rows (with_chunk rows place chunk) ≡ counts_in_rows rows ++ length (map timed chunk.samples) ∷ [] = map-append (λ (r : Row). length r.samples) rows (row_at place chunk ∷ []) in
    rw (places, counts, length-map chunk.samples timed) (counts_chunk k (places_in_rows rows) (counts_in_rows rows) place (length chunk.samples) c)

-- the tables stay sound with one more chunk
pub sound_with : (t : SampleTotals) (k : ChunkTotals) (ss new : List KeptSample) (cs : List KeptChunk) (c : KeptChunk) (chunk : Chunk) → Sound t k ss cs
    → Addable (rows_kept cs (map timed_kept ss)) chunk → map timed_kept new ≡ map timed_kept ss ++ map timed chunk.samples → c.count ≡ length chunk.samples
    → Steady (after_samples t (map timed chunk.samples)) → (after_chunk k c.place c.count).spreads ≤ (after_chunk k c.place c.count).chunks
    → Sound (after_samples t (map timed chunk.samples)) (after_chunk k c.place c.count) new (cs ++ c ∷ [])
sound_with t k ss new cs c chunk s a e n steady spreads =
    let more : List Timed = map timed chunk.samples in
    let whole : sum (counts_kept cs) ≡ length (map timed_kept ss) = s.whole ∙ sym (length-map ss timed_kept) in
    let back : timed_of (rows_kept cs (map timed_kept ss)) ≡ map timed_kept ss = timed_back cs (map timed_kept ss) whole in
    let places : places_kept (cs ++ c ∷ []) ≡ places_kept cs ++ c.place ∷ [] = map-append (λ (x : KeptChunk). x.place) cs (c ∷ []) in
    let counts : counts_kept (cs ++ c ∷ []) ≡ counts_kept cs ++ c.count ∷ [] = map-append (λ (x : KeptChunk). x.count) cs (c ∷ []) in
    let total : length new ≡ length ss + length chunk.samples =
    sym (length-map new timed_kept) ∙ ap (λ (xs : List Timed). length xs) e ∙ omega (arith, length-append (map timed_kept ss) more, length-map ss timed_kept, length-map chunk.samples timed) in
    let before : length (timed_of (rows_kept cs (map timed_kept ss))) ≡ length ss = ap (λ (xs : List Timed). length xs) back ∙ length-map ss timed_kept in
    record {
      of_samples = rw e (counts_samples t (map timed_kept ss) more s.of_samples);
      of_chunks = rw (places, counts) (counts_chunk k (places_kept cs) (counts_kept cs) c.place c.count s.of_chunks);
      steady = steady;
      spreads = spreads;
      whole = rw (counts, sum-more (counts_kept cs) c.count, total, s.whole, n) refl;
      some = omega (arith, length-append cs (c ∷ []), s.some, a.some, total);
      few = omega (arith, total, before, a.few);
      room = rw e (room_more None (map timed_kept ss) more s.room (rw back at a.room));
    }

-- the rows with one more chunk
pub rows_with : (ss new : List KeptSample) (cs : List KeptChunk) (c : KeptChunk) (chunk : Chunk) → sum (counts_kept cs) ≡ length ss
    → map timed_kept new ≡ map timed_kept ss ++ map timed chunk.samples → c.count ≡ length chunk.samples
    → rows_kept (cs ++ c ∷ []) (map timed_kept new) ≡ with_chunk (rows_kept cs (map timed_kept ss)) c.place chunk
rows_with ss new cs c chunk whole e n =
    let same : sum (counts_kept cs) ≡ length (map timed_kept ss) = whole ∙ sym (length-map ss timed_kept) in
    rw e (rows_more cs (map timed_kept ss) (map timed chunk.samples) c same (n ∙ sym (length-map chunk.samples timed)))

pub count_back : (t : SampleTotals) (k : ChunkTotals) (ss : List KeptSample) (cs : List KeptChunk) → Sound t k ss cs → length (timed_of (rows_kept cs (map timed_kept ss))) ≡ length ss
count_back t k ss cs s =
    let whole : sum (counts_kept cs) ≡ length (map timed_kept ss) = s.whole ∙ sym (length-map ss timed_kept) in
    ap (λ (xs : List Timed). length xs) (timed_back cs (map timed_kept ss) whole) ∙ length-map ss timed_kept

-- there are fewer chunks than numbers of 32 bits, also with one more
pub chunks_few : (t : SampleTotals) (k : ChunkTotals) (ss : List KeptSample) (cs : List KeptChunk) (chunk : Chunk) → Sound t k ss cs → Addable (rows_kept cs (map timed_kept ss)) chunk → k.chunks + 1 < 2 ^ 32
chunks_few t k ss cs chunk s a =
    omega (arith, s.of_chunks.chunks, length-map cs (λ (c : KeptChunk). c.place), s.some, a.some, a.few, count_back t k ss cs s)

pub stbl_back : (t : SampleTotals) (k : ChunkTotals) (ss : List KeptSample) (cs : List KeptChunk) (entry : List ℕ) → Sound t k ss cs
    → stbl_parts entry (rows_kept cs (map timed_kept ss)) ≡ stbl_from entry (map timed_kept ss) (places_kept cs) (counts_kept cs)
stbl_back t k ss cs entry s =
    let whole : sum (counts_kept cs) ≡ length (map timed_kept ss) = s.whole ∙ sym (length-map ss timed_kept) in
    stbl_is entry (rows_kept cs (map timed_kept ss))
    ∙ ap (λ (xs : List Timed). stbl_from entry xs (places_in_rows (rows_kept cs (map timed_kept ss))) (counts_in_rows (rows_kept cs (map timed_kept ss)))) (timed_back cs (map timed_kept ss) whole)
    ∙ ap (λ (xs : List ℕ). stbl_from entry (map timed_kept ss) xs (counts_in_rows (rows_kept cs (map timed_kept ss)))) (places_back cs (map timed_kept ss))
    ∙ ap (λ (xs : List ℕ). stbl_from entry (map timed_kept ss) (places_kept cs) xs) (counts_back cs (map timed_kept ss) whole)

last_append : (before : Option ℕ) (xs ys : List ℕ) → last_tick before (xs ++ ys) ≡ last_tick (last_tick before xs) ys
last_append before [] ys = refl
last_append before (x ∷ xs) ys = last_append (Some x) xs ys

-- the number of samples, and the last tick, with one more chunk
pub count_with : (rows : List Row) (place : ℕ) (chunk : Chunk) → length (timed_of (with_chunk rows place chunk)) ≡ length (timed_of rows) + length chunk.samples
count_with rows place chunk =
    ap (λ (xs : List Timed). length xs) (timed_with rows place chunk)
    ∙ omega (arith, length-append (timed_of rows) (map timed chunk.samples), length-map chunk.samples timed)

pub last_with : (rows : List Row) (place : ℕ) (chunk : Chunk)
    → last_in_rows (with_chunk rows place chunk) ≡ last_tick (last_in_rows rows) (map (λ (s : Timed). s.decode) (map timed chunk.samples))
last_with rows place chunk =
    ap (λ (xs : List Timed). last_tick None (map (λ (s : Timed). s.decode) xs)) (timed_with rows place chunk)
    ∙ ap (last_tick None) (map-append (λ (s : Timed). s.decode) (timed_of rows) (map timed chunk.samples))
    ∙ last_append None (ticks_of rows) (map (λ (s : Timed). s.decode) (map timed chunk.samples))
