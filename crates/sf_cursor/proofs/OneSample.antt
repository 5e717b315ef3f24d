-- The sample that the tables of a cursor list under a number.
use Rattle.std.proofs.Common.{◌≡◌, ℕ, zero, suc, ℤ, pos, neg_ℤ, ◌+ℤ◌, ◌≤ℤ◌, ◌<ℤ◌, ◌+◌, ◌-◌, ◌^◌, ◌<◌, ◌≤◌, nat_le, Bool, true, false, List, [], ◌∷◌, length, take, drop, sum, get_or, Some, Result, Ok, refl, sym, ap, ◌∙◌, subst, arith}
use Rattle.std.specs.List.{slice_get}
use Rattle.std.proofs.lemmas.Bool.{leb-true}
use Rattle.std.proofs.lemmas.Int.{ints}
use Rattle.sf_meaning.specs.Steps.{◌>>◌, check}
use Rattle.sf_meaning.specs.inner.TrackTables.{tables_view}
use Rattle.sf_meaning.specs.Tables.{is_sync}
use Rattle.sf_meaning.specs.ReadTables.{sizes_view}
use Rattle.sf_meaning.specs.SampleAt.{IsChunkOf, IsSampleAt, before}
use Rattle.sf_meaning.specs.TrackSamples.{Tables, counts_of, listed, samples_said, samples_in}
use Rattle.sf_meaning.specs.declared.entries.ChunkAt.{ChunkAt}
use Rattle.sf_meaning.specs.declared.movie.PlainSample.{PlainSample}
use Rattle.sf_meaning.specs.declared.track_tables.Tables.{Tables as HeldTables}
use Rattle.sf_cursor.specs.Cursor.{HasPlace, IsComposed}
use Rattle.sf_cursor.specs.inner.Sound.{IsInChunk, Sound, counts_in, counts_of_runs}
use Rattle.sf_cursor.specs.inner.Held.{AreInChunks}
use Rattle.sf_cursor.proofs.ChunkSums.{chunk_found}
use Rattle.sf_cursor.proofs.TickSums.{length_expand}

-- ---- what the tables say

-- a check that held, and what follows it
checked : {B E : Type 0} (b : Bool) (fault : E) (q : Result B E) (y : B) → (check b fault >> q) ≡ Ok y → (b ≡ true) × (q ≡ Ok y)
checked true fault q y e = (refl, e)
checked false fault q y e = absurd (cc e)

-- the chunks hold as many samples as the tables say
pub enough : (scale entries n : ℕ) (t : Tables) → samples_said scale entries n t ≡ Ok tt → n ≤ sum (counts_of t)
unfolding samples_said
enough scale entries n t e =
    let b = checked (nat_le n (length t.deltas)) _ _ tt e in
    let c = checked _ _ _ tt b.1 in
    let d = checked (nat_le n (sum (counts_of t))) _ _ tt c.1 in
    leb-true n (sum (counts_of t)) d.0

-- the deltas reach as many samples
pub timed : (scale entries n : ℕ) (t : Tables) → samples_said scale entries n t ≡ Ok tt → n ≤ length t.deltas
unfolding samples_said
timed scale entries n t e =
    let b = checked (nat_le n (length t.deltas)) _ _ tt e in
    leb-true n (length t.deltas) b.0

pub all_listed : (scale entries : ℕ) (t : Tables) → samples_said scale entries (length t.sizes) t ≡ Ok tt → samples_in scale entries t ≡ Ok (listed t)
unfolding samples_in
all_listed scale entries t e = rw e refl

there_is : {A : Type 0} (xs : List A) (i : ℕ) → i < length xs → (x : A) × (slice_get xs i ≡ Some x)
there_is [] i lt = absurd (omega (arith, lt))
there_is (x ∷ xs) zero lt = (x, refl)
there_is (x ∷ xs) (suc i) lt = there_is xs i (omega (arith, lt))

-- The law of samples one by one, as it is handed on.
pub record Law : Type 0 where
  pub each : (scale entries : ℕ) (t : Tables) (samples : List PlainSample) → samples_in scale entries t ≡ Ok samples
      → (i : ℕ) (s : PlainSample) → slice_get samples i ≡ Some s → (c : ℕ) × IsSampleAt t i c s
  pub all : (scale entries : ℕ) (t : Tables) (samples : List PlainSample) → samples_in scale entries t ≡ Ok samples → length samples ≡ length t.sizes

-- What is listed under a number.
record Listed (t : Tables) (i : ℕ) : Type 0 where
  s : PlainSample
  at : slice_get (listed t) i ≡ Some s
  c : ℕ
  is : IsSampleAt t i c s

is_listed : Law → (scale entries : ℕ) (t : Tables) → samples_said scale entries (length t.sizes) t ≡ Ok tt → (i : ℕ) → i < length t.sizes → Listed t i
is_listed law scale entries t e i lt =
    let all : samples_in scale entries t ≡ Ok (listed t) = all_listed scale entries t e in
    let long : length (listed t) ≡ length t.sizes = law.all scale entries t (listed t) all in
    let one = there_is (listed t) i (omega (arith, long, lt)) in
    let is = law.each scale entries t (listed t) all i one.0 one.1 in
    record { s = one.0; at = one.1; c = is.0; is = is.1 }

-- ---- a sample is in one chunk, and the tables say one sample

one_chunk : (counts : List ℕ) (i c d : ℕ) → IsChunkOf counts i c → IsChunkOf counts i d → c ≡ d
one_chunk counts i c d a b =
    let low : c ≤ d = a.least d b.past in
    let high : d ≤ c = b.least c a.past in
    omega (arith, low, high)

equal : (a b : PlainSample) → a.decode ≡ b.decode → a.compose ≡ b.compose → a.sync ≡ b.sync → a.place ≡ b.place → a.size ≡ b.size → a.description ≡ b.description → a ≡ b
equal a b p q r s t u =
    ap (λ (x : ℕ). record { decode = x; compose = a.compose; sync = a.sync; place = a.place; size = a.size; description = a.description }) p
    ∙ ap (λ (x : ℤ). record { decode = b.decode; compose = x; sync = a.sync; place = a.place; size = a.size; description = a.description }) q
    ∙ ap (λ (x : Bool). record { decode = b.decode; compose = b.compose; sync = x; place = a.place; size = a.size; description = a.description }) r
    ∙ ap (λ (x : ℕ). record { decode = b.decode; compose = b.compose; sync = b.sync; place = x; size = a.size; description = a.description }) s
    ∙ ap (λ (x : ℕ). record { decode = b.decode; compose = b.compose; sync = b.sync; place = b.place; size = x; description = a.description }) t
    ∙ ap (λ (x : ℕ). record { decode = b.decode; compose = b.compose; sync = b.sync; place = b.place; size = b.size; description = x }) u

one_sample : (t : Tables) (i c : ℕ) (a b : PlainSample) → IsSampleAt t i c a → IsSampleAt t i c b → a ≡ b
one_sample t i c a b p q =
    let decode : a.decode ≡ b.decode = p.decode ∙ sym q.decode in
    equal a b decode (p.compose ∙ ap (λ (x : ℕ). pos x +ℤ get_or t.offsets i (pos 0)) decode ∙ sym q.compose)
    (p.sync ∙ sym q.sync) (p.place ∙ sym q.place) (p.size ∙ sym q.size) (p.description ∙ sym q.description)

-- what the tables say of a sample is listed
pub said_is_listed : Law → (scale entries : ℕ) (t : Tables) → samples_said scale entries (length t.sizes) t ≡ Ok tt
    → (i c : ℕ) (a : PlainSample) → i < length t.sizes → IsSampleAt t i c a → slice_get (listed t) i ≡ Some a
said_is_listed law scale entries t e i c a lt is =
    let l : Listed t i = is_listed law scale entries t e i lt in
    let same : c ≡ l.c = one_chunk (counts_of t) i c l.c is.chunk l.is.chunk in
    let here : IsSampleAt t i l.c a = subst (λ (d : ℕ). IsSampleAt t i d a) same is in
    l.at ∙ ap (λ (x : PlainSample). Some x) (one_sample t i l.c l.s a l.is here)

-- a sample that has a place has the place that the tables say
pub place_said : Law → (scale entries : ℕ) (t : Tables) → samples_said scale entries (length t.sizes) t ≡ Ok tt
    → (i c : ℕ) → i < length t.sizes → HasPlace t i → IsChunkOf (counts_of t) i c
    → get_or t.places c 0 + sum (take (i - before t c) (drop (before t c) t.sizes)) < 2 ^ 64
place_said law scale entries t e i c lt has is =
    let l : Listed t i = is_listed law scale entries t e i lt in
    let same : l.c ≡ c = one_chunk (counts_of t) i l.c c l.is.chunk is in
    let low : l.s.place < 2 ^ 64 = rw l.at at has in
    let place : l.s.place ≡ get_or t.places c 0 + sum (take (i - before t c) (drop (before t c) t.sizes)) =
    subst (λ (d : ℕ). l.s.place ≡ get_or t.places d 0 + sum (take (i - before t d) (drop (before t d) t.sizes))) same l.is.place in
    rw (← place) low

-- ---- the chunk of a sample

-- the chunks hold a sample
pub chunks_reach : (t : HeldTables) → Sound t → (i : ℕ) → i < length (sizes_view t.sizes) → i < sum (counts_in t.spreads (length t.places))
chunks_reach t sound i lt =
    omega (arith, lt, enough sound.scale sound.entries (length (sizes_view t.sizes)) (tables_view t) sound.said)

-- the runs of deltas reach a sample
pub times_reach : (t : HeldTables) → Sound t → (i : ℕ) → i < length (sizes_view t.sizes) → i < sum (counts_of_runs t.deltas)
times_reach t sound i lt =
    omega (arith, lt, length_expand t.deltas, timed sound.scale sound.entries (length (sizes_view t.sizes)) (tables_view t) sound.said)

-- how many samples of its chunk come before a sample, and which one the chunk begins with
since_chunk : (t : HeldTables) (i earlier : ℕ) (chunk : ChunkAt) (k : IsInChunk t.spreads t.places i earlier chunk)
    → (i - before (tables_view t) k.c ≡ earlier) × (before (tables_view t) k.c ≡ i - earlier)
since_chunk t i earlier chunk k = (omega (arith, k.before), omega (arith, k.before))

-- a place that the tables say, by the chunk
place_in : (t : HeldTables) (i earlier : ℕ) (chunk : ChunkAt) (k : IsInChunk t.spreads t.places i earlier chunk)
    → get_or t.places k.c 0 + sum (take (i - before (tables_view t) k.c) (drop (before (tables_view t) k.c) (sizes_view t.sizes)))
    ≡ chunk.place + sum (take earlier (drop (i - earlier) (sizes_view t.sizes)))
place_in t i earlier chunk k =
    let p = since_chunk t i earlier chunk k in
    let sizes : List ℕ = sizes_view t.sizes in
    ap (λ (m : ℕ). m + sum (take (i - before (tables_view t) k.c) (drop (before (tables_view t) k.c) sizes))) k.place
    ∙ ap (λ (n : ℕ). chunk.place + sum (take n (drop (before (tables_view t) k.c) sizes))) p.0
    ∙ ap (λ (n : ℕ). chunk.place + sum (take earlier (drop n sizes))) p.1

-- a sample that has a place begins below 2 ^ 64
pub place_fits : Law → (t : HeldTables) → Sound t → (i earlier : ℕ) (chunk : ChunkAt) → IsInChunk t.spreads t.places i earlier chunk
    → i < length (sizes_view t.sizes) → HasPlace (tables_view t) i → chunk.place + sum (take earlier (drop (i - earlier) (sizes_view t.sizes))) < 2 ^ 64
place_fits law t sound i earlier chunk k lt has =
    let low = place_said law sound.scale sound.entries (tables_view t) sound.said i k.c lt has k.is in
    rw (← place_in t i earlier chunk k) low

-- a sample that is put together from what the tables say is the listed one
pub put_together : Law → (t : HeldTables) → Sound t → (i earlier : ℕ) (chunk : ChunkAt) → IsInChunk t.spreads t.places i earlier chunk
    → i < length (sizes_view t.sizes) → (a : PlainSample)
    → a.decode ≡ sum (take i (tables_view t).deltas)
    → a.compose ≡ pos a.decode +ℤ get_or (tables_view t).offsets i (pos 0)
    → a.sync ≡ is_sync t.sync (i + 1)
    → a.place ≡ chunk.place + sum (take earlier (drop (i - earlier) (sizes_view t.sizes)))
    → a.size ≡ get_or (sizes_view t.sizes) i 0
    → a.description ≡ chunk.description
    → slice_get (listed (tables_view t)) i ≡ Some a
put_together law t sound i earlier chunk k lt a decode compose sync place size description =
    said_is_listed law sound.scale sound.entries (tables_view t) sound.said i k.c a lt (record {
      chunk = k.is;
      place = place ∙ sym (place_in t i earlier chunk k);
      size = size;
      decode = decode;
      compose = compose;
      sync = sync;
      description = description ∙ sym k.description;
    })

-- the first of what is left from an item on
pub first_left : (xs : List ℕ) (i x : ℕ) (ys : List ℕ) → drop i xs ≡ x ∷ ys → x ≡ get_or xs i 0
first_left [] zero x ys e = absurd (cc e)
first_left [] (suc i) x ys e = absurd (cc e)
first_left (z ∷ xs) zero x ys e = sym (cc e)
first_left (z ∷ xs) (suc i) x ys e = first_left xs i x ys e

-- an item that is more than 0 is there
is_item : (xs : List ℕ) (c j : ℕ) → j < get_or xs c 0 → c < length xs
is_item [] c j lt = absurd (omega (arith, lt))
is_item (x ∷ xs) zero j lt = omega arith
is_item (x ∷ xs) (suc c) j lt = omega (arith, is_item xs c j lt)

-- the samples that are listed follow one another in the chunks
pub in_chunks : Law → (t : HeldTables) → Sound t → AreInChunks (counts_in t.spreads (length t.places)) t.places (sizes_view t.sizes) (listed (tables_view t))
in_chunks law t sound =
    λ c j less.
    let counts : List ℕ = counts_in t.spreads (length t.places) in
    let sizes : List ℕ = sizes_view t.sizes in
    let s : ℕ = sum (take c counts) in
    let is : IsChunkOf counts (s + j) c = chunk_found counts (s + j) c j (is_item counts c j (omega (arith, less))) refl (omega (arith, less)) in
    let l : Listed (tables_view t) (s + j) = is_listed law sound.scale sound.entries (tables_view t) sound.said (s + j) (omega (arith, less)) in
    let same : l.c ≡ c = one_chunk counts (s + j) l.c c l.is.chunk is in
    let place : l.s.place ≡ get_or t.places c 0 + sum (take (s + j - s) (drop s sizes)) =
    subst (λ (d : ℕ). l.s.place ≡ get_or t.places d 0 + sum (take (s + j - before (tables_view t) d) (drop (before (tables_view t) d) sizes))) same l.is.place in
    let since : s + j - s ≡ j = omega arith in
    record {
      s = l.s;
      at = l.at;
      place = place ∙ ap (λ (n : ℕ). get_or t.places c 0 + sum (take n (drop s sizes))) since;
      size = l.is.size;
    }

-- the chunks hold all samples
pub all_reached : (t : HeldTables) → Sound t → length (sizes_view t.sizes) ≤ sum (counts_in t.spreads (length t.places))
all_reached t sound = enough sound.scale sound.entries (length (sizes_view t.sizes)) (tables_view t) sound.said

-- there are as many as sizes
pub all_there : Law → (t : HeldTables) → Sound t → length (listed (tables_view t)) ≡ length (sizes_view t.sizes)
all_there law t sound = law.all sound.scale sound.entries (tables_view t) (listed (tables_view t)) (all_listed sound.scale sound.entries (tables_view t) sound.said)

-- the tick that the times alone say of a sample
pub composed_is : Law → (t : HeldTables) → Sound t → (i decode : ℕ) (offset tick : ℤ) → i < length (sizes_view t.sizes) → decode ≡ sum (take i (tables_view t).deltas)
    → tick ≡ pos decode +ℤ offset → offset ≡ get_or (tables_view t).offsets i (pos 0) → neg_ℤ (pos (2 ^ 31)) ≤ℤ offset → offset <ℤ pos (2 ^ 32) → IsComposed (tables_view t) i tick
composed_is law t sound i decode offset tick lt is sum_is offset_is least most =
    let l : Listed (tables_view t) i = is_listed law sound.scale sound.entries (tables_view t) sound.said i lt in
    let same : l.s.decode ≡ decode = l.is.decode ∙ sym is in
    record {
      s = l.s;
      at = l.at;
      compose = l.is.compose ∙ ap (λ (x : ℕ). pos x +ℤ get_or (tables_view t).offsets i (pos 0)) same ∙ sym (sum_is ∙ ap (λ (z : ℤ). pos decode +ℤ z) offset_is);
      least = omega (arith, ints, sum_is, least);
      most = omega (arith, ints, sum_is, most, same);
    }
