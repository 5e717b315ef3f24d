-- What the entries of the sample-to-chunk box say of each chunk.
use Rattle.std.proofs.Common.{◌≡◌, ℕ, zero, suc, ◌+◌, ◌-◌, ◌*◌, ◌/◌, ◌%◌, ◌<◌, ◌≤◌, ◌==◌, min, true, false, List, [], ◌∷◌, length, take, map, sum, get_or, replicate, Some, refl, sym, ap, subst, ◌∙◌, arith, inl, inr}
use Rattle.std.specs.List.{slice_get}
use Rattle.std.proofs.lemmas.Bool.{cases_lt, eqb-true, ltb-true}
use Rattle.std.proofs.lemmas.List.{length-map, length-take, take_all}
use Rattle.std.proofs.lemmas.List.Sums.{sum_by_more}
use Rattle.std.proofs.lemmas.Nat.{div-add-mod', div_below, mod_below}
use Rattle.std.proofs.lemmas.Option.{slice_get_within}
use Rattle.sf_meaning.specs.ReadTables.{spread_of, spreads_as}
use Rattle.sf_meaning.specs.SampleAt.{IsChunkOf}
use Rattle.sf_meaning.specs.SampleTables.{begins_rising}
use Rattle.sf_meaning.specs.Tables.{InChunk, in_chunk, spread_over, chunk_entries, rising}
use Rattle.sf_meaning.specs.declared.entries.ChunkRun.{ChunkRun}
use Rattle.sf_cursor.specs.inner.Sound.{HoldsFor, counts_in, no_run}
use Rattle.sf_cursor.proofs.ChunkSums.{chunk_found}
use Rattle.sf_cursor.proofs.RunValues.{in_run, after_run}
use Rattle.sf_cursor.proofs.SyncNumbers.{both}

-- ---- items of lists

slice_get_take : {A : Type 0} (n i : ℕ) (xs : List A) → i < n → slice_get (take n xs) i ≡ slice_get xs i
slice_get_take zero i xs lt = absurd (omega (arith, lt))
slice_get_take (suc n) i [] lt = refl
slice_get_take (suc n) zero (x ∷ xs) lt = refl
slice_get_take (suc n) (suc i) (x ∷ xs) lt = slice_get_take n i xs (omega (arith, lt))

same_there : {A : Type 0} (n : ℕ) (x : A) (i : ℕ) → i < n → slice_get (replicate n x) i ≡ Some x
same_there zero x i lt = absurd (omega (arith, lt))
same_there (suc n) x zero lt = refl
same_there (suc n) x (suc i) lt = same_there n x i (omega (arith, lt))

value_there : {A B : Type 0} (f : A → B) (xs : List A) (i : ℕ) (x : A) (d : B) → slice_get xs i ≡ Some x → get_or (map f xs) i d ≡ f x
value_there f [] i x d e = absurd (cc e)
value_there f (y ∷ xs) zero x d e =
    let same : y ≡ x = cc e in
    ap f same
value_there f (y ∷ xs) (suc i) x d e = value_there f xs i x d e

-- ---- the first chunks of entries

abbrev rises : ℕ → List ChunkRun → Type 0
rises t runs = rising t (map (λ f. f.first) (spreads_as runs)) ≡ true

first_above : (t : ℕ) (runs : List ChunkRun) (r : ℕ) (d : ChunkRun) → rises t runs → r < length runs → t < (get_or runs r d).first
first_above t [] r d up lt = absurd (omega (arith, lt))
first_above t (e ∷ runs) zero d up lt = ltb-true t e.first ((both _ _ up).0)
first_above t (e ∷ runs) (suc r) d up lt =
    let p = both _ _ up in
    let low : t < e.first = ltb-true t e.first p.0 in
    let high : e.first < (get_or runs r d).first = first_above e.first runs r d p.1 (omega (arith, lt)) in
    omega (arith, low, high)

next_above : (t : ℕ) (runs : List ChunkRun) (r : ℕ) (d : ChunkRun) → rises t runs → r + 1 < length runs → (get_or runs r d).first < (get_or runs (r + 1) d).first
next_above t [] r d up lt = absurd (omega (arith, lt))
next_above t (e ∷ runs) zero d up lt =
    let one : suc zero ≡ 0 + 1 = omega arith in
    subst (λ (m : ℕ). e.first < (get_or (e ∷ runs) m d).first) one (first_above e.first runs 0 d ((both _ _ up).1) (omega (arith, lt)))
next_above t (e ∷ runs) (suc r) d up lt =
    let one : suc (r + 1) ≡ suc r + 1 = omega arith in
    subst (λ (m : ℕ). (get_or runs r d).first < (get_or (e ∷ runs) m d).first) one (next_above e.first runs r d ((both _ _ up).1) (omega (arith, lt)))

-- entries that begin with chunk 1 rise above 0
from_one : (runs : List ChunkRun) → begins_rising (spreads_as runs) ≡ true → rises 0 runs
from_one [] up = refl
from_one (e ∷ runs) up =
    let p = both (e.first == 1) (rising 1 (map (λ f. f.first) (spreads_as runs))) up in
    let one : e.first ≡ 1 = eqb-true e.first 1 p.0 in
    rw one p.1

pub least_first : (runs : List ChunkRun) (r : ℕ) (d : ChunkRun) → begins_rising (spreads_as runs) ≡ true → r < length runs → 1 ≤ (get_or runs r d).first
least_first runs r d up lt = first_above 0 runs r d (from_one runs up) lt

pub next_first : (runs : List ChunkRun) (r : ℕ) (d : ChunkRun) → begins_rising (spreads_as runs) ≡ true → r + 1 < length runs → (get_or runs r d).first < (get_or runs (r + 1) d).first
next_first runs r d up lt = next_above 0 runs r d (from_one runs up) lt

rise_above : (t : ℕ) (runs : List ChunkRun) (i j : ℕ) (d : ChunkRun) → rises t runs → i ≤ j → j < length runs → (get_or runs i d).first ≤ (get_or runs j d).first
rise_above t [] i j d up le lt = absurd (omega (arith, lt))
rise_above t (e ∷ runs) zero zero d up le lt = omega arith
rise_above t (e ∷ runs) zero (suc j) d up le lt = omega (arith, first_above e.first runs j d ((both _ _ up).1) (omega (arith, lt)))
rise_above t (e ∷ runs) (suc i) zero d up le lt = absurd (omega (arith, le))
rise_above t (e ∷ runs) (suc i) (suc j) d up le lt = rise_above e.first runs i j d ((both _ _ up).1) (omega (arith, le)) (omega (arith, lt))

pub firsts_rise : (runs : List ChunkRun) (i j : ℕ) (d : ChunkRun) → begins_rising (spreads_as runs) ≡ true → i ≤ j → j < length runs → (get_or runs i d).first ≤ (get_or runs j d).first
firsts_rise runs i j d up le lt = rise_above 0 runs i j d (from_one runs up) le lt

pub first_first : (runs : List ChunkRun) (d : ChunkRun) → begins_rising (spreads_as runs) ≡ true → 0 < length runs → (get_or runs 0 d).first ≡ 1
first_first [] d up lt = absurd (omega (arith, lt))
first_first (e ∷ runs) d up lt = eqb-true e.first 1 ((both (e.first == 1) (rising 1 (map (λ f. f.first) (spreads_as runs))) up).0)

-- ---- one chunk

not_below : (f : ChunkRun) (runs : List ChunkRun) (r : ℕ) (d : ChunkRun) → rises f.first runs → r < length (f ∷ runs) → f.first ≤ (get_or (f ∷ runs) r d).first
not_below f runs zero d up lt = omega arith
not_below f runs (suc r) d up lt = omega (arith, first_above f.first runs r d up (omega (arith, lt)))

-- the entry that holds in a chunk
over_at : (e : ChunkRun) (runs : List ChunkRun) (n r c : ℕ) (d : ChunkRun) → rises e.first runs → r < length (e ∷ runs)
    → (get_or (e ∷ runs) r d).first ≤ c + 1 → (r + 1 < length (e ∷ runs) → c + 1 < (get_or (e ∷ runs) (r + 1) d).first) → c < n
    → slice_get (spread_over (spreads_as (e ∷ runs)) n) (c + 1 - e.first) ≡ Some (in_chunk (spread_of (get_or (e ∷ runs) r d)))
over_at e [] n zero c d up there low next lt = same_there (n + 1 - e.first) (in_chunk (spread_of e)) (c + 1 - e.first) (omega (arith, low, lt))
over_at e [] n (suc r) c d up there low next lt = absurd (omega (arith, there))
over_at e (f ∷ runs) n zero c d up there low next lt =
    let one : 0 + 1 ≡ suc zero = omega arith in
    let short : c + 1 < f.first = subst (λ (m : ℕ). c + 1 < (get_or (e ∷ f ∷ runs) m d).first) one (next (omega arith)) in
    in_run (f.first - e.first) (in_chunk (spread_of e)) (spread_over (spreads_as (f ∷ runs)) n) (c + 1 - e.first) (omega (arith, low, short))
over_at e (f ∷ runs) n (suc r) c d up there low next lt =
    let p = both _ _ up in
    let above : e.first < f.first = ltb-true e.first f.first p.0 in
    let begun : f.first ≤ (get_or (f ∷ runs) r d).first = not_below f runs r d p.1 (omega (arith, there)) in
    let left : (c + 1 - e.first) - (f.first - e.first) ≡ c + 1 - f.first = omega (arith, above, begun, low) in
    let one : suc r + 1 ≡ suc (r + 1) = omega arith in
    after_run (f.first - e.first) (in_chunk (spread_of e)) (spread_over (spreads_as (f ∷ runs)) n) (c + 1 - e.first) (omega (arith, above, begun, low))
    ∙ ap (slice_get (spread_over (spreads_as (f ∷ runs)) n)) left
    ∙ over_at f runs n r c d p.1 (omega (arith, there)) low (λ h. subst (λ (m : ℕ). c + 1 < (get_or (e ∷ f ∷ runs) m d).first) one (next (omega (arith, h)))) lt

pub chunk_there : (runs : List ChunkRun) (n r c : ℕ) → begins_rising (spreads_as runs) ≡ true → HoldsFor runs r c → c < n
    → slice_get (chunk_entries (spreads_as runs) n) c ≡ Some (in_chunk (spread_of (get_or runs r no_run)))
chunk_there [] n r c up h lt = absurd (omega (arith, h.there))
chunk_there (e ∷ runs) n r c up h lt =
    let p = both (e.first == 1) (rising 1 (map (λ f. f.first) (spreads_as runs))) up in
    let one : e.first ≡ 1 = eqb-true e.first 1 p.0 in
    let above : rises e.first runs = rw one p.1 in
    let same : c ≡ c + 1 - e.first = omega (arith, one) in
    slice_get_take n c (spread_over (spreads_as (e ∷ runs)) n) lt
    ∙ ap (slice_get (spread_over (spreads_as (e ∷ runs)) n)) same
    ∙ over_at e runs n r c no_run above h.there h.begun h.next lt

pub count_there : (runs : List ChunkRun) (n r c : ℕ) → begins_rising (spreads_as runs) ≡ true → HoldsFor runs r c → c < n
    → get_or (counts_in runs n) c 0 ≡ (get_or runs r no_run).per
count_there runs n r c up h lt =
    value_there (λ (x : InChunk). x.per) (chunk_entries (spreads_as runs) n) c (in_chunk (spread_of (get_or runs r no_run))) 0 (chunk_there runs n r c up h lt)

pub description_there : (runs : List ChunkRun) (n r c : ℕ) → begins_rising (spreads_as runs) ≡ true → HoldsFor runs r c → c < n
    → get_or (map (λ e. e.description) (chunk_entries (spreads_as runs) n)) c 0 ≡ (get_or runs r no_run).description
description_there runs n r c up h lt =
    value_there (λ (x : InChunk). x.description) (chunk_entries (spreads_as runs) n) c (in_chunk (spread_of (get_or runs r no_run))) 0 (chunk_there runs n r c up h lt)

pub is_there : (runs : List ChunkRun) (n r c : ℕ) → begins_rising (spreads_as runs) ≡ true → HoldsFor runs r c → c < n → c < length (counts_in runs n)
is_there runs n r c up h lt =
    let long : length (counts_in runs n) ≡ length (chunk_entries (spreads_as runs) n) = length-map (chunk_entries (spreads_as runs) n) (λ (x : InChunk). x.per) in
    let inside : c < length (chunk_entries (spreads_as runs) n) = slice_get_within (chunk_entries (spreads_as runs) n) c (in_chunk (spread_of (get_or runs r no_run))) (chunk_there runs n r c up h lt) in
    omega (arith, long, inside)

pub no_more : (runs : List ChunkRun) (n : ℕ) → length (counts_in runs n) ≤ n
no_more runs n =
    let long : length (counts_in runs n) ≡ length (chunk_entries (spreads_as runs) n) = length-map (chunk_entries (spreads_as runs) n) (λ (x : InChunk). x.per) in
    let cut : length (chunk_entries (spreads_as runs) n) ≡ min n (length (spread_over (spreads_as runs) n)) = length-take n (spread_over (spreads_as runs) n) in
    omega (arith, long, cut)

-- all chunks are among so many
pub all_of : (runs : List ChunkRun) (n m : ℕ) → n ≤ m → sum (take m (counts_in runs n)) ≡ sum (counts_in runs n)
all_of runs n m le = ap sum (take_all m (counts_in runs n) (omega (arith, no_more runs n, le)))

pub is_some : (n : ℕ) → (n == 0) ≡ false → 0 < n
is_some zero e = absurd (cc e)
is_some (suc n) e = omega arith

-- without entries there are no chunks
pub no_chunks : (runs : List ChunkRun) (n : ℕ) → length runs ≡ 0 → sum (counts_in runs n) ≡ 0
no_chunks [] zero e = refl
no_chunks [] (suc n) e = refl
no_chunks (r ∷ runs) n e = absurd (omega (arith, e))

-- ---- the chunks of one entry

-- chunks that all have so many samples
sum_alike : (counts : List ℕ) (a q per : ℕ) → ((j : ℕ) → j < q → (a + j < length counts) × (get_or counts (a + j) 0 ≡ per))
    → sum (take (a + q) counts) ≡ sum (take a counts) + q * per
sum_alike counts a zero per all =
    let none : a + 0 ≡ a = omega arith in
    ap (λ (m : ℕ). sum (take m counts)) none ∙ omega arith
sum_alike counts a (suc q) per all =
    let p = all q (omega arith) in
    let one : a + suc q ≡ a + q + 1 = omega arith in
    let more : sum (take (a + q + 1) counts) ≡ sum (take (a + q) counts) + get_or counts (a + q) 0 = sum_by_more (λ (x : ℕ). x) counts (a + q) 0 p.0 in
    let before : sum (take (a + q) counts) ≡ sum (take a counts) + q * per = sum_alike counts a q per (λ j lt. all j (omega (arith, lt))) in
    let next : suc q * per ≡ q * per + per = omega arith in
    ap (λ (m : ℕ). sum (take m counts)) one ∙ omega (arith, more, before, next, p.1)

-- how many samples the chunks up to one of an entry have
pub samples_to : (runs : List ChunkRun) (n r q : ℕ) → begins_rising (spreads_as runs) ≡ true → r < length runs
    → (get_or runs r no_run).first - 1 + q ≤ n → (r + 1 < length runs → (get_or runs r no_run).first - 1 + q < (get_or runs (r + 1) no_run).first)
    → sum (take ((get_or runs r no_run).first - 1 + q) (counts_in runs n)) ≡ sum (take ((get_or runs r no_run).first - 1) (counts_in runs n)) + q * (get_or runs r no_run).per
samples_to runs n r q up there within next =
    let a : ℕ = (get_or runs r no_run).first - 1 in
    let least : 1 ≤ (get_or runs r no_run).first = least_first runs r no_run up there in
    sum_alike (counts_in runs n) a q (get_or runs r no_run).per (λ j lt.
    let h : HoldsFor runs r (a + j) = record { there = there; begun = omega (arith, least); next = λ k. omega (arith, lt, next k, least) } in
    let low : a + j < n = omega (arith, lt, within) in
    (is_there runs n r (a + j) up h low, count_there runs n r (a + j) up h low))

-- how many samples the chunks before the next entry's have
pub samples_next : (runs : List ChunkRun) (n r : ℕ) → begins_rising (spreads_as runs) ≡ true → r + 1 < length runs
    → sum (take ((get_or runs (r + 1) no_run).first - 1) (counts_in runs n))
    ≡ sum (take ((get_or runs r no_run).first - 1) (counts_in runs n)) + (min ((get_or runs (r + 1) no_run).first - 1) n - min ((get_or runs r no_run).first - 1) n) * (get_or runs r no_run).per
samples_next runs n r up there =
    let per : ℕ = (get_or runs r no_run).per in
    let a : ℕ = (get_or runs r no_run).first - 1 in
    let b : ℕ = (get_or runs (r + 1) no_run).first - 1 in
    let least : 1 ≤ (get_or runs r no_run).first = least_first runs r no_run up (omega (arith, there)) in
    let above : (get_or runs r no_run).first < (get_or runs (r + 1) no_run).first = next_first runs r no_run up there in
    elim (cases_lt a n) [
      | inl some ↦
          let m : ℕ = min b n - min a n in
          let to : sum (take (a + m) (counts_in runs n)) ≡ sum (take a (counts_in runs n)) + m * per =
          samples_to runs n r m up (omega (arith, there)) (omega (arith, some)) (λ h. omega (arith, some, above, least)) in
          elim (cases_lt n b) [
            | inl over ↦
                let last : a + m ≡ n = omega (arith, some, over, above, least) in
                all_of runs n b (omega (arith, over)) ∙ sym (all_of runs n n (omega arith))
                ∙ sym (ap (λ (k : ℕ). sum (take k (counts_in runs n))) last) ∙ to
            | inr within ↦
                let last : a + m ≡ b = omega (arith, some, within, above, least) in
                sym (ap (λ (k : ℕ). sum (take k (counts_in runs n))) last) ∙ to
          ]
      | inr none ↦
          let zero_more : min b n - min a n ≡ 0 = omega (arith, none, above, least) in
          let no_samples : (min b n - min a n) * per ≡ 0 = ap (λ (k : ℕ). k * per) zero_more ∙ omega arith in
          all_of runs n b (omega (arith, none, above, least)) ∙ sym (all_of runs n a none) ∙ omega (arith, no_samples)
    ]

-- ---- the chunk of a sample

-- The chunk of sample i is one of an entry, after whose earlier chunks so many samples are left.
pub record InEntry (runs : List ChunkRun) (n r i left : ℕ) : Type 0 where
  pub least : 1 ≤ (get_or runs r no_run).first
  pub some : 0 < (get_or runs r no_run).per
  pub there : (get_or runs r no_run).first - 1 + left / (get_or runs r no_run).per < n
  pub is : IsChunkOf (counts_in runs n) i ((get_or runs r no_run).first - 1 + left / (get_or runs r no_run).per)
  pub before : sum (take ((get_or runs r no_run).first - 1 + left / (get_or runs r no_run).per) (counts_in runs n)) + left % (get_or runs r no_run).per ≡ i
  pub description : get_or (map (λ e. e.description) (chunk_entries (spreads_as runs) n)) ((get_or runs r no_run).first - 1 + left / (get_or runs r no_run).per) 0 ≡ (get_or runs r no_run).description

some_each : (m left per : ℕ) → left < m * per → 0 < per
some_each m left zero lt =
    let none : m * 0 ≡ 0 = omega arith in
    absurd (omega (arith, lt, none))
some_each m left (suc per) lt = omega arith

-- So many chunks of an entry are there, and the samples up to them reach past sample i.
record Ends (runs : List ChunkRun) (n r i : ℕ) : Type 0 where
  m : ℕ
  within : (get_or runs r no_run).first - 1 + m ≤ n
  next : r + 1 < length runs → (get_or runs r no_run).first - 1 + m < (get_or runs (r + 1) no_run).first
  past : i < sum (take ((get_or runs r no_run).first - 1 + m) (counts_in runs n))

ends : (runs : List ChunkRun) (n r i : ℕ) → begins_rising (spreads_as runs) ≡ true → r < length runs → (get_or runs r no_run).first - 1 < n
    → (r + 1 < length runs → i < sum (take ((get_or runs (r + 1) no_run).first - 1) (counts_in runs n))) → i < sum (counts_in runs n) → Ends runs n r i
ends runs n r i up there low next all =
    let a : ℕ = (get_or runs r no_run).first - 1 in
    let to_end : a + (n - a) ≡ n = omega (arith, low) in
    let past : i < sum (take (a + (n - a)) (counts_in runs n)) = rw (to_end, all_of runs n n (omega arith)) all in
    elim (cases_lt (r + 1) (length runs)) [
      | inl more ↦
          let b : ℕ = (get_or runs (r + 1) no_run).first - 1 in
          let least : 1 ≤ (get_or runs r no_run).first = least_first runs r no_run up there in
          let above : (get_or runs r no_run).first < (get_or runs (r + 1) no_run).first = next_first runs r no_run up more in
          elim (cases_lt n b) [
            | inl over ↦ record { m = n - a; within = omega (arith, low); next = λ h. omega (arith, low, over); past = past }
            | inr within ↦
                let to_next : a + (b - a) ≡ b = omega (arith, above, least) in
                record { m = b - a; within = omega (arith, within, above, least); next = λ h. omega (arith, above, least); past = rw to_next (next more) }
          ]
      | inr last ↦ record { m = n - a; within = omega (arith, low); next = λ h. absurd (omega (arith, last, h)); past = past }
    ]

-- an entry whose samples reach past sample i, which isn't before them
pub in_entry : (runs : List ChunkRun) (n r i : ℕ) → begins_rising (spreads_as runs) ≡ true → r < length runs
    → sum (take ((get_or runs r no_run).first - 1) (counts_in runs n)) ≤ i → (r + 1 < length runs → i < sum (take ((get_or runs (r + 1) no_run).first - 1) (counts_in runs n)))
    → i < sum (counts_in runs n) → InEntry runs n r i (i - sum (take ((get_or runs r no_run).first - 1) (counts_in runs n)))
in_entry runs n r i up there begun next all =
    let counts : List ℕ = counts_in runs n in
    let per : ℕ = (get_or runs r no_run).per in
    let a : ℕ = (get_or runs r no_run).first - 1 in
    let s : ℕ = sum (take a counts) in
    let left : ℕ = i - s in
    let least : 1 ≤ (get_or runs r no_run).first = least_first runs r no_run up there in
    let low : a < n = elim (cases_lt a n) [
      | inl low ↦ low
      | inr high ↦ absurd (omega (arith, all_of runs n a high, begun, all))
    ] in
    let e : Ends runs n r i = ends runs n r i up there low next all in
    let m : ℕ = e.m in
    let to : sum (take (a + m) counts) ≡ s + m * per = samples_to runs n r m up there e.within e.next in
    let short : left < m * per = omega (arith, to, e.past, begun) in
    let some : 0 < per = some_each m left per short in
    let q : ℕ = left / per in
    let less : q < m = div_below left per m some short in
    let h : HoldsFor runs r (a + q) = record { there = there; begun = omega (arith, least); next = λ k. omega (arith, less, e.next k) } in
    let inside : a + q < n = omega (arith, less, e.within) in
    let before : sum (take (a + q) counts) ≡ s + q * per = samples_to runs n r q up there (omega (arith, inside)) (λ k. omega (arith, less, e.next k)) in
    let whole : q * per + left % per ≡ left = div-add-mod' left per in
    let rest : left % per < per = mod_below left per some in
    let at : sum (take (a + q) counts) + left % per ≡ i = omega (arith, before, whole, begun) in
    record {
      least = least;
      some = some;
      there = inside;
      is = chunk_found counts i (a + q) (left % per) (is_there runs n r (a + q) up h inside) at (omega (arith, rest, count_there runs n r (a + q) up h inside));
      before = at;
      description = description_there runs n r (a + q) up h inside;
    }
