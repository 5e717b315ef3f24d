-- The samples that the tables of rows list.
use Rattle.std.proofs.Common.{◌≡◌, ℕ, ℤ, pos, ◌+ℤ◌, ◌-ℤ◌, ◌+◌, ◌-◌, ◌^◌, ◌<◌, ◌≤◌, List, [], ◌∷◌, ◌++◌, length, drop, map, sum, get_or, replicate, Option, refl, sym, ap, ◌∙◌, arith, lit<}
use Rattle.std.specs.List.{AllByRecursion}
use Rattle.std.proofs.lemmas.List.{map-append, length-append, length-map, take_at, drop_at}
use Rattle.std.proofs.lemmas.List.Sums.{sum_by-cons}
use Rattle.std.proofs.lemmas.Int.{ints}
use Rattle.sf_meaning.specs.Tables.{running, placed}
use Rattle.sf_meaning.specs.TrackSamples.{rows}
use Rattle.sf_meaning.specs.Stbl.{Timed, Row, timed_of, sizes_in_rows, counts_in_rows, places_in_rows, deltas_of}
use Rattle.sf_meaning.specs.Writable.{Paced, PacedFrom}
use Rattle.sf_meaning.specs.Written.{sample_of, samples_at, listed}
use Rattle.sf_meaning.specs.declared.movie.PlainSample.{PlainSample}
use Rattle.sf_meaning.proofs.TableLemmas.{Word, differences_words, length-differences, running_differences}
use Rattle.sf_meaning.proofs.TimedLemmas.{Offsets, Syncs}

abbrev pub zipped : ℕ → List Timed → List ℕ → List PlainSample
zipped base [] places = []
zipped base (s ∷ ss) [] = []
zipped base (s ∷ ss) (p ∷ places) = sample_of base p s ∷ zipped base ss places

abbrev pub sizes_of : List Timed → List ℕ
sizes_of ss = map (λ s. s.size) ss

-- a sample for each size, from what the tables say of it
pub rows_zipped : (number base : ℕ) (ss : List Timed) (offsets : List ℤ) (sync : Option (List ℕ)) (places : List ℕ)
    → AllByRecursion (λ s. base ≤ s.decode) ss → Offsets offsets ss → Syncs sync number ss
    → rows number (sizes_of ss) (map (λ d. d - base) (map (λ s. s.decode) ss)) offsets sync places (replicate (length ss) 1) ≡ zipped base ss places
rows_zipped number base [] offsets sync places above o y = refl
rows_zipped number base (s ∷ ss) offsets sync [] above o y = refl
rows_zipped number base (s ∷ ss) offsets sync (p ∷ places) above o y =
    let compose : pos (s.decode - base) +ℤ get_or offsets 0 (pos 0) ≡ pos s.compose -ℤ pos base =
    ap (λ (z : ℤ). pos (s.decode - base) +ℤ z) o.0 ∙ omega (arith, ints, above.0) in
    rw (compose, y.0) (ap (λ (xs : List PlainSample). sample_of base p s ∷ xs) (rows_zipped (number + 1) base ss (drop 1 offsets) sync places above.1 o.1 y.1))

-- samples that stand one after the other, before others
zipped_chunk : (base place : ℕ) (ss ts : List Timed) (places : List ℕ) → zipped base (ss ++ ts) (running place (sizes_of ss) ++ places) ≡ samples_at base place ss ++ zipped base ts places
zipped_chunk base place [] ts places = refl
zipped_chunk base place (s ∷ ss) ts places = ap (λ (xs : List PlainSample). sample_of base place s ∷ xs) (zipped_chunk base (place + s.size) ss ts places)

pub zipped_rows : (base : ℕ) (rs : List Row) → zipped base (timed_of rs) (placed (places_in_rows rs) (counts_in_rows rs) (sizes_in_rows rs)) ≡ listed base rs
zipped_rows base [] = refl
zipped_rows base (r ∷ rs) =
    let sizes : List ℕ = sizes_of r.samples in
    let n : length sizes ≡ length r.samples = length-map r.samples (λ (s : Timed). s.size) in
    let both : sizes_in_rows (r ∷ rs) ≡ sizes ++ sizes_in_rows rs = map-append (λ (s : Timed). s.size) r.samples (timed_of rs) in
    rw (both, take_at sizes (sizes_in_rows rs) (length r.samples) n, drop_at sizes (sizes_in_rows rs) (length r.samples) n)
    (zipped_chunk base r.place r.samples (timed_of rs) (placed (places_in_rows rs) (counts_in_rows rs) (sizes_in_rows rs))
    ∙ ap (λ (xs : List PlainSample). samples_at base r.place r.samples ++ xs) (zipped_rows base rs))

-- there is a delta for each decode time
pub length-deltas_of : (ts : List ℕ) → length (deltas_of ts) ≡ length ts
length-deltas_of [] = refl
length-deltas_of (t ∷ ts) = length-differences 0 t ts

pub deltas_words : (start : ℕ) (ts : List ℕ) → PacedFrom start ts → AllByRecursion Word (deltas_of ts)
deltas_words start [] paced = tt
deltas_words start (t ∷ ts) paced = differences_words 0 t ts (lit< tt) paced.1

-- the sums of the deltas are the decode times, counted from the first
pub ticks_back : (start : ℕ) (ts : List ℕ) → PacedFrom start ts → running 0 (deltas_of ts) ≡ map (λ d. d - start) ts
ticks_back start [] paced = refl
ticks_back start (t ∷ ts) paced = running_differences 0 start t 0 ts (omega (arith, paced.0)) paced.1

paced_above : (start t : ℕ) (ss : List Timed) → start ≤ t → Paced t (map (λ s. s.decode) ss) → AllByRecursion (λ s. start ≤ s.decode) ss
paced_above start t [] le paced = tt
paced_above start t (s ∷ ss) le paced = (omega (arith, le, paced.0), paced_above start s.decode ss (omega (arith, le, paced.0)) paced.2)

-- no sample is decoded before the first
pub from_start : (start : ℕ) (ss : List Timed) → PacedFrom start (map (λ s. s.decode) ss) → AllByRecursion (λ s. start ≤ s.decode) ss
from_start start [] paced = tt
from_start start (s ∷ ss) paced = (omega (arith, paced.0), paced_above start s.decode ss (omega (arith, paced.0)) paced.1)

-- the counts of chunks sum to their samples
pub sum-counts : (rs : List Row) → sum (counts_in_rows rs) ≡ length (timed_of rs)
sum-counts [] = refl
sum-counts (r ∷ rs) =
    sum_by-cons (λ x. x) (length r.samples) (counts_in_rows rs) ∙ ap (λ (n : ℕ). length r.samples + n) (sum-counts rs) ∙ sym (length-append r.samples (timed_of rs))

-- chunks that aren't empty are no more than their samples
pub rows_few : (rs : List Row) → AllByRecursion (λ r. 0 < length r.samples) rs → length rs ≤ length (timed_of rs)
rows_few [] all = omega arith
rows_few (r ∷ rs) all = omega (arith, all.0, rows_few rs all.1, length-append r.samples (timed_of rs))

pub counts_filled : (rs : List Row) → AllByRecursion (λ r. 0 < length r.samples) rs → AllByRecursion (λ n. 0 < n) (counts_in_rows rs)
counts_filled [] all = tt
counts_filled (r ∷ rs) all = (all.0, counts_filled rs all.1)

pub counts_words : (rs : List Row) → length (timed_of rs) < 2 ^ 32 → AllByRecursion Word (counts_in_rows rs)
counts_words [] lt = tt
counts_words (r ∷ rs) lt =
    let n : length (r.samples ++ timed_of rs) ≡ length r.samples + length (timed_of rs) = length-append r.samples (timed_of rs) in
    (omega (arith, lt, n), counts_words rs (omega (arith, lt, n)))
