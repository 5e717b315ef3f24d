-- The tables of a track that were written are read back as the samples that they were made from.
use Rattle.std.proofs.Common.{◌≡◌, ℕ, ℤ, zero, suc, ◌+◌, ◌*◌, ◌^◌, ◌<◌, ◌≤◌, ◌==◌, nat_le, ltb, Bool, true, false, cond, List, [], ◌∷◌, ◌++◌, length, take, drop, map, sum, replicate, get_or, codes, Option, Some, None, Ok, refl, sym, ap, ◌∙◌, arith, inl, inr}
use Rattle.std.specs.List.{AllByRecursion}
use Rattle.std.specs.Str.{bytes_eq}
use Rattle.std.specs.Option.{option_or}
use Rattle.std.proofs.lemmas.List.{length-map, length-replicate, take_all}
use Rattle.std.proofs.lemmas.Bool.{le-leb, ltb-true}
use Rattle.sf_box.specs.Boxes.{Piece, word32}
use Rattle.sf_box.specs.Parts.{Part, tiled, laid, Fits, child_piece}
use Rattle.sf_box.proofs.BoxLaws.{laid-append}
use Rattle.sf_meaning.specs.Tables.{Spread, offset_in, running, rising, placed, expand, run_pairs, count_in, spreads_in, sample_count, sizes_in, described, chunk_entries}
use Rattle.sf_meaning.specs.SampleTables.{Table, counted, runs_told, offset_runs_told, offsets_told, spreads_told, places_told, numbers_told, syncs_told}
use Rattle.sf_meaning.specs.SampleSizes.{fields_length, sizes_whole, sizes_told}
use Rattle.sf_meaning.specs.TrackSamples.{Tables, times_table, chunks_table, sizes_table, places_table, tables_told, counts_of, descriptions_known, rows, samples_said, samples_in}
use Rattle.sf_meaning.specs.Tracks.{held_in, samples_held}
use Rattle.sf_meaning.specs.Stbl.{Timed, Row, timed_of, ticks_of, sizes_in_rows, counts_in_rows, places_in_rows, runs_of, deltas_of, uniform, spread_from, offset_words, all_in_time, all_sync, sync_numbers, all_near, stts_body, ctts_body, stss_body, stsz_body, stsc_body, stco_body, co64_body, stsd_body, ctts_parts, stss_parts, places_part, stbl_parts}
use Rattle.sf_meaning.specs.Writable.{Sized, Tellable}
use Rattle.sf_meaning.specs.Written.{listed}
use Rattle.sf_meaning.specs.declared.movie.PlainSample.{PlainSample}
use Rattle.sf_meaning.proofs.ListLemmas.{bool_tells, both_true, all_front, all_behind}
use Rattle.sf_meaning.proofs.TableLemmas.{Word, Wide, words_are, deltas_back, count_in-stts, length-stts, offsets_back, count_in-ctts, length-ctts, sync_numbers_back, count_in-stss, length-stss, places_back, count_in-stco, length-stco, wide_places_back, count_in-co64, length-co64, sizes_back, sample_count_back, length-stsz, length-stsz_each, uniform_back}
use Rattle.sf_meaning.proofs.SpreadLemmas.{spreads_back, count_in-stsc, length-stsc, length-spread_from, spread_words, SpreadBack, spread_back, begins_rising_back}
use Rattle.sf_meaning.proofs.TimedLemmas.{Near, version_of, told_offsets, offsets_are, offset_words_fit, told_sync, syncs_are, sync_rising, sync_words, length-sync_from}
use Rattle.sf_meaning.proofs.RowLemmas.{rows_zipped, zipped_rows, length-deltas_of, deltas_words, ticks_back, from_start, sum-counts, rows_few, counts_filled, counts_words}

-- a part as a box at a place
abbrev pub part_at : ℕ → Part → Piece
part_at at p = record { head = record { kind = record { 0 = p.0 }; at = at; head = 8; size = 8 + length p.1 }; body = p.1 }

all_near_offsets : (ss : List Timed) → AllByRecursion Sized ss → AllByRecursion Near ss
all_near_offsets [] all = tt
all_near_offsets (s ∷ ss) all = (all.0.near, all_near_offsets ss all.1)

sizes_sized : (ss : List Timed) → AllByRecursion Sized ss → AllByRecursion (λ x. (0 < x) × Word x) (map (λ s. s.size) ss)
sizes_sized [] all = tt
sizes_sized (s ∷ ss) all = ((all.0.some, omega (arith, all.0.short)), sizes_sized ss all.1)

near_words : (places : List ℕ) → all_near places ≡ true → AllByRecursion Word places
near_words [] e = tt
near_words (p ∷ places) e =
    let b : (ltb p (2 ^ 32) ≡ true) × (all_near places ≡ true) = both_true (ltb p (2 ^ 32)) (all_near places) e in
    (ltb-true p (2 ^ 32) b.0, near_words places b.1)

-- a table that holds what it counts
counted_holds : (width : ℕ) (p : Piece) (n : ℕ) → count_in p.body ≡ n → 8 + width * n ≤ length p.body → counted width p ≡ Ok tt
unfolding counted
counted_holds width p n count le =
    let eight : nat_le 8 (length p.body) ≡ true = le-leb 8 (length p.body) (omega (arith, le)) in
    let whole : nat_le (8 + width * n) (length p.body) ≡ true = le-leb (8 + width * n) (length p.body) le in
    rw (count, eight, whole) refl

-- each table that was written is whole
stts_whole : (at : ℕ) (deltas : List ℕ) → length deltas < 2 ^ 32 → runs_told (part_at at (codes "stts", stts_body deltas)) ≡ Ok (run_pairs (count_in (stts_body deltas)) (drop 8 (stts_body deltas)))
unfolding runs_told
stts_whole at deltas lt =
    let whole : counted 8 (part_at at (codes "stts", stts_body deltas)) ≡ Ok tt = counted_holds 8 (part_at at (codes "stts", stts_body deltas)) (length (runs_of deltas)) (count_in-stts deltas lt) (omega (arith, length-stts deltas)) in
    rw whole refl

-- What is read of offsets: a version and runs, which say these.
record OffsetsRead (said : Table (ℕ × List (ℕ × ℕ))) (all : List ℤ) : Type 0 where
  version : ℕ
  runs : List (ℕ × ℕ)
  read : said ≡ Ok (version, runs)
  same : map (offset_in version) (expand runs) ≡ all

ctts_told : (lacks : Bool) (at version : ℕ) (ws : List ℕ) → length ws < 2 ^ 32 → AllByRecursion Word ws
    → OffsetsRead (offsets_told (cond lacks None (Some (part_at at (codes "ctts", ctts_body version ws))))) (cond lacks [] (map (offset_in version) ws))
unfolding offset_runs_told runs_told
ctts_told true at version ws lt all = record { version = 0; runs = []; read = refl; same = refl }
ctts_told false at version ws lt all =
    let body : List ℕ = ctts_body version ws in
    let whole : counted 8 (part_at at (codes "ctts", body)) ≡ Ok tt =
    counted_holds 8 (part_at at (codes "ctts", body)) (length (runs_of ws)) (count_in-ctts version ws lt) (omega (arith, length-ctts version ws)) in
    record { version = get_or body 0 0; runs = run_pairs (count_in body) (drop 8 body); read = rw whole refl; same = offsets_back version ws lt all }

stss_told : (lacks : Bool) (at : ℕ) (numbers : List ℕ) → length numbers < 2 ^ 32 → AllByRecursion Word numbers → rising 0 numbers ≡ true
    → syncs_told (cond lacks None (Some (part_at at (codes "stss", stss_body numbers)))) ≡ Ok (cond lacks None (Some numbers))
unfolding syncs_told numbers_told
stss_told true at numbers lt all up = refl
stss_told false at numbers lt all up =
    let whole : counted 4 (part_at at (codes "stss", stss_body numbers)) ≡ Ok tt =
    counted_holds 4 (part_at at (codes "stss", stss_body numbers)) (length numbers) (count_in-stss numbers lt) (omega (arith, length-stss numbers)) in
    rw (whole, sync_numbers_back numbers lt all, up) refl

places_read : (at : ℕ) (places : List ℕ) → length places < 2 ^ 32 → AllByRecursion Wide places → places_told (part_at at (places_part places)) ≡ Ok places
unfolding places_told
places_read at places lt all =
    elim (bool_tells (all_near places)) [
      | inl t ↦
          let whole : counted 4 (part_at at (codes "stco", stco_body places)) ≡ Ok tt = counted_holds 4 (part_at at (codes "stco", stco_body places)) (length places) (count_in-stco places lt) (omega (arith, length-stco places)) in
          rw (t, whole, places_back places lt (near_words places t)) refl
      | inr f ↦
          let whole : counted 8 (part_at at (codes "co64", co64_body places)) ≡ Ok tt = counted_holds 8 (part_at at (codes "co64", co64_body places)) (length places) (count_in-co64 places lt) (omega (arith, length-co64 places)) in
          rw (f, whole, wide_places_back places lt all) refl
    ]

-- counts of chunks that can be written
record Counts (counts : List ℕ) : Type 0 where
  filled : AllByRecursion (λ n. 0 < n) counts
  words : AllByRecursion Word counts
  few : length counts < 2 ^ 31

entries_few : (counts : List ℕ) → Counts counts → length (spread_from 1 0 counts) < 2 ^ 32
entries_few counts c = omega (arith, length-spread_from 1 0 counts, c.few)

spreads_are : (counts : List ℕ) → Counts counts → spreads_in (stsc_body counts) ≡ spread_from 1 0 counts
spreads_are counts c = spreads_back counts (entries_few counts c) (spread_words 1 0 counts (omega (arith, c.few)) c.words)

stsc_whole : (at : ℕ) (counts : List ℕ) → Counts counts → spreads_told (part_at at (codes "stsc", stsc_body counts)) ≡ Ok (spread_from 1 0 counts)
unfolding spreads_told
stsc_whole at counts c =
    let p : Piece = part_at at (codes "stsc", stsc_body counts) in
    let whole : counted 12 p ≡ Ok tt = counted_holds 12 p (length (spread_from 1 0 counts)) (count_in-stsc counts (entries_few counts c)) (omega (arith, length-stsc counts)) in
    rw (whole, spreads_are counts c, begins_rising_back counts c.filled) refl

stsz_whole : (at : ℕ) (sizes : List ℕ) → length sizes ≤ 16777216 → AllByRecursion (λ x. (0 < x) × Word x) sizes → sizes_told (part_at at (codes "stsz", stsz_body sizes)) ≡ Ok sizes
unfolding sizes_told sizes_whole
stsz_whole at sizes le all =
    let body : List ℕ = stsz_body sizes in
    let fields : nat_le 12 (length body) ≡ true = le-leb 12 (length body) (omega (arith, length-stsz sizes)) in
    let count : sample_count body ≡ length sizes = sample_count_back sizes (omega (arith, le)) in
    let few : nat_le (length sizes) 16777216 ≡ true = le-leb (length sizes) 16777216 le in
    let size : word32 (drop 4 body) ≡ uniform sizes = uniform_back sizes (words_are sizes all) in
    let long : nat_le (12 + fields_length false body) (length body) ≡ true =
    rw (count, size)
    (elim (bool_tells (uniform sizes == 0)) [
      | inl t ↦ rw t (le-leb (12 + 4 * length sizes) (length body) (omega (arith, length-stsz_each sizes t)))
      | inr f ↦ rw f fields
    ]) in
    let same : sizes_in body ≡ sizes = sizes_back sizes all (omega (arith, le)) in
    let counted_so : nat_le (sample_count body) 16777216 ≡ true = rw count few in
    rw (fields, counted_so, long, same) refl

-- samples that name the first of one sample entry
known_first : (at n : ℕ) → descriptions_known at 1 (replicate n 1) ≡ Ok tt
known_first at zero = refl
known_first at (suc n) = known_first at n

-- What is known of the lists of such chunks.
record Known (scale : ℕ) (rs : List Row) : Type 0 where
  deltas : AllByRecursion Word (deltas_of (ticks_of rs))
  deltas_many : length (deltas_of (ticks_of rs)) ≡ length (timed_of rs)
  words_many : length (offset_words (timed_of rs)) ≡ length (timed_of rs)
  sizes : AllByRecursion (λ x. (0 < x) × Word x) (sizes_in_rows rs)
  sizes_many : length (sizes_in_rows rs) ≡ length (timed_of rs)
  counts : Counts (counts_in_rows rs)
  counts_sum : sum (counts_in_rows rs) ≡ length (timed_of rs)
  places_many : length (places_in_rows rs) ≡ length (counts_in_rows rs)
  few : length (timed_of rs) ≤ 16777216

known_of : (scale base : ℕ) (rs : List Row) → Tellable scale base rs → Known scale rs
known_of scale base rs t =
    let n : length (counts_in_rows rs) ≡ length rs = length-map rs (λ (r : Row). length r.samples) in
    record {
      deltas = deltas_words base (ticks_of rs) t.paced;
      deltas_many = length-deltas_of (ticks_of rs) ∙ length-map (timed_of rs) (λ (s : Timed). s.decode);
      words_many = length-map (timed_of rs) _;
      sizes = sizes_sized (timed_of rs) t.each;
      sizes_many = length-map (timed_of rs) (λ (s : Timed). s.size);
      counts = record {
        filled = counts_filled rs t.filled;
        words = counts_words rs (omega (arith, t.few));
        few = omega (arith, n, rows_few rs t.filled, t.few);
      };
      counts_sum = sum-counts rs;
      places_many = length-map rs (λ (r : Row). r.place) ∙ sym n;
      few = t.few;
    }

-- the tables of such chunks, as they are read, with two of their boxes at these places
abbrev pub told : ℕ → ℕ → List Row → Tables
told a b rs = record {
  deltas = deltas_of (ticks_of rs);
  stts_at = a;
  offsets = told_offsets (timed_of rs);
  spreads = spread_from 1 0 (counts_in_rows rs);
  stsc_at = b;
  sizes = sizes_in_rows rs;
  places = places_in_rows rs;
  sync = told_sync (timed_of rs);
}

pub samples_read : (scale base a b : ℕ) (rs : List Row) → Tellable scale base rs → samples_in scale 1 (told a b rs) ≡ Ok (listed base rs)
unfolding samples_in samples_said
samples_read scale base a b rs t =
    let k : Known scale rs = known_of scale base rs t in
    let ss : List Timed = timed_of rs in
    let ds : List ℕ = deltas_of (ticks_of rs) in
    let n : ℕ = length ss in
    let sizes : List ℕ = sizes_in_rows rs in
    let counts : List ℕ = counts_in_rows rs in
    let places : List ℕ = places_in_rows rs in
    let back : SpreadBack counts (chunk_entries (spread_from 1 0 counts) (length counts)) = spread_back counts k.counts.filled in
    let timed : nat_le n (length ds) ≡ true = le-leb n (length ds) (omega (arith, k.deltas_many)) in
    let whole : take n ds ≡ ds = take_all n ds (omega (arith, k.deltas_many)) in
    let early : nat_le (sum ds) (2 ^ 40 * scale) ≡ true = le-leb (sum ds) (2 ^ 40 * scale) t.early in
    let held : nat_le n (sum counts) ≡ true = le-leb n (sum counts) (omega (arith, k.counts_sum)) in
    let ones : List ℕ = replicate n 1 in
    let named : described (chunk_entries (spread_from 1 0 counts) (length counts)) ≡ ones = back.described_as ∙ ap (λ (m : ℕ). replicate m 1) k.counts_sum in
    let ones_long : length ones ≤ n = omega (arith, length-replicate {A = ℕ} n 1) in
    let all : take n ones ≡ ones = take_all n ones ones_long in
    let listed_so : rows 1 sizes (running 0 ds) (told_offsets ss) (told_sync ss) (placed places counts sizes) ones ≡ listed base rs =
    rw (ticks_back base (ticks_of rs) t.paced)
    (rows_zipped 1 base ss (told_offsets ss) (told_sync ss) (placed places counts sizes) (from_start base ss t.paced) (offsets_are ss (all_near_offsets ss t.each)) (syncs_are ss)
    ∙ zipped_rows base rs) in
    rw (k.sizes_many, k.places_many, timed, whole, early, back.counts_are, held, named, all, known_first b n)
    (ap (λ (xs : List PlainSample). Ok xs) listed_so)

-- how many samples each chunk has
pub counts_told : (scale base a b : ℕ) (rs : List Row) → Tellable scale base rs → counts_of (told a b rs) ≡ counts_in_rows rs
counts_told scale base a b rs t =
    let k : Known scale rs = known_of scale base rs t in
    let counts : List ℕ = counts_in_rows rs in
    let back : SpreadBack counts (chunk_entries (spread_from 1 0 counts) (length counts)) = spread_back counts k.counts.filled in
    rw k.places_many back.counts_are

-- the first box of a type among others of which one may be missing
skip_optional : (lacks : Bool) (at : ℕ) (p : Part) (rest : List Piece) (kind : List ℕ) → bytes_eq p.0 kind ≡ false
    → child_piece (laid at (cond lacks [] (p ∷ [])) ++ rest) kind ≡ child_piece rest kind
skip_optional true at p rest kind e = refl
skip_optional false at p rest kind e = rw e refl

find_optional : (lacks : Bool) (at : ℕ) (p : Part) (rest : List Piece) (kind : List ℕ) → bytes_eq p.0 kind ≡ true → child_piece rest kind ≡ None
    → child_piece (laid at (cond lacks [] (p ∷ [])) ++ rest) kind ≡ cond lacks None (Some (part_at at p))
find_optional true at p rest kind e none = none
find_optional false at p rest kind e none = rw e refl

-- the box with the places is one of two types
other_kind : (places kind : List ℕ) → bytes_eq (codes "stco") kind ≡ false → bytes_eq (codes "co64") kind ≡ false → bytes_eq (places_part places).0 kind ≡ false
other_kind places kind a b = elim (bool_tells (all_near places)) [ inl t ↦ rw t a | inr f ↦ rw f b ]

either_places : (at : ℕ) (places : List ℕ)
    → option_or (child_piece (part_at at (places_part places) ∷ []) (codes "stco")) (child_piece (part_at at (places_part places) ∷ []) (codes "co64")) ≡ Some (part_at at (places_part places))
either_places at places = elim (bool_tells (all_near places)) [ inl t ↦ rw t refl | inr f ↦ rw f refl ]

-- a table that is found and whole
times_found : (at : ℕ) (ps : List Piece) (p : Piece) (runs : List (ℕ × ℕ)) → child_piece ps (codes "stts") ≡ Some p → runs_told p ≡ Ok runs → times_table at ps ≡ Ok (p.head.at, runs)
unfolding times_table
times_found at ps p runs found whole = rw (found, whole) refl

chunks_found : (at : ℕ) (ps : List Piece) (p : Piece) (spreads : List Spread) → child_piece ps (codes "stsc") ≡ Some p → spreads_told p ≡ Ok spreads → chunks_table at ps ≡ Ok (p.head.at, spreads)
unfolding chunks_table
chunks_found at ps p spreads found whole = rw (found, whole) refl

sizes_found : (at : ℕ) (ps : List Piece) (p : Piece) (sizes : List ℕ) → child_piece ps (codes "stsz") ≡ Some p → sizes_told p ≡ Ok sizes → sizes_table at ps ≡ Ok sizes
unfolding sizes_table
sizes_found at ps p sizes found whole = rw (found, whole) refl

places_found : (at : ℕ) (ps : List Piece) (p : Piece) (places : List ℕ) → option_or (child_piece ps (codes "stco")) (child_piece ps (codes "co64")) ≡ Some p
    → places_told p ≡ Ok places → places_table at ps ≡ Ok places
unfolding places_table
places_found at ps p places found whole = rw (found, whole) refl

-- the boxes of a sample table box, at these places
abbrev pub boxes_at : ℕ → ℕ → ℕ → ℕ → ℕ → ℕ → ℕ → List ℕ → List Row → List Piece
boxes_at a b c d e f g entry rs =
    part_at a (codes "stsd", stsd_body entry)
    ∷ part_at b (codes "stts", stts_body (deltas_of (ticks_of rs)))
    ∷ (laid c (ctts_parts (timed_of rs)) ++ (laid d (stss_parts (timed_of rs)) ++ (part_at e (codes "stsz", stsz_body (sizes_in_rows rs)) ∷ part_at f (codes "stsc", stsc_body (counts_in_rows rs)) ∷ part_at g (places_part (places_in_rows rs)) ∷ [])))

told_read : (scale base a b c d e f g at : ℕ) (entry : List ℕ) (rs : List Row) → Tellable scale base rs
    → tables_told at (boxes_at a b c d e f g entry rs) ≡ Ok (told b f rs)
unfolding tables_told
told_read scale base a b c d e f g at entry rs t =
    let k : Known scale rs = known_of scale base rs t in
    let ss : List Timed = timed_of rs in
    let ds : List ℕ = deltas_of (ticks_of rs) in
    let ws : List ℕ = offset_words ss in
    let all : List Piece = boxes_at a b c d e f g entry rs in
    let ctts : Part = (codes "ctts", ctts_body (version_of ss) ws) in
    let stss : Part = (codes "stss", stss_body (sync_numbers ss)) in
    let places : Piece = part_at g (places_part (places_in_rows rs)) in
    let last : List Piece = part_at e (codes "stsz", stsz_body (sizes_in_rows rs)) ∷ part_at f (codes "stsc", stsc_body (counts_in_rows rs)) ∷ places ∷ [] in
    let runs : List (ℕ × ℕ) = run_pairs (count_in (stts_body ds)) (drop 8 (stts_body ds)) in
    let times : times_table at all ≡ Ok (b, runs) = times_found at all (part_at b (codes "stts", stts_body ds)) runs refl (stts_whole b ds (omega (arith, k.deltas_many, k.few))) in
    let deltas : expand runs ≡ ds = deltas_back ds (omega (arith, k.deltas_many, k.few)) k.deltas in
    let no_ctts : child_piece last (codes "ctts") ≡ None = rw (other_kind (places_in_rows rs) (codes "ctts") refl refl) refl in
    let no_stss : child_piece last (codes "stss") ≡ None = rw (other_kind (places_in_rows rs) (codes "stss") refl refl) refl in
    let has_ctts : child_piece all (codes "ctts") ≡ cond (all_in_time ss) None (Some (part_at c ctts)) =
    find_optional (all_in_time ss) c ctts (laid d (stss_parts ss) ++ last) (codes "ctts") refl (skip_optional (all_sync ss) d stss last (codes "ctts") refl ∙ no_ctts) in
    let has_stss : child_piece all (codes "stss") ≡ cond (all_sync ss) None (Some (part_at d stss)) =
    skip_optional (all_in_time ss) c ctts (laid d (stss_parts ss) ++ last) (codes "stss") refl ∙ find_optional (all_sync ss) d stss last (codes "stss") refl no_stss in
    let behind : (kind : List ℕ) → bytes_eq (codes "ctts") kind ≡ false → bytes_eq (codes "stss") kind ≡ false → child_piece (laid c (ctts_parts ss) ++ (laid d (stss_parts ss) ++ last)) kind ≡ child_piece last kind =
    λ kind x y. skip_optional (all_in_time ss) c ctts (laid d (stss_parts ss) ++ last) kind x ∙ skip_optional (all_sync ss) d stss last kind y in
    let o : OffsetsRead (offsets_told (cond (all_in_time ss) None (Some (part_at c ctts)))) (told_offsets ss) = ctts_told (all_in_time ss) c (version_of ss) ws (omega (arith, k.words_many, k.few)) (offset_words_fit ss) in
    let offsets : offsets_told (child_piece all (codes "ctts")) ≡ Ok (o.version, o.runs) = ap offsets_told has_ctts ∙ o.read in
    let chunks : chunks_table at all ≡ Ok (f, spread_from 1 0 (counts_in_rows rs)) =
    chunks_found at all (part_at f (codes "stsc", stsc_body (counts_in_rows rs))) (spread_from 1 0 (counts_in_rows rs)) (behind (codes "stsc") refl refl) (stsc_whole f (counts_in_rows rs) k.counts) in
    let sizes : sizes_table at all ≡ Ok (sizes_in_rows rs) =
    sizes_found at all (part_at e (codes "stsz", stsz_body (sizes_in_rows rs))) (sizes_in_rows rs) (behind (codes "stsz") refl refl) (stsz_whole e (sizes_in_rows rs) (omega (arith, k.sizes_many, k.few)) k.sizes) in
    let has_places : option_or (child_piece all (codes "stco")) (child_piece all (codes "co64")) ≡ Some places =
    ap (λ (o : Option Piece). option_or o (child_piece all (codes "co64"))) (behind (codes "stco") refl refl)
    ∙ ap (λ (o : Option Piece). option_or (child_piece last (codes "stco")) o) (behind (codes "co64") refl refl)
    ∙ either_places g (places_in_rows rs) in
    let found : places_table at all ≡ Ok (places_in_rows rs) = places_found at all places (places_in_rows rs) has_places (places_read g (places_in_rows rs) (omega (arith, k.places_many, k.counts.few)) t.places) in
    let sync : syncs_told (child_piece all (codes "stss")) ≡ Ok (told_sync ss) =
    ap syncs_told has_stss
    ∙ stss_told (all_sync ss) d (sync_numbers ss) (omega (arith, length-sync_from 1 ss, k.few)) (sync_words 1 ss (omega (arith, k.few))) (sync_rising 0 1 ss (omega arith)) in
    rw (times, offsets, chunks, sizes, found, sync, deltas, o.same) refl

-- where the boxes of the deltas and of the chunks stand in a sample table box whose body begins at a place
abbrev pub stts_place : ℕ → List ℕ → ℕ
stts_place at entry = at + (8 + length (stsd_body entry))

abbrev pub stsc_place : ℕ → List ℕ → List Row → ℕ
stsc_place at entry rs =
    stts_place at entry + (8 + length (stts_body (deltas_of (ticks_of rs)))) + length (tiled (ctts_parts (timed_of rs))) + length (tiled (stss_parts (timed_of rs))) + (8 + length (stsz_body (sizes_in_rows rs)))

-- The tables of such chunks are read back from the boxes of a sample table box.
pub tables_laid : (scale base place at : ℕ) (entry : List ℕ) (rs : List Row) → Tellable scale base rs → AllByRecursion Fits (stbl_parts entry rs)
    → tables_told place (laid at (stbl_parts entry rs)) ≡ Ok (told (stts_place at entry) (stsc_place at entry rs) rs)
tables_laid scale base place at entry rs t fits =
    let ss : List Timed = timed_of rs in
    let last : List Part = (codes "stsz", stsz_body (sizes_in_rows rs)) ∷ (codes "stsc", stsc_body (counts_in_rows rs)) ∷ places_part (places_in_rows rs) ∷ [] in
    let stts : List ℕ = stts_body (deltas_of (ticks_of rs)) in
    let b : ℕ = at + (8 + length (stsd_body entry)) in
    let c : ℕ = b + (8 + length stts) in
    let d : ℕ = c + length (tiled (ctts_parts ss)) in
    let e : ℕ = d + length (tiled (stss_parts ss)) in
    let f : ℕ = e + (8 + length (stsz_body (sizes_in_rows rs))) in
    let g : ℕ = f + (8 + length (stsc_body (counts_in_rows rs))) in
    let fits_ctts : AllByRecursion Fits (ctts_parts ss) = all_front Fits (ctts_parts ss) (stss_parts ss ++ last) fits.1.1 in
    let fits_stss : AllByRecursion Fits (stss_parts ss) = all_front Fits (stss_parts ss) last (all_behind Fits (ctts_parts ss) (stss_parts ss ++ last) fits.1.1) in
    let boxes : laid at (stbl_parts entry rs) ≡ boxes_at at b c d e f g entry rs =
    ap (λ (ps : List Piece). part_at at (codes "stsd", stsd_body entry) ∷ part_at b (codes "stts", stts) ∷ ps)
    (laid-append c (ctts_parts ss) (stss_parts ss ++ last) fits_ctts ∙ ap (λ (ps : List Piece). laid c (ctts_parts ss) ++ ps) (laid-append d (stss_parts ss) last fits_stss)) in
    ap (tables_told place) boxes ∙ told_read scale base at b c d e f g place entry rs t

-- The samples that such tables say, in a file that holds them.
pub held_back : (bytes number scale base a b : ℕ) (rs : List Row) → Tellable scale base rs → held_in bytes number 0 (listed base rs) ≡ Ok tt
    → samples_held bytes number scale 1 (told a b rs) ≡ Ok (listed base rs)
unfolding samples_held
held_back bytes number scale base a b rs t held = rw (samples_read scale base a b rs t, held) refl
