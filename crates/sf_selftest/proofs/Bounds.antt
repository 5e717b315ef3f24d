-- How long the movie box of a file of few samples is at most.
use Rattle.std.proofs.Common.{◌≡◌, ℕ, zero, suc, ◌+◌, ◌-◌, ◌*◌, ◌^◌, ◌≤◌, ◌<◌, ◌==◌, ◌⊎◌, Bool, true, false, cond, List, [], ◌∷◌, ◌++◌, length, map, codes, refl, sym, ap, ◌∙◌, inl, inr, arith}
use Rattle.std.specs.List.{flat_map, list_all}
use Rattle.std.proofs.lemmas.List.{length-append, length-map}
use Rattle.sf_box.specs.Boxes.{be32, be64}
use Rattle.sf_box.specs.Parts.{Part, tiled}
use Rattle.sf_box.proofs.BoxLaws.{length-be32, length-be64, length-box_of, length-tiled-nil, length-tiled-cons, tiled-append}
use Rattle.sf_meaning.specs.Tables.{Spread}
use Rattle.sf_meaning.specs.Stbl.{Row, Timed, timed_of, ticks_of, sizes_in_rows, counts_in_rows, places_in_rows, in_front, runs_of, differences, deltas_of, offset_words, all_in_time, none_early, all_sync, sync_from, sync_numbers, uniform, spread_from, all_near, run_bytes, spread_bytes, stts_body, ctts_body, stss_body, stsz_body, stsc_body, stco_body, co64_body, stsd_body, ctts_parts, stss_parts, places_part, stbl_parts, stbl_box}

bool_tells : (b : Bool) → (b ≡ true) ⊎ (b ≡ false)
bool_tells true = inl refl
bool_tells false = inr refl

-- ---- items of one length

items_long : {A : Type 0} (f : A → List ℕ) (k : ℕ) (xs : List A) → ((x : A) → length (f x) ≡ k) → length (flat_map f xs) ≡ k * length xs
items_long f k [] each = omega arith
items_long f k (x ∷ xs) each =
    let more : length (flat_map f xs) ≡ k * length xs = items_long f k xs each in
    let one : length (f x) ≡ k = each x in
    length-append (f x) (flat_map f xs) ∙ omega (arith, more, one)

run_long : (run : ℕ × ℕ) → length (run_bytes run) ≡ 8
run_long run = length-append (be32 run.0) (be32 run.1) ∙ omega (arith, length-be32 run.0, length-be32 run.1)

spread_long : (e : Spread) → length (spread_bytes e) ≡ 12
spread_long e =
    length-append (be32 e.first) (be32 e.per ++ be32 e.description)
    ∙ omega (arith, length-be32 e.first, length-be32 e.per, length-be32 e.description, length-append (be32 e.per) (be32 e.description))

-- ---- how many items there are

run_in_front : (x : ℕ) (runs : List (ℕ × ℕ)) → length (in_front x runs) ≤ 1 + length runs
run_in_front x [] = omega arith
run_in_front x (run ∷ runs) =
    elim (bool_tells (x == run.1)) [
      | inl t ↦ rw t (omega arith)
      | inr f ↦ rw f (omega arith)
    ]

few_runs : (xs : List ℕ) → length (runs_of xs) ≤ length xs
few_runs [] = omega arith
few_runs (x ∷ xs) = omega (arith, run_in_front x (runs_of xs), few_runs xs)

differences_long : (last t : ℕ) (ts : List ℕ) → length (differences last t ts) ≡ 1 + length ts
differences_long last t [] = omega arith
differences_long last t (u ∷ ts) = omega (arith, differences_long (u - t) u ts)

deltas_long : (ts : List ℕ) → length (deltas_of ts) ≡ length ts
deltas_long [] = refl
deltas_long (t ∷ ts) = differences_long 0 t ts ∙ omega arith

few_syncs : (number : ℕ) (ss : List Timed) → length (sync_from number ss) ≤ length ss
few_syncs number [] = omega arith
few_syncs number (s ∷ ss) =
    elim (bool_tells s.sync) [
      | inl t ↦ rw t (omega (arith, few_syncs (number + 1) ss))
      | inr f ↦ rw f (omega (arith, few_syncs (number + 1) ss))
    ]

few_spreads : (number last : ℕ) (counts : List ℕ) → length (spread_from number last counts) ≤ length counts
few_spreads number last [] = omega arith
few_spreads number last (c ∷ counts) =
    elim (bool_tells (c == last)) [
      | inl t ↦ rw t (omega (arith, few_spreads (number + 1) c counts))
      | inr f ↦ rw f (omega (arith, few_spreads (number + 1) c counts))
    ]

-- ---- the bodies of the tables

stts_long : (deltas : List ℕ) → length (stts_body deltas) ≤ 8 + 8 * length deltas
unfolding stts_body
stts_long deltas =
    let runs = runs_of deltas in
    omega (arith, length-append (be32 (length runs)) (flat_map run_bytes runs), length-be32 (length runs), items_long run_bytes 8 runs run_long, few_runs deltas)

ctts_long : (version : ℕ) (words : List ℕ) → length (ctts_body version words) ≤ 8 + 8 * length words
unfolding ctts_body
ctts_long version words =
    let runs = runs_of words in
    omega (arith, length-append (be32 (length runs)) (flat_map run_bytes runs), length-be32 (length runs), items_long run_bytes 8 runs run_long, few_runs words)

stss_long : (numbers : List ℕ) → length (stss_body numbers) ≡ 8 + 4 * length numbers
unfolding stss_body
stss_long numbers =
    omega (arith, length-append (be32 (length numbers)) (flat_map be32 numbers), length-be32 (length numbers), items_long be32 4 numbers length-be32)

sizes_long : (b : Bool) (sizes : List ℕ) → length (cond b (flat_map be32 sizes) []) ≤ 4 * length sizes
sizes_long true sizes = omega (arith, items_long be32 4 sizes length-be32)
sizes_long false sizes = omega arith

stsz_long : (sizes : List ℕ) → length (stsz_body sizes) ≤ 12 + 4 * length sizes
unfolding stsz_body
stsz_long sizes =
    let own : List ℕ = cond (uniform sizes == 0) (flat_map be32 sizes) [] in
    omega (
      arith,
      length-append (be32 (uniform sizes)) (be32 (length sizes) ++ own),
      length-append (be32 (length sizes)) own,
      length-be32 (uniform sizes),
      length-be32 (length sizes),
      sizes_long (uniform sizes == 0) sizes,
    )

stsc_long : (counts : List ℕ) → length (stsc_body counts) ≤ 8 + 12 * length counts
unfolding stsc_body
stsc_long counts =
    let es = spread_from 1 0 counts in
    omega (arith, length-append (be32 (length es)) (flat_map spread_bytes es), length-be32 (length es), items_long spread_bytes 12 es spread_long, few_spreads 1 0 counts)

stco_long : (places : List ℕ) → length (stco_body places) ≡ 8 + 4 * length places
unfolding stco_body
stco_long places = omega (arith, length-append (be32 (length places)) (flat_map be32 places), length-be32 (length places), items_long be32 4 places length-be32)

co64_long : (places : List ℕ) → length (co64_body places) ≡ 8 + 8 * length places
unfolding co64_body
co64_long places = omega (arith, length-append (be32 (length places)) (flat_map be64 places), length-be32 (length places), items_long be64 8 places length-be64)

-- ---- the boxes of a sample table box

places_by : (b : Bool) (places : List ℕ) → length (tiled (cond b (codes "stco", stco_body places) (codes "co64", co64_body places) ∷ [])) ≤ 16 + 8 * length places
places_by true places = let one = length-tiled-cons (codes "stco", stco_body places) [] refl in omega (arith, one, length-tiled-nil, stco_long places)
places_by false places = let one = length-tiled-cons (codes "co64", co64_body places) [] refl in omega (arith, one, length-tiled-nil, co64_long places)

ctts_by : (b : Bool) (version : ℕ) (words : List ℕ) (n : ℕ) → length words ≡ n → length (tiled (cond b [] ((codes "ctts", ctts_body version words) ∷ []))) ≤ 16 + 8 * n
ctts_by true version words n e = omega (arith, length-tiled-nil)
ctts_by false version words n e = let one = length-tiled-cons (codes "ctts", ctts_body version words) [] refl in omega (arith, one, length-tiled-nil, ctts_long version words, e)

stss_by : (b : Bool) (numbers : List ℕ) (n : ℕ) → length numbers ≤ n → length (tiled (cond b [] ((codes "stss", stss_body numbers) ∷ []))) ≤ 16 + 4 * n
stss_by true numbers n e = omega (arith, length-tiled-nil)
stss_by false numbers n e = let one = length-tiled-cons (codes "stss", stss_body numbers) [] refl in omega (arith, one, length-tiled-nil, stss_long numbers, e)

tail_long : (rows : List Row)
    → length (tiled ((codes "stsz", stsz_body (sizes_in_rows rows)) ∷ (codes "stsc", stsc_body (counts_in_rows rows)) ∷ places_part (places_in_rows rows) ∷ [])) ≤ 52 + 4 * length (timed_of rows) + 20 * length rows
tail_long rows =
    let ss : List Timed = timed_of rows in
    let last : List Part = places_part (places_in_rows rows) ∷ [] in
    let sizes = length-tiled-cons (codes "stsz", stsz_body (sizes_in_rows rows)) ((codes "stsc", stsc_body (counts_in_rows rows)) ∷ last) refl in
    let counts = length-tiled-cons (codes "stsc", stsc_body (counts_in_rows rows)) last refl in
    omega (
      arith,
      sizes,
      counts,
      stsz_long (sizes_in_rows rows),
      stsc_long (counts_in_rows rows),
      places_by (all_near (places_in_rows rows)) (places_in_rows rows),
      length-map ss (λ (s : Timed). s.size),
      length-map rows (λ (r : Row). length r.samples),
      length-map rows (λ (r : Row). r.place),
    )

tables_long : (rows : List Row)
    → length (tiled (ctts_parts (timed_of rows) ++ (stss_parts (timed_of rows) ++ ((codes "stsz", stsz_body (sizes_in_rows rows)) ∷ (codes "stsc", stsc_body (counts_in_rows rows)) ∷ places_part (places_in_rows rows) ∷ []))))
    ≤ 84 + 16 * length (timed_of rows) + 20 * length rows
tables_long rows =
    let ss : List Timed = timed_of rows in
    let tail : List Part = (codes "stsz", stsz_body (sizes_in_rows rows)) ∷ (codes "stsc", stsc_body (counts_in_rows rows)) ∷ places_part (places_in_rows rows) ∷ [] in
    let one = ap (λ (l : List ℕ). length l) (tiled-append (ctts_parts ss) (stss_parts ss ++ tail)) ∙ length-append (tiled (ctts_parts ss)) (tiled (stss_parts ss ++ tail)) in
    let two = ap (λ (l : List ℕ). length l) (tiled-append (stss_parts ss) tail) ∙ length-append (tiled (stss_parts ss)) (tiled tail) in
    let offsets = ctts_by (all_in_time ss) (cond (none_early ss) 0 1) (offset_words ss) (length ss) (length-map ss _) in
    let syncs = stss_by (all_sync ss) (sync_numbers ss) (length ss) (few_syncs 1 ss) in
    omega (arith, one, two, offsets, syncs, tail_long rows)

-- the sample table box of rows
pub stbl_few : (entry : List ℕ) (rows : List Row) → length (stbl_box entry rows) ≤ 124 + length entry + 24 * length (timed_of rows) + 20 * length rows
unfolding stbl_box
stbl_few entry rows =
    let ss : List Timed = timed_of rows in
    let others : List Part = ctts_parts ss ++ (stss_parts ss ++ ((codes "stsz", stsz_body (sizes_in_rows rows)) ∷ (codes "stsc", stsc_body (counts_in_rows rows)) ∷ places_part (places_in_rows rows) ∷ [])) in
    let ticks : List ℕ = ticks_of rows in
    let deltas = deltas_long ticks ∙ length-map ss (λ (s : Timed). s.decode) in
    let whole = length-box_of (codes "stbl") (tiled (stbl_parts entry rows)) refl in
    let first = length-tiled-cons (codes "stsd", stsd_body entry) ((codes "stts", stts_body (deltas_of ticks)) ∷ others) refl in
    let second = length-tiled-cons (codes "stts", stts_body (deltas_of ticks)) others refl in
    omega (arith, whole, first, second, deltas, stts_long (deltas_of ticks), tables_long rows)
