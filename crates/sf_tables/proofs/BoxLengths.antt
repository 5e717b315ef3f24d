-- How long the boxes are.
use Rattle.std.proofs.Common.{◌≡◌, ℕ, ◌+◌, ◌*◌, ◌<◌, ◌≤◌, ◌==◌, Bool, true, false, cond, List, [], ◌∷◌, ◌++◌, length, take, drop, map, refl, sym, ap, ◌∙◌, arith, append_assoc, codes}
use Rattle.std.specs.List.{flat_map}
use Rattle.std.proofs.lemmas.List.{length-append, length-map}
use Rattle.sf_box.specs.Boxes.{be32, be64}
use Rattle.sf_box.specs.Parts.{Part, tiled}
use Rattle.sf_box.proofs.BoxLaws.{length-be32, length-be64, length-box_of, length-opened, tiled-append, length-tiled-cons, length-tiled-nil}
use Rattle.sf_meaning.specs.Tables.{Spread}
use Rattle.sf_meaning.specs.Stbl.{Timed, Row, run_bytes, spread_bytes, runs_of, deltas_of, stts_body, ctts_body, stss_body, stsz_body, stsc_body, stco_body, co64_body, stsd_body, uniform, spread_from, offset_words, sync_numbers, all_in_time, none_early, all_sync, all_near, ctts_parts, stss_parts, places_part, stbl_parts, timed_of, counts_in_rows, places_in_rows}
use Rattle.sf_tables.specs.declared.totals.SampleTotals.{SampleTotals}
use Rattle.sf_tables.specs.declared.totals.ChunkTotals.{ChunkTotals}
use Rattle.sf_tables.specs.inner.Totals.{CountsSamples, CountsChunks}
use Rattle.sf_tables.specs.inner.Kept.{of_samples, of_chunks, stbl_from}

pub length-words : (xs : List ℕ) → length (flat_map be32 xs) ≡ 4 * length xs
length-words [] = refl
length-words (x ∷ xs) = omega (arith, length-append (be32 x) (flat_map be32 xs), length-be32 x, length-words xs)

pub length-wide : (xs : List ℕ) → length (flat_map be64 xs) ≡ 8 * length xs
length-wide [] = refl
length-wide (x ∷ xs) = omega (arith, length-append (be64 x) (flat_map be64 xs), length-be64 x, length-wide xs)

pub length-run_bytes : (runs : List (ℕ × ℕ)) → length (flat_map run_bytes runs) ≡ 8 * length runs
length-run_bytes [] = refl
length-run_bytes (r ∷ rs) =
    omega (arith, length-append (run_bytes r) (flat_map run_bytes rs), length-append (be32 r.0) (be32 r.1), length-be32 r.0, length-be32 r.1, length-run_bytes rs)

pub length-spread_bytes : (es : List Spread) → length (flat_map spread_bytes es) ≡ 12 * length es
length-spread_bytes [] = refl
length-spread_bytes (e ∷ es) =
    omega (
      arith,
      length-append (spread_bytes e) (flat_map spread_bytes es),
      length-append (be32 e.first) (be32 e.per ++ be32 e.description),
      length-append (be32 e.per) (be32 e.description),
      length-be32 e.first,
      length-be32 e.per,
      length-be32 e.description,
      length-spread_bytes es,
    )

pub ruleset length_facts = (length-append, length-opened, length-map, length-be32, length-be64, length-box_of, length-words, length-wide, length-run_bytes, length-spread_bytes)

length-table : (a b c d : ℕ) (n : ℕ) (entries : List ℕ) → length ((a ∷ b ∷ c ∷ d ∷ []) ++ (be32 n ++ entries)) ≡ 8 + length entries
length-table a b c d n entries = omega (arith, length-append (a ∷ b ∷ c ∷ d ∷ []) (be32 n ++ entries), length-append (be32 n) entries, length-be32 n)

pub length-stts : (deltas : List ℕ) → length (stts_body deltas) ≡ 8 + 8 * length (runs_of deltas)
unfolding stts_body
length-stts deltas = omega (arith, length-table 0 0 0 0 (length (runs_of deltas)) (flat_map run_bytes (runs_of deltas)), length-run_bytes (runs_of deltas))

pub length-ctts : (version : ℕ) (words : List ℕ) → length (ctts_body version words) ≡ 8 + 8 * length (runs_of words)
unfolding ctts_body
length-ctts version words = omega (arith, length-table version 0 0 0 (length (runs_of words)) (flat_map run_bytes (runs_of words)), length-run_bytes (runs_of words))

pub length-stss : (numbers : List ℕ) → length (stss_body numbers) ≡ 8 + 4 * length numbers
unfolding stss_body
length-stss numbers = omega (arith, length-table 0 0 0 0 (length numbers) (flat_map be32 numbers), length-words numbers)

pub length-stsc : (counts : List ℕ) → length (stsc_body counts) ≡ 8 + 12 * length (spread_from 1 0 counts)
unfolding stsc_body
length-stsc counts = omega (arith, length-table 0 0 0 0 (length (spread_from 1 0 counts)) (flat_map spread_bytes (spread_from 1 0 counts)), length-spread_bytes (spread_from 1 0 counts))

pub length-stco : (places : List ℕ) → length (stco_body places) ≡ 8 + 4 * length places
unfolding stco_body
length-stco places = omega (arith, length-table 0 0 0 0 (length places) (flat_map be32 places), length-words places)

pub length-co64 : (places : List ℕ) → length (co64_body places) ≡ 8 + 8 * length places
unfolding co64_body
length-co64 places = omega (arith, length-table 0 0 0 0 (length places) (flat_map be64 places), length-wide places)

sizes_if : (b : Bool) (sizes : List ℕ) → length (cond b (flat_map be32 sizes) []) ≡ cond b (4 * length sizes) 0
sizes_if true sizes = length-words sizes
sizes_if false sizes = refl

pub length-stsz : (sizes : List ℕ) → length (stsz_body sizes) ≡ 12 + cond (uniform sizes == 0) (4 * length sizes) 0
unfolding stsz_body
length-stsz sizes =
    omega (
      arith,
      length-table 0 0 0 0 (uniform sizes) (be32 (length sizes) ++ cond (uniform sizes == 0) (flat_map be32 sizes) []),
      length-append (be32 (length sizes)) (cond (uniform sizes == 0) (flat_map be32 sizes) []),
      length-be32 (length sizes),
      sizes_if (uniform sizes == 0) sizes,
    )

one_part : (p : Part) → length p.0 ≡ 4 → length (tiled (p ∷ [])) ≡ 8 + length p.1
one_part p k = omega (arith, length-tiled-cons p [] k, length-tiled-nil)

pub length-part_if : (b : Bool) (p : Part) (n : ℕ) → length p.0 ≡ 4 → length p.1 ≡ 8 + n → length (tiled (cond b [] (p ∷ []))) ≡ cond b 0 (16 + n)
length-part_if true p n k e = length-tiled-nil
length-part_if false p n k e = omega (arith, one_part p k, e)

pub length-ctts_parts : (ss : List Timed) → length (tiled (ctts_parts ss)) ≡ cond (all_in_time ss) 0 (16 + 8 * length (runs_of (offset_words ss)))
length-ctts_parts ss = length-part_if (all_in_time ss) (codes "ctts", ctts_body (cond (none_early ss) 0 1) (offset_words ss)) _ refl (length-ctts (cond (none_early ss) 0 1) (offset_words ss))

pub length-stss_parts : (ss : List Timed) → length (tiled (stss_parts ss)) ≡ cond (all_sync ss) 0 (16 + 4 * length (sync_numbers ss))
length-stss_parts ss = length-part_if (all_sync ss) (codes "stss", stss_body (sync_numbers ss)) _ refl (length-stss (sync_numbers ss))

places_if : (b : Bool) (places : List ℕ) → length (tiled (cond b (codes "stco", stco_body places) (codes "co64", co64_body places) ∷ [])) ≡ cond b (16 + 4 * length places) (16 + 8 * length places)
places_if true places = omega (arith, one_part (codes "stco", stco_body places) refl, length-stco places)
places_if false places = omega (arith, one_part (codes "co64", co64_body places) refl, length-co64 places)

pub length-of_chunks : (places counts : List ℕ) → length (tiled (of_chunks places counts)) ≡ 16 + 12 * length (spread_from 1 0 counts) + cond (all_near places) (16 + 4 * length places) (16 + 8 * length places)
length-of_chunks places counts =
    omega (arith, length-tiled-cons (codes "stsc", stsc_body counts) (places_part places ∷ []) refl, length-stsc counts, places_if (all_near places) places)

pub length-of_samples : (ss : List Timed)
    → length (tiled (of_samples ss))
    ≡ 16 + 8 * length (runs_of (deltas_of (map (λ (s : Timed). s.decode) ss))) + cond (all_in_time ss) 0 (16 + 8 * length (runs_of (offset_words ss)))
    + cond (all_sync ss) 0 (16 + 4 * length (sync_numbers ss)) + (20 + cond (uniform (map (λ (s : Timed). s.size) ss) == 0) (4 * length ss) 0)
length-of_samples ss =
    let sizes : List ℕ = map (λ (s : Timed). s.size) ss in
    let stsz : List Part = (codes "stsz", stsz_body sizes) ∷ [] in
    let count : length sizes ≡ length ss = length-map ss (λ (s : Timed). s.size) in
    let one = one_part (codes "stsz", stsz_body sizes) refl in
    let size : length (stsz_body sizes) ≡ 12 + cond (uniform sizes == 0) (4 * length ss) 0 = length-stsz sizes ∙ ap (λ (n : ℕ). 12 + cond (uniform sizes == 0) (4 * n) 0) count in
    let a : length (tiled (ctts_parts ss ++ (stss_parts ss ++ stsz))) ≡ length (tiled (ctts_parts ss)) + length (tiled (stss_parts ss ++ stsz))
    = ap (λ (xs : List ℕ). length xs) (tiled-append (ctts_parts ss) (stss_parts ss ++ stsz)) ∙ length-append (tiled (ctts_parts ss)) (tiled (stss_parts ss ++ stsz)) in
    let b : length (tiled (stss_parts ss ++ stsz)) ≡ length (tiled (stss_parts ss)) + length (tiled stsz)
    = ap (λ (xs : List ℕ). length xs) (tiled-append (stss_parts ss) stsz) ∙ length-append (tiled (stss_parts ss)) (tiled stsz) in
    omega (
      arith,
      length-tiled-cons (codes "stts", stts_body (deltas_of (map (λ (s : Timed). s.decode) ss))) (ctts_parts ss ++ (stss_parts ss ++ stsz)) refl,
      length-stts (deltas_of (map (λ (s : Timed). s.decode) ss)),
      a,
      b,
      length-ctts_parts ss,
      length-stss_parts ss,
      one,
      size,
    )

pub length-stbl_from : (entry : List ℕ) (ss : List Timed) (places counts : List ℕ)
    → length (tiled (stbl_from entry ss places counts)) ≡ 16 + length entry + length (tiled (of_samples ss)) + length (tiled (of_chunks places counts))
length-stbl_from entry ss places counts =
    omega (
      arith,
      length-tiled-cons (codes "stsd", stsd_body entry) (of_samples ss ++ of_chunks places counts) refl,
      ap (λ (xs : List ℕ). length xs) (tiled-append (of_samples ss) (of_chunks places counts)),
      length-append (tiled (of_samples ss)) (tiled (of_chunks places counts)),
    )

pub stbl_is : (entry : List ℕ) (rows : List Row) → stbl_parts entry rows ≡ stbl_from entry (timed_of rows) (places_in_rows rows) (counts_in_rows rows)
stbl_is entry rows = simp append_assoc

moved : (b : Bool) (n : ℕ) → cond b (20 + 4 * n) 20 ≡ 20 + cond b (4 * n) 0
moved true n = refl
moved false n = refl

-- the box's length from the totals
pub length-stbl : (t : SampleTotals) (c : ChunkTotals) (entry : List ℕ) (rows : List Row) → CountsSamples t (timed_of rows) → CountsChunks c (places_in_rows rows) (counts_in_rows rows)
    → 8 + length (tiled (stbl_parts entry rows))
    ≡ 8 + (16 + length entry) + ((16 + 8 * t.delta_runs) + cond t.in_time 0 (16 + 8 * t.offset_runs) + cond t.all_sync 0 (16 + 4 * t.syncs) + cond (t.size == 0) (20 + 4 * t.count) 20)
    + (16 + 12 * c.spreads) + cond c.near (16 + 4 * c.chunks) (16 + 8 * c.chunks)
length-stbl t c entry rows s k =
    rw (stbl_is entry rows, s.count, s.delta_runs, s.in_time, s.offset_runs, s.all_sync, s.syncs, s.size, k.chunks, k.spreads, k.near)
    (omega (
      arith,
      length-stbl_from entry (timed_of rows) (places_in_rows rows) (counts_in_rows rows),
      length-of_samples (timed_of rows),
      length-of_chunks (places_in_rows rows) (counts_in_rows rows),
      moved (uniform (map (λ (x : Timed). x.size) (timed_of rows)) == 0) (length (timed_of rows)),
    ))
