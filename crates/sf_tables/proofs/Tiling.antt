-- Boxes that are put one after the other are those of the sample table box.
use Rattle.std.proofs.Common.{◌≡◌, ℕ, ◌+◌, ◌*◌, ◌≤◌, ◌==◌, true, false, cond, List, [], ◌∷◌, ◌++◌, codes, length, map, take, refl, sym, ap, ◌∙◌, append_assoc, arith}
use Rattle.std.proofs.lemmas.List.{append-nil, length-append, take-take, take_at}
use Rattle.sf_box.specs.Boxes.{box_of, opened}
use Rattle.sf_box.specs.Parts.{Part, tiled}
use Rattle.sf_box.proofs.BoxLaws.{tiled-append}
use Rattle.sf_meaning.specs.Stbl.{Timed, runs_of, deltas_of, stts_body, ctts_body, stss_body, stsz_body, stsc_body, stco_body, co64_body, stsd_body, uniform, offset_words, sync_numbers, all_in_time, none_early, all_sync, all_near, ctts_parts, stss_parts}
use Rattle.sf_tables.specs.inner.Kept.{of_samples, of_chunks, stbl_from}
use Rattle.sf_tables.proofs.BoxLengths.{length-ctts_parts, length-stss_parts, length-of_samples, length-of_chunks}

two_boxes : (front a b : List ℕ) → front ++ (a ++ (b ++ [])) ≡ (front ++ a) ++ b
two_boxes front a b = ap (λ (xs : List ℕ). front ++ (a ++ xs)) (append-nil b) ∙ sym (append_assoc front a b)

pub near_tiled : (front places counts : List ℕ) → all_near places ≡ true
    → front ++ tiled (of_chunks places counts) ≡ (front ++ box_of (codes "stsc") (stsc_body counts)) ++ box_of (codes "stco") (stco_body places)
unfolding tiled
near_tiled front places counts near = rw near (two_boxes front (box_of (codes "stsc") (stsc_body counts)) (box_of (codes "stco") (stco_body places)))

pub wide_tiled : (front places counts : List ℕ) → all_near places ≡ false
    → front ++ tiled (of_chunks places counts) ≡ (front ++ box_of (codes "stsc") (stsc_body counts)) ++ box_of (codes "co64") (co64_body places)
unfolding tiled
wide_tiled front places counts near = rw near (two_boxes front (box_of (codes "stsc") (stsc_body counts)) (box_of (codes "co64") (co64_body places)))

pub near_size : (places counts : List ℕ) → all_near places ≡ true → 16 + 4 * length places ≤ length (tiled (of_chunks places counts))
near_size places counts near =
    let k : cond (all_near places) (16 + 4 * length places) (16 + 8 * length places) ≡ 16 + 4 * length places = rw near refl in
    omega (arith, length-of_chunks places counts, k)

pub wide_size : (places counts : List ℕ) → all_near places ≡ false → 16 + 8 * length places ≤ length (tiled (of_chunks places counts))
wide_size places counts near =
    let k : cond (all_near places) (16 + 4 * length places) (16 + 8 * length places) ≡ 16 + 8 * length places = rw near refl in
    omega (arith, length-of_chunks places counts, k)

pub no_ctts : (ss : List Timed) → all_in_time ss ≡ true → tiled (ctts_parts ss) ≡ []
unfolding tiled
no_ctts ss e = rw e refl

pub one_ctts : (ss : List Timed) → all_in_time ss ≡ false → tiled (ctts_parts ss) ≡ box_of (codes "ctts") (ctts_body (cond (none_early ss) 0 1) (offset_words ss))
unfolding tiled
one_ctts ss e = rw e (append-nil (box_of (codes "ctts") (ctts_body (cond (none_early ss) 0 1) (offset_words ss))))

pub ctts_size : (ss : List Timed) → all_in_time ss ≡ false → length (tiled (ctts_parts ss)) ≡ 16 + 8 * length (runs_of (offset_words ss))
ctts_size ss e =
    let k : cond (all_in_time ss) 0 (16 + 8 * length (runs_of (offset_words ss))) ≡ 16 + 8 * length (runs_of (offset_words ss)) = rw e refl in
    length-ctts_parts ss ∙ k

pub no_stss : (ss : List Timed) → all_sync ss ≡ true → tiled (stss_parts ss) ≡ []
unfolding tiled
no_stss ss e = rw e refl

pub one_stss : (ss : List Timed) → all_sync ss ≡ false → tiled (stss_parts ss) ≡ box_of (codes "stss") (stss_body (sync_numbers ss))
unfolding tiled
one_stss ss e = rw e (append-nil (box_of (codes "stss") (stss_body (sync_numbers ss))))

pub stss_size : (ss : List Timed) → all_sync ss ≡ false → length (tiled (stss_parts ss)) ≡ 16 + 4 * length (sync_numbers ss)
stss_size ss e =
    let k : cond (all_sync ss) 0 (16 + 4 * length (sync_numbers ss)) ≡ 16 + 4 * length (sync_numbers ss) = rw e refl in
    length-stss_parts ss ∙ k

-- where no size is that of all, each is listed
pub listed_sizes : (ss : List Timed) → uniform (map (λ (s : Timed). s.size) ss) ≡ 0 → 20 + 4 * length ss ≤ length (tiled (of_samples ss))
listed_sizes ss e =
    let k : cond (uniform (map (λ (s : Timed). s.size) ss) == 0) (4 * length ss) 0 ≡ 4 * length ss = rw e refl in
    omega (arith, length-of_samples ss, k)

four : (front a b c d : List ℕ) → front ++ (a ++ (b ++ (c ++ (d ++ [])))) ≡ (((front ++ a) ++ b) ++ c) ++ d
four front a b c d = simp (append-nil, append_assoc)

pub samples_tiled : (front : List ℕ) (ss : List Timed)
    → front ++ tiled (of_samples ss)
    ≡ (((front ++ box_of (codes "stts") (stts_body (deltas_of (map (λ (s : Timed). s.decode) ss)))) ++ tiled (ctts_parts ss)) ++ tiled (stss_parts ss)) ++ box_of (codes "stsz") (stsz_body (map (λ (s : Timed). s.size) ss))
unfolding tiled
samples_tiled front ss =
    let stsz : Part = (codes "stsz", stsz_body (map (λ (s : Timed). s.size) ss)) in
    let stts : List ℕ = box_of (codes "stts") (stts_body (deltas_of (map (λ (s : Timed). s.decode) ss))) in
    let parts : tiled (ctts_parts ss ++ (stss_parts ss ++ stsz ∷ [])) ≡ tiled (ctts_parts ss) ++ (tiled (stss_parts ss) ++ tiled (stsz ∷ []))
    = tiled-append (ctts_parts ss) (stss_parts ss ++ stsz ∷ []) ∙ ap (λ (xs : List ℕ). tiled (ctts_parts ss) ++ xs) (tiled-append (stss_parts ss) (stsz ∷ [])) in
    ap (λ (xs : List ℕ). front ++ (stts ++ xs)) parts ∙ four front stts (tiled (ctts_parts ss)) (tiled (stss_parts ss)) (box_of stsz.0 stsz.1)

pub stbl_tiled : (front entry : List ℕ) (ss : List Timed) (places counts : List ℕ)
    → (((front ++ opened (codes "stbl")) ++ box_of (codes "stsd") (stsd_body entry)) ++ tiled (of_samples ss)) ++ tiled (of_chunks places counts)
    ≡ front ++ opened (codes "stbl") ++ tiled (stbl_from entry ss places counts)
unfolding tiled
stbl_tiled front entry ss places counts =
    let parts : tiled (stbl_from entry ss places counts) ≡ box_of (codes "stsd") (stsd_body entry) ++ (tiled (of_samples ss) ++ tiled (of_chunks places counts))
    = ap (λ (xs : List ℕ). box_of (codes "stsd") (stsd_body entry) ++ xs) (tiled-append (of_samples ss) (of_chunks places counts)) in
    rw parts (simp append_assoc)

-- what stands after more bytes also stands after the first of them
pub grows_more : (old more mid new : List ℕ) → mid ≡ old ++ more → take (length mid) new ≡ mid → take (length old) new ≡ old
grows_more old more mid new e g =
    let shorter : length old ≤ length mid = omega (arith, ap (λ (xs : List ℕ). length xs) e, length-append old more) in
    sym (take-take (length old) (length mid) new shorter) ∙ ap (take (length old)) (g ∙ e) ∙ take_at old more (length old) refl
