-- Boxes of headers that were written are read back, at any place.
use Rattle.std.proofs.Common.{◌≡◌, ℕ, ◌+◌, ◌-◌, ◌^◌, ◌<◌, ◌≤◌, ◌==◌, nat_le, ltb, Bool, true, false, cond, List, [], ◌∷◌, ◌++◌, length, drop, codes, Some, Ok, refl, sym, ap, ◌∙◌, arith, lit<}
use Rattle.std.specs.List.{AllByRecursion}
use Rattle.std.proofs.lemmas.List.{append-nil, length-append}
use Rattle.std.proofs.lemmas.Bool.{le-leb, le-ltb, ne_eqb}
use Rattle.sf_box.specs.declared.types.BoxHead.{BoxHead}
use Rattle.sf_box.specs.Boxes.{Piece, box_of, be32, be64, word32, word64, leading}
use Rattle.sf_box.specs.Parts.{Part, tiled, laid, Fits, child_piece}
use Rattle.sf_box.proofs.BoxLaws.{word32_of, word64_of, length-be32, length-be64, leading_boxes, boxes_tiled, length-tiled-cons}
use Rattle.sf_meaning.specs.Headers.{inside, timescale_in, start_in}
use Rattle.sf_meaning.specs.Edits.{shift_of}
use Rattle.sf_meaning.specs.TrackHeads.{media_in, information_in, heads_in}
use Rattle.sf_meaning.specs.declared.elst.Shift.{Shift}
use Rattle.sf_meaning.specs.References.{own_files, references_in, references_of}
use Rattle.sf_meaning.specs.Stbl.{zeros}
use Rattle.sf_meaning.specs.WrittenHeaders.{is_long, header_times, in_dinf, in_udta, dref_body}

-- the bodies of boxes that tile so few bytes are no longer
pub kinds_fit : (ps : List Part) → AllByRecursion (λ p. length p.0 ≡ 4) ps → length (tiled ps) < 2 ^ 32 - 8 → AllByRecursion Fits ps
kinds_fit [] kinds lt = tt
kinds_fit (p ∷ ps) kinds lt =
    let long : length (tiled (p ∷ ps)) ≡ 8 + length p.1 + length (tiled ps) = length-tiled-cons p ps kinds.0 in
    (record { kind = kinds.0; body = omega (arith, lt, long) }, kinds_fit ps kinds.1 (omega (arith, lt, long)))

pub inside_read : (h : BoxHead) (ps : List Part) → AllByRecursion Fits ps → inside (record { head = h; body = tiled ps }) ≡ Ok (laid (h.at + h.head) ps)
unfolding inside
inside_read h ps fits = rw (boxes_tiled false (h.at + h.head) ps fits) refl

-- a header whose timescale follows its times, in either version
scale_by : (long : Bool) (h : BoxHead) (scale : ℕ) (rest : List ℕ) → 1 ≤ scale → scale < 2 ^ 32
    → timescale_in (record { head = h; body = cond long (1 ∷ 0 ∷ 0 ∷ 0 ∷ zeros 16) (0 ∷ 0 ∷ 0 ∷ 0 ∷ zeros 8) ++ (be32 scale ++ rest) }) ≡ Ok scale
unfolding timescale_in
scale_by true h scale rest some fits =
    let long : length ((1 ∷ 0 ∷ 0 ∷ 0 ∷ zeros 16) ++ (be32 scale ++ rest)) ≡ 24 + length rest = omega (arith, length-append (be32 scale) rest, length-be32 scale) in
    let whole : nat_le 24 (length ((1 ∷ 0 ∷ 0 ∷ 0 ∷ zeros 16) ++ (be32 scale ++ rest))) ≡ true = le-leb 24 _ (omega (arith, long)) in
    let other : (scale == 0) ≡ false = ne_eqb scale 0 (λ e. omega (arith, e, some)) in
    rw (whole, word32_of scale rest fits, other) refl
scale_by false h scale rest some fits =
    let long : length (zeros 12 ++ (be32 scale ++ rest)) ≡ 16 + length rest = omega (arith, length-append (be32 scale) rest, length-be32 scale) in
    let whole : nat_le 16 (length (zeros 12 ++ (be32 scale ++ rest))) ≡ true = le-leb 16 _ (omega (arith, long)) in
    let other : (scale == 0) ≡ false = ne_eqb scale 0 (λ e. omega (arith, e, some)) in
    rw (whole, word32_of scale rest fits, other) refl

pub scale_read : (h : BoxHead) (duration scale : ℕ) (rest : List ℕ) → 1 ≤ scale → scale < 2 ^ 32
    → timescale_in (record { head = h; body = header_times 0 duration ++ (be32 scale ++ rest) }) ≡ Ok scale
scale_read h duration scale rest some fits = scale_by (is_long duration) h scale rest some fits

url_fits : AllByRecursion Fits ((codes "url ", 0 ∷ 0 ∷ 0 ∷ 1 ∷ []) ∷ [])
url_fits = (record { kind = refl; body = lit< tt }, tt)

url_is : drop 8 dref_body ≡ tiled ((codes "url ", 0 ∷ 0 ∷ 0 ∷ 1 ∷ []) ∷ [])
unfolding tiled box_of be32
url_is = refl

dref_read : (h : BoxHead) → references_in (record { head = h; body = dref_body }) ≡ Ok (true ∷ [])
unfolding references_in own_files word32
dref_read h = rw (url_is, boxes_tiled false (h.at + h.head + 8) ((codes "url ", 0 ∷ 0 ∷ 0 ∷ 1 ∷ []) ∷ []) url_fits) refl

dinf_fits : AllByRecursion Fits in_dinf
dinf_fits = (record { kind = refl; body = lit< tt }, tt)

pub dinf_read : (h : BoxHead) → references_of (Some (record { head = h; body = tiled in_dinf })) ≡ Ok (true ∷ [])
unfolding references_of
dinf_read h = rw (inside_read h in_dinf dinf_fits, dref_read) refl

sfts_fits : (start_us : ℕ) → AllByRecursion Fits (in_udta start_us)
sfts_fits start_us = (record { kind = refl; body = omega (arith, length-be64 start_us) }, tt)

pub start_read : (h : BoxHead) (start_us : ℕ) → start_us < 2 ^ 64 → start_in (Some (record { head = h; body = tiled (in_udta start_us) })) ≡ start_us
start_read h start_us lt =
    let led : leading (h.at + h.head) (tiled (in_udta start_us)) ≡ laid (h.at + h.head) (in_udta start_us) =
    leading_boxes (h.at + h.head) (tiled (in_udta start_us)) (laid (h.at + h.head) (in_udta start_us)) (boxes_tiled false (h.at + h.head) (in_udta start_us) (sfts_fits start_us)) in
    let whole : ltb (length (be64 start_us)) 8 ≡ false = le-ltb (length (be64 start_us)) 8 (omega (arith, length-be64 start_us)) in
    let word : word64 (be64 start_us) ≡ start_us = ap word64 (sym (append-nil (be64 start_us))) ∙ word64_of start_us [] lt in
    rw (led, whole, word) refl

-- the headers of a track by its boxes
pub heads_by : (movie_scale scale : ℕ) (shift : Shift) (own : List Bool) (trak mdia minf stbl : Piece) (ps qs : List Piece)
    → inside trak ≡ Ok ps → child_piece ps (codes "mdia") ≡ Some mdia → media_in mdia ≡ Ok (scale, qs) → shift_of movie_scale scale (child_piece ps (codes "edts")) ≡ Ok shift
    → child_piece qs (codes "minf") ≡ Some minf → information_in minf ≡ Ok (own, stbl)
    → heads_in movie_scale trak ≡ Ok (record { scale = scale; shift = shift; own = own; stbl = stbl })
unfolding heads_in
heads_by movie_scale scale shift own trak mdia minf stbl ps qs parts has_mdia media edits has_minf information = rw (parts, has_mdia, media, edits, has_minf, information) refl
