-- How long the movie box of an open file is.
use Rattle.std.proofs.Common.{◌≡◌, ℕ, ◌+◌, ◌*◌, ◌^◌, ◌<◌, ◌≤◌, ◌==◌, Bool, true, false, cond, List, [], ◌∷◌, length, map, codes, refl, sym, ap, ◌∙◌, arith}
use Rattle.std.specs.Prelude.{sum_by}
use Rattle.std.specs.List.{AllByRecursion}
use Rattle.std.proofs.lemmas.List.Sums.{sum_by-cons}
use Rattle.sf_box.specs.Boxes.{be32}
use Rattle.sf_box.specs.Parts.{Part, tiled}
use Rattle.sf_box.proofs.BoxLaws.{length-box_of, length-tiled-cons, length-tiled-nil}
use Rattle.sf_tick.specs.declared.types.Kind.{Kind}
use Rattle.sf_tick.specs.declared.types.Kind.TheVariants.{Avc, Aac}
use Rattle.sf_entry.specs.declared.track_setup.TrackSetup.{TrackSetup}
use Rattle.sf_meaning.specs.Stbl.{stbl_parts, stsd_body, stts_body, stsz_body, stsc_body, stco_body, stbl_box}
use Rattle.sf_meaning.specs.WrittenHeaders.{is_long}
use Rattle.sf_layout.specs.Headers.{for_kind, longest, end_us}
use Rattle.sf_layout.specs.Layout.{TrackRows, head_of, stbl_of, start_of, movie_box}
use Rattle.sf_layout.specs.declared.heads.TrackHead.{TrackHead}
use Rattle.sf_moov.specs.Heads.{HaveLengths}
use Rattle.sf_moov.specs.Lengths.{extra, trak_len, traks_len, moov_from, moov_len}
use Rattle.sf_moov.proofs.BoxLengths.{length_moov}
use Rattle.sf_file.specs.Open.{HeldTrack, rows_in}
use Rattle.sf_file.specs.inner.Tracks.{KeptTrack, IsShort, fresh, held_in, heads_in}

pub have_lengths : (start_us : ℕ) (rs : List TrackRows) → HaveLengths (map (head_of start_us) rs) (map stbl_of rs)
have_lengths start_us [] = tt
have_lengths start_us (r ∷ rs) = (refl, have_lengths start_us rs)

-- the movie box, from its tracks' heads
pub length_box : (ts : List HeldTrack) → length (movie_box (rows_in ts)) ≡ moov_len (heads_in (start_of (rows_in ts)) ts)
unfolding movie_box
length_box ts =
    let start_us : ℕ = start_of (rows_in ts) in
    sym (length_moov (heads_in start_us ts) start_us (map stbl_of (rows_in ts)) (have_lengths start_us (rows_in ts)))

-- the same from what was counted
pub box_counted : (ts : List HeldTrack) {start_us longest_us traks size : ℕ} → start_us ≡ start_of (rows_in ts) → longest_us ≡ longest (heads_in start_us ts) → traks ≡ traks_len (heads_in start_us ts)
    → size ≡ moov_from longest_us traks → size ≡ length (movie_box (rows_in ts))
box_counted ts {start_us} {longest_us} {traks} {size} e l t s =
    s ∙ ap (λ (n : ℕ). moov_from n traks) l ∙ ap (λ (n : ℕ). moov_from (longest (heads_in start_us ts)) n) t
    ∙ ap (λ (us : ℕ). moov_len (heads_in us ts)) e ∙ sym (length_box ts)

-- no sample table box is longer than the movie box
pub all_short : (start_us : ℕ) (ks : List KeptTrack) → traks_len (heads_in start_us (held_in ks)) < 2 ^ 32 → AllByRecursion IsShort ks
all_short start_us [] lt = tt
all_short start_us (k ∷ ks) lt = (omega (arith, lt), all_short start_us ks (omega (arith, lt)))

few_more : (d : ℕ) → extra d ≤ 12
few_more d = elim (is_long d) as (λ b. cond b 12 0 ≤ 12) [ true ↦ omega arith | false ↦ omega arith ]

few_edits : (b : Bool) → cond b 0 64 ≤ 64
few_edits true = omega arith
few_edits false = omega arith

few_media : (kind : Kind) → for_kind kind 20 16 ≤ 20
few_media Avc = omega arith
few_media Aac = omega arith

trak_most : (head : TrackHead) → trak_len head ≤ 337 + head.stbl_len
trak_most head = omega (arith, few_more (end_us head), few_more head.duration, few_edits (head.lead_us == 0), few_media head.kind)

length_stts : length (stts_body []) ≡ 8
unfolding stts_body be32
length_stts = refl

length_stsz : length (stsz_body []) ≡ 12
unfolding stsz_body be32
length_stsz = refl

length_stsc : length (stsc_body []) ≡ 8
unfolding stsc_body be32
length_stsc = refl

length_stco : length (stco_body []) ≡ 8
unfolding stco_body be32
length_stco = refl

length-part : (kind body : List ℕ) (ps : List Part) → length kind ≡ 4 → length (tiled ((kind, body) ∷ ps)) ≡ 8 + length body + length (tiled ps)
length-part kind body ps four = length-tiled-cons (kind, body) ps four

-- the sample table box of no samples
empty_stbl : (entry : List ℕ) → length (stbl_box entry []) ≡ 92 + length entry
unfolding stbl_box
empty_stbl entry =
    omega (
      arith,
      length_stts,
      length_stsz,
      length_stsc,
      length_stco,
      length-box_of (codes "stbl") (tiled (stbl_parts entry [])) refl,
      length-part (codes "stsd") (stsd_body entry) ((codes "stts", stts_body []) ∷ (codes "stsz", stsz_body []) ∷ (codes "stsc", stsc_body []) ∷ (codes "stco", stco_body []) ∷ []) refl,
      length-part (codes "stts") (stts_body []) ((codes "stsz", stsz_body []) ∷ (codes "stsc", stsc_body []) ∷ (codes "stco", stco_body []) ∷ []) refl,
      length-part (codes "stsz") (stsz_body []) ((codes "stsc", stsc_body []) ∷ (codes "stco", stco_body []) ∷ []) refl,
      length-part (codes "stsc") (stsc_body []) ((codes "stco", stco_body []) ∷ []) refl,
      length-part (codes "stco") (stco_body []) [] refl,
      length-tiled-nil,
    )

empty_traks : (start_us : ℕ) (setups : List TrackSetup) → traks_len (heads_in start_us (map fresh setups)) ≤ 429 * length setups + sum_by (λ s. length s.entry) setups
empty_traks start_us [] = omega arith
empty_traks start_us (s ∷ setups) =
    omega (arith, trak_most (head_of start_us (fresh s).track), empty_stbl s.entry, empty_traks start_us setups, sum_by-cons (λ (t : TrackSetup). length t.entry) s setups)

-- a file without chunks has a short movie box
pub empty_box : (setups : List TrackSetup) → length setups ≤ 64 → sum_by (λ s. length s.entry) setups ≤ 2 ^ 27 → length (movie_box (rows_in (map fresh setups))) ≤ 2 ^ 28
empty_box setups few entries =
    let start_us : ℕ = start_of (rows_in (map fresh setups)) in
    omega (arith, length_box (map fresh setups), few_more (longest (heads_in start_us (map fresh setups))), empty_traks start_us setups, few, entries)
