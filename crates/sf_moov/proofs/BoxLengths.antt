-- How long the boxes of a movie box are.
use Rattle.std.proofs.Common.{◌≡◌, ℕ, ◌+◌, ◌≤◌, ◌==◌, true, false, List, [], ◌∷◌, ◌++◌, length, codes, cond, replicate, take, refl, sym, ap, ◌∙◌, append_assoc, arith}
use Rattle.std.proofs.lemmas.List.{append-nil, length-append, take-take, take_at}
use Rattle.sf_box.specs.Boxes.{be16, be32, be64, box_of, opened}
use Rattle.sf_box.specs.Parts.{Part, tiled}
use Rattle.sf_box.proofs.BoxLaws.{length-be16, length-be32, length-be64, length-box_of, length-opened, length-tiled-cons, length-tiled-nil, tiled-append}
use Rattle.sf_tick.specs.declared.types.Kind.{Kind}
use Rattle.sf_tick.specs.declared.types.Kind.TheVariants.{Avc, Aac}
use Rattle.sf_meaning.specs.WrittenHeaders.{is_long, dref_body, in_dinf, in_udta}
use Rattle.sf_layout.specs.Headers.{mdhd_body, zeros, matrix, duration_bytes, header_times, for_kind, end_us, length_us, longest, mvhd_body, volume, dimensions, tkhd_body, elst_body, in_edts, edts_parts, hdlr_body, media_header}
use Rattle.sf_layout.specs.declared.heads.TrackHead.{TrackHead}
use Rattle.sf_layout.specs.MovieBox.{minf_body, mdia_body, trak_body, traks_from, in_moov, moov_of}
use Rattle.sf_moov.specs.Heads.{HaveLengths}
use Rattle.sf_moov.specs.Lengths.{extra, traks_len}

length-times : (flags d : ℕ) → length (header_times flags d) ≡ cond (is_long d) 20 12
length-times flags d = elim (is_long d) as (λ b. length (cond b (1 ∷ 0 ∷ 0 ∷ flags ∷ zeros 16) (0 ∷ 0 ∷ 0 ∷ flags ∷ zeros 8)) ≡ cond b 20 12) [ true ↦ refl | false ↦ refl ]

length-duration : (d : ℕ) → length (duration_bytes d) ≡ cond (is_long d) 8 4
length-duration d = elim (is_long d) as (λ b. length (cond b (be64 d) (be32 d)) ≡ cond b 8 4) [ true ↦ length-be64 d | false ↦ length-be32 d ]

wider : (d : ℕ) → cond (is_long d) 20 12 + cond (is_long d) 8 4 ≡ 16 + extra d
wider d = elim (is_long d) as (λ b. cond b 20 12 + cond b 8 4 ≡ 16 + cond b 12 0) [ true ↦ refl | false ↦ refl ]

-- a header with its duration after so many bytes
length-header : (flags d : ℕ) (middle rest : List ℕ)
    → length (header_times flags d ++ (middle ++ (duration_bytes d ++ rest))) ≡ 16 + extra d + length middle + length rest
length-header flags d middle rest =
    omega (
      arith,
      length-append (header_times flags d) (middle ++ (duration_bytes d ++ rest)),
      length-append middle (duration_bytes d ++ rest),
      length-append (duration_bytes d) rest,
      length-times flags d,
      length-duration d,
      wider d,
    )

length-mvhd : (tracks d : ℕ) → length (mvhd_body tracks d) ≡ 100 + extra d
unfolding mvhd_body
length-mvhd tracks d =
    let rest = (0 ∷ 1 ∷ 0 ∷ 0 ∷ 1 ∷ 0 ∷ []) ++ (zeros 10 ++ (matrix ++ zeros 24)) in
    omega (arith, length-header 0 d (be32 1000000) (rest ++ be32 (tracks + 1)), length-be32 1000000, length-append rest (be32 (tracks + 1)), length-be32 (tracks + 1))

length-shape : (kind : Kind) (w h : ℕ) → length (volume kind ++ (zeros 2 ++ (matrix ++ for_kind kind (be16 w ++ (zeros 2 ++ (be16 h ++ zeros 2))) (zeros 8)))) ≡ 48
length-shape Avc w h =
    let front = 0 ∷ 0 ∷ 0 ∷ 0 ∷ matrix in
    omega (
      arith,
      length-append front (be16 w ++ (zeros 2 ++ (be16 h ++ zeros 2))),
      length-append (be16 w) (zeros 2 ++ (be16 h ++ zeros 2)),
      length-append (be16 h) (zeros 2),
      length-be16 w,
      length-be16 h,
    )
length-shape Aac w h = refl

length-tkhd : (number : ℕ) (head : TrackHead) → length (tkhd_body number head) ≡ 84 + extra (end_us head)
unfolding tkhd_body
length-tkhd number head =
    let shape = volume head.kind ++ (zeros 2 ++ (matrix ++ dimensions head)) in
    let rest = duration_bytes (end_us head) ++ (zeros 12 ++ shape) in
    let joined : length (tkhd_body number head) ≡ length (header_times 7 (end_us head) ++ ((be32 number ++ zeros 4) ++ rest)) =
    ap (λ (xs : List ℕ). length (header_times 7 (end_us head) ++ xs)) (sym (append_assoc (be32 number) (zeros 4) rest)) in
    omega (
      arith,
      joined,
      length-header 7 (end_us head) (be32 number ++ zeros 4) (zeros 12 ++ shape),
      length-append (be32 number) (zeros 4),
      length-be32 number,
      length-append (zeros 12) shape,
      length-shape head.kind head.width head.height,
    )

length-mdhd : (scale d : ℕ) → length (mdhd_body scale d) ≡ 24 + extra d
length-mdhd scale d = omega (arith, length-header 0 d (be32 scale) (0x55 ∷ 0xC4 ∷ 0 ∷ 0 ∷ []), length-be32 scale)

-- the length of boxes, one of them in front
length-box : (kind body : List ℕ) (ps : List Part) → length kind ≡ 4 → length (tiled ((kind, body) ∷ ps)) ≡ 8 + length body + length (tiled ps)
length-box kind body ps four = length-tiled-cons (kind, body) ps four

length-elst : (lead media : ℕ) → length (elst_body lead media) ≡ 48
unfolding elst_body
length-elst lead media =
    let after = be64 media ++ (zeros 8 ++ (0 ∷ 1 ∷ 0 ∷ 0 ∷ [])) in
    omega (
      arith,
      length-append (be64 lead) (replicate 8 255 ++ ((0 ∷ 1 ∷ 0 ∷ 0 ∷ []) ++ after)),
      length-append (be64 media) (zeros 8 ++ (0 ∷ 1 ∷ 0 ∷ 0 ∷ [])),
      length-be64 lead,
      length-be64 media,
    )

length-edits : (head : TrackHead) → length (tiled (edts_parts head)) ≡ cond (head.lead_us == 0) 0 64
length-edits head =
    let list : length (tiled (in_edts head)) ≡ 56 = omega (arith, length-box (codes "elst") (elst_body head.lead_us (length_us head)) [] refl, length-elst head.lead_us (length_us head), length-tiled-nil) in
    let whole : length (tiled ((codes "edts", tiled (in_edts head)) ∷ [])) ≡ 64 = omega (arith, length-box (codes "edts") (tiled (in_edts head)) [] refl, list, length-tiled-nil) in
    elim (head.lead_us == 0) as (λ b. length (tiled (cond b [] ((codes "edts", tiled (in_edts head)) ∷ []))) ≡ cond b 0 64) [ true ↦ length-tiled-nil | false ↦ whole ]

length-hdlr : (kind : Kind) → length (hdlr_body kind) ≡ 37
length-hdlr Avc = refl
length-hdlr Aac = refl

length-dinf : length (tiled in_dinf) ≡ 28
length-dinf = omega (arith, length-box (codes "dref") dref_body [] refl, length-tiled-nil)

length-media : (kind : Kind) (ps : List Part) → length (tiled (media_header kind ∷ ps)) ≡ for_kind kind 20 16 + length (tiled ps)
length-media Avc ps = omega (arith, length-box (codes "vmhd") ((0 ∷ 0 ∷ 0 ∷ 1 ∷ []) ++ zeros 8) ps refl)
length-media Aac ps = omega (arith, length-box (codes "smhd") (zeros 8) ps refl)

length-minf : (kind : Kind) (stbl : List ℕ) → length (minf_body kind stbl) ≡ 36 + for_kind kind 20 16 + length stbl
unfolding minf_body
length-minf kind stbl =
    omega (
      arith,
      length-append (tiled (media_header kind ∷ (codes "dinf", tiled in_dinf) ∷ [])) stbl,
      length-media kind ((codes "dinf", tiled in_dinf) ∷ []),
      length-box (codes "dinf") (tiled in_dinf) [] refl,
      length-dinf,
      length-tiled-nil,
    )

length-mdia : (head : TrackHead) (stbl : List ℕ) → length (mdia_body head stbl) ≡ 121 + extra head.duration + for_kind head.kind 20 16 + length stbl
unfolding mdia_body
length-mdia head stbl =
    omega (
      arith,
      length-box (codes "mdhd") (mdhd_body head.scale head.duration) ((codes "hdlr", hdlr_body head.kind) ∷ (codes "minf", minf_body head.kind stbl) ∷ []) refl,
      length-box (codes "hdlr") (hdlr_body head.kind) ((codes "minf", minf_body head.kind stbl) ∷ []) refl,
      length-box (codes "minf") (minf_body head.kind stbl) [] refl,
      length-mdhd head.scale head.duration,
      length-hdlr head.kind,
      length-minf head.kind stbl,
      length-tiled-nil,
    )

length-trak : (number : ℕ) (head : TrackHead) (stbl : List ℕ)
    → length (trak_body number head stbl) ≡ 221 + for_kind head.kind 20 16 + cond (head.lead_us == 0) 0 64 + extra (end_us head) + extra head.duration + length stbl
unfolding trak_body
length-trak number head stbl =
    let mdia = (codes "mdia", mdia_body head stbl) ∷ [] in
    let rest : length (tiled (edts_parts head ++ mdia)) ≡ length (tiled (edts_parts head)) + length (tiled mdia) =
    ap (λ (xs : List ℕ). length xs) (tiled-append (edts_parts head) mdia) ∙ length-append (tiled (edts_parts head)) (tiled mdia) in
    omega (
      arith,
      length-box (codes "tkhd") (tkhd_body number head) (edts_parts head ++ mdia) refl,
      rest,
      length-box (codes "mdia") (mdia_body head stbl) [] refl,
      length-tkhd number head,
      length-edits head,
      length-mdia head stbl,
      length-tiled-nil,
    )

least_media : (kind : Kind) → 16 ≤ for_kind kind 20 16
least_media Avc = omega arith
least_media Aac = omega arith

-- a track's box is longer than its sample table box, and no longer than all of them
pub trak_least : (number : ℕ) (head : TrackHead) (heads : List TrackHead) (stbl : List ℕ) (stbls : List (List ℕ))
    → 245 + length stbl + length (tiled (traks_from (number + 1) heads stbls)) ≤ length (tiled (traks_from number (head ∷ heads) (stbl ∷ stbls)))
trak_least number head heads stbl stbls =
    omega (arith, length-box (codes "trak") (trak_body number head stbl) (traks_from (number + 1) heads stbls) refl, length-trak number head stbl, least_media head.kind)

length-traks : (number : ℕ) (heads : List TrackHead) (stbls : List (List ℕ)) → HaveLengths heads stbls → length (tiled (traks_from number heads stbls)) ≡ traks_len heads
length-traks number [] [] h = length-tiled-nil
length-traks number [] (stbl ∷ stbls) h = absurd h
length-traks number (head ∷ heads) [] h = absurd h
length-traks number (head ∷ heads) (stbl ∷ stbls) h =
    omega (
      arith,
      length-box (codes "trak") (trak_body number head stbl) (traks_from (number + 1) heads stbls) refl,
      length-trak number head stbl,
      length-traks (number + 1) heads stbls h.1,
      h.0,
    )

length-udta : (start_us : ℕ) → length (tiled (in_udta start_us)) ≡ 16
length-udta start_us = omega (arith, length-box (codes "sfts") (be64 start_us) [] refl, length-be64 start_us, length-tiled-nil)

-- the movie box, from its tracks' boxes
pub length-moov_with : (heads : List TrackHead) (start_us : ℕ) (stbls : List (List ℕ))
    → length (moov_of heads start_us stbls) ≡ 140 + extra (longest heads) + length (tiled (traks_from 1 heads stbls))
unfolding moov_of
length-moov_with heads start_us stbls =
    let udta = (codes "udta", tiled (in_udta start_us)) ∷ [] in
    let rest : length (tiled (traks_from 1 heads stbls ++ udta)) ≡ length (tiled (traks_from 1 heads stbls)) + length (tiled udta) =
    ap (λ (xs : List ℕ). length xs) (tiled-append (traks_from 1 heads stbls) udta) ∙ length-append (tiled (traks_from 1 heads stbls)) (tiled udta) in
    omega (
      arith,
      length-box_of (codes "moov") (tiled (in_moov heads start_us stbls)) refl,
      length-box (codes "mvhd") (mvhd_body (length heads) (longest heads)) (traks_from 1 heads stbls ++ udta) refl,
      rest,
      length-box (codes "udta") (tiled (in_udta start_us)) [] refl,
      length-mvhd (length heads) (longest heads),
      length-udta start_us,
      length-tiled-nil,
    )

-- the movie box, from what is known of its tracks
pub length_moov : (heads : List TrackHead) (start_us : ℕ) (stbls : List (List ℕ)) → HaveLengths heads stbls
    → 140 + extra (longest heads) + traks_len heads ≡ length (moov_of heads start_us stbls)
length_moov heads start_us stbls h = omega (arith, length-moov_with heads start_us stbls, length-traks 1 heads stbls h)

-- what stands after more bytes also stands after the first of them
pub grows_more : (old more mid new : List ℕ) → mid ≡ old ++ more → take (length mid) new ≡ mid → take (length old) new ≡ old
grows_more old more mid new e g =
    let shorter : length old ≤ length mid = omega (arith, ap (λ (xs : List ℕ). length xs) e, length-append old more) in
    sym (take-take (length old) (length mid) new shorter) ∙ ap (take (length old)) (g ∙ e) ∙ take_at old more (length old) refl

-- the boxes of a movie box, put one after the other
pub moov_put : (out a b c d : List ℕ) (heads : List TrackHead) (start_us movie_us : ℕ) (stbls : List (List ℕ))
    → a ≡ out ++ opened (codes "moov") → b ≡ a ++ box_of (codes "mvhd") (mvhd_body (length heads) movie_us) → movie_us ≡ longest heads
    → c ≡ b ++ tiled (traks_from 1 heads stbls) → d ≡ c ++ box_of (codes "udta") (tiled (in_udta start_us))
    → d ≡ out ++ opened (codes "moov") ++ tiled (in_moov heads start_us stbls)
unfolding tiled
moov_put out a b c d heads start_us movie_us stbls ea eb em ec ed =
    rw (ed, ec, eb, ea, em, tiled-append (traks_from 1 heads stbls) ((codes "udta", tiled (in_udta start_us)) ∷ [])) (simp (append_assoc, append-nil))

-- how long what was put is
pub moov_room : (out d : List ℕ) (heads : List TrackHead) (start_us : ℕ) (stbls : List (List ℕ)) → d ≡ out ++ opened (codes "moov") ++ tiled (in_moov heads start_us stbls)
    → length d ≡ length out + length (moov_of heads start_us stbls)
unfolding moov_of
moov_room out d heads start_us stbls e =
    let body = tiled (in_moov heads start_us stbls) in
    omega (
      arith,
      ap (λ (xs : List ℕ). length xs) e,
      length-append (out ++ opened (codes "moov")) body,
      length-append out (opened (codes "moov")),
      length-opened (codes "moov") refl,
      length-box_of (codes "moov") body refl,
    )
