-- The movie box of several tracks (8.2.1), from what its headers say of each and the sample table box of each.
use Rattle.std.specs.Prelude.{ℕ, ◌+◌, List, [], ◌∷◌, ◌++◌, length, codes}
use Rattle.sf_box.specs.Boxes.{box_of}
use Rattle.sf_box.specs.Parts.{Part, tiled}
use Rattle.sf_tick.specs.declared.types.Kind.{Kind}
use Rattle.sf_layout.specs.Headers.{mdhd_body, mvhd_body, tkhd_body, edts_parts, hdlr_body, media_header, longest}
use Rattle.sf_meaning.specs.WrittenHeaders.{in_dinf, in_udta}
use Rattle.sf_layout.specs.declared.heads.TrackHead.{TrackHead}

-- the body of the media information box (8.4.4), which ends with the sample table box
unfoldable pub minf_body : Kind → List ℕ → List ℕ
minf_body kind stbl = tiled (media_header kind ∷ (codes "dinf", tiled in_dinf) ∷ []) ++ stbl

-- the body of the media box (8.4.1)
unfoldable pub mdia_body : TrackHead → List ℕ → List ℕ
mdia_body head stbl =
    tiled ((codes "mdhd", mdhd_body head.scale head.duration) ∷ (codes "hdlr", hdlr_body head.kind) ∷ (codes "minf", minf_body head.kind stbl) ∷ [])

-- the body of the box of the track of a number (8.3.1)
unfoldable pub trak_body : ℕ → TrackHead → List ℕ → List ℕ
trak_body number head stbl = tiled ((codes "tkhd", tkhd_body number head) ∷ (edts_parts head ++ ((codes "mdia", mdia_body head stbl) ∷ [])))

-- the track boxes, numbered from here on; as many heads as sample table boxes
abbrev pub traks_from : ℕ → List TrackHead → List (List ℕ) → List Part
traks_from number [] stbls = []
traks_from number (head ∷ heads) [] = []
traks_from number (head ∷ heads) (stbl ∷ stbls) = (codes "trak", trak_body number head stbl) ∷ traks_from (number + 1) heads stbls

-- the boxes in the movie box of a file with this start, in microseconds after the series' start
abbrev pub in_moov : List TrackHead → ℕ → List (List ℕ) → List Part
in_moov heads start_us stbls =
    (codes "mvhd", mvhd_body (length heads) (longest heads)) ∷ (traks_from 1 heads stbls ++ ((codes "udta", tiled (in_udta start_us)) ∷ []))

-- The movie box of tracks with these heads and these sample table boxes, in a file with this start.
unfoldable pub moov_of : List TrackHead → ℕ → List (List ℕ) → List ℕ
moov_of heads start_us stbls = box_of (codes "moov") (tiled (in_moov heads start_us stbls))
