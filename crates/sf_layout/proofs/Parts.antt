-- The boxes in each box of the movie box of several tracks.
use Rattle.std.proofs.Common.{◌≡◌, ℕ, List, [], ◌∷◌, ◌++◌, codes, refl, sym, ap, ◌∙◌}
use Rattle.std.proofs.lemmas.List.{append-nil}
use Rattle.sf_box.specs.Boxes.{box_of}
use Rattle.sf_box.specs.Parts.{Part, tiled}
use Rattle.sf_box.proofs.BoxLaws.{tiled-append}
use Rattle.sf_tick.specs.declared.types.Kind.{Kind}
use Rattle.sf_meaning.specs.Stbl.{Row, stbl_parts, stbl_box}
use Rattle.sf_layout.specs.Headers.{mdhd_body, tkhd_body, edts_parts, hdlr_body, media_header}
use Rattle.sf_meaning.specs.WrittenHeaders.{in_dinf}
use Rattle.sf_layout.specs.MovieBox.{minf_body, mdia_body, trak_body}
use Rattle.sf_layout.specs.declared.heads.TrackHead.{TrackHead}

abbrev pub minf_parts : Kind → List Part → List Part
minf_parts kind stbl = media_header kind ∷ (codes "dinf", tiled in_dinf) ∷ (codes "stbl", tiled stbl) ∷ []

abbrev pub mdia_parts : TrackHead → List Part → List Part
mdia_parts head minf = (codes "mdhd", mdhd_body head.scale head.duration) ∷ (codes "hdlr", hdlr_body head.kind) ∷ (codes "minf", tiled minf) ∷ []

abbrev pub trak_parts : ℕ → TrackHead → List Part → List Part
trak_parts number head mdia = (codes "tkhd", tkhd_body number head) ∷ (edts_parts head ++ ((codes "mdia", tiled mdia) ∷ []))

pub tiled_one : (p : Part) → box_of p.0 p.1 ≡ tiled (p ∷ [])
unfolding tiled
tiled_one p = rw append-nil refl

minf_is : (kind : Kind) (entry : List ℕ) (rs : List Row) → minf_body kind (stbl_box entry rs) ≡ tiled (minf_parts kind (stbl_parts entry rs))
unfolding minf_body stbl_box
minf_is kind entry rs =
    let front : List Part = media_header kind ∷ (codes "dinf", tiled in_dinf) ∷ [] in
    let stbl : Part = (codes "stbl", tiled (stbl_parts entry rs)) in
    ap (λ (b : List ℕ). tiled front ++ b) (tiled_one stbl) ∙ sym (tiled-append front (stbl ∷ []))

mdia_is : (head : TrackHead) (entry : List ℕ) (rs : List Row) → mdia_body head (stbl_box entry rs) ≡ tiled (mdia_parts head (minf_parts head.kind (stbl_parts entry rs)))
unfolding mdia_body
mdia_is head entry rs =
    ap (λ (b : List ℕ). let ps : List Part = (codes "mdhd", mdhd_body head.scale head.duration) ∷ (codes "hdlr", hdlr_body head.kind) ∷ (codes "minf", b) ∷ [] in tiled ps) (minf_is head.kind entry rs)

-- the boxes in a track box
abbrev pub parts_of_trak : ℕ → TrackHead → List ℕ → List Row → List Part
parts_of_trak number head entry rs = trak_parts number head (mdia_parts head (minf_parts head.kind (stbl_parts entry rs)))

pub trak_is : (number : ℕ) (head : TrackHead) (entry : List ℕ) (rs : List Row) → trak_body number head (stbl_box entry rs) ≡ tiled (parts_of_trak number head entry rs)
unfolding trak_body
trak_is number head entry rs =
    ap (λ (b : List ℕ). let ps : List Part = (codes "tkhd", tkhd_body number head) ∷ (edts_parts head ++ ((codes "mdia", b) ∷ [])) in tiled ps) (mdia_is head entry rs)
