-- What the headers say of a track, and its sample table box.
use Rattle.std.proofs.Common.{◌≡◌, ℕ, ◌+◌, ◌^◌, ◌<◌, ◌≤◌, List, length, codes, Option, IfSome, refl, sym, ap, ◌∙◌, arith}
use Rattle.sf_box.specs.Parts.{tiled}
use Rattle.sf_box.proofs.BoxLaws.{length-box_of}
use Rattle.sf_meaning.specs.Stbl.{Row, duration_in_rows, stbl_parts, stbl_box}
use Rattle.sf_layout.specs.Headers.{microseconds}
use Rattle.sf_layout.specs.Layout.{TrackRows, lead_of, head_of, stbl_of}
use Rattle.sf_layout.specs.declared.heads.TrackHead.{TrackHead}
use Rattle.sf_file.proofs.Room.{lead_short}

pub stbl_is : (entry : List ℕ) (rows : List Row) → length (stbl_box entry rows) ≡ 8 + length (tiled (stbl_parts entry rows))
unfolding stbl_box
stbl_is entry rows = length-box_of (codes "stbl") (tiled (stbl_parts entry rows)) refl

-- the head of a track, from what was counted
pub head_made : (start_us : ℕ) (t : TrackRows) {lead duration stbl : ℕ} → lead ≡ lead_of start_us t.first → duration ≡ duration_in_rows t.rows → stbl ≡ 8 + length (tiled (stbl_parts t.setup.entry t.rows))
    → (let head : TrackHead = record { kind = t.setup.kind; scale = t.setup.scale; width = t.setup.width; height = t.setup.height; lead_us = lead; duration = duration; stbl_len = stbl } in head ≡ head_of start_us t)
head_made start_us t {lead} {duration} {stbl} l d s =
    let whole : stbl ≡ length (stbl_of t) = s ∙ sym (stbl_is t.setup.entry t.rows) in
    rw (l, d, whole) refl

-- the end of a track has room
pub end_made : (scale start_us : ℕ) (first : Option ℕ) (rows : List Row) {lead duration : ℕ} → lead ≡ lead_of start_us first → duration ≡ duration_in_rows rows
    → IfSome first (λ us. us ≤ 2 ^ 48) → microseconds scale (duration_in_rows rows) < 2 ^ 62 → lead + microseconds scale duration < 2 ^ 63
end_made scale start_us first rows {lead} {duration} l d early short =
    let us : microseconds scale duration ≡ microseconds scale (duration_in_rows rows) = ap (microseconds scale) d in
    omega (arith, l, us, lead_short start_us first early, short)
