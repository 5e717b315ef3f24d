-- What the headers of a movie box say, as they are told (8.2.2, 8.3 to 8.7.2, 8.10.1).
use Rattle.std.specs.Prelude.{ℕ, false, List, [], ◌∷◌, length, codes, Option, Some, None, Ok, Err}
use Rattle.sf_box.specs.Boxes.{Piece, boxes}
use Rattle.sf_box.specs.Parts.{child_piece}
use Rattle.sf_meaning.specs.Steps.{◌>>=◌, as_fault, body_at, of_kind}
use Rattle.sf_meaning.specs.Headers.{Head, start_in}
use Rattle.sf_meaning.specs.Movie.{header_scale}
use Rattle.sf_meaning.specs.TrackHeads.{TrackHeads, heads_in}
use Rattle.sf_meaning.specs.declared.faults.HeadFault.{HeadFault}
use Rattle.sf_meaning.specs.declared.faults.HeadFault.TheVariants.{Tiling}
use Rattle.sf_moov.specs.declared.trak_heads.TrakHead.{TrakHead}
use Rattle.sf_moov.specs.declared.trak_heads.Headers.{Headers}

-- what is told of the headers of a track box
abbrev pub trak_head : Piece → TrackHeads → TrakHead
trak_head trak h = record {
  at = trak.head.at;
  scale = h.scale;
  lead = h.shift.lead;
  media_time = h.shift.media_time;
  stbl_at = body_at h.stbl;
  stbl_len = length h.stbl.body;
  self_held = h.own;
}

-- the headers of a track before those of others, or its fault and nothing of the others
abbrev pub told_first : Piece → Head TrackHeads → List TrakHead × Option HeadFault → List TrakHead × Option HeadFault
told_first trak (Ok h) others = (trak_head trak h ∷ others.0, others.1)
told_first trak (Err fault) others = ([], Some fault)

-- the headers of tracks of a movie with this timescale, up to the first fault inside one, and that fault
abbrev pub traks_told : ℕ → List Piece → List TrakHead × Option HeadFault
traks_told movie_scale [] = ([], None)
traks_told movie_scale (trak ∷ traks) = told_first trak (heads_in movie_scale trak) (traks_told movie_scale traks)

-- the headers of a movie with this timescale and these boxes in its movie box
abbrev pub headers_told : ℕ → List Piece → Headers
headers_told scale ps = record {
  scale = scale;
  start_us = start_in (child_piece ps (codes "udta"));
  traks = (traks_told scale (of_kind (codes "trak") ps)).0;
  fault = (traks_told scale (of_kind (codes "trak") ps)).1;
}

-- The headers of the body of a movie box, which begins at a place, or the first fault of its boxes or of its movie header.
unfoldable pub headers_in : ℕ → List ℕ → Head Headers
headers_in base moov = do
  ps ← as_fault Tiling (boxes false base moov)
  scale ← header_scale base ps
  Ok (headers_told scale ps)
