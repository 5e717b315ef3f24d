-- What the headers of a track say (8.3 to 8.7.2).
use Rattle.std.specs.Prelude.{ℕ, Bool, List, codes, Ok}
use Rattle.sf_box.specs.Boxes.{Piece}
use Rattle.sf_box.specs.Parts.{child_piece}
use Rattle.sf_meaning.specs.Steps.{◌>>=◌, body_at}
use Rattle.sf_meaning.specs.Headers.{Head, inside, needed_in, timescale_in}
use Rattle.sf_meaning.specs.Edits.{shift_of}
use Rattle.sf_meaning.specs.References.{references_of}
use Rattle.sf_meaning.specs.declared.elst.Shift.{Shift}

-- Ticks a second of its media, what its edit list says, for each data reference whether it names this very file, and its
-- sample table box.
pub record TrackHeads : Type 0 where
  pub scale : ℕ
  pub shift : Shift
  pub own : List Bool
  pub stbl : Piece

-- ticks a second of media (8.4.1, 8.4.2), and the boxes inside
unfoldable pub media_in : Piece → Head (ℕ × List Piece)
media_in mdia = do
  ps ← inside mdia
  mdhd ← needed_in (body_at mdia) (codes "mdhd") ps
  scale ← timescale_in mdhd
  Ok (scale, ps)

-- the data references of media (8.4.4), and their sample table box
unfoldable pub information_in : Piece → Head (List Bool × Piece)
information_in minf = do
  ps ← inside minf
  own ← references_of (child_piece ps (codes "dinf"))
  stbl ← needed_in (body_at minf) (codes "stbl") ps
  Ok (own, stbl)

-- the headers of a track box (8.3.1) of a movie with this timescale
unfoldable pub heads_in : ℕ → Piece → Head TrackHeads
heads_in movie_scale trak = do
  ps ← inside trak
  mdia ← needed_in (body_at trak) (codes "mdia") ps
  media ← media_in mdia
  shift ← shift_of movie_scale media.0 (child_piece ps (codes "edts"))
  minf ← needed_in (body_at mdia) (codes "minf") media.1
  information ← information_in minf
  Ok (record { scale = media.0; shift = shift; own = information.0; stbl = information.1 })
