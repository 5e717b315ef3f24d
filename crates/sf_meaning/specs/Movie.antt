-- The movie that a file's bytes are (ISO/IEC 14496-12).
use Rattle.std.specs.Prelude.{ℕ, nat_le, true, false, List, [], ◌∷◌, length, drop, codes, Option, Some, None, Ok, Err}
use Rattle.sf_box.specs.Boxes.{Piece, boxes}
use Rattle.sf_box.specs.Parts.{child_piece}
use Rattle.sf_meaning.specs.Steps.{◌>>=◌, ◌>>◌, check, as_fault, of_kind, first_of, body_at}
use Rattle.sf_meaning.specs.Headers.{Head as HeadStep, needed_in, timescale_in, start_in}
pub use Rattle.sf_meaning.specs.Tracks.{Step}
use Rattle.sf_meaning.specs.Tracks.{tracks_in}
use Rattle.sf_meaning.specs.declared.faults.MovieFault.{MovieFault}
use Rattle.sf_meaning.specs.declared.faults.MovieFault.TheVariants.{Tiling, NoMoov, TwoMoov, MoovTooLarge, Compressed, TooManyTracks, Head}
use Rattle.sf_meaning.specs.declared.movie.PlainMovie.{PlainMovie}

-- there is no such box, or it is this fault
abbrev pub none_of : Option Piece → (Piece → MovieFault) → Step (Unit {0})
none_of None f = Ok tt
none_of (Some p) f = Err (f p)

-- a movie box isn't compressed
abbrev pub not_compressed : List Piece → Step (Unit {0})
not_compressed ps = none_of (child_piece ps (codes "cmov")) (λ p. Compressed p.head.at)

-- a movie has at most 64 tracks
abbrev pub few_tracks : List Piece → Step (Unit {0})
few_tracks traks = none_of (first_of (drop 64 traks)) (λ p. TooManyTracks p.head.at)

-- the tracks among the boxes of a movie box
unfoldable pub tracks_of : List Piece → Step (List Piece)
tracks_of ps = do
  not_compressed ps
  few_tracks (of_kind (codes "trak") ps)
  Ok (of_kind (codes "trak") ps)

-- the boxes inside a movie box whose body begins at a place (8.2.1)
abbrev pub in_moov : List ℕ → ℕ → Step (List Piece)
in_moov body at = as_fault Tiling (boxes false at body)

-- ticks a second of the movie's own times, by the movie header (8.2.2) among the boxes of a movie box
unfoldable pub header_scale : ℕ → List Piece → HeadStep ℕ
header_scale at ps = needed_in at (codes "mvhd") ps >>= timescale_in

abbrev pub movie_scale : ℕ → List Piece → Step ℕ
movie_scale at ps = as_fault Head (header_scale at ps)

-- The movie that the body of a movie box is, which begins at a place of a file of so many bytes.
unfoldable pub movie_in : List ℕ → ℕ → ℕ → Step PlainMovie
movie_in body at bytes = do
  ps ← in_moov body at
  traks ← tracks_of ps
  scale ← movie_scale at ps
  tracks ← tracks_in bytes scale 0 traks
  Ok (record { scale = scale; start_us = start_in (child_piece ps (codes "udta")); tracks = tracks })

-- the only movie box among those of a file of so many bytes
unfoldable pub only_moov : ℕ → List Piece → Step Piece
only_moov bytes [] = Err (NoMoov bytes)
only_moov bytes (moov ∷ second ∷ more) = Err (TwoMoov second.head.at)
only_moov bytes (moov ∷ []) = do
  check (nat_le moov.head.size 268435456) (MoovTooLarge moov.head.at moov.head.size)
  Ok moov

-- the boxes of a file
abbrev pub top_boxes : List ℕ → Step (List Piece)
top_boxes file = as_fault Tiling (boxes true 0 file)

-- The movie that a file's bytes are, or the first thing that is wrong with them.
unfoldable pub movie : List ℕ → Step PlainMovie
movie file = do
  ps ← top_boxes file
  moov ← only_moov (length file) (of_kind (codes "moov") ps)
  movie_in moov.body (body_at moov) (length file)
