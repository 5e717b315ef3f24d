-- The sample entries of each track of a movie (ISO/IEC 14496-12, 8.5.2).
use Rattle.std.specs.Prelude.{ℕ, List, [], ◌∷◌, length, codes, Ok}
use Rattle.sf_box.specs.Boxes.{Piece}
use Rattle.sf_entry.specs.declared.types.EntryAt.{EntryAt}
use Rattle.sf_meaning.specs.Steps.{◌>>=◌, body_at, of_kind}
use Rattle.sf_meaning.specs.Tracks.{Step, parts_in}
use Rattle.sf_meaning.specs.Movie.{in_moov, movie_scale, only_moov, top_boxes, tracks_of}

-- the sample entries of track boxes, of a movie with this timescale
unfoldable pub trak_entries : ℕ → List Piece → Step (List (List EntryAt))
trak_entries movie_scale [] = Ok []
trak_entries movie_scale (trak ∷ traks) = do
  p ← parts_in movie_scale trak
  others ← trak_entries movie_scale traks
  Ok (p.entries ∷ others)

-- the sample entries of each track of a movie box with this body, which begins at a place
unfoldable pub moov_entries : List ℕ → ℕ → Step (List (List EntryAt))
moov_entries body at = do
  ps ← in_moov body at
  traks ← tracks_of ps
  scale ← movie_scale at ps
  trak_entries scale traks

-- The sample entries of each track of the movie that a file's bytes are.
unfoldable pub movie_entries : List ℕ → Step (List (List EntryAt))
movie_entries file = do
  ps ← top_boxes file
  moov ← only_moov (length file) (of_kind (codes "moov") ps)
  moov_entries moov.body (body_at moov)
