-- The samples of a track of a file by chunk (8.7.4, 8.7.5).
use Rattle.std.specs.Prelude.{ℕ, List, [], ◌∷◌, ◌++◌, length, take, drop, map, codes, Option, Some, None, Ok, Err}
use Rattle.std.specs.List.{slice_get}
use Rattle.sf_box.specs.Boxes.{Piece}
use Rattle.sf_meaning.specs.Steps.{◌>>=◌, of_kind, body_at}
use Rattle.sf_meaning.specs.TrackSamples.{counts_of}
use Rattle.sf_meaning.specs.Tracks.{Step, TrackParts, parts_in}
use Rattle.sf_meaning.specs.Movie.{top_boxes, only_moov, in_moov, tracks_of, movie_scale, movie}
use Rattle.sf_meaning.specs.Joined.{Held, held_in_file, of_track}
use Rattle.sf_meaning.specs.declared.movie.PlainSample.{PlainSample}

-- the timescale of a file's movie, and the boxes of its tracks
unfoldable pub traks_in : List ℕ → Step (ℕ × List Piece)
traks_in file = do
  ps ← top_boxes file
  moov ← only_moov (length file) (of_kind (codes "moov") ps)
  qs ← in_moov moov.body (body_at moov)
  traks ← tracks_of qs
  scale ← movie_scale (body_at moov) qs
  Ok (scale, traks)

-- how many samples each chunk has, as the tables of a track say
abbrev pub counts_read : Step TrackParts → Option (List ℕ)
counts_read (Err e) = None
counts_read (Ok p) = Some (counts_of p.tables)

abbrev pub counts_in_trak : ℕ → Option Piece → Option (List ℕ)
counts_in_trak scale None = None
counts_in_trak scale (Some trak) = counts_read (parts_in scale trak)

abbrev pub counts_among : ℕ → Step (ℕ × List Piece) → Option (List ℕ)
counts_among t (Err e) = None
counts_among t (Ok found) = counts_in_trak found.0 (slice_get found.1 t)

-- How many samples each chunk of a track of a file has.
unfoldable pub chunk_counts : List ℕ → ℕ → Option (List ℕ)
chunk_counts file t = counts_among t (traks_in file)

-- The samples of a chunk, one after the other: where the first one stands, and all of them with their bytes.
pub record Group : Type 0 where
  pub place : ℕ
  pub samples : List Held

-- a chunk without samples makes no group
abbrev pub group_of : List ℕ → List PlainSample → List Group
group_of file [] = []
group_of file (s ∷ ss) = record { place = s.place; samples = map (held_in_file file) (s ∷ ss) } ∷ []

-- samples cut where the chunk changes
abbrev pub cut : List ℕ → List ℕ → List PlainSample → List Group
cut file [] ss = []
cut file (n ∷ counts) ss = group_of file (take n ss) ++ cut file counts (drop n ss)

abbrev pub cut_by : List ℕ → Option (List ℕ) → Option (List PlainSample) → Option (List Group)
cut_by file None ss = None
cut_by file (Some counts) None = None
cut_by file (Some counts) (Some ss) = Some (cut file counts ss)

-- The samples of a track of a file, each with its bytes, cut where the chunk changes.
unfoldable pub groups : List ℕ → ℕ → Option (List Group)
groups file t = cut_by file (chunk_counts file t) (of_track (λ m track. track.samples) t (movie file))
