-- What is kept of a movie, and how it is read.
use Rattle.std.specs.Prelude.{◌≡◌, ℕ, ◌+◌, ◌^◌, ◌≤◌, ◌<◌, List, [], ◌∷◌, length, map, codes, Ok}
use Rattle.std.specs.List.{AllByRecursion}
use Rattle.sf_box.specs.Boxes.{Piece}
use Rattle.sf_box.specs.Parts.{child_piece}
use Rattle.sf_entry.specs.Stsd.{HasWidth}
use Rattle.sf_entry.specs.declared.types.EntryAt.{EntryAt}
use Rattle.sf_meaning.specs.Accepted.{IsAccepted}
use Rattle.sf_meaning.specs.Headers.{start_in}
use Rattle.sf_meaning.specs.Movie.{in_moov, movie_scale, tracks_of}
use Rattle.sf_meaning.specs.SampleTables.{in_stbl}
use Rattle.sf_meaning.specs.Steps.{◌>>=◌, ◌>>◌, as_fault, body_at}
use Rattle.sf_meaning.specs.TrackHeads.{TrackHeads, heads_in}
use Rattle.sf_meaning.specs.TrackSamples.{Tables, listed}
use Rattle.sf_meaning.specs.Tracks.{Step, entries_told, held_in, kind_in}
use Rattle.sf_meaning.specs.declared.faults.MovieFault.TheVariants.{Head, Table}
use Rattle.sf_meaning.specs.declared.movie.PlainTrack.{PlainTrack}
use Rattle.sf_cursor.specs.Cursor.{tables_in}
use Rattle.sf_movie.specs.Loaded.{Loaded}
use Rattle.sf_movie.specs.declared.track.Track.{Track as HeldTrack}
use Rattle.sf_movie.specs.declared.parts.MovieParts.{MovieParts as HeldParts}

-- a track that is kept, and what is kept of a movie, seen by their tables, with cursors over them or without
abbrev pub Track : Type 0
Track = HeldTrack Tables

abbrev pub MovieParts : Type 0
MovieParts = HeldParts Tables

-- the track that is kept, with the samples that its tables list
abbrev pub plain_of : Track → PlainTrack
plain_of t = record { kind = t.kind; scale = t.scale; lead = t.shift.lead; media_time = t.shift.media_time; samples = listed t.samples }

-- the movie that is kept
abbrev pub loaded_of : MovieParts → Loaded
loaded_of p = record {
  movie = record { scale = p.scale; start_us = p.start_us; tracks = map plain_of p.tracks };
  entries = map (λ t. t.entries) p.tracks;
}

-- each sample of a track has a size
abbrev pub IsWhole : Track → Type 0
IsWhole t = length (listed t.samples) ≡ length t.samples.sizes

-- What is kept is a movie that was accepted, in a file of so many bytes.
pub record IsKept (p : MovieParts) : Type 0 where
  pub bytes : ℕ
  pub short : bytes < 2 ^ 64
  pub scale : 1 ≤ p.scale
  pub few : length p.tracks ≤ 64
  pub each : AllByRecursion (λ t. IsAccepted bytes p.scale (plain_of t)) p.tracks
  pub whole : AllByRecursion IsWhole p.tracks
  pub wide : AllByRecursion (λ t. AllByRecursion (λ e. HasWidth e.entry) t.entries) p.tracks

-- what is kept of a track with these headers, sample entries and tables
abbrev pub track_of : TrackHeads → List EntryAt → Tables → Track
track_of h es t = record { kind = kind_in es; scale = h.scale; shift = h.shift; entries = es; samples = t }

-- a track of a number, read as a cursor reads its tables
unfoldable pub track_read : ℕ → ℕ → ℕ → Piece → Step Track
track_read bytes movie_scale number trak = do
  heads ← as_fault Head (heads_in movie_scale trak)
  ps ← as_fault Table (in_stbl heads.stbl)
  es ← entries_told heads.own (body_at heads.stbl) ps
  t ← as_fault Table (tables_in (body_at heads.stbl) heads.scale (length es) heads.stbl.body)
  held_in bytes number 0 (listed t)
  Ok (track_of heads es t)

-- tracks in order, each read whole before the next, counted from a number
unfoldable pub tracks_read : ℕ → ℕ → ℕ → List Piece → Step (List Track)
tracks_read bytes movie_scale number [] = Ok []
tracks_read bytes movie_scale number (trak ∷ traks) = do
  track ← track_read bytes movie_scale number trak
  tracks ← tracks_read bytes movie_scale (number + 1) traks
  Ok (track ∷ tracks)

-- the body of a movie box, which begins at a place of a file of so many bytes
unfoldable pub parts_read : List ℕ → ℕ → ℕ → Step MovieParts
parts_read body at bytes = do
  ps ← in_moov body at
  traks ← tracks_of ps
  scale ← movie_scale at ps
  tracks ← tracks_read bytes scale 0 traks
  Ok (record { scale = scale; start_us = start_in (child_piece ps (codes "udta")); tracks = tracks })
