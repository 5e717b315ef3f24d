-- The file of chunks of several tracks that were written one after the other.
use Rattle.std.specs.Prelude.{ℕ, ◌+◌, ◌-◌, ◌==◌, min, if◌then◌else◌, List, [], ◌∷◌, ◌++◌, length, map, filter, codes, Option, Some, None, unwrap_or}
use Rattle.sf_box.specs.Boxes.{box_of, wide_box}
pub use Rattle.sf_tick.specs.Samples.{samples_of}
use Rattle.sf_tick.specs.declared.types.Stored.{Stored}
use Rattle.sf_tick.specs.declared.types.Chunk.{Chunk}
use Rattle.sf_entry.specs.declared.track_setup.TrackSetup.{TrackSetup}
use Rattle.sf_meaning.specs.Stbl.{Row, duration_in_rows, stbl_box}
pub use Rattle.sf_meaning.specs.Rows.{stored_bytes, row_at}
use Rattle.sf_layout.specs.Headers.{ftyp_body}
use Rattle.sf_layout.specs.MovieBox.{moov_of}
use Rattle.sf_layout.specs.declared.heads.TrackHead.{TrackHead}

-- the chunks of a track, and their samples
abbrev pub track_chunks : ℕ → List Chunk → List Chunk
track_chunks number chunks = filter (λ c. c.track == number) chunks

abbrev pub track_samples : ℕ → List Chunk → List Stored
track_samples number chunks = samples_of (track_chunks number chunks)

-- The chunks of a track at their places, among chunks of several tracks that stand one after the other from a place on.
abbrev pub track_rows : ℕ → ℕ → List Chunk → List Row
track_rows number place [] = []
track_rows number place (c ∷ cs) =
    if c.track == number then row_at place c ∷ track_rows number (place + length (stored_bytes c.samples)) cs
    else track_rows number (place + length (stored_bytes c.samples)) cs

-- when the first of samples is decoded, in microseconds; none without samples
abbrev pub first_us : List Stored → Option ℕ
first_us [] = None
first_us (s ∷ ss) = Some s.dts_us

-- What a file holds of a track: what is known of it from its start on, when its first sample in the file is decoded, in
-- microseconds, if it has one, and its chunks at their places.
pub record TrackRows : Type 0 where
  pub setup : TrackSetup
  pub first : Option ℕ
  pub rows : List Row

-- the tracks of a file, numbered from here on; the content of the media data begins at 40
abbrev pub tracks_from : ℕ → List TrackSetup → List Chunk → List TrackRows
tracks_from number [] chunks = []
tracks_from number (setup ∷ setups) chunks =
    record { setup = setup; first = first_us (track_samples number chunks); rows = track_rows number 40 chunks } ∷ tracks_from (number + 1) setups chunks

abbrev pub tracks_of : List TrackSetup → List Chunk → List TrackRows
tracks_of setups chunks = tracks_from 0 setups chunks

-- when the first sample is decoded, where more samples follow
abbrev pub first_with : Option ℕ → Option ℕ → Option ℕ
first_with None more = more
first_with (Some us) more = Some us

-- a track with one more chunk at a place
abbrev pub track_with : TrackRows → ℕ → Chunk → TrackRows
track_with t place c = record { setup = t.setup; first = first_with t.first (first_us c.samples); rows = t.rows ++ row_at place c ∷ [] }

-- the earlier of two times, and the earliest of several, some of which may be missing
abbrev pub earlier : Option ℕ → Option ℕ → Option ℕ
earlier None b = b
earlier (Some x) None = Some x
earlier (Some x) (Some y) = Some (min x y)

abbrev pub earliest : List (Option ℕ) → Option ℕ
earliest [] = None
earliest (o ∷ os) = earlier o (earliest os)

-- A file's start: when the first sample of all is decoded, 0 without samples.
abbrev pub start_of : List TrackRows → ℕ
start_of tracks = unwrap_or (earliest (map (λ t. t.first) tracks)) 0

-- how long after the file's start a track begins, 0 without samples
abbrev pub lead_of : ℕ → Option ℕ → ℕ
lead_of start_us None = 0
lead_of start_us (Some us) = us - start_us

-- the sample table box of a track
abbrev pub stbl_of : TrackRows → List ℕ
stbl_of t = stbl_box t.setup.entry t.rows

-- what the headers say of a track, in a file with this start
abbrev pub head_of : ℕ → TrackRows → TrackHead
head_of start_us t = record {
  kind = t.setup.kind;
  scale = t.setup.scale;
  width = t.setup.width;
  height = t.setup.height;
  lead_us = lead_of start_us t.first;
  duration = duration_in_rows t.rows;
  stbl_len = length (stbl_of t);
}

-- The movie box of a file that holds these tracks.
unfoldable pub movie_box : List TrackRows → List ℕ
movie_box tracks = moov_of (map (head_of (start_of tracks)) tracks) (start_of tracks) (map stbl_of tracks)

-- The file of chunks, none of them empty, in the order in which they were written: its type, the bytes of their samples, and
-- the movie box. Each chunk is of the track of its number, from 0.
unfoldable pub layout : List TrackSetup → List Chunk → List ℕ
layout setups chunks =
    box_of (codes "ftyp") ftyp_body
    ++ (wide_box (codes "mdat") (stored_bytes (samples_of chunks)) ++ movie_box (tracks_of setups chunks))
