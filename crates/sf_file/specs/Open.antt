-- A file that is being written, and which chunks it holds.
use Rattle.std.specs.Prelude.{◌≡◌, ℕ, ◌+◌, ◌==◌, ◌^◌, ◌<◌, ◌≤◌, ◌⊎◌, if◌then◌else◌, List, [], ◌∷◌, ◌++◌, length, map, slice_get, sum_by, Option, Some, None}
use Rattle.std.specs.List.{AllByRecursion}
use Rattle.sf_tick.specs.declared.types.Chunk.{Chunk}
use Rattle.sf_world.specs.Contents.{grown, Spoils}
use Rattle.sf_world.specs.Views.{GainsPart, SinkView}
use Rattle.sf_entry.specs.declared.track_setup.TrackSetup.{TrackSetup}
use Rattle.sf_meaning.specs.Stbl.{timed_of}
use Rattle.sf_layout.specs.Layout.{TrackRows, layout, movie_box, samples_of, stored_bytes, first_us, track_samples, track_rows, tracks_of}
use Rattle.sf_gather.specs.declared.given.LastSample.{LastSample}
use Rattle.sf_gather.specs.Accepting.{last_from, last_of}
use Rattle.sf_gather.specs.Proper.{AllFollow}
use Rattle.sf_tables.specs.Rows.{first_dts_with, with_chunk}
use Rattle.sf_file.specs.FileHead.{file_head}
use Rattle.sf_file.specs.declared.out_file.Closing.{Closing}

-- Setups with which a file can begin: 1 to 64, each with ticks, and whose sample entries have at most 2^27 bytes together.
pub record AreSetups (setups : List TrackSetup) : Type 0 where
  pub some : 1 ≤ length setups
  pub few : length setups ≤ 64
  pub ticks : AllByRecursion (λ s. 1 ≤ s.scale) setups
  pub entries : sum_by (λ s. length s.entry) setups ≤ 2 ^ 27

-- What an open file holds of a track: what its movie box says of it, and its last sample.
pub record HeldTrack : Type 0 where
  pub track : TrackRows
  pub last : Option LastSample

-- A file that is being written: its tracks, where the next chunk begins, and what its sink shows.
pub record OpenFile : Type 0 where
  pub tracks : List HeldTrack
  pub end : ℕ
  pub sink : SinkView

-- what the movie box says of tracks, and how many samples a track has
abbrev pub rows_in : List HeldTrack → List TrackRows
rows_in tracks = map (λ t. t.track) tracks

abbrev pub count_of : HeldTrack → ℕ
count_of t = length (timed_of t.track.rows)

-- the setups of the tracks
abbrev pub setups_of : OpenFile → List TrackSetup
setups_of file = map (λ t. t.track.setup) file.tracks

-- a track with one more chunk, which stands at a place
abbrev pub track_with : HeldTrack → ℕ → Chunk → HeldTrack
track_with t place chunk = record {
  track = record { setup = t.track.setup; first = first_dts_with t.track.first chunk.samples; rows = with_chunk t.track.rows place chunk };
  last = last_from t.last chunk.samples;
}

-- tracks, numbered from here on, with one more chunk in its own
abbrev pub tracks_with : ℕ → List HeldTrack → ℕ → Chunk → List HeldTrack
tracks_with number [] place chunk = []
tracks_with number (t ∷ ts) place chunk = (if chunk.track == number then track_with t place chunk else t) ∷ tracks_with (number + 1) ts place chunk

-- the movie box of the file as it is, and with one more chunk
abbrev pub closing_box : OpenFile → List ℕ
closing_box file = movie_box (rows_in file.tracks)

abbrev pub closing_box_with : OpenFile → Chunk → List ℕ
closing_box_with file chunk = movie_box (rows_in (tracks_with 0 file.tracks file.end chunk))

-- what a file holds of its tracks, numbered from here on, with these chunks; the content of the media data begins at 40
abbrev pub held_from : ℕ → List TrackSetup → List Chunk → List HeldTrack
held_from number [] chunks = []
held_from number (setup ∷ setups) chunks =
    record {
      track = record { setup = setup; first = first_us (track_samples number chunks); rows = track_rows number 40 chunks };
      last = last_of (track_samples number chunks);
    } ∷ held_from (number + 1) setups chunks

-- the bytes of a file that isn't closed: the size of its media data box is that of its head
abbrev pub opened : List Chunk → List ℕ
opened chunks = file_head 16 ++ stored_bytes (samples_of chunks)

-- a chunk whose samples have bytes
abbrev pub HasBytes : Chunk → Type 0
HasBytes chunk = 0 < length (stored_bytes chunk.samples)

-- An open file holds these chunks, in the order in which they were written. Its sink was empty when the file began.
pub record Stands (begun : Option (List ℕ)) (chunks : List Chunk) (file : OpenFile) : Type 0 where
  pub tracks : file.tracks ≡ held_from 0 (setups_of file) chunks
  pub known : AllByRecursion (λ c. c.track < length file.tracks) chunks
  pub filled : AllByRecursion HasBytes chunks
  pub end : file.end ≡ 40 + length (stored_bytes (samples_of chunks))
  pub told : file.sink.content ≡ grown begun (opened chunks)

-- What the file of these chunks is once it is closed: how many bytes it has, how many of them its movie box, and how many samples it holds of a track.
pub record ClosesAs (setups : List TrackSetup) (chunks : List Chunk) (track : ℕ) (closing : Closing) : Type 0 where
  pub whole : closing.bytes ≡ length (layout setups chunks)
  pub box : closing.movie_box ≡ length (movie_box (tracks_of setups chunks))
  pub count : closing.samples ≡ length (track_samples track chunks)

-- a sink that tells its bytes tells that it is empty
abbrev pub IsEmpty : Option (List ℕ) → Type 0
IsEmpty None = Unit {0}
IsEmpty (Some bytes) = bytes ≡ []

-- A chunk can stand after the others of a track: it isn't empty, its samples follow the track's last one, and the track has few enough.
pub record Joins (t : HeldTrack) (chunk : Chunk) : Type 0 where
  pub some : 1 ≤ length chunk.samples
  pub follow : AllFollow t.track.setup.scale t.last chunk.samples
  pub few : count_of t + length chunk.samples < 2 ^ 32

-- A chunk can be written after the others: it is of one of the file's tracks, and can stand after the others of this track.
pub record Appendable (file : OpenFile) (chunk : Chunk) : Type 0 where
  pub track : HeldTrack
  pub among : slice_get file.tracks chunk.track ≡ Some track
  pub joins : Joins track chunk

-- All of a file but its sink and the room in its tables is as it was.
pub record Stays (before after : OpenFile) : Type 0 where
  pub tracks : after.tracks ≡ before.tracks
  pub end : after.end ≡ before.end

-- what is left of a file whose closing failed: a part of the movie box is missing, or the size of the media data box is spoilt
abbrev pub HalfClosed : List ℕ → SinkView → SinkView → Type 0
HalfClosed box before after = GainsPart box before after ⊎ Spoils (grown before.content box) 32 8 after.content
