-- What holds of the files of a series at every moment, and which chunks can be put into them.
use Rattle.std.specs.Prelude.{◌≡◌, ℕ, ◌+◌, ◌*◌, ◌^◌, ◌≤◌, ◌⊎◌, List, [], length, slice_get, get_or, option_map, unwrap_or, Option, Some, None, IfSome}
use Rattle.std.specs.List.{AllByRecursion}
use Rattle.sf_tick.specs.declared.types.Chunk.{Chunk}
use Rattle.sf_entry.specs.declared.track_setup.TrackSetup.{TrackSetup}
use Rattle.sf_gather.specs.Proper.{AllFollow}
use Rattle.sf_layout.specs.Layout.{movie_box}
use Rattle.sf_file.specs.Open.{AreSetups, HeldTrack, OpenFile, closing_box_with, count_of, held_from, rows_in, setups_of, tracks_with}
use Rattle.sf_file.specs.Open as one_file
use Rattle.sf_series.specs.Series.{AreLimits, OpenFiles}

-- how many samples an open file holds of a track; none where there is no open file
abbrev pub open_count : Option OpenFile → ℕ → ℕ
open_count None track = 0
open_count (Some file) track = unwrap_or (option_map count_of (slice_get file.tracks track)) 0

-- An open file of these tracks has at most 2^24 samples of each.
pub record IsOpen (setups : List TrackSetup) (file : OpenFile) : Type 0 where
  pub own : setups_of file ≡ setups
  pub few : AllByRecursion (λ t. count_of t ≤ 2 ^ 24) file.tracks

-- the counts of samples fit: each closed file has at most 2^24 of each track
abbrev pub CountsFit : List ℕ → List ℕ → Option OpenFile → Type 0
CountsFit counts closed file = (track : ℕ) → get_or counts track 0 ≤ 2 ^ 24 * length closed + open_count file track

-- What holds of the files of a series, with a file without chunks.
pub record SoundFiles (kept : OpenFiles) (empty : OpenFile) : Type 0 where
  pub setups : AreSetups kept.setups
  pub limits : AreLimits kept.limits
  pub tracks : length kept.counts ≡ length kept.setups
  pub empty_setups : setups_of empty ≡ kept.setups
  pub empty_stands : one_file.Stands (Some []) [] empty
  pub few : length kept.closed ≤ kept.limits.max_files
  pub file : IfSome kept.file (λ f. IsOpen kept.setups f × (length kept.closed + 1 ≤ kept.limits.max_files) × CountsFit kept.counts kept.closed kept.file)

-- A chunk can be put into the open file or into the next one.
pub record CanPut (file : OpenFile) (chunk : Chunk) : Type 0 where
  pub track : HeldTrack
  pub among : slice_get file.tracks chunk.track ≡ Some track
  pub some : 1 ≤ length chunk.samples
  pub few : length chunk.samples ≤ 4194304
  pub follow : AllFollow track.track.setup.scale track.last chunk.samples

-- With a chunk an open file passes neither the bound of the movie box nor that of the samples.
pub record HasRoomFor (file : OpenFile) (chunk : Chunk) : Type 0 where
  pub box : length (closing_box_with file chunk) ≤ 2 ^ 28
  pub count : (t : HeldTrack) → slice_get file.tracks chunk.track ≡ Some t → count_of t + length chunk.samples ≤ 2 ^ 24

-- so does a file that begins with the chunk
pub record HasRoomAlone (setups : List TrackSetup) (chunk : Chunk) : Type 0 where
  pub box : length (movie_box (rows_in (tracks_with 0 (held_from 0 setups []) 40 chunk))) ≤ 2 ^ 28
  pub count : length chunk.samples ≤ 2 ^ 24

-- A file without chunks was opened.
pub record IsFresh (setups : List TrackSetup) (file : OpenFile) : Type 0 where
  pub own : setups_of file ≡ setups
  pub tracks : file.tracks ≡ held_from 0 setups []
  pub end : file.end ≡ 40

-- All of the files of a series but the open one is as it was.
pub record SameBesides (before after : OpenFiles) : Type 0 where
  pub setups : after.setups ≡ before.setups
  pub limits : after.limits ≡ before.limits
  pub counts : after.counts ≡ before.counts
  pub closed : after.closed ≡ before.closed

-- no call changes of which tracks and within which limits the files are
pub record SameSetups (before after : OpenFiles) : Type 0 where
  pub setups : after.setups ≡ before.setups
  pub limits : after.limits ≡ before.limits

-- A chunk went into the open file, or into one that was made for it.
pub record WentInto (setups : List TrackSetup) (before : Option OpenFile) (chunk : Chunk) (after : Option OpenFile) : Type 0 where
  pub file : OpenFile
  pub is_open : after ≡ Some file
  pub own : setups_of file ≡ setups
  pub grown : ((old : OpenFile) × (before ≡ Some old) × (file.tracks ≡ tracks_with 0 old.tracks old.end chunk))
      ⊎ (file.tracks ≡ tracks_with 0 (held_from 0 setups []) 40 chunk)
