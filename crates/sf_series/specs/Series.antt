-- A series of files that is being written, and for which state of the core it stands.
use Rattle.std.specs.Prelude.{◌≡◌, ℕ, ◌^◌, ◌<◌, ◌≤◌, true, List, [], length, map, slice_get, is_some, Option, Some, None}
use Rattle.sf_tick.specs.declared.types.Chunk.{Chunk}
use Rattle.sf_entry.specs.declared.track_setup.TrackSetup.{TrackSetup}
use Rattle.sf_world.specs.Contents.{BeginsEmpty}
use Rattle.sf_world.specs.Views.{ShelfView}
use Rattle.sf_gather.specs.Proper.{Extends, Tail}
use Rattle.sf_interleave.specs.Waiting.{earliest_front}
use Rattle.sf_file.specs.Open.{IsEmpty, OpenFile, setups_of}
use Rattle.sf_file.specs.Open as one_file
use Rattle.sf_series.specs.declared.faults.SeriesFault.{SeriesFault}
use Rattle.sf_series.specs.declared.faults.SeriesFault.TheVariants.{Limit as LimitMet, NoMemory, WriteFault}
use Rattle.sf_series.specs.declared.limits.Limits.{Limits}
use Rattle.sf_series.specs.declared.limits.LimitShown.{LimitShown}
use Rattle.sf_series.specs.declared.limits.LimitShown.TheVariants.{Nothing}
use Rattle.sf_series.specs.declared.series.Wrote.{Wrote}
use Rattle.sf_series.specs.declared.series.Wrote.TheVariants.{Idle, OneChunk}
use Rattle.sf_series.specs.Files.{flat, open_file}
use Rattle.sf_series.specs.Switching.{Limit, closed_length, count_of, passes, put}
use Rattle.sf_series.specs.Core.{State}
use Rattle.sf_series.specs.Fitting.{tail_in}
use Rattle.sf_series.specs.Shelved.{AllKept, BrokenOn, OpenOn, closed_in}

-- Limits within their ranges.
pub record AreLimits (limits : Limits) : Type 0 where
  pub bytes : limits.max_bytes ≤ 2 ^ 62
  pub duration : limits.max_duration_us ≤ 2 ^ 48
  pub some : 1 ≤ limits.max_files
  pub few : limits.max_files ≤ 99999

-- The files of a series: of which tracks and within which limits they are, how many samples of each track stand in them, how long each closed one is, and the open one, none once it failed.
pub record OpenFiles : Type 0 where
  pub setups : List TrackSetup
  pub limits : Limits
  pub counts : List ℕ
  pub closed : List ℕ
  pub file : Option OpenFile

-- A series: the chunks that wait, the tail of what was handed of each track, the files, and the fault that ended it.
pub record OpenSeries : Type 0 where
  pub pending : List (List Chunk)
  pub tails : List Tail
  pub files : OpenFiles
  pub fault : Option SeriesFault

-- A sink of a shelf with these files begins empty, and tells so where the shelf tells its files.
pub record BeginsOn (shelf : Option (List (List ℕ))) (begun : Option (List ℕ)) : Type 0 where
  pub empty : IsEmpty begun
  pub told : BeginsEmpty shelf begun

-- An open file of these tracks holds these chunks. Its sink is of a shelf with these files.
pub record HoldsOn (shelf : Option (List (List ℕ))) (setups : List TrackSetup) (chunks : List Chunk) (file : OpenFile) : Type 0 where
  pub own : setups_of file ≡ setups
  pub begun : Option (List ℕ)
  pub begins : BeginsOn shelf begun
  pub stands : one_file.Stands begun chunks file

-- what is kept of files: the samples of each track in them, and the lengths of those that are closed
pub record Counts (files done : List (List Chunk)) (kept : OpenFiles) : Type 0 where
  pub counts : (track : ℕ) → track < length kept.setups → slice_get kept.counts track ≡ Some (count_of track (flat files))
  pub closed : kept.closed ≡ map (closed_length kept.setups) done

-- where the files are: all but the open one are closed and kept; where it failed, it is kept at most
abbrev pub AreOn : ShelfView → List ℕ → List TrackSetup → List (List Chunk) → Option OpenFile → ShelfView → Type 0
AreOn begun stem setups files None shelf = BrokenOn begun stem setups files shelf
AreOn begun stem setups files (Some file) shelf = HoldsOn begun.files setups (open_file files) file × OpenOn begun stem setups files shelf

-- The files of a series are these, the last one open. Its shelf showed this when it began, and shows that now.
pub record FilesStand (begun : ShelfView) (files : List (List Chunk)) (kept : OpenFiles) (shelf : ShelfView) : Type 0 where
  pub some : 1 ≤ length files
  pub counts : Counts files (closed_in files) kept
  pub where_they_are : AreOn begun kept.limits.stem kept.setups files kept.file shelf

-- The files of a series are these, and all of them are closed.
pub record FilesClosed (begun : ShelfView) (files : List (List Chunk)) (kept : OpenFiles) (shelf : ShelfView) : Type 0 where
  pub counts : Counts files files kept
  pub all : AllKept begun kept.limits.stem kept.setups files shelf

-- The chunk that is written next meets this limit.
pub record MeetsLimit (limits : Limits) (setups : List TrackSetup) (state : State) (shown : LimitShown) : Type 0 where
  pub chunk : Chunk
  pub next : earliest_front state.pending ≡ Some chunk
  pub limit : put limits setups state.files chunk ≡ Limit shown

-- A series stands for a state of the core. Its shelf showed this when it began, and shows that now.
pub record Stands (begun : ShelfView) (state : State) (series : OpenSeries) (shelf : ShelfView) : Type 0 where
  pub pending : series.pending ≡ state.pending
  pub tails : (track : ℕ) → track < length series.files.setups → slice_get series.tails track ≡ Some (tail_in state track)
  pub handed : length state.handed ≡ length series.files.setups
  pub marks : length state.marks ≡ length series.files.setups
  pub files : FilesStand begun state.files series.files shelf
  pub ended : is_some series.fault ≡ state.ended
  pub limit : (shown : LimitShown) → series.fault ≡ Some (LimitMet shown) → MeetsLimit series.files.limits series.files.setups state shown

-- A chunk can be handed to a series: its track has a setup, and the chunk goes on from the tail that is kept of the track.
pub record CanTake (series : OpenSeries) (chunk : Chunk) : Type 0 where
  pub setup : TrackSetup
  pub tail : Tail
  pub there : slice_get series.files.setups chunk.track ≡ Some setup
  pub handed : slice_get series.tails chunk.track ≡ Some tail
  pub goes_on : Extends chunk.track setup.scale tail chunk

-- An empty file has too many bytes, and is shown so.
pub record IsNothing (limits : Limits) (setups : List TrackSetup) (shown : LimitShown) : Type 0 where
  pub passed : passes limits.max_bytes (closed_length setups []) ≡ true
  pub numbers : shown ≡ Nothing (closed_length setups []) limits.max_bytes

-- a fault other than a limit
abbrev pub Breaks : SeriesFault → Type 0
Breaks WriteFault = Unit {0}
Breaks NoMemory = Unit {0}
Breaks (LimitMet shown) = ⊥

-- what a write answers where this chunk is picked
abbrev pub wrote_as : Option Chunk → Wrote
wrote_as None = Idle
wrote_as (Some chunk) = OneChunk chunk.track
