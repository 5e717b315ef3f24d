-- What holds of a series at every moment: the chunks that wait can be put into the open file, one after the other.
use Rattle.std.specs.Prelude.{◌≡◌, ℕ, ◌≤◌, ◌⊎◌, List, ◌∷◌, length, slice_get, set, Option, Some, None, IsSome}
use Rattle.std.specs.List.{AllByRecursion}
use Rattle.sf_tick.specs.declared.types.Chunk.{Chunk}
use Rattle.sf_gather.specs.declared.given.LastSample.{LastSample}
use Rattle.sf_gather.specs.Accepting.{last_from}
use Rattle.sf_gather.specs.Proper.{AllFollow, Tail, samples_of}
use Rattle.sf_interleave.specs.Waiting.{OfTheirTracks, list_of}
use Rattle.sf_file.specs.Open.{HeldTrack, OpenFile, setups_of}
use Rattle.sf_series.specs.declared.faults.SeriesFault.{SeriesFault}
use Rattle.sf_series.specs.declared.faults.SeriesFault.TheVariants.{Limit as LimitMet, WriteFault, NoMemory}
use Rattle.sf_series.specs.Series.{OpenFiles}

-- the lists that wait, with a chunk in front of its track's that was picked and didn't go into a file
abbrev pub with_left : Option Chunk → List (List Chunk) → List (List Chunk)
with_left None lists = lists
with_left (Some chunk) lists = set lists chunk.track (chunk ∷ list_of lists chunk.track)

-- a chunk that can wait: it isn't empty, and not too long
pub record IsWaiting (chunk : Chunk) : Type 0 where
  pub some : 1 ≤ length chunk.samples
  pub few : length chunk.samples ≤ 4194304

-- Chunks that wait of a track can be put after its last sample in the open file, and what is handed next can be put after them.
pub record WaitAfter (scale : ℕ) (in_file handed : Option LastSample) (chunks : List Chunk) : Type 0 where
  pub each : AllByRecursion IsWaiting chunks
  pub follow : AllFollow scale in_file (samples_of chunks)
  pub handed_next : (last_from in_file (samples_of chunks) ≡ None) ⊎ (last_from in_file (samples_of chunks) ≡ handed)

-- so do those of each track
abbrev pub AllWait : List HeldTrack → List Tail → List (List Chunk) → Type 0
AllWait tracks tails lists = (track : ℕ) (held : HeldTrack) (tail : Tail) → slice_get tracks track ≡ Some held → slice_get tails track ≡ Some tail
    → WaitAfter held.track.setup.scale held.last tail.last (list_of lists track)

-- A series goes on: no fault came, and its open file can take what waits.
pub record GoesOn (pending : List (List Chunk)) (tails : List Tail) (kept : OpenFiles) (left : Option Chunk) : Type 0 where
  pub file : OpenFile
  pub is_open : kept.file ≡ Some file
  pub setups : setups_of file ≡ kept.setups
  pub none_left : left ≡ None
  pub lists : length pending ≡ length kept.setups
  pub tracks : length tails ≡ length kept.setups
  pub theirs : OfTheirTracks 0 pending
  pub wait : AllWait file.tracks tails pending

-- what holds of a series, by the fault that ended it: after a limit its file is open, after another fault there is none
abbrev pub SoundSeries : List (List Chunk) → List Tail → OpenFiles → Option Chunk → Option SeriesFault → Type 0
SoundSeries pending tails kept left None = GoesOn pending tails kept left
SoundSeries pending tails kept left (Some (LimitMet shown)) = IsSome kept.file
SoundSeries pending tails kept left (Some WriteFault) = kept.file ≡ None
SoundSeries pending tails kept left (Some NoMemory) = kept.file ≡ None
