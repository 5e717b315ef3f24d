-- What is handed of each track by its setup.
use Rattle.std.specs.Prelude.{false, get_or, slice_get, Some, ◌≡◌, ℕ, ◌+◌, ◌≤◌, List, [], ◌∷◌, length}
use Rattle.std.specs.List.{AllByRecursion}
use Rattle.sf_tick.specs.declared.types.Chunk.{Chunk}
use Rattle.sf_entry.specs.declared.track_setup.TrackSetup.{TrackSetup}
use Rattle.sf_gather.specs.Accepting.{last_of}
use Rattle.sf_gather.specs.Proper.{Extends, Proper, Tail, ends_marked, samples_of}
use Rattle.sf_file.specs.Holdable.{IsReadable}
use Rattle.sf_interleave.specs.Waiting.{list_of}
use Rattle.sf_series.specs.declared.limits.Limits.{Limits}
use Rattle.sf_series.specs.Core.{State}
use Rattle.sf_series.specs.Within.{Within}

-- the lists of chunks of each track, numbered from here on, are proper at the ticks a second of its setup
abbrev pub AllProper : ℕ → List TrackSetup → List (List Chunk) → Type 0
AllProper number [] lists = Unit {0}
AllProper number (setup ∷ setups) lists = Proper number setup.scale (list_of lists number) × AllProper (number + 1) setups lists

-- what the next chunk of a track depends on: how many were handed, whether its last one was, and the last sample
abbrev pub tail_in : State → ℕ → Tail
tail_in state track = record {
  count = length (list_of state.handed track);
  ended = get_or state.marks track false;
  last = last_of (samples_of (list_of state.handed track));
}

-- A chunk can be handed: its track has a setup, and the chunk goes on from what was handed of it.
pub record CanHand (setups : List TrackSetup) (state : State) (chunk : Chunk) : Type 0 where
  pub setup : TrackSetup
  pub there : slice_get setups chunk.track ≡ Some setup
  pub goes_on : Extends chunk.track setup.scale (tail_in state chunk.track) chunk

-- What was handed of each track is proper, and a track without its mark goes on.
pub record AreProper (setups : List TrackSetup) (state : State) : Type 0 where
  pub tracks : length state.handed ≡ length setups
  pub marks : length state.marks ≡ length setups
  pub lists : AllProper 0 setups state.handed
  pub go_on : (track : ℕ) → get_or state.marks track false ≡ false → ends_marked (list_of state.handed track) ≡ false

-- What files of these setups hold is read back: there are at most 64 tracks, each is read back, and an empty file passes no limit.
pub record Fits (limits : Limits) (setups : List TrackSetup) : Type 0 where
  pub few : length setups ≤ 64
  pub each : AllByRecursion IsReadable setups
  pub empty : Within limits setups []
