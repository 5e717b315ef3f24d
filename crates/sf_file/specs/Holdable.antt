-- Chunks that a file holds and that are read back from it, as the one knows them who gathers them and asks for the file's size before each.
use Rattle.std.specs.Prelude.{ℕ, ◌+◌, ◌^◌, ◌<◌, ◌≤◌, List, [], ◌∷◌, length, None}
use Rattle.std.specs.List.{AllByRecursion}
use Rattle.sf_tick.specs.declared.types.Stored.{Stored}
use Rattle.sf_tick.specs.declared.types.Chunk.{Chunk}
use Rattle.sf_entry.specs.declared.track_setup.TrackSetup.{TrackSetup}
use Rattle.sf_layout.specs.Layout.{track_samples, tracks_of, movie_box}
use Rattle.sf_layout.specs.Writable.{IsReadBack}
use Rattle.sf_gather.specs.Proper.{AllFollow}

-- A track that is read back: it has ticks, a number of four bytes, and so is its sample entry.
pub record IsReadable (setup : TrackSetup) : Type 0 where
  pub ticks : 1 ≤ setup.scale
  pub rate : setup.scale < 2 ^ 32
  pub entry : IsReadBack setup

-- Samples of one track that a file holds: each follows the one before it, and there are few enough.
pub record HoldableTrack (setup : TrackSetup) (samples : List Stored) : Type 0 where
  pub readable : IsReadable setup
  pub follow : AllFollow setup.scale None samples
  pub few : length samples ≤ 16777216

-- so is each track, numbered from here on
abbrev pub AllHoldable : ℕ → List TrackSetup → List Chunk → Type 0
AllHoldable number [] chunks = Unit {0}
AllHoldable number (setup ∷ setups) chunks = HoldableTrack setup (track_samples number chunks) × AllHoldable (number + 1) setups chunks

-- Chunks of at most 64 tracks that a file can hold: each is of one of the tracks, none is empty, the samples of each track follow one another, and what is read is not too much.
pub record Holdable (setups : List TrackSetup) (chunks : List Chunk) : Type 0 where
  pub tracks : length setups ≤ 64
  pub known : AllByRecursion (λ c. c.track < length setups) chunks
  pub filled : AllByRecursion (λ c. 0 < length c.samples) chunks
  pub each : AllHoldable 0 setups chunks
  pub box : length (movie_box (tracks_of setups chunks)) ≤ 2 ^ 28
