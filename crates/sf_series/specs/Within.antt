-- Files that pass no limit.
use Rattle.std.specs.Prelude.{ℕ, ◌^◌, ◌≤◌, ◌≢◌, List}
use Rattle.sf_tick.specs.declared.types.Chunk.{Chunk}
use Rattle.sf_entry.specs.declared.track_setup.TrackSetup.{TrackSetup}
use Rattle.sf_series.specs.declared.limits.Limits.{Limits}
use Rattle.sf_series.specs.Switching.{closed_length, movie_length, count_of}

-- The closed file of these chunks passes no limit: it has at most the most bytes, where there is such a limit, its movie box at most 2^28, and it holds at most 2^24 samples of each track.
pub record Within (limits : Limits) (setups : List TrackSetup) (file : List Chunk) : Type 0 where
  pub bytes : limits.max_bytes ≢ 0 → closed_length setups file ≤ limits.max_bytes
  pub movie : movie_length setups file ≤ 2 ^ 28
  pub counts : (track : ℕ) → count_of track file ≤ 2 ^ 24
