-- What holds of a recording's core after any steps.
use Rattle.std.specs.List.{AllByRecursion}
use Rattle.std.specs.Prelude.{◌≡◌, ℕ, ◌<◌, true, List, ◌++◌, length, Some, None}
use Rattle.sf_tick.specs.declared.types.Chunk.{Chunk}
use Rattle.sf_entry.specs.declared.track_setup.TrackSetup.{TrackSetup}
use Rattle.sf_interleave.specs.Waiting.{earliest_front, list_of, OfTheirTracks}
use Rattle.sf_series.specs.declared.limits.Limits.{Limits}
use Rattle.sf_series.specs.declared.limits.LimitShown.{LimitShown}
use Rattle.sf_series.specs.Files.{flat, chunks_of_track, OnlyOpenEmpty}
use Rattle.sf_series.specs.Switching.{Limit, put, switched}
use Rattle.sf_series.specs.Core.{State}

-- for each track the chunks in files, and then those that wait, are those that were handed
abbrev pub AllThere : List (List Chunk) → List (List Chunk) → List (List Chunk) → Type 0
AllThere files pending handed = (track : ℕ) → chunks_of_track track files ++ list_of pending track ≡ list_of handed track

-- no chunk of the lists is empty
abbrev pub AllFilled : List (List Chunk) → Type 0
AllFilled lists = (track : ℕ) → AllByRecursion (λ c. 0 < length c.samples) (list_of lists track)

-- The chunk that is written next meets a limit.
pub record Meets (limits : Limits) (setups : List TrackSetup) (pending files : List (List Chunk)) : Type 0 where
  pub chunk : Chunk
  pub shown : LimitShown
  pub next : earliest_front pending ≡ Some chunk
  pub limit : put limits setups files chunk ≡ Limit shown

-- Each list that waits has chunks of its track alone; no chunk handed is empty, and each chunk handed stands in a file or waits; the files are those of their chunks, put one after the other; no file but the open one is empty; and where nothing more is written a limit is met.
pub record Kept (limits : Limits) (setups : List TrackSetup) (state : State) : Type 0 where
  pub theirs : OfTheirTracks 0 state.pending
  pub tracks : length state.pending ≡ length state.handed
  pub filled : AllFilled state.handed
  pub there : AllThere state.files state.pending state.handed
  pub order : switched limits setups (flat state.files) ≡ record { files = state.files; limit = None }
  pub only : OnlyOpenEmpty state.files
  pub met : state.ended ≡ true → Meets limits setups state.pending state.files
