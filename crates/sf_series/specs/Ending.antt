-- How a series of files ends, and what is reported of it.
use Rattle.std.specs.Prelude.{◌≡◌, ℕ, zero, suc, ◌<◌, ◌⊎◌, Bool, true, false, List, length, map, slice_get, Some, None, if◌then◌else◌}
use Rattle.sf_tick.specs.declared.types.Chunk.{Chunk}
use Rattle.sf_entry.specs.declared.track_setup.TrackSetup.{TrackSetup}
use Rattle.sf_world.specs.Views.{ShelfView}
use Rattle.sf_interleave.specs.Waiting.{earliest_front, how_many}
use Rattle.sf_series.specs.declared.limits.Limits.{Limits}
use Rattle.sf_series.specs.declared.limits.LimitShown.{LimitShown}
use Rattle.sf_series.specs.declared.report.Report.{Report}
use Rattle.sf_series.specs.Files.{flat}
use Rattle.sf_series.specs.Switching.{closed_length, count_of}
use Rattle.sf_series.specs.Core.{State, failed, write}
use Rattle.sf_series.specs.Series.{MeetsLimit, OpenSeries}
use Rattle.sf_series.specs.Shelved.{AllKept, BrokenOn, closed_in}

-- the state after so many writes, unless a fault ends them
abbrev pub written : ℕ → Limits → List TrackSetup → State → State
written zero limits setups state = state
written (suc more) limits setups state = if state.ended then state else written more limits setups (write limits setups state)

-- the state once all that waits is written, unless a fault ended that
abbrev pub written_out : Limits → List TrackSetup → State → State
written_out limits setups state = written (how_many state.pending) limits setups state

-- A report tells of the samples of each track in files, and of the lengths of those that are closed.
pub record Reports (setups : List TrackSetup) (files done : List (List Chunk)) (report : Report) : Type 0 where
  pub tracks : (track : ℕ) → track < length setups → slice_get report.tracks track ≡ Some (count_of track (flat files))
  pub one_each : length report.tracks ≡ length setups
  pub lengths : report.files ≡ map (closed_length setups) done

-- All files of a state are closed and kept, and told in the report.
pub record IsKept (begun : ShelfView) (series : OpenSeries) (state : State) (report : Report) (shelf : ShelfView) : Type 0 where
  pub kept : AllKept begun series.files.limits.stem series.files.setups state.files shelf
  pub reports : Reports series.files.setups state.files state.files report

-- All that was handed is written, and all files are closed and kept.
pub record Finished (begun : ShelfView) (series : OpenSeries) (state : State) (report : Report) (shelf : ShelfView) : Type 0 where
  pub all : earliest_front (written_out series.files.limits series.files.setups state).pending ≡ None
  pub goes_on : (written_out series.files.limits series.files.setups state).ended ≡ false
  pub kept : IsKept begun series (written_out series.files.limits series.files.setups state) report shelf

-- A limit was met, and all files are closed and kept.
pub record Stopped (begun : ShelfView) (series : OpenSeries) (state : State) (shown : LimitShown) (report : Report) (shelf : ShelfView) : Type 0 where
  pub ended : (written_out series.files.limits series.files.setups state).ended ≡ true
  pub met : MeetsLimit series.files.limits series.files.setups (written_out series.files.limits series.files.setups state) shown
  pub kept : IsKept begun series (written_out series.files.limits series.files.setups state) report shelf

-- a state that a failing end leaves: after some writes the next one failed, or none failed but the last closing
abbrev pub IsLeft : OpenSeries → State → State → Type 0
IsLeft series state left = (count : ℕ) × ((left ≡ written count series.files.limits series.files.setups state)
    ⊎ ((closed : Bool) × (left ≡ failed closed (written count series.files.limits series.files.setups state))))

-- A write or a closing failed: the files before the last one are closed and kept, and told in the report.
pub record Broken (begun : ShelfView) (series : OpenSeries) (state : State) (report : Report) (shelf : ShelfView) : Type 0 where
  pub left : State
  pub is_left : IsLeft series state left
  pub kept : BrokenOn begun series.files.limits.stem series.files.setups left.files shelf
  pub reports : Reports series.files.setups left.files (closed_in left.files) report
