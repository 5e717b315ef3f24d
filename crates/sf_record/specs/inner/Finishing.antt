-- How a series into which the chunks of pumps were dealt is finished, and the answer by it.
use Rattle.std.specs.Prelude.{◌≡◌, ℕ, ◌≤◌, ◌⊎◌, true, List, length, map, slice_get, Some, None, Result, Ok, Err}
use Rattle.sf_world.specs.Counts.{Rose}
use Rattle.sf_world.specs.Views.{ShelfView}
use Rattle.sf_entry.specs.declared.track_setup.TrackSetup.{TrackSetup}
use Rattle.sf_interleave.specs.Waiting.{earliest_front}
use Rattle.sf_series.specs.declared.faults.SeriesFault.{SeriesFault}
use Rattle.sf_series.specs.declared.faults.SeriesFault.TheVariants as causes
use Rattle.sf_series.specs.declared.limits.Limits.{Limits}
use Rattle.sf_series.specs.declared.limits.LimitShown.{LimitShown}
use Rattle.sf_series.specs.declared.report.Report.{Report}
use Rattle.sf_series.specs.Core.{State}
use Rattle.sf_series.specs.Ending.{Broken, Finished, Stopped}
use Rattle.sf_series.specs.Fitting.{AreProper}
use Rattle.sf_series.specs.Kept.{Kept}
use Rattle.sf_series.specs.Series.{OpenSeries}
use Rattle.sf_record.specs.declared.serial_end.SerialOutcome.{SerialOutcome}
use Rattle.sf_record.specs.declared.serial_end.SerialOutcome.TheVariants.{Done, WriteFault, Limit, Refused, ReadFault, NoMemory}
use Rattle.sf_record.specs.declared.headers.Untaken.{Untaken}
use Rattle.sf_record.specs.declared.headers.Untaken.TheVariants as opening
use Rattle.sf_record.specs.Pump.{Pumping}
use Rattle.sf_record.specs.Serial.{answer_at, lowest_fault}
use Rattle.sf_record.specs.inner.Deal.{AllOver, Deals, TrackBegins}
use Rattle.sf_record.specs.inner.InTurn.{AllReady, InTurn}

-- The chunks of pumps were dealt into a series of these tracks, within these limits.
pub record DealtInto (begun : ShelfView) (limits : Limits) (setups : List TrackSetup) (pumps : List Pumping) : Type 0 where
  pub series : OpenSeries
  pub state : State
  pub shelf : ShelfView
  pub own : (series.files.setups ≡ setups) × (series.files.limits ≡ limits)
  pub deals : Deals begun state pumps series shelf
  pub turn : InTurn state

-- All chunks of pumps were dealt, and the series was finished.
pub record FinishedAll (begun : ShelfView) (limits : Limits) (setups : List TrackSetup) (pumps : List Pumping) (report : Report) (after : ShelfView) : Type 0 where
  pub dealt : DealtInto begun limits setups pumps
  pub over : AllOver pumps
  pub none : earliest_front dealt.state.pending ≡ None
  pub finished : Finished begun dealt.series dealt.state report after

-- A limit was met, and the series was finished.
pub record FinishedAtLimit (begun : ShelfView) (limits : Limits) (setups : List TrackSetup) (pumps : List Pumping) (shown : LimitShown) (report : Report) (after : ShelfView) : Type 0 where
  pub dealt : DealtInto begun limits setups pumps
  pub ready : AllReady dealt.state
  pub ended : dealt.state.ended ≡ true
  pub stopped : Stopped begun dealt.series dealt.state shown report after

-- how a series ends of which not all chunks were dealt: what waited was written, up to a limit if one was met, or writing it failed
abbrev pub EndsEarly : ShelfView → OpenSeries → State → Report → ShelfView → Type 0
EndsEarly begun series state report after = Finished begun series state report after ⊎ ((shown : LimitShown) × Stopped begun series state shown report after) ⊎ Broken begun series state report after

-- First chunks of each pump were handed to a series of these tracks, within these limits, which ended before all were.
pub record FinishedAtFault (begun : ShelfView) (limits : Limits) (setups : List TrackSetup) (pumps : List Pumping) (report : Report) (after : ShelfView) : Type 0 where
  pub series : OpenSeries
  pub state : State
  pub own : (series.files.setups ≡ setups) × (series.files.limits ≡ limits)
  pub some : 1 ≤ length state.files
  pub turn : InTurn state
  pub kept : Kept series.files.limits series.files.setups state
  pub proper : AreProper series.files.setups state
  pub tracks : (number : ℕ) (pump : Pumping) → slice_get pumps number ≡ Some pump → TrackBegins series.files.setups state number pump
  pub ends : EndsEarly begun series state report after

-- all was written, and this is the answer for the lowest fault of the pumps
abbrev pub AsPumps : ShelfView → Limits → List TrackSetup → List Pumping → Report → ShelfView → SerialOutcome → Type 0
AsPumps begun limits setups pumps report after outcome = FinishedAll begun limits setups pumps report after × (outcome ≡ lowest_fault 0 (map (λ p. p.fault) pumps))

-- how the writing of the chunks of pumps ends, by its answer, over a shelf that showed this before it
abbrev pub WriteEnds : ShelfView → ShelfView → Limits → List TrackSetup → List Pumping → Report → ShelfView → SerialOutcome → Type 0
WriteEnds begun old limits setups pumps report after Done = AsPumps begun limits setups pumps report after Done
WriteEnds begun old limits setups pumps report after WriteFault = Rose old.faults after.faults × FinishedAtFault begun limits setups pumps report after
WriteEnds begun old limits setups pumps report after (Limit shown) = FinishedAtLimit begun limits setups pumps shown report after
WriteEnds begun old limits setups pumps report after (Refused track fault) = AsPumps begun limits setups pumps report after (Refused track fault)
WriteEnds begun old limits setups pumps report after (ReadFault input) = AsPumps begun limits setups pumps report after (ReadFault input)
WriteEnds begun old limits setups pumps report after NoMemory = FinishedAtFault begun limits setups pumps report after

-- the answer by how the series was finished, how the chunks were dealt, and what is to be told of the inputs
abbrev pub outcome_by : Result (Unit {0}) SeriesFault → Result (Unit {0}) SeriesFault → SerialOutcome → SerialOutcome
outcome_by (Err causes.WriteFault) dealt inputs = WriteFault
outcome_by (Err causes.NoMemory) dealt inputs = NoMemory
outcome_by (Err (causes.Limit shown)) (Err causes.NoMemory) inputs = NoMemory
outcome_by (Err (causes.Limit shown)) dealt inputs = Limit shown
outcome_by (Ok done) (Err causes.NoMemory) inputs = NoMemory
outcome_by (Ok done) dealt inputs = inputs

-- the answer where no series is begun
abbrev pub unbegun : SeriesFault → SerialOutcome
unbegun causes.WriteFault = WriteFault
unbegun (causes.Limit shown) = Limit shown
unbegun causes.NoMemory = NoMemory

-- the answer where the header of the input of a number isn't taken
abbrev pub untaken_as : ℕ → Untaken → SerialOutcome
untaken_as number (opening.Fault fault) = answer_at number fault
untaken_as number opening.NoMemory = NoMemory
