-- How the recording of inputs ends.
use Rattle.std.specs.Prelude.{◌≡◌, ℕ, ◌⊎◌, List, [], ◌++◌, map, slice_get, Some, None, Result, Ok, Err}
use Rattle.sf_world.specs.Counts.{Rose}
use Rattle.sf_world.specs.Views.{InputsView, Says, ShelfView, SourceView}
use Rattle.sf_gather.specs.declared.given.Options.{Options}
use Rattle.sf_series.specs.declared.limits.Limits.{Limits}
use Rattle.sf_series.specs.declared.report.Report.{Report}
use Rattle.sf_record.specs.Called.{called_for}
use Rattle.sf_record.specs.Said.{IsHeld, said_in}
use Rattle.sf_record.specs.Serial.{KeepsMade, SerialEnds, asked_for, gave}
use Rattle.sf_record.specs.declared.serial_end.SerialOutcome.{SerialOutcome}
use Rattle.sf_record.specs.declared.serial_end.SerialOutcome.TheVariants as outcomes
use Rattle.sf_words.specs.declared.command.RecordAsked.{RecordAsked}
use Rattle.sf_app.specs.AnswerText.{TellsDone, done_lines, line_of}
use Rattle.sf_app.specs.Lending.{BackUnread, FaultyAt, Lent, MissedAt}
use Rattle.sf_app.specs.Outside.{KeepInputs, Outside}
use Rattle.sf_app.specs.declared.status.Status.{Status}
use Rattle.sf_app.specs.declared.status.Status.TheVariants.{Done, Usage, OpenFault, ReadFault, WriteFault, InputRefused, MovieRefused, SampleRefused, LimitReached, PlanRefused, NoMemory}

-- when a recording starts, and how its samples are put into chunks
abbrev pub options_of : RecordAsked → Options
options_of asked = record { start_us = asked.numbers.start_us; interleave_us = asked.numbers.interleave_us }

-- how long its files may be and how many, and how their names begin
abbrev pub limits_of : RecordAsked → Limits
limits_of asked = record { max_bytes = asked.numbers.max_bytes; max_duration_us = asked.numbers.max_duration_us; max_files = asked.numbers.max_files; stem = asked.out }

-- The inputs were recorded with this outcome and this report: a source was given for each name, all came back, and each file that was made is kept.
pub record Records (asked : RecordAsked) (outcome : SerialOutcome) (report : Report) (inputs inputs' : InputsView) (shelf shelf' : ShelfView) : Type 0 where
  pub sources : List SourceView
  pub back : List SourceView
  pub lent : Lent asked.inputs sources back inputs inputs'
  pub ends : SerialEnds (asked_for (options_of asked) (limits_of asked) sources shelf) (gave back shelf' report) outcome
  pub kept : KeepsMade asked.out shelf shelf'

-- the inputs were recorded with this outcome, and some report
abbrev pub RecordsSo : RecordAsked → SerialOutcome → InputsView → InputsView → ShelfView → ShelfView → Type 0
RecordsSo asked outcome i i' s s' = (report : Report) × Records asked outcome report i i' s s'

-- How inputs were recorded, before the text says so, by the answer: all are whole and so are the files; or one can't be opened, and nothing is made; or a read or a write failed; or one is refused; or a limit was met; or memory ran out, before all sources were given or after. No other answer comes.
abbrev pub Performs : RecordAsked → Result Report Status → InputsView → InputsView → ShelfView → ShelfView → Type 0
Performs asked (Ok report) i i' s s' = Records asked outcomes.Done report i i' s s'
Performs asked (Err Done) i i' s s' = ⊥
Performs asked (Err (Usage fault)) i i' s s' = ⊥
Performs asked (Err (OpenFault input)) i i' s s' = (s' ≡ s) × MissedAt asked.inputs input i i'
Performs asked (Err (ReadFault input)) i i' s s' = RecordsSo asked (outcomes.ReadFault input) i i' s s' × FaultyAt asked.inputs input i i'
Performs asked (Err WriteFault) i i' s s' = RecordsSo asked outcomes.WriteFault i i' s s' × Rose s.faults s'.faults
Performs asked (Err (InputRefused track fault)) i i' s s' = RecordsSo asked (outcomes.Refused track fault) i i' s s'
Performs asked (Err (MovieRefused fault)) i i' s s' = ⊥
Performs asked (Err (SampleRefused reader track sample at)) i i' s s' = ⊥
Performs asked (Err (LimitReached limit)) i i' s s' = RecordsSo asked (outcomes.Limit limit) i i' s s'
Performs asked (Err (PlanRefused reader command)) i i' s s' = ⊥
Performs asked (Err NoMemory) i i' s s' = ((s' ≡ s) × (number : ℕ) × BackUnread asked.inputs number [] i i') ⊎ RecordsSo asked outcomes.NoMemory i i' s s'

-- The recording was done, and the text tells it as far as the answer says.
pub record TellsReport (asked : RecordAsked) (result : Status) (b a : Outside) : Type 0 where
  pub report : Report
  pub performs : Performs asked (Ok report) b.inputs a.inputs b.shelf a.shelf
  pub tells : TellsDone (done_lines report) result b.text a.text

-- The answer came before the text, which gained its line as far as it goes.
pub record TellsAnswer (asked : RecordAsked) (result : Status) (b a : Outside) : Type 0 where
  pub performs : Performs asked (Err result) b.inputs a.inputs b.shelf a.shelf
  pub says : Says (line_of result) b.text a.text

-- the report of a recording that is done, or the answer of another one
abbrev pub answered : SerialOutcome → Report → Result Report Status
answered outcomes.Done report = Ok report
answered outcomes.WriteFault report = Err WriteFault
answered (outcomes.Limit limit) report = Err (LimitReached limit)
answered (outcomes.Refused track fault) report = Err (InputRefused track fault)
answered (outcomes.ReadFault input) report = Err (ReadFault input)
answered outcomes.NoMemory report = Err NoMemory

-- the answer for a recording that ended so
abbrev pub status_of : SerialOutcome → Status
status_of outcomes.Done = Done
status_of outcomes.WriteFault = WriteFault
status_of (outcomes.Limit limit) = LimitReached limit
status_of (outcomes.Refused track fault) = InputRefused track fault
status_of (outcomes.ReadFault input) = ReadFault input
status_of outcomes.NoMemory = NoMemory

-- A shelf that had these files gained more, which hold just the samples of the inputs, each as a track, where its bytes are told.
pub record HoldsInputs (asked : RecordAsked) (inputs : InputsView) (before : List (List ℕ)) (shelf : ShelfView) : Type 0 where
  pub files : List (List ℕ)
  pub kept : shelf.files ≡ Some (before ++ files)
  pub held : (track : ℕ) (name bytes : List ℕ) → slice_get asked.inputs track ≡ Some name → inputs.holds name ≡ Some bytes → IsHeld track (said_in track (options_of asked) bytes) files

-- these are the bytes of the inputs of names, which are told
abbrev pub AreHeld : InputsView → List (List ℕ) → List (List ℕ) → Type 0
AreHeld inputs names all = map (λ name. inputs.holds name) names ≡ map Some all

-- Inputs were recorded, with this answer.
pub record RecordEnds (asked : RecordAsked) (result : Status) (b a : Outside) : Type 0 where
  pub ends : TellsReport asked result b a ⊎ TellsAnswer asked result b a
  pub inputs : KeepInputs b.inputs a.inputs
  -- At Done the files hold exactly the samples of the inputs.
  pub done : result ≡ Done → (before : List (List ℕ)) → b.shelf.files ≡ Some before → HoldsInputs asked b.inputs before a.shelf
  -- Nothing is made where the header or the setup of an input is refused.
  pub header : (track : ℕ) (name bytes : List ℕ) → slice_get asked.inputs track ≡ Some name → b.inputs.holds name ≡ Some bytes → (said_in track (options_of asked) bytes).setup ≡ None → a.shelf ≡ b.shelf
  -- Where no count rose, the answer is the one that the inputs' bytes call for, or want of memory.
  pub complete : (all : List (List ℕ)) → AreHeld b.inputs asked.inputs all
      → ¬ Rose b.inputs.misses a.inputs.misses → ¬ Rose b.inputs.faults a.inputs.faults
      → ¬ Rose b.shelf.faults a.shelf.faults → ¬ Rose b.text.faults a.text.faults
      → (result ≡ NoMemory) ⊎ (result ≡ status_of (called_for (options_of asked) (limits_of asked) all))
