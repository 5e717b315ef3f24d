-- Plans that are read from words, one after the other, and the answers for an extraction.
use Rattle.std.specs.Prelude.{◌≡◌, ℕ, ◌⊎◌, List, ◌++◌, Result, Ok, Err}
use Rattle.sf_extract.specs.declared.plan.Command.{Command}
use Rattle.sf_extract.specs.declared.plan.PlanFault.{PlanFault}
use Rattle.sf_extract.specs.declared.plan.PlanFault.TheVariants as plans
use Rattle.sf_reader.specs.declared.outcome.ExtractOutcome.{ExtractOutcome}
use Rattle.sf_reader.specs.declared.outcome.ExtractOutcome.TheVariants as outcomes
use Rattle.sf_words.specs.declared.command.ExtractAsked.{ExtractAsked}
use Rattle.sf_app.specs.ExtractEnds.{Extraction}
use Rattle.sf_app.specs.declared.status.Status.{Status}
use Rattle.sf_app.specs.declared.status.Status.TheVariants.{Usage, ReadFault, WriteFault, MovieRefused, SampleRefused, PlanRefused, NoMemory}
use Rattle.sf_app.specs.declared.status.UsageFault.{UsageFault}
use Rattle.sf_app.specs.declared.status.UsageFault.TheVariants.{PlanWord}

-- what words say after those that say these plans
abbrev pub after : List (List Command) → Result (List (List Command)) UsageFault → Result (List (List Command)) UsageFault
after plans (Ok more) = Ok (plans ++ more)
after plans (Err fault) = Err fault

-- the answer where the word of a number isn't read
abbrev pub unread : ℕ → PlanFault → Status
unread reader (plans.BadWord at) = Usage (PlanWord reader at)
unread reader plans.NoMemory = NoMemory

-- words aren't the plans of a right answer: they are refused so, or memory ran out
abbrev pub NotRead : Result (List (List Command)) UsageFault → Status → Type 0
NotRead said status = (status ≡ NoMemory) ⊎ ((fault : UsageFault) × (said ≡ Err fault) × (status ≡ Usage fault))

-- the extraction of plans that are asked
abbrev pub extraction : ExtractAsked → List (List Command) → Extraction
extraction asked plans = record { name = asked.movie; plans = plans; stem = asked.out }

-- the lengths of the dumps of an extraction that is done, or the answer of another one
abbrev pub answered : ExtractOutcome → List ℕ → Result (List ℕ) Status
answered outcomes.Done lengths = Ok lengths
answered (outcomes.Refused fault) lengths = Err (MovieRefused fault)
answered (outcomes.NoTrack reader command) lengths = Err (PlanRefused reader command)
answered (outcomes.BadSample reader track sample at) lengths = Err (SampleRefused reader track sample at)
answered outcomes.ReadFault lengths = Err (ReadFault 0)
answered outcomes.WriteFault lengths = Err WriteFault
answered outcomes.NoMemory lengths = Err NoMemory
