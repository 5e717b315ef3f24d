-- How the extraction of plans from a movie ends.
use Rattle.std.specs.Prelude.{◌≡◌, ℕ, ◌+◌, ◌⊎◌, List, [], ◌∷◌, length, Option, Some, None, Result, Ok, Err}
use Rattle.sf_world.specs.Counts.{Rose}
use Rattle.sf_world.specs.Views.{GivenBack, InputsView, NotAsked, Says, ShelfView}
use Rattle.sf_meaning.specs.Entries.{movie_entries}
use Rattle.sf_meaning.specs.Movie.{Step, movie}
use Rattle.sf_meaning.specs.Steps.{◌>>=◌}
use Rattle.sf_movie.specs.Loaded.{Loaded}
use Rattle.sf_extract.specs.Plan.{missing_from}
use Rattle.sf_extract.specs.Readout.{Readout, readout}
use Rattle.sf_extract.specs.declared.plan.Command.{Command}
use Rattle.sf_extract.specs.declared.types.BadSample.{BadSample}
use Rattle.sf_reader.specs.Dumps.{readouts}
use Rattle.sf_reader.specs.Extracted.{Extracted, KeptDumps}
use Rattle.sf_reader.specs.declared.outcome.ExtractOutcome.{ExtractOutcome}
use Rattle.sf_reader.specs.declared.outcome.ExtractOutcome.TheVariants as outcomes
use Rattle.sf_words.specs.declared.command.ExtractAsked.{ExtractAsked}
use Rattle.sf_app.specs.AnswerText.{TellsDone, dump_lines, line_of}
use Rattle.sf_app.specs.Outside.{Faulty, KeepInputs, Missed, OfTold, Outside}
use Rattle.sf_app.specs.Plans.{plans_from}
use Rattle.sf_app.specs.Refused.{WordsRefused}
use Rattle.sf_app.specs.declared.status.Status.{Status}
use Rattle.sf_app.specs.declared.status.Status.TheVariants.{Done, Usage, OpenFault, ReadFault, WriteFault, InputRefused, MovieRefused, SampleRefused, LimitReached, PlanRefused, NoMemory}
use Rattle.sf_app.specs.declared.status.UsageFault.{UsageFault}

-- What is extracted: plans, from the movie of a name, each into a dump of which the name begins with the stem.
pub record Extraction : Type 0 where
  pub name : List ℕ
  pub plans : List (List Command)
  pub stem : List ℕ

-- The movie was given, plans were read out of it with this outcome and these lengths of dumps, and it was given back.
pub record ExtractsSo (e : Extraction) (outcome : ExtractOutcome) (lengths : List ℕ) (inputs inputs' : InputsView) (shelf shelf' : ShelfView) : Type 0 where
  pub back : GivenBack e.name inputs inputs'
  pub extracted : OfTold (inputs.holds e.name) (λ file. Extracted file e.plans e.stem outcome lengths shelf shelf')

-- How plans were extracted, before the text says so, by the answer: each dump is the readout of its plan; or the movie can't be opened, and nothing is made; or a read or a write failed, and each dump that was made is kept with a first part of its readout; or the movie is refused, or a plan that names no track of it, and nothing is made; or a sample is refused; or memory ran out, before the movie was given or after. No other answer comes.
abbrev pub Extracts : Extraction → Result (List ℕ) Status → InputsView → InputsView → ShelfView → ShelfView → Type 0
Extracts e (Ok lengths) i i' s s' = ExtractsSo e outcomes.Done lengths i i' s s'
Extracts e (Err Done) i i' s s' = ⊥
Extracts e (Err (Usage fault)) i i' s s' = ⊥
Extracts e (Err (OpenFault input)) i i' s s' = (input ≡ 0) × (s' ≡ s) × Missed e.name i i'
Extracts e (Err (ReadFault input)) i i' s s' = (input ≡ 0) × ExtractsSo e outcomes.ReadFault [] i i' s s' × Faulty e.name i i'
Extracts e (Err WriteFault) i i' s s' = ExtractsSo e outcomes.WriteFault [] i i' s s' × Rose s.faults s'.faults
Extracts e (Err (InputRefused track fault)) i i' s s' = ⊥
Extracts e (Err (MovieRefused fault)) i i' s s' = ExtractsSo e (outcomes.Refused fault) [] i i' s s'
Extracts e (Err (SampleRefused reader track sample at)) i i' s s' = ExtractsSo e (outcomes.BadSample reader track sample at) [] i i' s s'
Extracts e (Err (LimitReached limit)) i i' s s' = ⊥
Extracts e (Err (PlanRefused reader command)) i i' s s' = ExtractsSo e (outcomes.NoTrack reader command) [] i i' s s'
Extracts e (Err NoMemory) i i' s s' = ((s' ≡ s) × NotAsked i i') ⊎ ExtractsSo e outcomes.NoMemory [] i i' s s'

-- The extraction was done, and the text tells it as far as the answer says.
pub record TellsDumps (e : Extraction) (result : Status) (b a : Outside) : Type 0 where
  pub lengths : List ℕ
  pub extracts : Extracts e (Ok lengths) b.inputs a.inputs b.shelf a.shelf
  pub tells : TellsDone (dump_lines lengths) result b.text a.text

-- The answer came before the text, which gained its line as far as it goes.
pub record TellsAnswer (e : Extraction) (result : Status) (b a : Outside) : Type 0 where
  pub extracts : Extracts e (Err result) b.inputs a.inputs b.shelf a.shelf
  pub says : Says (line_of result) b.text a.text

-- each dump is what its plan reads out of a file, in which no sample is refused
abbrev pub AreReadOut : List ℕ → List (List Command) → List (List ℕ) → Type 0
AreReadOut file [] [] = Unit {0}
AreReadOut file [] (dump ∷ dumps) = ⊥
AreReadOut file (plan ∷ plans) [] = ⊥
AreReadOut file (plan ∷ plans) (dump ∷ dumps) = (readout file plan ≡ Ok (record { dump = dump; refused = None })) × AreReadOut file plans dumps

-- Dumps were made and kept, in the order of the plans and by their names; each is what its plan reads out of a file.
pub record ReadsOut (file : List ℕ) (e : Extraction) (before after : ShelfView) : Type 0 where
  pub dumps : List (List ℕ)
  pub are : AreReadOut file e.plans dumps
  pub kept : KeptDumps e.stem dumps before after

-- the movie that a file is, with its sample entries, or what is wrong with it
unfoldable pub loaded : List ℕ → Step Loaded
loaded file = do
  m ← movie file
  es ← movie_entries file
  Ok (record { movie = m; entries = es })

-- the answer for a refused sample of the reader of a number, or for the later readers
abbrev pub refused_or : ℕ → Option BadSample → Status → Status
refused_or reader None later = later
refused_or reader (Some bad) later = SampleRefused reader bad.track bad.sample bad.at

-- the answer for readouts, of readers from a number on: the first refused sample, or done
abbrev pub by_readouts : ℕ → List Readout → Status
by_readouts reader [] = Done
by_readouts reader (r ∷ rs) = refused_or reader r.refused (by_readouts (reader + 1) rs)

-- the answer for a command of the plan of a number that names no track, or for what is looked at later
abbrev pub missing_or : ℕ → Option ℕ → Status → Status
missing_or reader None later = later
missing_or reader (Some command) later = PlanRefused reader command

-- the answer for the first command that names none of so many tracks, of plans from a number on, or for what is looked at later
abbrev pub by_plans : ℕ → ℕ → List (List Command) → Status → Status
by_plans tracks reader [] later = later
by_plans tracks reader (plan ∷ plans) later = missing_or reader (missing_from tracks 0 plan) (by_plans tracks (reader + 1) plans later)

-- the answer for a movie, or for what is wrong with a file
abbrev pub by_movie : List ℕ → List (List Command) → Step Loaded → Status
by_movie file plans (Err fault) = MovieRefused fault
by_movie file plans (Ok m) = by_plans (length m.movie.tracks) 0 plans (by_readouts 0 (readouts file m plans))

-- The answer that a file and plans call for: what is wrong with the file; or the first command that names no track; or the first refused sample; or done.
abbrev pub answer_for : List ℕ → List (List Command) → Status
answer_for file plans = by_movie file plans (loaded file)

-- Plans were extracted, with this answer.
pub record PlansEnd (e : Extraction) (result : Status) (b a : Outside) : Type 0 where
  pub ends : TellsDumps e result b a ⊎ TellsAnswer e result b a
  pub inputs : KeepInputs b.inputs a.inputs
  -- At Done each dump is what its plan reads out of the movie's bytes.
  pub done : result ≡ Done → (file : List ℕ) → b.inputs.holds e.name ≡ Some file → ReadsOut file e b.shelf a.shelf
  -- Where no count rose, the answer is the one that the bytes and the plans call for, or want of memory.
  pub complete : (file : List ℕ) → b.inputs.holds e.name ≡ Some file
      → ¬ Rose b.inputs.misses a.inputs.misses → ¬ Rose b.inputs.faults a.inputs.faults
      → ¬ Rose b.shelf.faults a.shelf.faults → ¬ Rose b.text.faults a.text.faults
      → (result ≡ NoMemory) ⊎ (result ≡ answer_for file e.plans)

-- what stands after an extraction, by the plans that its words say: the first word that isn't a plan is refused, and then only the text is touched
abbrev pub EndsBy : ExtractAsked → Result (List (List Command)) UsageFault → Status → Outside → Outside → Type 0
EndsBy asked (Err fault) result b a = WordsRefused fault result b a
EndsBy asked (Ok plans) result b a = PlansEnd (record { name = asked.movie; plans = plans; stem = asked.out }) result b a

-- Plans, as words say them, were extracted from a movie, with this answer.
abbrev pub ExtractEnds : ExtractAsked → Status → Outside → Outside → Type 0
ExtractEnds asked result b a = EndsBy asked (plans_from 0 asked.plans) result b a
