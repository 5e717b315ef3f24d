-- What readers do to a shelf, one after the other.
use Rattle.std.specs.Prelude.{◌≡◌, ℕ, ◌⊎◌, List, [], ◌∷◌, ◌++◌, length, map, Option, Some, None, Result, Ok, Err}
use Rattle.sf_world.specs.Contents.{grown, shelved}
use Rattle.sf_world.specs.Views.{ShelfView}
use Rattle.sf_movie.specs.declared.load.LoadFault.{LoadFault}
use Rattle.sf_movie.specs.declared.load.LoadFault.TheVariants as loads
use Rattle.sf_extract.specs.Readout.{Readout}
use Rattle.sf_reader.specs.Dumps.{AreBegun, AreUpTo, AreWhole, Begins, dumps_of, told_length}
use Rattle.sf_reader.specs.Extracted.{KeptOf, with_dumps}
use Rattle.sf_reader.specs.declared.dump.ReaderFault.{ReaderFault}
use Rattle.sf_reader.specs.declared.dump.ReaderFault.TheVariants as by
use Rattle.sf_reader.specs.declared.outcome.ExtractOutcome.{ExtractOutcome}
use Rattle.sf_reader.specs.declared.outcome.ExtractOutcome.TheVariants.{Done, Refused, NoTrack, BadSample, ReadFault, WriteFault, NoMemory}

-- the first of two answers that tells a fault
abbrev pub first_fault : ExtractOutcome → ExtractOutcome → ExtractOutcome
first_fault Done later = later
first_fault (Refused fault) later = Refused fault
first_fault (NoTrack reader command) later = NoTrack reader command
first_fault (BadSample reader track sample at) later = BadSample reader track sample at
first_fault ReadFault later = ReadFault
first_fault WriteFault later = WriteFault
first_fault NoMemory later = NoMemory

-- the answer where no movie is loaded
abbrev pub of_load : LoadFault → ExtractOutcome
of_load (loads.Refused fault) = Refused fault
of_load loads.ReadFault = ReadFault
of_load loads.NoMemory = NoMemory

-- the answer for a fault of a reader
abbrev pub answer_of : ℕ → ReaderFault → ExtractOutcome
answer_of reader (by.Bad bad) = BadSample reader bad.track bad.sample bad.at
answer_of reader by.ReadFault = ReadFault
answer_of reader by.WriteFault = WriteFault
answer_of reader by.NoMemory = NoMemory

-- the answer of a reader, and the lengths with that of its dump, where there is memory for it
abbrev pub Answers : ℕ → Result ℕ ReaderFault → List ℕ → List ℕ → ExtractOutcome → Type 0
Answers reader (Ok length) old new answer = ((answer ≡ Done) × (new ≡ old ++ length ∷ [])) ⊎ (answer ≡ NoMemory)
Answers reader (Err fault) old new answer = answer ≡ answer_of reader fault

-- a dump of a readout, by what its reader says of it
abbrev pub IsDump : Readout → Result ℕ ReaderFault → List ℕ → Type 0
IsDump r (Ok length) d = (r.refused ≡ None) × (length ≡ told_length d) × (d ≡ r.dump)
IsDump r (Err (by.Bad bad)) d = (r.refused ≡ Some bad) × (d ≡ r.dump)
IsDump r (Err by.ReadFault) d = Begins d r
IsDump r (Err by.WriteFault) d = Begins d r
IsDump r (Err by.NoMemory) d = Begins d r

-- A reader wrote its dump into a sink with these contents, and the sink was kept.
pub record KeptOne (r : Readout) (read : Result ℕ ReaderFault) (contents : Option (List ℕ)) (before after : ShelfView) : Type 0 where
  pub dump : List ℕ
  pub is : IsDump r read dump
  pub kept : after.files ≡ shelved before.files (grown contents dump)

-- the dumps of readouts, by the first fault of their readers
abbrev pub AreDumps : List Readout → List (List ℕ) → ExtractOutcome → Type 0
AreDumps rs ds Done = AreWhole rs × (ds ≡ dumps_of rs)
AreDumps rs ds (Refused fault) = ⊥
AreDumps rs ds (NoTrack reader command) = ⊥
AreDumps rs ds (BadSample reader track sample at) = AreUpTo reader (record { track = track; sample = sample; at = at }) ds rs
AreDumps rs ds ReadFault = AreBegun ds rs
AreDumps rs ds WriteFault = AreBegun ds rs
AreDumps rs ds NoMemory = AreBegun ds rs

-- Readers ran, one for each readout, and their dumps were kept.
pub record Ran (rs : List Readout) (outcome : ExtractOutcome) (lengths : List ℕ) (before after : ShelfView) : Type 0 where
  pub dumps : List (List ℕ)
  pub count : length dumps ≡ length rs
  pub are : AreDumps rs dumps outcome
  pub kept : after.files ≡ with_dumps before.files dumps
  pub told : outcome ≡ Done → lengths ≡ map told_length dumps

-- how plans that name no missing track were read out
abbrev pub PlansEnd : List Readout → List ℕ → ExtractOutcome → List ℕ → ShelfView → ShelfView → Type 0
PlansEnd rs stem outcome lengths before after = KeptOf stem before after (λ ds. AreDumps rs ds outcome × (outcome ≡ Done → lengths ≡ map told_length ds))
