-- What a reader does to its sink.
use Rattle.std.specs.Prelude.{◌≡◌, ℕ, ◌+◌, ◌≤◌, Bool, true, false, List, [], ◌++◌, Some, None, Result, Ok, Err}
use Rattle.sf_world.specs.Contents.{grown}
use Rattle.sf_world.specs.Views.{SinkView}
use Rattle.sf_world.specs.declared.failures.Denied.{Denied}
use Rattle.sf_world.specs.declared.failures.Denied.TheVariants as denied
use Rattle.sf_meaning.specs.declared.movie.PlainSample.{PlainSample}
use Rattle.sf_movie.specs.Loaded.{Loaded, sample_of}
use Rattle.sf_extract.specs.Readout.{Readout, before, ended_by}
use Rattle.sf_extract.specs.Runs.{Running, rest_of}
use Rattle.sf_extract.specs.declared.types.GiveFault.{GiveFault}
use Rattle.sf_extract.specs.declared.types.GiveFault.TheVariants as gives
use Rattle.sf_reader.specs.Dumps.{Begins, told_length}
use Rattle.sf_reader.specs.declared.dump.ReaderFault.{ReaderFault}
use Rattle.sf_reader.specs.declared.dump.ReaderFault.TheVariants.{Bad, ReadFault, WriteFault, NoMemory}

-- what a reader answers where a sink denied it
abbrev pub denied_as : Denied → ReaderFault
denied_as denied.Failed = WriteFault
denied_as denied.NoMemory = NoMemory

-- what a reader answers where a sample wasn't put
abbrev pub given_as : GiveFault → ReaderFault
given_as (gives.Bad bad) = Bad bad
given_as gives.NoMemory = NoMemory

-- A sink gained a first part of what is read out.
pub record GainsBegun (r : Readout) (before after : SinkView) : Type 0 where
  pub dump : List ℕ
  pub begins : Begins dump r
  pub gained : after.content ≡ grown before.content dump

-- what a reader's sink gained of what is read out, by the reader's answer
abbrev pub Dumped : Readout → Result ℕ ReaderFault → SinkView → SinkView → Type 0
Dumped r (Ok length) before after = (r.refused ≡ None) × (length ≡ told_length r.dump) × (after.content ≡ grown before.content r.dump)
Dumped r (Err (Bad bad)) before after = (r.refused ≡ Some bad) × (after.content ≡ grown before.content r.dump)
Dumped r (Err ReadFault) before after = GainsBegun r before after
Dumped r (Err WriteFault) before after = GainsBegun r before after
Dumped r (Err NoMemory) before after = GainsBegun r before after

-- each sample of a movie ends within so many bytes
abbrev pub EndsWithin : ℕ → Loaded → Type 0
EndsWithin bytes m = (t i : ℕ) (s : PlainSample) → sample_of m.movie t i ≡ Some s → s.place + s.size ≤ bytes

-- A run went on: bytes that grew, together with what is left to read out of a file, are what they were.
abbrev pub Keeps : List ℕ → List ℕ → List ℕ → Running → Running → Type 0
Keeps file old new was now = before new (rest_of file now) ≡ before old (rest_of file was)

-- what stands in front of what is left to read out of a file, by whether the run goes on, is over, or met a fault
abbrev pub ReadOn : List ℕ → List ℕ → List ℕ → Running → Running → Result Bool ReaderFault → Type 0
ReadOn file old new was now (Ok true) = Keeps file old new was now
ReadOn file old new was now (Ok false) = (now.left ≡ []) × Keeps file old new was now
ReadOn file old new was now (Err (Bad bad)) = before new (ended_by bad) ≡ before old (rest_of file was)
ReadOn file old new was now (Err ReadFault) = Keeps file old new was now
ReadOn file old new was now (Err WriteFault) = ⊥
ReadOn file old new was now (Err NoMemory) = Keeps file old new was now

-- Of a readout a part was written into a sink since it began so, with its length as it's told; these bytes wait to be written, and this is left to read out.
pub record Waits (r left : Readout) (begun : SinkView) (out : List ℕ) (written : ℕ) (now : SinkView) : Type 0 where
  pub done : List ℕ
  pub gained : now.content ≡ grown begun.content done
  pub count : written ≡ told_length done
  pub whole : before (done ++ out) left ≡ r

-- a reader went on, by whether it goes on, is over, or met a fault
abbrev pub Turned : List ℕ → Readout → SinkView → Result Bool ReaderFault → List ℕ → ℕ → Running → SinkView → Type 0
Turned file r begun (Ok true) out written run now = Waits r (rest_of file run) begun out written now
Turned file r begun (Ok false) out written run now = Dumped r (Ok written) begun now
Turned file r begun (Err fault) out written run now = Dumped r (Err fault) begun now
