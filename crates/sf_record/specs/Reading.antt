-- How far an input is read.
use Rattle.std.specs.Prelude.{◌≡◌, ℕ, ◌+◌, ◌-◌, ◌*◌, ◌^◌, ◌≤◌, ◌<◌, ◌⊎◌, Bool, false, List, ◌++◌, length, Option, Some, None, IfSome, ⊤}
use Rattle.std.specs.Option.{option_to_list}
use Rattle.sf_tick.specs.declared.types.Setup.{Setup}
use Rattle.sf_tick.specs.declared.types.Stored.{Stored}
use Rattle.sf_coded.specs.declared.types.CodedFault.{CodedFault}
use Rattle.sf_coded.specs.declared.types.CodedSample.{CodedSample}
use Rattle.sf_coded.specs.Progress.{Stands as FileStands}
use Rattle.sf_gather.specs.declared.given.Given.{Given}
use Rattle.sf_gather.specs.Accepting.{last_of}
use Rattle.sf_record.specs.declared.faults.TrackFault.{TrackFault}
use Rattle.sf_record.specs.declared.advance.Turn.{Turn}
use Rattle.sf_record.specs.declared.advance.Turn.TheVariants.{Next, End, NoMemory}
use Rattle.sf_record.specs.Input.{taken, ended, with_front, read_fault, OfInput, IsFront, IsOfBytes}

-- An input is read behind the accepted samples, or one more sample that is held back: these are what is taken of the samples so far, and what follows is taken behind them.
pub record Reads (contents : Option (List ℕ)) (given : Given) (accepted : List Stored) (setup : Setup) (place : ℕ) (held : Option CodedSample) : Type 0 where
  pub samples : List CodedSample
  pub stands : FileStands contents setup (samples ++ option_to_list held) place
  pub says : (more : List CodedSample) (end : Option CodedFault) → taken given None (samples ++ more) end ≡ with_front accepted (taken given (last_of accepted) more end)

-- The accepted samples are all that are taken of an input, and this is its fault; or its source failed behind the first of them.
abbrev pub EndsBy : Option (List ℕ) → Given → List Stored → Option TrackFault → Type 0
EndsBy contents given accepted None = OfInput contents given (λ t. t ≡ with_front accepted (ended None))
EndsBy contents given accepted (Some fault) =
    ((fault ≡ read_fault) × OfInput contents given (IsFront accepted))
    ⊎ (IsOfBytes fault.why × OfInput contents given (λ t. t ≡ with_front accepted (ended (Some fault))))

-- what a turn makes of it
abbrev pub TurnReads : Option (List ℕ) → Given → List Stored → Setup → ℕ → Turn → Type 0
TurnReads contents given accepted setup place (Next found) = Reads contents given accepted setup place (Some found)
TurnReads contents given accepted setup place (End fault) = EndsBy contents given accepted fault
TurnReads contents given accepted setup place NoMemory = Reads contents given accepted setup place None

-- A sample that was read fits a gatherer whose chunk has this number, and stands in front of the place.
pub record IsReady (number place : ℕ) (found : CodedSample) : Type 0 where
  pub some : 1 ≤ length found.sample.bytes
  pub size : length found.sample.bytes ≤ 16777216
  pub before : number < place
  pub below : number < 2 ^ 64 - 1

-- The number of a chunk isn't above the place of the next record, since each record has more than one byte.
pub record Fits (number place : ℕ) (held : Option CodedSample) : Type 0 where
  pub counted : number ≤ place
  pub ready : IfSome held (IsReady number place)

-- a turn leaves a chunk of this number so that its sample fits, or the next one will
abbrev pub TurnFits : ℕ → ℕ → Turn → Type 0
TurnFits number place (Next found) = IsReady number place found
TurnFits number place (End fault) = number ≤ place
TurnFits number place NoMemory = number ≤ place

-- the end of an input wasn't told, where a turn goes on
abbrev pub TurnGoes : Bool → Turn → Type 0
TurnGoes over (Next found) = over ≡ false
TurnGoes over (End fault) = ⊤
TurnGoes over NoMemory = over ≡ false

-- how much is left at a place of a source with so many bytes, with a sample that is held back
abbrev pub weight : ℕ → ℕ → Option CodedSample → ℕ
weight size place held = 2 * (size - place) + length (option_to_list held)

-- how much is left behind a turn
abbrev pub turn_weight : ℕ → ℕ → Turn → ℕ
turn_weight size place (Next found) = weight size place (Some found)
turn_weight size place (End fault) = weight size place None
turn_weight size place NoMemory = weight size place None
