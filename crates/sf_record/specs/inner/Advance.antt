-- What one step along an input makes of a gatherer.
use Rattle.std.specs.Prelude.{◌≡◌, ℕ, ◌+◌, ◌≤◌, Bool, false, List, [], ◌∷◌, ◌++◌, Option, Some, None, IsSome, ⊤}
use Rattle.std.specs.Option.{option_to_list}
use Rattle.sf_tick.specs.declared.types.Chunk.{Chunk}
use Rattle.sf_tick.specs.declared.types.Setup.{Setup}
use Rattle.sf_tick.specs.declared.types.Stored.{Stored}
use Rattle.sf_coded.specs.declared.types.CodedSample.{CodedSample}
use Rattle.sf_gather.specs.declared.given.Given.{Given}
use Rattle.sf_gather.specs.Accepting.{stored_of}
use Rattle.sf_gather.specs.Chunks.{closed}
use Rattle.sf_gather.specs.Gathered.{Gathered, Stands as GatherStands}
use Rattle.sf_gather.specs.Proper.{Proper}
use Rattle.sf_record.specs.declared.advance.Advance.{Advance}
use Rattle.sf_record.specs.declared.advance.Advance.TheVariants.{Accepted, Ended, NoMemory}
use Rattle.sf_record.specs.Input.{fault_at, OfInput, IsFront}
use Rattle.sf_record.specs.Reading.{EndsBy, Reads, weight}

-- A sample that was read is accepted, and closes this chunk, if any.
pub record Accepts (old : Gathered) (found : CodedSample) (new : Gathered) (chunk : Option Chunk) : Type 0 where
  pub right : fault_at old.given old.last found ≡ None
  pub given : new.given ≡ old.given
  pub number : new.chunk.number ≤ old.chunk.number + 1
  pub stands : (samples : List Stored) → GatherStands samples old → GatherStands (samples ++ stored_of old.given found.sample ∷ []) new
  pub grows : (samples : List Stored) → GatherStands samples old
      → closed old.given (samples ++ stored_of old.given found.sample ∷ []) ≡ closed old.given samples ++ option_to_list chunk
  pub proper : (samples : List Stored) → GatherStands samples new → Proper new.given.track new.given.scale (closed new.given samples)

-- what putting a sample into a gatherer does
abbrev pub PutIn : Gathered → CodedSample → Gathered → Option CodedSample → Advance → Type 0
PutIn old found new held (Accepted chunk) = (held ≡ None) × Accepts old found new chunk
PutIn old found new held (Ended fault) = (held ≡ None) × (new ≡ old) × (fault ≡ fault_at old.given old.last found) × IsSome fault
PutIn old found new held NoMemory = (held ≡ Some found) × (new ≡ old)

-- A sample was accepted behind the others, as it is stored, and closes this chunk, if any.
pub record OneMore (contents : Option (List ℕ)) (given : Given) (accepted : List Stored) (gatherer : Gathered) (setup : Setup) (place : ℕ) (held : Option CodedSample) (chunk : Option Chunk) : Type 0 where
  pub sample : Stored
  pub stands : GatherStands (accepted ++ sample ∷ []) gatherer
  pub reads : Reads contents given (accepted ++ sample ∷ []) setup place held
  pub grows : closed given (accepted ++ sample ∷ []) ≡ closed given accepted ++ option_to_list chunk
  pub proper : Proper given.track given.scale (closed given (accepted ++ sample ∷ []))

-- what a step makes of the accepted samples
abbrev pub AdvancesTo : Option (List ℕ) → Given → List Stored → Gathered → Setup → ℕ → Option CodedSample → Advance → Type 0
AdvancesTo contents given accepted gatherer setup place held (Accepted chunk) = OneMore contents given accepted gatherer setup place held chunk
AdvancesTo contents given accepted gatherer setup place held (Ended fault) = GatherStands accepted gatherer × EndsBy contents given accepted fault × OfInput contents given (IsFront accepted)
AdvancesTo contents given accepted gatherer setup place held NoMemory = GatherStands accepted gatherer × Reads contents given accepted setup place held

-- the end of an input wasn't told, where a step goes on
abbrev pub AdvanceGoes : Bool → Advance → Type 0
AdvanceGoes over (Accepted chunk) = over ≡ false
AdvanceGoes over (Ended fault) = ⊤
AdvanceGoes over NoMemory = over ≡ false

-- how much was left before a step at least: an accepted sample makes it less
abbrev pub advance_weight : ℕ → ℕ → Option CodedSample → Advance → ℕ
advance_weight size place held (Accepted chunk) = weight size place held + 1
advance_weight size place held (Ended fault) = weight size place held
advance_weight size place held NoMemory = weight size place held
