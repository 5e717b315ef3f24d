-- What a pump is, to those who use it, and what it stands for.
use Rattle.std.specs.Prelude.{◌≡◌, ℕ, ◌+◌, ◌*◌, true, false, List, [], ◌∷◌, ◌++◌, length, is_some, is_none, Option, Some, None, IfSome, IsSome, if◌then◌else◌, ◌⊎◌}
use Rattle.std.specs.Option.{option_to_list}
use Rattle.sf_tick.specs.declared.types.Chunk.{Chunk}
use Rattle.sf_tick.specs.declared.types.Stored.{Stored}
use Rattle.sf_coded.specs.declared.types.CodedSample.{CodedSample}
use Rattle.sf_coded.specs.Progress.{Progress}
use Rattle.sf_gather.specs.declared.given.Given.{Given}
use Rattle.sf_gather.specs.Chunks.{chunks, closed}
use Rattle.sf_gather.specs.Gathered.{Gathered, Stands as GatherStands}
use Rattle.sf_gather.specs.Proper.{Proper}
use Rattle.sf_record.specs.declared.faults.TrackFault.{TrackFault}
use Rattle.sf_record.specs.declared.pump.Stepped.{Stepped}
use Rattle.sf_record.specs.declared.pump.Stepped.TheVariants.{Moved, HasChunk, Done, NoMemory}
use Rattle.sf_record.specs.Input.{OfInput, IsFront}
use Rattle.sf_record.specs.Reading.{EndsBy, Fits, Reads, weight}

-- What a pump was given, its input and the sample of it that is held back, its gatherer until the last chunk is made, the chunk that it holds, and the fault that it keeps.
pub record Pumping : Type 0 where
  pub given : Given
  pub coded : Progress
  pub held_back : Option CodedSample
  pub gatherer : Option Gathered
  pub chunk : Option Chunk
  pub fault : Option TrackFault

-- What holds of a pump's parts at every moment: its gatherer was given the same, and can take one more sample.
pub record Sound (given : Given) (place : ℕ) (held_back : Option CodedSample) (gatherer : Option Gathered) : Type 0 where
  pub same : IfSome gatherer (λ g. g.given ≡ given)
  pub fits : IfSome gatherer (λ g. Fits g.chunk.number place held_back)

-- Until the last chunk is made: the gatherer stands for the accepted samples, behind which the input is read, and the chunks that the pump gave are those that more samples don't change.
pub record Gathers (contents : Option (List ℕ)) (accepted : List Stored) (gave : List Chunk) (pump : Pumping) (gatherer : Gathered) : Type 0 where
  pub stands : GatherStands accepted gatherer
  pub same : gatherer.given ≡ pump.given
  pub reads : Reads contents pump.given accepted pump.coded.setup pump.coded.place pump.held_back
  pub chunks : gave ≡ closed pump.given accepted
  pub fault : pump.fault ≡ None
  pub going : pump.coded.is_over ≡ false

-- A pump wasn't ended early: its last chunk isn't made yet, or was made at the end of the input or with a fault.
abbrev pub NotEndedEarly : Pumping → Type 0
NotEndedEarly pump = IsSome pump.gatherer ⊎ ((pump.coded.is_over ≡ true) ⊎ IsSome pump.fault)

-- Once the last chunk is made: the chunks that the pump gave are those of the accepted samples, which are the first of the input, and unless it was ended early, the kept fault stands behind them.
pub record Ended (contents : Option (List ℕ)) (accepted : List Stored) (gave : List Chunk) (pump : Pumping) : Type 0 where
  pub chunks : gave ≡ chunks pump.given accepted
  pub front : OfInput contents pump.given (IsFront accepted)
  pub ends : NotEndedEarly pump → EndsBy contents pump.given accepted pump.fault

-- the one where there is a gatherer, and else the other
abbrev pub Works : Option (List ℕ) → List Stored → List Chunk → Pumping → Option Gathered → Type 0
Works contents accepted gave pump (Some gatherer) = Gathers contents accepted gave pump gatherer
Works contents accepted gave pump None = Ended contents accepted gave pump

-- the chunks that were taken, then the one that the pump holds, if any
abbrev pub given_chunks : List Chunk → Pumping → List Chunk
given_chunks taken pump = taken ++ option_to_list pump.chunk

-- A pump whose source has these contents stands for the accepted samples and for the chunks that were taken from it.
pub record Stands (contents : Option (List ℕ)) (accepted : List Stored) (taken : List Chunk) (pump : Pumping) : Type 0 where
  pub proper : Proper pump.given.track pump.given.scale (given_chunks taken pump)
  pub works : Works contents accepted (given_chunks taken pump) pump pump.gatherer

-- the answer of a step that changes nothing: where a chunk is held, and where the last one was taken
abbrev pub rest_of : Pumping → Option Stepped
rest_of pump = if is_some pump.chunk then Some HasChunk else if is_none pump.gatherer then Some Done else None

-- One more sample was accepted.
abbrev pub Accepts : Option (List ℕ) → List Stored → List Chunk → Pumping → Type 0
Accepts contents accepted taken pump = IsSome pump.gatherer × ((sample : Stored) × Stands contents (accepted ++ sample ∷ []) taken pump)

-- what a step makes of what the pump stood for: where it holds a chunk after it, that one stood there, is the last one, or was closed by one more sample
abbrev pub StepsTo : Option (List ℕ) → List Stored → List Chunk → Pumping → Stepped → Type 0
StepsTo contents accepted taken pump Moved = Accepts contents accepted taken pump
StepsTo contents accepted taken pump HasChunk = Stands contents accepted taken pump ⊎ Accepts contents accepted taken pump
StepsTo contents accepted taken pump Done = Stands contents accepted taken pump
StepsTo contents accepted taken pump NoMemory = Stands contents accepted taken pump

-- how many steps are left at most, in a source with so many bytes
abbrev pub left : ℕ → Pumping → ℕ
left size pump = weight size pump.coded.place pump.held_back + length (option_to_list pump.gatherer)

-- how many chunks are held and samples left at most, so that each step and each chunk that is taken makes it less
abbrev pub turns_left : ℕ → Pumping → ℕ
turns_left size pump = 2 * left size pump + length (option_to_list pump.chunk)
