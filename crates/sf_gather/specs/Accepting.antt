-- Which samples are accepted, and how they are stored.
use Rattle.std.specs.Prelude.{◌≡◌, ℕ, ◌+◌, ◌-◌, ◌^◌, ◌≤◌, length, nat_lt, nat_le, Bool, ◌&&◌, ◌||◌, List, [], ◌∷◌, Option, Some, None, Result, Ok, Err, if◌then◌else◌, ⊤}
use Rattle.sf_avc.specs.declared.nal.NalFault.{NalFault}
use Rattle.sf_avc.specs.declared.nal.NalFault.TheVariants.{NoMemory as NoMemoryForUnits}
use Rattle.sf_avc.specs.Stored.{stored}
use Rattle.sf_tick.specs.declared.types.Kind.{Kind}
use Rattle.sf_tick.specs.declared.types.Kind.TheVariants.{Avc, Aac}
use Rattle.sf_tick.specs.Tick.{tick}
use Rattle.sf_tick.specs.declared.types.Sample.{Sample}
use Rattle.sf_tick.specs.declared.types.Stored.{Stored}
use Rattle.sf_gather.specs.declared.given.Given.{Given}
use Rattle.sf_gather.specs.declared.given.LastSample.{LastSample}
use Rattle.sf_gather.specs.declared.accepting.Times.{Times}
use Rattle.sf_gather.specs.declared.accepting.SampleFault.{SampleFault}
use Rattle.sf_gather.specs.declared.accepting.SampleFault.TheVariants.{TimeTooLarge, BeforeStart, Falls, GapTooLong, OffsetTooLarge, Nal, NoMemory}

-- a time in microseconds as ticks from the start
abbrev pub tick_at : Given → ℕ → ℕ
tick_at given us = tick (us - given.options.start_us) given.scale

-- the times of a sample, counted from the start
abbrev pub times_of : Given → Sample → Times
times_of given sample = record { dts_us = sample.dts_us - given.options.start_us; decode = tick_at given sample.dts_us; compose = tick_at given sample.pts_us }

-- What is stored of a payload: of sound the payload itself, of video each of its units after its length (ISO/IEC 14496-15, 5.3.4.2), or the first refusal of these.
abbrev pub stored_form : Kind → List ℕ → Result (List ℕ) NalFault
stored_form Avc payload = stored payload
stored_form Aac payload = Ok payload

-- the bytes of a form; none of a payload that is refused
abbrev pub bytes_of : Result (List ℕ) NalFault → List ℕ
bytes_of (Ok bytes) = bytes
bytes_of (Err fault) = []

-- The sample as it is stored, with times that count from the start.
abbrev pub stored_of : Given → Sample → Stored
stored_of given sample =
    record { dts_us = sample.dts_us - given.options.start_us; decode = tick_at given sample.dts_us; compose = tick_at given sample.pts_us; sync = sample.sync; bytes = bytes_of (stored_form given.kind sample.bytes) }

-- what is kept of a sample as the last one
abbrev pub kept_of : Stored → LastSample
kept_of sample = record { dts_us = sample.dts_us; decode = sample.decode }

-- what is kept of the last sample of a list that stands after an earlier one
abbrev pub last_from : Option LastSample → List Stored → Option LastSample
last_from before [] = before
last_from before (sample ∷ samples) = last_from (Some (kept_of sample)) samples

-- what is kept of the last sample of a list, if there is one
abbrev pub last_of : List Stored → Option LastSample
last_of samples = last_from None samples

-- A composition offset, from the decode tick to the composition tick, is a signed number of 32 bits (ISO/IEC 14496-12, 8.6.1.3).
abbrev pub is_offset : ℕ → ℕ → Bool
is_offset decode compose = nat_lt compose (decode + 2 ^ 31) && nat_le decode (compose + 2 ^ 31)

-- The rules, each with its fault.
abbrev pub too_large : Sample → Option SampleFault
too_large sample = if nat_lt (2 ^ 48) sample.dts_us || nat_lt (2 ^ 48) sample.pts_us then Some TimeTooLarge else None

abbrev pub before_start : Given → Sample → Option SampleFault
before_start given sample =
    if nat_lt sample.dts_us given.options.start_us || nat_lt sample.pts_us given.options.start_us then Some BeforeStart else None

abbrev pub falls : Given → Option LastSample → Sample → Option SampleFault
falls given None sample = None
falls given (Some last) sample =
    if nat_lt sample.dts_us (last.dts_us + given.options.start_us) then Some (Falls (last.dts_us + given.options.start_us)) else None

-- A difference of neighbouring decode ticks is a number of 32 bits (ISO/IEC 14496-12, 8.6.1.2).
abbrev pub gap_too_long : Given → Option LastSample → Sample → Option SampleFault
gap_too_long given None sample = None
gap_too_long given (Some last) sample = if nat_le (last.decode + 2 ^ 32) (tick_at given sample.dts_us) then Some GapTooLong else None

abbrev pub offset_too_large : Given → Sample → Option SampleFault
offset_too_large given sample =
    if is_offset (tick_at given sample.dts_us) (tick_at given sample.pts_us) then None else Some OffsetTooLarge

-- a refusal of units, as one of a sample
abbrev pub refused_units : Result (List ℕ) NalFault → Option SampleFault
refused_units (Ok bytes) = None
refused_units (Err fault) = Some (Nal fault)

-- The payload of video is a list of NAL units (ISO/IEC 14496-10, Annex B).
abbrev pub not_units : Given → Sample → Option SampleFault
not_units given sample = refused_units (stored_form given.kind sample.bytes)

abbrev pub first_fault : List (Option SampleFault) → Option SampleFault
first_fault [] = None
first_fault (None ∷ rules) = first_fault rules
first_fault (Some fault ∷ rules) = Some fault

-- why a sample is refused for its times after the last one that was accepted, if it is
abbrev pub time_refusal : Given → Option LastSample → Sample → Option SampleFault
time_refusal given last sample =
    first_fault (too_large sample ∷ before_start given sample ∷ falls given last sample ∷ gap_too_long given last sample ∷ offset_too_large given sample ∷ [])

-- Why a sample is refused after the last one that was accepted, by the first rule in order that fails; none where it is accepted.
abbrev pub refusal : Given → Option LastSample → Sample → Option SampleFault
refusal given last sample = first_fault (time_refusal given last sample ∷ not_units given sample ∷ [])

-- a sample comes back for the first rule that fails, or for want of memory
abbrev pub RefusedBy : Option SampleFault → SampleFault → Type 0
RefusedBy first NoMemory = ⊤
RefusedBy first fault = first ≡ Some fault

-- a fault says something of the sample: it isn't want of memory
abbrev pub IsOfSample : SampleFault → Type 0
IsOfSample NoMemory = ⊥
IsOfSample (Nal NoMemoryForUnits) = ⊥
IsOfSample fault = ⊤

-- what is in front of a refusal
abbrev pub up_to : Option SampleFault → List Stored → List Stored
up_to None samples = samples
up_to (Some fault) samples = []

-- The samples in front of the first one that is refused, as they are stored, after an earlier last one.
abbrev pub plain_from : Given → Option LastSample → List Sample → List Stored
plain_from given last [] = []
plain_from given last (sample ∷ samples) =
    up_to (refusal given last sample) (stored_of given sample ∷ plain_from given (Some (kept_of (stored_of given sample))) samples)

-- The samples in front of the first one that is refused, as they are stored.
abbrev pub plain : Given → List Sample → List Stored
plain given samples = plain_from given None samples

-- a payload is neither without bytes nor too long
pub record IsSized (sample : Sample) : Type 0 where
  pub some : 1 ≤ length sample.bytes
  pub size : length sample.bytes ≤ 2 ^ 24
