-- What an input says behind its header: which of its samples are accepted, and its first fault.
use Rattle.std.specs.Prelude.{◌≡◌, ℕ, List, [], ◌∷◌, ◌++◌, Option, Some, None, option_map, ⊤}
use Rattle.sf_tick.specs.declared.types.Stored.{Stored}
use Rattle.sf_coded.specs.declared.types.CodedFault.{CodedFault}
use Rattle.sf_coded.specs.declared.types.CodedFault.TheVariants.{ReadFault, NoMemory}
use Rattle.sf_coded.specs.declared.types.CodedSample.{CodedSample}
use Rattle.sf_coded.specs.CodedFile.{coded, fault_place}
use Rattle.sf_avc.specs.declared.nal.NalFault.TheVariants as units
use Rattle.sf_avc.specs.declared.config_body.ConfigFault.TheVariants as configs
use Rattle.sf_entry.specs.declared.track_setup.SetupFault.{SetupFault}
use Rattle.sf_entry.specs.declared.track_setup.SetupFault.TheVariants as setups
use Rattle.sf_entry.specs.declared.track_setup.TrackSetup.{TrackSetup}
use Rattle.sf_gather.specs.declared.given.Given.{Given}
use Rattle.sf_gather.specs.declared.given.LastSample.{LastSample}
use Rattle.sf_gather.specs.declared.given.Options.{Options}
use Rattle.sf_gather.specs.declared.accepting.SampleFault.{SampleFault}
use Rattle.sf_gather.specs.Accepting.{IsOfSample, kept_of, refusal, stored_of}
use Rattle.sf_record.specs.declared.faults.InputFault.{InputFault}
use Rattle.sf_record.specs.declared.faults.InputFault.TheVariants.{Coded, Setup as SetupRefused, Sample as SampleRefused}
use Rattle.sf_record.specs.declared.faults.TrackFault.{TrackFault}

-- the bytes are no coded sample file, for this fault
abbrev pub coded_fault : CodedFault → TrackFault
coded_fault fault = record { why = Coded fault; place = fault_place fault }

-- the source failed
abbrev pub read_fault : TrackFault
read_fault = coded_fault ReadFault

-- no track is made of the setup in the header, for this fault, which stands after the whole header
abbrev pub setup_fault : SetupFault → TrackFault
setup_fault fault = record { why = SetupRefused fault; place = 22 }

-- the sample of the record at a place breaks a rule
abbrev pub sample_fault : ℕ → SampleFault → TrackFault
sample_fault at fault = record { why = SampleRefused fault; place = at }

-- a fault says something of a setup: it isn't want of memory
abbrev pub IsOfSetup : SetupFault → Type 0
IsOfSetup setups.NoMemory = ⊥
IsOfSetup (setups.Avc configs.NoMemory) = ⊥
IsOfSetup (setups.Avc (configs.Nal units.NoMemory)) = ⊥
IsOfSetup fault = ⊤

-- a fault lies in an input's bytes: it is neither a failed read nor want of memory
abbrev pub IsOfBytes : InputFault → Type 0
IsOfBytes (Coded ReadFault) = ⊥
IsOfBytes (Coded NoMemory) = ⊥
IsOfBytes (Coded fault) = ⊤
IsOfBytes (SetupRefused fault) = IsOfSetup fault
IsOfBytes (SampleRefused fault) = IsOfSample fault

-- what the track of a number with this setup is given
abbrev pub given_of : ℕ → TrackSetup → Options → Given
given_of track setup options = record { track = track; kind = setup.kind; scale = setup.scale; options = options }

-- Why a sample isn't accepted after the last one, and where: it breaks a rule of its track.
abbrev pub fault_at : Given → Option LastSample → CodedSample → Option TrackFault
fault_at given last found = option_map (sample_fault found.at) (refusal given last found.sample)

-- What an input says: the samples that are accepted, as they are stored, and the fault that stands behind them, unless it is whole.
pub record Taken : Type 0 where
  pub samples : List Stored
  pub fault : Option TrackFault

-- no more samples, and this fault
abbrev pub ended : Option TrackFault → Taken
ended fault = record { samples = []; fault = fault }

-- with samples in front
abbrev pub with_front : List Stored → Taken → Taken
with_front front taken = record { samples = front ++ taken.samples; fault = taken.fault }

-- a sample and what stands behind it, unless it is refused
abbrev pub unless : Option TrackFault → Stored → Taken → Taken
unless None sample behind = with_front (sample ∷ []) behind
unless (Some fault) sample behind = ended (Some fault)

-- What is taken of samples behind an earlier last one, where the records end so.
abbrev pub taken : Given → Option LastSample → List CodedSample → Option CodedFault → Taken
taken given last [] end = ended (option_map coded_fault end)
taken given last (found ∷ samples) end =
    unless (fault_at given last found) (stored_of given found.sample) (taken given (Some (kept_of (stored_of given found.sample))) samples end)

-- what the bytes of an input say behind its header
abbrev pub input_of : Given → List ℕ → Taken
input_of given bytes = taken given None (coded bytes).samples (coded bytes).end

-- what holds of an input, where its bytes are told
abbrev pub OfInput : Option (List ℕ) → Given → (Taken → Type 0) → Type 0
OfInput None given P = ⊤
OfInput (Some bytes) given P = P (input_of given bytes)

-- the first of the samples that are accepted
abbrev pub IsFront : List Stored → Taken → Type 0
IsFront front taken = (rest : List Stored) × (taken.samples ≡ front ++ rest)
