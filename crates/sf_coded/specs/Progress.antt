-- How far a coded file is read, and what the answers so far say of it.
use Rattle.std.specs.Prelude.{◌≡◌, ℕ, ◌+◌, ◌^◌, ◌≤◌, ◌<◌, Bool, List, [], ◌∷◌, ◌++◌, length, drop, Option, Some, None, Result, Ok, Err, ⊤}
use Rattle.sf_tick.specs.declared.types.Setup.{Setup}
use Rattle.sf_world.specs.Counts.{Rose}
use Rattle.sf_world.specs.Views.{SourceView}
use Rattle.sf_coded.specs.declared.types.CodedFault.{CodedFault}
use Rattle.sf_coded.specs.declared.types.CodedFault.TheVariants.{ReadFault, NoMemory}
use Rattle.sf_coded.specs.declared.types.CodedSample.{CodedSample}
use Rattle.sf_coded.specs.declared.fields.Record.{Record}
use Rattle.sf_coded.specs.declared.fields.Turn.TheVariants.{End, Next}
use Rattle.sf_coded.specs.CodedFile.{record_in, sample_of, records_at, file_of, coded}

-- A coded file that is read: its setup, the place of the next record, whether its end was told, and what its source shows.
pub record Progress : Type 0 where
  pub setup : Setup
  pub place : ℕ
  pub is_over : Bool
  pub source : SourceView

-- A source over a reading: it is as it was, but its count of faults may be greater, and rose at a read fault.
pub record ReadOn {T : Type 0} (before after : SourceView) (result : Result T CodedFault) : Type 0 where
  pub content : after.content ≡ before.content
  pub size : after.size ≡ before.size
  pub later : before.faults ≤ after.faults
  pub failed : result ≡ Err ReadFault → Rose before.faults after.faults

-- an answer is what the record at the front of the rest says, unless it tells of the outside or of memory
abbrev pub NextIs : ℕ → List ℕ → Result (Option CodedSample) CodedFault → Type 0
NextIs at rest (Ok (Some s)) = (r : Record) × (record_in at (length rest) rest ≡ Ok (Next r)) × (s ≡ sample_of at rest r)
NextIs at rest (Ok None) = record_in at (length rest) rest ≡ Ok End
NextIs at rest (Err ReadFault) = ⊤
NextIs at rest (Err NoMemory) = ⊤
NextIs at rest (Err f) = record_in at (length rest) rest ≡ Err f

-- an answer is what the record at a place of a file says, where the bytes are told
abbrev pub NextTold : Option (List ℕ) → ℕ → Result (Option CodedSample) CodedFault → Type 0
NextTold None at result = ⊤
NextTold (Some bytes) at result = NextIs at (drop at bytes) result

-- the samples so far, and then what the rest from a place on says, are what the file says, where its bytes are told
abbrev pub Stands : Option (List ℕ) → Setup → List CodedSample → ℕ → Type 0
Stands None setup samples place = ⊤
Stands (Some bytes) setup samples place = coded bytes ≡ file_of setup samples (records_at place (drop place bytes))

-- these samples were read of a file so far
abbrev pub HasRead : List CodedSample → Progress → Type 0
HasRead samples file = Stands file.source.content file.setup samples file.place

-- these are all samples of the file, and it ends so, where its bytes are told
abbrev pub EndsSo : Option (List ℕ) → Setup → List CodedSample → Option CodedFault → Type 0
EndsSo None setup samples end = ⊤
EndsSo (Some bytes) setup samples end = coded bytes ≡ record { setup = Some setup; samples = samples; end = end }

-- what an answer makes of the samples so far
abbrev pub Follows : Option (List ℕ) → Setup → List CodedSample → ℕ → Result (Option CodedSample) CodedFault → Type 0
Follows contents setup samples place (Ok (Some s)) = Stands contents setup (samples ++ s ∷ []) place
Follows contents setup samples place (Ok None) = EndsSo contents setup samples None
Follows contents setup samples place (Err ReadFault) = Stands contents setup samples place
Follows contents setup samples place (Err NoMemory) = Stands contents setup samples place
Follows contents setup samples place (Err f) = EndsSo contents setup samples (Some f)

-- A sample that was read at a place of any source: it lies within the source, and the next record stands after it.
pub record SampleAt (place size next : ℕ) (s : CodedSample) : Type 0 where
  pub at : s.at ≡ place
  pub some : 1 ≤ length s.sample.bytes
  pub bound : length s.sample.bytes ≤ 16777216
  pub behind : next ≡ place + (22 + length s.sample.bytes)
  pub within : next ≤ size
  pub fits : next < 2 ^ 64

-- where an answer leaves the place of the next record, for any source
abbrev pub Moves : ℕ → ℕ → ℕ → Result (Option CodedSample) CodedFault → Type 0
Moves place size next (Ok (Some s)) = SampleAt place size next s
Moves place size next (Ok None) = next ≡ place
Moves place size next (Err f) = next ≡ place

-- the header of a file is refused so, where its bytes are told
abbrev pub Refuses : Option (List ℕ) → CodedFault → Type 0
Refuses None f = ⊤
Refuses (Some bytes) f = coded bytes ≡ record { setup = None; samples = []; end = Some f }

-- an answer refuses the header so, unless it tells of the outside or of memory
abbrev pub RefusesBy : Option (List ℕ) → CodedFault → Type 0
RefusesBy contents ReadFault = ⊤
RefusesBy contents NoMemory = ⊤
RefusesBy contents f = Refuses contents f

-- the end of the records stands at a place, where the bytes are told
abbrev pub OverAt : Option (List ℕ) → ℕ → Type 0
OverAt None place = ⊤
OverAt (Some bytes) place = record_in place (length (drop place bytes)) (drop place bytes) ≡ Ok End
