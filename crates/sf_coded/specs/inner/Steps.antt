-- What the parts of a reading answer: the fields of the header, its setup, and the turn at a place of the records.
use Rattle.std.specs.Prelude.{◌≡◌, ℕ, ◌+◌, ◌^◌, ◌≤◌, ◌<◌, List, length, drop, Option, Some, None, Result, Ok, Err, ⊤}
use Rattle.sf_tick.specs.declared.types.Setup.{Setup}
use Rattle.sf_coded.specs.declared.types.CodedFault.{CodedFault}
use Rattle.sf_coded.specs.declared.types.CodedFault.TheVariants.{ReadFault, NoMemory}
use Rattle.sf_coded.specs.declared.fields.Header.{Header}
use Rattle.sf_coded.specs.declared.fields.Record.{Record}
use Rattle.sf_coded.specs.declared.fields.Turn.{Turn}
use Rattle.sf_coded.specs.declared.fields.Turn.TheVariants.{End, Next}
use Rattle.sf_coded.specs.CodedFile.{header_in, setup_of, record_in}

-- an answer is the turn that stands at the front of the rest, unless it tells of the outside or of memory
abbrev pub TurnIs : ℕ → List ℕ → Result Turn CodedFault → Type 0
TurnIs at rest (Ok turn) = record_in at (length rest) rest ≡ Ok turn
TurnIs at rest (Err ReadFault) = ⊤
TurnIs at rest (Err NoMemory) = ⊤
TurnIs at rest (Err f) = record_in at (length rest) rest ≡ Err f

-- an answer is the turn at a place of a file, where the bytes are told
abbrev pub TurnTold : Option (List ℕ) → ℕ → Result Turn CodedFault → Type 0
TurnTold None at result = ⊤
TurnTold (Some bytes) at result = TurnIs at (drop at bytes) result

-- an answer is the fields of the header of a file, unless it tells of the outside or of memory
abbrev pub HeaderIs : List ℕ → Result Header CodedFault → Type 0
HeaderIs bytes (Ok h) = header_in (length bytes) bytes ≡ Ok h
HeaderIs bytes (Err ReadFault) = ⊤
HeaderIs bytes (Err NoMemory) = ⊤
HeaderIs bytes (Err f) = header_in (length bytes) bytes ≡ Err f

-- an answer is the fields of the header, where the bytes of the file are told
abbrev pub HeaderTold : Option (List ℕ) → Result Header CodedFault → Type 0
HeaderTold None result = ⊤
HeaderTold (Some bytes) result = HeaderIs bytes result

-- an answer is the setup that the header of a file states, unless it tells of the outside or of memory
abbrev pub SetupIs : List ℕ → Result Setup CodedFault → Type 0
SetupIs bytes (Ok setup) =
    (h : Header) × (header_in (length bytes) bytes ≡ Ok h) × (setup ≡ setup_of bytes h) × (length setup.config ≡ h.config_len)
SetupIs bytes (Err ReadFault) = ⊤
SetupIs bytes (Err NoMemory) = ⊤
SetupIs bytes (Err f) = header_in (length bytes) bytes ≡ Err f

-- an answer is the setup of the header, where the bytes of the file are told
abbrev pub SetupTold : Option (List ℕ) → Result Setup CodedFault → Type 0
SetupTold None result = ⊤
SetupTold (Some bytes) result = SetupIs bytes result

-- A record lies within the source, and its payload is neither empty nor too long.
pub record RecordFits (at size : ℕ) (r : Record) : Type 0 where
  pub some : 1 ≤ r.len
  pub bound : r.len ≤ 16777216
  pub within : at + (22 + r.len) ≤ size
  pub fits : at + (22 + r.len) < 2 ^ 64

-- the record of a turn lies within the source
abbrev pub TurnFits : ℕ → ℕ → Turn → Type 0
TurnFits at size End = ⊤
TurnFits at size (Next r) = RecordFits at size r

-- The configuration of a header isn't too long, and lies within the source.
pub record HeaderFits (size : ℕ) (h : Header) : Type 0 where
  pub bound : h.config_len ≤ 65536
  pub within : 22 + h.config_len ≤ size

-- The configuration of a setup isn't too long, and lies within the source.
pub record SetupFits (size : ℕ) (setup : Setup) : Type 0 where
  pub bound : length setup.config ≤ 65536
  pub within : 22 + length setup.config ≤ size
