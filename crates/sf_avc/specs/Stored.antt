-- NAL units after their lengths, as a file stores them (ISO/IEC 14496-15, 5.3.4.2).
use Rattle.std.specs.Prelude.{ℕ, ◌^◌, ◌<◌, List, ◌++◌, length, Result, Ok, Err}
use Rattle.std.specs.List.{flat_map}
use Rattle.sf_box.specs.Boxes.{be32}
use Rattle.sf_avc.specs.declared.nal.Unit.{Unit}
use Rattle.sf_avc.specs.declared.nal.NalFault.{NalFault}
use Rattle.sf_avc.specs.Units.{Nal, nals}

-- a unit after its length in four bytes
unfoldable pub after_length : Nal → List ℕ
after_length u = be32 (length u.bytes) ++ u.bytes

-- units, each after its length
abbrev pub prefixed : List Nal → List ℕ
prefixed units = flat_map after_length units

-- what is stored of the units of a payload, or its first refusal
abbrev pub stored_units : Result (List Nal) NalFault → Result (List ℕ) NalFault
stored_units (Ok units) = Ok (prefixed units)
stored_units (Err f) = Err f

-- what is stored of a payload
unfoldable pub stored : List ℕ → Result (List ℕ) NalFault
stored payload = stored_units (nals payload)

-- the length of a unit has room in four bytes
abbrev pub FitsFour : Unit → Type 0
FitsFour u = u.len < 2 ^ 32
