-- NAL units of a payload with start codes (ISO/IEC 14496-10, Annex B).
use Rattle.std.specs.Prelude.{◌≡◌, ℕ, ◌+◌, ◌≤◌, Bool, ◌&&◌, ◌==◌, if◌then◌else◌, List, [], ◌∷◌, ◌++◌, length, take, drop, map, Result, Ok, Err, ⊤}
use Rattle.std.specs.List.{list_all, flat_map}
use Rattle.sf_avc.specs.declared.nal.Unit.{Unit}
use Rattle.sf_avc.specs.declared.nal.NalFault.{NalFault}
use Rattle.sf_avc.specs.declared.nal.NalFault.TheVariants.{NoStart, EmptyUnit, NoMemory}

-- A unit: the place of its first byte in the payload, and its bytes.
pub record Nal : Type 0 where
  pub at : ℕ
  pub bytes : List ℕ

-- whether three bytes are 00 00 01
abbrev pub is_code : ℕ → ℕ → ℕ → Bool
is_code a b c = a == 0 && (b == 0 && c == 1)

-- pieces, with one byte more in front of the first
abbrev pub longer : ℕ → List (List ℕ) → List (List ℕ)
longer a [] = []
longer a (p ∷ ps) = (a ∷ p) ∷ ps

-- the bytes, cut at each 00 00 01: what lies in front of the first one, and what lies after each
unfoldable pub pieces : List ℕ → List (List ℕ)
pieces [] = [] ∷ []
pieces (a ∷ []) = (a ∷ []) ∷ []
pieces (a ∷ b ∷ []) = (a ∷ b ∷ []) ∷ []
pieces (a ∷ b ∷ c ∷ rest) = if is_code a b c then [] ∷ pieces rest else longer a (pieces (b ∷ c ∷ rest))

-- a byte in front of bytes without zero bytes at their end
abbrev pub kept_before : ℕ → List ℕ → List ℕ
kept_before a [] = if a == 0 then [] else a ∷ []
kept_before a (b ∷ rest) = a ∷ b ∷ rest

-- the bytes without the zero bytes at their end
unfoldable pub trimmed : List ℕ → List ℕ
trimmed [] = []
trimmed (a ∷ rest) = kept_before a (trimmed rest)

-- units, with one more in front
abbrev pub with_unit : {E : Type 0} → Nal → Result (List Nal) E → Result (List Nal) E
with_unit u (Ok us) = Ok (u ∷ us)
with_unit u (Err f) = Err f

-- the unit of these bytes in front of others. A unit without bytes is refused.
abbrev pub unit_before : ℕ → List ℕ → Result (List Nal) NalFault → Result (List Nal) NalFault
unit_before at [] others = Err (EmptyUnit at)
unit_before at (a ∷ rest) others = with_unit (record { at = at; bytes = a ∷ rest }) others

-- the units of pieces, each a start code of three bytes after the one before, or the first refusal
unfoldable pub units_of : ℕ → List (List ℕ) → Result (List Nal) NalFault
units_of at [] = Ok []
units_of at (p ∷ ps) = unit_before at (trimmed p) (units_of (at + length p + 3) ps)

-- the units of a payload's pieces: nothing but zero bytes lies in front of the first start code
abbrev pub after_start : List (List ℕ) → Result (List Nal) NalFault
after_start [] = Err NoStart
after_start (p ∷ []) = Err NoStart
after_start (p ∷ q ∷ ps) = if list_all (λ b. b == 0) p then units_of (length p + 3) (q ∷ ps) else Err NoStart

-- the units of a payload, or its first refusal
unfoldable pub nals : List ℕ → Result (List Nal) NalFault
nals payload = after_start (pieces payload)

-- the unit that lies at a place of a payload
abbrev pub unit_at : List ℕ → Unit → Nal
unit_at payload u = record { at = u.at; bytes = take u.len (drop u.at payload) }

-- a unit lies within a payload
abbrev pub Within : List ℕ → Unit → Type 0
Within payload u = u.at + u.len ≤ length payload

-- a unit has bytes
abbrev pub HasBytes : Unit → Type 0
HasBytes u = 1 ≤ u.len

-- the units of a payload, or its first refusal, or want of memory
abbrev pub AreUnits : List ℕ → Result (List Unit) NalFault → Type 0
AreUnits payload (Ok units) = nals payload ≡ Ok (map (unit_at payload) units)
AreUnits payload (Err NoStart) = nals payload ≡ Err NoStart
AreUnits payload (Err (EmptyUnit at)) = nals payload ≡ Err (EmptyUnit at)
AreUnits payload (Err NoMemory) = ⊤

-- a unit after a start code of four bytes
abbrev pub after_code : Nal → List ℕ
after_code u = (0 ∷ 0 ∷ 0 ∷ 1 ∷ []) ++ u.bytes

-- units, each after a start code
abbrev pub with_codes : List Nal → List ℕ
with_codes units = flat_map after_code units
