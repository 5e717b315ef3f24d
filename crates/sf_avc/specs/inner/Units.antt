-- What the steps of a walk along the units of a payload answer.
use Rattle.std.specs.Prelude.{◌≡◌, ℕ, ◌+◌, ◌≤◌, ◌<◌, List, [], ◌∷◌, length, take, drop, Option, Some, None, Result, Ok, ⊤}
use Rattle.sf_avc.specs.declared.nal.Unit.{Unit}
use Rattle.sf_avc.specs.declared.nal.NalFault.{NalFault}
use Rattle.sf_avc.specs.declared.nal.NalFault.TheVariants.{EmptyUnit}
use Rattle.sf_avc.specs.Units.{Nal, pieces, trimmed, with_unit, units_of, unit_at, Within, HasBytes}

-- where the first 00 00 01 stands
abbrev pub CutsAt : List ℕ → Option ℕ → Type 0
CutsAt bytes None = pieces bytes ≡ bytes ∷ []
CutsAt bytes (Some at) = (at + 3 ≤ length bytes) × (pieces bytes ≡ take at bytes ∷ pieces (drop (at + 3) bytes))

-- A unit is a piece without the zero bytes at its end.
pub record UnitIn (at : ℕ) (piece : List ℕ) (u : Unit) : Type 0 where
  pub place : u.at ≡ at
  pub some : 1 ≤ u.len
  pub whole : u.len ≤ length piece
  pub is : trimmed piece ≡ take u.len piece

-- A piece has no bytes but zero bytes.
pub record NoUnitIn (at : ℕ) (piece : List ℕ) (f : NalFault) : Type 0 where
  pub none : trimmed piece ≡ []
  pub is : f ≡ EmptyUnit at

-- the units of what lies after a start code
abbrev pub units_from : List ℕ → ℕ → Result (List Nal) NalFault
units_from payload at = units_of at (pieces (drop at payload))

-- the units after the next start code, where there is one
abbrev pub units_next : List ℕ → Option ℕ → Result (List Nal) NalFault
units_next payload None = Ok []
units_next payload (Some at) = units_from payload at

-- a place after a start code, later than this one
abbrev pub Later : List ℕ → ℕ → Option ℕ → Type 0
Later payload at None = ⊤
Later payload at (Some next) = (at < next) × (next ≤ length payload)

-- What is known of the first unit after a place, and of the place after the start code that ends it.
pub record NextUnit (payload : List ℕ) (at : ℕ) (u : Unit) (next : Option ℕ) : Type 0 where
  pub is : units_from payload at ≡ with_unit (unit_at payload u) (units_next payload next)
  pub within : Within payload u
  pub some : HasBytes u
  pub later : Later payload at next
