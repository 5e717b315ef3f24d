-- Units that are written and read back.
use Rattle.std.specs.Prelude.{◌≢◌, ℕ, ◌+◌, ◌^◌, ◌≤◌, ◌<◌, List, [], ◌∷◌, ◌++◌, length}
use Rattle.sf_avc.specs.Units.{Nal}

-- A unit that can stand after a start code: it has bytes, no 00 00 01 in it, and no zero byte at its end.
pub record Proper (u : Nal) : Type 0 where
  pub some : 1 ≤ length u.bytes
  pub no_code : (front after : List ℕ) → u.bytes ≢ front ++ 0 ∷ 0 ∷ 1 ∷ after
  pub no_zero : (front : List ℕ) → u.bytes ≢ front ++ 0 ∷ []

-- the length of a unit has room in four bytes
abbrev pub IsShort : Nal → Type 0
IsShort u = length u.bytes < 2 ^ 32

-- units at their places, each after four bytes
abbrev pub placed : ℕ → List Nal → List Nal
placed at [] = []
placed at (u ∷ us) = record { at = at + 4; bytes = u.bytes } ∷ placed (at + 4 + length u.bytes) us
