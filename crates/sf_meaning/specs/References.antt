-- Data references: whether the samples lie in this very file (8.7.1, 8.7.2).
use Rattle.std.specs.Prelude.{ℕ, zero, suc, ◌+◌, ◌%◌, ◌==◌, nat_le, Bool, false, not, List, [], ◌∷◌, length, drop, map, codes, Option, Some, None, Ok}
use Rattle.std.specs.List.{slice_get}
use Rattle.sf_box.specs.Boxes.{Piece, boxes, word32}
use Rattle.sf_box.specs.Parts.{child_piece}
use Rattle.sf_meaning.specs.Steps.{◌>>=◌, ◌>>◌, check, as_fault, body_at}
use Rattle.sf_meaning.specs.Headers.{Head, inside, short_head}
use Rattle.sf_meaning.specs.declared.faults.HeadFault.TheVariants.{Tiling}

-- each data reference has its flags
abbrev pub flagged : List Piece → Head (Unit {0})
flagged [] = Ok tt
flagged (p ∷ ps) = do
  check (nat_le 4 (length p.body)) (short_head p)
  flagged ps

-- whether a data reference names this very file: flag 1
abbrev pub is_own : Piece → Bool
is_own p = word32 p.body % 2 == 1

-- for each data reference, whether it names this very file
unfoldable pub own_files : List Piece → Head (List Bool)
own_files entries = do
  flagged entries
  Ok (map is_own entries)

-- The same of a data reference box: its references tile the body after version, flags and a count, which isn't looked at.
unfoldable pub references_in : Piece → Head (List Bool)
references_in dref = do
  check (nat_le 8 (length dref.body)) (short_head dref)
  entries ← as_fault Tiling (boxes false (body_at dref + 8) (drop 8 dref.body))
  own_files entries

abbrev pub references_by : Option Piece → Head (List Bool)
references_by None = Ok []
references_by (Some dref) = references_in dref

-- the same of a data information box, by the first data reference box in it; none without one
unfoldable pub references_of : Option Piece → Head (List Bool)
references_of None = Ok []
references_of (Some dinf) = do
  ps ← inside dinf
  references_by (child_piece ps (codes "dref"))

-- a reference that isn't there names no other file
abbrev pub is_other : Option Bool → Bool
is_other None = false
is_other (Some own) = not own

-- whether the reference of a number, from 1, names another file
abbrev pub names_other : List Bool → ℕ → Bool
names_other own zero = false
names_other own (suc i) = is_other (slice_get own i)
