-- Boxes by type and body, and the bytes that they make.
use Rattle.std.specs.Prelude.{◌≡◌, ℕ, ◌+◌, ◌-◌, ◌^◌, ◌<◌, Bool, if◌then◌else◌, List, [], ◌∷◌, ◌++◌, length, map, Option, Some, None, Result, Ok, Err}
use Rattle.std.specs.Str.{bytes_eq}
use Rattle.sf_box.specs.declared.types.BoxFault.{BoxFault}
use Rattle.sf_box.specs.Boxes.{Piece, box_of, boxes}

-- a type, and a body
abbrev pub Part : Type 0
Part = List ℕ × List ℕ

-- a box without its place
abbrev pub part_of : Piece → Part
part_of p = (p.head.kind.0, p.body)

-- boxes that were read without their places
abbrev pub parts_from : Result (List Piece) BoxFault → Option (List Part)
parts_from (Ok ps) = Some (map part_of ps)
parts_from (Err e) = None

-- the boxes that tile the bytes, where they do
unfoldable pub parts : Bool → List ℕ → Option (List Part)
parts top bytes = parts_from (boxes top 0 bytes)

-- the bytes of boxes that stand one after the other
unfoldable pub tiled : List Part → List ℕ
tiled [] = []
tiled (p ∷ ps) = box_of p.0 p.1 ++ tiled ps

-- boxes that stand one after the other from a place on
abbrev pub laid : ℕ → List Part → List Piece
laid at [] = []
laid at (p ∷ ps) =
    record { head = record { kind = record { 0 = p.0 }; at = at; head = 8; size = 8 + length p.1 }; body = p.1 }
    ∷ laid (at + (8 + length p.1)) ps

-- the first body of a type
abbrev pub child : List Part → List ℕ → Option (List ℕ)
child [] kind = None
child (p ∷ ps) kind = if bytes_eq p.0 kind then Some p.1 else child ps kind

-- the first box of a type
abbrev pub child_piece : List Piece → List ℕ → Option Piece
child_piece [] kind = None
child_piece (p ∷ ps) kind = if bytes_eq p.head.kind.0 kind then Some p else child_piece ps kind

-- what has a box with a size of four bytes
pub record Fits (p : Part) : Type 0 where
  pub kind : length p.0 ≡ 4
  pub body : length p.1 < 2 ^ 32 - 8
