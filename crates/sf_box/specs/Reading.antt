-- What the calls that read boxes answer.
use Rattle.std.specs.Prelude.{◌≡◌, ℕ, ◌+◌, ◌-◌, ◌≤◌, false, List, [], ◌∷◌, length, drop, map, Option, Some, None, Result, Ok, Err, if◌then◌else◌, ⊤}
use Rattle.std.specs.Str.{bytes_eq}
use Rattle.sf_box.specs.declared.types.BoxHead.{BoxHead}
use Rattle.sf_box.specs.declared.types.ChildrenFault.{ChildrenFault}
use Rattle.sf_box.specs.declared.types.ChildrenFault.TheVariants.{Short, Overrun, NoMemory}
use Rattle.sf_box.specs.declared.types.BoxFault.TheVariants.{Short as FaultShort, Overrun as FaultOverrun}
use Rattle.sf_box.specs.Boxes.{Piece, piece_of, boxes}
use Rattle.sf_box.specs.Parts.{child_piece}

-- the box of a head in bytes whose places count from the base
abbrev pub piece_at : ℕ → List ℕ → BoxHead → Piece
piece_at base bytes h = piece_of h (drop (h.at - base) bytes)

-- the boxes of heads
abbrev pub pieces_at : ℕ → List ℕ → List BoxHead → List Piece
pieces_at base bytes heads = map (piece_at base bytes) heads

-- A box lies within the bytes, whose places count from the base.
pub record Within (base : ℕ) (bytes : List ℕ) (h : BoxHead) : Type 0 where
  pub begins : base ≤ h.at
  pub ends : h.at + h.size ≤ base + length bytes
  pub head : h.head ≤ h.size
  pub least : 8 ≤ h.head

-- the heads of the boxes that tile the bytes, or the first fault, or want of memory
abbrev pub AreHeads : ℕ → List ℕ → Result (List BoxHead) ChildrenFault → Type 0
AreHeads base bytes (Ok heads) = boxes false base bytes ≡ Ok (pieces_at base bytes heads)
AreHeads base bytes (Err (Short at)) = boxes false base bytes ≡ Err (FaultShort at)
AreHeads base bytes (Err (Overrun at size)) = boxes false base bytes ≡ Err (FaultOverrun at size)
AreHeads base bytes (Err NoMemory) = ⊤

-- the first head of a type
abbrev pub first_head : List BoxHead → List ℕ → Option BoxHead
first_head [] kind = None
first_head (h ∷ hs) kind = if bytes_eq h.kind.0 kind then Some h else first_head hs kind

-- the box of a head that was found
abbrev pub piece_found : ℕ → List ℕ → Option BoxHead → Option Piece
piece_found base bytes None = None
piece_found base bytes (Some h) = Some (piece_at base bytes h)

-- In any bytes the head that was found is that of the first box of a type.
abbrev pub FindsPiece : List BoxHead → List ℕ → Option BoxHead → Type 0
FindsPiece heads kind found = (base : ℕ) (bytes : List ℕ) → child_piece (pieces_at base bytes heads) kind ≡ piece_found base bytes found
