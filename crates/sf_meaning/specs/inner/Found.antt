-- Boxes and answers as the code holds them.
use Rattle.std.specs.Prelude.{◌≡◌, ℕ, false, List, map, Option, Some, None, Result, Ok, Err}
use Rattle.sf_box.specs.Boxes.{Piece, boxes}
use Rattle.sf_box.specs.declared.types.BoxFault.TheVariants as boxes_of
use Rattle.sf_box.specs.declared.types.ChildrenFault.{ChildrenFault}
use Rattle.sf_box.specs.declared.types.ChildrenFault.TheVariants as children
use Rattle.sf_meaning.specs.declared.found.Found.{Found}

-- a found box as a box
abbrev pub piece : Found → Piece
piece f = record { head = f.head; body = f.body.now }

abbrev pub pieces : List Found → List Piece
pieces fs = map piece fs

abbrev pub maybe_piece : Option Found → Option Piece
maybe_piece None = None
maybe_piece (Some f) = Some (piece f)

-- the boxes that tile bytes from a place on, or the first fault, or want of memory
abbrev pub GivesBoxes : ℕ → List ℕ → Result (List Found) ChildrenFault → Type 0
GivesBoxes at bytes (Ok fs) = boxes false at bytes ≡ Ok (pieces fs)
GivesBoxes at bytes (Err (children.Short place)) = boxes false at bytes ≡ Err (boxes_of.Short place)
GivesBoxes at bytes (Err (children.Overrun place size)) = boxes false at bytes ≡ Err (boxes_of.Overrun place size)
GivesBoxes at bytes (Err children.NoMemory) = Unit {0}
