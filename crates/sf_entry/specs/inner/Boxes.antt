-- Boxes by the bytes in which they stand.
use Rattle.std.specs.Prelude.{ℕ, List}
use Rattle.sf_box.specs.declared.types.BoxHead.{BoxHead}
use Rattle.sf_box.specs.Boxes.{Piece}

-- the box of a head and a body
abbrev pub boxed : BoxHead → List ℕ → Piece
boxed head body = record { head = head; body = body }
