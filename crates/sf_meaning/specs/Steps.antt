-- Steps that may fail, and boxes by their types.
use Rattle.std.specs.Prelude.{ℕ, List, [], ◌∷◌, ◌+◌, Option, Some, None}
use Rattle.std.specs.Str.{bytes_eq}
use Rattle.std.specs.List.{filter}
use Rattle.sf_box.specs.Boxes.{Piece}
use Rattle.sf_box.specs.declared.types.BoxHead.{BoxHead}
use Rattle.sf_box.specs.declared.types.FourCc.{FourCc}
pub use Rattle.sf_entry.specs.Steps.{◌>>=◌, ◌>>◌, check, needed, as_fault}

-- the boxes of a type, in order
abbrev pub of_kind : List ℕ → List Piece → List Piece
of_kind kind ps = filter (λ p. bytes_eq p.head.kind.0 kind) ps

abbrev pub first_of : List Piece → Option Piece
first_of [] = None
first_of (p ∷ ps) = Some p

-- where the body of a box begins
abbrev pub body_at : Piece → ℕ
body_at p = p.head.at + p.head.head

abbrev pub four : List ℕ → FourCc
four kind = record { 0 = kind }

-- the box of a head and a body
abbrev pub boxed : BoxHead → List ℕ → Piece
boxed head body = record { head = head; body = body }
