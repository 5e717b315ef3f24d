-- The movie boxes that a walk along the boxes of a file meets.
use Rattle.std.specs.Prelude.{◌≡◌, ℕ, ◌+◌, ◌≤◌, List, [], ◌∷◌, length, drop, codes, Result, Ok, Err}
use Rattle.sf_box.specs.Boxes.{Piece, piece_of}
use Rattle.sf_box.specs.declared.types.BoxHead.{BoxHead}
use Rattle.sf_meaning.specs.Steps.{◌>>=◌, of_kind}
use Rattle.sf_meaning.specs.Movie.{Step, only_moov, top_boxes}
use Rattle.sf_meaning.specs.declared.faults.MovieFault.{MovieFault}
use Rattle.sf_movie.specs.declared.load.LoadFault.{LoadFault}
use Rattle.sf_movie.specs.declared.load.LoadFault.TheVariants.{Refused, ReadFault, NoMemory}
use Rattle.sf_movie.specs.declared.walk.Moovs.{Moovs}
use Rattle.sf_movie.specs.declared.walk.Moovs.TheVariants.{Nothing, One, Several}

-- the box of a head in a file
abbrev pub box_at : BoxHead → List ℕ → Piece
box_at h file = piece_of h (drop h.at file)

-- the only movie box of a file
unfoldable pub moov_of : List ℕ → Step Piece
moov_of file = do
  ps ← top_boxes file
  only_moov (length file) (of_kind (codes "moov") ps)

-- A box lies within a file of so many bytes.
pub record Fits (end : ℕ) (h : BoxHead) : Type 0 where
  pub ends : h.at + h.size ≤ end
  pub head : h.head ≤ h.size
  pub least : 8 ≤ h.head

-- Boxes are two or more, and the second one stands at a place.
pub record AreSeveral (ps : List Piece) (second : ℕ) : Type 0 where
  pub first : Piece
  pub next : Piece
  pub more : List Piece
  pub are : ps ≡ first ∷ next ∷ more
  pub place : next.head.at ≡ second

-- these are the movie boxes of a file
abbrev pub Holds : List ℕ → Moovs → List Piece → Type 0
Holds file Nothing ps = ps ≡ []
Holds file (One head) ps = ps ≡ box_at head file ∷ []
Holds file (Several second) ps = AreSeveral ps second

-- an only movie box lies within a file of so many bytes
abbrev pub OneFits : ℕ → Moovs → Type 0
OneFits end Nothing = Unit {0}
OneFits end (One head) = Fits end head
OneFits end (Several second) = Unit {0}

-- what a walk along all boxes of a file met, or the first fault of these boxes
abbrev pub Meets : List ℕ → Result Moovs LoadFault → Type 0
Meets file (Ok moovs) = (ps : List Piece) × (top_boxes file ≡ Ok ps) × Holds file moovs (of_kind (codes "moov") ps)
Meets file (Err (Refused fault)) = top_boxes file ≡ Err fault
Meets file (Err ReadFault) = Unit {0}
Meets file (Err NoMemory) = Unit {0}

-- the only one of the movie boxes of a file of so many bytes
abbrev pub IsOnly : ℕ → List ℕ → List Piece → Result BoxHead MovieFault → Type 0
IsOnly end file ps (Ok head) = only_moov end ps ≡ Ok (box_at head file)
IsOnly end file ps (Err fault) = only_moov end ps ≡ Err fault
