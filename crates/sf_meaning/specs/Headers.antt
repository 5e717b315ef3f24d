-- The headers of a movie and of its media: their boxes, their timescale, and the start of a file.
use Rattle.std.specs.Prelude.{ℕ, ◌+◌, ◌==◌, nat_lt, nat_le, Bool, false, not, if◌then◌else◌, List, length, drop, get_or, codes, Option, Some, None, Result, Ok}
use Rattle.sf_box.specs.Boxes.{Piece, boxes, leading, word32, word64}
use Rattle.sf_box.specs.Parts.{child_piece}
use Rattle.sf_meaning.specs.Steps.{◌>>◌, check, needed, as_fault, body_at, four}
use Rattle.sf_meaning.specs.declared.faults.HeadFault.{HeadFault}
use Rattle.sf_meaning.specs.declared.faults.HeadFault.TheVariants.{Missing, Short, Scale0, Tiling}

-- a step of reading headers: its value, or the first thing that is wrong
abbrev pub Head : Type 0 → Type 0
Head A = Result A HeadFault

-- the boxes inside a box of the headers
unfoldable pub inside : Piece → Head (List Piece)
inside p = as_fault Tiling (boxes false (body_at p) p.body)

-- the first box of a type, which must stand among the boxes of a holder whose body begins at a place
abbrev pub needed_in : ℕ → List ℕ → List Piece → Head Piece
needed_in at kind ps = needed (child_piece ps kind) (Missing (four kind) at)

-- a box of the headers whose body ends before what is needed
abbrev pub short_head : Piece → HeadFault
short_head p = Short p.head.kind p.head.at

-- whether a box has version 1, in which times have eight bytes; every other version is read as 0
abbrev pub is_wide : List ℕ → Bool
is_wide body = get_or body 0 0 == 1

-- where the timescale stands in the body of a movie header or a media header: after version, flags and two times (8.2.2, 8.4.2)
abbrev pub scale_place : List ℕ → ℕ
scale_place body = if is_wide body then 20 else 12

-- ticks a second, by a movie header or a media header
unfoldable pub timescale_in : Piece → Head ℕ
timescale_in p = do
  check (nat_le (scale_place p.body + 4) (length p.body)) (short_head p)
  check (not (word32 (drop (scale_place p.body) p.body) == 0)) (Scale0 p.head.at)
  Ok (word32 (drop (scale_place p.body) p.body))

-- the start that the first sfts says: 0 where there is none, or where it is too short
abbrev pub start_said : Option Piece → ℕ
start_said None = 0
start_said (Some p) = if nat_lt (length p.body) 8 then 0 else word64 p.body

-- When the file starts, in microseconds after the series' start, by the user data (8.10.1). The box sfts is this project's
-- own. It is looked for up to the first place that is no whole box.
abbrev pub start_in : Option Piece → ℕ
start_in None = 0
start_in (Some udta) = start_said (child_piece (leading (body_at udta) udta.body) (codes "sfts"))
