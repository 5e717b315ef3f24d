-- The tables of a track but for its sizes, each as its box says it (8.6.1, 8.6.2, 8.7.4, 8.7.5).
use Rattle.std.specs.Prelude.{ℕ, ◌+◌, ◌*◌, ◌==◌, nat_le, Bool, true, false, ◌&&◌, if◌then◌else◌, List, [], ◌∷◌, length, drop, map, get_or, codes, Option, Some, None, Result, Ok}
use Rattle.std.specs.Option.{option_or}
use Rattle.std.specs.Str.{bytes_eq}
use Rattle.sf_box.specs.Boxes.{Piece, boxes}
use Rattle.sf_box.specs.Parts.{child_piece}
use Rattle.sf_meaning.specs.Steps.{◌>>=◌, ◌>>◌, check, needed, as_fault, body_at, four}
use Rattle.sf_meaning.specs.Tables.{Spread, run_pairs, rising, count_in, spreads_in, places_in, sync_numbers_in}
use Rattle.sf_meaning.specs.declared.faults.TableFault.{TableFault}
use Rattle.sf_meaning.specs.declared.faults.TableFault.TheVariants.{Missing, Short, NotRising, Tiling}

-- a step of reading tables: its value, or the first thing that is wrong
abbrev pub Table : Type 0 → Type 0
Table A = Result A TableFault

-- the boxes inside a sample table box (8.5.1)
unfoldable pub in_stbl : Piece → Table (List Piece)
in_stbl stbl = as_fault Tiling (boxes false (body_at stbl) stbl.body)

-- the first box of a type, which must stand among the boxes of a holder whose body begins at a place
abbrev pub needed_table : ℕ → List ℕ → List Piece → Table Piece
needed_table at kind ps = needed (child_piece ps kind) (Missing (four kind) at)

-- a table that ends before what it counts, or before the last sample
abbrev pub short_table : Piece → TableFault
short_table p = Short p.head.kind p.head.at

-- a table holds its count, and as many entries of so many bytes
unfoldable pub counted : ℕ → Piece → Table (Unit {0})
counted width p = check (nat_le 8 (length p.body) && nat_le (8 + width * count_in p.body) (length p.body)) (short_table p)

-- runs of a count and a value: of deltas (8.6.1.2), or of offsets (8.6.1.3)
unfoldable pub runs_told : Piece → Table (List (ℕ × ℕ))
runs_told p = do
  counted 8 p
  Ok (run_pairs (count_in p.body) (drop 8 p.body))

-- composition offsets, from decode times to composition times: the version, which tells how they are read, and their runs
unfoldable pub offset_runs_told : Piece → Table (ℕ × List (ℕ × ℕ))
offset_runs_told p = do
  runs ← runs_told p
  Ok (get_or p.body 0 0, runs)

-- the same where there is such a box, and else no offsets
abbrev pub offsets_told : Option Piece → Table (ℕ × List (ℕ × ℕ))
offsets_told None = Ok (0, [])
offsets_told (Some p) = offset_runs_told p

-- the entries begin with chunk 1, and each begins after the one before
abbrev pub begins_rising : List Spread → Bool
begins_rising [] = true
begins_rising (e ∷ es) = e.first == 1 && rising 1 (map (λ f. f.first) es)

-- how many samples the chunks have, and their descriptions (8.7.4)
unfoldable pub spreads_told : Piece → Table (List Spread)
spreads_told p = do
  counted 12 p
  check (begins_rising (spreads_in p.body)) (NotRising p.head.kind p.head.at)
  Ok (spreads_in p.body)

-- whether the places of the chunks have eight bytes
abbrev pub is_co64 : Piece → Bool
is_co64 p = bytes_eq p.head.kind.0 (codes "co64")

-- the places of the chunks (8.7.5)
unfoldable pub places_told : Piece → Table (List ℕ)
places_told p = do
  counted (if is_co64 p then 8 else 4) p
  Ok (places_in (is_co64 p) p.body)

-- the numbers of the sync samples, from 1 and in order (8.6.2)
unfoldable pub numbers_told : Piece → Table (List ℕ)
numbers_told p = do
  counted 4 p
  check (rising 0 (sync_numbers_in p.body)) (NotRising p.head.kind p.head.at)
  Ok (sync_numbers_in p.body)

-- the same where there is such a box
unfoldable pub syncs_told : Option Piece → Table (Option (List ℕ))
syncs_told None = Ok None
syncs_told (Some p) = do
  numbers ← numbers_told p
  Ok (Some numbers)

-- the first box of a type, or else of another, which stands for it; a box that is missing is told by the first type
abbrev pub either_table : ℕ → List ℕ → List ℕ → List Piece → Table Piece
either_table at kind other ps = needed (option_or (child_piece ps kind) (child_piece ps other)) (Missing (four kind) at)
