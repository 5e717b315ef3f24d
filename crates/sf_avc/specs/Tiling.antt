-- Units that tile a stored sample, each after its length (ISO/IEC 14496-15, 5.3.4.2).
use Rattle.std.specs.Prelude.{◌≡◌, ℕ, zero, suc, ◌+◌, ◌-◌, ◌||◌, nat_lt, if◌then◌else◌, List, [], ◌∷◌, ◌++◌, length, take, drop, map, replicate, Result, Ok, Err, ⊤}
use Rattle.sf_box.specs.Boxes.{word32}
use Rattle.sf_avc.specs.declared.nal.Unit.{Unit}
use Rattle.sf_avc.specs.declared.prefixed.LengthFault.{LengthFault}
use Rattle.sf_avc.specs.declared.prefixed.LengthFault.TheVariants.{BadLength, NoMemory}
use Rattle.sf_avc.specs.Units.{Nal, with_unit, unit_at}

-- the length in up to four bytes, the highest first: the number in four bytes with zero bytes in front
unfoldable pub length_in : List ℕ → ℕ
length_in bytes = word32 (replicate (4 - length bytes) 0 ++ bytes)

-- how many bytes a unit takes together with its length, which has so many bytes
abbrev pub tile_size : ℕ → List ℕ → ℕ
tile_size width bytes = width + length_in (take width bytes)

-- the unit that begins the bytes with its length, in front of others. A length that isn't there, or that
-- passes the end, is refused.
abbrev pub tile_before : ℕ → ℕ → List ℕ → Result (List Nal) LengthFault → Result (List Nal) LengthFault
tile_before width at bytes others =
    if nat_lt (length bytes) width || nat_lt (length bytes) (tile_size width bytes) then Err (BadLength at)
    else with_unit (record { at = at + width; bytes = take (length_in (take width bytes)) (drop width bytes) }) others

-- the units that tile the bytes, at most so many, or the first fault
unfoldable pub first_tiles : ℕ → ℕ → ℕ → List ℕ → Result (List Nal) LengthFault
first_tiles zero width at bytes = Ok []
first_tiles (suc n) width at [] = Ok []
first_tiles (suc n) width at (b ∷ bytes) =
    tile_before width at (b ∷ bytes) (first_tiles n width (at + tile_size width (b ∷ bytes)) (drop (tile_size width (b ∷ bytes)) (b ∷ bytes)))

-- the units that tile the bytes, or the first fault. Places count from `at`.
unfoldable pub tiling : ℕ → ℕ → List ℕ → Result (List Nal) LengthFault
tiling width at bytes = first_tiles (length bytes) width at bytes

-- the units that tile a stored sample, or the first fault, or want of memory
abbrev pub AreTiles : ℕ → List ℕ → Result (List Unit) LengthFault → Type 0
AreTiles width stored (Ok units) = tiling width 0 stored ≡ Ok (map (unit_at stored) units)
AreTiles width stored (Err (BadLength at)) = tiling width 0 stored ≡ Err (BadLength at)
AreTiles width stored (Err NoMemory) = ⊤
