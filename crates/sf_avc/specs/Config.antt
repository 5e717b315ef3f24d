-- The configuration record of AVC, the body of the box `avcC` (ISO/IEC 14496-15, 5.3.3.1).
use Rattle.std.specs.Prelude.{◌≡◌, ℕ, zero, suc, ◌+◌, ◌%◌, not, nat_lt, ◌==◌, if◌then◌else◌, List, [], ◌∷◌, length, take, drop, Option, Some, None, Result, Ok, Err, ⊤}
use Rattle.sf_box.specs.Boxes.{word16}
use Rattle.sf_avc.specs.declared.config.AvcConfig.{AvcConfig}
use Rattle.sf_avc.specs.declared.config.AvcCFault.{AvcCFault}
use Rattle.sf_avc.specs.declared.config.AvcCFault.TheVariants.{Version, Short, NoMemory}

-- parameter sets, and the bytes after them
abbrev pub Sets : Type 0
Sets = List (List ℕ) × List ℕ

-- with one set in front
abbrev pub with_set : List ℕ → Option Sets → Option Sets
with_set set None = None
with_set set (Some found) = Some (set ∷ found.0, found.1)

-- so many parameter sets, each after its length in two bytes; none where the bytes end before the last
unfoldable pub sets : ℕ → List ℕ → Option Sets
sets zero bytes = Some ([], bytes)
sets (suc n) bytes =
    if nat_lt (length bytes) 2 then None
    else if nat_lt (length (drop 2 bytes)) (word16 bytes) then None
    else with_set (take (word16 bytes) (drop 2 bytes)) (sets n (drop (word16 bytes) (drop 2 bytes)))

-- the record of a length size and the sequence sets, and of the picture sets where all are there
abbrev pub with_pictures : ℕ → List (List ℕ) → Option Sets → Result AvcConfig AvcCFault
with_pictures width sps None = Err Short
with_pictures width sps (Some found) = Ok (record { width = width; sps = sps; pps = found.0 })

-- what follows the sequence sets: the count of the picture sets in a byte, and those sets
abbrev pub pictures : ℕ → List (List ℕ) → List ℕ → Result AvcConfig AvcCFault
pictures width sps [] = Err Short
pictures width sps (count ∷ bytes) = with_pictures width sps (sets count bytes)

-- what follows the length size, from the sequence sets on
abbrev pub sequences : ℕ → Option Sets → Result AvcConfig AvcCFault
sequences width None = Err Short
sequences width (Some found) = pictures width found.0 found.1

-- what follows the version 1: the profile, its constraints and the level, a byte each; the length size of a unit
-- less one in the low two bits of a byte; the count of the sequence sets in the low five bits of the next; then the
-- sequence sets and the picture sets. What follows those isn't read.
abbrev pub record_of : List ℕ → Result AvcConfig AvcCFault
record_of (profile ∷ constraints ∷ level ∷ size ∷ count ∷ bytes) = sequences (size % 4 + 1) (sets (count % 32) bytes)
record_of bytes = Err Short

-- the configuration in a body, or why there is none
unfoldable pub config_of : List ℕ → Result AvcConfig AvcCFault
config_of [] = Err Short
config_of (version ∷ bytes) = if not (version == 1) then Err (Version version) else record_of bytes

-- A call answers what the body says, or want of memory.
abbrev pub Reads : List ℕ → Result AvcConfig AvcCFault → Type 0
Reads body (Ok config) = config_of body ≡ Ok config
Reads body (Err (Version version)) = config_of body ≡ Err (Version version)
Reads body (Err Short) = config_of body ≡ Err Short
Reads body (Err NoMemory) = ⊤
