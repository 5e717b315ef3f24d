-- The configuration record of AVC that is made of the parameter sets of a configuration (ISO/IEC 14496-15, 5.3.3.1).
use Rattle.std.specs.Prelude.{◌≡◌, ℕ, ◌+◌, ◌%◌, Bool, false, ◌||◌, nat_lt, ◌==◌, if◌then◌else◌, List, [], ◌∷◌, ◌++◌, length, take, drop, map, get_or, Result, Ok, Err, ⊤}
use Rattle.std.specs.List.{filter, list_any, flat_map}
use Rattle.sf_box.specs.Boxes.{be16}
use Rattle.sf_avc.specs.declared.sps.SpsHead.{SpsHead}
use Rattle.sf_avc.specs.declared.sps.SpsFault.{SpsFault}
use Rattle.sf_avc.specs.declared.nal.NalFault.{NalFault}
use Rattle.sf_avc.specs.declared.config_body.ConfigFault.{ConfigFault}
use Rattle.sf_avc.specs.declared.config_body.ConfigFault.TheVariants.{Nal as NalRefused, NoSps, NoPps, TooLong, Sps, Profile, NoMemory}
use Rattle.sf_avc.specs.Units.{Nal, nals}
use Rattle.sf_avc.specs.Sps.{is_high, sps_of}

-- whether a unit is of a type, which the low five bits of its first byte state (ISO/IEC 14496-10, 7.3.1)
abbrev pub is_type : ℕ → List ℕ → Bool
is_type kind [] = false
is_type kind (first ∷ rest) = first % 32 == kind

-- the units of a type, in order
abbrev pub of_type : ℕ → List Nal → List (List ℕ)
of_type kind units = filter (is_type kind) (map (λ (u : Nal). u.bytes) units)

-- a set after its length in two bytes
unfoldable pub sized_set : List ℕ → List ℕ
sized_set set = be16 (length set) ++ set

-- the chroma format, the bit depths of luma and chroma less 8, and no set of an extension, where the profile states them
unfoldable pub formats : SpsHead → List ℕ
formats head = if is_high head.profile then (252 + head.chroma) ∷ (248 + head.luma) ∷ (248 + head.chroma_depth) ∷ 0 ∷ [] else []

-- the body of `avcC` with these sequence sets, the head of the first, and these picture sets: the version 1; the profile,
-- its constraints and the level, as they stand in the first sequence set; the length size 4; and the counted sets
unfoldable pub config_body : List (List ℕ) → List (List ℕ) → SpsHead → List ℕ
config_body sps pps head =
    (1 ∷ []) ++ take 3 (drop 1 (get_or sps 0 [])) ++ (255 ∷ (224 + length sps) ∷ []) ++ flat_map sized_set sps
    ++ (length pps ∷ []) ++ flat_map sized_set pps ++ formats head

-- whether the length of a set has no room in two bytes
abbrev pub is_long : List ℕ → Bool
is_long set = nat_lt 65535 (length set)

-- whether a record has no room for the sets
abbrev pub too_long : List (List ℕ) → List (List ℕ) → Bool
too_long sps pps = nat_lt 31 (length sps) || nat_lt 255 (length pps) || list_any is_long sps || list_any is_long pps

-- whether this is a profile of which a record is made: Baseline, Main, Extended, High, High 10, High 4:2:2
abbrev pub is_known : ℕ → Bool
is_known profile = profile == 66 || profile == 77 || profile == 88 || is_high profile

-- the body with the head of the first sequence set, or the refusal of that set or of its profile
abbrev pub with_head : List (List ℕ) → List (List ℕ) → Result SpsHead SpsFault → Result (List ℕ) ConfigFault
with_head sps pps (Err fault) = Err (Sps fault)
with_head sps pps (Ok head) = if is_known head.profile then Ok (config_body sps pps head) else Err (Profile head.profile)

-- the body with these sets, or the first refusal
unfoldable pub with_sets : List (List ℕ) → List (List ℕ) → Result (List ℕ) ConfigFault
with_sets sps pps =
    if length sps == 0 then Err NoSps
    else if length pps == 0 then Err NoPps
    else if too_long sps pps then Err TooLong
    else with_head sps pps (sps_of (get_or sps 0 []))

-- the body with the units of type 7 and of type 8, or the first refusal
abbrev pub with_units : Result (List Nal) NalFault → Result (List ℕ) ConfigFault
with_units (Err fault) = Err (NalRefused fault)
with_units (Ok units) = with_sets (of_type 7 units) (of_type 8 units)

-- the body of `avcC` that is made of a configuration with start codes, or the first refusal
unfoldable pub made_config : List ℕ → Result (List ℕ) ConfigFault
made_config config = with_units (nals config)

-- an answer is the body or the first refusal, or want of memory
abbrev pub Makes : List ℕ → Result (List ℕ) ConfigFault → Type 0
Makes config (Err NoMemory) = ⊤
Makes config answer = made_config config ≡ answer
