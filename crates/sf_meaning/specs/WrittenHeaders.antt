-- Headers as they are written that the laws read back: times and durations, the data reference, and a file's start.
use Rattle.std.specs.Prelude.{ℕ, nat_le, Bool, List, [], ◌∷◌, ◌++◌, codes, if◌then◌else◌}
use Rattle.sf_box.specs.Boxes.{be32, be64}
use Rattle.sf_box.specs.Parts.{Part}
use Rattle.sf_meaning.specs.Stbl.{zeros}

-- Whether a duration needs version 1 of a header, with times and duration in eight bytes: in four the greatest number says that it isn't known (8.2.2.3).
abbrev pub is_long : ℕ → Bool
is_long duration = nat_le 4294967295 duration

-- a header's duration
abbrev pub duration_bytes : ℕ → List ℕ
duration_bytes duration = if is_long duration then be64 duration else be32 duration

-- a header's version, its flags, and when what it is of was made and changed, both not said
abbrev pub header_times : ℕ → ℕ → List ℕ
header_times flags duration =
    if is_long duration then (1 ∷ 0 ∷ 0 ∷ flags ∷ zeros 16) else (0 ∷ 0 ∷ 0 ∷ flags ∷ zeros 8)

-- one data reference: this very file (8.7.2)
abbrev pub dref_body : List ℕ
dref_body = zeros 4 ++ ((0 ∷ 0 ∷ 0 ∷ 1 ∷ []) ++ ((0 ∷ 0 ∷ 0 ∷ 12 ∷ []) ++ (codes "url " ++ (0 ∷ 0 ∷ 0 ∷ 1 ∷ []))))

-- the data information: where the samples are (8.7.1)
abbrev pub in_dinf : List Part
in_dinf = (codes "dref", dref_body) ∷ []

abbrev pub in_udta : ℕ → List Part
in_udta start_us = (codes "sfts", be64 start_us) ∷ []
