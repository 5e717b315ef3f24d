-- The bits of bytes, and the numbers in them, the highest bit first (ISO/IEC 14496-10, 7.2; ISO/IEC 14496-3, 1.6.2.1).
use Rattle.std.specs.Prelude.{ℕ, ◌+◌, ◌*◌, Bool, nat_lt, ◌==◌, if◌then◌else◌, List, [], ◌∷◌, ◌++◌, length, take, drop, map, Option, Some, None}
use Rattle.std.specs.Int.{bit_at}
use Rattle.std.specs.List.{fold}

-- the bits of a byte, the highest first
abbrev pub byte_bits : ℕ → List Bool
byte_bits byte = map (λ i. bit_at byte i == 1) (7 ∷ 6 ∷ 5 ∷ 4 ∷ 3 ∷ 2 ∷ 1 ∷ 0 ∷ [])

-- the bits of bytes, the highest of each first
unfoldable pub bits_of : List ℕ → List Bool
bits_of [] = []
bits_of (byte ∷ bytes) = byte_bits byte ++ bits_of bytes

-- the number with these bits, the highest first
unfoldable pub number : List Bool → ℕ
number bits = fold (λ n bit. 2 * n + (if bit then 1 else 0)) 0 bits

-- the number in so many bits in front, and the bits after them, where there are so many
abbrev pub first_bits : ℕ → List Bool → Option (ℕ × List Bool)
first_bits count bits = if nat_lt (length bits) count then None else Some (number (take count bits), drop count bits)

-- The bits that are left, and how many were taken before them.
pub record Unread : Type 0 where
  pub at : ℕ
  pub bits : List Bool

-- a number that was taken, with the bits that are left after it
abbrev pub with_rest : Option ℕ → List Bool → Option (ℕ × List Bool)
with_rest None rest = None
with_rest (Some n) rest = Some (n, rest)
