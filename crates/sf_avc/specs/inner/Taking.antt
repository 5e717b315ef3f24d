-- What the reader of bits holds, and what its steps answer.
use Rattle.std.specs.Prelude.{◌≡◌, ℕ, zero, suc, ◌+◌, ◌≤◌, ◌==◌, Bool, List, [], ◌∷◌, Option, Some, None, ⊤}
use Rattle.std.specs.Int.{bit_at}
use Rattle.sf_avc.specs.Bits.{Unread}
use Rattle.sf_avc.specs.Sps.{without_emulation}

-- the low bits of a byte, so many, the highest first
unfoldable pub low_bits : ℕ → ℕ → List Bool
low_bits zero byte = []
low_bits (suc n) byte = (bit_at byte n == 1) ∷ low_bits n byte

-- the bytes that are taken from these: without those of emulation prevention where a count of zero bytes is kept
abbrev pub bytes_left : Option ℕ → List ℕ → List ℕ
bytes_left None bytes = bytes
bytes_left (Some zeros) bytes = without_emulation zeros bytes

-- a count of zero bytes stands still at 2
abbrev pub FewZeros : Option ℕ → Type 0
FewZeros None = ⊤
FewZeros (Some zeros) = zeros ≤ 2

-- one bit was taken, or none is left
abbrev pub NextBit : Unread → Option Bool → Unread → Type 0
NextBit old None new = (old.bits ≡ []) × (new.at ≡ old.at)
NextBit old (Some bit) new = (old.bits ≡ bit ∷ new.bits) × (new.at ≡ old.at + 1)
