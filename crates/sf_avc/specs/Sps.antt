-- The head of a sequence parameter set (ISO/IEC 14496-10, 7.3.2.1.1).
use Rattle.std.specs.Prelude.{ℕ, suc, ◌+◌, ◌-◌, ◌%◌, ◌^◌, ◌≤◌, Bool, true, false, ◌||◌, ◌&&◌, nat_lt, nat_le, ◌==◌, if◌then◌else◌, List, [], ◌∷◌, length, drop, Option, Some, None, Result, Ok, Err}
use Rattle.sf_avc.specs.Bits.{bits_of, first_bits}
use Rattle.sf_avc.specs.declared.sps.SpsHead.{SpsHead}
use Rattle.sf_avc.specs.declared.sps.SpsFault.{SpsFault}
use Rattle.sf_avc.specs.declared.sps.SpsFault.TheVariants.{NotSps, Truncated, ValueTooLarge}

-- The bytes after so many zero bytes without the bytes of emulation prevention: a byte 3 that follows two zero
-- bytes is left out (7.3.1), and the zero bytes in front of it count no more.
unfoldable pub without_emulation : ℕ → List ℕ → List ℕ
without_emulation run [] = []
without_emulation run (b ∷ bytes) =
    if b == 3 && nat_le 2 run then without_emulation 0 bytes
    else b ∷ without_emulation (if b == 0 then run + 1 else 0) bytes

-- A value that was read from bits, and the bits after it.
abbrev pub Read : Type 0
Read = ℕ × List Bool

-- what follows from a value that was read
abbrev pub and_then : {A : Type 0} → Result Read SpsFault → (ℕ → List Bool → Result A SpsFault) → Result A SpsFault
and_then (Ok r) f = f r.0 r.1
and_then (Err e) f = Err e

-- a number that was read. Where the bits end, Truncated says how many there are in all.
abbrev pub whole : ℕ → Option Read → Result Read SpsFault
whole total None = Err (Truncated total)
whole total (Some r) = Ok r

-- the number u(n) in the next bits, so many (7.2)
unfoldable pub fixed : ℕ → ℕ → List Bool → Result Read SpsFault
fixed total count bits = whole total (first_bits count bits)

-- a number with an addend
abbrev pub plus : ℕ → Result Read SpsFault → Result Read SpsFault
plus n found = and_then found (λ value rest. Ok (n + value, rest))

-- how many zero bits stand in front
unfoldable pub zeros_in_front : List Bool → ℕ
zeros_in_front [] = 0
zeros_in_front (true ∷ bits) = 0
zeros_in_front (false ∷ bits) = suc (zeros_in_front bits)

-- a value with k zero bits in front, from the bit 1 after them on: 2 ^ k - 1 plus the number in the k bits after that
abbrev pub after_zeros : ℕ → ℕ → List Bool → Result Read SpsFault
after_zeros total k [] = Err (Truncated total)
after_zeros total k (one ∷ bits) = plus (2 ^ k - 1) (fixed total k bits)

-- the value ue(v) that begins the bits, which begin at a place (9.1): at most 31 zero bits, a bit 1, as many bits as zero bits
unfoldable pub exp_golomb : ℕ → ℕ → List Bool → Result Read SpsFault
exp_golomb total at bits =
    if nat_lt 31 (zeros_in_front bits) then Err (ValueTooLarge at)
    else after_zeros total (zeros_in_front bits) (drop (zeros_in_front bits) bits)

-- a value up to a greatest one
abbrev pub at_most : ℕ → ℕ → Result Read SpsFault → Result Read SpsFault
at_most max at found = and_then found (λ value rest. if nat_lt max value then Err (ValueTooLarge at) else Ok (value, rest))

-- the value ue(v) that begins the last bits of so many, up to a greatest one
unfoldable pub value : ℕ → ℕ → List Bool → Result Read SpsFault
value total max bits = at_most max (total - length bits) (exp_golomb total (total - length bits) bits)

-- whether a set of this profile states its chroma format and its bit depths
abbrev pub is_high : ℕ → Bool
is_high profile = profile == 100 || profile == 110 || profile == 122

-- the head of a set that states no formats: chroma format 1 (4:2:0), and bit depths of 8
abbrev pub plain_head : ℕ → ℕ → ℕ → ℕ → SpsHead
plain_head profile constraints level id = record {
  profile = profile;
  constraints = constraints;
  level = level;
  id = id;
  chroma = 1;
  luma = 0;
  chroma_depth = 0;
}

-- a head with the chroma format and the bit depths of luma and chroma less 8, where its profile states them
unfoldable pub with_formats : ℕ → List Bool → SpsHead → Result SpsHead SpsFault
with_formats total bits head =
    if is_high head.profile then
    and_then (value total 2 bits) (λ chroma b. and_then (value total 6 b) (λ luma c. and_then (value total 6 c)
    (λ chroma_depth rest. Ok (record head { chroma = chroma; luma = luma; chroma_depth = chroma_depth }))))
    else Ok head

-- the fields of so many bits: the profile, its constraints and the level, eight bits each, the id, the formats
abbrev pub fields_in : ℕ → List Bool → Result SpsHead SpsFault
fields_in total bits =
    and_then (fixed total 8 bits) (λ profile b. and_then (fixed total 8 b) (λ constraints c. and_then (fixed total 8 c)
    (λ level d. and_then (value total 31 d) (λ id rest. with_formats total rest (plain_head profile constraints level id)))))

-- the fields of a set without emulation prevention
unfoldable pub fields_of : List ℕ → Result SpsHead SpsFault
fields_of bytes = fields_in (length (bits_of bytes)) (bits_of bytes)

-- the head of the sequence parameter set in a unit, or why there is none. The type, in the low five bits of the first
-- byte, is 7. Places count the bits after that byte, without emulation prevention.
unfoldable pub sps_of : List ℕ → Result SpsHead SpsFault
sps_of [] = Err NotSps
sps_of (first ∷ bytes) = if first % 32 == 7 then fields_of (without_emulation 0 bytes) else Err NotSps

-- The fields of a head that was read are in their ranges.
pub record HeadFits (h : SpsHead) : Type 0 where
  pub id : h.id ≤ 31
  pub chroma : h.chroma ≤ 2
  pub luma : h.luma ≤ 6
  pub chroma_depth : h.chroma_depth ≤ 6
