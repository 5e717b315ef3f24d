-- The configuration of sound, as far as it is read (ISO/IEC 14496-3, 1.6.2.1): the object type, the sampling
-- frequency and the channel configuration.
use Rattle.std.specs.Prelude.{ℕ, ◌+◌, ◌^◌, ◌≤◌, ◌<◌, Bool, ◌||◌, ◌&&◌, nat_lt, ◌==◌, if◌then◌else◌, List, [], ◌∷◌, get_or, Option, Some, None, Result, Ok, Err}
use Rattle.sf_avc.specs.Bits.{bits_of, first_bits}
use Rattle.sf_entry.specs.declared.asc.Asc.{Asc}
use Rattle.sf_entry.specs.declared.asc.AscFault.{AscFault}
use Rattle.sf_entry.specs.declared.asc.AscFault.TheVariants.{Truncated, Index, Rate0, Channels}
use Rattle.sf_entry.specs.declared.asc.Front.{Front}

-- what follows from a number and the bits after it, where they are there
abbrev pub after : {A : Type 0} → Option (ℕ × List Bool) → (ℕ → List Bool → Option A) → Option A
after None next = None
after (Some t) next = next t.0 t.1

-- the object type: five bits, where 31 means 32 and six bits more
unfoldable pub object_in : List Bool → Option (ℕ × List Bool)
object_in bits = after (first_bits 5 bits) (λ n rest. if n == 31 then after (first_bits 6 rest) (λ m left. Some (32 + m, left)) else Some (n, rest))

-- the rate after a frequency index: 24 bits where the index is 15, else none, and 0 in its place
unfoldable pub stated_in : ℕ → List Bool → Option (ℕ × List Bool)
stated_in index bits = if index == 15 then first_bits 24 bits else Some (0, bits)

-- the fields in front of a configuration, where all their bits are there
unfoldable pub front_in : List Bool → Option Front
front_in bits =
    after (object_in bits) (λ object b. after (first_bits 4 b) (λ index c. after (stated_in index c) (λ stated d. after (first_bits 4 d)
    (λ channels rest. Some (record { object = object; index = index; stated = stated; channels = channels })))))

-- the sampling rates of the frequency indices 0 to 12, in samples a second
abbrev pub rates : List ℕ
rates = 96000 ∷ 88200 ∷ 64000 ∷ 48000 ∷ 44100 ∷ 32000 ∷ 24000 ∷ 22050 ∷ 16000 ∷ 12000 ∷ 11025 ∷ 8000 ∷ 7350 ∷ []

-- the sampling rate of these fields
abbrev pub rate_of : Front → ℕ
rate_of f = if f.index == 15 then f.stated else get_or rates f.index 0

-- the channels of a channel configuration: 7 means eight of them
abbrev pub channels_of : ℕ → ℕ
channels_of configuration = if configuration == 7 then 8 else configuration

-- what fields mean, or the first thing that is refused in them
unfoldable pub judged : Front → Result Asc AscFault
judged f =
    if f.index == 13 || f.index == 14 then Err (Index f.index)
    else if f.index == 15 && f.stated == 0 then Err Rate0
    else if f.channels == 0 || nat_lt 7 f.channels then Err (Channels f.channels)
    else Ok (record { object = f.object; rate = rate_of f; channels = channels_of f.channels })

-- what fields mean, where they are all there
abbrev pub judged_whole : Option Front → Result Asc AscFault
judged_whole None = Err Truncated
judged_whole (Some f) = judged f

-- what a configuration says of sound, or the first refusal
unfoldable pub asc_of : List ℕ → Result Asc AscFault
asc_of config = judged_whole (front_in (bits_of config))

-- A configuration that isn't refused names a rate and channels.
pub record Sounds (a : Asc) : Type 0 where
  pub some : 1 ≤ a.rate
  pub rate : a.rate < 2 ^ 24
  pub least : 1 ≤ a.channels
  pub most : a.channels ≤ 8
