-- The elementary stream descriptor box (ISO/IEC 14496-14, 5.6.1) as it is read, and the descriptors in it (ISO/IEC 14496-1, 7.2.6).
use Rattle.std.specs.Prelude.{ℕ, zero, suc, ◌+◌, ◌*◌, ◌/◌, ◌%◌, nat_lt, ◌==◌, if◌then◌else◌, List, [], ◌∷◌, length, take, drop, Option, Some, None, option_and_then}

infixl 10 ◌>>=◌
-- a step after a step that gave something
abbrev pub ◌>>=◌ : {A B : Type 0} → Option A → (A → Option B) → Option B
o >>= f = option_and_then f o

-- the bytes after so many, where there are so many
unfoldable pub past : ℕ → List ℕ → Option (List ℕ)
past count bytes = if nat_lt (length bytes) count then None else Some (drop count bytes)

-- The length in front, of at most so many bytes more, and the bytes after it: seven bits in each byte, after the number
-- that those before it make; the highest bit is set in all but the last (14496-1, 8.3.3).
unfoldable pub length_in : ℕ → ℕ → List ℕ → Option (ℕ × List ℕ)
length_in zero number bytes = None
length_in (suc more) number [] = None
length_in (suc more) number (b ∷ bytes) =
    if nat_lt b 128 then Some (128 * number + b % 128, bytes) else length_in more (128 * number + b % 128) bytes

-- so many bytes in front, where there are so many
abbrev pub front : ℕ × List ℕ → Option (List ℕ)
front x = if nat_lt (length x.1) x.0 then None else Some (take x.0 x.1)

-- the body of the descriptor in front, where it has this tag, a length of one to four bytes, and all its bytes
unfoldable pub descriptor_in : ℕ → List ℕ → Option (List ℕ)
descriptor_in tag [] = None
descriptor_in tag (first ∷ bytes) = if first == tag then length_in 4 0 bytes >>= front else None

-- the bytes after the number of the stream that this one depends on, which stands where the flag 80 (hexadecimal) is set
unfoldable pub after_dependence : ℕ → List ℕ → Option (List ℕ)
after_dependence flags bytes = if flags / 0x80 % 2 == 1 then past 2 bytes else Some bytes

-- the bytes after a text that begins with its length in a byte
abbrev pub after_text : List ℕ → Option (List ℕ)
after_text [] = None
after_text (count ∷ bytes) = past count bytes

-- the bytes after the address of the stream, which stands where the flag 40 is set
unfoldable pub after_address : ℕ → List ℕ → Option (List ℕ)
after_address flags bytes = if flags / 0x40 % 2 == 1 then after_text bytes else Some bytes

-- the bytes after the number of the stream of clock references, which stands where the flag 20 is set
unfoldable pub after_clock : ℕ → List ℕ → Option (List ℕ)
after_clock flags bytes = if flags / 0x20 % 2 == 1 then past 2 bytes else Some bytes

-- the bytes after the fields of a stream's descriptor: its number in two bytes, its flags, and what they add (7.2.6.5)
unfoldable pub after_stream : List ℕ → Option (List ℕ)
after_stream (a ∷ b ∷ flags ∷ bytes) = do
  dependence ← after_dependence flags bytes
  address ← after_address flags dependence
  after_clock flags address
after_stream bytes = None

-- the bytes after the 13 bytes of fields of a decoder's descriptor, the first of which, the object type, names ISO/IEC 14496-3 (7.2.6.6)
unfoldable pub after_decoder : List ℕ → Option (List ℕ)
after_decoder [] = None
after_decoder (object ∷ bytes) = if object == 0x40 then past 12 bytes else None

-- The configuration in the body of the box. After its version and flags stands the stream's descriptor (tag 3), after the
-- fields of that the decoder's (tag 4), and after the fields of that the configuration (tag 5), each within the one before.
unfoldable pub config_in : List ℕ → Option (List ℕ)
config_in esds = do
  bytes ← past 4 esds
  stream ← descriptor_in 3 bytes
  streams ← after_stream stream
  decoder ← descriptor_in 4 streams
  decoders ← after_decoder decoder
  descriptor_in 5 decoders
