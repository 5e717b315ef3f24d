-- The sample entry of sound (ISO/IEC 14496-12, 12.2.3; ISO/IEC 14496-14, 5.6) and the descriptors in it (ISO/IEC 14496-1).
use Rattle.std.specs.Prelude.{ℕ, ◌+◌, ◌*◌, ◌/◌, ◌%◌, nat_lt, if◌then◌else◌, List, [], ◌∷◌, ◌++◌, length, replicate, codes}
use Rattle.sf_box.specs.Boxes.{be16, be32, box_of}

-- so many zero bytes
abbrev pub zeros : ℕ → List ℕ
zeros n = replicate n 0

-- a length in four bytes: seven bits in each, the highest bit set in all but the last (14496-1, 8.3.3)
unfoldable pub size_bytes : ℕ → List ℕ
size_bytes n = (128 + n / 2097152 % 128) ∷ (128 + n / 16384 % 128) ∷ (128 + n / 128 % 128) ∷ (n % 128) ∷ []

-- a descriptor with this tag and body, for a body shorter than 2 ^ 28 bytes
unfoldable pub descriptor : ℕ → List ℕ → List ℕ
descriptor tag body = tag ∷ (size_bytes (length body) ++ body)

-- how the sound is decoded: by ISO/IEC 14496-3 (40 hexadecimal), an audio stream (15 hexadecimal), with no buffer size and no bitrates stated; then the configuration (14496-1, 7.2.6.6)
unfoldable pub decoder_body : List ℕ → List ℕ
decoder_body config = (0x40 ∷ 0x15 ∷ []) ++ (zeros 11 ++ descriptor 5 config)

-- the elementary stream 0 without flags: how it is decoded, and that it is in a file (14496-1, 7.2.6.5)
unfoldable pub stream_body : List ℕ → List ℕ
stream_body config = zeros 3 ++ (descriptor 4 (decoder_body config) ++ descriptor 6 (2 ∷ []))

-- the body of the elementary stream descriptor box: version and flags, and the stream (14496-14, 5.6.1)
unfoldable pub esds_body : List ℕ → List ℕ
esds_body config = zeros 4 ++ descriptor 3 (stream_body config)

-- a sampling rate as a number with sixteen bits after the point, and 0 where it has more than sixteen before it
unfoldable pub rate_field : ℕ → ℕ
rate_field rate = if nat_lt 65535 rate then 0 else rate * 65536

-- the body of a sound entry (12.2.3): the first data reference, the channels, samples of 16 bits, the rate, and the stream
unfoldable pub mp4a_body : ℕ → ℕ → List ℕ → List ℕ
mp4a_body channels rate config =
    zeros 6 ++ ((0 ∷ 1 ∷ []) ++ (zeros 8 ++ (be16 channels ++ ((0 ∷ 16 ∷ []) ++ (zeros 4
    ++ (be32 (rate_field rate) ++ box_of (codes "esds") (esds_body config)))))))

-- the sample entry of sound with so many channels at a sampling rate
unfoldable pub mp4a_entry : ℕ → ℕ → List ℕ → List ℕ
mp4a_entry channels rate config = box_of (codes "mp4a") (mp4a_body channels rate config)
