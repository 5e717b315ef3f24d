-- The coded sample file, version 1, a format of this project. Its numbers are big-endian.
-- The header: "SFCS", the version (2 bytes, 1), the kind (2 bytes: 1 AVC, 2 AAC), the timescale (4), width (2),
-- height (2), channels (2), the length of the configuration (4, at most 65,536), the configuration.
-- Then records. The tag 1 begins a sample: the tag, flags (1 byte, bit 0 for sync), decode and composition time
-- in microseconds (8 bytes each), a length (4, 1 to 16,777,216) and as many bytes. The tag 0 ends the file.
use Rattle.std.specs.Prelude.{ℕ, zero, suc, ◌+◌, ◌%◌, not, ◌||◌, nat_lt, ◌==◌, if◌then◌else◌, List, [], ◌∷◌, ◌++◌, length, take, drop, slice_index, Option, Some, None, Result, Ok, Err}
use Rattle.std.specs.Str.{bytes_eq}
use lib.Chars.{codes}
use Rattle.sf_tick.specs.declared.types.Kind.{Kind}
use Rattle.sf_tick.specs.declared.types.Kind.TheVariants.{Avc, Aac}
use Rattle.sf_tick.specs.declared.types.Setup.{Setup}
use Rattle.sf_box.specs.Boxes.{word16, word32, word64}
use Rattle.sf_coded.specs.declared.types.CodedFault.{CodedFault}
use Rattle.sf_coded.specs.declared.types.CodedFault.TheVariants.{Magic, Version, KindCode, ConfigTooLong, Truncated, Tag, Empty, TooLong, Trailing, ReadFault, NoMemory}
use Rattle.sf_coded.specs.declared.types.CodedSample.{CodedSample}
use Rattle.sf_coded.specs.declared.fields.Header.{Header}
use Rattle.sf_coded.specs.declared.fields.Record.{Record}
use Rattle.sf_coded.specs.declared.fields.Turn.{Turn}
use Rattle.sf_coded.specs.declared.fields.Turn.TheVariants.{End, Next}

-- the kind of a code
abbrev pub kind_of : ℕ → Kind
kind_of code = if code == 1 then Avc else Aac

-- the fields of a header that begins with these bytes
abbrev pub header_fields : List ℕ → Header
header_fields first = record {
  kind = kind_of (word16 (drop 6 first));
  scale = word32 (drop 8 first);
  width = word16 (drop 12 first);
  height = word16 (drop 14 first);
  channels = word16 (drop 16 first);
  config_len = word32 (drop 18 first);
}

-- the fields of the header of a file of so many bytes that begins with these, or the first refusal
abbrev pub header_in : ℕ → List ℕ → Result Header CodedFault
header_in len first =
    if nat_lt len 4 then Err (Truncated len)
    else if not (bytes_eq (take 4 first) (codes "SFCS")) then Err Magic
    else if nat_lt len 6 then Err (Truncated len)
    else if not (word16 (drop 4 first) == 1) then Err (Version (word16 (drop 4 first)))
    else if nat_lt len 8 then Err (Truncated len)
    else if not (word16 (drop 6 first) == 1 || word16 (drop 6 first) == 2) then Err (KindCode (word16 (drop 6 first)))
    else if nat_lt len 22 then Err (Truncated len)
    else if nat_lt 65536 (word32 (drop 18 first)) then Err (ConfigTooLong (word32 (drop 18 first)))
    else if nat_lt len (22 + word32 (drop 18 first)) then Err (Truncated len)
    else Ok (header_fields first)

-- the setup of a header in a file with these bytes
abbrev pub setup_of : List ℕ → Header → Setup
setup_of bytes h = record {
  kind = h.kind;
  scale = h.scale;
  width = h.width;
  height = h.height;
  channels = h.channels;
  config = take h.config_len (drop 22 bytes);
}

-- the fields of a record that begins with these bytes
abbrev pub record_fields : List ℕ → Record
record_fields first = record {
  sync = slice_index first 1 % 2 == 1;
  dts_us = word64 (drop 2 first);
  pts_us = word64 (drop 10 first);
  len = word32 (drop 18 first);
}

-- the record that begins with these bytes, with so many up to the end of the file, or the first refusal
abbrev pub record_in : ℕ → ℕ → List ℕ → Result Turn CodedFault
record_in at room first =
    if room == 0 then Err (Truncated at)
    else if slice_index first 0 == 0 then (if room == 1 then Ok End else Err (Trailing (at + 1)))
    else if not (slice_index first 0 == 1) then Err (Tag at (slice_index first 0))
    else if nat_lt room 22 then Err (Truncated (at + room))
    else if word32 (drop 18 first) == 0 then Err (Empty at)
    else if nat_lt 16777216 (word32 (drop 18 first)) then Err (TooLong at (word32 (drop 18 first)))
    else if nat_lt room (22 + word32 (drop 18 first)) then Err (Truncated (at + room))
    else Ok (Next (record_fields first))

-- the sample of a record at a place, with the bytes from there on
abbrev pub sample_of : ℕ → List ℕ → Record → CodedSample
sample_of at bytes r = record {
  at = at;
  sample = record { dts_us = r.dts_us; pts_us = r.pts_us; sync = r.sync; bytes = take r.len (drop 22 bytes) };
}

-- The samples of records, and how they end: by a refusal, or whole (none).
pub record Records : Type 0 where
  pub samples : List CodedSample
  pub end : Option CodedFault

-- records without a sample, which end so
abbrev pub ended : Option CodedFault → Records
ended end = record { samples = []; end = end }

-- records with one sample in front
abbrev pub with_sample : CodedSample → Records → Records
with_sample s rs = record { samples = s ∷ rs.samples; end = rs.end }

-- the records that begin with this turn, where what stands after a record is known
abbrev pub turned : ℕ → List ℕ → Result Turn CodedFault → (Record → Records) → Records
turned at bytes (Ok End) behind = ended None
turned at bytes (Ok (Next r)) behind = with_sample (sample_of at bytes r) (behind r)
turned at bytes (Err f) behind = ended (Some f)

-- the records from a place on, at most so many
unfoldable pub records : ℕ → ℕ → List ℕ → Records
records zero at bytes = ended (Some (Truncated at))
records (suc n) at bytes =
    turned at bytes (record_in at (length bytes) bytes) (λ r. records n (at + (22 + r.len)) (drop (22 + r.len) bytes))

-- the records from a place on
unfoldable pub records_at : ℕ → List ℕ → Records
records_at at bytes = records (suc (length bytes)) at bytes

-- What a coded sample file says: its setup, unless its header is refused; its samples, each with the place
-- of its record; and how it ends: by the first refusal, or whole (none).
pub record CodedFile : Type 0 where
  pub setup : Option Setup
  pub samples : List CodedSample
  pub end : Option CodedFault

-- a setup and samples in front of records
abbrev pub file_of : Setup → List CodedSample → Records → CodedFile
file_of setup samples rs = record { setup = Some setup; samples = samples ++ rs.samples; end = rs.end }

abbrev pub behind_header : List ℕ → Result Header CodedFault → CodedFile
behind_header bytes (Ok h) = file_of (setup_of bytes h) [] (records_at (22 + h.config_len) (drop (22 + h.config_len) bytes))
behind_header bytes (Err f) = record { setup = None; samples = []; end = Some f }

-- what the bytes of a coded sample file say
unfoldable pub coded : List ℕ → CodedFile
coded bytes = behind_header bytes (header_in (length bytes) bytes)

-- the place that a fault names: where what is refused begins, and 0 where nothing of the file is
abbrev pub fault_place : CodedFault → ℕ
fault_place Magic = 0
fault_place (Version v) = 4
fault_place (KindCode k) = 6
fault_place (ConfigTooLong len) = 18
fault_place (Truncated at) = at
fault_place (Tag at tag) = at
fault_place (Empty at) = at
fault_place (TooLong at len) = at
fault_place (Trailing at) = at
fault_place ReadFault = 0
fault_place NoMemory = 0
