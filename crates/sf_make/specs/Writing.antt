-- The bytes of a coded sample file that states a setup and samples, and what such a file says.
use Rattle.std.specs.Prelude.{ℕ, ◌+◌, ◌^◌, ◌≤◌, ◌<◌, Bool, if◌then◌else◌, List, [], ◌∷◌, ◌++◌, length, codes}
use Rattle.std.specs.List.{flat_map}
use Rattle.sf_tick.specs.declared.types.Kind.{Kind}
use Rattle.sf_tick.specs.declared.types.Kind.TheVariants.{Avc, Aac}
use Rattle.sf_tick.specs.declared.types.Setup.{Setup}
use Rattle.sf_tick.specs.declared.types.Sample.{Sample}
use Rattle.sf_box.specs.Boxes.{be16, be32, be64}
use Rattle.sf_coded.specs.declared.types.CodedSample.{CodedSample}

-- the code of a kind in a header
abbrev pub kind_code : Kind → ℕ
kind_code Avc = 1
kind_code Aac = 2

-- the header: "SFCS", the version 1, the fields of the setup, and its configuration after its length
unfoldable pub header_bytes : Setup → List ℕ
header_bytes s =
    codes "SFCS"
    ++ (be16 1
    ++ (be16 (kind_code s.kind)
    ++ (be32 s.scale ++ (be16 s.width ++ (be16 s.height ++ (be16 s.channels ++ (be32 (length s.config) ++ s.config)))))))

-- the flags of a record: bit 0 for sync
abbrev pub record_flags : Bool → ℕ
record_flags sync = if sync then 1 else 0

-- the record of a sample: the tag 1, the flags, both times, and the payload after its length
unfoldable pub record_bytes : Sample → List ℕ
record_bytes s = 1 ∷ record_flags s.sync ∷ (be64 s.dts_us ++ (be64 s.pts_us ++ (be32 (length s.bytes) ++ s.bytes)))

-- the file: the header, the record of each sample in order, and the tag 0
unfoldable pub coded_bytes : Setup → List Sample → List ℕ
coded_bytes setup samples = header_bytes setup ++ (flat_map record_bytes samples ++ 0 ∷ [])

-- the samples of records that stand one after the other from a place on, each with its place
unfoldable pub coded_samples : ℕ → List Sample → List CodedSample
coded_samples at [] = []
coded_samples at (s ∷ samples) = record { at = at; sample = s } ∷ coded_samples (at + (22 + length s.bytes)) samples

-- A setup that a header can state: each field fits, and the configuration isn't too long.
pub record StatableSetup (s : Setup) : Type 0 where
  pub scale : s.scale < 2 ^ 32
  pub width : s.width < 2 ^ 16
  pub height : s.height < 2 ^ 16
  pub channels : s.channels < 2 ^ 16
  pub config : length s.config ≤ 65536

-- A sample that a record can state: its times fit, and its payload is neither empty nor too long.
pub record StatableSample (s : Sample) : Type 0 where
  pub dts : s.dts_us < 2 ^ 64
  pub pts : s.pts_us < 2 ^ 64
  pub some : 1 ≤ length s.bytes
  pub bound : length s.bytes ≤ 16777216
