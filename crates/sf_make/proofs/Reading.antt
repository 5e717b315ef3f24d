-- A coded sample file that was written is read back: its header, each record, and the end.
use Rattle.std.proofs.Common.{◌≡◌, ℕ, zero, suc, ◌+◌, ◌%◌, ◌≤◌, ◌<◌, ◌^◌, Bool, true, false, ◌||◌, ◌==◌, List, [], ◌∷◌, ◌++◌, length, take, drop, codes, Some, None, Ok, refl, ap, ◌∙◌, append_assoc, arith}
use Rattle.std.specs.List.{slice_index, flat_map, AllByRecursion}
use Rattle.std.specs.Str.{bytes_eq}
use Rattle.std.proofs.lemmas.Bool.Decides.{nat_tests}
use Rattle.std.proofs.lemmas.List.{length-append, drop_at, take_at}
use Rattle.std.proofs.lemmas.Nat.{from_be_bytes-to_be_bytes_2, from_be_bytes-to_be_bytes_4, from_be_bytes-to_be_bytes_8}
use Rattle.sf_tick.specs.declared.types.Kind.{Kind}
use Rattle.sf_tick.specs.declared.types.Kind.TheVariants.{Avc, Aac}
use Rattle.sf_tick.specs.declared.types.Setup.{Setup}
use Rattle.sf_tick.specs.declared.types.Sample.{Sample}
use Rattle.sf_box.specs.Boxes.{be16, be32, be64, word16, word32, word64}
use Rattle.sf_coded.specs.declared.fields.Header.{Header}
use Rattle.sf_coded.specs.declared.fields.Record.{Record}
use Rattle.sf_coded.specs.declared.fields.Turn.TheVariants.{Next}
use Rattle.sf_coded.specs.CodedFile.{kind_of, header_fields, header_in, setup_of, record_fields, record_in, sample_of, with_sample, records, records_at, coded}
use Rattle.sf_make.specs.Writing.{kind_code, record_flags, header_bytes, record_bytes, coded_bytes, coded_samples, StatableSetup, StatableSample}

-- The record.

-- the fields of a written record
abbrev fields_of : Sample → Record
fields_of s = record { sync = s.sync; dts_us = s.dts_us; pts_us = s.pts_us; len = length s.bytes }

flags_back : (b : Bool) → (record_flags b % 2 == 1) ≡ b
flags_back true = refl
flags_back false = refl

len_back : (s : Sample) (rest : List ℕ) → length s.bytes < 2 ^ 32 → word32 (drop 18 (record_bytes s ++ rest)) ≡ length s.bytes
unfolding record_bytes be64 be32 word32
len_back s rest lt = from_be_bytes-to_be_bytes_4 (length s.bytes) lt

dts_back : (s : Sample) (rest : List ℕ) → s.dts_us < 2 ^ 64 → word64 (drop 2 (record_bytes s ++ rest)) ≡ s.dts_us
unfolding record_bytes be64 word64
dts_back s rest lt = from_be_bytes-to_be_bytes_8 s.dts_us lt

pts_back : (s : Sample) (rest : List ℕ) → s.pts_us < 2 ^ 64 → word64 (drop 10 (record_bytes s ++ rest)) ≡ s.pts_us
unfolding record_bytes be64 word64
pts_back s rest lt = from_be_bytes-to_be_bytes_8 s.pts_us lt

tag_back : (s : Sample) (rest : List ℕ) → slice_index (record_bytes s ++ rest) 0 ≡ 1
unfolding record_bytes
tag_back s rest = refl

sync_back : (s : Sample) (rest : List ℕ) → (slice_index (record_bytes s ++ rest) 1 % 2 == 1) ≡ s.sync
unfolding record_bytes
sync_back s rest = flags_back s.sync

payload_back : (s : Sample) (rest : List ℕ) → drop 22 (record_bytes s ++ rest) ≡ s.bytes ++ rest
unfolding record_bytes be64 be32
payload_back s rest = refl

pub length-record : (s : Sample) → length (record_bytes s) ≡ 22 + length s.bytes
unfolding record_bytes be64 be32
length-record s = omega arith

fields_back : (s : Sample) (rest : List ℕ) → StatableSample s → record_fields (record_bytes s ++ rest) ≡ fields_of s
fields_back s rest fits =
    rw (sync_back s rest, dts_back s rest fits.dts, pts_back s rest fits.pts, len_back s rest (omega (arith, fits.bound))) refl

-- a record that is whole
record_taken : (at room n : ℕ) (first : List ℕ) (r : Record) → slice_index first 0 ≡ 1 → word32 (drop 18 first) ≡ n → record_fields first ≡ r → 1 ≤ n → n ≤ 16777216 → 22 + n ≤ room
    → record_in at room first ≡ Ok (Next r)
record_taken at room n first r tag len fields some bound within = grind (arith, nat_tests)

record_back : (at : ℕ) (s : Sample) (rest : List ℕ) → StatableSample s → record_in at (length (record_bytes s ++ rest)) (record_bytes s ++ rest) ≡ Ok (Next (fields_of s))
record_back at s rest fits =
    record_taken at (length (record_bytes s ++ rest)) (length s.bytes) (record_bytes s ++ rest) (fields_of s) (tag_back s rest) (len_back s rest (omega (arith, fits.bound))) (fields_back s rest fits)
    fits.some fits.bound (omega (arith, length-append (record_bytes s) rest, length-record s))

sample_back : (at : ℕ) (s : Sample) (rest : List ℕ) → sample_of at (record_bytes s ++ rest) (fields_of s) ≡ record { at = at; sample = s }
sample_back at s rest =
    ap (λ (bytes : List ℕ). record { at = at; sample = record { dts_us = s.dts_us; pts_us = s.pts_us; sync = s.sync; bytes = bytes } })
    (ap (take (length s.bytes)) (payload_back s rest) ∙ take_at s.bytes rest (length s.bytes) refl)

-- The records, one after the other, and the end.

records_back : (n at : ℕ) (samples : List Sample) → AllByRecursion StatableSample samples → length samples < n
    → records n at (flat_map record_bytes samples ++ 0 ∷ []) ≡ record { samples = coded_samples at samples; end = None }
unfolding records coded_samples
records_back zero at samples fit lt = absurd (omega arith)
records_back (suc n) at [] fit lt = refl
records_back (suc n) at (s ∷ samples) fit lt =
    let rest : List ℕ = flat_map record_bytes samples ++ 0 ∷ [] in
    let bytes : flat_map record_bytes (s ∷ samples) ++ 0 ∷ [] ≡ record_bytes s ++ rest = append_assoc (record_bytes s) (flat_map record_bytes samples) (0 ∷ []) in
    rw (bytes, record_back at s rest (fit.0), sample_back at s rest, drop_at (record_bytes s) rest (22 + length s.bytes) (length-record s))
    (ap (with_sample (record { at = at; sample = s })) (records_back n (at + (22 + length s.bytes)) samples (fit.1) (omega (arith, lt))))

few_samples : (samples : List Sample) → length samples ≤ length (flat_map record_bytes samples)
few_samples [] = omega arith
few_samples (s ∷ samples) = omega (arith, length-append (record_bytes s) (flat_map record_bytes samples), length-record s, few_samples samples)

all_back : (at : ℕ) (samples : List Sample) → AllByRecursion StatableSample samples
    → records_at at (flat_map record_bytes samples ++ 0 ∷ []) ≡ record { samples = coded_samples at samples; end = None }
unfolding records_at
all_back at samples fit =
    records_back (suc (length (flat_map record_bytes samples ++ 0 ∷ []))) at samples fit
    (omega (arith, length-append (flat_map record_bytes samples) (0 ∷ []), few_samples samples))

-- The header.

-- the fields of a written header
abbrev header_of : Setup → Header
header_of s = record { kind = s.kind; scale = s.scale; width = s.width; height = s.height; channels = s.channels; config_len = length s.config }

pub length-header : (s : Setup) → length (header_bytes s) ≡ 22 + length s.config
unfolding header_bytes be16 be32
length-header s = omega arith

magic_back : (s : Setup) (rest : List ℕ) → bytes_eq (take 4 (header_bytes s ++ rest)) (codes "SFCS") ≡ true
unfolding header_bytes
magic_back s rest = refl

version_back : (s : Setup) (rest : List ℕ) → word16 (drop 4 (header_bytes s ++ rest)) ≡ 1
unfolding header_bytes be16 word16
version_back s rest = from_be_bytes-to_be_bytes_2 1 (omega arith)

code_back : (s : Setup) (rest : List ℕ) → word16 (drop 6 (header_bytes s ++ rest)) ≡ kind_code s.kind
unfolding header_bytes be16 word16
code_back s rest = from_be_bytes-to_be_bytes_2 (kind_code s.kind) (small s.kind)
  where
    small : (kind : Kind) → kind_code kind < 2 ^ 16
    small Avc = omega arith
    small Aac = omega arith

scale_back : (s : Setup) (rest : List ℕ) → s.scale < 2 ^ 32 → word32 (drop 8 (header_bytes s ++ rest)) ≡ s.scale
unfolding header_bytes be16 be32 word32
scale_back s rest lt = from_be_bytes-to_be_bytes_4 s.scale lt

width_back : (s : Setup) (rest : List ℕ) → s.width < 2 ^ 16 → word16 (drop 12 (header_bytes s ++ rest)) ≡ s.width
unfolding header_bytes be16 be32 word16
width_back s rest lt = from_be_bytes-to_be_bytes_2 s.width lt

height_back : (s : Setup) (rest : List ℕ) → s.height < 2 ^ 16 → word16 (drop 14 (header_bytes s ++ rest)) ≡ s.height
unfolding header_bytes be16 be32 word16
height_back s rest lt = from_be_bytes-to_be_bytes_2 s.height lt

channels_back : (s : Setup) (rest : List ℕ) → s.channels < 2 ^ 16 → word16 (drop 16 (header_bytes s ++ rest)) ≡ s.channels
unfolding header_bytes be16 be32 word16
channels_back s rest lt = from_be_bytes-to_be_bytes_2 s.channels lt

config_len_back : (s : Setup) (rest : List ℕ) → length s.config < 2 ^ 32 → word32 (drop 18 (header_bytes s ++ rest)) ≡ length s.config
unfolding header_bytes be16 be32 word32
config_len_back s rest lt = from_be_bytes-to_be_bytes_4 (length s.config) lt

config_back : (s : Setup) (rest : List ℕ) → drop 22 (header_bytes s ++ rest) ≡ s.config ++ rest
unfolding header_bytes be16 be32
config_back s rest = refl

kind_back : (kind : Kind) → kind_of (kind_code kind) ≡ kind
kind_back Avc = refl
kind_back Aac = refl

code_known : (kind : Kind) → (kind_code kind == 1 || kind_code kind == 2) ≡ true
code_known Avc = refl
code_known Aac = refl

header_fields_back : (s : Setup) (rest : List ℕ) → StatableSetup s → header_fields (header_bytes s ++ rest) ≡ header_of s
header_fields_back s rest fits =
    rw (
      code_back s rest,
      kind_back s.kind,
      scale_back s rest fits.scale,
      width_back s rest fits.width,
      height_back s rest fits.height,
      channels_back s rest fits.channels,
      config_len_back s rest (omega (arith, fits.config)),
    ) refl

-- a header that is whole
header_taken : (len k n : ℕ) (first : List ℕ) (h : Header) → bytes_eq (take 4 first) (codes "SFCS") ≡ true → word16 (drop 4 first) ≡ 1 → word16 (drop 6 first) ≡ k
    → (k == 1 || k == 2) ≡ true → word32 (drop 18 first) ≡ n → n ≤ 65536 → 22 + n ≤ len → header_fields first ≡ h → header_in len first ≡ Ok h
header_taken len k n first h magic version code known config bound within fields = grind (arith, nat_tests)

header_back : (s : Setup) (rest : List ℕ) → StatableSetup s → header_in (length (header_bytes s ++ rest)) (header_bytes s ++ rest) ≡ Ok (header_of s)
header_back s rest fits =
    header_taken (length (header_bytes s ++ rest)) (kind_code s.kind) (length s.config) (header_bytes s ++ rest) (header_of s) (magic_back s rest) (version_back s rest) (code_back s rest) (code_known s.kind)
    (config_len_back s rest (omega (arith, fits.config))) fits.config (omega (arith, length-append (header_bytes s) rest, length-header s)) (header_fields_back s rest fits)

setup_back : (s : Setup) (rest : List ℕ) → setup_of (header_bytes s ++ rest) (header_of s) ≡ s
setup_back s rest =
    ap (λ (bytes : List ℕ). record { kind = s.kind; scale = s.scale; width = s.width; height = s.height; channels = s.channels; config = bytes })
    (ap (take (length s.config)) (config_back s rest) ∙ take_at s.config rest (length s.config) refl)

-- The file.

pub coded_back : (setup : Setup) (samples : List Sample) → StatableSetup setup → AllByRecursion StatableSample samples
    → coded (coded_bytes setup samples) ≡ record { setup = Some setup; samples = coded_samples (22 + length setup.config) samples; end = None }
unfolding coded coded_bytes
coded_back setup samples fits fit =
    let rest : List ℕ = flat_map record_bytes samples ++ 0 ∷ [] in
    rw (header_back setup rest fits, setup_back setup rest, drop_at (header_bytes setup) rest (22 + length setup.config) (length-header setup), all_back (22 + length setup.config) samples fit) refl
