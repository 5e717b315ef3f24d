-- The sample table box of a track as it is written (8.5.1), from the chunks of the track as they stand in the file.
use Rattle.std.specs.Prelude.{ℕ, ◌+◌, ◌-◌, ◌^◌, ◌%◌, ◌==◌, nat_lt, nat_le, Bool, List, [], ◌∷◌, ◌++◌, length, map, sum, codes, if◌then◌else◌}
use Rattle.std.specs.List.{flat_map, list_all}
use Rattle.sf_box.specs.Boxes.{box_of, be32, be64}
use Rattle.sf_box.specs.Parts.{Part, tiled}
pub use Rattle.sf_entry.specs.Mp4a.{zeros}
use Rattle.sf_meaning.specs.Tables.{Spread}

-- What the tables say of a sample: its ticks, whether it is sync, and how many bytes it has.
pub record Timed : Type 0 where
  pub decode : ℕ
  pub compose : ℕ
  pub sync : Bool
  pub size : ℕ

-- A chunk in a file: where it begins, and its samples.
pub record Row : Type 0 where
  pub place : ℕ
  pub samples : List Timed

-- What is listed of the chunks of a track.
abbrev pub timed_of : List Row → List Timed
timed_of rows = flat_map (λ r. r.samples) rows

abbrev pub ticks_of : List Row → List ℕ
ticks_of rows = map (λ s. s.decode) (timed_of rows)

abbrev pub sizes_in_rows : List Row → List ℕ
sizes_in_rows rows = map (λ s. s.size) (timed_of rows)

abbrev pub counts_in_rows : List Row → List ℕ
counts_in_rows rows = map (λ r. length r.samples) rows

abbrev pub places_in_rows : List Row → List ℕ
places_in_rows rows = map (λ r. r.place) rows

abbrev pub in_front : ℕ → List (ℕ × ℕ) → List (ℕ × ℕ)
in_front x [] = (1, x) ∷ []
in_front x (run ∷ runs) = if x == run.1 then (run.0 + 1, x) ∷ runs else (1, x) ∷ run ∷ runs

-- runs of equal neighbours, as few as the list allows (8.6.1.2)
abbrev pub runs_of : List ℕ → List (ℕ × ℕ)
runs_of [] = []
runs_of (x ∷ xs) = in_front x (runs_of xs)

abbrev pub differences : ℕ → ℕ → List ℕ → List ℕ
differences last t [] = last ∷ []
differences last t (u ∷ ts) = (u - t) ∷ differences (u - t) u ts

-- The delta of each sample: the next one's decode time less its own; the last one's is the one before, and 0 for an only sample.
abbrev pub deltas_of : List ℕ → List ℕ
deltas_of [] = []
deltas_of (t ∷ ts) = differences 0 t ts

-- how long a track is, in ticks
abbrev pub duration_in_rows : List Row → ℕ
duration_in_rows rows = sum (deltas_of (ticks_of rows))

-- a composition offset, from the decode tick to the composition tick, in two's complement of 32 bits (8.6.1.3)
abbrev pub offset_word : Timed → ℕ
offset_word s = (s.compose + 2 ^ 32 - s.decode) % 2 ^ 32

abbrev pub offset_words : List Timed → List ℕ
offset_words ss = map offset_word ss

-- whether each sample is shown when it is decoded; whether none is shown before it is decoded
abbrev pub all_in_time : List Timed → Bool
all_in_time ss = list_all (λ s. s.compose == s.decode) ss

abbrev pub none_early : List Timed → Bool
none_early ss = list_all (λ s. nat_le s.decode s.compose) ss

abbrev pub all_sync : List Timed → Bool
all_sync ss = list_all (λ s. s.sync) ss

-- the numbers of the sync samples, where the first sample has this number
abbrev pub sync_from : ℕ → List Timed → List ℕ
sync_from number [] = []
sync_from number (s ∷ ss) = if s.sync then number ∷ sync_from (number + 1) ss else sync_from (number + 1) ss

-- the numbers of the sync samples, from 1 (8.6.2)
abbrev pub sync_numbers : List Timed → List ℕ
sync_numbers ss = sync_from 1 ss

-- the size that all samples have, or 0
abbrev pub uniform : List ℕ → ℕ
uniform [] = 0
uniform (x ∷ xs) = if list_all (λ y. y == x) xs then x else 0

-- an entry where a chunk's count isn't the one before
abbrev pub spread_from : ℕ → ℕ → List ℕ → List Spread
spread_from number last [] = []
spread_from number last (c ∷ counts) =
    if c == last then spread_from (number + 1) c counts
    else record { first = number; per = c; description = 1 } ∷ spread_from (number + 1) c counts

-- whether each place is a number of four bytes
abbrev pub all_near : List ℕ → Bool
all_near places = list_all (λ p. nat_lt p (2 ^ 32)) places

abbrev pub run_bytes : ℕ × ℕ → List ℕ
run_bytes run = be32 run.0 ++ be32 run.1

abbrev pub spread_bytes : Spread → List ℕ
spread_bytes e = be32 e.first ++ (be32 e.per ++ be32 e.description)

-- the bodies of the tables: version and flags, a count, and the entries (8.6.1.2, 8.6.1.3, 8.6.2, 8.7.3 to 8.7.5)
unfoldable pub stts_body : List ℕ → List ℕ
stts_body deltas = zeros 4 ++ (be32 (length (runs_of deltas)) ++ flat_map run_bytes (runs_of deltas))

unfoldable pub ctts_body : ℕ → List ℕ → List ℕ
ctts_body version words = (version ∷ zeros 3) ++ (be32 (length (runs_of words)) ++ flat_map run_bytes (runs_of words))

unfoldable pub stss_body : List ℕ → List ℕ
stss_body numbers = zeros 4 ++ (be32 (length numbers) ++ flat_map be32 numbers)

unfoldable pub stsz_body : List ℕ → List ℕ
stsz_body sizes =
    zeros 4 ++ (be32 (uniform sizes) ++ (be32 (length sizes) ++ (if uniform sizes == 0 then flat_map be32 sizes else [])))

unfoldable pub stsc_body : List ℕ → List ℕ
stsc_body counts = zeros 4 ++ (be32 (length (spread_from 1 0 counts)) ++ flat_map spread_bytes (spread_from 1 0 counts))

unfoldable pub stco_body : List ℕ → List ℕ
stco_body places = zeros 4 ++ (be32 (length places) ++ flat_map be32 places)

unfoldable pub co64_body : List ℕ → List ℕ
co64_body places = zeros 4 ++ (be32 (length places) ++ flat_map be64 places)

-- the sample description box: one entry (8.5.2)
abbrev pub stsd_body : List ℕ → List ℕ
stsd_body entry = (0 ∷ 0 ∷ 0 ∷ 0 ∷ 0 ∷ 0 ∷ 0 ∷ 1 ∷ []) ++ entry

-- the composition offsets, present where one isn't 0; version 1 where one is negative (8.6.1.3)
abbrev pub ctts_parts : List Timed → List Part
ctts_parts ss =
    if all_in_time ss then [] else ((codes "ctts", ctts_body (if none_early ss then 0 else 1) (offset_words ss)) ∷ [])

-- the sync samples, present where one sample isn't sync (8.6.2)
abbrev pub stss_parts : List Timed → List Part
stss_parts ss = if all_sync ss then [] else ((codes "stss", stss_body (sync_numbers ss)) ∷ [])

-- the places of the chunks, of eight bytes where one needs them (8.7.5)
abbrev pub places_part : List ℕ → Part
places_part places = if all_near places then (codes "stco", stco_body places) else (codes "co64", co64_body places)

-- the boxes of a sample table box with this sample entry
abbrev pub stbl_parts : List ℕ → List Row → List Part
stbl_parts entry rows =
    (codes "stsd", stsd_body entry)
    ∷ (codes "stts", stts_body (deltas_of (ticks_of rows)))
    ∷ (ctts_parts (timed_of rows)
    ++ (stss_parts (timed_of rows)
    ++ ((codes "stsz", stsz_body (sizes_in_rows rows))
    ∷ (codes "stsc", stsc_body (counts_in_rows rows))
    ∷ places_part (places_in_rows rows) ∷ [])))

-- the sample table box of rows
unfoldable pub stbl_box : List ℕ → List Row → List ℕ
stbl_box entry rows = box_of (codes "stbl") (tiled (stbl_parts entry rows))
