-- What the tables keep of samples and chunks, and the rows that this stands for.
use Rattle.std.specs.Prelude.{ℕ, ◌+◌, ◌^◌, ◌<◌, ◌≤◌, List, [], ◌∷◌, ◌++◌, codes, map, take, drop}
use Rattle.sf_box.specs.Parts.{Part}
use Rattle.sf_meaning.specs.Stbl.{Timed, Row, deltas_of, stts_body, ctts_parts, stss_parts, stsz_body, stsc_body, places_part, stsd_body}
use Rattle.sf_tables.specs.declared.kept.KeptSample.{KeptSample}
use Rattle.sf_tables.specs.declared.kept.KeptChunk.{KeptChunk}

-- what the tables say of a kept sample
abbrev pub timed_kept : KeptSample → Timed
timed_kept s = record { decode = s.decode; compose = s.compose; sync = s.sync; size = s.size }

-- what is listed of kept samples: when they are decoded, and how many bytes they have
abbrev pub ticks_kept : List KeptSample → List ℕ
ticks_kept ss = map (λ s. s.decode) (map timed_kept ss)

abbrev pub sizes_kept : List KeptSample → List ℕ
sizes_kept ss = map (λ s. s.size) (map timed_kept ss)

-- what is listed of kept chunks: how many samples they have, and where they begin
abbrev pub counts_kept : List KeptChunk → List ℕ
counts_kept chunks = map (λ c. c.count) chunks

abbrev pub places_kept : List KeptChunk → List ℕ
places_kept chunks = map (λ c. c.place) chunks

-- the rows of chunks, each with so many of the samples
abbrev pub rows_kept : List KeptChunk → List Timed → List Row
rows_kept [] ss = []
rows_kept (c ∷ cs) ss = record { place = c.place; samples = take c.count ss } ∷ rows_kept cs (drop c.count ss)

-- the boxes of a sample table box that list samples, and those that list chunks
abbrev pub of_samples : List Timed → List Part
of_samples ss =
    (codes "stts", stts_body (deltas_of (map (λ s. s.decode) ss)))
    ∷ (ctts_parts ss ++ (stss_parts ss ++ (codes "stsz", stsz_body (map (λ s. s.size) ss)) ∷ []))

abbrev pub of_chunks : List ℕ → List ℕ → List Part
of_chunks places counts = (codes "stsc", stsc_body counts) ∷ places_part places ∷ []

-- the boxes of a sample table box, from what it lists
abbrev pub stbl_from : List ℕ → List Timed → List ℕ → List ℕ → List Part
stbl_from entry ss places counts = (codes "stsd", stsd_body entry) ∷ (of_samples ss ++ of_chunks places counts)

-- A composition offset is a signed number of 32 bits (8.6.1.3).
pub record OffsetFits (s : Timed) : Type 0 where
  pub late : s.compose < s.decode + 2 ^ 31
  pub early : s.decode ≤ s.compose + 2 ^ 31
