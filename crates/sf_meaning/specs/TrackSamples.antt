-- The samples of a track, from its tables.
use Rattle.std.specs.Prelude.{ℕ, ℤ, pos, ◌+ℤ◌, ◌+◌, ◌*◌, ◌^◌, ◌==◌, nat_le, not, ◌&&◌, List, [], ◌∷◌, length, take, drop, map, sum, codes, Option, Ok, get_or}
use Rattle.sf_box.specs.Boxes.{Piece}
use Rattle.sf_box.specs.Parts.{child_piece}
use Rattle.sf_meaning.specs.Steps.{◌>>=◌, ◌>>◌, check, four}
use Rattle.sf_meaning.specs.Tables.{Spread, InChunk, expand, running, chunk_entries, placed, described, offset_in, is_sync}
use Rattle.sf_meaning.specs.SampleTables.{Table, needed_table, either_table, runs_told, offsets_told, spreads_told, places_told, syncs_told}
use Rattle.sf_meaning.specs.SampleSizes.{sizes_told}
use Rattle.sf_meaning.specs.declared.faults.TableFault.TheVariants.{Short, SumTooLarge, Description}
use Rattle.sf_meaning.specs.declared.movie.PlainSample.{PlainSample}

-- What the tables of a track say. A fault among the samples names the box of the deltas or that of the chunks by its place.
pub record Tables : Type 0 where
  -- of decode times, in ticks
  pub deltas : List ℕ
  pub stts_at : ℕ
  -- from decode times to composition times, in ticks
  pub offsets : List ℤ
  -- what holds in the chunks
  pub spreads : List Spread
  pub stsc_at : ℕ
  -- of the samples, in bytes
  pub sizes : List ℕ
  -- of the chunks, in bytes from the start of the file
  pub places : List ℕ
  -- the numbers of the sync samples, where they are told
  pub sync : Option (List ℕ)

-- the deltas of decode times, as runs, and the place of their box, among the boxes of a sample table box whose body begins at a place
unfoldable pub times_table : ℕ → List Piece → Table (ℕ × List (ℕ × ℕ))
times_table at ps = do
  stts ← needed_table at (codes "stts") ps
  runs ← runs_told stts
  Ok (stts.head.at, runs)

-- what holds in the chunks, and the place of the box that says it
unfoldable pub chunks_table : ℕ → List Piece → Table (ℕ × List Spread)
chunks_table at ps = do
  stsc ← needed_table at (codes "stsc") ps
  spreads ← spreads_told stsc
  Ok (stsc.head.at, spreads)

-- the sizes of the samples, by stsz, or by stz2 where there is none
unfoldable pub sizes_table : ℕ → List Piece → Table (List ℕ)
sizes_table at ps = do
  stsz ← either_table at (codes "stsz") (codes "stz2") ps
  sizes_told stsz

-- the places of the chunks, by stco, or by co64 where there is none
unfoldable pub places_table : ℕ → List Piece → Table (List ℕ)
places_table at ps = do
  stco ← either_table at (codes "stco") (codes "co64") ps
  places_told stco

-- the tables (8.5.1), each of them whole
unfoldable pub tables_told : ℕ → List Piece → Table Tables
tables_told at ps = do
  times ← times_table at ps
  offsets ← offsets_told (child_piece ps (codes "ctts"))
  chunks ← chunks_table at ps
  sizes ← sizes_table at ps
  places ← places_table at ps
  sync ← syncs_told (child_piece ps (codes "stss"))
  Ok (record {
    deltas = expand times.1;
    stts_at = times.0;
    offsets = map (offset_in offsets.0) (expand offsets.1);
    spreads = chunks.1;
    stsc_at = chunks.0;
    sizes = sizes;
    places = places;
    sync = sync;
  })

-- what holds in each chunk, and how many samples each has
abbrev pub chunks_of : Tables → List InChunk
chunks_of t = chunk_entries t.spreads (length t.places)

abbrev pub counts_of : Tables → List ℕ
counts_of t = map (λ c. c.per) (chunks_of t)

-- each sample's description is among so many entries
abbrev pub descriptions_known : ℕ → ℕ → List ℕ → Table (Unit {0})
descriptions_known at entries [] = Ok tt
descriptions_known at entries (d ∷ ds) = do
  check (not (d == 0) && nat_le d entries) (Description at d)
  descriptions_known at entries ds

-- the tables say each of so many samples, of a track with a timescale and so many sample entries
unfoldable pub samples_said : ℕ → ℕ → ℕ → Tables → Table (Unit {0})
samples_said scale entries n t = do
  check (nat_le n (length t.deltas)) (Short (four (codes "stts")) t.stts_at)
  check (nat_le (sum (take n t.deltas)) (2 ^ 40 * scale)) (SumTooLarge t.stts_at)
  check (nat_le n (sum (counts_of t))) (Short (four (codes "stsc")) t.stsc_at)
  descriptions_known t.stsc_at entries (take n (described (chunks_of t)))

-- One sample for each size, from a number on, with its decode time, its composition offset, which is 0 where none is told,
-- whether it is sync, its place and its description.
abbrev pub rows : ℕ → List ℕ → List ℕ → List ℤ → Option (List ℕ) → List ℕ → List ℕ → List PlainSample
rows number [] decodes offsets sync places descriptions = []
rows number (size ∷ sizes) [] offsets sync places descriptions = []
rows number (size ∷ sizes) (d ∷ decodes) offsets sync [] descriptions = []
rows number (size ∷ sizes) (d ∷ decodes) offsets sync (p ∷ places) [] = []
rows number (size ∷ sizes) (d ∷ decodes) offsets sync (p ∷ places) (e ∷ descriptions) =
    record { decode = d; compose = pos d +ℤ get_or offsets 0 (pos 0); sync = is_sync sync number; place = p; size = size; description = e }
    ∷ rows (number + 1) sizes decodes (drop 1 offsets) sync places descriptions

-- the samples that tables list, whatever they leave out
abbrev pub listed : Tables → List PlainSample
listed t = rows 1 t.sizes (running 0 t.deltas) t.offsets t.sync (placed t.places (counts_of t) t.sizes) (described (chunks_of t))

-- the samples that the tables of a track say, or the first thing that is wrong with them
unfoldable pub samples_in : ℕ → ℕ → Tables → Table (List PlainSample)
samples_in scale entries t = do
  samples_said scale entries (length t.sizes) t
  Ok (listed t)
