-- What holds of the tables that a cursor keeps.
use Rattle.std.specs.Prelude.{◌≡◌, ℕ, ◌+◌, ◌-◌, ◌*◌, ◌/◌, ◌^◌, ◌<◌, ◌≤◌, min, List, length, take, map, sum, get_or, Option, Some, None, Ok}
use Rattle.sf_meaning.specs.inner.TrackTables.{IsInOrder, tables_view}
use Rattle.sf_meaning.specs.ReadTables.{sizes_view, spreads_as, time_runs}
use Rattle.sf_meaning.specs.SampleAt.{IsChunkOf}
use Rattle.sf_meaning.specs.Tables.{chunk_entries, expand}
use Rattle.sf_meaning.specs.TrackSamples.{samples_said}
use Rattle.sf_meaning.specs.declared.entries.ChunkAt.{ChunkAt}
use Rattle.sf_meaning.specs.declared.entries.ChunkRun.{ChunkRun}
use Rattle.sf_meaning.specs.declared.entries.TimeRun.{TimeRun}
use Rattle.sf_meaning.specs.declared.sizes.Sizes.{Sizes}
use Rattle.sf_meaning.specs.declared.sizes.Sizes.TheVariants.{Same, Each}
use Rattle.sf_meaning.specs.declared.track_tables.Tables.{Tables as HeldTables}
use Rattle.sf_cursor.specs.declared.ticks.Lasting.{Lasting}

-- how many samples each of so many chunks has, by the entries of the sample-to-chunk box
abbrev pub counts_in : List ChunkRun → ℕ → List ℕ
counts_in runs chunks = map (λ c. c.per) (chunk_entries (spreads_as runs) chunks)

-- The tables say each sample, of a track of some timescale and some entries.
pub record Sound (t : HeldTables) : Type 0 where
  pub order : IsInOrder t
  pub scale : ℕ
  pub entries : ℕ
  pub said : samples_said scale entries (length (sizes_view t.sizes)) (tables_view t) ≡ Ok tt

-- what stands for an entry that isn't there
abbrev pub no_run : ChunkRun
no_run = record { first = 0; per = 0; description = 0 }

-- an entry holds from its first chunk up to the next entry's. Chunks count from 0.
pub record HoldsFor (runs : List ChunkRun) (r c : ℕ) : Type 0 where
  pub there : r < length runs
  pub begun : (get_or runs r no_run).first ≤ c + 1
  pub next : r + 1 < length runs → c + 1 < (get_or runs (r + 1) no_run).first

-- it holds for a chunk, or for the one before it
pub record HoldsUpTo (runs : List ChunkRun) (r c : ℕ) : Type 0 where
  pub there : r < length runs
  pub begun : (get_or runs r no_run).first ≤ c + 1
  pub next : r + 1 < length runs → c < (get_or runs (r + 1) no_run).first

-- how many samples come before the first chunk of each entry, of so many chunks, or 2 ^ 32 - 1 where there are more
pub record AreChunkStarts (runs : List ChunkRun) (chunks : ℕ) (starts : List ℕ) : Type 0 where
  pub long : length starts ≡ length runs
  pub at : (r : ℕ) → r < length starts → get_or starts r 0 ≡ min (sum (take ((get_or runs r no_run).first - 1) (counts_in runs chunks))) 4294967295

-- how many samples the runs have
abbrev pub counts_of_runs : List TimeRun → List ℕ
counts_of_runs runs = map (λ r. r.count) runs

-- how many samples come before each of those that have so many, or 2 ^ 32 - 1 where there are more
pub record AreStarts (counts starts : List ℕ) : Type 0 where
  pub long : length starts ≡ length counts
  pub at : (k : ℕ) → k < length starts → get_or starts k 0 ≡ min (sum (take k counts)) 4294967295

-- how long the samples before a run last, in ticks, of the first 2 ^ 24 samples, of which so many are left
pub record Lasts (runs : List TimeRun) (k : ℕ) (l : Lasting) : Type 0 where
  pub few : l.left ≤ 16777216
  pub counted : min (sum (take k (counts_of_runs runs))) 16777216 ≡ 16777216 - l.left
  pub ticks : l.ticks ≡ sum (take (16777216 - l.left) (expand (time_runs runs)))
  pub bound : l.ticks ≤ (16777216 - l.left) * 2 ^ 32

-- how long the samples before every sixteenth run last, in ticks, of the first 2 ^ 24 samples
pub record AreTicks (runs : List TimeRun) (ticks : List ℕ) : Type 0 where
  pub long : length ticks ≡ length runs / 16 + 1
  pub at : (b : ℕ) → b < length ticks → get_or ticks b 0 ≡ sum (take (min (sum (take (16 * b) (counts_of_runs runs))) 16777216) (expand (time_runs runs)))
  pub bound : (b : ℕ) → b < length ticks → get_or ticks b 0 ≤ min (sum (take (16 * b) (counts_of_runs runs))) 16777216 * 2 ^ 32

-- Sample i is in a chunk, after so many samples of it.
pub record IsInChunk (runs : List ChunkRun) (places : List ℕ) (i earlier : ℕ) (chunk : ChunkAt) : Type 0 where
  pub c : ℕ
  pub is : IsChunkOf (counts_in runs (length places)) i c
  pub before : sum (take c (counts_in runs (length places))) + earlier ≡ i
  pub place : get_or places c 0 ≡ chunk.place
  pub description : get_or (map (λ e. e.description) (chunk_entries (spreads_as runs) (length places))) c 0 ≡ chunk.description

-- how many bytes the samples before every sixteenth one take
pub record AreSums (sizes sums : List ℕ) : Type 0 where
  pub long : length sums ≡ length sizes / 16 + 1
  pub at : (k : ℕ) → k < length sums → get_or sums k 0 ≡ sum (take (16 * k) sizes)
  pub bound : (k : ℕ) → k < length sums → get_or sums k 0 ≤ 16777216 * 2 ^ 32

-- they are kept where each sample has a size of its own
abbrev pub HaveSums : Sizes → List ℕ → Type 0
HaveSums (Same size count) sums = Unit {0}
HaveSums (Each sizes) sums = AreSums sizes sums

-- The tables of a cursor, with how many samples come before each run of deltas, how long they last, and how many samples come before
-- each run of composition offsets and before the first chunk of each entry, and how many bytes those before every sixteenth one take.
pub record Indexed (t : HeldTables) (time_starts ticks offset_starts chunk_starts sums : List ℕ) : Type 0 where
  pub sound : Sound t
  pub times : AreStarts (counts_of_runs t.deltas) time_starts
  pub lasting : AreTicks t.deltas ticks
  pub offsets : AreStarts (counts_of_runs t.offsets) offset_starts
  pub starts : AreChunkStarts t.spreads (length t.places) chunk_starts
  pub sizes : HaveSums t.sizes sums

-- Of sync samples by their numbers from 0 a table tells the numbers from 1, and after those only numbers above so many samples.
pub record Tells (table : List ℕ) (count : ℕ) (numbers : List ℕ) : Type 0 where
  pub long : length numbers ≤ length table
  pub at : (k : ℕ) → k < length numbers → get_or numbers k 0 + 1 ≡ get_or table k 0
  pub within : (k : ℕ) → k < length numbers → get_or table k 0 ≤ count
  pub past : (k : ℕ) → length numbers ≤ k → k < length table → count < get_or table k 0

-- Sync samples are all of so many samples.
pub record AreAll (count : ℕ) (numbers : List ℕ) : Type 0 where
  pub long : length numbers ≡ count
  pub at : (k : ℕ) → k < length numbers → get_or numbers k 0 ≡ k

-- these are the numbers, from 0, of the sync samples of so many samples: each is one where no numbers are told
abbrev pub AreSyncs : Option (List ℕ) → ℕ → List ℕ → Type 0
AreSyncs None count numbers = AreAll count numbers
AreSyncs (Some table) count numbers = Tells table count numbers

-- one is told at a place
abbrev pub IsTold : Option (List ℕ) → ℕ → Type 0
IsTold None k = Unit {0}
IsTold (Some table) k = (k < length table) × (0 < get_or table k 0)

-- its number, from 0
abbrev pub number_told : Option (List ℕ) → ℕ → ℕ
number_told None k = k
number_told (Some table) k = get_or table k 0 - 1
