-- What a cursor reads, and which samples it can give.
use Rattle.std.specs.Prelude.{◌≡◌, ℕ, ◌+◌, ◌^◌, ◌<◌, ℤ, pos, neg_ℤ, ◌≤ℤ◌, ◌<ℤ◌, false, List, [], ◌∷◌, length, slice_get, IfSome, Some, Ok, if◌then◌else◌}
use Rattle.sf_box.specs.Boxes.{boxes}
use Rattle.sf_meaning.specs.Steps.{◌>>=◌, ◌>>◌, as_fault}
use Rattle.sf_meaning.specs.SampleTables.{Table}
use Rattle.sf_meaning.specs.TrackSamples.{Tables, tables_told, samples_said, listed}
use Rattle.sf_meaning.specs.declared.faults.TableFault.TheVariants.{Tiling}
use Rattle.sf_meaning.specs.declared.movie.PlainSample.{PlainSample}

-- the tables in the body of a sample table box (8.5.1), which begins at a place, of a track with a timescale and so many sample
-- entries, or the first thing that is wrong with them
unfoldable pub tables_in : ℕ → ℕ → ℕ → List ℕ → Table Tables
tables_in base scale entries stbl = do
  ps ← as_fault Tiling (boxes false base stbl)
  t ← tables_told base ps
  samples_said scale entries (length t.sizes) t
  Ok t

-- a sample begins below 2 ^ 64, as each does that lies in a file
abbrev pub HasPlace : Tables → ℕ → Type 0
HasPlace t i = IfSome (slice_get (listed t) i) (λ s. s.place < 2 ^ 64)

-- the numbers of the sync samples among samples that are numbered from one on
abbrev pub numbers_in : ℕ → List PlainSample → List ℕ
numbers_in i [] = []
numbers_in i (s ∷ ss) = if s.sync then i ∷ numbers_in (i + 1) ss else numbers_in (i + 1) ss

-- Sample i is composed at a tick, less than 2 ^ 32 ticks after it is decoded.
pub record IsComposed (t : Tables) (i : ℕ) (tick : ℤ) : Type 0 where
  pub s : PlainSample
  pub at : slice_get (listed t) i ≡ Some s
  pub compose : s.compose ≡ tick
  pub least : neg_ℤ (pos (2 ^ 31)) ≤ℤ tick
  pub most : tick <ℤ pos (s.decode + 2 ^ 32)
