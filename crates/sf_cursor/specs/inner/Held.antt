-- The samples of a track as they follow one another in its chunks.
use Rattle.std.specs.Prelude.{◌≡◌, ℕ, ◌+◌, ◌-◌, ◌<◌, nat_le, min, List, length, take, drop, sum, get_or, Some}
use Rattle.std.specs.List.{slice_get}
use Rattle.sf_meaning.specs.Steps.{◌>>◌, check}
use Rattle.sf_meaning.specs.Tracks.{Step}
use Rattle.sf_meaning.specs.declared.faults.MovieFault.TheVariants.{SampleOutside, SampleTooLarge}
use Rattle.sf_meaning.specs.declared.movie.PlainSample.{PlainSample}

-- a sample of a track at a place lies in a file of so many bytes, and isn't too long
abbrev pub ends_held : ℕ → ℕ → ℕ → ℕ → ℕ → Step (Unit {0})
ends_held bytes track i place size = do
  check (nat_le (place + size) bytes) (SampleOutside track i)
  check (nat_le size 67108864) (SampleTooLarge track i size)

-- Sample i begins at a place and has a size.
pub record IsThere (ss : List PlainSample) (i at_place of_size : ℕ) : Type 0 where
  pub s : PlainSample
  pub at : slice_get ss i ≡ Some s
  pub place : s.place ≡ at_place
  pub size : s.size ≡ of_size

-- so many samples, from one on, follow one another from a place on
abbrev pub AreInChunk : ℕ → List ℕ → ℕ → ℕ → List PlainSample → Type 0
AreInChunk place sizes from count ss = (j : ℕ) → j < count → IsThere ss (from + j) (place + sum (take j (drop from sizes))) (get_or sizes (from + j) 0)

-- so do those of each chunk, where the chunks have so many samples and begin at these places
abbrev pub AreInChunks : List ℕ → List ℕ → List ℕ → List PlainSample → Type 0
AreInChunks counts places sizes ss =
    (c : ℕ) → AreInChunk (get_or places c 0) sizes (sum (take c counts)) (min (get_or counts c 0) (length sizes - sum (take c counts))) ss
