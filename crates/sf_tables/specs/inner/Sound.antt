-- What holds of the parts of tables at every moment.
use Rattle.std.specs.Prelude.{◌≡◌, ℕ, zero, suc, ◌-◌, ◌^◌, ◌≤◌, ◌<◌, List, length, map, sum, None, vec_len, vec_capacity}
use Rattle.std.specs.Global.{Vec}
use Rattle.sf_tables.specs.declared.kept.KeptSample.{KeptSample}
use Rattle.sf_tables.specs.declared.kept.KeptChunk.{KeptChunk}
use Rattle.sf_tables.specs.declared.totals.SampleTotals.{SampleTotals}
use Rattle.sf_tables.specs.declared.totals.ChunkTotals.{ChunkTotals}
use Rattle.sf_tables.specs.inner.Kept.{timed_kept, counts_kept, places_kept}
use Rattle.sf_tables.specs.Rows.{AllHaveRoom}
use Rattle.sf_tables.specs.inner.Totals.{CountsSamples, CountsChunks, Steady}

-- for how many further elements there is room
abbrev pub spare_of : {A : Type 0} → Vec A → ℕ
spare_of list = vec_capacity list - vec_len list

-- the samples of one further chunk for which there is room, where there is room for so many samples and chunks
abbrev pub room_for : ℕ → ℕ → ℕ
room_for samples zero = 0
room_for samples (suc chunks) = samples

-- The totals are those of the samples and chunks, none outgrows their numbers, each sample is in a chunk, and each has room after the one before it.
pub record Sound (s : SampleTotals) (c : ChunkTotals) (samples : List KeptSample) (chunks : List KeptChunk) : Type 0 where
  pub of_samples : CountsSamples s (map timed_kept samples)
  pub of_chunks : CountsChunks c (places_kept chunks) (counts_kept chunks)
  pub steady : Steady s
  pub spreads : c.spreads ≤ c.chunks
  pub whole : sum (counts_kept chunks) ≡ length samples
  pub some : length chunks ≤ length samples
  pub few : length samples < 2 ^ 32
  pub room : AllHaveRoom None (map timed_kept samples)
