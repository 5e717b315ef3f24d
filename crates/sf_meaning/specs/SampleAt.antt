-- One sample of a track, by itself, from the tables of the track (8.6.1, 8.6.2, 8.7.3 to 8.7.5).
use Rattle.std.specs.Prelude.{◌≡◌, ℕ, pos, ◌+ℤ◌, ◌+◌, ◌-◌, ◌<◌, ◌≤◌, List, take, drop, map, sum, get_or}
use Rattle.sf_meaning.specs.Tables.{is_sync}
use Rattle.sf_meaning.specs.TrackSamples.{Tables, chunks_of, counts_of}
use Rattle.sf_meaning.specs.declared.movie.PlainSample.{PlainSample}

-- A chunk is that of sample i: the least one whose counts up to it sum past i.
pub record IsChunkOf (counts : List ℕ) (i c : ℕ) : Type 0 where
  pub past : i < sum (take (c + 1) counts)
  pub least : (d : ℕ) → i < sum (take (d + 1) counts) → c ≤ d

-- how many samples the chunks before one have
abbrev pub before : Tables → ℕ → ℕ
before t c = sum (take c (counts_of t))

-- A sample is sample i of the tables, in chunk c: its place is the chunk's and the sizes of the earlier samples of the chunk,
-- its decode tick the deltas before it, its composition tick adds its offset, 0 where none is told, and its description is the chunk's.
pub record IsSampleAt (t : Tables) (i c : ℕ) (s : PlainSample) : Type 0 where
  pub chunk : IsChunkOf (counts_of t) i c
  pub place : s.place ≡ get_or t.places c 0 + sum (take (i - before t c) (drop (before t c) t.sizes))
  pub size : s.size ≡ get_or t.sizes i 0
  pub decode : s.decode ≡ sum (take i t.deltas)
  pub compose : s.compose ≡ pos s.decode +ℤ get_or t.offsets i (pos 0)
  pub sync : s.sync ≡ is_sync t.sync (i + 1)
  pub description : s.description ≡ get_or (map (λ e. e.description) (chunks_of t)) c 0
