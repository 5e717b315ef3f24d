-- Proper lists of chunks: those that a track's files can hold.
use Rattle.std.specs.Prelude.{◌≡◌, ℕ, ◌+◌, ◌^◌, ◌<◌, ◌≤◌, Bool, false, List, [], ◌∷◌, length, Option, Some, None, IfSome, IsTrue}
use Rattle.sf_tick.specs.Tick.{tick}
pub use Rattle.sf_tick.specs.Samples.{samples_of}
use Rattle.sf_tick.specs.declared.types.Stored.{Stored}
use Rattle.sf_tick.specs.declared.types.Chunk.{Chunk}
use Rattle.sf_gather.specs.declared.given.LastSample.{LastSample}
use Rattle.sf_gather.specs.Accepting.{kept_of, last_of, is_offset}
use Rattle.sf_gather.specs.Chunks.{first_us}

-- A sample can stand after the last one, at so many ticks a second.
pub record Follows (scale : ℕ) (last : Option LastSample) (sample : Stored) : Type 0 where
  pub time : sample.dts_us ≤ 2 ^ 48
  pub rises : IfSome last (λ l. l.dts_us ≤ sample.dts_us)
  pub decode : sample.decode ≡ tick sample.dts_us scale
  pub near : IfSome last (λ l. sample.decode < l.decode + 2 ^ 32)
  pub offset : IsTrue (is_offset sample.decode sample.compose)
  pub compose : sample.compose ≤ tick (2 ^ 48) scale
  pub some : 1 ≤ length sample.bytes
  pub size : length sample.bytes ≤ 2 ^ 25

-- Each sample of a list can stand after the one before it, and the first one after the last of an earlier list.
abbrev pub AllFollow : ℕ → Option LastSample → List Stored → Type 0
AllFollow scale last [] = Unit {0}
AllFollow scale last (sample ∷ samples) = Follows scale last sample × AllFollow scale (Some (kept_of sample)) samples

-- A chunk by itself, of track t and with number n; only a marked one may be empty.
pub record IsChunk (t n : ℕ) (chunk : Chunk) : Type 0 where
  pub track : chunk.track ≡ t
  pub number : chunk.number ≡ n
  pub first : chunk.first_us ≡ first_us chunk.samples
  pub some : chunk.last ≡ false → 1 ≤ length chunk.samples
  pub few : length chunk.samples ≤ 4194304

-- the chunks are numbered from here on
abbrev pub AreChunks : ℕ → ℕ → List Chunk → Type 0
AreChunks track number [] = Unit {0}
AreChunks track number (chunk ∷ chunks) = IsChunk track number chunk × AreChunks track (number + 1) chunks

-- no chunk but the last is marked
abbrev pub OnlyLastMarked : List Chunk → Type 0
OnlyLastMarked [] = Unit {0}
OnlyLastMarked (chunk ∷ []) = Unit {0}
OnlyLastMarked (chunk ∷ next ∷ chunks) = (chunk.last ≡ false) × OnlyLastMarked (next ∷ chunks)

-- A list of chunks of one track that can be written.
pub record Proper (track scale : ℕ) (chunks : List Chunk) : Type 0 where
  pub each : AreChunks track 0 chunks
  pub mark : OnlyLastMarked chunks
  pub samples : AllFollow scale None (samples_of chunks)

-- whether the last of the chunks is marked
abbrev pub ends_marked : List Chunk → Bool
ends_marked [] = false
ends_marked (chunk ∷ []) = chunk.last
ends_marked (chunk ∷ next ∷ chunks) = ends_marked (next ∷ chunks)

-- What more chunks depend on: the number of the chunks, whether the last one is marked, and the last sample.
pub record Tail : Type 0 where
  pub count : ℕ
  pub ended : Bool
  pub last : Option LastSample

abbrev pub tail_of : List Chunk → Tail
tail_of chunks = record { count = length chunks; ended = ends_marked chunks; last = last_of (samples_of chunks) }

-- A chunk of a track keeps a list proper that has this tail.
pub record Extends (track scale : ℕ) (tail : Tail) (chunk : Chunk) : Type 0 where
  pub goes_on : tail.ended ≡ false
  pub itself : IsChunk track tail.count chunk
  pub samples : AllFollow scale tail.last chunk.samples
