-- What a gatherer is, to those who use it, and which samples it stands for.
use Rattle.std.specs.Prelude.{◌≡◌, ◌+◌, false, List, [], ◌∷◌, ◌++◌, Option, Some, None, if◌then◌else◌}
use Rattle.sf_tick.specs.declared.types.Stored.{Stored}
use Rattle.sf_tick.specs.declared.types.Chunk.{Chunk}
use Rattle.sf_gather.specs.declared.given.Given.{Given}
use Rattle.sf_gather.specs.declared.given.LastSample.{LastSample}
use Rattle.sf_gather.specs.Accepting.{kept_of, last_of}
use Rattle.sf_gather.specs.Chunks.{belongs, chunk_of, chunks, closed, marked}
use Rattle.sf_gather.specs.Proper.{AllFollow}

-- What a gatherer was given, its chunk so far, and the last accepted sample.
pub record Gathered : Type 0 where
  pub given : Given
  pub chunk : Chunk
  pub last : Option LastSample

-- a gatherer after one more sample that belongs to its chunk
abbrev pub grown : Gathered → Stored → Gathered
grown gatherer sample =
    record { given = gatherer.given; chunk = chunk_of gatherer.given gatherer.chunk.number false (gatherer.chunk.samples ++ sample ∷ []); last = Some (kept_of sample) }

-- a gatherer after one more sample that begins the next chunk
abbrev pub begun : Gathered → Stored → Gathered
begun gatherer sample =
    record { given = gatherer.given; chunk = chunk_of gatherer.given (gatherer.chunk.number + 1) false (sample ∷ []); last = Some (kept_of sample) }

-- What taking a sample does to a gatherer, and which chunk it hands out.
pub record AfterSample (old : Gathered) (sample : Stored) (new : Gathered) (chunk : Option Chunk) : Type 0 where
  pub after : new ≡ (if belongs old.given old.chunk.samples sample then grown old sample else begun old sample)
  pub handed : chunk ≡ (if belongs old.given old.chunk.samples sample then None else Some old.chunk)

-- A gatherer stands for a list of accepted samples: its chunk is the last one of theirs without the mark, and its last sample is theirs.
pub record Stands (samples : List Stored) (gatherer : Gathered) : Type 0 where
  pub accepted : AllFollow gatherer.given.scale None samples
  pub chunks : chunks gatherer.given samples ≡ closed gatherer.given samples ++ marked gatherer.chunk ∷ []
  pub unmarked : gatherer.chunk.last ≡ false
  pub last : gatherer.last ≡ last_of samples
