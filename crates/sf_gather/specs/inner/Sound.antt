-- What holds of a gatherer's parts at every moment.
use Rattle.std.specs.Prelude.{◌≡◌, ℕ, ◌+◌, ◌^◌, ◌≤◌, false, Option}
use Rattle.std.specs.Option.{ForSome}
use Rattle.sf_tick.specs.declared.types.Chunk.{Chunk}
use Rattle.sf_gather.specs.declared.given.Given.{Given}
use Rattle.sf_gather.specs.declared.given.LastSample.{LastSample}
use Rattle.sf_gather.specs.Chunks.{chunk_of, size_of}

-- The chunk is an unmarked one of the track, its size is that of its samples, and the last sample isn't after the greatest time.
pub record Sound (given : Given) (chunk : Chunk) (size : ℕ) (last : Option LastSample) : Type 0 where
  pub ticks : 1 ≤ given.scale
  pub whole : chunk ≡ chunk_of given chunk.number false chunk.samples
  pub bytes : size ≡ size_of chunk.samples
  pub time : ForSome last (λ l. l.dts_us + given.options.start_us ≤ 2 ^ 48)
