-- What is listed of chunks.
use Rattle.std.specs.Prelude.{List}
use Rattle.std.specs.List.{flat_map}
use Rattle.sf_tick.specs.declared.types.Stored.{Stored}
use Rattle.sf_tick.specs.declared.types.Chunk.{Chunk}

-- the samples of a list of chunks, in order
abbrev pub samples_of : List Chunk → List Stored
samples_of chunks = flat_map (λ c. c.samples) chunks
