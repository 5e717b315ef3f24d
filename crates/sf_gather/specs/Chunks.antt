-- The chunks of a list of samples (ISO/IEC 14496-12, 8.7.4: samples of one track that stand together).
use Rattle.std.specs.Prelude.{ℕ, ◌+◌, ◌-◌, ◌==◌, nat_lt, nat_le, Bool, true, false, not, ◌&&◌, List, [], ◌∷◌, ◌++◌, length, take, sum_by, if◌then◌else◌}
use Rattle.sf_tick.specs.declared.types.Kind.{Kind}
use Rattle.sf_tick.specs.declared.types.Kind.TheVariants.{Avc, Aac}
use Rattle.sf_tick.specs.declared.types.Stored.{Stored}
use Rattle.sf_tick.specs.declared.types.Chunk.{Chunk}
use Rattle.sf_gather.specs.declared.given.Given.{Given}

-- how many bytes samples have together
abbrev pub size_of : List Stored → ℕ
size_of samples = sum_by (λ s. length s.bytes) samples

-- when the first of the samples is decoded, in microseconds; 0 where there is none
abbrev pub first_us : List Stored → ℕ
first_us [] = 0
first_us (first ∷ more) = first.dts_us

-- whether it is a sync sample of video, at which a chunk begins (ISO/IEC 14496-12, 8.6.2)
abbrev pub is_video_sync : Kind → Bool → Bool
is_video_sync Avc sync = sync
is_video_sync Aac sync = false

-- The closing rule: whether a sample belongs to a chunk with these samples so far. To a chunk without samples each one belongs.
abbrev pub belongs : Given → List Stored → Stored → Bool
belongs given [] next = true
belongs given (first ∷ more) next =
    nat_le next.dts_us (first.dts_us + given.options.interleave_us) && not (given.options.interleave_us == 0) && not (is_video_sync given.kind next.sync)
    && nat_lt (size_of (first ∷ more)) 4194304

-- the chunk of this number with these samples
abbrev pub chunk_of : Given → ℕ → Bool → List Stored → Chunk
chunk_of given number last samples =
    record { track = given.track; number = number; first_us = first_us samples; samples = samples; last = last }

-- The chunks from a number on: of the samples so far, which are in one chunk, and of those that follow. Each sample that belongs to the chunk so far is in it, and the first one that doesn't begins the next chunk. The last chunk is marked.
abbrev pub chunks_from : Given → ℕ → List Stored → List Stored → List Chunk
chunks_from given number so_far [] = chunk_of given number true so_far ∷ []
chunks_from given number so_far (next ∷ rest) =
    if belongs given so_far next then chunks_from given number (so_far ++ next ∷ []) rest
    else chunk_of given number false so_far ∷ chunks_from given (number + 1) (next ∷ []) rest

-- The chunks of a list of samples. A list without samples gives one empty chunk.
abbrev pub chunks : Given → List Stored → List Chunk
chunks given samples = chunks_from given 0 [] samples

-- the longest front of a list whose every sample belongs to the chunk so far
abbrev pub front : Given → List Stored → List Stored → List Stored
front given so_far [] = []
front given so_far (next ∷ rest) = if belongs given so_far next then next ∷ front given (so_far ++ next ∷ []) rest else []

-- all chunks but the last one
abbrev pub without_last : List Chunk → List Chunk
without_last chunks = take (length chunks - 1) chunks

-- the chunks of a list of samples that more samples don't change
abbrev pub closed : Given → List Stored → List Chunk
closed given samples = without_last (chunks given samples)

-- a chunk with the mark of the last one
abbrev pub marked : Chunk → Chunk
marked chunk = record chunk { last = true }
