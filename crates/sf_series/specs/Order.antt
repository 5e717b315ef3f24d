-- The order in which chunks are written where every chunk waits that can be next.
use Rattle.std.specs.Prelude.{◌≡◌, ℕ, zero, suc, ◌<◌, ◌≤◌, ◌⊎◌, List, [], ◌∷◌, Option, Some, None}
use Rattle.sf_tick.specs.declared.types.Chunk.{Chunk}
use Rattle.sf_layout.specs.Layout.{track_chunks}
use Rattle.sf_interleave.specs.Waiting.{earliest_front, how_many, list_of, without_front}

-- one chunk comes before another: it begins earlier, or is of a lower track, or has a lower number
abbrev pub IsBefore : Chunk → Chunk → Type 0
IsBefore c d = (c.first_us < d.first_us) ⊎ ((c.first_us ≡ d.first_us) × ((c.track < d.track) ⊎ ((c.track ≡ d.track) × (c.number < d.number))))

-- each chunk comes before the next
abbrev pub Ordered : List Chunk → Type 0
Ordered [] = Unit {0}
Ordered (c ∷ []) = Unit {0}
Ordered (c ∷ d ∷ cs) = IsBefore c d × Ordered (d ∷ cs)

-- the chunks of a track's list are numbered upward, and none begins before the one ahead of it
abbrev pub Rises : List Chunk → Type 0
Rises [] = Unit {0}
Rises (c ∷ []) = Unit {0}
Rises (c ∷ d ∷ cs) = (c.first_us ≤ d.first_us) × (c.number < d.number) × Rises (d ∷ cs)

-- the chunks of lists in their order, each once
pub record InOrder (lists : List (List Chunk)) (order : List Chunk) : Type 0 where
  pub ordered : Ordered order
  pub whole : (track : ℕ) → track_chunks track order ≡ list_of lists track

-- a chunk, if there is one, and those that follow from it
abbrev pub with_more : Option Chunk → (Chunk → List Chunk) → List Chunk
with_more None more = []
with_more (Some chunk) more = chunk ∷ more chunk

-- the chunks that are picked of lists, so many times
abbrev pub picks : ℕ → List (List Chunk) → List Chunk
picks zero lists = []
picks (suc more) lists = with_more (earliest_front lists) (λ chunk. picks more (without_front lists chunk.track))

-- The chunks of lists, the earliest first.
abbrev pub in_order : List (List Chunk) → List Chunk
in_order lists = picks (how_many lists) lists
