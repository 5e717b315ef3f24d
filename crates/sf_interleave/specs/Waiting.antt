-- The chunks of several tracks that wait to be written, one list for each track, and the one that is written next.
use Rattle.std.specs.Prelude.{◌≡◌, ℕ, ◌+◌, nat_le, List, [], ◌∷◌, ◌++◌, length, get_or, set, drop, slice_get, Option, Some, None, if◌then◌else◌}
use Rattle.std.specs.List.{AllByRecursion}
use Rattle.sf_tick.specs.declared.types.Chunk.{Chunk}

-- the chunks of a track that wait, in order
abbrev pub list_of : List (List Chunk) → ℕ → List Chunk
list_of lists track = get_or lists track []

-- the lists with one more chunk at the end of its track's
abbrev pub with_chunk : List (List Chunk) → Chunk → List (List Chunk)
with_chunk lists chunk = set lists chunk.track (list_of lists chunk.track ++ chunk ∷ [])

-- the lists without the first chunk of a track's
abbrev pub without_front : List (List Chunk) → ℕ → List (List Chunk)
without_front lists track = set lists track (drop 1 (list_of lists track))

-- the chunk that begins earlier, the first one where both begin at once
abbrev pub earlier_chunk : Option Chunk → Option Chunk → Option Chunk
earlier_chunk None other = other
earlier_chunk (Some chunk) None = Some chunk
earlier_chunk (Some chunk) (Some other) = if nat_le chunk.first_us other.first_us then Some chunk else Some other

-- Of the first chunks of the tracks the one that begins earliest, of the lowest track where several begin at once; none where no track has a chunk.
abbrev pub earliest_front : List (List Chunk) → Option Chunk
earliest_front [] = None
earliest_front (list ∷ lists) = earlier_chunk (slice_get list 0) (earliest_front lists)

-- how many chunks wait, of all tracks together
abbrev pub how_many : List (List Chunk) → ℕ
how_many [] = 0
how_many (list ∷ lists) = length list + how_many lists

-- each list, from that of a track on, has chunks of its track alone
abbrev pub OfTheirTracks : ℕ → List (List Chunk) → Type 0
OfTheirTracks track [] = Unit {0}
OfTheirTracks track (list ∷ lists) = AllByRecursion (λ c. c.track ≡ track) list × OfTheirTracks (track + 1) lists
