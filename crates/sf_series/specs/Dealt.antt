-- Which chunk stands where in a series of files, by the files' own bytes.
use Rattle.std.specs.Prelude.{ℕ, zero, suc, ◌+◌, ◌<◌, length, nat_le, List, [], ◌∷◌, ◌++◌, map, slice_get, Option, Some, None, option_to_list, if◌then◌else◌}
use Rattle.sf_tick.specs.declared.types.Chunk.{Chunk}
use Rattle.sf_meaning.specs.Groups.{Group, groups}
use Rattle.sf_layout.specs.Layout.{stored_bytes}
use Rattle.sf_interleave.specs.Waiting.{list_of, without_front}

-- the track of each chunk of a file, in the order in which they were written
abbrev pub order_of : List Chunk → List ℕ
order_of file = map (λ c. c.track) file

-- where something of a track stands
pub record Placed : Type 0 where
  pub place : ℕ
  pub track : ℕ

-- where each of a track's groups stands
abbrev pub placed_as : ℕ → Option (List Group) → List Placed
placed_as track None = []
placed_as track (Some gs) = map (λ g. record { place = g.place; track = track }) gs

-- where each group of so many tracks, numbered from here on, stands in a file's bytes
abbrev pub placed_from : List ℕ → ℕ → ℕ → List Placed
placed_from file track zero = []
placed_from file track (suc more) = placed_as track (groups file track) ++ placed_from file (track + 1) more

-- places in their order
abbrev pub put_by_place : Placed → List Placed → List Placed
put_by_place p [] = p ∷ []
put_by_place p (q ∷ qs) = if nat_le p.place q.place then p ∷ q ∷ qs else q ∷ put_by_place p qs

abbrev pub by_place : List Placed → List Placed
by_place [] = []
by_place (p ∷ ps) = put_by_place p (by_place ps)

-- The write order that a file of so many tracks says by its bytes: the track of each group, in the order of their places.
abbrev pub write_order : ℕ → List ℕ → List ℕ
write_order tracks file = map (λ p. p.track) (by_place (placed_from file 0 tracks))

-- the chunks of a file's write order, each the first one that is left of its track's list
abbrev pub dealt_file : List ℕ → List (List Chunk) → List Chunk
dealt_file [] lists = []
dealt_file (track ∷ order) lists = option_to_list (slice_get (list_of lists track) 0) ++ dealt_file order (without_front lists track)

-- what a file's write order leaves of the lists
abbrev pub left_of : List ℕ → List (List Chunk) → List (List Chunk)
left_of [] lists = lists
left_of (track ∷ order) lists = left_of order (without_front lists track)

-- The write orders of files with each mention of a track replaced: the first one by the first chunk of its list, the second one by the second, and so on.
abbrev pub dealt : List (List ℕ) → List (List Chunk) → List (List Chunk)
dealt [] lists = []
dealt (order ∷ orders) lists = dealt_file order lists ∷ dealt orders (left_of order lists)

-- a chunk whose samples have bytes
abbrev pub HasBytes : Chunk → Type 0
HasBytes chunk = 0 < length (stored_bytes chunk.samples)
