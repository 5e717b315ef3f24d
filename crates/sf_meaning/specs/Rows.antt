-- The samples of chunks as the tables list them, and what a file is to hold of them.
use Rattle.std.specs.Prelude.{ℕ, pos, ◌+◌, List, [], ◌∷◌, length, map}
use Rattle.std.specs.List.{flat_map}
use Rattle.sf_tick.specs.declared.types.Stored.{Stored}
use Rattle.sf_tick.specs.declared.types.Chunk.{Chunk}
use Rattle.sf_meaning.specs.Stbl.{Timed, Row}
use Rattle.sf_meaning.specs.Joined.{Held}

-- the bytes of samples, one after the other
abbrev pub stored_bytes : List Stored → List ℕ
stored_bytes ss = flat_map (λ s. s.bytes) ss

abbrev pub decodes_of : List Stored → List ℕ
decodes_of ss = map (λ s. s.decode) ss

-- a stored sample as a file is to hold it
abbrev pub held_as : Stored → Held
held_as s = record { decode = s.decode; compose = pos s.compose; sync = s.sync; bytes = s.bytes }

-- a stored sample as the tables list it
abbrev pub timed : Stored → Timed
timed s = record { decode = s.decode; compose = s.compose; sync = s.sync; size = length s.bytes }

-- a chunk at a place
abbrev pub row_at : ℕ → Chunk → Row
row_at place chunk = record { place = place; samples = map timed chunk.samples }

-- chunks that stand one after the other, from a place on
abbrev pub rows_from : ℕ → List Chunk → List Row
rows_from place [] = []
rows_from place (c ∷ cs) = row_at place c ∷ rows_from (place + length (stored_bytes c.samples)) cs
