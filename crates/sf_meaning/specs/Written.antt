-- What the file of a track's chunks means: its movie, with the places of its samples, and the samples of each chunk.
use Rattle.std.specs.Prelude.{ℕ, pos, ◌+◌, ◌-◌, ◌-ℤ◌, List, [], ◌∷◌}
use Rattle.std.specs.List.{flat_map}
use Rattle.sf_tick.specs.declared.types.Stored.{Stored}
use Rattle.sf_meaning.specs.Stbl.{Timed, Row}
use Rattle.sf_meaning.specs.Joined.{Held}
use Rattle.sf_meaning.specs.declared.movie.PlainSample.{PlainSample}

-- a sample at a place, where ticks count from a base
abbrev pub sample_of : ℕ → ℕ → Timed → PlainSample
sample_of base place s =
    record { decode = s.decode - base; compose = pos s.compose -ℤ pos base; sync = s.sync; place = place; size = s.size; description = 1 }

-- the samples of a chunk, one after the other
abbrev pub samples_at : ℕ → ℕ → List Timed → List PlainSample
samples_at base place [] = []
samples_at base place (s ∷ ss) = sample_of base place s ∷ samples_at base (place + s.size) ss

-- the samples of the chunks of a track
abbrev pub listed : ℕ → List Row → List PlainSample
listed base rows = flat_map (λ r. samples_at base r.place r.samples) rows

-- a stored sample as a file holds it that begins at a tick
abbrev pub held_since : ℕ → Stored → Held
held_since base s = record { decode = s.decode - base; compose = pos s.compose -ℤ pos base; sync = s.sync; bytes = s.bytes }
