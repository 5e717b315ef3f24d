-- Chunks of which a file is read back.
use Rattle.std.specs.Prelude.{◌≡◌, ℕ, ◌+◌, ◌-◌, ◌*◌, ◌^◌, ◌<◌, ◌≤◌, List, [], ◌∷◌, length}
use Rattle.std.specs.List.{AllByRecursion}
use Rattle.sf_tick.specs.declared.types.Stored.{Stored}
use Rattle.sf_meaning.specs.Stbl.{Timed, Row, timed_of, ticks_of, places_in_rows, duration_in_rows}

-- a sample that is neither empty nor too long, and whose composition offset has four bytes
pub record IsWritable (s : Stored) : Type 0 where
  pub some : 0 < length s.bytes
  pub short : length s.bytes ≤ 67108864
  pub early : s.decode ≤ s.compose + 2 ^ 31
  pub late : s.compose < s.decode + 2 ^ 31

-- Decode times don't fall, and each is less than 2^32 ticks after the one before.
abbrev pub Paced : ℕ → List ℕ → Type 0
Paced t [] = Unit {0}
Paced t (u ∷ ts) = (t ≤ u) × (u - t < 2 ^ 32) × Paced u ts

-- The first decode time is that of the file's start, and the others follow it.
abbrev pub PacedFrom : ℕ → List ℕ → Type 0
PacedFrom start [] = Unit {0}
PacedFrom start (t ∷ ts) = (t ≡ start) × Paced t ts

-- a sample that the tables can say
pub record Sized (s : Timed) : Type 0 where
  pub some : 0 < s.size
  pub short : s.size ≤ 67108864
  pub near : (s.decode ≤ s.compose + 2 ^ 31) × (s.compose < s.decode + 2 ^ 31)

-- Chunks of a track, in a file, that the tables can say. Ticks count from a base.
pub record Tellable (scale base : ℕ) (rs : List Row) : Type 0 where
  pub filled : AllByRecursion (λ r. 0 < length r.samples) rs
  pub each : AllByRecursion Sized (timed_of rs)
  pub paced : PacedFrom base (ticks_of rs)
  pub few : length (timed_of rs) ≤ 16777216
  pub early : duration_in_rows rs ≤ 2 ^ 40 * scale
  pub places : AllByRecursion (λ p. p < 2 ^ 64) (places_in_rows rs)
