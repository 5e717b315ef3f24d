-- The entries of tables as the code holds them.
use Rattle.std.specs.Prelude.{◌≡◌, ℕ, ℤ, pos, ◌+ℤ◌, true, Bool, ◌+◌, List, ◌++◌, length, take, drop, map, sum, replicate, Option, Some, None}
use Rattle.sf_meaning.specs.Tables.{Spread, InChunk, expand, running, rising, offset_in, placed, described}
pub use Rattle.sf_meaning.specs.ReadTables.{time_runs, spread_of, spreads_as}
use Rattle.sf_meaning.specs.declared.entries.Times.{Times}
use Rattle.sf_meaning.specs.declared.entries.Offsets.{Offsets}
use Rattle.sf_meaning.specs.declared.entries.Syncs.{Syncs}
use Rattle.sf_meaning.specs.declared.entries.Syncs.TheVariants as syncs
use Rattle.sf_meaning.specs.declared.entries.Places.{Places}
use Rattle.sf_meaning.specs.declared.movie.PlainSample.{PlainSample}
use Rattle.sf_meaning.specs.declared.entries.ChunkRun.{ChunkRun}
use Rattle.sf_meaning.specs.declared.entries.ChunkAt.{ChunkAt}

abbrev pub held_of : ChunkAt → InChunk
held_of c = record { per = c.per; description = c.description }

abbrev pub held_as_listed : List ChunkAt → List InChunk
held_as_listed chunks = map held_of chunks

abbrev pub places_as : List ChunkAt → List ℕ
places_as chunks = map (λ c. c.place) chunks

-- an entry that holds from this chunk on
abbrev pub from_chunk : ℕ → ChunkRun → Spread
from_chunk number r = record { first = number; per = r.per; description = r.description }

-- the first chunks of entries
abbrev pub firsts : List ChunkRun → List ℕ
firsts runs = map (λ r. r.first) runs

-- the decode times that are left
abbrev pub times_left : Times → List ℕ
times_left t = running t.decode (replicate t.left t.delta ++ expand (time_runs t.runs.now))

-- how many decode times are left
abbrev pub time_count : Times → ℕ
time_count t = t.left + length (expand (time_runs t.runs.now))

-- the composition offsets that are left
abbrev pub offsets_left : Offsets → List ℤ
offsets_left o = map (offset_in o.version) (replicate o.left o.word ++ expand (time_runs o.runs.now))

-- the numbers of sync samples that are left, where they are told
abbrev pub syncs_left : Syncs → Option (List ℕ)
syncs_left syncs.All = None
syncs_left (syncs.Numbers numbers) = Some numbers.now

-- such numbers rise, the first above t
abbrev pub Rises : ℕ → Option (List ℕ) → Type 0
Rises t None = Unit {0}
Rises t (Some numbers) = rising t numbers ≡ true

-- the places that are left, for samples of these sizes
abbrev pub places_left : Places → List ℕ → List ℕ
places_left p sizes = running p.place (take p.left sizes) ++ placed (places_as p.chunks.now) (map (λ c. c.per) (held_as_listed p.chunks.now)) (drop p.left sizes)

-- the descriptions that are left
abbrev pub descriptions_left : Places → List ℕ
descriptions_left p = replicate p.left p.description ++ described (held_as_listed p.chunks.now)

-- how many places are left
abbrev pub place_count : Places → ℕ
place_count p = p.left + sum (map (λ c. c.per) (held_as_listed p.chunks.now))

-- a sample at the next place
abbrev pub sample_at : Places → ℕ → ℤ → Bool → ℕ → PlainSample
sample_at here decode offset sync size =
    record { decode = decode; compose = pos decode +ℤ offset; sync = sync; place = here.place; size = size; description = here.description }
