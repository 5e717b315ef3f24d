-- What the calls that read tables answer, as the definitions list it.
use Rattle.std.specs.Prelude.{ℕ, List, map, replicate}
use Rattle.sf_meaning.specs.Tables.{Spread}
use Rattle.sf_meaning.specs.declared.entries.TimeRun.{TimeRun}
use Rattle.sf_meaning.specs.declared.entries.ChunkRun.{ChunkRun}
use Rattle.sf_meaning.specs.declared.sizes.Sizes.{Sizes}
use Rattle.sf_meaning.specs.declared.sizes.Sizes.TheVariants.{Same, Each}

-- runs, each a count and a value
abbrev pub time_runs : List TimeRun → List (ℕ × ℕ)
time_runs runs = map (λ r. (r.count, r.delta)) runs

-- entries of the sample-to-chunk box
abbrev pub spread_of : ChunkRun → Spread
spread_of r = record { first = r.first; per = r.per; description = r.description }

abbrev pub spreads_as : List ChunkRun → List Spread
spreads_as runs = map spread_of runs

-- the sizes of the samples, one by one
abbrev pub sizes_view : Sizes → List ℕ
sizes_view (Same size count) = replicate count size
sizes_view (Each sizes) = sizes
