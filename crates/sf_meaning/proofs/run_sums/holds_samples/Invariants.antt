use Rattle.std.proofs.Common.{◌≡◌, drop, map, nat_le, sum, take}
use Rattle.sf_meaning.specs.inner.Entries.{spreads_as}
use Rattle.sf_meaning.specs.Tables.{chunk_entries, spread_over}
use Rattle.sf_meaning.proofs.run_sums.holds_samples.Given as goal

abbrev pub invariant-loop-r : goal.invariant-loop-r
invariant-loop-r l =
    nat_le l.left (sum (map (λ c. c.per) (take l.room (spread_over (spreads_as (drop l.r l.runs)) l.chunks))))
    ≡ nat_le l.count (sum (map (λ c. c.per) (chunk_entries (spreads_as l.runs) l.chunks)))
