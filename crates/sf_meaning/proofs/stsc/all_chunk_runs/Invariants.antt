use Rattle.std.proofs.Common.{◌≡◌, ◌+◌, ◌-◌, ◌*◌, ◌++◌, drop}
use Rattle.sf_meaning.specs.inner.Entries.{spreads_as}
use Rattle.sf_meaning.specs.Tables.{spreads}
use Rattle.sf_meaning.proofs.stsc.all_chunk_runs.Given as goal

abbrev pub invariant-loop-i : goal.invariant-loop-i
invariant-loop-i l = spreads_as l.runs.items ++ spreads (l.count - l.i) (drop (8 + 12 * l.i) l.stsc) ≡ spreads l.count (drop 8 l.stsc)
