use Rattle.std.proofs.Common.{◌≡◌, ◌+◌, ◌++◌, length, drop, take}
use Rattle.std.specs.List.{flat_map}
use Rattle.sf_meaning.specs.Stbl.{spread_from, spread_bytes}
use Rattle.sf_tables.specs.inner.Kept.{counts_kept}
use Rattle.sf_tables.proofs.encoding.put_spreads.Given as goal

abbrev pub invariant-loop-index : goal.invariant-loop-index
invariant-loop-index l = record {
  put : l.out ++ flat_map spread_bytes (spread_from (l.index + 1) l.last (counts_kept (drop l.index l.chunks))) ≡ l.fn.out ++ flat_map spread_bytes (spread_from 1 0 (counts_kept l.chunks));
  grows : take (length l.fn.out) l.out ≡ l.fn.out;
}
