use Rattle.std.proofs.Common.{◌≡◌, ◌+◌, ◌++◌, length, map, drop, take}
use Rattle.std.specs.List.{flat_map}
use Rattle.sf_box.specs.Boxes.{be32}
use Rattle.sf_meaning.specs.Stbl.{sync_from}
use Rattle.sf_tables.specs.inner.Kept.{timed_kept}
use Rattle.sf_tables.proofs.encoding.put_sync_numbers.Given as goal

abbrev pub invariant-loop-index : goal.invariant-loop-index
invariant-loop-index l = record {
  put : l.out ++ flat_map be32 (sync_from (l.index + 1) (map timed_kept (drop l.index l.samples))) ≡ l.fn.out ++ flat_map be32 (sync_from 1 (map timed_kept l.samples));
  grows : take (length l.fn.out) l.out ≡ l.fn.out;
}
