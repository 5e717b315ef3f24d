use Rattle.std.proofs.Common.{◌≡◌, ◌++◌, length, drop, take}
use Rattle.std.specs.List.{flat_map}
use Rattle.sf_box.specs.Boxes.{be64}
use Rattle.sf_tables.specs.inner.Kept.{places_kept}
use Rattle.sf_tables.proofs.encoding.put_wide_places.Given as goal

abbrev pub invariant-loop-chunk : goal.invariant-loop-chunk
invariant-loop-chunk l = record {
  put : l.out ++ flat_map be64 (places_kept (drop l.chunk-index l.chunks)) ≡ l.fn.out ++ flat_map be64 (places_kept l.chunks);
  grows : take (length l.fn.out) l.out ≡ l.fn.out;
}
