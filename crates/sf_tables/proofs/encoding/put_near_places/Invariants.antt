use Rattle.std.proofs.Common.{◌≡◌, true, ◌++◌, length, drop, take}
use Rattle.std.specs.List.{flat_map}
use Rattle.sf_box.specs.Boxes.{be32}
use Rattle.sf_meaning.specs.Stbl.{all_near}
use Rattle.sf_tables.specs.inner.Kept.{places_kept}
use Rattle.sf_tables.proofs.encoding.put_near_places.Given as goal

abbrev pub invariant-loop-chunk : goal.invariant-loop-chunk
invariant-loop-chunk l = record {
  put : l.out ++ flat_map be32 (places_kept (drop l.chunk-index l.chunks)) ≡ l.fn.out ++ flat_map be32 (places_kept l.chunks);
  near : all_near (places_kept (drop l.chunk-index l.chunks)) ≡ true;
  grows : take (length l.fn.out) l.out ≡ l.fn.out;
}
