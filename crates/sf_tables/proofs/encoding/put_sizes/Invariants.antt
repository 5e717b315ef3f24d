use Rattle.std.proofs.Common.{◌≡◌, ◌++◌, length, drop, take}
use Rattle.std.specs.List.{flat_map}
use Rattle.sf_box.specs.Boxes.{be32}
use Rattle.sf_tables.specs.inner.Kept.{sizes_kept}
use Rattle.sf_tables.proofs.encoding.put_sizes.Given as goal

abbrev pub invariant-loop-sample : goal.invariant-loop-sample
invariant-loop-sample l = record {
  put : l.out ++ flat_map be32 (sizes_kept (drop l.sample-index l.samples)) ≡ l.fn.out ++ flat_map be32 (sizes_kept l.samples);
  grows : take (length l.fn.out) l.out ≡ l.fn.out;
}
