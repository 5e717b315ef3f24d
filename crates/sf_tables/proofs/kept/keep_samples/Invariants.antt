use Rattle.std.proofs.Common.{◌≡◌, ◌+◌, ◌<◌, ◌^◌, ◌++◌, length, map, drop, vec_len, vec_capacity}
use Rattle.std.specs.List.{AllByRecursion}
use Rattle.sf_tables.specs.inner.Kept.{timed_kept}
use Rattle.sf_meaning.specs.Rows.{timed}
use Rattle.sf_tables.proofs.kept.keep_samples.Given as goal

abbrev pub invariant-loop-sample : goal.invariant-loop-sample
invariant-loop-sample l = record {
  made : map timed_kept l.list.items ++ map timed (drop l.sample-index l.samples) ≡ map timed_kept l.fn.list.items ++ map timed l.fn.samples;
  len : vec_len l.list ≡ vec_len l.fn.list + l.sample-index;
  capacity : vec_capacity l.list ≡ vec_capacity l.fn.list;
  sizes : AllByRecursion (λ s. length s.bytes < 2 ^ 32) (drop l.sample-index l.samples);
}
