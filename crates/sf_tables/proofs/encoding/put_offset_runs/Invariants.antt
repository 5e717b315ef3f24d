use Rattle.std.proofs.Common.{◌≡◌, ◌≤◌, ◌++◌, length, map, drop, take, replicate}
use Rattle.std.specs.List.{flat_map}
use Rattle.sf_meaning.specs.Stbl.{run_bytes, runs_of, offset_words}
use Rattle.sf_tables.specs.inner.Kept.{OffsetFits, timed_kept}
use Rattle.std.specs.List.{AllByRecursion}
use Rattle.sf_tables.proofs.encoding.put_offset_runs.Given as goal

abbrev pub invariant-loop-sample : goal.invariant-loop-sample
invariant-loop-sample l = record {
  put : l.out ++ flat_map run_bytes (runs_of (replicate l.run.count l.run.value ++ offset_words (map timed_kept (drop l.sample-index l.samples)))) ≡ l.fn.out ++ flat_map run_bytes (runs_of (offset_words (map timed_kept l.samples)));
  count : l.run.count ≤ l.sample-index;
  room : AllByRecursion OffsetFits (map timed_kept (drop l.sample-index l.samples));
  grows : take (length l.fn.out) l.out ≡ l.fn.out;
}
