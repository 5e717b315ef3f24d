use Rattle.std.proofs.Common.{◌≡◌, ◌≤◌, ◌++◌, length, map, drop, take, replicate, Some}
use Rattle.std.specs.List.{flat_map}
use Rattle.sf_meaning.specs.Stbl.{run_bytes, runs_of, differences, deltas_of}
use Rattle.sf_tables.specs.inner.Kept.{timed_kept, ticks_kept}
use Rattle.sf_tables.specs.Rows.{AllHaveRoom}
use Rattle.sf_tables.proofs.encoding.put_delta_runs.Given as goal

abbrev pub invariant-loop-sample : goal.invariant-loop-sample
invariant-loop-sample l = record {
  put : l.out ++ flat_map run_bytes (runs_of (replicate l.run.count l.run.value ++ differences l.delta l.decode (ticks_kept (drop l.sample-index l.others)))) ≡ l.fn.out ++ flat_map run_bytes (runs_of (deltas_of (ticks_kept l.samples)));
  count : l.run.count ≤ l.sample-index;
  room : AllHaveRoom (Some l.decode) (map timed_kept (drop l.sample-index l.others));
  grows : take (length l.fn.out) l.out ≡ l.fn.out;
}
