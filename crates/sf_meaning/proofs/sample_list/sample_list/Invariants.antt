use Rattle.std.proofs.Common.{◌≡◌, ◌+◌, ◌-◌, ◌*◌, ◌^◌, ◌≤◌, drop}
use Rattle.sf_meaning.specs.inner.Entries.{times_left, time_count, offsets_left, syncs_left, Rises, place_count}
use Rattle.sf_meaning.specs.ReadTables.{sizes_view}
use Rattle.sf_meaning.specs.Tracks.{held_samples}
use Rattle.sf_meaning.proofs.ListedSamples.{held_from, rows_left}
use Rattle.sf_meaning.proofs.sample_list.sample_list.Given as goal

abbrev pub invariant-loop-i : goal.invariant-loop-i
invariant-loop-i l = record {
  whole : held_from l.file_len l.track l.i l.samples (rows_left (l.i + 1) (drop l.i (sizes_view l.sizes)) (times_left l.times) (offsets_left l.offsets) (syncs_left l.syncs) l.places)
      ≡ held_samples l.file_len l.track (rows_left 1 (sizes_view l.sizes) (times_left l.fn.times) (offsets_left l.fn.offsets) (syncs_left l.fn.syncs) l.fn.places);
  times : l.count - l.i ≤ time_count l.times;
  early : l.times.decode ≤ l.i * 2 ^ 32;
  rising : Rises l.i (syncs_left l.syncs);
  places : l.count - l.i ≤ place_count l.places;
}
