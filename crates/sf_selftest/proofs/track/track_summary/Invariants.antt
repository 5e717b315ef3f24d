use Rattle.std.proofs.Common.{◌≡◌, ◌*◌, ◌≤◌, drop}
use Rattle.sf_selftest.specs.inner.Listed.{no_samples, samples_at, with_samples}
use Rattle.sf_selftest.proofs.track.track_summary.Given as goal

abbrev pub invariant-loop-number : goal.invariant-loop-number
invariant-loop-number l = record {
  told : with_samples l.summary (drop l.number (samples_at l.movie.movie l.track)) ≡ with_samples no_samples (samples_at l.movie.movie l.track);
  samples : l.summary.samples ≡ l.number;
  syncs : l.summary.syncs ≤ l.number;
  stored : l.summary.stored ≤ 67108864 * l.number;
}
