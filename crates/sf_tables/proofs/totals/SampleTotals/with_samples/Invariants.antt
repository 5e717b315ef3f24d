use Rattle.std.proofs.Common.{◌≡◌, ◌+◌, map, drop}
use Rattle.sf_meaning.specs.Rows.{timed}
use Rattle.sf_tables.specs.Rows.{AllHaveRoom}
use Rattle.sf_tables.specs.inner.Totals.{Steady, after_samples, last_counted}
use Rattle.sf_tables.proofs.totals.SampleTotals.with_samples.Given as goal

abbrev pub invariant-loop-sample : goal.invariant-loop-sample
invariant-loop-sample l = record {
  made : after_samples l.totals (map timed (drop l.sample-index l.samples)) ≡ after_samples l.fn.self (map timed l.fn.samples);
  count : l.totals.count ≡ l.fn.self.count + l.sample-index;
  steady : Steady l.totals;
  room : AllHaveRoom (last_counted l.totals) (map timed (drop l.sample-index l.samples));
}
