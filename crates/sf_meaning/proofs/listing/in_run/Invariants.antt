use Rattle.std.proofs.Common.{◌≡◌, ◌<◌, length}
use Rattle.sf_meaning.specs.inner.Entries.{times_left, time_count}
use Rattle.sf_meaning.proofs.listing.in_run.Given as goal

abbrev pub invariant-loop-now : goal.invariant-loop-now
invariant-loop-now l = record {
  some : 0 < time_count l.now;
  same : times_left l.now ≡ times_left l.times;
  count : time_count l.now ≡ time_count l.times;
  decode : l.now.decode ≡ l.times.decode;
}

abbrev pub decreases-loop-now : goal.decreases-loop-now
decreases-loop-now l = length l.now.runs.now
