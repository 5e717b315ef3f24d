use Rattle.std.proofs.Common.{◌≡◌}
use Rattle.sf_selftest.specs.inner.Listed.{listed}
use Rattle.sf_selftest.proofs.track.track_summaries.Given as goal

abbrev pub invariant-loop-track : goal.invariant-loop-track
invariant-loop-track l = l.summaries ≡ listed l.movie.movie l.track
