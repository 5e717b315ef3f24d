use Rattle.std.proofs.Common.{◌≤◌, drop}
use Rattle.sf_app.specs.ListText.{sample_lines}
use Rattle.sf_app.specs.inner.Listing.{track_at}
use Rattle.sf_app.proofs.Gathering.{Going}
use Rattle.sf_app.proofs.list_text.put_samples.Given as goal

abbrev pub invariant-loop-number : goal.invariant-loop-number
invariant-loop-number g l = record {
  later : (g.T.Sink.seen l.fn.text).faults ≤ (g.T.Sink.seen l.text).faults;
  going : Going (sample_lines l.track 0 (track_at l.movie.movie l.track).samples) (sample_lines l.track l.number (drop l.number (track_at l.movie.movie l.track).samples))
      (g.T.Sink.seen l.fn.text) l.fn.gathered (g.T.Sink.seen l.text) l.gathered;
}
