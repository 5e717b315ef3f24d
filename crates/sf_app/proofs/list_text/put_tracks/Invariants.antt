use Rattle.std.proofs.Common.{◌≤◌, drop}
use Rattle.sf_app.specs.ListText.{track_lines}
use Rattle.sf_app.proofs.Gathering.{Going}
use Rattle.sf_app.proofs.list_text.put_tracks.Given as goal

abbrev pub invariant-loop-track : goal.invariant-loop-track
invariant-loop-track g l = record {
  later : (g.T.Sink.seen l.fn.text).faults ≤ (g.T.Sink.seen l.text).faults;
  going : Going (track_lines l.movie.movie.scale 0 l.movie.movie.tracks) (track_lines l.movie.movie.scale l.track (drop l.track l.movie.movie.tracks))
      (g.T.Sink.seen l.fn.text) l.fn.gathered (g.T.Sink.seen l.text) l.gathered;
}
