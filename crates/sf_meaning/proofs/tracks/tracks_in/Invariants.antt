use Rattle.std.proofs.Common.{◌≡◌, drop}
use Rattle.sf_meaning.specs.Tracks.{tracks_in}
use Rattle.sf_meaning.specs.inner.Found.{pieces}
use Rattle.sf_meaning.proofs.TrackWalk.{tracks_from}
use Rattle.sf_meaning.proofs.tracks.tracks_in.Given as goal

abbrev pub invariant-loop-i : goal.invariant-loop-i
invariant-loop-i l = tracks_from l.file_len l.movie_scale l.i l.tracks (pieces (drop l.i l.traks)) ≡ tracks_in l.file_len l.movie_scale 0 (pieces l.traks)
