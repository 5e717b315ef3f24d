use Rattle.std.proofs.Common.{◌≡◌, drop}
use Rattle.sf_meaning.specs.inner.Found.{pieces}
use Rattle.sf_movie.specs.inner.Kept.{tracks_read}
use Rattle.sf_movie.proofs.MovieRead.{tracks_from}
use Rattle.sf_movie.proofs.parts.tracks_read.Given as goal

abbrev pub invariant-loop-i : goal.invariant-loop-i
invariant-loop-i l = tracks_from l.file_len l.movie_scale l.i l.tracks (pieces (drop l.i l.traks)) ≡ tracks_read l.file_len l.movie_scale 0 (pieces l.traks)
