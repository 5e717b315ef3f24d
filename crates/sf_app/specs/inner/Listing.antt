-- The tracks of a movie by their numbers, as they are listed.
use Rattle.std.specs.Prelude.{ℕ, [], Result, Ok, Err, get_or}
use Rattle.sf_meaning.specs.declared.movie.PlainMovie.{PlainMovie}
use Rattle.sf_meaning.specs.declared.movie.PlainTrack.{PlainTrack}
use Rattle.sf_meaning.specs.declared.movie.TrackKind.TheVariants.{Other}
use Rattle.sf_movie.specs.Loaded.{Loaded}
use Rattle.sf_app.specs.declared.status.Status.{Status}

-- a track without samples
abbrev pub no_track : PlainTrack
no_track = record { kind = Other; scale = 0; lead = 0; media_time = 0; samples = [] }

-- track t, where there is one
abbrev pub track_at : PlainMovie → ℕ → PlainTrack
track_at m t = get_or m.tracks t no_track

-- the movie of an answer
abbrev pub plain_of : Result Loaded Status → Result PlainMovie Status
plain_of (Ok m) = Ok m.movie
plain_of (Err status) = Err status
