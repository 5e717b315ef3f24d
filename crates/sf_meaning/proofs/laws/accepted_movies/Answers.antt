use Rattle.sf_meaning.proofs.Accepted.{scale_of_movie}
use Rattle.sf_meaning.proofs.AcceptedTracks.{tracks_of_movie, movie_accepted}
use Rattle.sf_meaning.proofs.laws.accepted_movies.Goals as goal

pub returns : goal.returns
returns c = record { scale = scale_of_movie; count = tracks_of_movie; tracks = movie_accepted }
