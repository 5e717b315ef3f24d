-- What the crates above cite: facts that src/laws.rt states, by name.
pub use Rattle.sf_meaning.proofs.HeadersBack.{kinds_fit, inside_read, scale_read, dinf_read, start_read, heads_by}
pub use Rattle.sf_meaning.proofs.TrackBack.{stbl_fits, track_back, entries_back, counts_back}
pub use Rattle.sf_meaning.proofs.ChunkLemmas.{timed_rows, ticks_rows, chunk_held, chunk_shown, length-samples_at, group_is, since_start}
pub use Rattle.sf_meaning.proofs.Accepted.{scale_of_movie}
pub use Rattle.sf_meaning.proofs.AcceptedTracks.{tracks_of_movie, movie_accepted}

pub ruleset row_laws = (timed_rows, ticks_rows)

pub ruleset accepted_laws = (scale_of_movie, tracks_of_movie, movie_accepted)

pub ruleset track_laws = (track_back, entries_back, counts_back)

pub ruleset header_laws = (inside_read, scale_read, dinf_read, start_read, heads_by)

pub ruleset fit_laws = (kinds_fit, stbl_fits)

pub ruleset chunk_laws = (chunk_held, chunk_shown, length-samples_at, group_is, since_start)
