use Rattle.sf_meaning.proofs.TrackBack.{track_back, entries_back, counts_back}
use Rattle.sf_meaning.proofs.laws.tracks_are_read_back.Goals as goal

pub returns-clause-samples : goal.returns-clause-samples
returns-clause-samples c = track_back

pub returns-clause-entries : goal.returns-clause-entries
returns-clause-entries c = entries_back

pub returns-clause-counts : goal.returns-clause-counts
returns-clause-counts c = counts_back
