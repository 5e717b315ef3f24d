use Rattle.sf_series.proofs.SeriesLaws.{bytes_dealt}
use Rattle.sf_series.proofs.laws.files_are_read_back.Goals as goal

pub returns-clause-dealt : goal.returns-clause-dealt
returns-clause-dealt c = bytes_dealt
