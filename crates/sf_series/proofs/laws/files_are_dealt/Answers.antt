use Rattle.sf_series.proofs.SeriesLaws.{files_dealt}
use Rattle.sf_series.proofs.laws.files_are_dealt.Goals as goal

pub returns-clause-back : goal.returns-clause-back
returns-clause-back c = files_dealt
