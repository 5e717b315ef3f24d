use Rattle.sf_series.proofs.Kept.{closed_told}
use Rattle.sf_series.proofs.series_files.SeriesFiles.end.Goals as goal

pub returns-clause-limit : goal.returns-clause-limit
returns-clause-limit g c shown e begun files s =
    closed_told c.into_report.result (c.close_last-ended.ensures.limit shown e begun files s) c.close_last-ended.ensures.same c.into_report.ensures.files c.into_report.ensures.tracks c.into_report.ensures.one_each
