use Rattle.std.proofs.Common.{ap}
use Rattle.sf_series.specs.Series.{OpenSeries}
use Rattle.sf_series.proofs.Stopping.{broken_of, if_err_then, left_of, of_err, stopped_of}
use Rattle.sf_series.proofs.series.Series.finish.Goals as goal

pub returns-clause-limit : goal.returns-clause-limit
returns-clause-limit g c shown e begun state s =
    let t = c.write_all-written.ensures in
    let told = c.end.ensures.told_limit shown e in
    stopped_of state c.args.self c.series.inside.files shown c.end.result.0 (t.limit shown told begun state s) (of_err c.write_all-written.result _ _ told t.ended)
    (ap (λ (v : OpenSeries). v.files) c.series.view_is) t.same (c.end.ensures.limit shown e)

pub returns-clause-broken : goal.returns-clause-broken
returns-clause-broken g c =
    let t = c.write_all-written.ensures in
    if_err_then c.end.result.1 (λ fault ends breaks begun state s.
    broken_of state c.args.self c.series.inside.files c.end.result.0 (left_of state c.args.self c.write_all-written.result s t.done t.limit t.broken)
    (ap (λ (v : OpenSeries). v.files) c.series.view_is) t.same (ends breaks)) c.end.ensures.broken
