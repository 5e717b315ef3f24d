use Rattle.std.proofs.Common.{◌≡◌, ℕ, List, length, map, Result, sym, ap, subst, ◌∙◌, arith}
use Rattle.std.proofs.lemmas.List.{length-map}
use Rattle.std.proofs.lemmas.Simd.{map-map}
use Rattle.sf_series.specs.declared.report.Report.{Report}
use Rattle.sf_world.specs.Views.{SourceView}
use Rattle.sf_record.specs.Called.{called_for}
use Rattle.sf_app.specs.AnswerText.{Answered}
use Rattle.sf_app.specs.Lending.{Lent, faults_of}
use Rattle.sf_app.specs.RecordEnds.{Performs, limits_of, options_of, status_of}
use Rattle.sf_app.specs.declared.status.Status.{Status}
use Rattle.sf_app.specs.inner.Fetching.{Fetched, TakesAllBack}
use Rattle.sf_app.proofs.Holding.{held_ok, not_done}
use Rattle.sf_app.proofs.Recording.{answered_handed, back_long, complete_by, keep_all, lent_all, performs_by, performs_handed, records_by, source_at}
use Rattle.sf_app.proofs.record.record_inputs.Goals as goal

pub returns-in_err-sources-clause-performs : goal.returns-in_err-sources-clause-performs
returns-in_err-sources-clause-performs g c = performs_handed c.args.asked.now _ _ _ _ _ _ c.as_slice.ensures c.from_residual.ensures.1 c.in_err-sources.ensures.unfetched

pub returns-in_err-sources-clause-done : goal.returns-in_err-sources-clause-done
returns-in_err-sources-clause-done g c =
    let s = g.O.Shelf.seen c.args.shelf.now in
    held_ok _ _ _ _ s s (performs_handed c.args.asked.now _ _ _ _ _ s c.as_slice.ensures c.from_residual.ensures.1 c.in_err-sources.ensures.unfetched)

pub returns-in_err-sources-clause-other : goal.returns-in_err-sources-clause-other
returns-in_err-sources-clause-other g c =
    let s = g.O.Shelf.seen c.args.shelf.now in
    not_done _ _ _ _ s s (performs_handed c.args.asked.now _ _ _ _ _ s c.as_slice.ensures c.from_residual.ensures.1 c.in_err-sources.ensures.unfetched)

pub returns-in_err-sources-clause-complete : goal.returns-in_err-sources-clause-complete
returns-in_err-sources-clause-complete g c all held missed read written =
    answered_handed _ _ _ _ _ _ c.from_residual.ensures.1 c.in_err-sources.ensures.unfetched missed

pub give_all_back-requires-after_bounds : goal.give_all_back-requires-after_bounds
give_all_back-requires-after_bounds g c =
    let sources = map (λ s. g.I.Src.Source.seen s) c.in_ok-sources.sources.items in
    let back = map (λ s. g.I.Src.Source.seen s) c.record_serial-end.result.sources.items in
    let long : length back ≡ length sources = back_long sources back c.record_serial-end.ensures.back in
    omega (arith, c.in_ok-sources.ensures.fetched.spare, long, length-map c.record_serial-end.result.sources.items (λ s. g.I.Src.Source.seen s))

pub returns-clause-performs : goal.returns-clause-performs
returns-clause-performs g c =
    let names : List (List ℕ) = c.args.asked.now.inputs in
    let sources = map (λ s. g.I.Src.Source.seen s) c.in_ok-sources.sources.items in
    let back = map (λ s. g.I.Src.Source.seen s) c.record_serial-end.result.sources.items in
    let i = g.I.Inputs.seen c.args.inputs.now in
    let m = g.I.Inputs.seen c.fetch_all.new.inputs in
    let i' = g.I.Inputs.seen c.give_all_back.new.inputs in
    let s = g.O.Shelf.seen c.args.shelf.now in
    let s' = g.O.Shelf.seen c.record_serial-end.new.shelf in
    let e = c.record_serial-end.ensures in
    let taken : TakesAllBack (faults_of back) m i' = subst (λ (counts : List ℕ). TakesAllBack counts m i') (sym (map-map (λ (v : SourceView). v.faults) (λ s. g.I.Src.Source.seen s) c.record_serial-end.result.sources.items)) c.give_all_back.ensures in
    let fetched : Fetched names sources i m = subst (λ (ns : List (List ℕ)). Fetched ns sources i m) c.as_slice.ensures c.in_ok-sources.ensures.fetched in
    let lent : Lent names sources back i i' = lent_all names sources back i m i' fetched e.back taken in
    let records = records_by c.args.asked.now c.in-Ok.limits c.record_serial-end.result.outcome c.record_serial-end.result.report sources back i i' s s' c.in-Ok.ensures.limits lent e.ends e.kept in
    let P : Result Report Status → Type 0 = λ r. Performs c.args.asked.now r i i' s s' in
    subst P (sym c.report_of.ensures) (performs_by c.args.asked.now c.record_serial-end.result.outcome c.record_serial-end.result.report i i' s s' records)

pub returns-clause-inputs : goal.returns-clause-inputs
returns-clause-inputs g c =
    let names : List (List ℕ) = c.args.asked.now.inputs in
    let sources = map (λ s. g.I.Src.Source.seen s) c.in_ok-sources.sources.items in
    let i = g.I.Inputs.seen c.args.inputs.now in
    let back = map (λ s. g.I.Src.Source.seen s) c.record_serial-end.result.sources.items in
    let m = g.I.Inputs.seen c.fetch_all.new.inputs in
    let i' = g.I.Inputs.seen c.give_all_back.new.inputs in
    let taken : TakesAllBack (faults_of back) m i' = subst (λ (counts : List ℕ). TakesAllBack counts m i') (sym (map-map (λ (v : SourceView). v.faults) (λ s. g.I.Src.Source.seen s) c.record_serial-end.result.sources.items)) c.give_all_back.ensures in
    let fetched : Fetched names sources i m = subst (λ (ns : List (List ℕ)). Fetched ns sources i m) c.as_slice.ensures c.in_ok-sources.ensures.fetched in
    keep_all names sources back i m i' fetched c.record_serial-end.ensures.back taken

pub returns-clause-done : goal.returns-clause-done
returns-clause-done g c = held_ok _ _ _ (g.I.Inputs.seen c.give_all_back.new.inputs) _ _ (returns-clause-performs g c)

pub returns-clause-other : goal.returns-clause-other
returns-clause-other g c = not_done _ _ _ _ _ _ (returns-clause-performs g c)

pub returns-clause-header : goal.returns-clause-header
returns-clause-header g c track name bytes at told refused =
    let names : List (List ℕ) = c.args.asked.now.inputs in
    let sources = map (λ s. g.I.Src.Source.seen s) c.in_ok-sources.sources.items in
    let i = g.I.Inputs.seen c.args.inputs.now in
    let m = g.I.Inputs.seen c.fetch_all.new.inputs in
    let fetched : Fetched names sources i m = subst (λ (ns : List (List ℕ)). Fetched ns sources i m) c.as_slice.ensures c.in_ok-sources.ensures.fetched in
    let x = source_at i.holds names sources track name fetched.given at in
    ap (λ o. g.O.Shelf.seen o) (c.record_serial-end.ensures.header track x.source bytes x.there (x.content ∙ told) refused)

pub returns-clause-complete : goal.returns-clause-complete
returns-clause-complete g c all held missed not_read not_written =
    let names : List (List ℕ) = c.args.asked.now.inputs in
    let sources = map (λ s. g.I.Src.Source.seen s) c.in_ok-sources.sources.items in
    let back = map (λ s. g.I.Src.Source.seen s) c.record_serial-end.result.sources.items in
    let i = g.I.Inputs.seen c.args.inputs.now in
    let m = g.I.Inputs.seen c.fetch_all.new.inputs in
    let i' = g.I.Inputs.seen c.give_all_back.new.inputs in
    let s = g.O.Shelf.seen c.args.shelf.now in
    let s' = g.O.Shelf.seen c.record_serial-end.new.shelf in
    let e = c.record_serial-end.ensures in
    let taken : TakesAllBack (faults_of back) m i' = subst (λ (counts : List ℕ). TakesAllBack counts m i') (sym (map-map (λ (v : SourceView). v.faults) (λ s. g.I.Src.Source.seen s) c.record_serial-end.result.sources.items)) c.give_all_back.ensures in
    let fetched : Fetched names sources i m = subst (λ (ns : List (List ℕ)). Fetched ns sources i m) c.as_slice.ensures c.in_ok-sources.ensures.fetched in
    let lent : Lent names sources back i i' = lent_all names sources back i m i' fetched e.back taken in
    let called : Status = status_of (called_for (options_of c.args.asked.now) (limits_of c.args.asked.now) all) in
    let P : Result Report Status → Type 0 = λ r. Answered r called in
    subst P (sym c.report_of.ensures)
    (complete_by c.args.asked.now all c.in-Ok.limits c.record_serial-end.result.outcome c.record_serial-end.result.report sources back i i' s s' c.in-Ok.ensures.limits lent held not_read not_written e.called)
