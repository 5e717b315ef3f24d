use Rattle.std.proofs.Common.{ℕ, List, Result, sym, subst}
use Rattle.sf_world.specs.Views.{Gave, IsGiven}
use Rattle.sf_reader.specs.Extracted.{Extracted}
use Rattle.sf_app.specs.ExtractEnds.{Extracts}
use Rattle.sf_app.specs.Outside.{OfTold}
use Rattle.sf_app.specs.declared.status.Status.{Status}
use Rattle.sf_app.specs.inner.Extraction.{extraction}
use Rattle.sf_app.proofs.Extracting.{answered_by, dumps_ok, extracts_by, not_done}
use Rattle.sf_app.proofs.extract.extract_plans.Goals as goal

pub returns-clause-extracts : goal.returns-clause-extracts
returns-clause-extracts g c =
    let e = extraction c.args.asked.now c.args.plans.items in
    let i = g.I.Inputs.seen c.args.inputs.now in
    let m = g.I.Inputs.seen c.fetch.new.self in
    let i' = g.I.Inputs.seen c.give_back.new.self in
    let s = g.O.Shelf.seen c.args.shelf.now in
    let s' = g.O.Shelf.seen c.extract_direct-end.new.shelf in
    let x = c.extract_direct-end.ensures in
    let extracted : OfTold (g.I.Src.Source.seen c.in-Ok.source).content (λ file. Extracted file c.args.plans.items c.args.asked.now.out c.extract_direct-end.result.outcome c.extract_direct-end.result.dumps s s') =
    subst (λ (stem : List ℕ). OfTold (g.I.Src.Source.seen c.in-Ok.source).content (λ file. Extracted file c.args.plans.items stem c.extract_direct-end.result.outcome c.extract_direct-end.result.dumps s s')) c.as_str-2.ensures x.extracted in
    let P : Result (List ℕ) Status → Type 0 = λ r. Extracts e r i i' s s' in
    subst P (sym c.lengths_of.ensures)
    (extracts_by e c.extract_direct-end.result.outcome c.extract_direct-end.result.dumps (g.I.Src.Source.seen c.in-Ok.source) (g.I.Src.Source.seen c.extract_direct-end.result.source) i m i' s s'
    (record {
      given = subst (λ (name : List ℕ). IsGiven (i.holds name) (g.I.Src.Source.seen c.in-Ok.source)) c.as_str.ensures c.in-Ok.ensures.source;
      gave = subst (λ (name : List ℕ). Gave name i m) c.as_str.ensures c.in-Ok.ensures.ok;
      kept = c.fetch.ensures.faults;
      takes = c.give_back.ensures;
    })
    extracted x.write x.read)

pub returns-clause-done : goal.returns-clause-done
returns-clause-done g c = dumps_ok c.files_are_read_out.ensures _ _ _ (g.I.Inputs.seen c.give_back.new.self) _ _ (returns-clause-extracts g c)

pub returns-clause-other : goal.returns-clause-other
returns-clause-other g c = not_done _ _ _ _ _ _ (returns-clause-extracts g c)

pub returns-clause-complete : goal.returns-clause-complete
returns-clause-complete g c file told missed read written = answered_by _ _ _ _ _ _ file (returns-clause-extracts g c) told missed read written
