use Rattle.std.proofs.Common.{◌≡◌, ℕ, ◌<◌, List, [], ◌∷◌, ◌++◌, length, map, take, Err, sym, ap, subst, ◌∙◌, arith}
use Rattle.std.proofs.lemmas.List.{map-append}
use Rattle.std.proofs.lemmas.Simd.{map-map}
use Rattle.sf_world.specs.Views.{NotGiven, SourceView}
use Rattle.sf_world.specs.declared.failures.Denied.{Denied}
use Rattle.sf_app.specs.declared.status.Status.{Status}
use Rattle.sf_app.specs.Lending.{faults_of}
use Rattle.sf_app.specs.inner.Fetching.{Fetched, TakesAllBack, Unfetched}
use Rattle.sf_app.proofs.Fetching.{fetched_more, name_there, next_name, unfetched_by}
use Rattle.sf_app.proofs.record.fetch_all.Goals as goal

pub returns-in-Err-clause-unfetched : goal.returns-in-Err-clause-unfetched
returns-in-Err-clause-unfetched g c =
    let names = c.args.names.now in
    let n : ℕ = c.loop-number.number in
    let lt : n < length names = c.loop-number-test.true in
    let x = c.index-names-number.result in
    let named : c.as_str.result.now ≡ x = c.as_str.ensures in
    let e = c.in-Err.ensures in
    let is = c.in-Err.is in
    let sources = map (λ s. g.I.Src.Source.seen s) c.loop-number.sources.items in
    let i = g.I.Inputs.seen c.args.inputs.now in
    let m = g.I.Inputs.seen c.loop-number.inputs in
    let m' = g.I.Inputs.seen c.fetch.new.self in
    let i' = g.I.Inputs.seen c.give_all_back.new.inputs in
    let back : TakesAllBack (faults_of sources) m' i' = subst (λ (counts : List ℕ). TakesAllBack counts m' i') (sym (map-map (λ (v : SourceView). v.faults) (λ s. g.I.Src.Source.seen s) c.loop-number.sources.items)) c.give_all_back.ensures in
    subst (λ (s : Status). Unfetched names s i i') (sym c.unfetched.ensures)
    (unfetched_by names n x c.in-Err.denied sources i m m' i'
    (name_there names n x lt c.index-names-number.is) (omega (arith, lt)) (g.met.I.Inputs.bounded c.args.inputs.now).1
    c.loop-number.invariant.fetched
    (record {
      failed = λ f. subst (λ (name : List ℕ). NotGiven name m m') named (e.failed (ap (λ (d : Denied). Err d) f));
      none = λ f. e.no_memory (ap (λ (d : Denied). Err d) f);
      rose = λ f. e.cause.failed (ap (λ (d : Denied). Err d) f);
      holds = e.holds;
      faults = e.faults;
      spare = e.spare_err;
    })
    back)

pub loop-number-preserved : goal.loop-number-preserved
loop-number-preserved g c =
    let names = c.args.names.now in
    let n : ℕ = c.loop-number.number in
    let lt : n < length names = c.loop-number-test.true in
    let x = c.index-names-number.result in
    let named : c.as_str.result.now ≡ x = c.as_str.ensures in
    let e = c.in-Ok-fetch.ensures in
    let source = c.in-Ok-fetch.source in
    let sources = map (λ s. g.I.Src.Source.seen s) c.loop-number.sources.items in
    let i = g.I.Inputs.seen c.args.inputs.now in
    let m = g.I.Inputs.seen c.loop-number.inputs in
    let i' = g.I.Inputs.seen c.fetch.new.self in
    let more = fetched_more (take n names) sources c.as_str.result.now (g.I.Src.Source.seen source) i m i' c.loop-number.invariant.fetched
    (record { given = e.source; gave = e.ok; holds = e.holds; faults = e.faults; misses = e.cause.later; spare = e.spare_ok }) in
    record {
      fetched =
          subst (λ (ns : List (List ℕ)). Fetched ns (map (λ s. g.I.Src.Source.seen s) c.push_reserved.new.self.items) i i')
          (ap (λ (name : List ℕ). take n names ++ name ∷ []) named ∙ sym (next_name names n x lt c.index-names-number.is))
          (subst (λ (vs : List SourceView). Fetched (take n names ++ c.as_str.result.now ∷ []) vs i i')
          (sym (map-append (λ s. g.I.Src.Source.seen s) c.loop-number.sources.items (source ∷ [])) ∙ ap (λ xs. map (λ s. g.I.Src.Source.seen s) xs) (sym c.push_reserved.ensures.items))
          more);
      len = omega (arith, c.loop-number.invariant.len, c.push_reserved.ensures.len);
      room = omega (arith, c.loop-number.invariant.room, c.push_reserved.ensures.capacity);
    }
