use Rattle.std.proofs.Common.{◌+◌, ◌<◌, length, refl, sym, ap, ◌∙◌, arith}
use Rattle.std.proofs.lemmas.List.{length-set}
use Rattle.std.proofs.lemmas.Option.{slice_get_read}
use Rattle.sf_series.specs.Series.{OpenFiles}
use Rattle.sf_record.proofs.Deals.{all_same, dealt_but, deals_fed, feeds_of, less_but, on_err, over_set, waits_fed}
use Rattle.sf_record.proofs.Ready.{one_turn}
use Rattle.sf_record.proofs.deal.fill_all.Goals as goal

pub loop-number-init : goal.loop-number-init
loop-number-init g c =
    record {
      deals = λ begun shelf state d. (state, d, λ number pump less at. absurd (omega (arith, less)), λ turn. turn);
      goes_on = c.requires.goes_on;
      files = refl;
      over = all_same c.args.pumps.now.items;
      long = refl;
    }

pub fill-requires-clause-feeds : goal.fill-requires-clause-feeds
fill-requires-clause-feeds g c κs within =
    let i = c.loop-number.invariant in
    let r = c.requires.deals in
    let k = c.loop-number.number in
    let items = c.loop-number.pumps.items in
    let d = i.deals r.0 r.1 r.2 r.3 in
    let less : k < length items = omega (arith, c.loop-number-test.true, i.long, c.len-number-end.ensures) in
    let at = slice_get_read items (length items) k c.index_mut.result.now refl less c.index_mut.ensures.value in
    (r.0, r.1, d.0, k, feeds_of k c.index_mut.result.now d.1 at)

pub returns-in_err-fill-clause-stopped : goal.returns-in_err-fill-clause-stopped
returns-in_err-fill-clause-stopped g c =
    on_err c.from_residual.result (λ begun shelf state d0.
    let i = c.loop-number.invariant in
    let d = i.deals begun shelf state d0 in
    let k = c.loop-number.number in
    let items = c.loop-number.pumps.items in
    let less : k < length items = omega (arith, c.loop-number-test.true, i.long, c.len-number-end.ensures) in
    let at = slice_get_read items (length items) k c.index_mut.result.now refl less c.index_mut.ensures.value in
    dealt_but k c.index_mut.result.now c.fill.new.pump d.1 at c.in_err-fill.ensures.stopped (c.in_err-fill.ensures.lost begun shelf d.0 k (feeds_of k c.index_mut.result.now d.1 at)) d.3)

pub returns-in_err-fill-clause-over : goal.returns-in_err-fill-clause-over
returns-in_err-fill-clause-over g c =
    let i = c.loop-number.invariant in
    let k = c.loop-number.number in
    let items = c.loop-number.pumps.items in
    let less : k < length items = omega (arith, c.loop-number-test.true, i.long, c.len-number-end.ensures) in
    let at = slice_get_read items (length items) k c.index_mut.result.now refl less c.index_mut.ensures.value in
    let e = c.in_err-fill.ensures in
    over_set c.args.pumps.now.items items k c.index_mut.result.now c.fill.new.pump i.over at (record { given = e.given; source = e.source; failed = e.failed; live = e.live })

pub loop-number-preserved : goal.loop-number-preserved
loop-number-preserved g c =
    let i = c.loop-number.invariant in
    let k = c.loop-number.number in
    let items = c.loop-number.pumps.items in
    let old = c.index_mut.result.now in
    let now = c.fill.new.pump in
    let less : k < length items = omega (arith, c.loop-number-test.true, i.long, c.len-number-end.ensures) in
    let at = slice_get_read items (length items) k old refl less c.index_mut.ensures.value in
    let e = c.in_ok-fill.ensures in
    record {
      deals = λ begun shelf state d0.
          let d = i.deals begun shelf state d0 in
          let f = e.done begun shelf d.0 k (feeds_of k old d.1 at) in (
            f.0,
            deals_fed k old now d.1 at e.files f.1,
            waits_fed items k (k + 1) old now at f.1 (λ t pump other below there. d.2 t pump (less_but k t other below) there),
            λ turn. one_turn c.fill.new.series.files.setups k d.1 (sym (ap (λ (fs : OpenFiles). fs.setups) e.files)) f.1.one (d.3 turn),
          );
      goes_on = e.goes;
      files = e.files ∙ i.files;
      over = over_set c.args.pumps.now.items items k old now i.over at (record { given = e.given; source = e.source; failed = e.failed; live = e.live });
      long = length-set items k now ∙ i.long;
    }
