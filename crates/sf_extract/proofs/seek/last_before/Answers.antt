use Rattle.std.proofs.Common.{◌-◌, rules, arith, ap}
use mir.Syntax.{w64}
use mir.Val.{SFits}
use Rattle.sf_extract.specs.declared.types.Sync.{Sync}
use Rattle.std.proofs.lemmas.Int.{ints}
use Rattle.sf_extract.specs.inner.Orders.{IsSplit, nth, ordered}
use Rattle.sf_extract.proofs.OrderLemmas.{latest_before}
use Rattle.sf_extract.proofs.seek.last_before.Goals as goal

pub returns : goal.returns
returns c =
    let f : SFits w64 c.order_at-last.result.shown_us = search rules in
    let e = ap (λ (s : Sync). s.shown_us) c.order_at-last.ensures in
    let again = c.shown_before_one-first.ensures in
    let split : IsSplit (ordered c.args.movie.now.movie c.args.t c.args.order.now) (nth (ordered c.args.movie.now.movie c.args.t c.args.order.now) (c.args.before - 1)).shown_us c.shown_before_one-first.result = record {
      between = again.between;
      within = again.within;
      before = λ i lt. (let x = again.before i lt in omega (arith, ints, x, e));
      from = λ i le lt. (let x = again.from i le lt in omega (arith, ints, x, e));
    } in
    rw c.order_at.ensures (latest_before _ (ordered c.args.movie.now.movie c.args.t c.args.order.now) c.args.us c.args.before c.shown_before_one-first.result c.requires.order.in_order c.requires.split c.requires.none c.requires.some split)
