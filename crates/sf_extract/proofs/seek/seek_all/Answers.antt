use Rattle.std.proofs.Common.{ℤ, rules, arith, refl, sym, ap, ◌∙◌}
use Rattle.std.proofs.lemmas.Int.{to_z-of_z}
use mir.Syntax.{w64}
use mir.Val.{SFits, of_z, to_z}
use Rattle.sf_extract.specs.SyncAt.{all_sought}
use Rattle.sf_extract.specs.inner.Seats.{positions_in}
use Rattle.sf_extract.proofs.NumberLemmas.{order_there}
use Rattle.sf_extract.proofs.SeatLemmas.{set_seat}
use Rattle.sf_extract.proofs.SyncLemmas.{sought_end, sought_step}
use Rattle.sf_extract.proofs.seek.seek_all.Goals as goal

pub loop-t-preserved : goal.loop-t-preserved
loop-t-preserved c = (
  sym (sought_step c.args.movie.now.movie (to_z w64 (of_z w64 c.args.us)) c.args.mode c.loop-t.t c.loop-t.seats _ c.seat_sought.result (omega (arith, c.loop-t-test.true, c.loop-t.auto.seats)) refl c.seat_sought.ensures.position) ∙ c.loop-t.invariant.0,
  set_seat c.args.movie.now.movie c.loop-t.seats c.loop-t.t c.seat_sought.result c.loop-t.invariant.1 c.seat_sought.ensures.seat,
)

pub returns-clause-positions : goal.returns-clause-positions
returns-clause-positions c =
    let f : SFits w64 c.args.us = search rules in
    sym (sought_end c.args.movie.now.movie (to_z w64 (of_z w64 c.args.us)) c.args.mode c.loop-t.t c.loop-t.seats (omega (arith, c.loop-t-test.false, c.loop-t.auto.seats))) ∙ c.loop-t.invariant.0
    ∙ ap (λ (z : ℤ). all_sought c.args.movie.now.movie z c.args.mode 0 (positions_in c.args.seats.now)) (to_z-of_z w64 c.args.us f)

pub seat_sought-requires-clause-order : goal.seat_sought-requires-clause-order
seat_sought-requires-clause-order c = order_there c.args.movie.now.movie c.loop-t.t c.args.orders.now c.index-orders-t.result c.requires.orders
    (omega (arith, c.loop-t-test.true, c.loop-t.auto.seats, c.requires.orders.count, c.requires.seats.count)) (search rules)
