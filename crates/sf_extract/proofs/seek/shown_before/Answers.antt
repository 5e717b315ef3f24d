use Rattle.std.proofs.Common.{◌≤ℤ◌, ◌<ℤ◌, arith, subst}
use mir.Syntax.{w64}
use mir.Val.{of_z, to_z}
use Rattle.sf_extract.specs.declared.types.Sync.{Sync}
use Rattle.std.proofs.lemmas.Int.{ints}
use Rattle.sf_extract.specs.inner.Orders.{ordered}
use Rattle.sf_extract.proofs.OrderLemmas.{parts_high, parts_low}
use Rattle.sf_extract.proofs.seek.shown_before.Goals as goal

pub loop-low-preserved-then-order_at-us : goal.loop-low-preserved-then-order_at-us
loop-low-preserved-then-order_at-us c =
    parts_low (ordered c.args.movie.now.movie c.args.t c.args.order.now) _ c.loop-low.low _ c.loop-low.high c.requires.order.in_order.rises c.loop-low.invariant (omega (arith, c.loop-low-test.true))
    (subst (λ (s : Sync). s.shown_us <ℤ to_z w64 (of_z w64 c.args.us)) c.order_at.ensures (grind (arith, ints, c.if-order_at-us.true)))

pub loop-low-preserved : goal.loop-low-preserved
loop-low-preserved c =
    parts_high (ordered c.args.movie.now.movie c.args.t c.args.order.now) _ c.loop-low.low _ c.loop-low.high c.requires.order.in_order.rises c.loop-low.invariant (omega arith) (omega (arith, c.loop-low-test.true))
    (subst (λ (s : Sync). to_z w64 (of_z w64 c.args.us) ≤ℤ s.shown_us) c.order_at.ensures (grind (arith, ints, c.if-order_at-us.false)))
