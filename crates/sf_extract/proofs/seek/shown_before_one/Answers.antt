use Rattle.std.proofs.Common.{ℤ, ◌-◌, ◌<ℤ◌, arith, rules, subst}
use mir.Syntax.{w64}
use mir.Val.{SFits, of_z, to_z}
use Rattle.std.proofs.lemmas.Int.{ints, to_z-of_z}
use Rattle.sf_extract.specs.declared.types.Sync.{Sync}
use Rattle.sf_extract.specs.inner.Orders.{nth, ordered}
use Rattle.sf_extract.proofs.OrderLemmas.{split_at}
use Rattle.sf_extract.proofs.seek.shown_before_one.Goals as goal

pub returns-then-earlier-us : goal.returns-then-earlier-us
returns-then-earlier-us c =
    let f : SFits w64 c.args.us = search rules in
    split_at (ordered c.args.movie.now.movie c.args.t c.args.order.now) c.args.us c.args.k c.requires.order.in_order.rises (omega (arith, c.if-k-gt0.true)) c.requires.there (omega (arith, ints, c.requires.time))
    (subst (λ (z : ℤ). (nth (ordered c.args.movie.now.movie c.args.t c.args.order.now) (c.args.k - 1)).shown_us <ℤ z) (to_z-of_z w64 c.args.us f)
    (subst (λ (s : Sync). s.shown_us <ℤ to_z w64 (of_z w64 c.args.us)) c.order_at-earlier.ensures (grind (arith, ints, c.if-earlier-us.true))))
