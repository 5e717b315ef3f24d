use Rattle.std.proofs.Common.{arith}
use Rattle.sf_extract.specs.inner.Orders.{ordered}
use Rattle.sf_extract.proofs.OrderLemmas.{first_of_all, none_at_all}
use Rattle.sf_extract.proofs.seek.earliest.Goals as goal

pub returns-then-order_len-eq0 : goal.returns-then-order_len-eq0
returns-then-order_len-eq0 c = none_at_all _ (ordered c.args.movie.now.movie c.args.t c.args.order.now) c.requires.order.in_order (omega (arith, c.order_len.ensures, c.if-order_len-eq0.true))

pub returns : goal.returns
returns c = rw c.order_at.ensures (first_of_all _ (ordered c.args.movie.now.movie c.args.t c.args.order.now) c.requires.order.in_order (omega (arith, c.order_len.ensures, c.if-order_len-eq0.false)))
