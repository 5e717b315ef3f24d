use Rattle.std.proofs.Common.{arith}
use Rattle.sf_extract.specs.inner.Orders.{ordered}
use Rattle.sf_extract.proofs.OrderLemmas.{first_from, none_from}
use Rattle.sf_extract.proofs.seek.earliest_from.Goals as goal

pub returns-then-before-order_len : goal.returns-then-before-order_len
returns-then-before-order_len c = none_from _ (ordered c.args.movie.now.movie c.args.t c.args.order.now) c.args.us c.args.before c.requires.order.in_order c.requires.split (omega (arith, c.order_len.ensures, c.if-before-order_len.true))

pub returns : goal.returns
returns c = rw c.order_at.ensures (first_from _ (ordered c.args.movie.now.movie c.args.t c.args.order.now) c.args.us c.args.before c.requires.order.in_order c.requires.split (omega (arith, c.order_len.ensures, c.if-before-order_len.false)))
