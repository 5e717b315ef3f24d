use Rattle.sf_extract.proofs.NumberLemmas.{order_more}
use Rattle.sf_extract.proofs.order.orders_of.Goals as goal

pub loop-t-preserved : goal.loop-t-preserved
loop-t-preserved c = rw c.in_ok-push.ensures.items (order_more c.args.movie.now.movie c.loop-t.t c.loop-t.orders.items c.in_ok-order_of.field-0 c.loop-t.invariant c.in_ok-order_of.ensures)
