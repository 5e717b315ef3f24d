use Rattle.sf_extract.specs.inner.Orders.{AreOrders}
use Rattle.sf_extract.proofs.order.orders_of.Given as goal

abbrev pub invariant-loop-t : goal.invariant-loop-t
invariant-loop-t l = AreOrders l.movie.movie l.t l.orders.items
