use Rattle.std.proofs.Common.{◌≡◌, length, arith, sym, ap}
use Rattle.sf_extract.proofs.NumberLemmas.{listed_order, number_order, written_back}
use Rattle.sf_extract.proofs.order.order_of.Goals as goal

pub returns-then-syncs_rise : goal.returns-then-syncs_rise
returns-then-syncs_rise c = number_order c.args.movie.now.movie c.args.t c.sync_count-count.result c.sync_count-count.ensures (c.syncs_rise.ensures c.if-syncs_rise.true)

pub returns : goal.returns
returns c =
    let sorted = c.put_in_order.new.numbers in
    let long : length sorted ≡ c.in_ok-numbers.numbers.len = omega (arith, c.put_in_order.ensures.len, ap length c.deref_mut.ensures.value, c.deref_mut.ensures.len) in
    rw (c.from_vec.ensures, written_back c.in_ok-numbers.numbers.items sorted c.in_ok-numbers.numbers.len long)
    (listed_order c.args.movie.now.movie c.args.t c.in_ok-numbers.numbers.items sorted c.in_ok-numbers.ensures (rw (sym c.deref_mut.ensures.value) c.put_in_order.ensures.sorted))
