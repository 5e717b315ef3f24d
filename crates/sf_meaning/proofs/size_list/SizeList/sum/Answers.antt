use Rattle.std.proofs.Common.{arith}
use Rattle.sf_meaning.proofs.SizeLemmas.{sizes_on}
use Rattle.sf_meaning.proofs.size_list.SizeList.sum.Goals as goal

pub loop-i-preserved : goal.loop-i-preserved
loop-i-preserved c = record {
  low = omega (arith, c.loop-i.invariant.low);
  whole = rw c.from-total.ensures (sizes_on c.args.self.now c.loop-i.i c.args.to c.at.result c.loop-i.total _ c.loop-i-test.true c.at.ensures c.loop-i.invariant.whole);
  bound = omega (arith, c.loop-i.invariant.bound, c.loop-i.invariant.low, c.from-total.ensures, c.at.type_inv);
}
