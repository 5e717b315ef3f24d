use Rattle.std.proofs.Common.{arith}
use Rattle.sf_extract.proofs.HandedLemmas.{few_put}
use Rattle.sf_extract.proofs.handed.put_units.Goals as goal

pub overflow_cast-result : goal.overflow_cast-result
overflow_cast-result c =
    let h = few_put c.args.width c.args.stored.now _ c.args.into.now c.annexb_of.new.into c.len.result c.len-before.result c.requires.least c.requires.short c.in_ok-units.ensures.units
    c.in-Ok.ensures.ok c.len.ensures c.len-before.ensures in
    omega (arith, h)
