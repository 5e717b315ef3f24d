use Rattle.sf_meaning.proofs.SizeLemmas.{half_on, half_there}
use Rattle.sf_meaning.proofs.size_list.half_of.Goals as goal

pub half_at-requires : goal.half_at-requires
half_at-requires c = half_there c.args.bytes.now c.args.count c.args.i c.requires

pub returns : goal.returns
returns c = half_on c.args.bytes.now c.args.count c.args.i c.half_at.result c.requires c.half_at.ensures
