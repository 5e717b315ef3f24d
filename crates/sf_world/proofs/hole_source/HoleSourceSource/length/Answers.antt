use Rattle.std.proofs.Common.{sym}
use Rattle.sf_world.proofs.Filling.{length_holed}
use Rattle.sf_world.proofs.hole_source.HoleSourceSource.length.Goals as goal

-- src/hole_source.rt:80:5
pub returns-clause-length : goal.returns-clause-length
returns-clause-length c = sym (length_holed c.args.self.now.size c.args.self.now.pieces.items c.args.self.now.within)

-- src/hole_source.rt:80:5
pub returns-clause-told : goal.returns-clause-told
returns-clause-told c = length_holed c.args.self.now.size c.args.self.now.pieces.items c.args.self.now.within
