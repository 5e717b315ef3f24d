use Rattle.std.proofs.Common.{arith}
use Rattle.sf_world.proofs.Filling.{length_holed}
use Rattle.sf_world.proofs.hole_source.HoleSourceSource.read_at.Goals as goal

-- src/hole_source.rt:84:5
pub returns-then-count-gt0-clause-count : goal.returns-then-count-gt0-clause-count
returns-then-count-gt0-clause-count c =
    omega (arith, c.min-count.ensures, c.saturating_sub.ensures, length_holed c.args.self.now.size c.args.self.now.pieces.items c.args.self.now.within)

-- src/hole_source.rt:84:5
pub returns-else-count-gt0-clause-count : goal.returns-else-count-gt0-clause-count
returns-else-count-gt0-clause-count c =
    omega (arith, c.min-count.ensures, c.saturating_sub.ensures, length_holed c.args.self.now.size c.args.self.now.pieces.items c.args.self.now.within)
