use Rattle.std.proofs.Common.{length, ◌∙◌, arith}
use Rattle.sf_world.proofs.LaidLemmas.{laid_over, laid_apart}
use Rattle.sf_world.proofs.hole_source.lay.Goals as goal

-- src/hole_source.rt:31:1
pub returns-then-from-end : goal.returns-then-from-end
returns-then-from-end c = λ bytes fits lies holds.
    laid_over bytes c.args.piece.now c.args.into.now c.copy_from_slice.new.self c.args.place c.args.at c.max-from.result c.min-end.result
    fits lies holds c.max-from.ensures c.min-end.ensures c.if-from-end.true c.copy_from_slice.ensures.after

-- src/hole_source.rt:31:1
pub returns-else-from-end : goal.returns-else-from-end
returns-else-from-end c = λ bytes fits lies holds. holds ∙ laid_apart bytes c.args.piece.now c.args.place c.args.at (length c.args.into.now) fits lies (omega (arith, c.if-from-end.false, c.max-from.ensures, c.min-end.ensures))
