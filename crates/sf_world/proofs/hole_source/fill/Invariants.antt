-- The pieces before the index are laid over the buffer.
use Rattle.std.proofs.Common.{drop}
use Rattle.sf_world.proofs.Filling.{Filling}
use Rattle.sf_world.proofs.hole_source.fill.Given as goal

abbrev pub invariant-loop-piece : goal.invariant-loop-piece
invariant-loop-piece l = Filling l.fn.size l.fn.at l.into (drop l.piece-index l.fn.pieces) l.fn.pieces
