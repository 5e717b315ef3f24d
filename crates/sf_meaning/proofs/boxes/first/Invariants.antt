use Rattle.std.proofs.Common.{◌≡◌, drop}
use Rattle.sf_box.specs.Parts.{child_piece}
use Rattle.sf_meaning.specs.inner.Found.{pieces}
use Rattle.sf_meaning.proofs.boxes.first.Given as goal

abbrev pub invariant-loop-found : goal.invariant-loop-found
invariant-loop-found l = child_piece (pieces l.boxes) l.kind.0 ≡ child_piece (pieces (drop l.found-index l.boxes)) l.kind.0
