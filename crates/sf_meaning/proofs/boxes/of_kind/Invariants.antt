use Rattle.std.proofs.Common.{◌≡◌, ◌++◌, drop}
use Rattle.sf_meaning.specs.Steps.{of_kind}
use Rattle.sf_meaning.specs.inner.Found.{pieces}
use Rattle.sf_meaning.proofs.boxes.of_kind.Given as goal

abbrev pub invariant-loop-found : goal.invariant-loop-found
invariant-loop-found l = pieces l.all.items ++ of_kind l.kind.0 (pieces (drop l.found-index l.boxes)) ≡ of_kind l.kind.0 (pieces l.boxes)
