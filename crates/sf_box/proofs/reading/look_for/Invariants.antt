use Rattle.std.proofs.Common.{◌≡◌, drop}
use Rattle.sf_box.specs.Reading.{first_head}
use Rattle.sf_box.proofs.reading.look_for.Given as goal

abbrev pub invariant-loop-head : goal.invariant-loop-head
invariant-loop-head l = first_head l.heads l.kind.0 ≡ first_head (drop l.head-index l.heads) l.kind.0
