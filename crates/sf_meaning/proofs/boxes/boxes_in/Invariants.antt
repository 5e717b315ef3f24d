use Rattle.std.proofs.Common.{◌≡◌, take}
use Rattle.sf_box.specs.Reading.{pieces_at}
use Rattle.sf_meaning.specs.inner.Found.{pieces}
use Rattle.sf_meaning.proofs.boxes.boxes_in.Given as goal

abbrev pub invariant-loop-head : goal.invariant-loop-head
invariant-loop-head l = pieces l.boxes ≡ pieces_at l.at l.bytes (take l.head-index l.head-items)
