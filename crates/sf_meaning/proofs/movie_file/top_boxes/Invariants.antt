use Rattle.std.proofs.Common.{◌≡◌, ◌+◌, true, length}
use Rattle.sf_box.specs.Boxes.{joined_with, boxes}
use Rattle.sf_meaning.specs.inner.Found.{pieces}
use Rattle.sf_meaning.proofs.movie_file.top_boxes.Given as goal

abbrev pub invariant-loop-rest : goal.invariant-loop-rest
invariant-loop-rest l = record {
  whole : joined_with (pieces l.found) (boxes true l.at l.rest) ≡ boxes true 0 l.file;
  place : l.at + length l.rest ≡ length l.file;
}

abbrev pub decreases-loop-rest : goal.decreases-loop-rest
decreases-loop-rest l = length l.rest
