use Rattle.std.proofs.Common.{◌≡◌, length}
use Rattle.sf_meaning.specs.inner.Entries.{offsets_left}
use Rattle.sf_meaning.proofs.listing.in_offset_run.Given as goal

abbrev pub invariant-loop-now : goal.invariant-loop-now
invariant-loop-now l = offsets_left l.now ≡ offsets_left l.offsets

abbrev pub decreases-loop-now : goal.decreases-loop-now
decreases-loop-now l = length l.now.runs.now
