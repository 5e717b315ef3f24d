use Rattle.std.proofs.Common.{◌≡◌, drop}
use Rattle.sf_extract.specs.Plan.{missing_from}
use Rattle.sf_extract.proofs.plan.missing_track.Given as goal

abbrev pub invariant-loop-k : goal.invariant-loop-k
invariant-loop-k l = missing_from l.tracks l.k (drop l.k l.command-items) ≡ missing_from l.tracks 0 l.command-items
