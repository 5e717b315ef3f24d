use Rattle.std.proofs.Common.{◌≡◌, take}
use Rattle.sf_gather.specs.Accepting.{last_from}
use Rattle.sf_file.proofs.open_track.last_after.Given as goal

abbrev pub invariant-loop-sample : goal.invariant-loop-sample
invariant-loop-sample l = l.last ≡ last_from l.fn.before (take l.sample-index l.samples)
