use Rattle.std.proofs.Common.{◌≡◌, drop}
use Rattle.sf_series.specs.Switching.{video_from}
use Rattle.sf_series.proofs.rule.first_video.Given as goal

abbrev pub invariant-loop-number : goal.invariant-loop-number
invariant-loop-number l = video_from l.number (drop l.number l.setups) ≡ video_from 0 l.setups
