use Rattle.std.proofs.Common.{◌≡◌, ◌++◌, drop, string_bytes}
use Rattle.sf_app.specs.MakeEnds.{summary_lines}
use Rattle.sf_app.proofs.make.summary_lines.Given as goal

abbrev pub invariant-loop-number : goal.invariant-loop-number
invariant-loop-number l = string_bytes l.lines ++ summary_lines l.number (drop l.number l.tracks) ≡ summary_lines 0 l.tracks
