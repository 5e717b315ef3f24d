use Rattle.std.proofs.Common.{◌≡◌, drop}
use Rattle.sf_meaning.specs.Tracks.{all_own}
use Rattle.sf_meaning.proofs.tracks.all_own.Given as goal

abbrev pub invariant-loop-entry : goal.invariant-loop-entry
invariant-loop-entry l = all_own l.own (drop l.entry-index l.entries) ≡ all_own l.own l.entries
