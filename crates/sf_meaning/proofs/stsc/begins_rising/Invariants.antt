use Rattle.std.proofs.Common.{◌≡◌, drop, map}
use Rattle.sf_meaning.specs.inner.Entries.{spreads_as}
use Rattle.sf_meaning.specs.Tables.{rising}
use Rattle.sf_meaning.proofs.stsc.begins_rising.Given as goal

abbrev pub invariant-loop-run : goal.invariant-loop-run
invariant-loop-run l = rising l.last (map (λ f. f.first) (spreads_as (drop l.run-index l.others))) ≡ rising 1 (map (λ f. f.first) (spreads_as l.others))
