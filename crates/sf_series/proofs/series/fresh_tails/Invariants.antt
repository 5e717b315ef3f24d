use Rattle.std.proofs.Common.{◌≡◌, replicate}
use Rattle.sf_series.specs.inner.Tails.{fresh_tail}
use Rattle.sf_series.proofs.series.fresh_tails.Given as goal

abbrev pub invariant-loop : goal.invariant-loop
invariant-loop l = l.tails.items ≡ replicate l.counter fresh_tail
