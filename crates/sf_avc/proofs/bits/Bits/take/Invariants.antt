use Rattle.sf_avc.proofs.Taking.{Taking}
use Rattle.sf_avc.proofs.bits.Bits.take.Given as goal

abbrev pub invariant-loop : goal.invariant-loop
invariant-loop l = Taking l.initial.self l.counter l.number l.self
