use Rattle.std.proofs.Common.{◌≡◌, ◌-◌}
use Rattle.sf_avc.specs.Config.{sets}
use Rattle.sf_avc.proofs.Sets.{with_front}
use Rattle.sf_avc.proofs.config.read_sets.Given as goal

abbrev pub invariant-loop : goal.invariant-loop
invariant-loop l = with_front l.sets (sets (l.count - l.counter) l.rest) ≡ sets l.count l.bytes
