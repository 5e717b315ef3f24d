use Rattle.std.proofs.Common.{◌≡◌, ◌+◌, ◌-◌, ◌^◌, min, sum_by, take}
use Rattle.sf_avc.specs.declared.nal.Unit.{Unit}
use Rattle.sf_avc.proofs.prefixed.prefixed_len.Given as goal

abbrev pub invariant-loop-unit : goal.invariant-loop-unit
invariant-loop-unit l = l.len ≡ min (sum_by (λ (u : Unit). 4 + u.len) (take l.unit-index l.units)) (2 ^ 64 - 1)
