use Rattle.std.proofs.Common.{◌≡◌, ◌≤◌, length, take}
use Rattle.sf_avc.specs.Units.{trimmed}
use Rattle.sf_avc.proofs.nal.trimmed_len.Given as goal

abbrev pub invariant-loop-len : goal.invariant-loop-len
invariant-loop-len l = (l.len ≤ length l.bytes) × (trimmed l.bytes ≡ trimmed (take l.len l.bytes))

abbrev pub decreases-loop-len : goal.decreases-loop-len
decreases-loop-len l = l.len
