use Rattle.std.proofs.Common.{◌≡◌, ◌++◌, take}
use Rattle.std.specs.List.{flat_map}
use Rattle.sf_avc.specs.ConfigBody.{sized_set}
use Rattle.sf_avc.specs.inner.Sets.{bytes_at}
use Rattle.sf_avc.proofs.config_body.put_sets.Given as goal

abbrev pub invariant-loop-set : goal.invariant-loop-set
invariant-loop-set l = l.out ≡ l.fn.out ++ flat_map (λ u. sized_set (bytes_at l.config u)) (take l.set-index l.sets)
