use Rattle.std.proofs.Common.{ℕ, List, ◌∙◌, ◌++◌, ap, arith}
use Rattle.sf_avc.specs.ConfigBody.{sized_set}
use Rattle.sf_avc.proofs.RecordSets.{all_sets}
use Rattle.sf_avc.proofs.config_body.put_sets.Goals as goal

pub returns : goal.returns
returns c =
    c.loop-set.invariant
    ∙ ap (λ (bytes : List ℕ). c.args.out.now ++ bytes) (all_sets sized_set c.args.config.now c.args.sets.now c.loop-set.set-index (grind arith))
