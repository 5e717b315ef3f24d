use Rattle.std.proofs.Common.{◌+◌, ◌-◌, ◌++◌, ◌∷◌, [], List, ℕ, ap, ◌∙◌, arith}
use Rattle.sf_avc.specs.Config.{sets}
use Rattle.sf_avc.proofs.Sets.{sets_next}
use Rattle.sf_avc.proofs.config.read_sets.Goals as goal

pub loop-preserved : goal.loop-preserved
loop-preserved c =
    let more = c.in_ok-push.ensures.ok ∙ ap (λ (set : List ℕ). c.loop.sets ++ set ∷ []) c.in_ok-from_slice.ensures in
    sets_next c.loop.sets c.in-Some.set.now c.loop.rest.now c.in-Some.after.now (c.args.count - (c.loop.counter + 1)) (c.args.count - c.loop.counter) c.push.new.self
    (sets c.args.count c.args.bytes.now) (omega arith) more c.in-Some.ensures c.loop.invariant
