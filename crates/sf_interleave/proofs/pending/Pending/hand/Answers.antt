use Rattle.sf_interleave.proofs.Waiting.{their_pushed}
use Rattle.sf_interleave.proofs.pending.Pending.hand.Goals as goal

pub invariant_of-self : goal.invariant_of-self
invariant_of-self c =
    their_pushed c.self.inside.queues.items c.push.result c.index_mut.result.now c.push.new.self c.args.chunk c.self.invariant
    (rw c.self.view_is c.requires.track) c.index_mut.ensures.value c.push.ensures.ok c.push.ensures.err
