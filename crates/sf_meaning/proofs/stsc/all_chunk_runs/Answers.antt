use Rattle.std.proofs.lemmas.List.{map-append}
use Rattle.sf_meaning.specs.inner.Entries.{spreads_as}
use Rattle.sf_meaning.proofs.EntryLemmas.{pushed_step, spread_step}
use Rattle.sf_meaning.proofs.stsc.all_chunk_runs.Goals as goal

pub loop-i-preserved : goal.loop-i-preserved
loop-i-preserved c =
    let step = spread_step c.args.stsc.now c.args.count c.loop-i.i c.loop-i-test.true in
    rw (c.in_ok-push.ensures.items, map-append)
    (pushed_step (spreads_as c.loop-i.runs.items) _ _ _ _ c.loop-i.invariant (rw (c.read_u32.ensures, c.read_u32-in-loop-i.ensures, c.read_u32-in-loop-i-2.ensures) step))
