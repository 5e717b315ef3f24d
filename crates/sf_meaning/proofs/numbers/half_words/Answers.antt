use Rattle.sf_meaning.proofs.EntryLemmas.{pushed_step}
use Rattle.sf_meaning.proofs.SizeLemmas.{half_word_step}
use Rattle.sf_meaning.proofs.numbers.half_words.Goals as goal

pub loop-i-preserved : goal.loop-i-preserved
loop-i-preserved c =
    let step = half_word_step c.args.from c.args.table.now c.args.count c.loop-i.i c.loop-i-test.true in
    rw c.in_ok-push.ensures.items (pushed_step c.loop-i.numbers.items _ _ _ _ c.loop-i.invariant (rw c.read_u16.ensures step))
