use Rattle.std.proofs.Common.{Option, Ok, refl, ap, subst, arith}
use Rattle.sf_tick.specs.declared.types.Chunk.{Chunk}
use Rattle.sf_series.specs.Core.{hand}
use Rattle.sf_series.specs.Series.{OpenFiles}
use Rattle.sf_series.proofs.Standing.{takes}
use Rattle.sf_record.specs.inner.Deal.{NextIs}
use Rattle.sf_record.proofs.Deals.{on_err}
use Rattle.sf_record.proofs.Handing.{can_hand, chunk_lost, fed, fed_none, more_wait, none_lost}
use Rattle.sf_record.proofs.deal.fill.Goals as goal

pub hand-requires-after_bounds : goal.hand-requires-after_bounds
hand-requires-after_bounds g c κs within none =
    let f = c.requires.feeds.4 in
    let n = subst (λ (o : Option Chunk). NextIs c.args.pump.now.coded.source.content f.hands.taken c.next_chunk.new.pump o) c.in-Some.is (c.in_ok-chunk.ensures.next f.hands.goes.0 f.hands.taken f.hands.goes.1) in
    takes c.in-Some.chunk f.stands (can_hand c.in-Some.chunk f c.in_ok-chunk.ensures.given n).1

pub returns-in-Ok-clause-done : goal.returns-in-Ok-clause-done
returns-in-Ok-clause-done g c begun shelf state number f =
    let t = c.in_ok-chunk.ensures in
    let n = subst (λ (o : Option Chunk). NextIs c.args.pump.now.coded.source.content f.hands.taken c.next_chunk.new.pump o) c.in-Some.is (t.next f.hands.goes.0 f.hands.taken f.hands.goes.1) in
    (hand state c.in-Some.chunk, fed c.in-Some.chunk f c.requires.goes_on t.given t.source.content n c.in-Ok.ensures.same (c.in-Ok.ensures.stands begun shelf state f.stands))

pub returns-in-Ok-clause-fewer : goal.returns-in-Ok-clause-fewer
returns-in-Ok-clause-fewer g c =
    let f = c.requires.feeds.4 in
    let less = c.in_ok-chunk.ensures.fewer c.in-Some.chunk (ap (λ (o : Option Chunk). Ok o) c.in-Some.is) in
    let more = more_wait c.in-Some.chunk f.stands (c.in-Ok.ensures.stands c.requires.feeds.0 c.requires.feeds.1 c.requires.feeds.2 f.stands) in
    omega (arith, less, more)

pub returns-in-None-clause-done : goal.returns-in-None-clause-done
returns-in-None-clause-done g c begun shelf state number f =
    let t = c.in_ok-chunk.ensures in
    let n = subst (λ (o : Option Chunk). NextIs c.args.pump.now.coded.source.content f.hands.taken c.next_chunk.new.pump o) c.in-None.is (t.next f.hands.goes.0 f.hands.taken f.hands.goes.1) in
    (state, fed_none f t.given t.source.content n)

pub returns-in_err-chunk-clause-lost : goal.returns-in_err-chunk-clause-lost
returns-in_err-chunk-clause-lost g c =
    let t = c.in_err-chunk.ensures in
    on_err c.from_residual.result (λ begun shelf state number f. none_lost f t.given t.source.content (t.stopped f.hands.goes.0 f.hands.taken f.hands.goes.1) refl)

pub returns-in-Err-clause-lost : goal.returns-in-Err-clause-lost
returns-in-Err-clause-lost g c begun shelf state number f =
    let t = c.in_ok-chunk.ensures in
    let n = subst (λ (o : Option Chunk). NextIs c.args.pump.now.coded.source.content f.hands.taken c.next_chunk.new.pump o) c.in-Some.is (t.next f.hands.goes.0 f.hands.taken f.hands.goes.1) in
    chunk_lost c.in-Some.chunk f t.given t.source.content n (ap (λ (fs : OpenFiles). fs.setups) c.in-Err.ensures.same)
