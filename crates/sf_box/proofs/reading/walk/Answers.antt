use Rattle.std.proofs.Common.{◌≡◌, ◌<◌, ◌∷◌, [], ◌++◌, length, sym, ◌∙◌, arith}
use Rattle.sf_box.proofs.Heads.{walk_next, walk_ends, walk_fails, pushed}
use Rattle.sf_box.proofs.reading.walk.Goals as goal

pub loop-rest-preserved : goal.loop-rest-preserved
loop-rest-preserved c =
    let more = pushed c.push.result (c.push.new.self ≡ c.loop-rest.heads ++ c.in-Ok.head ∷ []) (sym c.is_err.ensures.value ∙ c.if-is_err.false) c.push.ensures.ok in
    walk_next c.args.base c.args.bytes.now c.loop-rest.heads c.loop-rest.at c.loop-rest.rest.now c.in-Ok.head c.push.new.self c.split_at.result.1.now
    more c.split_at.ensures.back c.in-Ok.ensures.head c.loop-rest.invariant

pub returns-in-Err : goal.returns-in-Err
returns-in-Err c =
    let some : 0 < length c.loop-rest.rest.now = grind arith in
    walk_fails c.args.base c.args.bytes.now c.loop-rest.heads c.loop-rest.at c.loop-rest.rest.now c.in-Err.fault some c.in-Err.ensures.head c.loop-rest.invariant

pub returns : goal.returns
returns c =
    let none : length c.loop-rest.rest.now ≡ 0 = grind arith in
    walk_ends c.args.base c.args.bytes.now c.loop-rest.heads c.loop-rest.at c.loop-rest.rest.now none c.loop-rest.invariant
