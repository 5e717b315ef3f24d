use Rattle.std.proofs.Common.{◌≡◌, ◌+◌, ◌<◌, ℕ, List, get_or, ◌∙◌, arith}
use Rattle.sf_meaning.specs.ReadTables.{sizes_view}
use Rattle.sf_cursor.proofs.HeldSamples.{held_on, held_stop, next_place}
use Rattle.sf_cursor.proofs.OneSample.{first_left}
use Rattle.sf_cursor.proofs.held.each_held.Goals as goal

pub returns-in-Err-clause-err : goal.returns-in-Err-clause-err
returns-in-Err-clause-err c =
    let sizes : List ℕ = sizes_view c.args.sizes.now in
    let i : ℕ = c.loop-i.i in
    let size : c.size_at-size.result ≡ get_or sizes i 0 = first_left sizes i c.size_at-size.result _ c.size_at-size.ensures in
    let within : i < c.args.from + c.args.count = omega (arith, c.loop-i-test.true) in
    λ ss all.
    c.loop-i.invariant.held ss all
    ∙ held_stop c.args.bytes c.args.track c.args.place sizes c.args.from c.args.count i c.loop-i.end c.size_at-size.result ss c.in-Err.fault all
    c.loop-i.invariant.low within c.loop-i.invariant.place size (rw c.from.ensures at c.in-Err.ensures.err)

pub loop-i-preserved : goal.loop-i-preserved
loop-i-preserved c =
    let sizes : List ℕ = sizes_view c.args.sizes.now in
    let i : ℕ = c.loop-i.i in
    let size : c.size_at-size.result ≡ get_or sizes i 0 = first_left sizes i c.size_at-size.result _ c.size_at-size.ensures in
    let within : i < c.args.from + c.args.count = omega (arith, c.loop-i-test.true) in
    record {
      low = omega (arith, c.loop-i.invariant.low);
      place = c.in-Ok.ensures.end
          ∙ next_place c.args.place sizes c.args.from i c.loop-i.end c.size_at-size.result c.loop-i.invariant.low (omega (arith, within, c.requires.within)) c.loop-i.invariant.place size;
      held = λ ss all.
          c.loop-i.invariant.held ss all
          ∙ held_on c.args.bytes c.args.track c.args.place sizes c.args.from c.args.count i c.loop-i.end c.size_at-size.result ss all
          c.loop-i.invariant.low within c.loop-i.invariant.place size (rw c.from.ensures at c.in-Ok.ensures.ok);
    }
