use Rattle.std.proofs.Common.{rules, ◌≡◌, ◌≤◌, suc, ◌+◌, List, Some, Ok, Err, refl, sym, ap, ◌∙◌, arith, inr}
use Rattle.sf_tick.specs.declared.types.Chunk.{Chunk}
use Rattle.sf_interleave.proofs.WaitingLaws.{none_waits}
use Rattle.sf_series.specs.declared.series.Wrote.{Wrote}
use Rattle.sf_series.specs.declared.series.Wrote.TheVariants.{Idle}
use Rattle.sf_interleave.specs.Waiting.{earliest_front, how_many}
use Rattle.sf_series.specs.declared.faults.SeriesFault.{SeriesFault}
use Rattle.sf_series.specs.declared.faults.SeriesFault.TheVariants.{Limit}
use Rattle.sf_series.specs.Series.{OpenSeries}
use Rattle.sf_series.proofs.Answers.{if_err}
use Rattle.sf_series.proofs.WritingOut.{already_out, done_written, idle_none, limit_written, some_waits, step_written}
use Rattle.sf_series.proofs.series.Series.write_all.Goals as goal

pub returns-in-Some-clause-limit : goal.returns-in-Some-clause-limit
returns-in-Some-clause-limit g c shown e begun state s =
    let is : c.in-Some.fault ≡ Limit shown = cc in
    already_out shown s (ap (λ (v : OpenSeries). v.fault) (sym c.self.view_is) ∙ c.in-Some.is ∙ ap (λ (f : SeriesFault). Some f) is)

pub loop-preserved : goal.loop-preserved
loop-preserved g c =
    let i = c.loop.invariant in
    let t = c.in_ok-write_one.ensures in
    let fewer : how_many c.write_one.new.self.pending + 1 ≡ how_many c.loop.self.pending = search rules in
    record {
      wrote = (suc i.wrote.0, omega (arith, i.wrote.1, fewer), λ begun state s. step_written state c.args.self.now i.wrote.0 (i.wrote.2 begun state s) i.goes_on i.same t.done);
      goes_on = t.goes_on;
      same = record { setups = t.same.setups ∙ i.same.setups; limits = t.same.limits ∙ i.same.limits };
      later = omega (arith, i.later, t.later);
    }

pub returns-clause-done : goal.returns-clause-done
returns-clause-done g c begun state s =
    let i = c.loop.invariant in
    let t = c.in_ok-write_one.ensures in
    let is : c.in_ok-write_one.field-0 ≡ Idle = search rules in
    let same = t.idle (ap (λ (w : Wrote). Ok w) is) in
    let none = none_waits c.loop.self.pending (idle_none (earliest_front c.loop.self.pending) (sym t.wrote ∙ is)) in
    let pending = ap (λ (lists : List (List Chunk)). how_many lists) s.pending in
    done_written state c.args.self.now i.wrote.0 (i.wrote.2 begun state s) (omega (arith, i.wrote.1, none, pending)) same.0 (ap g.O.Shelf.seen same.1)

pub returns-in_err-write_one-clause-broken : goal.returns-in_err-write_one-clause-broken
returns-in_err-write_one-clause-broken g c =
    let i = c.loop.invariant in
    if_err c.from_residual.result c.in_err-write_one.field-0.0 _ c.from_residual.ensures.1 (λ breaks begun state s.
    let r = c.in_err-write_one.ensures.broken breaks in
    (_, (i.wrote.0, inr (r.0, refl)), r.1 begun _ (i.wrote.2 begun state s)))

pub returns-in_err-write_one-clause-limit : goal.returns-in_err-write_one-clause-limit
returns-in_err-write_one-clause-limit g c shown e begun state s =
    let i = c.loop.invariant in
    let t = c.in_err-write_one.ensures in
    let is : c.in_err-write_one.field-0.0 ≡ Limit shown = search rules in
    let l = t.limit shown (ap (λ (f : SeriesFault). Err f) is) in
    let now = i.wrote.2 begun state s in
    let met = l.1 begun _ now in
    let some : 1 ≤ how_many c.loop.self.pending = some_waits c.loop.self.pending met.0.chunk (ap (λ (lists : List (List Chunk)). earliest_front lists) now.pending ∙ met.0.next) in
    let pending = ap (λ (lists : List (List Chunk)). how_many lists) s.pending in
    let next = step_written state c.args.self.now i.wrote.0 now i.goes_on i.same (λ b st x. (l.1 b st x).1) in
    limit_written state c.args.self.now i.wrote.0 shown next (t.ended ∙ ap (λ (f : SeriesFault). Some f) is)
    (record { setups = t.same.setups ∙ i.same.setups; limits = t.same.limits ∙ i.same.limits }) (omega (arith, i.wrote.1, some, pending))
