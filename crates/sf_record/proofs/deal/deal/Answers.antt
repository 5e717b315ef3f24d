use Rattle.std.proofs.Common.{Bool, List, Ok, sym, ap, ◌∙◌, arith}
use Rattle.sf_tick.specs.declared.types.Chunk.{Chunk}
use Rattle.sf_interleave.specs.Waiting.{earliest_front}
use Rattle.sf_interleave.proofs.WaitingLaws.{picked_none}
use Rattle.sf_series.specs.Series.{OpenFiles}
use Rattle.sf_record.proofs.Deals.{all_over, dealt_by, dealt_same, overs_then}
use Rattle.sf_record.proofs.Errors.{handed_on}
use Rattle.sf_record.proofs.deal.deal.Goals as goal

pub loop-init : goal.loop-init
loop-init g c =
    let f = c.in_ok-fill_all.ensures in
    record {
      deals = λ begun state d. f.done begun _ state d;
      goes_on = f.goes;
      same = record { setups = ap (λ (fs : OpenFiles). fs.setups) f.files; limits = ap (λ (fs : OpenFiles). fs.limits) f.files };
      over = f.over;
      later = omega arith;
    }

pub write_next-requires-clause-deals : goal.write_next-requires-clause-deals
write_next-requires-clause-deals g c κs within =
    let r = c.requires.deals in
    let d = c.loop.invariant.deals r.0 r.1 r.2 in
    (r.0, d.0, d.1)

pub loop-preserved : goal.loop-preserved
loop-preserved g c =
    let i = c.loop.invariant in
    let t = c.in_ok-write_next.ensures in
    let yes = ap (λ (b : Bool). Ok b) c.if-branch.true in
    record {
      deals = λ begun state d0. let d = i.deals begun state d0 in let m = t.more yes begun d.0 d.1 d.2 in (m.0, m.1, m.2, λ turn. m.3 (d.3 turn));
      goes_on = t.goes;
      same = record { setups = t.same.setups ∙ i.same.setups; limits = t.same.limits ∙ i.same.limits };
      over = overs_then _ _ _ i.over t.over;
      later = omega (arith, i.later, t.later);
    }

pub returns-in_err-write_next-clause-limit : goal.returns-in_err-write_next-clause-limit
returns-in_err-write_next-clause-limit g c shown e begun state d0 =
    let d = c.loop.invariant.deals begun state d0 in
    let l = c.in_err-write_next.ensures.limit shown (handed_on c.from_residual-in_err-write_next.ensures.1 e) begun d.0 d.1 d.2 in
    (l.0, l.1, l.2, λ turn. l.3 (d.3 turn))

pub returns-in_err-write_next-clause-over : goal.returns-in_err-write_next-clause-over
returns-in_err-write_next-clause-over g c = overs_then _ _ _ c.loop.invariant.over c.in_err-write_next.ensures.over

pub returns-clause-done : goal.returns-clause-done
returns-clause-done g c begun state d0 =
    let d = c.loop.invariant.deals begun state d0 in
    let s = c.in_ok-write_next.ensures.done (ap (λ (b : Bool). Ok b) c.if-branch.false) in
    let none = ap (λ (ls : List (List Chunk)). earliest_front ls) (sym d.1.stands.pending) ∙ s.3 in
    let r = dealt_same begun d.0 (ap (λ v. v.items) s.0) s.1 (ap g.O.Shelf.seen s.2) d.1 (all_over d.0 _ (λ t. picked_none d.0.pending t none) d.2) in
    (d.0, r.0, r.1, none, d.3)

pub returns-in_err-write_next-clause-stands : goal.returns-in_err-write_next-clause-stands
returns-in_err-write_next-clause-stands g c begun state d0 =
    let d = c.loop.invariant.deals begun state d0 in
    dealt_by (λ turn. (d.2, d.3 turn)) (c.in_err-write_next.ensures.stands begun d.0 d.1)

pub returns-clause-stands : goal.returns-clause-stands
returns-clause-stands g c begun state d0 =
    let d = c.loop.invariant.deals begun state d0 in
    dealt_by (λ turn. (d.2, d.3 turn)) (c.in_ok-write_next.ensures.stands begun d.0 d.1)
