use Rattle.std.proofs.Common.{◌≡◌, List, map, sym, ap, subst, ◌∙◌, arith}
use Rattle.sf_record.specs.declared.serial_end.SerialOutcome.{SerialOutcome}
use Rattle.sf_record.specs.Pump.{Pumping}
use Rattle.sf_record.specs.Serial.{lowest_fault}
use Rattle.sf_record.specs.inner.Finishing.{WriteEnds}
use Rattle.sf_record.proofs.Deals.{dealt_by}
use Rattle.sf_record.proofs.Errors.{if_err_then, on_ok_then}
use Rattle.sf_record.proofs.Finishing.{Wrote, made_kept, write_ends}
use Rattle.sf_record.proofs.Ready.{ready_of}
use Rattle.sf_record.proofs.Serials.{over_long}
use Rattle.sf_record.proofs.serial.write_series.Goals as goal

pub lowest_fault-requires-after_bounds : goal.lowest_fault-requires-after_bounds
lowest_fault-requires-after_bounds g c κs within =
    let long = over_long _ _ c.deal-dealt.ensures.over in
    omega (arith, long, c.requires.few)

pub returns-clause-ends : goal.returns-clause-ends
returns-clause-ends g c begun state d0 turn =
    let t = c.deal-dealt.ensures in
    let f = c.finish-report.ensures in
    let wrote : Wrote begun (g.O.Shelf.seen c.args.shelf.now) (g.O.Shelf.seen c.deal-dealt.new.shelf) (g.O.Shelf.seen c.finish-report.new.shelf) c.args.series.files.limits c.args.series.files.setups c.deal-dealt.new.pumps.items c.deal-dealt.new.series c.deal-dealt.result c.finish-report.result.1 c.finish-report.result.0 =
    record {
      own = (t.same.setups, t.same.limits);
      done = on_ok_then c.deal-dealt.result (λ h. let d = h begun state d0 in (d.0, d.1, d.2, d.3, d.4 turn)) t.done;
      limit = λ shown e. let d = t.limit shown e begun state d0 in (d.0, d.1, ready_of d.1 d.2, d.3 turn);
      stands = (let d = t.stands begun state d0 in (d.after, d.stands));
      dealt_to = dealt_by (λ any. turn) (t.stands begun state d0);
      goes = t.goes;
      ended = t.ended;
      write = t.write;
      later = t.later;
      all = on_ok_then c.finish-report.result.1 (λ h. h begun) f.done;
      stopped = λ shown e. f.limit shown e begun;
      broken = if_err_then c.finish-report.result.1 (λ fault h breaks. h breaks begun) f.broken;
      again = λ fault is breaks. (f.again fault is breaks).0;
      stays = λ fault is breaks. f.stays fault is breaks begun;
      none = f.ended;
      failed = f.write;
      at_end = f.later;
    } in
    let told : c.lowest_fault.result ≡ lowest_fault 0 (map (λ p. p.fault) c.deal-dealt.new.pumps.items) =
    c.lowest_fault.ensures ∙ ap (λ (ps : List Pumping). lowest_fault 0 (map (λ p. p.fault) ps)) c.as_slice.ensures.value in (
      subst (λ (o : SerialOutcome). WriteEnds begun (g.O.Shelf.seen c.args.shelf.now) c.args.series.files.limits c.args.series.files.setups c.deal-dealt.new.pumps.items c.finish-report.result.0 (g.O.Shelf.seen c.finish-report.new.shelf) o) (sym c.outcome_by.ensures)
          (write_ends c.deal-dealt.result c.finish-report.result.1 c.lowest_fault.result told wrote),
      made_kept c.deal-dealt.result c.finish-report.result.1 wrote,
    )
