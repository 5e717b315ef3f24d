use Rattle.std.proofs.Common.{◌<◌, length, Err, refl, sym, ap, arith}
use Rattle.std.proofs.lemmas.List.{length-set}
use Rattle.std.proofs.lemmas.Option.{slice_get_read}
use Rattle.sf_series.specs.Core.{write}
use Rattle.sf_series.specs.Series.{OpenFiles}
use Rattle.sf_series.specs.declared.faults.SeriesFault.{SeriesFault}
use Rattle.sf_record.specs.inner.Deal.{AllWait}
use Rattle.sf_record.proofs.Deals.{all_same, dealt_but, dealt_failed, dealt_to, deals_fed, deals_written, err_stands, feeds_of, over_set, waits_fed, waits_written, written_inside, wrote_is}
use Rattle.sf_record.proofs.Errors.{handed_on}
use Rattle.sf_record.proofs.InTurn.{write_turn}
use Rattle.sf_record.proofs.Ready.{one_turn, ready_of, waits_limited}
use Rattle.sf_record.proofs.deal.write_next.Goals as goal

pub returns-in_err-track-clause-limit : goal.returns-in_err-track-clause-limit
returns-in_err-track-clause-limit g c shown e begun state d0 wait =
    let w = c.in_err-track.ensures in
    let limits = c.args.series.now.files.limits in
    let setups = c.args.series.now.files.setups in
    let l = (w.limit shown (handed_on c.from_residual.ensures.1 e)).1 begun state d0.stands in (
      write limits setups state,
      deals_written d0 w.same l.1,
      waits_limited limits setups state c.args.pumps.now.items (length c.args.pumps.now.items) shown l.0 wait,
      λ turn. write_turn limits setups state d0.kept.theirs (ready_of d0 wait) turn,
    )

pub returns-in_err-track-clause-stands : goal.returns-in_err-track-clause-stands
returns-in_err-track-clause-stands g c begun state d0 =
    let w = c.in_err-track.ensures in
    err_stands c.in_err-track.field-0.0 (λ shown is. let l = (w.limit shown (ap (λ (f : SeriesFault). Err f) is)).1 begun state d0.stands in
    dealt_to (deals_written d0 w.same l.1) (λ h. write_turn c.args.series.now.files.limits c.args.series.now.files.setups state d0.kept.theirs (ready_of d0 h.0) h.1))
    (λ breaks. let b = w.broken breaks in dealt_failed b.0 c.in_err-track.field-0.0 d0 w.same w.ended breaks (b.1 begun state d0.stands) (λ h. h.1))

pub returns-in_err-track-clause-over : goal.returns-in_err-track-clause-over
returns-in_err-track-clause-over g c = all_same c.args.pumps.now.items

pub fill-requires-clause-feeds : goal.fill-requires-clause-feeds
fill-requires-clause-feeds g c κs within =
    let r = c.requires.deals in
    let w = c.in_ok-track.ensures in
    let k = c.in-OneChunk.track in
    let items = c.args.pumps.now.items in
    let less : k < length items = written_inside k r.2 (wrote_is k r.2.stands w.wrote c.in-OneChunk.is) in
    let at = slice_get_read items (length items) k c.index_mut.result.now refl less c.index_mut.ensures.value in
    let d = deals_written r.2 w.same (w.done r.0 r.1 r.2.stands) in
    (r.0, g.O.Shelf.seen c.write_one.new.shelf, write c.args.series.now.files.limits c.args.series.now.files.setups r.1, k, feeds_of k c.index_mut.result.now d at)

pub returns-in_err-fill-in-OneChunk-clause-over : goal.returns-in_err-fill-in-OneChunk-clause-over
returns-in_err-fill-in-OneChunk-clause-over g c =
    let r = c.requires.deals in
    let k = c.in-OneChunk.track in
    let items = c.args.pumps.now.items in
    let less : k < length items = written_inside k r.2 (wrote_is k r.2.stands c.in_ok-track.ensures.wrote c.in-OneChunk.is) in
    let at = slice_get_read items (length items) k c.index_mut.result.now refl less c.index_mut.ensures.value in
    let e = c.in_err-fill-in-OneChunk.ensures in
    over_set items items k c.index_mut.result.now c.fill.new.pump (all_same items) at (record { given = e.given; source = e.source; failed = e.failed; live = e.live })

pub returns-in_ok-fill-in-OneChunk-clause-over : goal.returns-in_ok-fill-in-OneChunk-clause-over
returns-in_ok-fill-in-OneChunk-clause-over g c =
    let r = c.requires.deals in
    let k = c.in-OneChunk.track in
    let items = c.args.pumps.now.items in
    let less : k < length items = written_inside k r.2 (wrote_is k r.2.stands c.in_ok-track.ensures.wrote c.in-OneChunk.is) in
    let at = slice_get_read items (length items) k c.index_mut.result.now refl less c.index_mut.ensures.value in
    let e = c.in_ok-fill-in-OneChunk.ensures in
    over_set items items k c.index_mut.result.now c.fill.new.pump (all_same items) at (record { given = e.given; source = e.source; failed = e.failed; live = e.live })

pub returns-in_ok-fill-in-OneChunk-clause-more : goal.returns-in_ok-fill-in-OneChunk-clause-more
returns-in_ok-fill-in-OneChunk-clause-more g c e begun state d0 wait =
    let w = c.in_ok-track.ensures in
    let k = c.in-OneChunk.track in
    let items = c.args.pumps.now.items in
    let old = c.index_mut.result.now in
    let now = c.fill.new.pump in
    let is = wrote_is k d0.stands w.wrote c.in-OneChunk.is in
    let less : k < length items = written_inside k d0 is in
    let at = slice_get_read items (length items) k old refl less c.index_mut.ensures.value in
    let d = deals_written d0 w.same (w.done begun state d0.stands) in
    let f = c.in_ok-fill-in-OneChunk.ensures.done begun _ _ k (feeds_of k old d at) in
    let waits : AllWait (length items) f.0 _ =
    waits_fed items k (length items) old now at f.1 (waits_written c.args.series.now.files.limits c.args.series.now.files.setups state items k (length items) is wait) in (
      f.0,
      deals_fed k old now d at c.in_ok-fill-in-OneChunk.ensures.files f.1,
      λ t pump below there. waits t pump (omega (arith, below, length-set items k now)) there,
      λ turn. one_turn c.fill.new.series.files.setups k d (sym (ap (λ (fs : OpenFiles). fs.setups) c.in_ok-fill-in-OneChunk.ensures.files)) f.1.one
          (write_turn c.args.series.now.files.limits c.args.series.now.files.setups state d0.kept.theirs (ready_of d0 wait) turn),
    )

pub returns-in_ok-fill-in-OneChunk-clause-stands : goal.returns-in_ok-fill-in-OneChunk-clause-stands
returns-in_ok-fill-in-OneChunk-clause-stands g c begun state d0 =
    let w = c.in_ok-track.ensures in
    let k = c.in-OneChunk.track in
    let items = c.args.pumps.now.items in
    let less : k < length items = written_inside k d0 (wrote_is k d0.stands w.wrote c.in-OneChunk.is) in
    let at = slice_get_read items (length items) k c.index_mut.result.now refl less c.index_mut.ensures.value in
    let d = deals_written d0 w.same (w.done begun state d0.stands) in
    let f = c.in_ok-fill-in-OneChunk.ensures.done begun _ _ k (feeds_of k c.index_mut.result.now d at) in
    dealt_to (deals_fed k c.index_mut.result.now c.fill.new.pump d at c.in_ok-fill-in-OneChunk.ensures.files f.1)
    (λ h. one_turn c.fill.new.series.files.setups k d (sym (ap (λ (fs : OpenFiles). fs.setups) c.in_ok-fill-in-OneChunk.ensures.files)) f.1.one
    (write_turn c.args.series.now.files.limits c.args.series.now.files.setups state d0.kept.theirs (ready_of d0 h.0) h.1))

pub returns-in_err-fill-in-OneChunk-clause-stands : goal.returns-in_err-fill-in-OneChunk-clause-stands
returns-in_err-fill-in-OneChunk-clause-stands g c begun state d0 =
    let w = c.in_ok-track.ensures in
    let k = c.in-OneChunk.track in
    let items = c.args.pumps.now.items in
    let e = c.in_err-fill-in-OneChunk.ensures in
    let less : k < length items = written_inside k d0 (wrote_is k d0.stands w.wrote c.in-OneChunk.is) in
    let at = slice_get_read items (length items) k c.index_mut.result.now refl less c.index_mut.ensures.value in
    let d = deals_written d0 w.same (w.done begun state d0.stands) in
    dealt_but k c.index_mut.result.now c.fill.new.pump d at e.stopped (e.lost begun _ _ k (feeds_of k c.index_mut.result.now d at))
    (λ h. write_turn c.args.series.now.files.limits c.args.series.now.files.setups state d0.kept.theirs (ready_of d0 h.0) h.1)

pub returns-in-Idle-clause-stands : goal.returns-in-Idle-clause-stands
returns-in-Idle-clause-stands g c begun state d0 =
    dealt_to (deals_written d0 c.in_ok-track.ensures.same (c.in_ok-track.ensures.done begun state d0.stands))
    (λ h. write_turn c.args.series.now.files.limits c.args.series.now.files.setups state d0.kept.theirs (ready_of d0 h.0) h.1)

pub returns-in-Idle-clause-over : goal.returns-in-Idle-clause-over
returns-in-Idle-clause-over g c = all_same c.args.pumps.now.items
