use Rattle.std.proofs.Common.{◌∙◌, ℤ, refl, ap, subst}
use Rattle.std.proofs.lemmas.Int.{to_z_pos}
use mir.Syntax.{w64}
use Rattle.sf_extract.specs.inner.Times.{IsInTime}
use Rattle.sf_extract.specs.SyncAt.{seeked}
use Rattle.sf_extract.specs.declared.plan.Command.TheVariants.{Read, ToEnd}
use Rattle.sf_extract.proofs.EndLemmas.{err_starts, held, read_done, to_end_done}
use Rattle.sf_extract.proofs.RunLemmas.{did_select, did_seek, did_step, did_unselect}
use Rattle.sf_extract.proofs.plan_run.act.Goals as goal

pub returns-in-Select-clause-done : goal.returns-in-Select-clause-done
returns-in-Select-clause-done c = λ e. rw (c.in-Select.is, c.select_any.ensures) (did_select c.in-Select.t c.args.out.now c.args.extractor.now)

pub returns-in-Unselect-clause-done : goal.returns-in-Unselect-clause-done
returns-in-Unselect-clause-done c = λ e. rw (c.in-Unselect.is, c.unselect_any.ensures) (did_unselect c.in-Unselect.t c.args.out.now c.args.extractor.now)

pub returns-in-Seek-clause-done : goal.returns-in-Seek-clause-done
returns-in-Seek-clause-done c = λ e.
    let at = c.seek.ensures ∙ ap (λ (z : ℤ). seeked c.args.extractor.now z c.in-Seek.mode) (to_z_pos w64 c.in-Seek.us (subst IsInTime c.in-Seek.is c.requires)) in
    rw (c.in-Seek.is, at) (did_seek c.in-Seek.mode c.in-Seek.us c.args.out.now c.args.extractor.now)

pub returns-in_ok-append-in-Advance-clause-done : goal.returns-in_ok-append-in-Advance-clause-done
returns-in_ok-append-in-Advance-clause-done c = λ e.
    rw c.in-Advance.is (did_step c.args.out.now c.append.new.self c.args.extractor.now c.advance-remains.new.self c.advance-remains.result c.from.result
    c.advance-remains.ensures.moved c.advance-remains.ensures.remains c.from.ensures c.in_ok-append-in-Advance.ensures.ok)

pub returns-in-Read-clause-done : goal.returns-in-Read-clause-done
returns-in-Read-clause-done c = rw c.in-Read.is (read_done c.put_end.result c.args.out.now c.put_end.new.out c.args.extractor.now c.put_end.ensures.none)

pub returns-in-Read-clause-held : goal.returns-in-Read-clause-held
returns-in-Read-clause-held c = rw c.in-Read.is (held c.put_end.result Read c.args.out.now c.put_end.new.out c.args.extractor.now refl c.put_end.ensures.some)

pub returns-in-Read-clause-err : goal.returns-in-Read-clause-err
returns-in-Read-clause-err c = err_starts c.put_end.result c.args.out.now c.put_end.new.out c.put_end.ensures.err

pub returns-in-ToEnd-clause-done : goal.returns-in-ToEnd-clause-done
returns-in-ToEnd-clause-done c = rw c.in-ToEnd.is (to_end_done c.put_end-in-ToEnd.result c.args.out.now c.put_end-in-ToEnd.new.out c.args.extractor.now c.put_end-in-ToEnd.ensures.none)

pub returns-in-ToEnd-clause-held : goal.returns-in-ToEnd-clause-held
returns-in-ToEnd-clause-held c = rw c.in-ToEnd.is (held c.put_end-in-ToEnd.result ToEnd c.args.out.now c.put_end-in-ToEnd.new.out c.args.extractor.now refl c.put_end-in-ToEnd.ensures.some)

pub returns-in-ToEnd-clause-err : goal.returns-in-ToEnd-clause-err
returns-in-ToEnd-clause-err c = err_starts c.put_end-in-ToEnd.result c.args.out.now c.put_end-in-ToEnd.new.out c.put_end-in-ToEnd.ensures.err
