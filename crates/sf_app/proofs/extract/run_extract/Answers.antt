use Rattle.std.proofs.Common.{refl}
use Rattle.sf_app.proofs.Extracting.{ends_not_read, ends_read, says_by}
use Rattle.sf_app.proofs.extract.run_extract.Goals as goal

pub returns-in-Ok : goal.returns-in-Ok
returns-in-Ok g c = ends_read c.args.asked.now _ c.in-Ok.plans.items _ _ _ c.as_slice.ensures c.in-Ok.ensures.read c.run_plans.ensures

pub returns-in-Err : goal.returns-in-Err
returns-in-Err g c = ends_not_read c.args.asked.now _ c.in-Err.status _ _ c.as_slice.ensures c.in-Err.ensures.read refl refl (says_by _ c.put_answer-put.result _ _ c.put_answer-put.ensures)
