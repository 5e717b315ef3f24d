use Rattle.std.proofs.Common.{sym, ◌∙◌}
use Rattle.sf_avc.proofs.Walking.{starts, starts_not, starts_nowhere}
use Rattle.sf_avc.proofs.nal.first_place.Goals as goal

pub returns-in-Some : goal.returns-in-Some
returns-in-Some c = (c.in-Some.ensures.0, starts c.args.payload.now c.in-Some.zeros c.in-Some.ensures (sym c.all_zero.ensures ∙ c.if-all_zero.true))

pub returns-in_default : goal.returns-in_default
returns-in_default c = starts_not c.args.payload.now c.in-Some.zeros c.in-Some.ensures (sym c.all_zero.ensures ∙ c.if-all_zero.false)

pub returns-in_default-2 : goal.returns-in_default-2
returns-in_default-2 c = starts_nowhere c.args.payload.now c.in_default.ensures
