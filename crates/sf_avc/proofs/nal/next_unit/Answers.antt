use Rattle.std.proofs.Common.{Some, None, refl}
use Rattle.sf_avc.proofs.Walking.{next_found, next_fault, handed_on}
use Rattle.sf_avc.proofs.nal.next_unit.Goals as goal

pub returns-in_ok-unit-in-Some : goal.returns-in_ok-unit-in-Some
returns-in_ok-unit-in-Some c =
    next_found c.args.payload.now c.args.at (Some c.in-Some.code) c.in_ok-unit-in-Some.unit c.split_at.result.1.now c.split_at-in-Some.result.0.now c.requires
    c.split_at.ensures.back c.split_at-in-Some.ensures.front c.in-Some.ensures c.in_ok-unit-in-Some.ensures

pub returns-in_ok-unit-in-None : goal.returns-in_ok-unit-in-None
returns-in_ok-unit-in-None c =
    next_found c.args.payload.now c.args.at None c.in_ok-unit-in-None.unit c.split_at.result.1.now c.split_at.result.1.now c.requires
    c.split_at.ensures.back refl c.in-None.ensures c.in_ok-unit-in-None.ensures

pub returns-in_err-unit-in-Some : goal.returns-in_err-unit-in-Some
returns-in_err-unit-in-Some c =
    handed_on c.args.payload.now c.args.at c.from_residual.result c.in_err-unit-in-Some.field-0.0 c.from_residual.ensures.1
    (next_fault c.args.payload.now c.args.at (Some c.in-Some.code) c.in_err-unit-in-Some.field-0.0 c.split_at.result.1.now c.split_at-in-Some.result.0.now
    c.split_at.ensures.back c.split_at-in-Some.ensures.front c.in-Some.ensures c.in_err-unit-in-Some.ensures)

pub returns-in_err-unit-in-None : goal.returns-in_err-unit-in-None
returns-in_err-unit-in-None c =
    handed_on c.args.payload.now c.args.at c.from_residual-in_err-unit-in-None.result c.in_err-unit-in-None.field-0.0 c.from_residual-in_err-unit-in-None.ensures.1
    (next_fault c.args.payload.now c.args.at None c.in_err-unit-in-None.field-0.0 c.split_at.result.1.now c.split_at.result.1.now
    c.split_at.ensures.back refl c.in-None.ensures c.in_err-unit-in-None.ensures)
