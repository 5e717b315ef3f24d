use Rattle.sf_record.proofs.Inputs.{ends_front, goes_next}
use Rattle.sf_record.proofs.advance.go_on.Goals as goal

pub returns-in-Next-clause-goes : goal.returns-in-Next-clause-goes
returns-in-Next-clause-goes g c =
    λ accepted stands reads.
    goes_next _ accepted c.args.gather.now c.put.new.gather c.in-Next.found _ _ c.put.new.held c.put.result c.put.ensures stands
    (c.in-Next.ensures.reads c.args.gather.now.given accepted reads)

pub returns-in-End-clause-goes : goal.returns-in-End-clause-goes
returns-in-End-clause-goes g c =
    λ accepted stands reads.
    let ends = c.in-End.ensures.reads c.args.gather.now.given accepted reads in
    (stands, ends, ends_front _ c.args.gather.now.given accepted c.in-End.fault ends)
