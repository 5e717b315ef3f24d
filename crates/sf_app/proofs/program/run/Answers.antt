use Rattle.std.proofs.Common.{Result, Ok, subst, sym, ap, ◌∙◌}
use Rattle.sf_words.specs.Ranges.{IsInRange}
use Rattle.sf_words.specs.declared.command.Command.{Command}
use Rattle.sf_words.specs.declared.faults.UsageFault.{UsageFault as WordFault}
use Rattle.sf_app.specs.Ends.{Ends}
use Rattle.sf_app.specs.Outside.{outside_of}
use Rattle.sf_app.proofs.program.run.Goals as goal

pub run_record-requires-after_bounds : goal.run_record-requires-after_bounds
run_record-requires-after_bounds g c κs within = subst IsInRange c.in-Ok-Record.field-0-is c.in-Ok-Record.ensures.range

pub run_extract-requires-clause-some : goal.run_extract-requires-clause-some
run_extract-requires-clause-some g c κs within = (subst IsInRange c.in-Ok-Extract.field-0-is c.in-Ok-Extract.ensures.range).0

pub run_extract-requires-clause-few : goal.run_extract-requires-clause-few
run_extract-requires-clause-few g c κs within = (subst IsInRange c.in-Ok-Extract.field-0-is c.in-Ok-Extract.ensures.range).1

pub returns-in-Ok-Make-clause-ends : goal.returns-in-Ok-Make-clause-ends
returns-in-Ok-Make-clause-ends g c =
    let i = g.I.Inputs.seen c.args.inputs.now in
    let s = g.O.Shelf.seen c.args.shelf.now in
    subst (λ (said : Result Command WordFault). Ends said c.run_make.result (outside_of i s (g.T.Sink.seen c.args.text.now)) (outside_of i s (g.T.Sink.seen c.run_make.new.text)))
    (sym (c.in-Ok-Make.ensures.read ∙ ap (λ (is : Command). let said : Result Command WordFault = Ok is in said) c.in-Ok-Make.field-0-is))
    (c.run_make.ensures i s)
