use Rattle.sf_extract.proofs.RunLemmas.{give_bad, give_lighter, give_on}
use Rattle.sf_extract.proofs.plan_run.PlanRun.give.Goals as goal

pub returns-in-Err-clause-bad : goal.returns-in-Err-clause-bad
returns-in-Err-clause-bad c = λ bad e file s.
    give_bad c.self.inside.extractor _ c.args.self.now c.args.stored.now c.args.out.now c.put_record.new.out c.in-Err.fault bad file c.self.view_is c.in-Err.ensures e c.requires.reads s

pub returns-in-Ok-clause-rest : goal.returns-in-Ok-clause-rest
returns-in-Ok-clause-rest c = λ file s.
    give_on c.self.inside.extractor _ c.args.self.now c.go_on.new.self c.args.stored.now c.args.out.now c.put_record.new.out file c.self.view_is c.in-Ok.ensures c.go_on.ensures c.requires.reads s

pub returns-in-Ok-clause-lighter : goal.returns-in-Ok-clause-lighter
returns-in-Ok-clause-lighter c =
    give_lighter c.self.inside.extractor _ c.args.self.now c.go_on.new.self c.args.stored.now c.args.out.now c.put_record.new.out c.self.view_is c.in-Ok.ensures c.go_on.ensures c.requires.reads
