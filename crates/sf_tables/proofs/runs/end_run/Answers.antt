use Rattle.sf_tables.proofs.RunLists.{last_run}
use Rattle.sf_tables.proofs.runs.end_run.Goals as goal

pub returns-clause-ok : goal.returns-clause-ok
returns-clause-ok c = rw (← last_run c.args.run.count c.args.run.value c.args.out.now c.if-run-eq0.false) c.put_run.ensures.ok
