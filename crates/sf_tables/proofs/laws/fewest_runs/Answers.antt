use Rattle.sf_tables.proofs.RunLists.{expand_runs, fewest}
use Rattle.sf_tables.proofs.laws.fewest_runs.Goals as goal

pub returns-clause-same : goal.returns-clause-same
returns-clause-same c = λ values. expand_runs values

pub returns-clause-fewest : goal.returns-clause-fewest
returns-clause-fewest c = λ values runs e. rw (← e) (fewest runs)
