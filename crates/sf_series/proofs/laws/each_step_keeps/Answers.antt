use Rattle.sf_series.proofs.SeriesLaws.{fresh_kept, hand_kept, write_kept, core_kept}
use Rattle.sf_series.proofs.laws.each_step_keeps.Goals as goal

pub returns-clause-fresh : goal.returns-clause-fresh
returns-clause-fresh c = fresh_kept

pub returns-clause-hand : goal.returns-clause-hand
returns-clause-hand c = hand_kept

pub returns-clause-write : goal.returns-clause-write
returns-clause-write c = write_kept

pub returns-clause-steps : goal.returns-clause-steps
returns-clause-steps c = core_kept
