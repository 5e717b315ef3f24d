use Rattle.sf_series.proofs.SeriesLaws.{fresh_proper, hand_proper, write_proper}
use Rattle.sf_series.proofs.laws.handed_stays_proper.Goals as goal

pub returns-clause-fresh : goal.returns-clause-fresh
returns-clause-fresh c = fresh_proper

pub returns-clause-hand : goal.returns-clause-hand
returns-clause-hand c = hand_proper

pub returns-clause-write : goal.returns-clause-write
returns-clause-write c = write_proper
