use Rattle.sf_tables.proofs.KeptRows.{count_with, last_with}
use Rattle.sf_tables.proofs.laws.one_more_chunk.Goals as goal

pub returns-clause-count : goal.returns-clause-count
returns-clause-count c = λ rows place chunk. count_with rows place chunk

pub returns-clause-last : goal.returns-clause-last
returns-clause-last c = λ rows place chunk. last_with rows place chunk
