-- A failing call leaves the range as it is.
use Rattle.sf_world.proofs.ContentsLemmas.{spoils_nothing}
use Rattle.sf_world.proofs.mem_sink.MemSinkSink.patch.Goals as goal

pub returns-then-next_fails-clause-failed : goal.returns-then-next_fails-clause-failed
returns-then-next_fails-clause-failed c = spoils_nothing _ _ _ c.requires
