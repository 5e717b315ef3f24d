use Rattle.std.proofs.Common.{◌≡◌, List}
use Rattle.sf_tick.specs.declared.types.Stored.{Stored}
use Rattle.sf_record.specs.Pump.{NotEndedEarly, Stands, turns_left}
use Rattle.sf_record.proofs.tests.whole.all_chunks.Given as goal

abbrev pub invariant-loop-pump : goal.invariant-loop-pump
invariant-loop-pump g l =
    record {
      accepted : List Stored;
      stands : Stands l.pump.coded.source.content accepted l.chunks.items l.pump;
      not_early : NotEndedEarly l.pump;
      size : l.pump.coded.source.size ≡ l.fn.pump.coded.source.size;
    }

abbrev pub decreases-loop-pump : goal.decreases-loop-pump
decreases-loop-pump g l = turns_left l.pump.coded.source.size l.pump
