use Rattle.std.proofs.Common.{◌≡◌, ◌≤◌, ◌⊎◌, List, Some}
use Rattle.sf_tick.specs.declared.types.Chunk.{Chunk}
use Rattle.sf_tick.specs.declared.types.Stored.{Stored}
use Rattle.sf_world.specs.Counts.{Rose}
use Rattle.sf_world.specs.Views.{Unchanged}
use Rattle.sf_record.specs.Input.{read_fault}
use Rattle.sf_record.specs.Pump.{NotEndedEarly, Stands, turns_left}
use Rattle.sf_record.specs.inner.Deal.{GoesOn}
use Rattle.sf_record.proofs.deal.next_chunk.Given as goal

abbrev pub invariant-loop-pump : goal.invariant-loop-pump
invariant-loop-pump g l =
    record {
      stands : (accepted : List Stored) (taken : List Chunk) → Stands l.fn.pump.coded.source.content accepted taken l.fn.pump → GoesOn l.fn.pump.coded.source.content taken l.pump;
      left : turns_left l.fn.pump.coded.source.size l.pump ≤ turns_left l.fn.pump.coded.source.size l.fn.pump;
      source : Unchanged l.fn.pump.coded.source l.pump.coded.source;
      given : l.pump.given ≡ l.fn.pump.given;
      failed : l.pump.fault ≡ Some read_fault → (l.fn.pump.fault ≡ Some read_fault) ⊎ Rose l.fn.pump.coded.source.faults l.pump.coded.source.faults;
      live : NotEndedEarly l.fn.pump → NotEndedEarly l.pump;
    }

abbrev pub decreases-loop-pump : goal.decreases-loop-pump
decreases-loop-pump g l = turns_left l.pump.coded.source.size l.pump
