use Rattle.std.proofs.Common.{◌≡◌, ◌+◌, ◌≤◌, None, length}
use Rattle.sf_world.specs.Views.{ShelfView}
use Rattle.sf_interleave.specs.Waiting.{how_many}
use Rattle.sf_series.specs.Core.{State}
use Rattle.sf_series.specs.inner.Writing.{SameSetups}
use Rattle.sf_record.specs.inner.Deal.{AllWait, Deals, PumpsOver, turns_of}
use Rattle.sf_record.specs.inner.InTurn.{InTurn}
use Rattle.sf_record.proofs.deal.deal.Given as goal

abbrev pub invariant-loop : goal.invariant-loop
invariant-loop g l =
    record {
      deals : (begun : ShelfView) (state : State) → Deals begun state l.fn.pumps.items l.fn.series (g.O.Shelf.seen l.fn.shelf)
          → (after : State) × Deals begun after l.pumps.items l.series (g.O.Shelf.seen l.shelf) × AllWait (length l.pumps.items) after l.pumps.items × (InTurn state → InTurn after);
      goes_on : l.series.fault ≡ None;
      same : SameSetups l.fn.series.files l.series.files;
      over : PumpsOver l.fn.pumps.items l.pumps.items;
      later : (g.O.Shelf.seen l.fn.shelf).faults ≤ (g.O.Shelf.seen l.shelf).faults;
    }

abbrev pub decreases-loop : goal.decreases-loop
decreases-loop g l = turns_of l.pumps.items + how_many l.series.pending
