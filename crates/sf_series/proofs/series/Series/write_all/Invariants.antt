use Rattle.std.proofs.Common.{◌≡◌, ℕ, ◌+◌, ◌≤◌, None}
use Rattle.sf_world.specs.Views.{ShelfView}
use Rattle.sf_interleave.specs.Waiting.{how_many}
use Rattle.sf_series.specs.Core.{State}
use Rattle.sf_series.specs.Ending.{written}
use Rattle.sf_series.specs.Series.{Stands}
use Rattle.sf_series.specs.inner.Writing.{SameSetups}
use Rattle.sf_series.proofs.series.Series.write_all.Given as goal

abbrev pub invariant-loop : goal.invariant-loop
invariant-loop g l =
    record {
      wrote : (count : ℕ) × (count + how_many l.self.pending ≡ how_many l.fn.self.pending)
          × ((begun : ShelfView) (state : State) → Stands begun state l.fn.self (g.O.Shelf.seen l.fn.shelf)
          → Stands begun (written count l.fn.self.files.limits l.fn.self.files.setups state) l.self (g.O.Shelf.seen l.shelf));
      goes_on : l.self.fault ≡ None;
      same : SameSetups l.fn.self.files l.self.files;
      later : (g.O.Shelf.seen l.fn.shelf).faults ≤ (g.O.Shelf.seen l.shelf).faults;
    }

abbrev pub decreases-loop : goal.decreases-loop
decreases-loop g l = how_many l.self.pending
