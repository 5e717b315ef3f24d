use Rattle.std.proofs.Common.{◌≡◌, None, length}
use Rattle.sf_world.specs.Views.{ShelfView}
use Rattle.sf_series.specs.Core.{State}
use Rattle.sf_record.specs.inner.Deal.{AllWait, Deals, PumpsOver}
use Rattle.sf_record.specs.inner.InTurn.{InTurn}
use Rattle.sf_record.proofs.deal.fill_all.Given as goal

abbrev pub invariant-loop-number : goal.invariant-loop-number
invariant-loop-number g l =
    record {
      deals : (begun shelf : ShelfView) (state : State) → Deals begun state l.fn.pumps.items l.fn.series shelf → (after : State) × Deals begun after l.pumps.items l.series shelf × AllWait l.number after l.pumps.items × (InTurn state → InTurn after);
      goes_on : l.series.fault ≡ None;
      files : l.series.files ≡ l.fn.series.files;
      over : PumpsOver l.fn.pumps.items l.pumps.items;
      long : length l.pumps.items ≡ length l.fn.pumps.items;
    }
