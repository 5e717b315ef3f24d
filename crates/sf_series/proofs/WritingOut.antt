-- A series that writes all that waits.
use Rattle.std.proofs.Common.{◌+◌, ◌-◌, ◌≤◌, [], ◌∷◌, arith, ◌≡◌, ℕ, suc, true, false, List, Option, Some, None, is_some, refl, sym, subst, ap, ◌∙◌}
use Rattle.sf_entry.specs.declared.track_setup.TrackSetup.{TrackSetup}
use Rattle.sf_world.specs.Views.{ShelfView}
use Rattle.sf_interleave.specs.Waiting.{earliest_front, how_many}
use Rattle.sf_series.specs.declared.faults.SeriesFault.{SeriesFault}
use Rattle.sf_series.specs.declared.faults.SeriesFault.TheVariants.{Limit as LimitMet}
use Rattle.sf_series.specs.declared.limits.Limits.{Limits}
use Rattle.sf_series.specs.declared.limits.LimitShown.{LimitShown}
use Rattle.sf_series.specs.Core.{State, write}
use Rattle.sf_series.specs.Ending.{written, written_out}
use Rattle.sf_tick.specs.declared.types.Chunk.{Chunk}
use Rattle.sf_series.specs.declared.series.Wrote.TheVariants.{Idle}
use Rattle.sf_series.specs.Series.{MeetsLimit, OpenSeries, Stands, wrote_as}
use Rattle.sf_series.specs.inner.Writing.{SameSetups}
use Rattle.sf_series.proofs.WrittenOut.{written_ended, written_more, written_stays}

-- nothing is written after a limit
pub already_out : {begun shelf : ShelfView} {state : State} {series : OpenSeries} (shown : LimitShown) → Stands begun state series shelf → series.fault ≡ Some (LimitMet shown)
    → MeetsLimit series.files.limits series.files.setups (written_out series.files.limits series.files.setups state) shown × Stands begun (written_out series.files.limits series.files.setups state) series shelf
already_out {begun} {shelf} {state} {series} shown s e =
    let ended : state.ended ≡ true = sym s.ended ∙ ap (λ (o : Option SeriesFault). is_some o) e in
    let out = written_ended (how_many state.pending) series.files.limits series.files.setups state ended in (
      subst (λ (st : State). MeetsLimit series.files.limits series.files.setups st shown) (sym out) (s.limit shown e),
      subst (λ (st : State). Stands begun st series shelf) (sym out) s,
    )

-- one more write of a series that goes on
pub step_written : {begun before after : ShelfView} {series new : OpenSeries} (state : State) (first : OpenSeries) (count : ℕ) → Stands begun (written count first.files.limits first.files.setups state) series before → series.fault ≡ None
    → SameSetups first.files series.files → ((begun : ShelfView) (state : State) → Stands begun state series before → Stands begun (write series.files.limits series.files.setups state) new after)
    → Stands begun (written (suc count) first.files.limits first.files.setups state) new after
step_written {begun} {before} {after} {series} {new} state first count s none same next =
    let now : State = written count first.files.limits first.files.setups state in
    let goes_on : now.ended ≡ false = sym s.ended ∙ ap (λ (o : Option SeriesFault). is_some o) none in
    subst (λ (st : State). Stands begun st new after) (sym (written_more count first.files.limits first.files.setups state goes_on))
    (subst (λ (l : Limits). Stands begun (write l first.files.setups now) new after) same.limits
    (subst (λ (ss : List TrackSetup). Stands begun (write series.files.limits ss now) new after) same.setups (next begun now s)))

-- all that waited is written
pub done_written : {begun before after : ShelfView} {series new : OpenSeries} (state : State) (first : OpenSeries) (count : ℕ) → Stands begun (written count first.files.limits first.files.setups state) series before
    → count ≡ how_many state.pending → new ≡ series → after ≡ before → Stands begun (written_out first.files.limits first.files.setups state) new after
done_written {begun} {before} {after} {series} {new} state first count s all same on =
    subst (λ (n : ℕ). Stands begun (written n first.files.limits first.files.setups state) new after) all
    (subst (λ (v : OpenSeries). Stands begun (written count first.files.limits first.files.setups state) v after) (sym same)
    (subst (λ (x : ShelfView). Stands begun (written count first.files.limits first.files.setups state) series x) (sym on) s))

pub idle_none : (o : Option Chunk) → wrote_as o ≡ Idle → o ≡ None
idle_none None e = refl
idle_none (Some c) e = cc

pub some_waits : (lists : List (List Chunk)) (c : Chunk) → earliest_front lists ≡ Some c → 1 ≤ how_many lists
some_waits [] c e = cc
some_waits ([] ∷ lists) c e = let more = some_waits lists c e in omega (arith, more)
some_waits ((x ∷ xs) ∷ lists) c e = omega arith

-- a limit ends all writes
pub limit_written : {begun after : ShelfView} {new : OpenSeries} (state : State) (first : OpenSeries) (count : ℕ) (shown : LimitShown) → Stands begun (written (suc count) first.files.limits first.files.setups state) new after
    → new.fault ≡ Some (LimitMet shown) → SameSetups first.files new.files → suc count ≤ how_many state.pending
    → MeetsLimit first.files.limits first.files.setups (written_out first.files.limits first.files.setups state) shown × Stands begun (written_out first.files.limits first.files.setups state) new after
limit_written {begun} {after} {new} state first count shown s fault same less =
    let limits = first.files.limits in
    let setups = first.files.setups in
    let m : ℕ = how_many state.pending - suc count in
    let ended : (written (suc count) limits setups state).ended ≡ true = sym s.ended ∙ ap (λ (o : Option SeriesFault). is_some o) fault in
    let all : suc count + m ≡ how_many state.pending = omega (arith, less) in
    let out : written_out limits setups state ≡ written (suc count) limits setups state = ap (λ (n : ℕ). written n limits setups state) (sym all) ∙ written_stays (suc count) m limits setups state ended in (
      subst (λ (st : State). MeetsLimit limits setups st shown) (sym out)
          (subst (λ (l : Limits). MeetsLimit l setups (written (suc count) limits setups state) shown) same.limits
          (subst (λ (ss : List TrackSetup). MeetsLimit new.files.limits ss (written (suc count) limits setups state) shown) same.setups (s.limit shown fault))),
      subst (λ (st : State). Stands begun st new after) (sym out) s,
    )
