-- How a series ends after a limit.
use Rattle.std.proofs.Common.{inl, OnOk, Ok, ◌≡◌, List, Option, Some, Result, Err, IfErr, is_some, refl, sym, subst, ap, ◌∙◌}
use Rattle.sf_tick.specs.declared.types.Chunk.{Chunk}
use Rattle.sf_entry.specs.declared.track_setup.TrackSetup.{TrackSetup}
use Rattle.sf_world.specs.Views.{ShelfView}
use Rattle.sf_interleave.specs.Waiting.{how_many}
use Rattle.sf_series.specs.declared.faults.SeriesFault.{SeriesFault}
use Rattle.sf_series.specs.declared.faults.SeriesFault.TheVariants.{Limit as LimitMet, NoMemory, WriteFault}
use Rattle.sf_series.specs.declared.limits.Limits.{Limits}
use Rattle.sf_series.specs.declared.limits.LimitShown.{LimitShown}
use Rattle.sf_series.specs.declared.report.Report.{Report}
use Rattle.sf_series.specs.Core.{State}
use Rattle.sf_series.specs.Ending.{Broken, IsLeft, Reports, Stopped, written_out}
use Rattle.sf_series.specs.Series.{Breaks, FilesStand, MeetsLimit, OpenFiles, OpenSeries, Stands}
use Rattle.sf_series.specs.Shelved.{AllKept, BrokenOn, closed_in}
use Rattle.sf_series.specs.inner.Writing.{SameSetups}

pub of_err : {A E : Type 0} (r : Result A E) (x : E) (P : E → Type 0) → r ≡ Err x → IfErr r P → P x
of_err {A} {E} r x P e p = let Q : Result A E → Type 0 = λ q. IfErr q P in subst Q e p

pub stopped_of : {begun shelf after : ShelfView} {new : OpenSeries} (state : State) (first : OpenSeries) (inside : OpenFiles) (shown : LimitShown) (report : Report)
    → MeetsLimit first.files.limits first.files.setups (written_out first.files.limits first.files.setups state) shown × Stands begun (written_out first.files.limits first.files.setups state) new shelf
    → new.fault ≡ Some (LimitMet shown) → inside ≡ new.files → SameSetups first.files new.files
    → ((begun : ShelfView) (files : List (List Chunk)) → FilesStand begun files inside shelf → AllKept begun inside.limits.stem inside.setups files after × Reports inside.setups files files report)
    → Stopped begun first state shown report after
stopped_of {begun} {shelf} {after} {new} state first inside shown report met fault is same ends =
    let out : State = written_out first.files.limits first.files.setups state in
    let kept = ends begun out.files (subst (λ (f : OpenFiles). FilesStand begun out.files f shelf) (sym is) met.1.files) in
    let setups : inside.setups ≡ first.files.setups = ap (λ (f : OpenFiles). f.setups) is ∙ same.setups in
    let limits : inside.limits ≡ first.files.limits = ap (λ (f : OpenFiles). f.limits) is ∙ same.limits in
    record {
      ended = sym met.1.ended ∙ ap (λ (o : Option SeriesFault). is_some o) fault;
      met = met.0;
      kept = record {
        kept = subst (λ (l : Limits). AllKept begun l.stem first.files.setups out.files after) limits (subst (λ (ss : List TrackSetup). AllKept begun inside.limits.stem ss out.files after) setups kept.0);
        reports = subst (λ (ss : List TrackSetup). Reports ss out.files out.files report) setups kept.1;
      };
    }

pub left_of : {begun before shelf : ShelfView} {new : OpenSeries} (state : State) (first : OpenSeries) (r : Result (Unit {0}) SeriesFault) → Stands begun state first before
    → OnOk r ((begun : ShelfView) (state : State) → Stands begun state first before → Stands begun (written_out first.files.limits first.files.setups state) new shelf)
    → ((shown : LimitShown) → r ≡ Err (LimitMet shown) → (begun : ShelfView) (state : State) → Stands begun state first before
    → MeetsLimit first.files.limits first.files.setups (written_out first.files.limits first.files.setups state) shown × Stands begun (written_out first.files.limits first.files.setups state) new shelf)
    → IfErr r (λ fault. Breaks fault → (begun : ShelfView) (state : State) → Stands begun state first before → (left : State) × IsLeft first state left × Stands begun left new shelf)
    → (left : State) × IsLeft first state left × Stands begun left new shelf
left_of {begun} {before} {shelf} {new} state first (Ok x) s done limit broken = (_, (how_many state.pending, inl refl), done begun state s)
left_of {begun} {before} {shelf} {new} state first (Err (LimitMet shown)) s done limit broken = (_, (how_many state.pending, inl refl), (limit shown refl begun state s).1)
left_of {begun} {before} {shelf} {new} state first (Err WriteFault) s done limit broken = broken tt begun state s
left_of {begun} {before} {shelf} {new} state first (Err NoMemory) s done limit broken = broken tt begun state s

pub if_err_then : {A E : Type 0} (r : Result A E) {P Q : E → Type 0} → ((x : E) → P x → Q x) → IfErr r P → IfErr r Q
if_err_then {A} {E} (Ok x) {P} {Q} f p = tt
if_err_then {A} {E} (Err e) {P} {Q} f p = f e p

pub broken_of : {begun shelf after : ShelfView} {new : OpenSeries} (state : State) (first : OpenSeries) (inside : OpenFiles) (report : Report)
    → ((left : State) × IsLeft first state left × Stands begun left new shelf) → inside ≡ new.files → SameSetups first.files new.files
    → ((begun : ShelfView) (files : List (List Chunk)) → FilesStand begun files inside shelf → BrokenOn begun inside.limits.stem inside.setups files after × Reports inside.setups files (closed_in files) report)
    → Broken begun first state report after
broken_of {begun} {shelf} {after} {new} state first inside report found is same ends =
    let left : State = found.0 in
    let kept = ends begun left.files (subst (λ (f : OpenFiles). FilesStand begun left.files f shelf) (sym is) found.2.files) in
    let setups : inside.setups ≡ first.files.setups = ap (λ (f : OpenFiles). f.setups) is ∙ same.setups in
    let limits : inside.limits ≡ first.files.limits = ap (λ (f : OpenFiles). f.limits) is ∙ same.limits in
    record {
      left = left;
      is_left = found.1;
      kept = subst (λ (l : Limits). BrokenOn begun l.stem first.files.setups left.files after) limits (subst (λ (ss : List TrackSetup). BrokenOn begun inside.limits.stem ss left.files after) setups kept.0);
      reports = subst (λ (ss : List TrackSetup). Reports ss left.files (closed_in left.files) report) setups kept.1;
    }
