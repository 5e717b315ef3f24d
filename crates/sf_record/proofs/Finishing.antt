-- How a series is finished into which the chunks of pumps were dealt, and the files that it made.
use Rattle.std.proofs.Common.{◌≡◌, ℕ, zero, suc, ◌+◌, ◌≤◌, ◌⊎◌, Bool, true, false, cond, is_some, List, [], ◌∷◌, ◌++◌, length, map, Option, Some, None, Result, Ok, Err, refl, sym, ap, subst, ◌∙◌, inl, inr, arith, append-nil, append_assoc, length-append}
use Rattle.std.specs.Prelude.{IfErr, OnOk}
use Rattle.std.proofs.lemmas.List.{length-map}
use Rattle.sf_coded.specs.declared.types.CodedFault.TheVariants.{Magic, Version, KindCode, ConfigTooLong, Truncated, Tag, Empty, TooLong, Trailing, ReadFault as CodedReadFault, NoMemory as CodedNoMemory}
use Rattle.sf_entry.specs.declared.track_setup.TrackSetup.{TrackSetup}
use Rattle.sf_layout.specs.Layout.{layout}
use Rattle.sf_world.specs.Contents.{shelved}
use Rattle.sf_world.specs.Counts.{Rose}
use Rattle.sf_world.specs.Views.{KeptAtMost, ShelfView}
use Rattle.sf_series.specs.declared.faults.SeriesFault.{SeriesFault}
use Rattle.sf_series.specs.declared.faults.SeriesFault.TheVariants as causes
use Rattle.sf_series.specs.declared.limits.Limits.{Limits}
use Rattle.sf_series.specs.declared.limits.LimitShown.{LimitShown}
use Rattle.sf_series.specs.declared.report.Report.{Report}
use Rattle.sf_interleave.specs.Waiting.{earliest_front}
use Rattle.sf_interleave.proofs.WaitingLaws.{none_waits}
use Rattle.sf_series.specs.Core.{State, failed, put_in, write, write_picked}
use Rattle.sf_series.specs.Ending.{Broken, Finished, IsLeft, Reports, Stopped, written, written_out}
use Rattle.sf_series.specs.Switching.{Put, Into, Next, Limit as PastLimit, files_after, put}
use Rattle.sf_series.specs.Names.{file_name, names_to}
use Rattle.sf_series.specs.Series.{Breaks, MeetsLimit, OpenSeries, Stands as SeriesStands}
use Rattle.sf_series.specs.Shelved.{AllKept, BrokenOn, closed_in, with_files}
use Rattle.sf_series.proofs.SeriesLaws.{closed_long, long_into}
use Rattle.sf_tick.specs.declared.types.Chunk.{Chunk}
use Rattle.sf_record.specs.declared.faults.InputFault.{InputFault}
use Rattle.sf_record.specs.declared.faults.InputFault.TheVariants.{Coded, Setup as SetupRefused, Sample as SampleRefused}
use Rattle.sf_record.specs.declared.faults.TrackFault.{TrackFault}
use Rattle.sf_record.specs.declared.serial_end.SerialOutcome.{SerialOutcome}
use Rattle.sf_record.specs.declared.serial_end.SerialOutcome.TheVariants.{Done, WriteFault, Limit, Refused, ReadFault, NoMemory}
use Rattle.sf_record.specs.Pump.{Pumping}
use Rattle.sf_record.specs.Serial.{KeepsMade, answer_by, lowest_fault}
use Rattle.sf_record.specs.inner.Deal.{AllOver, Deals, DealtTo, LeftBy}
use Rattle.sf_record.specs.inner.Finishing.{AsPumps, EndsEarly, FinishedAtFault, FinishedAtLimit, WriteEnds, outcome_by}
use Rattle.sf_record.specs.inner.InTurn.{AllReady, InTurn}
use Rattle.sf_record.proofs.Counted.{rose_behind, rose_later}

-- an answer for a fault of an input, or for none
abbrev pub FromInputs : SerialOutcome → Type 0
FromInputs Done = Unit {0}
FromInputs WriteFault = ⊥
FromInputs (Limit shown) = ⊥
FromInputs (Refused track fault) = Unit {0}
FromInputs (ReadFault input) = Unit {0}
FromInputs NoMemory = ⊥

answer_from : (why : InputFault) (number : ℕ) (fault : TrackFault) → FromInputs (answer_by why number fault)
answer_from (Coded Magic) number fault = tt
answer_from (Coded (Version v)) number fault = tt
answer_from (Coded (KindCode k)) number fault = tt
answer_from (Coded (ConfigTooLong len)) number fault = tt
answer_from (Coded (Truncated at)) number fault = tt
answer_from (Coded (Tag at tag)) number fault = tt
answer_from (Coded (Empty at)) number fault = tt
answer_from (Coded (TooLong at len)) number fault = tt
answer_from (Coded (Trailing at)) number fault = tt
answer_from (Coded CodedReadFault) number fault = tt
answer_from (Coded CodedNoMemory) number fault = tt
answer_from (SetupRefused other) number fault = tt
answer_from (SampleRefused other) number fault = tt

pub lowest_from : (number : ℕ) (faults : List (Option TrackFault)) → FromInputs (lowest_fault number faults)
lowest_from number [] = tt
lowest_from number (None ∷ faults) = lowest_from (number + 1) faults
lowest_from number (Some fault ∷ faults) = answer_from fault.why number fault

ends_as : {begun after : ShelfView} {limits : Limits} {setups : List TrackSetup} {pumps : List Pumping} {report : Report} (old : ShelfView) (outcome : SerialOutcome) → FromInputs outcome
    → AsPumps begun limits setups pumps report after outcome → WriteEnds begun old limits setups pumps report after outcome
ends_as old Done from so = so
ends_as old WriteFault from so = absurd from
ends_as old (Limit shown) from so = absurd from
ends_as old (Refused track fault) from so = so
ends_as old (ReadFault input) from so = so
ends_as old NoMemory from so = absurd from

-- What the calls below say that deal the chunks and finish the series.
pub record Wrote (begun old mid after : ShelfView) (limits : Limits) (setups : List TrackSetup) (pumps : List Pumping) (new : OpenSeries) (dealt finished : Result (Unit {0}) SeriesFault) (report : Report) : Type 0 where
  pub own : (new.files.setups ≡ setups) × (new.files.limits ≡ limits)
  pub done : OnOk dealt ((state : State) × Deals begun state pumps new mid × AllOver pumps × (earliest_front state.pending ≡ None) × InTurn state)
  pub limit : (shown : LimitShown) → dealt ≡ Err (causes.Limit shown) → (state : State) × Deals begun state pumps new mid × AllReady state × InTurn state
  pub stands : (state : State) × SeriesStands begun state new mid
  pub goes : OnOk dealt (new.fault ≡ None)
  pub ended : IfErr dealt (λ fault. (new.fault ≡ Some fault) ⊎ ((new.fault ≡ None) × (fault ≡ causes.NoMemory)))
  pub write : dealt ≡ Err causes.WriteFault → Rose old.faults mid.faults
  pub later : old.faults ≤ mid.faults
  pub all : OnOk finished ((state : State) → SeriesStands begun state new mid → Finished begun new state report after)
  pub stopped : (shown : LimitShown) → finished ≡ Err (causes.Limit shown) → (state : State) → SeriesStands begun state new mid → Stopped begun new state shown report after
  pub broken : IfErr finished (λ fault. Breaks fault → (state : State) → SeriesStands begun state new mid → Broken begun new state report after)
  pub dealt_to : DealtTo begun (Unit {0}) pumps new mid
  pub again : (fault : SeriesFault) → new.fault ≡ Some fault → Breaks fault → finished ≡ Err fault
  pub stays : (fault : SeriesFault) → new.fault ≡ Some fault → Breaks fault → (state : State) → SeriesStands begun state new mid
      → BrokenOn begun new.files.limits.stem new.files.setups state.files after × Reports new.files.setups state.files (closed_in state.files) report
  pub none : OnOk finished (new.fault ≡ None)
  pub failed : finished ≡ Err causes.WriteFault → (new.fault ≡ Some causes.WriteFault) ⊎ Rose mid.faults after.faults
  pub at_end : mid.faults ≤ after.faults

-- nothing is written where nothing waits
pub out_none : (limits : Limits) (setups : List TrackSetup) (state : State) → earliest_front state.pending ≡ None → written_out limits setups state ≡ state
out_none limits setups state none = ap (λ (n : ℕ). written n limits setups state) (none_waits state.pending none)

-- where nothing waits no limit is met
no_limit : {P : Type 0} (limits : Limits) (setups : List TrackSetup) (state : State) (shown : LimitShown) → earliest_front state.pending ≡ None → MeetsLimit limits setups (written_out limits setups state) shown → P
no_limit {P} limits setups state shown none met =
    let same : earliest_front (written_out limits setups state).pending ≡ None = ap (λ (s : State). earliest_front s.pending) (out_none limits setups state none) ∙ none in
    let wrong : Some met.chunk ≡ None = sym met.next ∙ same in
    cc

-- a series that met a limit has ended
met_ended : {begun shelf : ShelfView} {state : State} {new : OpenSeries} (met : LimitShown) → SeriesStands begun state new shelf → (new.fault ≡ Some (causes.Limit met)) ⊎ ((new.fault ≡ None) × (causes.Limit met ≡ causes.NoMemory)) → state.ended ≡ true
met_ended {begun} {shelf} {state} {new} met stands either =
    elim either [
      | inl kept ↦ sym stands.ended ∙ ap (λ (o : Option SeriesFault). is_some o) kept
      | inr memory ↦ (let wrong = memory.1 in cc)
    ]

some_fault : {P : Type 0} (o : Option SeriesFault) (f g : SeriesFault) → o ≡ Some f → (o ≡ Some g) ⊎ ((o ≡ None) × (g ≡ causes.NoMemory)) → (f ≡ g → P) → P
some_fault {P} o f g is either go =
    elim either [
      | inl same ↦ go (let both : Some f ≡ Some g = sym is ∙ same in cc)
      | inr none ↦ (let wrong : Some f ≡ None = sym is ∙ none.0 in cc)
    ]

-- the fault that a series keeps after the chunks were dealt, and the answer of that
kept_fault : (dealt : Result (Unit {0}) SeriesFault) (o : Option SeriesFault) (f : SeriesFault) → OnOk dealt (o ≡ None)
    → IfErr dealt (λ fault. (o ≡ Some fault) ⊎ ((o ≡ None) × (fault ≡ causes.NoMemory))) → o ≡ Some f → dealt ≡ Err f
kept_fault (Ok done) o f goes ended is = let wrong : Some f ≡ None = sym is ∙ goes in cc
kept_fault (Err g) o f goes ended is = some_fault o f g is ended (λ same. ap (λ (x : SeriesFault). Err x) (sym same))

-- where a series keeps a fault it isn't finished whole
not_whole : {P : Type 0} (o : Option SeriesFault) (f : SeriesFault) → o ≡ None → (o ≡ Some f) ⊎ ((o ≡ None) × (f ≡ causes.NoMemory)) → (f ≡ causes.NoMemory → ⊥) → P
not_whole {P} o f none either not =
    elim either [
      | inl some ↦ (let wrong : Some f ≡ None = sym some ∙ none in cc)
      | inr memory ↦ absurd (not memory.1)
    ]

-- all chunks were dealt, and the series was finished
as_pumps : {begun mid after : ShelfView} {limits : Limits} {setups : List TrackSetup} {pumps : List Pumping} {new : OpenSeries} {report : Report} (inputs : SerialOutcome) (state : State) → (new.files.setups ≡ setups) × (new.files.limits ≡ limits) → Deals begun state pumps new mid → AllOver pumps
    → earliest_front state.pending ≡ None → InTurn state → Finished begun new state report after → inputs ≡ lowest_fault 0 (map (λ p. p.fault) pumps) → AsPumps begun limits setups pumps report after inputs
as_pumps {begun} {mid} {after} {limits} {setups} {pumps} {new} {report} inputs state own deals over none turn finished is =
    (record { dealt = record { series = new; state = state; shelf = mid; own = own; deals = deals; turn = turn }; over = over; none = none; finished = finished }, is)

-- a limit was met, and the series was finished
at_limit : {begun mid after : ShelfView} {limits : Limits} {setups : List TrackSetup} {pumps : List Pumping} {new : OpenSeries} {report : Report} (shown : LimitShown) (state : State) → (new.files.setups ≡ setups) × (new.files.limits ≡ limits) → Deals begun state pumps new mid
    → AllReady state → InTurn state → state.ended ≡ true → Stopped begun new state shown report after → FinishedAtLimit begun limits setups pumps shown report after
at_limit {begun} {mid} {after} {limits} {setups} {pumps} {new} {report} shown state own deals ready turn ended stopped =
    record { dealt = record { series = new; state = state; shelf = mid; own = own; deals = deals; turn = turn }; ready = ready; ended = ended; stopped = stopped }

-- how a series ends that stands for this state, by how it was finished
ends_early : {begun old mid after : ShelfView} {limits : Limits} {setups : List TrackSetup} {pumps : List Pumping} {new : OpenSeries} {report : Report} (dealt finished : Result (Unit {0}) SeriesFault) (state : State) → Wrote begun old mid after limits setups pumps new dealt finished report
    → SeriesStands begun state new mid → EndsEarly begun new state report after
ends_early {begun} {old} {mid} {after} {limits} {setups} {pumps} {new} {report} dealt (Ok done) state w stands = inl (w.all state stands)
ends_early {begun} {old} {mid} {after} {limits} {setups} {pumps} {new} {report} dealt (Err (causes.Limit shown)) state w stands = inr (inl (shown, w.stopped shown refl state stands))
ends_early {begun} {old} {mid} {after} {limits} {setups} {pumps} {new} {report} dealt (Err causes.WriteFault) state w stands = inr (inr (w.broken tt state stands))
ends_early {begun} {old} {mid} {after} {limits} {setups} {pumps} {new} {report} dealt (Err causes.NoMemory) state w stands = inr (inr (w.broken tt state stands))

-- where a write failed before, the files of that moment stand
ends_left : {begun old mid after : ShelfView} {limits : Limits} {setups : List TrackSetup} {pumps : List Pumping} {new : OpenSeries} {report : Report} (dealt finished : Result (Unit {0}) SeriesFault) (state left : State) → Wrote begun old mid after limits setups pumps new dealt finished report
    → LeftBy new state left → SeriesStands begun left new mid → EndsEarly begun new state report after
ends_left {begun} {old} {mid} {after} {limits} {setups} {pumps} {new} {report} dealt finished state left w by stands =
    elim by [
      | inl same ↦ ends_early dealt finished state w (subst (λ (s : State). SeriesStands begun s new mid) same stands)
      | inr failed_so ↦ (let on = w.stays failed_so.0 failed_so.1 failed_so.2 left stands in
          let zero_writes : IsLeft new state left = (0, inr failed_so.3) in
          inr (inr (record { left = left; is_left = zero_writes; kept = on.0; reports = on.1 })))
    ]

-- what stands where not all chunks were dealt
at_fault : {begun old mid after : ShelfView} {limits : Limits} {setups : List TrackSetup} {pumps : List Pumping} {new : OpenSeries} {report : Report} (dealt finished : Result (Unit {0}) SeriesFault) → Wrote begun old mid after limits setups pumps new dealt finished report
    → FinishedAtFault begun limits setups pumps report after
at_fault {begun} {old} {mid} {after} {limits} {setups} {pumps} {new} {report} dealt finished w =
    let d : DealtTo begun (Unit {0}) pumps new mid = w.dealt_to in
    record { series = new; state = d.state; own = w.own; some = d.some; turn = d.turn tt; kept = d.kept; proper = d.proper; tracks = d.tracks; ends = ends_left dealt finished d.state d.after w d.left d.stands }

-- how it ends where writing failed
failed_ends : {begun old mid after : ShelfView} {limits : Limits} {setups : List TrackSetup} {pumps : List Pumping} {new : OpenSeries} {report : Report} (dealt : Result (Unit {0}) SeriesFault) → Wrote begun old mid after limits setups pumps new dealt (Err causes.WriteFault) report → Rose old.faults after.faults
failed_ends {begun} {old} {mid} {after} {limits} {setups} {pumps} {new} {report} dealt w =
    elim (w.failed refl) [
      | inl kept ↦ rose_later _ _ _ (w.write (kept_fault dealt new.fault causes.WriteFault w.goes w.ended kept)) w.at_end
      | inr rose ↦ rose_behind _ _ _ w.later rose
    ]

limit_not_write : (shown : LimitShown) → ◌≡◌ {A = Result (Unit {0}) SeriesFault} (Err (causes.Limit shown)) (Err causes.WriteFault) → ⊥
limit_not_write shown e = cc

write_not_memory : causes.WriteFault ≡ causes.NoMemory → ⊥
write_not_memory e = cc

-- no limit is told after writing failed
no_write : (shown : LimitShown) (o : Option SeriesFault) → (o ≡ Some causes.WriteFault) ⊎ ((o ≡ None) × (causes.WriteFault ≡ causes.NoMemory))
    → ((fault : SeriesFault) → o ≡ Some fault → Breaks fault → ◌≡◌ {A = Result (Unit {0}) SeriesFault} (Err (causes.Limit shown)) (Err fault)) → ⊥
no_write shown o either again =
    elim either [
      | inl kept ↦ limit_not_write shown (again causes.WriteFault kept tt)
      | inr memory ↦ write_not_memory memory.1
    ]

-- how it ends at a limit
limit_ends : {begun old mid after : ShelfView} {limits : Limits} {setups : List TrackSetup} {pumps : List Pumping} {new : OpenSeries} {report : Report} (dealt : Result (Unit {0}) SeriesFault) (shown : LimitShown) (inputs : SerialOutcome) → Wrote begun old mid after limits setups pumps new dealt (Err (causes.Limit shown)) report
    → WriteEnds begun old limits setups pumps report after (outcome_by (Err (causes.Limit shown)) dealt inputs)
limit_ends {begun} {old} {mid} {after} {limits} {setups} {pumps} {new} {report} (Err causes.NoMemory) shown inputs w = at_fault (Err causes.NoMemory) (Err (causes.Limit shown)) w
limit_ends {begun} {old} {mid} {after} {limits} {setups} {pumps} {new} {report} (Ok done) shown inputs w =
    let d = w.done in no_limit new.files.limits new.files.setups d.0 shown d.3 (w.stopped shown refl d.0 d.1.stands).met
limit_ends {begun} {old} {mid} {after} {limits} {setups} {pumps} {new} {report} (Err (causes.Limit met)) shown inputs w =
    let d = w.limit met refl in at_limit shown d.0 w.own d.1 d.2 d.3 (met_ended met d.1.stands w.ended) (w.stopped shown refl d.0 d.1.stands)
limit_ends {begun} {old} {mid} {after} {limits} {setups} {pumps} {new} {report} (Err causes.WriteFault) shown inputs w = absurd (no_write shown new.fault w.ended w.again)

-- how it ends where the series was finished whole
done_ends : {begun old mid after : ShelfView} {limits : Limits} {setups : List TrackSetup} {pumps : List Pumping} {new : OpenSeries} {report : Report} (dealt : Result (Unit {0}) SeriesFault) (finished : Unit {0}) (inputs : SerialOutcome) → inputs ≡ lowest_fault 0 (map (λ p. p.fault) pumps) → Wrote begun old mid after limits setups pumps new dealt (Ok finished) report
    → WriteEnds begun old limits setups pumps report after (outcome_by (Ok finished) dealt inputs)
done_ends {begun} {old} {mid} {after} {limits} {setups} {pumps} {new} {report} (Err causes.NoMemory) finished inputs is w = at_fault (Err causes.NoMemory) (Ok finished) w
done_ends {begun} {old} {mid} {after} {limits} {setups} {pumps} {new} {report} (Err causes.WriteFault) finished inputs is w = not_whole new.fault causes.WriteFault w.none w.ended (λ e. cc)
done_ends {begun} {old} {mid} {after} {limits} {setups} {pumps} {new} {report} (Err (causes.Limit met)) finished inputs is w = not_whole new.fault (causes.Limit met) w.none w.ended (λ e. cc)
done_ends {begun} {old} {mid} {after} {limits} {setups} {pumps} {new} {report} (Ok done) finished inputs is w =
    let d = w.done in
    ends_as old inputs (subst (λ (o : SerialOutcome). FromInputs o) (sym is) (lowest_from 0 (map (λ p. p.fault) pumps)))
    (as_pumps inputs d.0 w.own d.1 d.2 d.3 d.4 (w.all d.0 d.1.stands) is)

-- how it ends, by both answers
pub write_ends : {begun old mid after : ShelfView} {limits : Limits} {setups : List TrackSetup} {pumps : List Pumping} {new : OpenSeries} {report : Report} (dealt finished : Result (Unit {0}) SeriesFault) (inputs : SerialOutcome)
    → inputs ≡ lowest_fault 0 (map (λ p. p.fault) pumps) → Wrote begun old mid after limits setups pumps new dealt finished report
    → WriteEnds begun old limits setups pumps report after (outcome_by finished dealt inputs)
write_ends {begun} {old} {mid} {after} {limits} {setups} {pumps} {new} {report} dealt (Err causes.WriteFault) inputs is w = (failed_ends dealt w, at_fault dealt (Err causes.WriteFault) w)
write_ends {begun} {old} {mid} {after} {limits} {setups} {pumps} {new} {report} dealt (Err causes.NoMemory) inputs is w = at_fault dealt (Err causes.NoMemory) w
write_ends {begun} {old} {mid} {after} {limits} {setups} {pumps} {new} {report} dealt (Err (causes.Limit shown)) inputs is w = limit_ends dealt shown inputs w
write_ends {begun} {old} {mid} {after} {limits} {setups} {pumps} {new} {report} dealt (Ok finished) inputs is w = done_ends dealt finished inputs is w

-- ---- the files that were made

pub all_kept : {begun after : ShelfView} {stem : List ℕ} {setups : List TrackSetup} {files : List (List Chunk)} → AllKept begun stem setups files after → KeepsMade stem begun after
all_kept {begun} {after} {stem} {setups} {files} k =
    record {
      files = map (layout setups) files;
      named = k.named ∙ ap (λ (n : ℕ). begun.names ++ names_to stem n) (sym (length-map files (layout setups)));
      kept = k.kept;
    }

shelved_more : (files : Option (List (List ℕ))) (more : List (List ℕ)) (file : List ℕ) → shelved (with_files files more) (Some file) ≡ with_files files (more ++ file ∷ [])
shelved_more None more file = refl
shelved_more (Some files) more file = ap (λ (fs : List (List ℕ)). Some fs) (append_assoc files more (file ∷ []))

pub kept_more : {begun middle after : ShelfView} {stem : List ℕ} (k : KeepsMade stem begun middle) → KeptAtMost (file_name stem (suc (length k.files))) middle after → KeepsMade stem begun after
kept_more {begun} {middle} {after} {stem} k last =
    elim last [
      | inl none ↦ record { files = k.files; named = none.named ∙ k.named; kept = none.kept ∙ k.kept }
      | inr some ↦ (let long : suc (length k.files) ≡ length (k.files ++ some.file ∷ []) = omega (arith, length-append k.files (some.file ∷ [])) in
          record {
            files = k.files ++ some.file ∷ [];
            named =
                some.kept.named ∙ ap (λ (ns : List (List ℕ)). ns ++ file_name stem (suc (length k.files)) ∷ []) k.named
                ∙ append_assoc begun.names (names_to stem (length k.files)) (file_name stem (suc (length k.files)) ∷ [])
                ∙ ap (λ (n : ℕ). begun.names ++ names_to stem n) long;
            kept = some.kept.kept ∙ ap (λ (fs : Option (List (List ℕ))). shelved fs (Some some.file)) k.kept ∙ shelved_more begun.files k.files some.file;
          })
    ]

files_none : (files : Option (List (List ℕ))) → files ≡ with_files files []
files_none None = refl
files_none (Some files) = ap (λ (fs : List (List ℕ)). Some fs) (sym (append-nil files))

-- no file was made yet
pub none_made : (stem : List ℕ) (begun : ShelfView) → KeepsMade stem begun begun
none_made stem begun = record { files = []; named = sym (append-nil begun.names); kept = files_none begun.files }

-- at most one file was made
pub one_made : (stem : List ℕ) (begun after : ShelfView) → KeptAtMost (file_name stem 1) begun after → KeepsMade stem begun after
unfolding none_made
one_made stem begun after last = kept_more (none_made stem begun) last

broken_kept : {begun after : ShelfView} {stem : List ℕ} {setups : List TrackSetup} {files : List (List Chunk)} → BrokenOn begun stem setups files after → 1 ≤ length files → KeepsMade stem begun after
unfolding all_kept
broken_kept {begun} {after} {stem} {setups} {files} b some =
    let k : KeepsMade stem begun b.before = all_kept b.closed in
    let long : length files ≡ suc (length k.files) = omega (arith, closed_long files some, length-map (closed_in files) (layout setups)) in
    kept_more k (subst (λ (n : ℕ). KeptAtMost (file_name stem n) b.before after) long b.last)

-- ---- there is a file in each state

some_put : (p : Put) (files : List (List Chunk)) (c : Chunk) → 1 ≤ length files → 1 ≤ length (files_after files c p)
some_put Into files c some = omega (arith, long_into files c some)
some_put Next files c some = omega (arith, length-append files ((c ∷ []) ∷ []))
some_put (PastLimit shown) files c some = some

some_in : (p : Put) (state : State) (c : Chunk) → 1 ≤ length state.files → 1 ≤ length (put_in state c p).files
some_in Into state c some = some_put Into state.files c some
some_in Next state c some = some_put Next state.files c some
some_in (PastLimit shown) state c some = some

some_picked : (limits : Limits) (setups : List TrackSetup) (state : State) (o : Option Chunk) → 1 ≤ length state.files → 1 ≤ length (write_picked limits setups state o).files
some_picked limits setups state None some = some
some_picked limits setups state (Some c) some = some_in (put limits setups state.files c) state c some

some_if : (b : Bool) (x y : State) → 1 ≤ length x.files → 1 ≤ length y.files → 1 ≤ length (cond b x y).files
some_if true x y of_x of_y = of_x
some_if false x y of_x of_y = of_y

pub some_written : (n : ℕ) (limits : Limits) (setups : List TrackSetup) (state : State) → 1 ≤ length state.files → 1 ≤ length (written n limits setups state).files
some_written zero limits setups state some = some
some_written (suc n) limits setups state some =
    some_if state.ended state (written n limits setups (write limits setups state)) some
    (some_written n limits setups (write limits setups state) (some_picked limits setups state (earliest_front state.pending) some))

some_failed : (closed : Bool) (state : State) → 1 ≤ length state.files → 1 ≤ length (failed closed state).files
some_failed true state some = omega (arith, length-append state.files ([] ∷ []))
some_failed false state some = some

some_left : (new : OpenSeries) (state left : State) → IsLeft new state left → 1 ≤ length state.files → 1 ≤ length left.files
some_left new state left is some =
    let end : State = written is.0 new.files.limits new.files.setups state in
    let more : 1 ≤ length end.files = some_written is.0 new.files.limits new.files.setups state some in
    elim is.1 [
      | inl same ↦ subst (λ (s : State). 1 ≤ length s.files) (sym same) more
      | inr broke ↦ subst (λ (s : State). 1 ≤ length s.files) (sym broke.1) (some_failed broke.0 end more)
    ]

-- each file that a series made is kept, however it ends
pub made_kept : {begun old mid after : ShelfView} {limits : Limits} {setups : List TrackSetup} {pumps : List Pumping} {new : OpenSeries} {report : Report} (dealt finished : Result (Unit {0}) SeriesFault)
    → Wrote begun old mid after limits setups pumps new dealt finished report → KeepsMade limits.stem begun after
made_kept {begun} {old} {mid} {after} {limits} {setups} {pumps} {new} {report} dealt (Ok done) w =
    subst (λ (l : Limits). KeepsMade l.stem begun after) w.own.1 (all_kept (w.all w.stands.0 w.stands.1).kept.kept)
made_kept {begun} {old} {mid} {after} {limits} {setups} {pumps} {new} {report} dealt (Err (causes.Limit shown)) w =
    subst (λ (l : Limits). KeepsMade l.stem begun after) w.own.1 (all_kept (w.stopped shown refl w.stands.0 w.stands.1).kept.kept)
made_kept {begun} {old} {mid} {after} {limits} {setups} {pumps} {new} {report} dealt (Err causes.WriteFault) w =
    let b = w.broken tt w.stands.0 w.stands.1 in subst (λ (l : Limits). KeepsMade l.stem begun after) w.own.1 (broken_kept b.kept (some_left new w.stands.0 b.left b.is_left w.stands.1.files.some))
made_kept {begun} {old} {mid} {after} {limits} {setups} {pumps} {new} {report} dealt (Err causes.NoMemory) w =
    let b = w.broken tt w.stands.0 w.stands.1 in subst (λ (l : Limits). KeepsMade l.stem begun after) w.own.1 (broken_kept b.kept (some_left new w.stands.0 b.left b.is_left w.stands.1.files.some))
