-- For which state of the core a series stands after a chunk is handed or written.
use Rattle.std.proofs.Common.{◌≡◌, ℕ, ◌+◌, ◌<◌, Bool, true, false, cond, List, [], ◌∷◌, ◌++◌, length, set, replicate, Option, Some, None, is_some, refl, sym, subst, ap, ◌∙◌, inl, inr, append-nil, length-append, arith, get_or-set_same}
use Rattle.std.specs.Prelude.{get_or, slice_get}
use Rattle.std.proofs.lemmas.Bool.Decides.{eqb_tells, nat_tests}
use Rattle.std.proofs.lemmas.List.{length-replicate, get_or-replicate}
use Rattle.std.proofs.lemmas.List.Concat.{flat_map-append}
use Rattle.std.proofs.lemmas.Option.{slice_get-get_or, slice_get_within}
use Rattle.sf_tick.specs.declared.types.Stored.{Stored}
use Rattle.sf_tick.specs.declared.types.Chunk.{Chunk}
use Rattle.sf_entry.specs.declared.track_setup.TrackSetup.{TrackSetup}
use Rattle.sf_world.specs.Views.{ShelfView}
use Rattle.sf_gather.specs.Accepting.{last_from, last_of}
use Rattle.sf_gather.specs.Proper.{Tail, samples_of}
use Rattle.sf_gather.proofs.GatherLaws.{last_from-append}
use Rattle.sf_interleave.specs.Waiting.{earliest_front, list_of, with_chunk, without_front}
use Rattle.sf_series.specs.declared.faults.SeriesFault.{SeriesFault}
use Rattle.sf_series.specs.declared.faults.SeriesFault.TheVariants.{Limit as LimitMet, NoMemory, WriteFault}
use Rattle.sf_series.specs.declared.limits.LimitShown.{LimitShown}
use Rattle.sf_series.specs.Core.{State, failed, fresh, hand, is_filled, put_in, taken, with_filled, with_mark, write, write_picked}
use Rattle.sf_series.specs.Fitting.{CanHand, tail_in}
use Rattle.sf_series.specs.Series.{Breaks, CanTake, FilesStand, MeetsLimit, OpenFiles, OpenSeries, Stands}
use Rattle.sf_series.specs.Switching.{Put, Into, Next, Limit, files_after, put}
use Rattle.sf_series.specs.inner.Tails.{tail_with}
use Rattle.sf_series.specs.inner.Writing.{SameSetups}
use Rattle.sf_series.proofs.Kept.{read_other, read_set}
use Rattle.sf_series.proofs.Proper.{list_long, list_other, mark_long, mark_other}
use Rattle.sf_series.proofs.Steps.{write_idle, write_limit}

-- what can be handed by the core can be handed to the series
pub takes : {begun shelf : ShelfView} {state : State} {series : OpenSeries} (c : Chunk) → Stands begun state series shelf → CanHand series.files.setups state c → CanTake series c
takes {begun} {shelf} {state} {series} c s can =
    record {
      setup = can.setup;
      tail = tail_in state c.track;
      there = can.there;
      handed = s.tails c.track (slice_get_within series.files.setups c.track can.setup can.there);
      goes_on = can.goes_on;
    }

-- a series of which nothing was handed
pub fresh_stands : {begun shelf : ShelfView} {series : OpenSeries} (setups : List TrackSetup) → series.pending ≡ replicate (length setups) [] → series.tails ≡ replicate (length setups) (record { count = 0; ended = false; last = None })
    → series.files.setups ≡ setups → FilesStand begun ([] ∷ []) series.files shelf → series.fault ≡ None → Stands begun (fresh (length setups)) series shelf
fresh_stands {begun} {shelf} {series} setups pending tails same files fault =
    let no_tail : Tail = record { count = 0; ended = false; last = None } in
    record {
      pending = pending;
      tails = λ t less.
          let inside : t < length setups = subst (λ (ss : List TrackSetup). t < length ss) same less in
          let long : t < length (replicate (length setups) no_tail) = omega (arith, inside, length-replicate {A = Tail} (length setups) no_tail) in
          let none : list_of (replicate (length setups) []) t ≡ [] = get_or-replicate (length setups) t [] [] inside in
          let mark : get_or (replicate (length setups) false) t false ≡ false = get_or-replicate (length setups) t false false inside in
          ap (λ (ts : List Tail). slice_get ts t) tails ∙ slice_get-get_or (replicate (length setups) no_tail) t no_tail long
          ∙ ap (λ (x : Tail). Some x) (get_or-replicate (length setups) t no_tail no_tail inside)
          ∙ ap (λ (cs : List Chunk). Some (record { count = length cs; ended = false; last = last_of (samples_of cs) })) (sym none)
          ∙ ap (λ (b : Bool). Some (record { count = length (list_of (replicate (length setups) []) t); ended = b; last = last_of (samples_of (list_of (replicate (length setups) []) t)) })) (sym mark);
      handed = length-replicate {A = List Chunk} (length setups) [] ∙ ap (λ (ss : List TrackSetup). length ss) (sym same);
      marks = length-replicate {A = Bool} (length setups) false ∙ ap (λ (ss : List TrackSetup). length ss) (sym same);
      files = files;
      ended = ap (λ (o : Option SeriesFault). is_some o) fault;
      limit = λ shown e. let wrong : None ≡ Some (LimitMet shown) = sym fault ∙ e in cc;
    }

unended : (b : Bool) (x y : State) → b ≡ false → cond b x y ≡ y
unended true x y e = cc
unended false x y e = refl

pub hand_taken : (state : State) (c : Chunk) → state.ended ≡ false → hand state c ≡ taken state c
hand_taken state c e = unended state.ended state (taken state c) e

-- the tail of the chunk's track
no_samples : (ss : List Stored) → length ss ≡ 0 → ss ≡ []
no_samples [] e = refl
no_samples (s ∷ ss) e = absurd (omega (arith, e))

unfilled : (c : Chunk) → is_filled c ≡ false → length c.samples ≡ 0
unfilled c e = grind (arith, nat_tests)

grown_if : (b : Bool) (lists : List (List Chunk)) (c : Chunk) → c.track < length lists → list_of (cond b (with_chunk lists c) lists) c.track ≡ list_of lists c.track ++ cond b (c ∷ []) []
grown_if true lists c less = get_or-set_same lists c.track _ [] less
grown_if false lists c less = sym (append-nil (list_of lists c.track))

count_if : (b : Bool) (cs : List Chunk) (c : Chunk) → length (cs ++ cond b (c ∷ []) []) ≡ cond b (length cs + 1) (length cs)
count_if true cs c = length-append cs (c ∷ [])
count_if false cs c = ap (λ (ds : List Chunk). length ds) (append-nil cs)

last_if : (b : Bool) (cs : List Chunk) (c : Chunk) → (b ≡ false → c.samples ≡ []) → last_of (samples_of (cs ++ cond b (c ∷ []) [])) ≡ last_from (last_of (samples_of cs)) c.samples
last_if true cs c none =
    ap (λ (ss : List Stored). last_of ss) (flat_map-append (λ (d : Chunk). d.samples) cs (c ∷ []) ∙ ap (λ (ss : List Stored). samples_of cs ++ ss) (append-nil c.samples)) ∙ last_from-append None (samples_of cs) c.samples
last_if false cs c none =
    ap (λ (ds : List Chunk). last_of (samples_of ds)) (append-nil cs) ∙ ap (λ (ss : List Stored). last_from (last_of (samples_of cs)) ss) (sym (none refl))

mark_if : (b : Bool) (marks : List Bool) (t : ℕ) → t < length marks → get_or (cond b (set marks t true) marks) t false ≡ cond b true (get_or marks t false)
mark_if true marks t less = get_or-set_same marks t true false less
mark_if false marks t less = refl

pub tail_same : (state : State) (c : Chunk) → c.track < length state.handed → c.track < length state.marks → tail_in (taken state c) c.track ≡ tail_with (tail_in state c.track) c
tail_same state c less marked =
    let list = grown_if (is_filled c) state.handed c less in
    let last = ap (λ (cs : List Chunk). last_of (samples_of cs)) list ∙ last_if (is_filled c) (list_of state.handed c.track) c (λ e. no_samples c.samples (unfilled c e)) in
    let count = ap (λ (cs : List Chunk). length cs) list ∙ count_if (is_filled c) (list_of state.handed c.track) c in
    let mark = mark_if c.last state.marks c.track marked in
    rw (count, mark, last) refl

pub tail_other : (state : State) (c : Chunk) (t : ℕ) → (c.track ≡ t → ⊥) → tail_in (taken state c) t ≡ tail_in state t
tail_other state c t other =
    let list = list_other (is_filled c) state.handed c t other in
    let mark = mark_other c.last state.marks c.track t other in
    ap (λ (cs : List Chunk). record { count = length cs; ended = get_or (with_mark state.marks c) t false; last = last_of (samples_of cs) }) list
    ∙ ap (λ (b : Bool). record { count = length (list_of state.handed t); ended = b; last = last_of (samples_of (list_of state.handed t)) }) mark

-- a chunk is handed to a series that goes on
pub handed_stands : {begun shelf : ShelfView} {state : State} {series new : OpenSeries} (c : Chunk) (tail : Tail) → Stands begun state series shelf → series.fault ≡ None → c.track < length series.files.setups
    → slice_get series.tails c.track ≡ Some tail → new.pending ≡ with_filled series.pending c → new.tails ≡ set series.tails c.track (tail_with tail c) → new.files ≡ series.files → new.fault ≡ series.fault
    → Stands begun (hand state c) new shelf
handed_stands {begun} {shelf} {state} {series} {new} c tail s goes_on inside at pending tails files fault =
    let ended : state.ended ≡ false = sym s.ended ∙ ap (λ (o : Option SeriesFault). is_some o) goes_on in
    let same_setups = ap (λ (f : OpenFiles). f.setups) files in
    let tail_is : Some tail ≡ Some (tail_in state c.track) = sym at ∙ s.tails c.track inside in
    let own : tail ≡ tail_in state c.track = cc in
    let handed : c.track < length state.handed = omega (arith, inside, s.handed) in
    let marked : c.track < length state.marks = omega (arith, inside, s.marks) in
    subst (λ (st : State). Stands begun st new shelf) (sym (hand_taken state c ended)) (record {
      pending = pending ∙ ap (λ (lists : List (List Chunk)). with_filled lists c) s.pending;
      tails = λ t less.
          let there : t < length series.files.setups = subst (λ (ss : List TrackSetup). t < length ss) same_setups less in
          ap (λ (ts : List Tail). slice_get ts t) tails ∙ elim (eqb_tells c.track t) [
            | inl p ↦ subst (λ (n : ℕ). slice_get (set series.tails c.track (tail_with tail c)) n ≡ Some (tail_in (taken state c) n)) p.1
                (read_set series.tails c.track tail (tail_with tail c) at ∙ ap (λ (x : Tail). Some (tail_with x c)) own ∙ ap (λ (x : Tail). Some x) (sym (tail_same state c handed marked)))
            | inr p ↦ read_other series.tails c.track t _ p.1 ∙ s.tails t there ∙ ap (λ (x : Tail). Some x) (sym (tail_other state c t p.1))
          ];
      handed = list_long (is_filled c) state.handed c ∙ s.handed ∙ ap (λ (ss : List TrackSetup). length ss) (sym same_setups);
      marks = mark_long c.last state.marks c.track ∙ s.marks ∙ ap (λ (ss : List TrackSetup). length ss) (sym same_setups);
      files = subst (λ (f : OpenFiles). FilesStand begun state.files f shelf) (sym files) s.files;
      ended = ap (λ (o : Option SeriesFault). is_some o) fault ∙ s.ended;
      limit = λ shown e. let wrong : None ≡ Some (LimitMet shown) = sym goes_on ∙ sym fault ∙ e in cc;
    })

-- a chunk that is handed after a fault changes nothing
ended_hand : (b : Bool) (x y : State) → b ≡ true → cond b x y ≡ x
ended_hand true x y e = refl
ended_hand false x y e = cc

pub dropped_stands : {begun shelf : ShelfView} {state : State} {series : OpenSeries} (c : Chunk) → Stands begun state series shelf → is_some series.fault ≡ true → Stands begun (hand state c) series shelf
dropped_stands {begun} {shelf} {state} {series} c s is =
    subst (λ (st : State). Stands begun st series shelf) (sym (ended_hand state.ended state (taken state c) (sym s.ended ∙ is))) s

-- a chunk is written
put_goes : (state : State) (c : Chunk) (p : Put) → ((shown : LimitShown) → p ≡ Limit shown → ⊥)
    → put_in state c p ≡ record state { pending = without_front state.pending c.track; files = files_after state.files c p }
put_goes state c Into never = refl
put_goes state c Next never = refl
put_goes state c (Limit shown) never = absurd (never shown refl)

pub written_stands : {begun before after : ShelfView} {state : State} {series new : OpenSeries} (c : Chunk) → Stands begun state series before → series.fault ≡ None → earliest_front series.pending ≡ Some c
    → new.pending ≡ without_front series.pending c.track → new.tails ≡ series.tails → SameSetups series.files new.files → new.fault ≡ series.fault
    → FilesStand begun (files_after state.files c (put series.files.limits series.files.setups state.files c)) new.files after
    → ((shown : LimitShown) → put series.files.limits series.files.setups state.files c ≡ Limit shown → ⊥)
    → Stands begun (write series.files.limits series.files.setups state) new after
written_stands {begun} {before} {after} {state} {series} {new} c s goes_on e pending tails same fault files within =
    let front : earliest_front state.pending ≡ Some c = ap (λ (lists : List (List Chunk)). earliest_front lists) (sym s.pending) ∙ e in
    let is = ap (λ (o : Option Chunk). write_picked series.files.limits series.files.setups state o) front ∙ put_goes state c (put series.files.limits series.files.setups state.files c) within in
    subst (λ (st : State). Stands begun st new after) (sym is) (record {
      pending = pending ∙ ap (λ (lists : List (List Chunk)). without_front lists c.track) s.pending;
      tails = λ t less. ap (λ (ts : List Tail). slice_get ts t) tails ∙ s.tails t (subst (λ (ss : List TrackSetup). t < length ss) same.setups less);
      handed = s.handed ∙ ap (λ (ss : List TrackSetup). length ss) (sym same.setups);
      marks = s.marks ∙ ap (λ (ss : List TrackSetup). length ss) (sym same.setups);
      files = files;
      ended = ap (λ (o : Option SeriesFault). is_some o) fault ∙ s.ended;
      limit = λ shown w. let wrong : None ≡ Some (LimitMet shown) = sym goes_on ∙ sym fault ∙ w in cc;
    })

pub idle_stands : {begun shelf : ShelfView} {state : State} {series : OpenSeries} → Stands begun state series shelf → earliest_front series.pending ≡ None
    → Stands begun (write series.files.limits series.files.setups state) series shelf
idle_stands {begun} {shelf} {state} {series} s e =
    subst (λ (st : State). Stands begun st series shelf) (sym (write_idle series.files.limits series.files.setups state (ap (λ (lists : List (List Chunk)). earliest_front lists) (sym s.pending) ∙ e))) s

-- a limit is met
pub limit_stands : {begun shelf : ShelfView} {state : State} {series new : OpenSeries} (c : Chunk) (shown : LimitShown) → Stands begun state series shelf → earliest_front series.pending ≡ Some c
    → put series.files.limits series.files.setups state.files c ≡ Limit shown → new.pending ≡ series.pending → new.tails ≡ series.tails → new.files ≡ series.files → new.fault ≡ Some (LimitMet shown)
    → MeetsLimit series.files.limits series.files.setups state shown × Stands begun (write series.files.limits series.files.setups state) new shelf
limit_stands {begun} {shelf} {state} {series} {new} c shown s e limit pending tails files fault =
    let front : earliest_front state.pending ≡ Some c = ap (λ (lists : List (List Chunk)). earliest_front lists) (sym s.pending) ∙ e in
    let is = write_limit series.files.limits series.files.setups state c shown front limit in
    let same_setups = ap (λ (f : OpenFiles). f.setups) files in
    let meets : MeetsLimit series.files.limits series.files.setups state shown = record { chunk = c; next = front; limit = limit } in (
      meets,
      subst (λ (st : State). Stands begun st new shelf) (sym is) (record {
        pending = pending ∙ s.pending;
        tails = λ t less. ap (λ (ts : List Tail). slice_get ts t) tails ∙ s.tails t (subst (λ (ss : List TrackSetup). t < length ss) same_setups less);
        handed = s.handed ∙ ap (λ (ss : List TrackSetup). length ss) (sym same_setups);
        marks = s.marks ∙ ap (λ (ss : List TrackSetup). length ss) (sym same_setups);
        files = subst (λ (f : OpenFiles). FilesStand begun state.files f shelf) (sym files) s.files;
        ended = ap (λ (o : Option SeriesFault). is_some o) fault;
        limit = λ other w.
            let same_fault : Some (LimitMet shown) ≡ Some (LimitMet other) = sym fault ∙ w in
            let same : shown ≡ other = cc in
            let met : MeetsLimit series.files.limits series.files.setups (record state { ended = true }) shown = record { chunk = c; next = front; limit = limit } in
            subst (λ (f : OpenFiles). MeetsLimit f.limits f.setups (record state { ended = true }) other) (sym files)
            (subst (λ (x : LimitShown). MeetsLimit series.files.limits series.files.setups (record state { ended = true }) x) same met);
      }),
    )

-- a write fails, or finds no memory
unlimited : (fault : SeriesFault) (shown : LimitShown) → Breaks fault → fault ≡ LimitMet shown → ⊥
unlimited WriteFault shown b e = cc
unlimited NoMemory shown b e = cc
unlimited (LimitMet other) shown b e = b

pub failed_stands : {begun before after : ShelfView} {state : State} {series new : OpenSeries} (closed : Bool) (fault : SeriesFault) → Stands begun state series before → new.pending ≡ series.pending → new.tails ≡ series.tails
    → SameSetups series.files new.files → new.fault ≡ Some fault → Breaks fault → FilesStand begun (cond closed (state.files ++ [] ∷ []) state.files) new.files after
    → Stands begun (failed closed state) new after
failed_stands {begun} {before} {after} {state} {series} {new} closed fault s pending tails same is breaks files =
    record {
      pending = pending ∙ s.pending;
      tails = λ t less. ap (λ (ts : List Tail). slice_get ts t) tails ∙ s.tails t (subst (λ (ss : List TrackSetup). t < length ss) same.setups less);
      handed = s.handed ∙ ap (λ (ss : List TrackSetup). length ss) (sym same.setups);
      marks = s.marks ∙ ap (λ (ss : List TrackSetup). length ss) (sym same.setups);
      files = files;
      ended = ap (λ (o : Option SeriesFault). is_some o) is;
      limit = λ shown w. let wrong : Some fault ≡ Some (LimitMet shown) = sym is ∙ w in let same_fault : fault ≡ LimitMet shown = cc in absurd (unlimited fault shown breaks same_fault);
    }

-- the same, where a series is seen as it is inside
pub written_of : {begun before after : ShelfView} {state : State} {old new : OpenSeries} (inside : OpenSeries) (c : Chunk) → inside ≡ old → Stands begun state old before → inside.fault ≡ None
    → earliest_front inside.pending ≡ Some c → new.pending ≡ without_front inside.pending c.track → new.tails ≡ inside.tails → SameSetups inside.files new.files → new.fault ≡ inside.fault
    → ((begun : ShelfView) (files : List (List Chunk)) → FilesStand begun files inside.files before → FilesStand begun (files_after files c (put inside.files.limits inside.files.setups files c)) new.files after)
    → ((begun : ShelfView) (files : List (List Chunk)) (shown : LimitShown) → FilesStand begun files inside.files before → put inside.files.limits inside.files.setups files c ≡ Limit shown → ⊥)
    → Stands begun (write old.files.limits old.files.setups state) new after
written_of {begun} {before} {after} {state} {old} {new} inside c e s none front pending tails same fault files within =
    let own = subst (λ (v : OpenSeries). Stands begun state v before) (sym e) s in
    subst (λ (v : OpenSeries). Stands begun (write v.files.limits v.files.setups state) new after) e
    (written_stands c own none front pending tails same fault (files begun state.files own.files) (λ shown. within begun state.files shown own.files))

pub limit_of : {begun before after : ShelfView} {state : State} {old new : OpenSeries} (inside : OpenSeries) (c : Chunk) (shown : LimitShown) → inside ≡ old → after ≡ before → Stands begun state old before
    → earliest_front inside.pending ≡ Some c
    → ((begun : ShelfView) (files : List (List Chunk)) → FilesStand begun files inside.files before → put inside.files.limits inside.files.setups files c ≡ Limit shown)
    → new.pending ≡ inside.pending → new.tails ≡ inside.tails → new.files ≡ inside.files → new.fault ≡ Some (LimitMet shown)
    → MeetsLimit old.files.limits old.files.setups state shown × Stands begun (write old.files.limits old.files.setups state) new after
limit_of {begun} {before} {after} {state} {old} {new} inside c shown e same s front limit pending tails files fault =
    let own = subst (λ (v : OpenSeries). Stands begun state v before) (sym e) s in
    let met = limit_stands c shown own front (limit begun state.files own.files) pending tails files fault in (
      subst (λ (v : OpenSeries). MeetsLimit v.files.limits v.files.setups state shown) e met.0,
      subst (λ (v : OpenSeries). Stands begun (write v.files.limits v.files.setups state) new after) e
          (subst (λ (x : ShelfView). Stands begun (write inside.files.limits inside.files.setups state) new x) (sym same) met.1),
    )

pub failed_of : {begun before after : ShelfView} {state : State} {old new : OpenSeries} (inside : OpenSeries) (closed : Bool) (fault : SeriesFault) → inside ≡ old → Stands begun state old before
    → new.pending ≡ inside.pending → new.tails ≡ inside.tails → SameSetups inside.files new.files → new.fault ≡ Some fault → Breaks fault
    → ((begun : ShelfView) (files : List (List Chunk)) → FilesStand begun files inside.files before → FilesStand begun (cond closed (files ++ [] ∷ []) files) new.files after)
    → Stands begun (failed closed state) new after
failed_of {begun} {before} {after} {state} {old} {new} inside closed fault e s pending tails same is breaks files =
    let own = subst (λ (v : OpenSeries). Stands begun state v before) (sym e) s in
    failed_stands closed fault own pending tails same is breaks (files begun state.files own.files)

pub handed_of : {begun shelf : ShelfView} {state : State} {old new : OpenSeries} (inside : OpenSeries) (c : Chunk) (tail : Tail) → inside ≡ old → Stands begun state old shelf → inside.fault ≡ None → c.track < length inside.files.setups
    → slice_get inside.tails c.track ≡ Some tail → new.pending ≡ with_filled inside.pending c → new.tails ≡ set inside.tails c.track (tail_with tail c) → new.files ≡ inside.files → new.fault ≡ inside.fault
    → Stands begun (hand state c) new shelf
handed_of {begun} {shelf} {state} {old} {new} inside c tail e s none less at pending tails files fault =
    handed_stands c tail (subst (λ (v : OpenSeries). Stands begun state v shelf) (sym e) s) none less at pending tails files fault
