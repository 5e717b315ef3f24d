-- How the chunks of all pumps are dealt to a series.
use Rattle.std.proofs.Common.{◌≡◌, ℕ, zero, suc, ◌+◌, ◌<◌, Bool, true, false, cond, List, [], ◌∷◌, length, drop, set, Option, Some, None, Result, Ok, Err, refl, sym, ap, ◌∙◌, subst, inl, inr, get_or-set_other, arith}
use Rattle.std.specs.Prelude.{get_or, slice_get}
use Rattle.std.specs.Prelude.{OnErr}
use Rattle.std.proofs.lemmas.Bool.{cases_eq, cases_lt}
use Rattle.std.proofs.lemmas.Option.{slice_get_within}
use Rattle.std.proofs.lemmas.List.{length-set, append-nil}
use Rattle.sf_tick.specs.declared.types.Chunk.{Chunk}
use Rattle.sf_entry.specs.declared.track_setup.TrackSetup.{TrackSetup}
use Rattle.sf_world.specs.Views.{ShelfView}
use Rattle.sf_interleave.specs.Waiting.{OfTheirTracks, earliest_front, list_of}
use Rattle.sf_interleave.proofs.WaitingLaws.{picked_first}
use Rattle.sf_series.specs.declared.faults.SeriesFault.{SeriesFault}
use Rattle.sf_series.specs.declared.faults.SeriesFault.TheVariants.{Limit as LimitMet, NoMemory, WriteFault}
use Rattle.sf_series.specs.declared.limits.Limits.{Limits}
use Rattle.sf_series.specs.declared.limits.LimitShown.{LimitShown}
use Rattle.sf_series.specs.Core.{State, failed, is_filled, put_in, write, write_picked, taken as with_taken}
use Rattle.sf_series.specs.Fitting.{AreProper}
use Rattle.sf_series.specs.Kept.{Kept}
use Rattle.sf_series.specs.Series.{Breaks, OpenFiles, OpenSeries, Stands as SeriesStands, wrote_as}
use Rattle.sf_series.specs.declared.series.Wrote.{Wrote}
use Rattle.sf_series.specs.declared.series.Wrote.TheVariants.{Idle, OneChunk}
use Rattle.sf_series.specs.Switching.{Put, Into, Next, Limit, put}
use Rattle.sf_series.specs.inner.Writing.{SameSetups}
use Rattle.sf_series.proofs.SeriesLaws.{hand_kept, hand_proper, list_other, mark_other, read_other, read_set, some_inside, write_kept, write_proper}
use Rattle.sf_record.specs.Pump.{Pumping}
use Rattle.sf_record.proofs.Counted.{failed_turn}
use Rattle.sf_record.specs.inner.InTurn.{InTurn}
use Rattle.sf_record.specs.inner.Deal.{AllOver, AllWait, Deals, DealtTo, Fed, Feeds, HandedOne, Hands, PumpOver, PumpsOver, TrackBegins, TrackStands, Waits}

-- a track of those that are dealt can be fed
pub feeds_of : {begun shelf : ShelfView} {state : State} {pumps : List Pumping} {series : OpenSeries} (k : ℕ) (pump : Pumping) → Deals begun state pumps series shelf → slice_get pumps k ≡ Some pump
    → Feeds begun shelf state k pump series
feeds_of {begun} {shelf} {state} {pumps} {series} k pump d at =
    let t = d.tracks k pump at in
    let inside = slice_get_within series.files.setups k t.setup t.there in
    record { stands = d.stands; setup = t.setup; there = t.there; long = omega (arith, inside, d.kept.tracks, d.stands.handed); hands = t.hands }

-- What stays of a track over a step: what was handed of it, its mark, and which of its chunks wait.
record Same (t : ℕ) (before after : State) : Type 0 where
  handed : list_of after.handed t ≡ list_of before.handed t
  mark : get_or after.marks t false ≡ get_or before.marks t false
  waits : list_of after.pending t ≡ list_of before.pending t

hand_same : (b : Bool) (state : State) (c : Chunk) (t : ℕ) → (c.track ≡ t → ⊥) → Same t state (cond b state (with_taken state c))
hand_same true state c t other = record { handed = refl; mark = refl; waits = refl }
hand_same false state c t other =
    record { handed = list_other (is_filled c) state.handed c t other; mark = mark_other c.last state.marks c.track t other; waits = list_other (is_filled c) state.pending c t other }

one_same : (setups : List TrackSetup) (k t : ℕ) (before after : State) → (k ≡ t → ⊥) → HandedOne setups k before after → Same t before after
one_same setups k t before after other one =
    elim one [
      | inl e ↦ subst (λ (st : State). Same t before st) (sym e) (record { handed = refl; mark = refl; waits = refl })
      | inr h ↦ subst (λ (st : State). Same t before st) (sym h.3) (hand_same before.ended before h.0 t (λ e. other (sym h.1 ∙ e)))
    ]

same_hands : {contents : Option (List ℕ)} {t scale : ℕ} {before after : State} {pump : Pumping} → Same t before after → Hands contents t scale before pump → Hands contents t scale after pump
same_hands {contents} {t} {scale} {before} {after} {pump} s h =
    record { track = h.track; ticks = h.ticks; taken = h.taken; goes = h.goes; handed = s.handed ∙ h.handed; mark = s.mark ∙ h.mark }

same_waits : {t : ℕ} {before after : State} {pump : Pumping} → Same t before after → Waits before t pump → Waits after t pump
same_waits {t} {before} {after} {pump} s w =
    elim w [
      | inl some ↦ inl (subst (λ (cs : List Chunk). 0 < length cs) (sym s.waits) some)
      | inr over ↦ inr over
    ]

one_kept : (files : OpenFiles) (k : ℕ) (before after : State) → HandedOne files.setups k before after → Kept files.limits files.setups before → Kept files.limits files.setups after
one_kept files k before after one kept =
    elim one [
      | inl e ↦ subst (λ (st : State). Kept files.limits files.setups st) (sym e) kept
      | inr h ↦ subst (λ (st : State). Kept files.limits files.setups st) (sym h.3) (hand_kept files.limits files.setups before h.0 kept)
    ]

one_proper : (files : OpenFiles) (k : ℕ) (before after : State) → HandedOne files.setups k before after → AreProper files.setups before → AreProper files.setups after
one_proper files k before after one proper =
    elim one [
      | inl e ↦ subst (λ (st : State). AreProper files.setups st) (sym e) proper
      | inr h ↦ subst (λ (st : State). AreProper files.setups st) (sym h.3) (hand_proper files.setups before h.0 proper h.2)
    ]

some_same : {A : Type 0} (x y : A) → Some x ≡ Some y → x ≡ y
some_same {A} x y e = cc

-- one of the tracks was fed
pub deals_fed : {begun shelf : ShelfView} {state after : State} {pumps : List Pumping} {series new : OpenSeries} (k : ℕ) (old now : Pumping) → Deals begun state pumps series shelf → slice_get pumps k ≡ Some old
    → new.files ≡ series.files → Fed begun shelf state after k now new → Deals begun after (set pumps k now) new shelf
deals_fed {begun} {shelf} {state} {after} {pumps} {series} {new} k old now d at files fed =
    let setups = ap (λ (fs : OpenFiles). fs.setups) files in
    let kept : Kept new.files.limits new.files.setups state = subst (λ (fs : OpenFiles). Kept fs.limits fs.setups state) (sym files) d.kept in
    let proper : AreProper new.files.setups state = subst (λ (fs : OpenFiles). AreProper fs.setups state) (sym files) d.proper in
    record {
      stands = fed.feeds.stands;
      kept = one_kept new.files k state after fed.one kept;
      proper = one_proper new.files k state after fed.one proper;
      one_each = length-set pumps k now ∙ d.one_each ∙ ap (λ (ss : List TrackSetup). length ss) (sym setups);
      tracks = λ t pump there. elim (cases_eq k t) [
        | inl e ↦ (let is : now ≡ pump = some_same now pump (sym (read_set pumps k old now at) ∙ ap (λ (n : ℕ). slice_get (set pumps k now) n) e ∙ there) in
            subst (λ (n : ℕ). TrackStands new.files.setups after n pump) e (subst (λ (p : Pumping). TrackStands new.files.setups after k p) is
            (record { setup = fed.feeds.setup; there = fed.feeds.there; hands = fed.feeds.hands })))
        | inr other ↦ (let was = d.tracks t pump (sym (read_other pumps k t now other) ∙ there) in
            record { setup = was.setup; there = ap (λ (ss : List TrackSetup). slice_get ss t) setups ∙ was.there; hands = same_hands (one_same new.files.setups k t state after other fed.one) was.hands })
      ];
    }

-- of the tracks but one a chunk waits, or the last one was taken
abbrev pub AllWaitBut : ℕ → ℕ → State → List Pumping → Type 0
AllWaitBut k below state pumps = (number : ℕ) (pump : Pumping) → (k ≡ number → ⊥) → number < below → slice_get pumps number ≡ Some pump → Waits state number pump

pub waits_fed : {begun shelf : ShelfView} {state after : State} {new : OpenSeries} (pumps : List Pumping) (k below : ℕ) (old now : Pumping) → slice_get pumps k ≡ Some old → Fed begun shelf state after k now new
    → AllWaitBut k below state pumps → AllWait below after (set pumps k now)
waits_fed {begun} {shelf} {state} {after} {new} pumps k below old now at fed wait t pump less there =
    elim (cases_eq k t) [
      | inl e ↦ (let is : now ≡ pump = some_same now pump (sym (read_set pumps k old now at) ∙ ap (λ (n : ℕ). slice_get (set pumps k now) n) e ∙ there) in
          subst (λ (n : ℕ). Waits after n pump) e (subst (λ (p : Pumping). Waits after k p) is fed.waits))
      | inr other ↦ same_waits (one_same new.files.setups k t state after other fed.one) (wait t pump other less (sym (read_other pumps k t now other) ∙ there))
    ]

-- ---- pumps over steps

pub over_same : (pump : Pumping) → PumpOver pump pump
over_same pump = record { given = refl; source = record { content = refl; size = refl; later = omega arith }; failed = λ e. inl e; live = λ l. l }

pub all_same : (pumps : List Pumping) → PumpsOver pumps pumps
all_same [] = tt
all_same (p ∷ ps) = (over_same p, all_same ps)

pub over_then : (a b c : Pumping) → PumpOver a b → PumpOver b c → PumpOver a c
over_then a b c first next =
    record {
      given = next.given ∙ first.given;
      source = record { content = next.source.content ∙ first.source.content; size = next.source.size ∙ first.source.size; later = omega (arith, first.source.later, next.source.later) };
      failed = λ e. failed_turn _ _ _ first.failed next.failed first.source.later next.source.later e;
      live = λ l. next.live (first.live l);
    }

pub over_set : (before after : List Pumping) (k : ℕ) (old now : Pumping) → PumpsOver before after → slice_get after k ≡ Some old → PumpOver old now → PumpsOver before (set after k now)
over_set [] [] k old now over at step = tt
over_set [] (a ∷ after) k old now over at step = absurd over
over_set (b ∷ before) [] k old now over at step = absurd over
over_set (b ∷ before) (a ∷ after) zero old now over at step =
    let is : a ≡ old = some_same a old at in (over_then b a now over.0 (subst (λ (p : Pumping). PumpOver p now) (sym is) step), over.1)
over_set (b ∷ before) (a ∷ after) (suc k) old now over at step = (over.0, over_set before after k old now over.1 at step)

pub overs_then : (ps qs rs : List Pumping) → PumpsOver ps qs → PumpsOver qs rs → PumpsOver ps rs
overs_then [] [] [] first next = tt
overs_then [] [] (r ∷ rs) first next = absurd next
overs_then [] (q ∷ qs) rs first next = absurd first
overs_then (p ∷ ps) [] rs first next = absurd first
overs_then (p ∷ ps) (q ∷ qs) [] first next = absurd next
overs_then (p ∷ ps) (q ∷ qs) (r ∷ rs) first next = (over_then p q r first.0 next.0, overs_then ps qs rs first.1 next.1)

-- ---- answers

pub on_err : {T E P : Type 0} (result : Result T E) → P → OnErr result P
on_err {T} {E} {P} (Ok x) p = tt
on_err {T} {E} {P} (Err e) p = p

pub less_but : (k t : ℕ) → (k ≡ t → ⊥) → t < k + 1 → t < k
less_but k t other less = elim (cases_lt t k) [ inl below ↦ below | inr above ↦ absurd (other (omega (arith, less, above))) ]

-- the earliest chunk was written
put_same : (state : State) (c : Chunk) (p : Put) → ((put_in state c p).handed ≡ state.handed) × ((put_in state c p).marks ≡ state.marks)
put_same state c Into = (refl, refl)
put_same state c Next = (refl, refl)
put_same state c (Limit shown) = (refl, refl)

picked_same : (limits : Limits) (setups : List TrackSetup) (state : State) (o : Option Chunk)
    → ((write_picked limits setups state o).handed ≡ state.handed) × ((write_picked limits setups state o).marks ≡ state.marks)
picked_same limits setups state None = (refl, refl)
picked_same limits setups state (Some c) = put_same state c (put limits setups state.files c)

put_waits : (state : State) (c : Chunk) (p : Put) (t : ℕ) → (c.track ≡ t → ⊥) → list_of (put_in state c p).pending t ≡ list_of state.pending t
put_waits state c Into t other = get_or-set_other state.pending c.track t _ [] (λ e. other (sym e))
put_waits state c Next t other = get_or-set_other state.pending c.track t _ [] (λ e. other (sym e))
put_waits state c (Limit shown) t other = refl

picked_waits : (limits : Limits) (setups : List TrackSetup) (state : State) (o : Option Chunk) (k t : ℕ) → wrote_as o ≡ OneChunk k → (k ≡ t → ⊥)
    → list_of (write_picked limits setups state o).pending t ≡ list_of state.pending t
picked_waits limits setups state None k t e other = cc
picked_waits limits setups state (Some c) k t e other =
    let is : c.track ≡ k = cc in put_waits state c (put limits setups state.files c) t (λ same. other (sym is ∙ same))

-- what was dealt, after the earliest chunk was written
pub deals_written : {begun shelf after : ShelfView} {state : State} {pumps : List Pumping} {series new : OpenSeries} → Deals begun state pumps series shelf → SameSetups series.files new.files
    → SeriesStands begun (write series.files.limits series.files.setups state) new after → Deals begun (write series.files.limits series.files.setups state) pumps new after
deals_written {begun} {shelf} {after} {state} {pumps} {series} {new} d same stands =
    let now : State = write series.files.limits series.files.setups state in
    let kept : Kept series.files.limits series.files.setups now = write_kept series.files.limits series.files.setups state d.kept in
    let proper : AreProper series.files.setups now = write_proper series.files.limits series.files.setups state d.proper in
    let stay = picked_same series.files.limits series.files.setups state (earliest_front state.pending) in
    record {
      stands = stands;
      kept = subst (λ (ls : Limits). Kept ls new.files.setups now) (sym same.limits) (subst (λ (ss : List TrackSetup). Kept series.files.limits ss now) (sym same.setups) kept);
      proper = subst (λ (ss : List TrackSetup). AreProper ss now) (sym same.setups) proper;
      one_each = d.one_each ∙ ap (λ (ss : List TrackSetup). length ss) (sym same.setups);
      tracks = λ t pump there.
          let was = d.tracks t pump there in
          record {
            setup = was.setup;
            there = ap (λ (ss : List TrackSetup). slice_get ss t) same.setups ∙ was.there;
            hands = record {
              track = was.hands.track;
              ticks = was.hands.ticks;
              taken = was.hands.taken;
              goes = was.hands.goes;
              handed = ap (λ (ls : List (List Chunk)). list_of ls t) stay.0 ∙ was.hands.handed;
              mark = ap (λ (ms : List Bool). get_or ms t false) stay.1 ∙ was.hands.mark;
            };
          };
    }

pub waits_written : (limits : Limits) (setups : List TrackSetup) (state : State) (pumps : List Pumping) (k below : ℕ) → wrote_as (earliest_front state.pending) ≡ OneChunk k → AllWait below state pumps
    → AllWaitBut k below (write limits setups state) pumps
waits_written limits setups state pumps k below is wait t pump other less there =
    elim (wait t pump less there) [
      | inl some ↦ inl (subst (λ (cs : List Chunk). 0 < length cs) (sym (picked_waits limits setups state (earliest_front state.pending) k t is other)) some)
      | inr over ↦ inr over
    ]

-- where nothing waits, all pumps are over
pub all_over : (state : State) (pumps : List Pumping) → ((t : ℕ) → list_of state.pending t ≡ []) → AllWait (length pumps) state pumps → AllOver pumps
all_over state pumps none wait t pump there =
    elim (wait t pump (slice_get_within pumps t pump there) there) [
      | inl some ↦ (let empty = ap (λ (cs : List Chunk). length cs) (none t) in absurd (omega (arith, some, empty)))
      | inr over ↦ over
    ]

inside_by : (lists : List (List Chunk)) (o : Option Chunk) (k : ℕ) → OfTheirTracks 0 lists → earliest_front lists ≡ o → wrote_as o ≡ OneChunk k → k < length lists
inside_by lists None k theirs e is = cc
inside_by lists (Some c) k theirs e is =
    let same : c.track ≡ k = cc in
    let inside = some_inside lists c.track c (drop 1 (list_of lists c.track)) (picked_first lists c theirs e) in
    omega (arith, same, inside)

-- the track of a chunk that was written is one of the pumps'
pub written_inside : {begun shelf : ShelfView} {state : State} {pumps : List Pumping} {series : OpenSeries} (k : ℕ) → Deals begun state pumps series shelf → wrote_as (earliest_front state.pending) ≡ OneChunk k → k < length pumps
written_inside {begun} {shelf} {state} {pumps} {series} k d is =
    let inside = inside_by state.pending (earliest_front state.pending) k d.kept.theirs refl is in
    omega (arith, inside, d.kept.tracks, d.stands.handed, d.one_each)

-- what was written is the earliest chunk that waits
pub wrote_is : {begun shelf : ShelfView} {state : State} {series : OpenSeries} {wrote : Wrote} (k : ℕ) → SeriesStands begun state series shelf → wrote ≡ wrote_as (earliest_front series.pending) → wrote ≡ OneChunk k
    → wrote_as (earliest_front state.pending) ≡ OneChunk k
wrote_is {begun} {shelf} {state} {series} {wrote} k s picked is = ap (λ (ls : List (List Chunk)). wrote_as (earliest_front ls)) (sym s.pending) ∙ sym picked ∙ is

none_if : (o : Option Chunk) → wrote_as o ≡ Idle → o ≡ None
none_if None e = refl
none_if (Some c) e = cc

-- what holds after a limit, and after another fault
pub err_stands : {P : Type 0} (fault : SeriesFault) → ((shown : LimitShown) → fault ≡ LimitMet shown → P) → (Breaks fault → P) → P
err_stands {P} WriteFault limit broken = broken tt
err_stands {P} (LimitMet shown) limit broken = limit shown refl
err_stands {P} NoMemory limit broken = broken tt

-- a call that changed nothing
pub dealt_same : {pumps now : List Pumping} {series new : OpenSeries} {shelf after : ShelfView} (begun : ShelfView) (state : State) → now ≡ pumps → new ≡ series → after ≡ shelf
    → Deals begun state pumps series shelf → AllOver pumps → Deals begun state now new after × AllOver now
dealt_same {pumps} {now} {series} {new} {shelf} {after} begun state same_pumps same_series same_shelf d over = (
  subst (λ (ps : List Pumping). Deals begun state ps new after) (sym same_pumps) (subst (λ (s : OpenSeries). Deals begun state pumps s after) (sym same_series)
      (subst (λ (v : ShelfView). Deals begun state pumps series v) (sym same_shelf) d)),
  subst (λ (ps : List Pumping). AllOver ps) (sym same_pumps) over,
)

-- ---- what dealing came to

track_begins : {setups : List TrackSetup} {state : State} {number : ℕ} {pump : Pumping} → TrackStands setups state number pump → TrackBegins setups state number pump
track_begins {setups} {state} {number} {pump} t =
    record {
      setup = t.setup;
      there = t.there;
      hands = record {
        track = t.hands.track;
        ticks = t.hands.ticks;
        taken = t.hands.taken;
        goes = t.hands.goes;
        rest = [];
        first = sym t.hands.handed ∙ sym (append-nil (list_of state.handed number));
      };
    }

-- all that was taken was handed
pub dealt_to : {begun shelf : ShelfView} {state : State} {pumps : List Pumping} {series : OpenSeries} {T : Type 0} → Deals begun state pumps series shelf → (T → InTurn state) → DealtTo begun T pumps series shelf
dealt_to {begun} {shelf} {state} {pumps} {series} {T} d turn =
    record { state = state; some = d.stands.files.some; kept = d.kept; proper = d.proper; tracks = λ t pump at. track_begins (d.tracks t pump at); turn = turn; after = state; left = inl refl; stands = d.stands }

-- one of the pumps gave a chunk that wasn't handed, or none
pub dealt_but : {begun shelf : ShelfView} {state : State} {pumps : List Pumping} {series new : OpenSeries} {T : Type 0} (k : ℕ) (old now : Pumping) → Deals begun state pumps series shelf → slice_get pumps k ≡ Some old
    → new ≡ series → TrackBegins new.files.setups state k now → (T → InTurn state) → DealtTo begun T (set pumps k now) new shelf
dealt_but {begun} {shelf} {state} {pumps} {series} {new} {T} k old now d at same begins turn =
    let of_old : (s : OpenSeries) → s ≡ series → Deals begun state pumps s shelf = λ s e. subst (λ (x : OpenSeries). Deals begun state pumps x shelf) (sym e) d in
    let d_new : Deals begun state pumps new shelf = of_old new same in
    record {
      state = state;
      some = d.stands.files.some;
      kept = d_new.kept;
      proper = d_new.proper;
      tracks = λ t pump there. elim (cases_eq k t) [
        | inl e ↦ (let is : now ≡ pump = some_same now pump (sym (read_set pumps k old now at) ∙ ap (λ (n : ℕ). slice_get (set pumps k now) n) e ∙ there) in
            subst (λ (n : ℕ). TrackBegins new.files.setups state n pump) e (subst (λ (p : Pumping). TrackBegins new.files.setups state k p) is begins))
        | inr other ↦ track_begins (d_new.tracks t pump (sym (read_other pumps k t now other) ∙ there))
      ];
      turn = turn;
      after = state;
      left = inl refl;
      stands = d_new.stands;
    }

-- a write failed, or found no memory
pub dealt_failed : {begun shelf after : ShelfView} {state : State} {pumps : List Pumping} {series new : OpenSeries} {T : Type 0} (closed : Bool) (fault : SeriesFault) → Deals begun state pumps series shelf → SameSetups series.files new.files
    → new.fault ≡ Some fault → Breaks fault → SeriesStands begun (failed closed state) new after → (T → InTurn state) → DealtTo begun T pumps new after
dealt_failed {begun} {shelf} {after} {state} {pumps} {series} {new} {T} closed fault d same is breaks stands turn =
    record {
      state = state;
      some = d.stands.files.some;
      kept = subst (λ (ls : Limits). Kept ls new.files.setups state) (sym same.limits) (subst (λ (ss : List TrackSetup). Kept series.files.limits ss state) (sym same.setups) d.kept);
      proper = subst (λ (ss : List TrackSetup). AreProper ss state) (sym same.setups) d.proper;
      tracks = λ t pump at. subst (λ (ss : List TrackSetup). TrackBegins ss state t pump) (sym same.setups) (track_begins (d.tracks t pump at));
      turn = turn;
      after = failed closed state;
      left = inr (fault, is, breaks, (closed, refl));
      stands = stands;
    }

-- where less has to hold for the turn
pub dealt_by : {begun shelf : ShelfView} {pumps : List Pumping} {series : OpenSeries} {S T : Type 0} → (T → S) → DealtTo begun S pumps series shelf → DealtTo begun T pumps series shelf
dealt_by {begun} {shelf} {pumps} {series} {S} {T} less d =
    record { state = d.state; some = d.some; kept = d.kept; proper = d.proper; tracks = d.tracks; turn = λ t. d.turn (less t); after = d.after; left = d.left; stands = d.stands }
