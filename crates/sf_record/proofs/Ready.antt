-- Where of each pump a chunk waits or its last one was taken, the next chunk in order is the one that is written.
use Rattle.std.proofs.Common.{◌≡◌, ℕ, zero, suc, ◌+◌, ◌<◌, ◌≤◌, true, false, List, [], ◌∷◌, ◌++◌, length, Option, Some, refl, sym, ap, ◌∙◌, subst, inl, inr, append-nil, arith}
use Rattle.std.specs.Prelude.{get_or, slice_get}
use Rattle.std.specs.Option.{option_to_list}
use Rattle.std.proofs.lemmas.Option.{slice_get_within}
use Rattle.sf_tick.specs.declared.types.Stored.{Stored}
use Rattle.sf_tick.specs.declared.types.Chunk.{Chunk}
use Rattle.sf_entry.specs.declared.track_setup.TrackSetup.{TrackSetup}
use Rattle.sf_world.specs.Views.{ShelfView}
use Rattle.sf_gather.specs.declared.given.Given.{Given}
use Rattle.sf_gather.specs.Chunks.{belongs, chunk_of, chunks, chunks_from}
use Rattle.sf_gather.specs.Gathered.{Gathered}
use Rattle.sf_gather.specs.Proper.{ends_marked}
use Rattle.sf_interleave.specs.Waiting.{list_of}
use Rattle.sf_series.specs.declared.limits.Limits.{Limits}
use Rattle.sf_series.specs.declared.limits.LimitShown.{LimitShown}
use Rattle.sf_series.specs.Core.{State, put_in, write, write_picked}
use Rattle.sf_series.specs.Series.{MeetsLimit, OpenSeries}
use Rattle.sf_series.specs.Switching.{Put}
use Rattle.sf_record.specs.Pump.{Ended, Pumping, Works, given_chunks}
use Rattle.sf_record.specs.inner.Deal.{AllWait, Deals, HandedOne, Hands, IsOver}
use Rattle.sf_record.specs.inner.InTurn.{AllReady, InTurn}
use Rattle.sf_record.proofs.Handing.{bool_tells, some_from}
use Rattle.sf_record.proofs.InTurn.{hand_turn}

ends_cons : (c : Chunk) (cs : List Chunk) → 1 ≤ length cs → ends_marked cs ≡ true → ends_marked (c ∷ cs) ≡ true
ends_cons c [] some e = absurd (omega (arith, some))
ends_cons c (d ∷ cs) some e = e

-- the last of all chunks of samples is marked
marked_from : (given : Given) (number : ℕ) (so_far samples : List Stored) → ends_marked (chunks_from given number so_far samples) ≡ true
marked_from given number so_far [] = refl
marked_from given number so_far (next ∷ rest) =
    elim (bool_tells (belongs given so_far next)) [
      | inl t ↦ rw t (marked_from given number (so_far ++ next ∷ []) rest)
      | inr f ↦ rw f (ends_cons (chunk_of given number false so_far) (chunks_from given (number + 1) (next ∷ []) rest) (some_from given (number + 1) (next ∷ []) rest)
          (marked_from given (number + 1) (next ∷ []) rest))
    ]

-- all chunks of a pump that is over were taken
pub over_taken : {contents : Option (List ℕ)} {number scale : ℕ} {state : State} {pump : Pumping} (hands : Hands contents number scale state pump) → IsOver pump → hands.taken ≡ chunks pump.given hands.goes.0
over_taken {contents} {number} {scale} {state} {pump} hands is =
    let ended : Ended contents hands.goes.0 (given_chunks hands.taken pump) pump = subst (λ (o : Option Gathered). Works contents hands.goes.0 (given_chunks hands.taken pump) pump o) is.last hands.goes.1.works in
    sym (append-nil hands.taken) ∙ ap (λ (o : Option Chunk). hands.taken ++ option_to_list o) (sym is.free) ∙ ended.chunks

over_marked : {contents : Option (List ℕ)} {number scale : ℕ} {state : State} {pump : Pumping} → Hands contents number scale state pump → IsOver pump → get_or state.marks number false ≡ true
over_marked {contents} {number} {scale} {state} {pump} hands is =
    hands.mark ∙ ap (λ (cs : List Chunk). ends_marked cs) (over_taken hands is) ∙ marked_from pump.given 0 [] hands.goes.0

pub pump_there : (pumps : List Pumping) (t : ℕ) → t < length pumps → (pump : Pumping) × (slice_get pumps t ≡ Some pump)
pump_there [] t less = absurd (omega (arith, less))
pump_there (p ∷ pumps) zero less = (p, refl)
pump_there (p ∷ pumps) (suc t) less = pump_there pumps t (omega (arith, less))

pub ready_of : {begun shelf : ShelfView} {state : State} {pumps : List Pumping} {series : OpenSeries} → Deals begun state pumps series shelf → AllWait (length pumps) state pumps → AllReady state
ready_of {begun} {shelf} {state} {pumps} {series} d wait t less =
    let below : t < length pumps = omega (arith, less, d.kept.tracks, d.stands.handed, d.one_each) in
    let p = pump_there pumps t below in
    elim (wait t p.0 below p.1) [
      | inl some ↦ inl some
      | inr over ↦ inr (over_marked (d.tracks t p.0 p.1).hands over)
    ]

-- a chunk is handed, or none
pub one_turn : {begun shelf : ShelfView} {state after : State} {pumps : List Pumping} {series : OpenSeries} (setups : List TrackSetup) (k : ℕ) → Deals begun state pumps series shelf → series.files.setups ≡ setups
    → HandedOne setups k state after → InTurn state → InTurn after
one_turn {begun} {shelf} {state} {after} {pumps} {series} setups k d own one turn =
    elim one [
      | inl e ↦ subst (λ (st : State). InTurn st) (sym e) turn
      | inr h ↦ (
          let inside : h.0.track < length setups = slice_get_within setups h.0.track h.2.setup h.2.there in
          let long : length series.files.setups ≡ length setups = ap (λ (ss : List TrackSetup). length ss) own in
          let handed : h.0.track < length state.handed = omega (arith, inside, long, d.stands.handed) in
          let waits : h.0.track < length state.pending = omega (arith, handed, d.kept.tracks) in
          subst (λ (st : State). InTurn st) (sym h.3) (hand_turn state h.0 handed waits h.2.goes_on.goes_on turn))
    ]

-- a write that meets a limit leaves what waits
limit_same : (limits : Limits) (setups : List TrackSetup) (state : State) (shown : LimitShown) → MeetsLimit limits setups state shown → (write limits setups state).pending ≡ state.pending
limit_same limits setups state shown met =
    ap (λ (o : Option Chunk). (write_picked limits setups state o).pending) met.next ∙ ap (λ (p : Put). (put_in state met.chunk p).pending) met.limit

pub waits_limited : (limits : Limits) (setups : List TrackSetup) (state : State) (pumps : List Pumping) (below : ℕ) (shown : LimitShown) → MeetsLimit limits setups state shown → AllWait below state pumps
    → AllWait below (write limits setups state) pumps
waits_limited limits setups state pumps below shown met wait t pump less there =
    elim (wait t pump less there) [
      | inl some ↦ inl (subst (λ (lists : List (List Chunk)). 0 < length (list_of lists t)) (sym (limit_same limits setups state shown met)) some)
      | inr over ↦ inr over
    ]
