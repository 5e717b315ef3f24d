-- Several writes, one after the other.
use Rattle.std.proofs.Common.{◌≡◌, ℕ, zero, suc, ◌+◌, Bool, true, false, cond, List, Option, Some, None, refl, sym, ap, ◌∙◌, arith}
use Rattle.sf_entry.specs.declared.track_setup.TrackSetup.{TrackSetup}
use Rattle.sf_series.specs.declared.limits.Limits.{Limits}
use Rattle.sf_tick.specs.declared.types.Chunk.{Chunk}
use Rattle.sf_interleave.specs.Waiting.{earliest_front, list_of}
use Rattle.sf_series.specs.Files.{chunks_of_track}
use Rattle.sf_series.specs.Fitting.{AreProper}
use Rattle.sf_series.specs.Kept.{Kept}
use Rattle.sf_series.specs.Switching.{Put, Into, Next, Limit, put}
use Rattle.sf_series.proofs.Proper.{write_proper}
use Rattle.sf_series.proofs.ReadBack.{all_written}
use Rattle.sf_series.proofs.Steps.{write_kept}
use Rattle.sf_series.specs.Core.{State, put_in, write, write_picked}
use Rattle.sf_series.specs.Ending.{written}

stop : (b : Bool) (x y : State) → b ≡ true → cond b x y ≡ x
stop true x y e = refl
stop false x y e = cc

go : (b : Bool) (x y : State) → b ≡ false → cond b x y ≡ y
go true x y e = cc
go false x y e = refl

-- nothing is written after an end
pub written_ended : (n : ℕ) (limits : Limits) (setups : List TrackSetup) (state : State) → state.ended ≡ true → written n limits setups state ≡ state
written_ended zero limits setups state e = refl
written_ended (suc n) limits setups state e = stop state.ended state (written n limits setups (write limits setups state)) e

more_if : (b : Bool) (n : ℕ) (limits : Limits) (setups : List TrackSetup) (state : State) → state.ended ≡ b → (written (suc n) limits setups state).ended ≡ false
    → ((written n limits setups (write limits setups state)).ended ≡ false → written (suc n) limits setups (write limits setups state) ≡ write limits setups (written n limits setups (write limits setups state)))
    → written (suc (suc n)) limits setups state ≡ write limits setups (written (suc n) limits setups state)
more_if true n limits setups state e f more =
    let wrong : true ≡ false = sym e ∙ sym (ap (λ (s : State). s.ended) (written_ended (suc n) limits setups state e)) ∙ f in cc
more_if false n limits setups state e f more =
    let next : written (suc n) limits setups state ≡ written n limits setups (write limits setups state) = go state.ended state (written n limits setups (write limits setups state)) e in
    go state.ended state (written (suc n) limits setups (write limits setups state)) e
    ∙ more (sym (ap (λ (s : State). s.ended) next) ∙ f) ∙ ap (λ (s : State). write limits setups s) (sym next)

-- one more write
pub written_more : (n : ℕ) (limits : Limits) (setups : List TrackSetup) (state : State) → (written n limits setups state).ended ≡ false → written (suc n) limits setups state ≡ write limits setups (written n limits setups state)
written_more zero limits setups state f = go state.ended state (write limits setups state) f
written_more (suc n) limits setups state f = more_if state.ended n limits setups state refl f (λ e. written_more n limits setups (write limits setups state) e)

stays_if : (b : Bool) (n m : ℕ) (limits : Limits) (setups : List TrackSetup) (state : State) → state.ended ≡ b → (written (suc n) limits setups state).ended ≡ true
    → ((written n limits setups (write limits setups state)).ended ≡ true → written (n + m) limits setups (write limits setups state) ≡ written n limits setups (write limits setups state))
    → written (suc (n + m)) limits setups state ≡ written (suc n) limits setups state
stays_if true n m limits setups state e f more = written_ended (suc (n + m)) limits setups state e ∙ sym (written_ended (suc n) limits setups state e)
stays_if false n m limits setups state e f more =
    let next : written (suc n) limits setups state ≡ written n limits setups (write limits setups state) = go state.ended state (written n limits setups (write limits setups state)) e in
    go state.ended state (written (n + m) limits setups (write limits setups state)) e ∙ more (sym (ap (λ (s : State). s.ended) next) ∙ f) ∙ sym next

-- more writes after an end
pub written_stays : (n m : ℕ) (limits : Limits) (setups : List TrackSetup) (state : State) → (written n limits setups state).ended ≡ true → written (n + m) limits setups state ≡ written n limits setups state
written_stays zero m limits setups state f = let e : 0 + m ≡ m = omega arith in rw e (written_ended m limits setups state f)
written_stays (suc n) m limits setups state f =
    let e : suc n + m ≡ suc (n + m) = omega arith in
    rw e (stays_if state.ended n m limits setups state refl f (λ w. written_stays n m limits setups (write limits setups state) w))

keeps_if : (b : Bool) (P : State → Type 0) (x y : State) → P x → P y → P (cond b x y)
keeps_if true P x y p q = p
keeps_if false P x y p q = q

-- what each write keeps is kept by several
pub written_keeps : (P : State → Type 0) (n : ℕ) (limits : Limits) (setups : List TrackSetup) (state : State) → ((s : State) → P s → P (write limits setups s)) → P state → P (written n limits setups state)
written_keeps P zero limits setups state each p = p
written_keeps P (suc n) limits setups state each p =
    keeps_if state.ended P state (written n limits setups (write limits setups state)) p (written_keeps P n limits setups (write limits setups state) each (each state p))

put_handed : (state : State) (c : Chunk) (p : Put) → (put_in state c p).handed ≡ state.handed
put_handed state c Into = refl
put_handed state c Next = refl
put_handed state c (Limit shown) = refl

picked_handed : (limits : Limits) (setups : List TrackSetup) (state : State) (o : Option Chunk) → (write_picked limits setups state o).handed ≡ state.handed
picked_handed limits setups state None = refl
picked_handed limits setups state (Some c) = put_handed state c (put limits setups state.files c)

pub written_handed : (n : ℕ) (limits : Limits) (setups : List TrackSetup) (state : State) → (written n limits setups state).handed ≡ state.handed
written_handed n limits setups state =
    written_keeps (λ s. s.handed ≡ state.handed) n limits setups state (λ s e. picked_handed limits setups s (earliest_front s.pending) ∙ e) refl

pub written_kept : (n : ℕ) (limits : Limits) (setups : List TrackSetup) (state : State) → Kept limits setups state → Kept limits setups (written n limits setups state)
written_kept n limits setups state k = written_keeps (λ s. Kept limits setups s) n limits setups state (λ s h. write_kept limits setups s h) k

pub written_proper : (n : ℕ) (limits : Limits) (setups : List TrackSetup) (state : State) → AreProper setups state → AreProper setups (written n limits setups state)
written_proper n limits setups state p = written_keeps (λ s. AreProper setups s) n limits setups state (λ s h. write_proper limits setups s h) p

-- where none waits after the writes all that was handed stands in files
pub written_all : (n : ℕ) (limits : Limits) (setups : List TrackSetup) (state : State) (track : ℕ) → Kept limits setups state → earliest_front (written n limits setups state).pending ≡ None
    → chunks_of_track track (written n limits setups state).files ≡ list_of state.handed track
written_all n limits setups state track k e =
    all_written limits setups (written n limits setups state) track (written_kept n limits setups state k) e ∙ ap (λ (lists : List (List Chunk)). list_of lists track) (written_handed n limits setups state)

pub ruleset written_laws = (written_keeps, written_ended, written_kept, written_proper, written_handed, written_all)
