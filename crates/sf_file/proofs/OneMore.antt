-- The tracks of an open file, and one of them with one more chunk.
use Rattle.std.proofs.Common.{◌≡◌, ℕ, zero, suc, ◌+◌, ◌*◌, ◌^◌, ◌<◌, ◌≤◌, ◌==◌, true, false, List, [], ◌∷◌, ◌++◌, length, map, set, Option, Some, None, IfSome, refl, sym, ap, ◌∙◌, subst, arith, inl, inr}
use Rattle.std.specs.Prelude.{slice_get, option_map}
use Rattle.std.specs.List.{AllByRecursion}
use Rattle.std.proofs.lemmas.Bool.Decides.{eqb_tells}
use Rattle.std.proofs.lemmas.List.{length-append, length-map}
use Rattle.std.proofs.lemmas.List.Sums.{sum_by-cons}
use Rattle.std.proofs.lemmas.Option.{slice_get-map}
use Rattle.sf_tick.specs.declared.types.Stored.{Stored}
use Rattle.sf_tick.specs.declared.types.Chunk.{Chunk}
use Rattle.sf_entry.specs.declared.track_setup.TrackSetup.{TrackSetup}
use Rattle.sf_meaning.specs.Stbl.{timed_of}
use Rattle.sf_meaning.specs.Rows.{timed}
use Rattle.sf_layout.specs.Layout.{TrackRows, samples_of, stored_bytes, first_us, track_samples, track_rows, tracks_from}
use Rattle.sf_layout.proofs.LayoutLaws.{samples_grown, rows_grown, samples_kept, rows_kept}
use Rattle.sf_gather.proofs.GatherLaws.{last_from-append}
use Rattle.sf_tables.specs.Rows.{first_dts_with}
use Rattle.sf_file.specs.Open.{HeldTrack, Joins, count_of, rows_in, track_with, tracks_with, held_from}
use Rattle.sf_file.specs.inner.Tracks.{KeptTrack, JoinsAt, JoinsFrom, held_in}
use Rattle.sf_file.specs.inner.Sound.{HasFew, total}
use Rattle.sf_file.proofs.Room.{timed_of-append}

pub same_number : (a b : ℕ) → a ≡ b → (a == b) ≡ true
same_number a b e = elim (eqb_tells a b) [ inl p ↦ p.0 | inr p ↦ absurd (p.1 e) ]

pub other_number : (a b : ℕ) → (a ≡ b → ⊥) → (a == b) ≡ false
other_number a b ne = elim (eqb_tells a b) [ inl p ↦ absurd (ne p.1) | inr p ↦ p.0 ]

-- tracks of higher numbers stay
with_above : (number : ℕ) (ts : List HeldTrack) (place : ℕ) (c : Chunk) → c.track < number → tracks_with number ts place c ≡ ts
with_above number [] place c lt = refl
with_above number (t ∷ ts) place c lt =
    rw (other_number c.track number (λ e. omega (arith, e, lt))) (ap (λ (us : List HeldTrack). t ∷ us) (with_above (number + 1) ts place c (omega (arith, lt))))

-- one of the tracks has one more chunk
pub with_set : (number k : ℕ) (ts : List HeldTrack) (place : ℕ) (c : Chunk) (t : HeldTrack) → c.track ≡ number + k → slice_get ts k ≡ Some t
    → set ts k (track_with t place c) ≡ tracks_with number ts place c
with_set number k [] place c t at e = cc
with_set number zero (u ∷ ts) place c t at e =
    let same : u ≡ t = cc in
    let here : c.track ≡ number = omega (arith, at) in
    rw (same_number c.track number here, with_above (number + 1) ts place c (omega (arith, here))) (ap (λ (v : HeldTrack). track_with v place c ∷ ts) (sym same))
with_set number (suc k) (u ∷ ts) place c t at e =
    rw (other_number c.track number (λ n. omega (arith, n, at))) (ap (λ (us : List HeldTrack). u ∷ us) (with_set (number + 1) k ts place c t (omega (arith, at)) e))

joins_above : (number : ℕ) (ts : List HeldTrack) (c : Chunk) → c.track < number → JoinsFrom number ts c
joins_above number [] c lt = tt
joins_above number (t ∷ ts) c lt = (λ e. absurd (omega (arith, e, lt)), joins_above (number + 1) ts c (omega (arith, lt)))

pub joins_from : (number k : ℕ) (ts : List HeldTrack) (c : Chunk) (t : HeldTrack) → c.track ≡ number + k → slice_get ts k ≡ Some t → Joins t c → JoinsFrom number ts c
joins_from number k [] c t at e j = tt
joins_from number zero (u ∷ ts) c t at e j =
    let same : u ≡ t = cc in
    (λ n. subst (λ (v : HeldTrack). Joins v c) (sym same) j, joins_above (number + 1) ts c (omega (arith, at)))
joins_from number (suc k) (u ∷ ts) c t at e j =
    (λ n. absurd (omega (arith, n, at)), joins_from (number + 1) k ts c t (omega (arith, at)) e j)

pub joins_at : (ts : List HeldTrack) (c : Chunk) (t : HeldTrack) → slice_get ts c.track ≡ Some t → Joins t c → JoinsAt ts c
joins_at ts c t e j = subst (λ (o : Option HeldTrack). IfSome o (λ u. Joins u c)) (sym e) j

-- the setups stay
pub setups_with : (number : ℕ) (ts : List HeldTrack) (place : ℕ) (c : Chunk) → map (λ t. t.track.setup) (tracks_with number ts place c) ≡ map (λ t. t.track.setup) ts
setups_with number [] place c = refl
setups_with number (t ∷ ts) place c =
    let more : map (λ u. u.track.setup) (tracks_with (number + 1) ts place c) ≡ map (λ u. u.track.setup) ts = setups_with (number + 1) ts place c in
    elim (eqb_tells c.track number) [
      | inl p ↦ rw p.0 (ap (λ (ss : List TrackSetup). t.track.setup ∷ ss) more)
      | inr p ↦ rw p.0 (ap (λ (ss : List TrackSetup). t.track.setup ∷ ss) more)
    ]

pub length_with : (number : ℕ) (ts : List HeldTrack) (place : ℕ) (c : Chunk) → length (tracks_with number ts place c) ≡ length ts
length_with number [] place c = refl
length_with number (t ∷ ts) place c = omega (arith, length_with (number + 1) ts place c)

-- how many samples a track has with one more chunk
pub count_with : (t : HeldTrack) (place : ℕ) (c : Chunk) → count_of (track_with t place c) ≡ count_of t + length c.samples
count_with t place c =
    omega (arith, ap length (timed_of-append t.track.rows place c), length-append (timed_of t.track.rows) (map timed c.samples), length-map c.samples timed)

pub few_with : (number : ℕ) (ts : List HeldTrack) (place : ℕ) (c : Chunk) → JoinsFrom number ts c → AllByRecursion HasFew ts → AllByRecursion HasFew (tracks_with number ts place c)
few_with number [] place c j few = tt
few_with number (t ∷ ts) place c j few =
    let more : AllByRecursion HasFew (tracks_with (number + 1) ts place c) = few_with (number + 1) ts place c j.1 few.1 in
    elim (eqb_tells c.track number) [
      | inl p ↦
          let joined : Joins t c = j.0 p.1 in
          let count : count_of t + length c.samples < 2 ^ 32 = joined.few in
          rw p.0 (omega (arith, count, count_with t place c), more)
      | inr p ↦ rw p.0 (few.0, more)
    ]

pub total_with : (number k : ℕ) (ts : List HeldTrack) (place : ℕ) (c : Chunk) (t : HeldTrack) → c.track ≡ number + k → slice_get ts k ≡ Some t
    → total (tracks_with number ts place c) ≡ total ts + length c.samples
total_with number k [] place c t at e = cc
total_with number zero (u ∷ ts) place c t at e =
    let here : c.track ≡ number = omega (arith, at) in
    rw (same_number c.track number here, with_above (number + 1) ts place c (omega (arith, here)))
    (omega (arith, sum_by-cons count_of (track_with u place c) ts, sum_by-cons count_of u ts, count_with u place c))
total_with number (suc k) (u ∷ ts) place c t at e =
    rw (other_number c.track number (λ n. omega (arith, n, at)))
    (omega (arith, sum_by-cons count_of u (tracks_with (number + 1) ts place c), sum_by-cons count_of u ts, total_with (number + 1) k ts place c t (omega (arith, at)) e))

pub total_few : (ts : List HeldTrack) → AllByRecursion HasFew ts → total ts ≤ 2 ^ 32 * length ts
total_few [] few = omega arith
total_few (t ∷ ts) few = omega (arith, few.0, total_few ts few.1, sum_by-cons count_of t ts)

-- the first and the last sample of one more list
first_more : (xs ys : List Stored) → first_us (xs ++ ys) ≡ first_dts_with (first_us xs) ys
first_more [] [] = refl
first_more [] (y ∷ ys) = refl
first_more (x ∷ xs) ys = refl

-- what a file holds with one more chunk
pub held_grown : (number : ℕ) (setups : List TrackSetup) (chunks : List Chunk) (c : Chunk)
    → held_from number setups (chunks ++ c ∷ []) ≡ tracks_with number (held_from number setups chunks) (40 + length (stored_bytes (samples_of chunks))) c
held_grown number [] chunks c = refl
held_grown number (setup ∷ setups) chunks c =
    let more = held_grown (number + 1) setups chunks c in
    elim (eqb_tells c.track number) [
      | inl p ↦
          rw (p.0, samples_grown number chunks c p.1, rows_grown number 40 chunks c p.1, first_more (track_samples number chunks) c.samples, last_from-append None (track_samples number chunks) c.samples, more) refl
      | inr p ↦ rw (p.0, samples_kept number chunks c p.1, rows_kept number 40 chunks c p.1, more) refl
    ]

-- what the movie box says of what is held
pub rows_held : (number : ℕ) (setups : List TrackSetup) (chunks : List Chunk) → rows_in (held_from number setups chunks) ≡ tracks_from number setups chunks
rows_held number [] chunks = refl
rows_held number (setup ∷ setups) chunks = ap (λ (rs : List TrackRows). record { setup = setup; first = first_us (track_samples number chunks); rows = track_rows number 40 chunks } ∷ rs) (rows_held (number + 1) setups chunks)

pub setups_held : (number : ℕ) (setups : List TrackSetup) (chunks : List Chunk) → map (λ t. t.track.setup) (held_from number setups chunks) ≡ setups
setups_held number [] chunks = refl
setups_held number (setup ∷ setups) chunks = ap (λ (ss : List TrackSetup). setup ∷ ss) (setups_held (number + 1) setups chunks)

-- the held track of a kept one
pub held_at : (ks : List KeptTrack) (k : ℕ) (x : KeptTrack) → slice_get ks k ≡ Some x → slice_get (held_in ks) k ≡ Some x.held
held_at ks k x e = slice_get-map (λ (t : KeptTrack). t.held) ks k ∙ ap (λ (o : Option KeptTrack). option_map (λ (t : KeptTrack). t.held) o) e

set_read : (ks : List KeptTrack) (k : ℕ) (x y : KeptTrack) → slice_get ks k ≡ Some x → slice_get (set ks k y) k ≡ Some y
set_read [] k x y e = cc
set_read (t ∷ ks) zero x y e = refl
set_read (t ∷ ks) (suc k) x y e = set_read ks k x y e

pub room_set : (ks : List KeptTrack) (k : ℕ) (x y : KeptTrack) (P : KeptTrack → Type 0) → slice_get ks k ≡ Some x → P y → IfSome (slice_get (set ks k y) k) P
room_set ks k x y P e p = subst (λ (o : Option KeptTrack). IfSome o P) (sym (set_read ks k x y e)) p
