-- Seats of tracks, one after the other.
use Rattle.std.proofs.Common.{◌≡◌, ℕ, zero, suc, ◌+◌, ◌≤◌, ◌<◌, List, [], ◌∷◌, length, drop, set, get_or, replicate, Option, Some, None, option_map, option_and_then, refl, sym, ap, subst, ◌∙◌, arith, unwrap_or, ◌⊎◌, inl, inr, ℤ, int_le, Bool, true, false, if◌then◌else◌, IfSome, ◌-◌}
use Rattle.std.specs.List.{slice_get}
use Rattle.std.proofs.lemmas.List.{drop_more, drop_all, map-set, length-map, length-set}
use Rattle.std.proofs.lemmas.Option.{slice_get_past, slice_get_within}
use Rattle.sf_meaning.specs.Shown.{shown, shown_us}
use Rattle.sf_meaning.specs.declared.movie.PlainTrack.{PlainTrack}
use Rattle.sf_meaning.specs.declared.movie.PlainSample.{PlainSample}
use Rattle.sf_movie.specs.Loaded.{Loaded, count_of, sample_count}
use Rattle.sf_meaning.specs.declared.movie.PlainMovie.{PlainMovie}
use Rattle.sf_extract.specs.Current.{Extracting, Positions, advanced, current, past, selected, earlier, first_shown, moved_to, standing, position_of}
use Rattle.sf_extract.specs.inner.Seats.{IsAmong, IsThere, AreSeats, AreTheSeats, IsSeat, first_seated, position_in, positions_in, seated}
use Rattle.sf_extract.specs.declared.seats.Seat.{Seat}
use Rattle.sf_extract.specs.declared.types.Standing.{Standing}

-- the first seat from one on
pub first_step : (ss : List (Option Seat)) (t : ℕ) (d : Option Seat) → t < length ss
    → first_seated t (drop t ss) ≡ earlier (seated t (get_or ss t d)) (first_seated (t + 1) (drop (t + 1) ss))
unfolding first_seated
first_step ss t d lt = ap (first_seated t) (drop_more ss t d lt)

pub first_none : (ss : List (Option Seat)) (t : ℕ) → length ss ≤ t → first_seated t (drop t ss) ≡ None
unfolding first_seated
first_none ss t le = ap (first_seated t) (drop_all t ss le)

seat_shows : (m : PlainMovie) (t : ℕ) (s : Option Seat) → IsSeat m t s → seated t s ≡ standing m t (position_in s)
unfolding standing
seat_shows m t None h = refl
seat_shows m t (Some s) h = ap (option_map (λ us. record { track = t; sample = s.position; shown_us = us })) h

-- seats show what the positions say
pub seats_show : (m : PlainMovie) (t : ℕ) (ss : List (Option Seat)) → AreSeats m t ss → first_seated t ss ≡ first_shown m t (positions_in ss)
unfolding first_seated first_shown
seats_show m t [] h = refl
seats_show m t (s ∷ ss) h = ap (λ x. earlier x (first_seated (t + 1) ss)) (seat_shows m t s h.0) ∙ ap (earlier (standing m t (position_in s))) (seats_show m (t + 1) ss h.1)

seats_set : (m : PlainMovie) (k : ℕ) (ss : List (Option Seat)) (t : ℕ) (x : Option Seat) → AreSeats m k ss → IsSeat m (k + t) x → AreSeats m k (set ss t x)
seats_set m k [] t x h i = tt
seats_set m k (s ∷ ss) zero x h i = (subst (λ n. IsSeat m n x) (omega arith) i, h.1)
seats_set m k (s ∷ ss) (suc t) x h i = (h.0, seats_set m (k + 1) ss t x h.1 (subst (λ n. IsSeat m n x) (omega arith) i))

-- one seat is another one
pub set_seat : (m : PlainMovie) (ss : List (Option Seat)) (t : ℕ) (x : Option Seat) → AreTheSeats m ss → IsSeat m t x → AreTheSeats m (set ss t x)
set_seat m ss t x h i = record {
  each = seats_set m 0 ss t x h.each (subst (λ n. IsSeat m n x) (omega arith) i);
  count = length-set ss t x ∙ h.count;
  few = rw (length-set ss t x) h.few;
}

seat_at : (m : PlainMovie) (k : ℕ) (ss : List (Option Seat)) (t : ℕ) → AreSeats m k ss → IsSeat m (k + t) (get_or ss t None)
seat_at m k [] t h = tt
seat_at m k (s ∷ ss) zero h = subst (λ n. IsSeat m n s) (omega arith) h.0
seat_at m k (s ∷ ss) (suc t) h = subst (λ n. IsSeat m n (get_or ss t None)) (omega arith) (seat_at m (k + 1) ss t h.1)

-- a position by its track
pub position_there : (ss : List (Option Seat)) (t : ℕ) → position_of (positions_in ss) t ≡ position_in (get_or ss t None)
position_there [] t = refl
position_there (s ∷ ss) zero = refl
position_there (s ∷ ss) (suc t) = position_there ss t

-- nobody is seated
pub none_seated : (m : PlainMovie) (k n : ℕ) → AreSeats m k (replicate n None)
none_seated m k zero = tt
none_seated m k (suc n) = (tt, none_seated m (k + 1) n)

pub none_in : (n : ℕ) → positions_in (replicate n None) ≡ replicate n None
none_in zero = refl
none_in (suc n) = ap (λ (ps : List (Option ℕ)). None ∷ ps) (none_in n)

past_end : (m : PlainMovie) (found : Option PlainTrack) (i : ℕ) → count_of found ≤ i → option_and_then (λ track. option_map (shown_us m track) (slice_get track.samples i)) found ≡ None
past_end m None i le = refl
past_end m (Some track) i le = ap (option_map (shown_us m track)) (slice_get_past track.samples i le)

-- nothing is shown at the end of a track
pub none_shown : (m : PlainMovie) (t i : ℕ) → sample_count m t ≤ i → shown m t i ≡ None
unfolding shown
none_shown m t i le = past_end m (slice_get m.tracks t) i le

-- an extractor whose seat of a track is another one
pub seat_moved : (l : Loaded) (ss : List (Option Seat)) (t : ℕ) (x : Option Seat) (e : Extracting) → e ≡ record { loaded = l; positions = positions_in ss }
    → record { loaded = l; positions = positions_in (set ss t x) } ≡ moved_to e (set e.positions t (position_in x))
seat_moved l ss t x e is = subst (λ (y : Extracting). record { loaded = l; positions = positions_in (set ss t x) } ≡ moved_to y (set y.positions t (position_in x))) (sym is)
    (ap (λ (ps : Positions). record { loaded = l; positions = ps }) (map-set position_in ss t x))

if_either : (b : Bool) (x y s : Standing) → (if b then Some x else Some y) ≡ Some s → (Some x ≡ Some s) ⊎ (Some y ≡ Some s)
if_either true x y s e = inl e
if_either false x y s e = inr e

either_one : (x y : Option Standing) (s : Standing) → earlier x y ≡ Some s → (x ≡ Some s) ⊎ (y ≡ Some s)
either_one None y s e = inr e
either_one (Some x) None s e = inl e
either_one (Some x) (Some y) s e = if_either (int_le x.shown_us y.shown_us) x y s e

there_by : (m : PlainMovie) (t i : ℕ) (p : Option ℕ) (us : Option ℤ) (s : Standing) → p ≡ Some i → shown m t i ≡ us
    → option_map (λ z. record { track = t; sample = i; shown_us = z }) us ≡ Some s → IsThere m t p s
there_by m t i p None s is e f = absurd (grind (arith, f))
there_by m t i p (Some z) s is e f =
    let same : record { track = t; sample = i; shown_us = z } ≡ s = ap (λ (o : Option Standing). unwrap_or o s) f in
    subst (λ (x : Standing). IsThere m t p x) same (record { track = refl; position = is; shown = e })

standing_there : (m : PlainMovie) (t : ℕ) (p : Option ℕ) (s : Standing) → standing m t p ≡ Some s → IsThere m t p s
unfolding standing
standing_there m t None s e = absurd (grind (arith, e))
standing_there m t (Some i) s e = there_by m t i (Some i) (shown m t i) s refl refl e

counted : (m : PlainMovie) (track : PlainTrack) (i : ℕ) (o : Option PlainSample) (z : ℤ) → slice_get track.samples i ≡ o → option_map (shown_us m track) o ≡ Some z → i < length track.samples
counted m track i None z at e = absurd (grind (arith, e))
counted m track i (Some x) z at e = slice_get_within track.samples i x at

shown_counted : (m : PlainMovie) (found : Option PlainTrack) (i : ℕ) (z : ℤ) → option_and_then (λ track. option_map (shown_us m track) (slice_get track.samples i)) found ≡ Some z → i < count_of found
shown_counted m None i z e = absurd (grind (arith, e))
shown_counted m (Some track) i z e = counted m track i (slice_get track.samples i) z refl e

-- a sample that is shown is among those of its track
pub is_counted : (m : PlainMovie) (t i : ℕ) (z : ℤ) → shown m t i ≡ Some z → i < sample_count m t
unfolding shown
is_counted m t i z e = shown_counted m (slice_get m.tracks t) i z e

-- the current sample of tracks from one on stands at its track's position
pub first_there : (m : PlainMovie) (k : ℕ) (ps : Positions) (s : Standing) → first_shown m k ps ≡ Some s → IsAmong m k ps s
unfolding first_shown
first_there m k [] s e = absurd (grind (arith, e))
first_there m k (p ∷ ps) s e = elim (either_one (standing m k p) (first_shown m (k + 1) ps) s e) as (λ x. IsAmong m k (p ∷ ps) s) [
  | inl here ↦ (let h = standing_there m k p s here in record {
    from = omega (arith, h.track);
    within = omega (arith, h.track);
    position = (let zero_is : s.track - k ≡ 0 = omega (arith, h.track) in rw zero_is h.position);
    shown = subst (λ n. shown m n s.sample ≡ Some s.shown_us) (sym h.track) h.shown;
  })
  | inr later ↦ (let h = first_there m (k + 1) ps s later in record {
    from = omega (arith, h.from);
    within = omega (arith, h.within);
    position = (let more : s.track - k ≡ suc (s.track - (k + 1)) = omega (arith, h.from) in rw more h.position);
    shown = h.shown;
  })
]

-- the same of all tracks
pub current_among : (e : Extracting) (s : Standing) → current e ≡ Some s → IsAmong e.loaded.movie 0 e.positions s
current_among e s is = first_there e.loaded.movie 0 e.positions s is

counted_there : (l : Loaded) (ss : List (Option Seat)) → AreTheSeats l.movie ss → (r : Option Standing) → r ≡ first_shown l.movie 0 (positions_in ss)
    → IfSome r (λ s. s.track < length l.movie.tracks) × IfSome r (λ s. s.sample < sample_count l.movie s.track)
counted_there l ss h None e = (tt, tt)
counted_there l ss h (Some s) e =
    let a = first_there l.movie 0 (positions_in ss) s (sym e) in
    let n : length (positions_in ss) ≡ length l.movie.tracks = length-map ss position_in ∙ h.count in
    (omega (arith, a.within, n), is_counted l.movie s.track s.sample s.shown_us a.shown)

-- the current sample is one of the movie's
pub current_counted : (l : Loaded) (ss : List (Option Seat)) (e : Extracting) (r : Option Standing) → AreTheSeats l.movie ss → record { loaded = l; positions = positions_in ss } ≡ e
    → r ≡ first_seated 0 ss → IfSome r (λ s. s.track < length e.loaded.movie.tracks) × IfSome r (λ s. s.sample < sample_count e.loaded.movie s.track)
current_counted l ss e r h is found = subst (λ (x : Extracting). IfSome r (λ s. s.track < length x.loaded.movie.tracks) × IfSome r (λ s. s.sample < sample_count x.loaded.movie s.track)) is
    (counted_there l ss h r (found ∙ seats_show l.movie 0 ss h.each))

-- an extractor whose current sample was passed
pub advanced_to : (l : Loaded) (ss : List (Option Seat)) (x : Option Seat) (e : Extracting) (s : Standing) → record { loaded = l; positions = positions_in ss } ≡ e → Some s ≡ current e
    → position_in x ≡ Some (s.sample + 1) → record { loaded = l; positions = positions_in (set ss s.track x) } ≡ advanced e
advanced_to l ss x e s is now at =
    seat_moved l ss s.track x e (sym is) ∙ ap (λ (p : Option ℕ). moved_to e (set e.positions s.track p)) at ∙ ap (past e) now

-- an extractor of which a track was selected
pub selected_to : (l : Loaded) (ss : List (Option Seat)) (t : ℕ) (x : Option Seat) (e : Extracting) → record { loaded = l; positions = positions_in ss } ≡ e
    → position_in x ≡ Some (unwrap_or (position_in (get_or ss t None)) 0) → record { loaded = l; positions = positions_in (set ss t x) } ≡ selected e t
selected_to l ss t x e is at =
    seat_moved l ss t x e (sym is)
    ∙ ap (λ (p : Option ℕ). moved_to e (set e.positions t p))
    (at ∙ ap (λ (p : Option ℕ). Some (unwrap_or p 0)) (sym (position_there ss t) ∙ ap (λ (y : Extracting). position_of y.positions t) is))

-- the seat of a track
pub is_seat : (m : PlainMovie) (ss : List (Option Seat)) (t : ℕ) → AreTheSeats m ss → IsSeat m t (get_or ss t None)
is_seat m ss t h = subst (λ n. IsSeat m n (get_or ss t None)) (omega arith) (seat_at m 0 ss t h.each)

any_default : (ss : List (Option Seat)) (t : ℕ) (a b : Option Seat) → t < length ss → get_or ss t a ≡ get_or ss t b
any_default [] t a b lt = absurd (omega (arith, lt))
any_default (s ∷ ss) zero a b lt = refl
any_default (s ∷ ss) (suc t) a b lt = any_default ss t a b (omega (arith, lt))

-- the seat that was looked up
pub looked_up : (ss : List (Option Seat)) (t : ℕ) (x : Option Seat) → t < length ss → x ≡ get_or ss t x → x ≡ get_or ss t None
looked_up ss t x lt e = e ∙ any_default ss t x None lt
