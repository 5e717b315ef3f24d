-- Seats of tracks that a seek moves.
use Rattle.std.proofs.Common.{◌≡◌, ℕ, ◌+◌, ◌≤◌, ◌<◌, ℤ, List, [], ◌∷◌, ◌++◌, length, take, drop, set, get_or, Option, None, option_map, sym, ap, ◌∙◌, arith}
use Rattle.std.proofs.lemmas.List.{drop_more, drop_all, take_more_set, take_all, drop-set-lt, map-append, append_assoc, append-nil}
use Rattle.sf_meaning.specs.declared.movie.PlainMovie.{PlainMovie}
use Rattle.sf_extract.specs.SyncAt.{all_sought, sync_at}
use Rattle.sf_extract.specs.inner.Seats.{position_in, positions_in}
use Rattle.sf_extract.specs.declared.seats.Seat.{Seat}
use Rattle.sf_extract.specs.declared.types.Mode.{Mode}

-- one seat more has moved
pub sought_step : (m : PlainMovie) (us : ℤ) (mode : Mode) (t : ℕ) (ss : List (Option Seat)) (x y : Option Seat) → t < length ss → x ≡ get_or ss t None
    → position_in y ≡ option_map (λ i. sync_at m t us mode) (position_in x)
    → positions_in (take t ss) ++ all_sought m us mode t (positions_in (drop t ss)) ≡ positions_in (take (t + 1) (set ss t y)) ++ all_sought m us mode (t + 1) (positions_in (drop (t + 1) (set ss t y)))
unfolding all_sought
sought_step m us mode t ss x y lt there is =
    ap (λ (l : List (Option Seat)). positions_in (take t ss) ++ all_sought m us mode t (positions_in l)) (drop_more ss t None lt)
    ∙ ap (λ (p : Option ℕ). positions_in (take t ss) ++ (p ∷ all_sought m us mode (t + 1) (positions_in (drop (t + 1) ss)))) (ap (λ (z : Option Seat). option_map (λ i. sync_at m t us mode) (position_in z)) (sym there) ∙ sym is)
    ∙ sym (append_assoc (positions_in (take t ss)) (position_in y ∷ []) (all_sought m us mode (t + 1) (positions_in (drop (t + 1) ss))))
    ∙ ap (λ (l : List (Option ℕ)). l ++ all_sought m us mode (t + 1) (positions_in (drop (t + 1) ss))) (sym (ap positions_in (take_more_set ss t y lt) ∙ map-append position_in (take t ss) (y ∷ [])))
    ∙ ap (λ (l : List (Option Seat)). positions_in (take (t + 1) (set ss t y)) ++ all_sought m us mode (t + 1) (positions_in l)) (sym (drop-set-lt (t + 1) ss t y (omega arith)))

-- all seats have moved
pub sought_end : (m : PlainMovie) (us : ℤ) (mode : Mode) (t : ℕ) (ss : List (Option Seat)) → length ss ≤ t
    → positions_in (take t ss) ++ all_sought m us mode t (positions_in (drop t ss)) ≡ positions_in ss
unfolding all_sought
sought_end m us mode t ss le =
    ap (λ (l : List (Option Seat)). positions_in l ++ all_sought m us mode t (positions_in (drop t ss))) (take_all t ss le)
    ∙ ap (λ (l : List (Option Seat)). positions_in ss ++ all_sought m us mode t (positions_in l)) (drop_all t ss le)
    ∙ append-nil (positions_in ss)
