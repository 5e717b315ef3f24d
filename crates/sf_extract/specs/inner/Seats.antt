-- What is kept of the positions: with each the time at which its sample is shown.
use Rattle.std.specs.Prelude.{◌≡◌, ℕ, ◌+◌, ◌-◌, ◌≤◌, ◌<◌, get_or, List, [], ◌∷◌, map, length, Option, Some, None, option_map, option_and_then}
use Rattle.sf_meaning.specs.Shown.{shown}
use Rattle.sf_meaning.specs.declared.movie.PlainMovie.{PlainMovie}
use Rattle.sf_extract.specs.Current.{Positions, earlier}
use Rattle.sf_extract.specs.declared.seats.Seat.{Seat}
use Rattle.sf_extract.specs.declared.types.Standing.{Standing}

abbrev pub position_in : Option Seat → Option ℕ
position_in seat = option_map (λ s. s.position) seat

abbrev pub positions_in : List (Option Seat) → Positions
positions_in seats = map position_in seats

-- a seat tells when the sample at its position is shown
abbrev pub IsSeat : PlainMovie → ℕ → Option Seat → Type 0
IsSeat m t None = Unit {0}
IsSeat m t (Some s) = s.shown_us ≡ shown m t s.position

-- these are seats of the tracks from one on
abbrev pub AreSeats : PlainMovie → ℕ → List (Option Seat) → Type 0
AreSeats m t [] = Unit {0}
AreSeats m t (s ∷ ss) = IsSeat m t s × AreSeats m (t + 1) ss

-- the sample at a seat of a track
abbrev pub seated : ℕ → Option Seat → Option Standing
seated t seat = option_and_then (λ s. option_map (λ us. record { track = t; sample = s.position; shown_us = us }) s.shown_us) seat

-- of the samples at the seats of the tracks from one on, the one that is shown first
unfoldable pub first_seated : ℕ → List (Option Seat) → Option Standing
first_seated t [] = None
first_seated t (s ∷ ss) = earlier (seated t s) (first_seated (t + 1) ss)

-- The seats of the tracks of a movie, which are at most 64.
pub record AreTheSeats (m : PlainMovie) (seats : List (Option Seat)) : Type 0 where
  pub each : AreSeats m 0 seats
  pub count : length seats ≡ length m.tracks
  pub few : length seats ≤ 64

-- A sample stands at the position of a track.
pub record IsThere (m : PlainMovie) (t : ℕ) (p : Option ℕ) (s : Standing) : Type 0 where
  pub track : s.track ≡ t
  pub position : p ≡ Some s.sample
  pub shown : shown m t s.sample ≡ Some s.shown_us

-- A sample stands at the position of its track, among those of the tracks from one on.
pub record IsAmong (m : PlainMovie) (k : ℕ) (ps : Positions) (s : Standing) : Type 0 where
  pub from : k ≤ s.track
  pub within : s.track < k + length ps
  pub position : get_or ps (s.track - k) None ≡ Some s.sample
  pub shown : shown m s.track s.sample ≡ Some s.shown_us
