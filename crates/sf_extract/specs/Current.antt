-- Where an extractor stands in a movie, and its current sample.
use Rattle.std.specs.Prelude.{ℕ, ◌+◌, int_le, List, [], ◌∷◌, get_or, set, length, replicate, Option, Some, None, option_map, option_and_then, unwrap_or, if◌then◌else◌}
use Rattle.sf_meaning.specs.Shown.{shown}
use Rattle.sf_meaning.specs.declared.movie.PlainMovie.{PlainMovie}
use Rattle.sf_meaning.specs.declared.movie.PlainSample.{PlainSample}
use Rattle.sf_movie.specs.Loaded.{Loaded, sample_of}
use Rattle.sf_extract.specs.declared.types.Place.{Place}
use Rattle.sf_extract.specs.declared.types.Standing.{Standing}

-- Of each track of a movie the position, where it's selected: the number of the sample at which it stands, or its count at its end.
abbrev pub Positions : Type 0
Positions = List (Option ℕ)

-- An extractor: its movie and its positions.
pub record Extracting : Type 0 where
  pub loaded : Loaded
  pub positions : Positions

-- where a track stands; nothing where it isn't selected
abbrev pub position_of : Positions → ℕ → Option ℕ
position_of ps t = get_or ps t None

-- the sample at a position of a track; none where it isn't selected or stands at its end
unfoldable pub standing : PlainMovie → ℕ → Option ℕ → Option Standing
standing m t position = option_and_then (λ i. option_map (λ us. record { track = t; sample = i; shown_us = us }) (shown m t i)) position

-- the sample that is shown earlier, the first one where both are shown at once
abbrev pub earlier : Option Standing → Option Standing → Option Standing
earlier None other = other
earlier (Some s) None = Some s
earlier (Some s) (Some other) = if int_le s.shown_us other.shown_us then Some s else Some other

-- of the samples at the positions of the tracks from one on, the one that is shown first
unfoldable pub first_shown : PlainMovie → ℕ → Positions → Option Standing
first_shown m t [] = None
first_shown m t (p ∷ ps) = earlier (standing m t p) (first_shown m (t + 1) ps)

-- The current sample: of those at the positions of the selected tracks that aren't at their end the one that is shown first, of the
-- lowest track where several are shown at once.
abbrev pub current : Extracting → Option Standing
current e = first_shown e.loaded.movie 0 e.positions

-- what the movie says of the current sample
abbrev pub current_sample : Extracting → Option PlainSample
current_sample e = option_and_then (λ s. sample_of e.loaded.movie s.track s.sample) (current e)

-- how many bytes are stored of the current sample
abbrev pub stored_len : Extracting → Option ℕ
stored_len e = option_map (λ s. s.size) (current_sample e)

-- the flags of a sample: 1 for sync, else 0
abbrev pub flags_of : PlainSample → ℕ
flags_of s = if s.sync then 1 else 0

-- where its bytes lie in the file
abbrev pub place_of : PlainSample → Place
place_of s = record { at = s.place; len = s.size }

-- an extractor with other positions
abbrev pub moved_to : Extracting → Positions → Extracting
moved_to e ps = record { loaded = e.loaded; positions = ps }

-- nothing is selected
abbrev pub unmoved : Loaded → Extracting
unmoved loaded = record { loaded = loaded; positions = replicate (length loaded.movie.tracks) None }

-- a track is selected, from its first sample on; one that is selected stays where it is
abbrev pub selected : Extracting → ℕ → Extracting
selected e t = moved_to e (set e.positions t (Some (unwrap_or (position_of e.positions t) 0)))

-- a track isn't selected any more
abbrev pub unselected : Extracting → ℕ → Extracting
unselected e t = moved_to e (set e.positions t None)

-- the track of the current sample stands at its next sample, or at its end
abbrev pub past : Extracting → Option Standing → Extracting
past e None = e
past e (Some s) = moved_to e (set e.positions s.track (Some (s.sample + 1)))

abbrev pub advanced : Extracting → Extracting
advanced e = past e (current e)
