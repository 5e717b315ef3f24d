-- The samples of a movie that was loaded lie in its file.
use Rattle.std.proofs.Common.{◌≡◌, ℕ, zero, suc, ◌+◌, ◌≤◌, List, [], ◌∷◌, Option, Some, None, Ok, option_and_then, refl, ap, subst, unwrap_or, arith}
use Rattle.std.specs.List.{AllByRecursion, slice_get}
use Rattle.sf_meaning.specs.Accepted.{IsAccepted, IsHeld}
use Rattle.sf_meaning.specs.Movie.{movie_in}
use Rattle.sf_meaning.specs.declared.movie.PlainMovie.{PlainMovie}
use Rattle.sf_meaning.specs.declared.movie.PlainSample.{PlainSample}
use Rattle.sf_meaning.specs.declared.movie.PlainTrack.{PlainTrack}
use Rattle.sf_movie.specs.Loaded.{Loaded}
use Rattle.sf_movie.specs.Loads.{IsWithin}
use Rattle.sf_extract.specs.Current.{unmoved}
use Rattle.sf_extract.specs.Readout.{read_out, readout}
use Rattle.sf_extract.specs.declared.plan.Command.{Command}
use Rattle.sf_reader.specs.Extracted.{IsLoaded}
use Rattle.sf_reader.specs.inner.Reading.{EndsWithin}

all_at : {A : Type 0} (P : A → Type 0) (xs : List A) (i : ℕ) (x : A) → AllByRecursion P xs → slice_get xs i ≡ Some x → P x
all_at P [] i x h e = absurd (grind (arith, e))
all_at P (y ∷ ys) zero x h e = subst P (ap (λ (o : Option _). unwrap_or o y) e) h.0
all_at P (y ∷ ys) (suc i) x h e = all_at P ys i x h.1 e

held_at : (bytes scale : ℕ) (o : Option PlainTrack) (i : ℕ) (s : PlainSample) → ((track : PlainTrack) → o ≡ Some track → IsAccepted bytes scale track)
    → option_and_then (λ track. slice_get track.samples i) o ≡ Some s → s.place + s.size ≤ bytes
held_at bytes scale None i s h e = absurd (grind (arith, e))
held_at bytes scale (Some track) i s h e = (all_at (IsHeld bytes track.scale) track.samples i s (h track refl).samples e).place

-- by the law of movies that are accepted
pub ends_within : ((body : List ℕ) (at bytes : ℕ) (m : PlainMovie) → movie_in body at bytes ≡ Ok m → AllByRecursion (IsAccepted bytes m.scale) m.tracks)
    → (bytes : ℕ) (m : Loaded) → IsWithin bytes m → EndsWithin bytes m
ends_within law bytes m w = λ t i s e.
    held_at bytes m.movie.scale (slice_get m.movie.tracks t) i s (λ track f. all_at (IsAccepted bytes m.movie.scale) m.movie.tracks t track (law w.body w.at bytes m.movie w.movie) f) e

-- what is read out of a file that is this movie
pub readout_is : (file : List ℕ) (m : Loaded) (plan : List Command) → IsLoaded file m → readout file plan ≡ Ok (read_out file plan (unmoved m))
unfolding readout
readout_is file m plan l = rw (l.movie, l.entries) refl
