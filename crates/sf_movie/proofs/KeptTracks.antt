-- What is kept of a track, by its number.
use Rattle.std.proofs.Common.{◌≡◌, ℕ, zero, suc, ◌+◌, ◌*◌, ◌^◌, ◌≤◌, ℤ, pos, negsuc, neg_ℤ, ◌+ℤ◌, ◌-ℤ◌, ◌≤ℤ◌, ◌<ℤ◌, List, [], ◌∷◌, Option, Some, option_map, option_and_then, sym, ap, subst, arith, ◌∙◌}
use Rattle.std.specs.Prelude.{unsigned_abs}
use Rattle.std.specs.List.{AllByRecursion, slice_get}
use Rattle.std.proofs.lemmas.Int.{ints}
use Rattle.sf_cursor.specs.Cursor.{IsComposed}
use Rattle.sf_meaning.specs.Accepted.{IsAccepted, IsHeld}
use Rattle.std.proofs.lemmas.Option.{slice_get-map}
use Rattle.sf_meaning.specs.Shown.{shown, shown_us}
use Rattle.sf_meaning.specs.TrackSamples.{listed}
use Rattle.sf_meaning.specs.declared.movie.PlainSample.{PlainSample}
use Rattle.sf_meaning.specs.declared.movie.PlainTrack.{PlainTrack}
use Rattle.sf_movie.specs.inner.Kept.{IsKept, Track, MovieParts, loaded_of, plain_of}
use Rattle.sf_tick.specs.Tick.{us}

-- a track of the movie is the one that is kept
track_there : (p : MovieParts) (xs : List Track) (t : ℕ) (k : Track) → xs ≡ p.tracks → slice_get xs t ≡ Some k → slice_get (loaded_of p).movie.tracks t ≡ Some (plain_of k)
track_there p xs t k same e = slice_get-map plain_of p.tracks t ∙ ap (λ (ys : List Track). option_map plain_of (slice_get ys t)) (sym same) ∙ ap (option_map plain_of) e

-- when a sample is shown
pub shown_there : (p : MovieParts) (xs : List Track) (t i : ℕ) (k : Track) (s : PlainSample) (z : ℤ) → xs ≡ p.tracks → slice_get xs t ≡ Some k → slice_get (listed k.samples) i ≡ Some s
    → z ≡ (us s.compose k.scale +ℤ us (pos k.shift.lead) p.scale) -ℤ us (pos k.shift.media_time) k.scale → shown (loaded_of p).movie t i ≡ Some z
unfolding shown
shown_there p xs t i k s z same e f is =
    ap (λ (x : Option PlainTrack). option_and_then (λ track. option_map (shown_us (loaded_of p).movie track) (slice_get track.samples i)) x) (track_there p xs t k same e)
    ∙ ap (option_map (shown_us (loaded_of p).movie (plain_of k))) f ∙ ap (λ (x : ℤ). Some x) (sym is)

one_of : {A : Type 0} (P : A → Type 0) (xs : List A) (i : ℕ) (x : A) → AllByRecursion P xs → slice_get xs i ≡ Some x → P x
one_of P [] i x h e = absurd (cc e)
one_of P (y ∷ ys) zero x h e = subst P (cc e) h.0
one_of P (y ∷ ys) (suc i) x h e = one_of P ys i x h.1 e

tick_fits : (z : ℤ) (d s : ℕ) → 1 ≤ s → d ≤ 2 ^ 40 * s → neg_ℤ (pos (2 ^ 31)) ≤ℤ z → z <ℤ pos (d + 2 ^ 32) → unsigned_abs z ≤ 2 ^ 41 * s
tick_fits (pos n) d s some le low high = omega (arith, ints, high, le, some)
tick_fits (negsuc n) d s some le low high = omega (arith, ints, low, some)

-- a sample is composed within 2 ^ 41 seconds
pub composed_fits : (p : MovieParts) (xs : List Track) (t i : ℕ) (k : Track) (z : ℤ) → IsKept p → xs ≡ p.tracks → slice_get xs t ≡ Some k → IsComposed k.samples i z → unsigned_abs z ≤ 2 ^ 41 * k.scale
composed_fits p xs t i k z kept same e c =
    let a : IsAccepted kept.bytes p.scale (plain_of k) = one_of (λ (x : Track). IsAccepted kept.bytes p.scale (plain_of x)) p.tracks t k kept.each (subst (λ (ys : List Track). slice_get ys t ≡ Some k) same e) in
    let h : IsHeld kept.bytes k.scale c.s = one_of (IsHeld kept.bytes k.scale) (listed k.samples) i c.s a.samples c.at in
    tick_fits z c.s.decode k.scale a.scale h.decode c.least c.most
