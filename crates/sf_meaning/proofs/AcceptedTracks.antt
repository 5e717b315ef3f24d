-- What holds of the tracks of a movie that is accepted.
use Rattle.std.proofs.Common.{◌≡◌, ℕ, suc, ◌+◌, ◌≤◌, List, [], ◌∷◌, length, drop, codes, Ok, refl, ap, subst, arith}
use Rattle.std.specs.List.{AllByRecursion}
use Rattle.std.proofs.lemmas.List.{length-drop}
use Rattle.sf_box.specs.Boxes.{Piece}
use Rattle.sf_meaning.specs.Steps.{◌>>◌, first_of, of_kind}
use Rattle.sf_meaning.specs.Tracks.{parts_in, samples_held, track_in, tracks_in}
use Rattle.sf_meaning.specs.Accepted.{IsAccepted}
use Rattle.sf_meaning.specs.declared.faults.MovieFault.{MovieFault}
use Rattle.sf_meaning.specs.declared.faults.MovieFault.TheVariants as movies
use Rattle.sf_meaning.specs.declared.movie.PlainTrack.{PlainTrack}
use Rattle.sf_meaning.specs.Movie.{none_of, not_compressed, few_tracks, in_moov, tracks_of, movie_scale, movie_in}
use Rattle.sf_meaning.specs.declared.movie.PlainMovie.{PlainMovie}
use Rattle.sf_meaning.proofs.Accepted.{bind_ok, first_ok, then_ok, ok_is}
use Rattle.sf_meaning.proofs.AcceptedHeads.{parts_read}
use Rattle.sf_meaning.proofs.AcceptedSamples.{samples_accepted}

track_accepted : (bytes movie_scale number : ℕ) (trak : Piece) (t : PlainTrack) → track_in bytes movie_scale number trak ≡ Ok t → IsAccepted bytes movie_scale t
unfolding track_in
track_accepted bytes movie_scale number trak t e =
    let a = bind_ok (parts_in movie_scale trak) _ t e in
    let b = bind_ok (samples_held bytes number a.0.heads.scale (length a.0.entries) a.0.tables) _ t a.2 in
    let k = parts_read movie_scale trak a.0 a.1 in
    let held = samples_accepted bytes number a.0.heads.scale (length a.0.entries) a.0.tables b.0 b.1 in
    subst (λ (x : PlainTrack). IsAccepted bytes movie_scale x) (ok_is _ t _ refl b.2)
    (record {
      scale = k.heads.scale;
      lead = k.heads.shift.lead;
      media_time = k.heads.shift.media_time;
      count = omega (arith, held.0, k.few);
      samples = held.1;
    })

-- as many tracks as there are boxes of tracks, each of them accepted
tracks_accepted : (bytes movie_scale number : ℕ) (traks : List Piece) (ts : List PlainTrack) → tracks_in bytes movie_scale number traks ≡ Ok ts
    → (length ts ≡ length traks) × AllByRecursion (IsAccepted bytes movie_scale) ts
unfolding tracks_in
tracks_accepted bytes movie_scale number [] ts e =
    subst (λ (xs : List PlainTrack). (length xs ≡ 0) × AllByRecursion (IsAccepted bytes movie_scale) xs) (ok_is [] ts _ refl e) (refl, tt)
tracks_accepted bytes movie_scale number (trak ∷ traks) ts e =
    let a = bind_ok (track_in bytes movie_scale number trak) _ ts e in
    let b = bind_ok (tracks_in bytes movie_scale (number + 1) traks) _ ts a.2 in
    let rest = tracks_accepted bytes movie_scale (number + 1) traks b.0 b.1 in
    subst (λ (xs : List PlainTrack). (length xs ≡ length (trak ∷ traks)) × AllByRecursion (IsAccepted bytes movie_scale) xs) (ok_is (a.0 ∷ b.0) ts _ refl b.2)
    (ap suc rest.0, (track_accepted bytes movie_scale number trak a.0 a.1, rest.1))

none_left : (ps : List Piece) (f : Piece → MovieFault) (u : Unit {0}) → none_of (first_of ps) f ≡ Ok u → length ps ≡ 0
none_left [] f u e = refl
none_left (p ∷ ps) f u e = absurd (cc e)

boxes_few : (ps traks : List Piece) → tracks_of ps ≡ Ok traks → length traks ≤ 64
unfolding tracks_of
boxes_few ps traks e =
    let all : List Piece = of_kind (codes "trak") ps in
    let a = then_ok (not_compressed ps) (few_tracks all >> Ok all) traks e in
    let b = first_ok (few_tracks all) (Ok all) traks a in
    let same = then_ok (few_tracks all) (Ok all) traks a in
    let none : length (drop 64 all) ≡ 0 = none_left (drop 64 all) (λ (p : Piece). movies.TooManyTracks p.head.at) b.0 b.1 in
    let few : length all ≤ 64 = omega (arith, none, length-drop 64 all) in
    subst (λ (xs : List Piece). length xs ≤ 64) (ok_is all traks _ refl same) few

both_accepted : (body : List ℕ) (at bytes : ℕ) (m : PlainMovie) → movie_in body at bytes ≡ Ok m
    → (length m.tracks ≤ 64) × AllByRecursion (IsAccepted bytes m.scale) m.tracks
unfolding movie_in
both_accepted body at bytes m e =
    let a = bind_ok (in_moov body at) _ m e in
    let b = bind_ok (tracks_of a.0) _ m a.2 in
    let c = bind_ok (movie_scale at a.0) _ m b.2 in
    let d = bind_ok (tracks_in bytes c.0 0 b.0) _ m c.2 in
    let all = tracks_accepted bytes c.0 0 b.0 d.0 d.1 in
    let few : length d.0 ≤ 64 = omega (arith, all.0, boxes_few a.0 b.0 b.1) in
    subst (λ (x : PlainMovie). (length x.tracks ≤ 64) × AllByRecursion (IsAccepted bytes x.scale) x.tracks) (ok_is _ m _ refl d.2) (few, all.1)

-- there are not too many tracks
pub tracks_of_movie : (body : List ℕ) (at bytes : ℕ) (m : PlainMovie) → movie_in body at bytes ≡ Ok m → length m.tracks ≤ 64
tracks_of_movie body at bytes m e = (both_accepted body at bytes m e).0

-- each of them is accepted
pub movie_accepted : (body : List ℕ) (at bytes : ℕ) (m : PlainMovie) → movie_in body at bytes ≡ Ok m → AllByRecursion (IsAccepted bytes m.scale) m.tracks
movie_accepted body at bytes m e = (both_accepted body at bytes m e).1
