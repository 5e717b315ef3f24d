-- A movie whose tracks are read through cursors is the movie that its movie box says.
use Rattle.std.proofs.Common.{◌≡◌, ◌⊎◌, ℕ, ◌+◌, ◌^◌, ◌<◌, List, [], ◌∷◌, ◌++◌, length, map, codes, Ok, Err, refl, ap, subst, ◌∙◌, inl, inr, arith}
use Rattle.std.specs.List.{AllByRecursion}
use Rattle.std.proofs.lemmas.List.{append-nil, length-map}
use Rattle.sf_box.specs.Boxes.{Piece}
use Rattle.sf_box.specs.Parts.{child_piece}
use Rattle.sf_entry.specs.Stsd.{HasWidth}
use Rattle.sf_entry.specs.declared.types.EntryAt.{EntryAt}
use Rattle.sf_meaning.specs.Accepted.{IsAccepted}
use Rattle.sf_meaning.specs.Entries.{moov_entries, trak_entries}
use Rattle.sf_meaning.specs.Headers.{start_in}
use Rattle.sf_meaning.specs.Movie.{in_moov, movie_in, movie_scale, tracks_of}
use Rattle.sf_meaning.specs.Steps.{◌>>=◌}
use Rattle.sf_meaning.specs.Tracks.{Step, TrackParts, tracks_in}
use Rattle.sf_meaning.specs.declared.faults.MovieFault.{MovieFault}
use Rattle.sf_meaning.specs.declared.faults.MovieFault.TheVariants as movies
use Rattle.sf_meaning.specs.declared.movie.PlainMovie.{PlainMovie}
use Rattle.sf_meaning.specs.declared.movie.PlainTrack.{PlainTrack}
use Rattle.sf_meaning.proofs.MeaningLaws.{movie_accepted, scale_of_movie, tracks_of_movie}
use Rattle.sf_meaning.proofs.TrackWalk.{first_step, next_step, wrong_step}
use Rattle.sf_movie.specs.inner.Kept.{Track, MovieParts, IsKept, IsWhole, loaded_of, parts_read, plain_of, track_read, tracks_read}
use Rattle.sf_movie.proofs.TrackRead.{WidthLaw, bind_ok, entries_kept, track_is, whole_kept, wide_kept}
use Rattle.sf_meaning.specs.TrackSamples.{Tables, samples_in}
use Rattle.sf_meaning.specs.declared.movie.PlainSample.{PlainSample}

-- ---- tracks one after the other, as the code walks along them

-- the tracks so far, and the others, which count from a number
abbrev pub tracks_from : ℕ → ℕ → ℕ → List Track → List Piece → Step (List Track)
tracks_from bytes scale number front traks = tracks_read bytes scale number traks >>= (λ ts. Ok (front ++ ts))

-- one more track
pub tracks_step : (bytes scale number : ℕ) (front : List Track) (trak : Piece) (traks : List Piece) (t : Track) (all : Step (List Track))
    → tracks_from bytes scale number front (trak ∷ traks) ≡ all → track_read bytes scale number trak ≡ Ok t → tracks_from bytes scale (number + 1) (front ++ t ∷ []) traks ≡ all
unfolding tracks_read
tracks_step bytes scale number front trak traks t all h e = next_step front (track_read bytes scale number trak) (tracks_read bytes scale (number + 1) traks) t all h e

-- a track that isn't read
pub tracks_wrong : (bytes scale number : ℕ) (front : List Track) (trak : Piece) (traks : List Piece) (all : Step (List Track)) (e : MovieFault)
    → tracks_from bytes scale number front (trak ∷ traks) ≡ all → (e ≡ movies.NoMemory) ⊎ (track_read bytes scale number trak ≡ Err e) → (e ≡ movies.NoMemory) ⊎ (all ≡ Err e)
unfolding tracks_read
tracks_wrong bytes scale number front trak traks all e h wrong = wrong_step front (track_read bytes scale number trak) (tracks_read bytes scale (number + 1) traks) all e h wrong

pub tracks_none : (bytes scale number : ℕ) (front : List Track) → tracks_from bytes scale number front [] ≡ Ok front
unfolding tracks_read
tracks_none bytes scale number front = ap (λ (ts : List Track). Ok ts) (append-nil front)

pub tracks_begin : (bytes scale number : ℕ) (traks : List Piece) → tracks_from bytes scale number [] traks ≡ tracks_read bytes scale number traks
tracks_begin bytes scale number traks = first_step (tracks_read bytes scale number traks)

-- ---- they are the tracks of the movie

both : (r : Step Track) (q : Step (List Track))
    → ((r >>= (λ k. Ok (plain_of k))) >>= (λ t. (q >>= (λ ks. Ok (map plain_of ks))) >>= (λ ts. Ok (t ∷ ts))))
    ≡ ((r >>= (λ k. q >>= (λ ks. Ok (k ∷ ks)))) >>= (λ ks. Ok (map plain_of ks)))
both (Ok k) (Ok ks) = refl
both (Ok k) (Err f) = refl
both (Err f) q = refl

pub tracks_are : (bytes scale number : ℕ) (traks : List Piece) → tracks_in bytes scale number traks ≡ (tracks_read bytes scale number traks >>= (λ ks. Ok (map plain_of ks)))
unfolding tracks_in tracks_read
tracks_are bytes scale number [] = refl
tracks_are bytes scale number (trak ∷ traks) =
    ap (λ (r : Step PlainTrack). r >>= (λ t. tracks_in bytes scale (number + 1) traks >>= (λ ts. Ok (t ∷ ts)))) (track_is bytes scale number trak)
    ∙ ap (λ (q : Step (List PlainTrack)). (track_read bytes scale number trak >>= (λ k. Ok (plain_of k))) >>= (λ t. q >>= (λ ts. Ok (t ∷ ts)))) (tracks_are bytes scale (number + 1) traks)
    ∙ both (track_read bytes scale number trak) (tracks_read bytes scale (number + 1) traks)

abbrev entries_as : List Track → List (List EntryAt)
entries_as ks = map (λ t. t.entries) ks

pub entries_are : (bytes scale number : ℕ) (traks : List Piece) (ks : List Track) → tracks_read bytes scale number traks ≡ Ok ks → trak_entries scale traks ≡ Ok (entries_as ks)
unfolding tracks_read trak_entries
entries_are bytes scale number [] ks e = let none : [] ≡ ks = cc e in ap (λ (xs : List Track). Ok (entries_as xs)) none
entries_are bytes scale number (trak ∷ traks) ks e =
    let a = bind_ok (track_read bytes scale number trak) _ ks e in
    let b = bind_ok (tracks_read bytes scale (number + 1) traks) _ ks a.2 in
    let one = entries_kept bytes scale number trak a.0 a.1 in
    let rest = entries_are bytes scale (number + 1) traks b.0 b.1 in
    let same : a.0 ∷ b.0 ≡ ks = cc b.2 in
    ap (λ (r : Step TrackParts). r >>= (λ p. trak_entries scale traks >>= (λ others. Ok (p.entries ∷ others)))) one.1
    ∙ ap (λ (q : Step (List (List EntryAt))). q >>= (λ others. Ok (one.0.entries ∷ others))) rest
    ∙ ap (λ (es : List EntryAt). Ok (es ∷ entries_as b.0)) one.2
    ∙ ap (λ (xs : List Track). Ok (entries_as xs)) same

-- ---- the movie

abbrev plain_movie : List Piece → ℕ → List PlainTrack → Step PlainMovie
plain_movie ps scale tracks = Ok (record { scale = scale; start_us = start_in (child_piece ps (codes "udta")); tracks = tracks })

abbrev kept_movie : List Piece → ℕ → List Track → Step MovieParts
kept_movie ps scale tracks = Ok (record { scale = scale; start_us = start_in (child_piece ps (codes "udta")); tracks = tracks })

abbrev as_movie : MovieParts → Step PlainMovie
as_movie p = Ok (loaded_of p).movie

by_tracks : (ps : List Piece) (scale : ℕ) (r : Step (List Track))
    → ((r >>= (λ ks. Ok (map plain_of ks))) >>= plain_movie ps scale) ≡ ((r >>= kept_movie ps scale) >>= as_movie)
by_tracks ps scale (Ok ks) = refl
by_tracks ps scale (Err f) = refl

by_scale : (bytes : ℕ) (ps traks : List Piece) (r : Step ℕ)
    → (r >>= (λ scale. tracks_in bytes scale 0 traks >>= plain_movie ps scale)) ≡ ((r >>= (λ scale. tracks_read bytes scale 0 traks >>= kept_movie ps scale)) >>= as_movie)
by_scale bytes ps traks (Ok scale) =
    ap (λ (q : Step (List PlainTrack)). q >>= plain_movie ps scale) (tracks_are bytes scale 0 traks) ∙ by_tracks ps scale (tracks_read bytes scale 0 traks)
by_scale bytes ps traks (Err f) = refl

by_traks : (at bytes : ℕ) (ps : List Piece) (r : Step (List Piece))
    → (r >>= (λ traks. movie_scale at ps >>= (λ scale. tracks_in bytes scale 0 traks >>= plain_movie ps scale)))
    ≡ ((r >>= (λ traks. movie_scale at ps >>= (λ scale. tracks_read bytes scale 0 traks >>= kept_movie ps scale))) >>= as_movie)
by_traks at bytes ps (Ok traks) = by_scale bytes ps traks (movie_scale at ps)
by_traks at bytes ps (Err f) = refl

by_boxes : (at bytes : ℕ) (r : Step (List Piece))
    → (r >>= (λ ps. tracks_of ps >>= (λ traks. movie_scale at ps >>= (λ scale. tracks_in bytes scale 0 traks >>= plain_movie ps scale))))
    ≡ ((r >>= (λ ps. tracks_of ps >>= (λ traks. movie_scale at ps >>= (λ scale. tracks_read bytes scale 0 traks >>= kept_movie ps scale)))) >>= as_movie)
by_boxes at bytes (Ok ps) = by_traks at bytes ps (tracks_of ps)
by_boxes at bytes (Err f) = refl

movie_is : (body : List ℕ) (at bytes : ℕ) → movie_in body at bytes ≡ (parts_read body at bytes >>= (λ p. Ok (loaded_of p).movie))
unfolding movie_in parts_read
movie_is body at bytes = by_boxes at bytes (in_moov body at)

-- the movie that is kept is the one of the movie box
pub movie_kept : (body : List ℕ) (at bytes : ℕ) (p : MovieParts) → parts_read body at bytes ≡ Ok p → movie_in body at bytes ≡ Ok (loaded_of p).movie
movie_kept body at bytes p e = movie_is body at bytes ∙ ap (λ (r : Step MovieParts). r >>= as_movie) e

pub movie_refused : (body : List ℕ) (at bytes : ℕ) (f : MovieFault) → (f ≡ movies.NoMemory) ⊎ (parts_read body at bytes ≡ Err f) → (f ≡ movies.NoMemory) ⊎ (movie_in body at bytes ≡ Err f)
movie_refused body at bytes f (inl none) = inl none
movie_refused body at bytes f (inr e) = inr (movie_is body at bytes ∙ ap (λ (r : Step MovieParts). r >>= as_movie) e)

-- and so are its sample entries
pub entries_of_kept : (body : List ℕ) (at bytes : ℕ) (p : MovieParts) → parts_read body at bytes ≡ Ok p → moov_entries body at ≡ Ok (loaded_of p).entries
unfolding parts_read moov_entries
entries_of_kept body at bytes p e =
    let a = bind_ok (in_moov body at) _ p e in
    let b = bind_ok (tracks_of a.0) _ p a.2 in
    let c = bind_ok (movie_scale at a.0) _ p b.2 in
    let d = bind_ok (tracks_read bytes c.0 0 b.0) _ p c.2 in
    let same : record { scale = c.0; start_us = start_in (child_piece a.0 (codes "udta")); tracks = d.0 } ≡ p = cc d.2 in
    ap (λ (r : Step (List Piece)). r >>= (λ ps. tracks_of ps >>= (λ traks. movie_scale at ps >>= (λ scale. trak_entries scale traks)))) a.1
    ∙ ap (λ (r : Step (List Piece)). r >>= (λ traks. movie_scale at a.0 >>= (λ scale. trak_entries scale traks))) b.1
    ∙ ap (λ (r : Step ℕ). r >>= (λ scale. trak_entries scale b.0)) c.1
    ∙ entries_are bytes c.0 0 b.0 d.0 d.1
    ∙ ap (λ (q : MovieParts). Ok (loaded_of q).entries) same

-- ---- what holds of it

each_kept : (bytes scale : ℕ) (ks : List Track) → AllByRecursion (IsAccepted bytes scale) (map plain_of ks) → AllByRecursion (λ k. IsAccepted bytes scale (plain_of k)) ks
each_kept bytes scale [] all = tt
each_kept bytes scale (k ∷ ks) all = (all.0, each_kept bytes scale ks all.1)

-- as many samples as sizes, by the law of samples one by one
abbrev pub Law : Type 0
Law = (scale entries : ℕ) (t : Tables) (samples : List PlainSample) → samples_in scale entries t ≡ Ok samples → length samples ≡ length t.sizes

all_whole : Law → (bytes scale number : ℕ) (traks : List Piece) (ks : List Track) → tracks_read bytes scale number traks ≡ Ok ks → AllByRecursion IsWhole ks
unfolding tracks_read
all_whole law bytes scale number [] ks e = let none : [] ≡ ks = cc e in subst (λ (xs : List Track). AllByRecursion IsWhole xs) none tt
all_whole law bytes scale number (trak ∷ traks) ks e =
    let a = bind_ok (track_read bytes scale number trak) _ ks e in
    let b = bind_ok (tracks_read bytes scale (number + 1) traks) _ ks a.2 in
    let same : a.0 ∷ b.0 ≡ ks = cc b.2 in
    subst (λ (xs : List Track). AllByRecursion IsWhole xs) same (whole_kept law bytes scale number trak a.0 a.1, all_whole law bytes scale (number + 1) traks b.0 b.1)

movie_whole : Law → (body : List ℕ) (at bytes : ℕ) (p : MovieParts) → parts_read body at bytes ≡ Ok p → AllByRecursion IsWhole p.tracks
unfolding parts_read
movie_whole law body at bytes p e =
    let a = bind_ok (in_moov body at) _ p e in
    let b = bind_ok (tracks_of a.0) _ p a.2 in
    let c = bind_ok (movie_scale at a.0) _ p b.2 in
    let d = bind_ok (tracks_read bytes c.0 0 b.0) _ p c.2 in
    let same : record { scale = c.0; start_us = start_in (child_piece a.0 (codes "udta")); tracks = d.0 } ≡ p = cc d.2 in
    subst (λ (q : MovieParts). AllByRecursion IsWhole q.tracks) same (all_whole law bytes c.0 0 b.0 d.0 d.1)

all_wide : WidthLaw → (bytes scale number : ℕ) (traks : List Piece) (ks : List Track) → tracks_read bytes scale number traks ≡ Ok ks
    → AllByRecursion (λ t. AllByRecursion (λ e. HasWidth e.entry) t.entries) ks
unfolding tracks_read
all_wide law bytes scale number [] ks e =
    let none : [] ≡ ks = cc e in subst (λ (xs : List Track). AllByRecursion (λ t. AllByRecursion (λ e. HasWidth e.entry) t.entries) xs) none tt
all_wide law bytes scale number (trak ∷ traks) ks e =
    let a = bind_ok (track_read bytes scale number trak) _ ks e in
    let b = bind_ok (tracks_read bytes scale (number + 1) traks) _ ks a.2 in
    let same : a.0 ∷ b.0 ≡ ks = cc b.2 in
    subst (λ (xs : List Track). AllByRecursion (λ t. AllByRecursion (λ e. HasWidth e.entry) t.entries) xs) same (
      wide_kept law bytes scale number trak a.0 a.1,
      all_wide law bytes scale (number + 1) traks b.0 b.1,
    )

movie_wide : WidthLaw → (body : List ℕ) (at bytes : ℕ) (p : MovieParts) → parts_read body at bytes ≡ Ok p
    → AllByRecursion (λ t. AllByRecursion (λ e. HasWidth e.entry) t.entries) p.tracks
unfolding parts_read
movie_wide law body at bytes p e =
    let a = bind_ok (in_moov body at) _ p e in
    let b = bind_ok (tracks_of a.0) _ p a.2 in
    let c = bind_ok (movie_scale at a.0) _ p b.2 in
    let d = bind_ok (tracks_read bytes c.0 0 b.0) _ p c.2 in
    let same : record { scale = c.0; start_us = start_in (child_piece a.0 (codes "udta")); tracks = d.0 } ≡ p = cc d.2 in
    subst (λ (q : MovieParts). AllByRecursion (λ t. AllByRecursion (λ e. HasWidth e.entry) t.entries) q.tracks) same (all_wide law bytes c.0 0 b.0 d.0 d.1)

pub is_kept : Law → WidthLaw → (body : List ℕ) (at bytes : ℕ) (p : MovieParts) → parts_read body at bytes ≡ Ok p → bytes < 2 ^ 64 → IsKept p
is_kept law widths body at bytes p e lt =
    let m = movie_kept body at bytes p e in
    record {
      bytes = bytes;
      short = lt;
      scale = scale_of_movie body at bytes (loaded_of p).movie m;
      few = omega (arith, tracks_of_movie body at bytes (loaded_of p).movie m, length-map p.tracks plain_of);
      each = each_kept bytes p.scale p.tracks (movie_accepted body at bytes (loaded_of p).movie m);
      whole = movie_whole law body at bytes p e;
      wide = movie_wide widths body at bytes p e;
    }
