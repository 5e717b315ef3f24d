-- Steps that succeeded, and the timescale of a movie that is accepted.
use Rattle.std.proofs.Common.{◌≡◌, ℕ, ◌+◌, ◌≤◌, ◌==◌, nat_le, not, Bool, true, false, List, length, drop, codes, Result, Ok, Err, refl, subst, arith}
use Rattle.std.proofs.lemmas.Bool.Decides.{nat_tests}
use Rattle.sf_box.specs.Boxes.{Piece, word32}
use Rattle.sf_meaning.specs.Steps.{◌>>=◌, ◌>>◌, as_fault, check}
use Rattle.sf_meaning.specs.Headers.{needed_in, short_head, scale_place, timescale_in}
use Rattle.sf_meaning.specs.Tracks.{tracks_in}
use Rattle.sf_meaning.specs.Movie.{in_moov, tracks_of, header_scale, movie_scale, movie_in}
use Rattle.sf_meaning.specs.declared.faults.HeadFault.{HeadFault}
use Rattle.sf_meaning.specs.declared.faults.HeadFault.TheVariants.{Scale0}
use Rattle.sf_meaning.specs.declared.faults.MovieFault.TheVariants.{Head}
use Rattle.sf_meaning.specs.declared.movie.PlainMovie.{PlainMovie}

-- a step that succeeded came from steps that did
pub bind_ok : {A B E : Type 0} (r : Result A E) (f : A → Result B E) (y : B) → (r >>= f) ≡ Ok y → (x : A) × (r ≡ Ok x) × (f x ≡ Ok y)
bind_ok (Ok x) f y e = (x, refl, e)
bind_ok (Err e') f y e = absurd (cc e)

pub then_ok : {A B E : Type 0} (r : Result A E) (q : Result B E) (y : B) → (r >> q) ≡ Ok y → q ≡ Ok y
then_ok (Ok x) q y e = e
then_ok (Err e') q y e = absurd (cc e)

pub first_ok : {A B E : Type 0} (r : Result A E) (q : Result B E) (y : B) → (r >> q) ≡ Ok y → (x : A) × (r ≡ Ok x)
first_ok (Ok x) q y e = (x, refl)
first_ok (Err e') q y e = absurd (cc e)

-- one step has one value
pub ok_is : {A E : Type 0} (x y : A) (r : Result A E) → r ≡ Ok x → r ≡ Ok y → x ≡ y
ok_is x y r e f = cc

pub checked : {B E : Type 0} (b : Bool) (fault : E) (q : Result B E) (y : B) → (check b fault >> q) ≡ Ok y → b ≡ true
checked true fault q y e = refl
checked false fault q y e = absurd (cc e)

pub as_ok : {A E F : Type 0} (f : E → F) (r : Result A E) (x : A) → as_fault f r ≡ Ok x → r ≡ Ok x
as_ok f (Ok y) x e = cc e
as_ok f (Err e') x e = absurd (cc e)

pub not_0 : (n : ℕ) → not (n == 0) ≡ true → 1 ≤ n
not_0 n e = grind (arith, nat_tests)

-- a timescale that was read isn't 0
pub scale_some : (p : Piece) (scale : ℕ) → timescale_in p ≡ Ok scale → 1 ≤ scale
unfolding timescale_in
scale_some p scale e =
    let n : ℕ = word32 (drop (scale_place p.body) p.body) in
    let whole : Bool = nat_le (scale_place p.body + 4) (length p.body) in
    let none : HeadFault = Scale0 p.head.at in
    let q : (check (not (n == 0)) none >> Ok n) ≡ Ok scale = then_ok (check whole (short_head p)) (check (not (n == 0)) none >> Ok n) scale e in
    let some : 1 ≤ n = not_0 n (checked (not (n == 0)) none (Ok n) scale q) in
    let same : Ok n ≡ Ok scale = then_ok (check (not (n == 0)) none) (Ok n) scale q in
    let is : n ≡ scale = cc same in
    omega arith

header_some : (at : ℕ) (ps : List Piece) (scale : ℕ) → header_scale at ps ≡ Ok scale → 1 ≤ scale
unfolding header_scale
header_some at ps scale e = let a = bind_ok (needed_in at (codes "mvhd") ps) timescale_in scale e in scale_some a.0 scale a.2

-- the timescale of a movie is never 0
pub scale_of_movie : (body : List ℕ) (at bytes : ℕ) (m : PlainMovie) → movie_in body at bytes ≡ Ok m → 1 ≤ m.scale
unfolding movie_in
scale_of_movie body at bytes m e =
    let a = bind_ok (in_moov body at) _ m e in
    let b = bind_ok (tracks_of a.0) _ m a.2 in
    let c = bind_ok (movie_scale at a.0) _ m b.2 in
    let d = bind_ok (tracks_in bytes c.0 0 b.0) _ m c.2 in
    let some : 1 ≤ c.0 = header_some at a.0 c.0 (as_ok (λ (f : HeadFault). Head f) (header_scale at a.0) c.0 c.1) in
    subst (λ (x : PlainMovie). 1 ≤ x.scale) (ok_is _ m _ refl d.2) some
