-- What is shown of a limit that is met.
use Rattle.std.proofs.Common.{◌≡◌, ℕ, ◌⊎◌, Bool, true, false, cond, not, ◌&&◌, List, [], ◌∷◌, ◌++◌, length, Option, Some, None, refl, subst, ap, inl, inr}
use Rattle.std.specs.Prelude.{nat_lt}
use Rattle.sf_tick.specs.declared.types.Chunk.{Chunk}
use Rattle.sf_entry.specs.declared.track_setup.TrackSetup.{TrackSetup}
use Rattle.sf_series.specs.declared.limits.Limits.{Limits}
use Rattle.sf_series.specs.declared.limits.LimitShown.{LimitShown}
use Rattle.sf_series.specs.Files.{flat, open_file}
use Rattle.sf_series.specs.Switching.{Put, Into, Next, Limit, closed_length, movie_length, count_of, passes, over, late, is_lead, unless, too_long, is_next, Shows, put_at, put}

-- what is said of a limit that was met
shows_if : (a b c : Bool) (t s : ℕ) (x y z : LimitShown) (shown : LimitShown) → Shows x t s → Shows y t s → Shows z t s → cond a (Some x) (cond b (Some y) (cond c (Some z) None)) ≡ Some shown → Shows shown t s
shows_if true b c t s x y z shown p q r e = let P : LimitShown → Type 0 = λ l. Shows l t s in let same : x ≡ shown = cc in subst P same p
shows_if false true c t s x y z shown p q r e = let P : LimitShown → Type 0 = λ l. Shows l t s in let same : y ≡ shown = cc in subst P same q
shows_if false false true t s x y z shown p q r e = let P : LimitShown → Type 0 = λ l. Shows l t s in let same : z ≡ shown = cc in subst P same r
shows_if false false false t s x y z shown p q r e = cc

over_shows : (limits : Limits) (setups : List TrackSetup) (t s : ℕ) (file : List Chunk) (shown : LimitShown) → over limits setups t s file ≡ Some shown → Shows shown t s
unfolding over
over_shows limits setups t s file shown e =
    shows_if (passes limits.max_bytes (closed_length setups file)) (nat_lt 268435456 (movie_length setups file)) (nat_lt 16777216 (count_of t file)) t s _ _ _ shown (refl, refl) (refl, refl) (refl, refl) e

long_if : (b : Bool) (x shown : LimitShown) (t s : ℕ) → Shows x t s → cond b (Some x) None ≡ Some shown → Shows shown t s
long_if true x shown t s p e = let P : LimitShown → Type 0 = λ l. Shows l t s in let same : x ≡ shown = cc in subst P same p
long_if false x shown t s p e = cc

limit_of : (o : Option LimitShown) (p : Put) (shown : LimitShown) → unless o p ≡ Limit shown → (o ≡ Some shown) ⊎ (p ≡ Limit shown)
limit_of None p shown e = inr e
limit_of (Some x) p shown e = inl (let same : x ≡ shown = cc in ap (λ (l : LimitShown). Some l) same)

behind_shows : (next more : Bool) (o here long : Option LimitShown) (t s : ℕ) (shown : LimitShown) → ((l : LimitShown) → o ≡ Some l → Shows l t s) → ((l : LimitShown) → here ≡ Some l → Shows l t s) → ((l : LimitShown) → long ≡ Some l → Shows l t s)
    → cond (not next) Into (cond more (unless o Next) (unless here (unless long Into))) ≡ Limit shown → Shows shown t s
behind_shows false more o here long t s shown p q r e = cc
behind_shows true true o here long t s shown p q r e = elim (limit_of o Next shown e) [ inl at ↦ p shown at | inr at ↦ cc ]
behind_shows true false o here long t s shown p q r e =
    elim (limit_of here (unless long Into) shown e) [
      | inl at ↦ q shown at
      | inr at ↦ elim (limit_of long Into shown at) [ inl long_at ↦ r shown long_at | inr wrong ↦ cc ]
    ]

at_shows : (limits : Limits) (setups : List TrackSetup) (more : Bool) (s : ℕ) (file : List Chunk) (c : Chunk) (shown : LimitShown) → put_at limits setups more s file c ≡ Limit shown → Shows shown c.track s
at_shows limits setups more s [] c shown e = elim (limit_of (over limits setups c.track s (c ∷ [])) Into shown e) [ inl at ↦ over_shows limits setups c.track s (c ∷ []) shown at | inr at ↦ cc ]
at_shows limits setups more s (first ∷ file) c shown e =
    behind_shows (is_next limits setups s (first ∷ file) c) more (over limits setups c.track s (c ∷ [])) (over limits setups c.track s ((first ∷ file) ++ c ∷ [])) (too_long limits setups s (first ∷ file) c) c.track s shown
    (λ l at. over_shows limits setups c.track s (c ∷ []) l at) (λ l at. over_shows limits setups c.track s ((first ∷ file) ++ c ∷ []) l at)
    (λ l at. long_if (is_lead setups c && late limits setups (first ∷ file) c) _ l c.track s (refl, refl) at) e

-- a limit that a chunk meets shows its track, and how many samples of it stand in files
pub put_shows : (limits : Limits) (setups : List TrackSetup) (files : List (List Chunk)) (c : Chunk) (shown : LimitShown) → put limits setups files c ≡ Limit shown → Shows shown c.track (count_of c.track (flat files))
unfolding put
put_shows limits setups files c shown e = at_shows limits setups (nat_lt (length files) limits.max_files) (count_of c.track (flat files)) (open_file files) c shown e
