-- Chunks of few samples all go into one file, in their order.
use Rattle.std.proofs.Common.{◌≡◌, ◌≢◌, ℕ, zero, suc, ◌+◌, ◌^◌, ◌≤◌, ◌<◌, ◌==◌, ◌⊎◌, ◌&&◌, nat_lt, Bool, true, false, cond, List, [], ◌∷◌, ◌++◌, length, drop, Option, Some, None, refl, sym, ap, subst, ◌∙◌, inl, inr, append-nil, append_assoc, arith}
use Rattle.std.specs.Prelude.{codes}
use Rattle.std.specs.List.{AllByRecursion}
use Rattle.std.proofs.lemmas.Bool.{le-ltb}
use Rattle.std.proofs.lemmas.List.{length-append}
use Rattle.sf_tick.specs.declared.types.Chunk.{Chunk}
use Rattle.sf_entry.specs.declared.track_setup.TrackSetup.{TrackSetup}
use Rattle.sf_layout.specs.Layout.{track_chunks, track_samples}
use Rattle.sf_series.specs.Files.{flat}
use Rattle.sf_series.specs.Switching.{Into, Switched, count_of, is_lead, movie_length, over, put, switched, switched_from}
use Rattle.sf_series.specs.declared.limits.Limits.{Limits}
use Rattle.sf_selftest.specs.SelfTest.{no_limits}
use Rattle.sf_selftest.proofs.MovieBound.{movie_few}

bool_tells : (b : Bool) → (b ≡ true) ⊎ (b ≡ false)
bool_tells true = inl refl
bool_tells false = inr refl

-- a chunk with samples
abbrev pub IsFilled : Chunk → Type 0
IsFilled c = 0 < length c.samples

-- Chunks of which one file is made: none is empty, and no track has more than 200,000 samples.
pub record AreFew (chunks : List Chunk) : Type 0 where
  pub filled : AllByRecursion IsFilled chunks
  pub few : (t : ℕ) → length (track_samples t chunks) ≤ 200000

-- Tracks of which one file is made.
pub record FewSetups (setups : List TrackSetup) : Type 0 where
  pub eight : length setups ≤ 8
  pub entries : AllByRecursion (λ s. length s.entry ≤ 1000000) setups

all_front : {X : Type 0} (P : X → Type 0) (xs ys : List X) → AllByRecursion P (xs ++ ys) → AllByRecursion P xs
all_front P [] ys all = tt
all_front P (x ∷ xs) ys all = (all.0, all_front P xs ys all.1)

front_few : (t : ℕ) (xs ys : List Chunk) → length (track_samples t xs) ≤ length (track_samples t (xs ++ ys))
front_few t [] ys = omega arith
front_few t (x ∷ xs) ys =
    let rest = front_few t xs ys in
    elim (bool_tells (x.track == t)) [
      | inl same ↦ rw same (omega (arith, rest, length-append x.samples (track_samples t xs), length-append x.samples (track_samples t (xs ++ ys))))
      | inr other ↦ rw other rest
    ]

few_front : (xs ys : List Chunk) → AreFew (xs ++ ys) → AreFew xs
few_front xs ys all = record { filled = all_front IsFilled xs ys all.filled; few = λ t. (let le = front_few t xs ys in let most = all.few t in omega (arith, le, most)) }

-- ---- the switching rule

over_not : (setups : List TrackSetup) (track sample : ℕ) (file : List Chunk) → FewSetups setups → AreFew file → over no_limits setups track sample file ≡ None
unfolding over
over_not setups track sample file s f =
    let m = movie_few setups file s.eight s.entries f.filled f.few in
    let n = f.few track in
    let short : nat_lt 268435456 (movie_length setups file) ≡ false = le-ltb _ _ (omega (arith, m)) in
    let few : nat_lt 16777216 (count_of track file) ≡ false = le-ltb _ _ (omega (arith, n)) in
    rw (short, few) refl

and_false : (b : Bool) → (b && false) ≡ false
and_false true = refl
and_false false = refl

into_ok : (setups : List TrackSetup) (front : List Chunk) (c : Chunk) → FewSetups setups → AreFew (front ++ c ∷ []) → put no_limits setups (front ∷ []) c ≡ Into
unfolding put
into_ok setups [] c s f = rw (over_not setups c.track (count_of c.track (flat ([] ∷ []))) (c ∷ []) s f) refl
into_ok setups (d ∷ front) c s f =
    rw (over_not setups c.track (count_of c.track (flat ((d ∷ front) ∷ []))) (d ∷ (front ++ c ∷ [])) s f) (rw (and_false (is_lead setups c)) refl)

switched_one : (setups : List TrackSetup) (front order : List Chunk) → FewSetups setups → AreFew (front ++ order)
    → switched_from no_limits setups (front ∷ []) order ≡ record { files = (front ++ order) ∷ []; limit = None }
switched_one setups front [] s f = ap (λ (l : List Chunk). let r : Switched = record { files = l ∷ []; limit = None } in r) (sym (append-nil front))
switched_one setups front (c ∷ order) s f =
    let whole : (front ++ c ∷ []) ++ order ≡ front ++ c ∷ order = append_assoc front (c ∷ []) order in
    let all : AreFew ((front ++ c ∷ []) ++ order) = subst AreFew (sym whole) f in
    rw (into_ok setups front c s (few_front (front ++ c ∷ []) order all)) (switched_one setups (front ++ c ∷ []) order s all)
    ∙ ap (λ (l : List Chunk). let r : Switched = record { files = l ∷ []; limit = None } in r) whole

pub one_file : (setups : List TrackSetup) (order : List Chunk) → FewSetups setups → AreFew order → switched no_limits setups order ≡ record { files = order ∷ []; limit = None }
one_file setups order s f = switched_one setups [] order s f

-- ---- what holds of the chunks of each track holds of all

same_number : (n : ℕ) → (n == n) ≡ true
same_number n = (let e : n ≡ n = refl in grind (arith, e))

rest_of : (P : Chunk → Type 0) (b : Bool) (c : Chunk) (cs : List Chunk) → AllByRecursion P (cond b (c ∷ cs) cs) → AllByRecursion P cs
rest_of P true c cs all = all.1
rest_of P false c cs all = all

first_of : (P : Chunk → Type 0) (b : Bool) (c : Chunk) (cs : List Chunk) → b ≡ true → AllByRecursion P (cond b (c ∷ cs) cs) → P c
first_of P true c cs e all = all.0
first_of P false c cs e all = absurd cc

pub all_of_tracks : (P : Chunk → Type 0) (chunks : List Chunk) → ((t : ℕ) → AllByRecursion P (track_chunks t chunks)) → AllByRecursion P chunks
all_of_tracks P [] each = tt
all_of_tracks P (c ∷ cs) each =
    (first_of P (c.track == c.track) c (track_chunks c.track cs) (same_number c.track) (each c.track), all_of_tracks P cs (λ t. rest_of P (c.track == t) c (track_chunks t cs) (each t)))
