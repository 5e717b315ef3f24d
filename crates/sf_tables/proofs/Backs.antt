-- What one more item at the end of a list does to its runs, deltas, sizes and entries.
use Rattle.std.proofs.Common.{◌≡◌, ℕ, suc, ◌+◌, ◌-◌, ◌==◌, ◌&&◌, Bool, true, false, cond, List, [], ◌∷◌, ◌++◌, length, sum, refl, sym, ap, ◌∙◌, arith, inl, inr}
use Rattle.std.specs.List.{list_all}
use Rattle.std.proofs.Math.Bool.{and-true}
use Rattle.std.proofs.lemmas.List.Folds.{list_all-append}
use Rattle.std.proofs.lemmas.List.Sums.{sum_by-append}
use Rattle.std.proofs.lemmas.Bool.{ne_eqb}
use Rattle.std.proofs.lemmas.Bool.Decides.{eqb_tells}
use Rattle.sf_meaning.specs.Stbl.{Timed, runs_of, differences, deltas_of, uniform, sync_from, spread_from}
use Rattle.sf_tables.specs.inner.Totals.{last_or}
use Rattle.sf_tables.proofs.RunLists.{turns, runs_count}

pub some_of : (n : ℕ) → (suc n == 0) ≡ false
some_of n = ne_eqb (suc n) 0 (λ e. omega (arith, e))

not_one : (n : ℕ) → (suc (suc n) == 1) ≡ false
not_one n = ne_eqb (suc (suc n)) 1 (λ e. omega (arith, e))

pub last_more : (d x : ℕ) (xs : List ℕ) → last_or d (xs ++ x ∷ []) ≡ x
last_more d x [] = refl
last_more d x (y ∷ ys) = last_more y x ys

turns_more : (a x : ℕ) (xs : List ℕ) → turns a (xs ++ x ∷ []) ≡ turns a xs + cond (last_or a xs == x) 0 1
turns_more a x [] = omega arith
turns_more a x (y ∷ ys) = omega (arith, turns_more y x ys)

runs_more : (y x : ℕ) (ys : List ℕ) → length (runs_of (y ∷ (ys ++ x ∷ []))) ≡ length (runs_of (y ∷ ys)) + cond (last_or y ys == x) 0 1
runs_more y x ys = omega (arith, runs_count y ys, runs_count y (ys ++ x ∷ []), turns_more y x ys)

added : (b : Bool) (n : ℕ) → cond b n (n + 1) ≡ n + cond b 0 1
added true n = omega arith
added false n = refl

-- how many runs a list has with one more value
pub runs_with : (n runs last x : ℕ) (xs : List ℕ) → n ≡ length xs → runs ≡ length (runs_of xs) → last ≡ last_or 0 xs
    → cond (n == 0) 1 (cond (last == x) runs (runs + 1)) ≡ length (runs_of (xs ++ x ∷ []))
runs_with n runs last x [] count are l = rw count refl
runs_with n runs last x (y ∷ ys) count are l = rw (count, some_of (length ys), l, are) (added (last_or y ys == x) (length (runs_of (y ∷ ys))) ∙ sym (runs_more y x ys))

-- the steps of times after a first one
abbrev pub steps : ℕ → List ℕ → List ℕ
steps t [] = []
steps t (u ∷ ts) = (u - t) ∷ steps u ts

pub steps_more : (t u : ℕ) (ts : List ℕ) → steps t (ts ++ u ∷ []) ≡ steps t ts ++ (u - last_or t ts) ∷ []
steps_more t u [] = refl
steps_more t u (v ∷ ts) = ap (λ (xs : List ℕ). (v - t) ∷ xs) (steps_more v u ts)

-- the deltas are the steps, and the last one again
pub deltas_are : (last t : ℕ) (ts : List ℕ) → differences last t ts ≡ steps t ts ++ last_or last (steps t ts) ∷ []
deltas_are last t [] = refl
deltas_are last t (u ∷ ts) = ap (λ (xs : List ℕ). (u - t) ∷ xs) (deltas_are (u - t) u ts)

-- the deltas of times with one more
deltas_with : (t u : ℕ) (ts : List ℕ) → deltas_of (t ∷ (ts ++ u ∷ [])) ≡ (steps t ts ++ (u - last_or t ts) ∷ []) ++ (u - last_or t ts) ∷ []
deltas_with t u ts =
    deltas_are 0 t (ts ++ u ∷ [])
    ∙ ap (λ (xs : List ℕ). xs ++ last_or 0 xs ∷ []) (steps_more t u ts)
    ∙ ap (λ (d : ℕ). (steps t ts ++ (u - last_or t ts) ∷ []) ++ d ∷ []) (last_more 0 (u - last_or t ts) (steps t ts))

pub delta_with : (n last u : ℕ) (ts : List ℕ) → n ≡ length ts → last ≡ last_or 0 ts
    → cond (n == 0) 0 (u - last) ≡ last_or 0 (deltas_of (ts ++ u ∷ []))
delta_with n last u [] count l = rw count refl
delta_with n last u (t ∷ ts) count l =
    rw (count, some_of (length ts), l) (sym (ap (last_or 0) (deltas_with t u ts) ∙ last_more 0 (u - last_or t ts) (steps t ts ++ (u - last_or t ts) ∷ [])))

pub sum-more : (xs : List ℕ) (x : ℕ) → sum (xs ++ x ∷ []) ≡ sum xs + x
sum-more xs x = let both : sum (xs ++ x ∷ []) ≡ sum xs + sum (x ∷ []) = sum_by-append (λ (y : ℕ). y) xs (x ∷ []) in omega (arith, both)

pub sum_with : (n last closed delta u : ℕ) (ts : List ℕ) → n ≡ length ts → last ≡ last_or 0 ts → delta ≡ last_or 0 (deltas_of ts) → closed + delta ≡ sum (deltas_of ts)
    → closed + cond (n == 0) 0 (u - last) + cond (n == 0) 0 (u - last) ≡ sum (deltas_of (ts ++ u ∷ []))
sum_with n last closed delta u [] count l d e = rw count (omega (arith, e, d))
sum_with n last closed delta u (t ∷ ts) count l d e =
    let v : ℕ = u - last_or t ts in
    let before : delta ≡ last_or 0 (steps t ts) = d ∙ ap (last_or 0) (deltas_are 0 t ts) ∙ last_more 0 (last_or 0 (steps t ts)) (steps t ts) in
    let old : sum (deltas_of (t ∷ ts)) ≡ sum (steps t ts) + last_or 0 (steps t ts) = ap sum (deltas_are 0 t ts) ∙ sum-more (steps t ts) (last_or 0 (steps t ts)) in
    let new : sum (deltas_of (t ∷ (ts ++ u ∷ []))) ≡ sum (steps t ts) + v + v = ap sum (deltas_with t u ts) ∙ sum-more (steps t ts ++ v ∷ []) v ∙ ap (λ (s : ℕ). s + v) (sum-more (steps t ts) v) in
    rw (count, some_of (length ts), l) (omega (arith, before, old, new, e))

same_last : (d : ℕ) (ds : List ℕ) → length (runs_of (d ∷ (ds ++ last_or d ds ∷ []))) ≡ length (runs_of (d ∷ ds))
same_last d ds = runs_more d (last_or d ds) ds ∙ elim (eqb_tells (last_or d ds) (last_or d ds)) [ inl p ↦ rw p.0 (omega arith) | inr p ↦ absurd (p.1 refl) ]

-- how many runs the deltas make with one more time
pub delta_runs_with : (n last delta runs u : ℕ) (ts : List ℕ) → n ≡ length ts → last ≡ last_or 0 ts → delta ≡ last_or 0 (deltas_of ts) → runs ≡ length (runs_of (deltas_of ts))
    → cond (n == 0) 1 (cond (n == 1) 1 (cond (delta == cond (n == 0) 0 (u - last)) runs (runs + 1))) ≡ length (runs_of (deltas_of (ts ++ u ∷ [])))
delta_runs_with n last delta runs u [] count l d e = rw count refl
delta_runs_with n last delta runs u (t ∷ []) count l d e = rw count (sym (same_last (u - t) []))
delta_runs_with n last delta runs u (t ∷ w ∷ ts) count l d e =
    let v : ℕ = u - last_or w ts in
    let first : ℕ = w - t in
    let more : List ℕ = steps w ts in
    let before : delta ≡ last_or first more = d ∙ ap (last_or 0) (deltas_are 0 t (w ∷ ts)) ∙ last_more 0 (last_or first more) (first ∷ more) in
    let old : length (runs_of (deltas_of (t ∷ w ∷ ts))) ≡ length (runs_of (first ∷ more)) = ap (λ (xs : List ℕ). length (runs_of xs)) (deltas_are 0 t (w ∷ ts)) ∙ same_last first more in
    let last_v : last_or first (more ++ v ∷ []) ≡ v = last_more first v more in
    let whole : length (runs_of (first ∷ ((more ++ v ∷ []) ++ v ∷ []))) ≡ length (runs_of (first ∷ (more ++ v ∷ [])))
    = ap (λ (x : ℕ). length (runs_of (first ∷ ((more ++ v ∷ []) ++ x ∷ [])))) (sym last_v) ∙ same_last first (more ++ v ∷ []) in
    let new : length (runs_of (deltas_of (t ∷ w ∷ (ts ++ u ∷ [])))) ≡ length (runs_of (first ∷ more)) + cond (last_or first more == v) 0 1
    = ap (λ (xs : List ℕ). length (runs_of xs)) (deltas_with t u (w ∷ ts)) ∙ whole ∙ runs_more first v more in
    rw (count, some_of (suc (length ts)), not_one (length ts), l, before, e, old, new) (added (last_or first more == v) (length (runs_of (first ∷ more))))

-- the size that all have, with one more
size_if : (a : Bool) (x y : ℕ) → cond (x == cond a y 0) x 0 ≡ cond (a && ((x == y) && true)) y 0
size_if true x y = elim (eqb_tells x y) [ inl p ↦ rw p.0 p.1 | inr p ↦ rw p.0 refl ]
size_if false x y = elim (eqb_tells x 0) [ inl p ↦ rw p.0 p.1 | inr p ↦ rw p.0 refl ]

pub size_with : (n size x : ℕ) (xs : List ℕ) → n ≡ length xs → size ≡ uniform xs → cond (n == 0) x (cond (x == size) x 0) ≡ uniform (xs ++ x ∷ [])
size_with n size x [] count e = rw count refl
size_with n size x (y ∷ ys) count e =
    rw (count, some_of (length ys), e) (size_if (list_all (λ z. z == y) ys) x y ∙ sym (ap (λ (b : Bool). cond b y 0) (list_all-append (λ z. z == y) ys (x ∷ []))))

-- a test of all, with one more
pub all_with : {A : Type 0} (p : A → Bool) (b : Bool) (x : A) (xs : List A) → b ≡ list_all p xs → (b && p x) ≡ list_all p (xs ++ x ∷ [])
all_with p b x xs e = rw e (sym (list_all-append p xs (x ∷ []) ∙ ap (λ (c : Bool). list_all p xs && c) (and-true (p x))))

syncs_if : (b c : Bool) (k m : ℕ) (xs ys : List ℕ) → length xs ≡ cond c (length ys + 1) (length ys)
    → length (cond b (k ∷ xs) xs) ≡ cond c (length (cond b (k ∷ ys) ys) + 1) (length (cond b (k ∷ ys) ys))
syncs_if true true k m xs ys e = omega (arith, e)
syncs_if true false k m xs ys e = omega (arith, e)
syncs_if false true k m xs ys e = e
syncs_if false false k m xs ys e = e

-- how many sync samples there are with one more
pub syncs_more : (k : ℕ) (s : Timed) (ss : List Timed) → length (sync_from k (ss ++ s ∷ [])) ≡ cond s.sync (length (sync_from k ss) + 1) (length (sync_from k ss))
syncs_more k s [] = elim s.sync as (λ b. length (cond b (k ∷ []) []) ≡ cond b 1 0) [ true ↦ refl | false ↦ refl ]
syncs_more k s (x ∷ ss) = syncs_if x.sync s.sync k k _ _ (syncs_more (k + 1) s ss)

spreads_if : {A : Type 0} (b c : Bool) (e : A) (xs ys : List A) → length xs ≡ cond c (length ys) (length ys + 1)
    → length (cond b xs (e ∷ xs)) ≡ cond c (length (cond b ys (e ∷ ys))) (length (cond b ys (e ∷ ys)) + 1)
spreads_if true true e xs ys p = p
spreads_if true false e xs ys p = p
spreads_if false true e xs ys p = omega (arith, p)
spreads_if false false e xs ys p = omega (arith, p)

one_if : {A : Type 0} (b : Bool) (e : A) → length (cond b [] (e ∷ [])) ≡ cond b 0 1
one_if true e = refl
one_if false e = refl

-- how many entries counts make with one more
pub spreads_more : (k c x : ℕ) (counts : List ℕ) → length (spread_from k c (counts ++ x ∷ [])) ≡ cond (x == last_or c counts) (length (spread_from k c counts)) (length (spread_from k c counts) + 1)
spreads_more k c x [] = one_if (x == c) _
spreads_more k c x (y ∷ counts) = spreads_if (y == c) (x == last_or y counts) _ _ _ (spreads_more (k + 1) y x counts)
