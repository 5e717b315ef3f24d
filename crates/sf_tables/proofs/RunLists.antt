-- Runs of equal neighbours: how they begin, how many they are, and that none are fewer.
use Rattle.std.proofs.Common.{◌≡◌, ◌≢◌, ℕ, zero, suc, ◌+◌, ◌≤◌, ◌==◌, Bool, true, false, cond, List, [], ◌∷◌, ◌++◌, length, replicate, refl, sym, ap, ◌∙◌, append_assoc, arith, inl, inr, ◌⊎◌}
use Rattle.std.specs.List.{flat_map}
use Rattle.std.proofs.lemmas.List.{append-nil, replicate_more}
use Rattle.std.proofs.lemmas.Bool.{ne_eqb}
use Rattle.std.proofs.lemmas.Bool.Decides.{eqb_tells}
use Rattle.sf_meaning.specs.Tables.{expand}
use Rattle.sf_meaning.specs.Stbl.{in_front, runs_of, run_bytes}

-- Runs begin with one of this value.
pub record Begin (x : ℕ) (runs : List (ℕ × ℕ)) : Type 0 where
  pub count : ℕ
  pub others : List (ℕ × ℕ)
  pub are : runs ≡ (count, x) ∷ others

begin_if : (b : Bool) (n x y : ℕ) (others : List (ℕ × ℕ)) → Begin x (cond b ((n + 1, x) ∷ others) ((1, x) ∷ (n, y) ∷ others))
begin_if true n x y others = record { count = n + 1; others = others; are = refl }
begin_if false n x y others = record { count = 1; others = (n, y) ∷ others; are = refl }

pub begins : (x : ℕ) (xs : List ℕ) → Begin x (runs_of (x ∷ xs))
begins x [] = record { count = 1; others = []; are = refl }
begins x (y ∷ ys) =
    let b = begins y ys in
    rw b.are (begin_if (x == y) b.count x y b.others)

-- how often the value changes along a list, after a first value
abbrev pub turns : ℕ → List ℕ → ℕ
turns x [] = 0
turns x (y ∷ ys) = cond (x == y) 0 1 + turns y ys

count_if : (b : Bool) (n x y : ℕ) (others : List (ℕ × ℕ)) → length (cond b ((n + 1, x) ∷ others) ((1, x) ∷ (n, y) ∷ others)) ≡ cond b 0 1 + suc (length others)
count_if true n x y others = omega arith
count_if false n x y others = omega arith

-- there is a run for each change, and one more
pub runs_count : (x : ℕ) (xs : List ℕ) → length (runs_of (x ∷ xs)) ≡ 1 + turns x xs
runs_count x [] = refl
runs_count x (y ∷ ys) =
    let b = begins y ys in
    let one : length (runs_of (y ∷ ys)) ≡ suc (length b.others) = ap (λ (rs : List (ℕ × ℕ)). length rs) b.are in
    let step : length (runs_of (x ∷ y ∷ ys)) ≡ cond (x == y) 0 1 + suc (length b.others) = rw b.are (count_if (x == y) b.count x y b.others) in
    let later = runs_count y ys in
    omega (arith, step, one, later)

turns_few : (x : ℕ) (ys : List ℕ) → turns x ys ≤ length (runs_of ys)
turns_few x [] = omega arith
turns_few x (y ∷ ys) = let n = runs_count y ys in elim (eqb_tells x y) [ inl p ↦ rw p.0 (omega (arith, n)) | inr p ↦ rw p.0 (omega (arith, n)) ]

same_turns : (n x : ℕ) (ys : List ℕ) → turns x (replicate n x ++ ys) ≡ turns x ys
same_turns zero x ys = refl
same_turns (suc n) x ys = elim (eqb_tells x x) [ inl p ↦ rw p.0 (omega (arith, same_turns n x ys)) | inr p ↦ absurd (p.1 refl) ]

-- one run more is enough for so many of one value in front
more_in_front : (n x : ℕ) (ys : List ℕ) → length (runs_of (replicate n x ++ ys)) ≤ 1 + length (runs_of ys)
more_in_front zero x ys = omega arith
more_in_front (suc n) x ys = omega (arith, runs_count x (replicate n x ++ ys), same_turns n x ys, turns_few x ys)

pub fewest : (runs : List (ℕ × ℕ)) → length (runs_of (expand runs)) ≤ length runs
fewest [] = omega arith
fewest (run ∷ runs) = omega (arith, more_in_front run.0 run.1 (expand runs), fewest runs)

expand_front : (x : ℕ) (runs : List (ℕ × ℕ)) → expand (in_front x runs) ≡ x ∷ expand runs
expand_front x [] = refl
expand_front x (run ∷ runs) = elim (eqb_tells x run.1) [ inl p ↦ rw (p.0, p.1) (let k : run.0 + 1 ≡ suc run.0 = omega arith in rw k refl) | inr p ↦ rw p.0 refl ]

-- runs expand to the list that they were made from
pub expand_runs : (xs : List ℕ) → expand (runs_of xs) ≡ xs
expand_runs [] = refl
expand_runs (x ∷ xs) = expand_front x (runs_of xs) ∙ ap (λ (ys : List ℕ). x ∷ ys) (expand_runs xs)

-- so many of one value are one run, which ends where another value follows
pub one_run : (n x : ℕ) → runs_of (replicate (suc n) x) ≡ (suc n, x) ∷ []
one_run zero x = refl
one_run (suc n) x =
    let k : suc n + 1 ≡ suc (suc n) = omega arith in
    rw (one_run n x) (elim (eqb_tells x x) [ inl p ↦ rw (p.0, k) refl | inr p ↦ absurd (p.1 refl) ])

pub run_ends : (n x y : ℕ) (ys : List ℕ) → (x == y) ≡ false → runs_of (replicate (suc n) x ++ y ∷ ys) ≡ (suc n, x) ∷ runs_of (y ∷ ys)
run_ends zero x y ys e = let b = begins y ys in rw (b.are, e) refl
run_ends (suc n) x y ys e =
    let k : suc n + 1 ≡ suc (suc n) = omega arith in
    rw (run_ends n x y ys e) (elim (eqb_tells x x) [ inl p ↦ rw (p.0, k) refl | inr p ↦ absurd (p.1 refl) ])

-- an open run with one more of its value, or with a first one
pub one_longer : (n x : ℕ) (rest : List ℕ) → replicate (n + 1) x ++ rest ≡ replicate n x ++ x ∷ rest
one_longer n x rest = ap (λ (xs : List ℕ). xs ++ rest) (sym (replicate_more n x)) ∙ append_assoc (replicate n x) (x ∷ []) rest

pub longer_run : (n v x : ℕ) (rest : List ℕ) → (n ≡ 0) ⊎ (x ≡ v) → replicate (n + 1) x ++ rest ≡ replicate n v ++ x ∷ rest
longer_run n v x rest (inl e) = rw e refl
longer_run n v x rest (inr e) = rw e (one_longer n v rest)

pub written_run : (n v x : ℕ) (front rest : List ℕ) → n ≢ 0 → x ≢ v
    → (front ++ run_bytes (n, v)) ++ flat_map run_bytes (runs_of (replicate 1 x ++ rest)) ≡ front ++ flat_map run_bytes (runs_of (replicate n v ++ x ∷ rest))
written_run zero v x front rest some other = absurd (some refl)
written_run (suc n) v x front rest some other =
    let differ : (v == x) ≡ false = ne_eqb v x (λ e. other (sym e)) in
    rw (run_ends n v x rest differ) (append_assoc front (run_bytes (suc n, v)) (flat_map run_bytes (runs_of (x ∷ rest))))

pub last_run : (n v : ℕ) (front : List ℕ) → n ≢ 0 → front ++ run_bytes (n, v) ≡ front ++ flat_map run_bytes (runs_of (replicate n v))
last_run zero v front some = absurd (some refl)
last_run (suc n) v front some = rw (one_run n v) (ap (λ (xs : List ℕ). front ++ xs) (sym (append-nil (run_bytes (suc n, v)))))
