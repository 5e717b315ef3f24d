-- What runs give one sample.
use Rattle.std.proofs.Common.{◌≡◌, ℕ, zero, suc, ◌+◌, ◌-◌, ◌*◌, ◌<◌, ◌≤◌, List, [], length, ◌∷◌, ◌++◌, take, drop, map, sum, get_or, replicate, Some, None, refl, ap, ◌∙◌, arith}
use Rattle.std.specs.List.{slice_get}
use Rattle.std.proofs.lemmas.List.{take-replicate, drop-replicate, drop_more, drop_all, get_or-map}
use Rattle.sf_meaning.specs.ReadTables.{time_runs}
use Rattle.sf_meaning.specs.Tables.{expand}
use Rattle.sf_meaning.specs.declared.entries.TimeRun.{TimeRun}
use Rattle.sf_cursor.specs.inner.Sound.{counts_of_runs}
use Rattle.std.proofs.lemmas.List.Sums.{sum_by-cons}

-- a sample of the first run
pub in_run : {A : Type 0} (n : ℕ) (x : A) (rest : List A) (i : ℕ) → i < n → slice_get (replicate n x ++ rest) i ≡ Some x
in_run zero x rest i lt = absurd (omega (arith, lt))
in_run (suc n) x rest zero lt = refl
in_run (suc n) x rest (suc i) lt = in_run n x rest i (omega (arith, lt))

-- a sample after the first run
pub after_run : {A : Type 0} (n : ℕ) (x : A) (rest : List A) (i : ℕ) → n ≤ i → slice_get (replicate n x ++ rest) i ≡ slice_get rest (i - n)
after_run zero x rest i le = let all : i - 0 ≡ i = omega arith in rw all refl
after_run (suc n) x rest zero le = absurd (omega (arith, le))
after_run (suc n) x rest (suc i) le =
    let one : suc i - suc n ≡ i - n = omega arith in
    rw one (after_run n x rest i (omega (arith, le)))

-- an item that isn't there
pub none_there : {A B : Type 0} (f : A → B) (xs : List A) (i : ℕ) (d : B) → slice_get xs i ≡ None → get_or (map f xs) i d ≡ d
none_there f [] i d e = refl
none_there f (x ∷ xs) zero d e = absurd (cc e)
none_there f (x ∷ xs) (suc i) d e = none_there f xs i d e

pub sum-replicate : (n d : ℕ) → sum (replicate n d) ≡ n * d
sum-replicate zero d = omega arith
sum-replicate (suc n) d = sum_by-cons (λ x. x) d (replicate n d) ∙ ap (λ (k : ℕ). d + k) (sum-replicate n d) ∙ omega arith

-- some of a list of equal sizes
pub sum-same : (count from some size : ℕ) → from + some ≤ count → sum (take some (drop from (replicate count size))) ≡ some * size
sum-same count from some size le =
    ap (λ (xs : List ℕ). sum (take some xs)) (drop-replicate from count size)
    ∙ ap sum (take-replicate some (count - from) size (omega (arith, le)))
    ∙ sum-replicate some size

-- a sample after the first runs
after_runs : (runs : List TimeRun) (k i : ℕ) → sum (take k (counts_of_runs runs)) ≤ i
    → slice_get (expand (time_runs runs)) i ≡ slice_get (expand (time_runs (drop k runs))) (i - sum (take k (counts_of_runs runs)))
after_runs runs zero i le =
    let none : i - sum (take 0 (counts_of_runs runs)) ≡ i = omega arith in
    rw none refl
after_runs [] (suc k) i le = refl
after_runs (r ∷ runs) (suc k) i le =
    let more : sum (r.count ∷ take k (counts_of_runs runs)) ≡ r.count + sum (take k (counts_of_runs runs)) = sum_by-cons (λ (x : ℕ). x) r.count (take k (counts_of_runs runs)) in
    let left : (i - r.count) - sum (take k (counts_of_runs runs)) ≡ i - sum (r.count ∷ take k (counts_of_runs runs)) = omega (arith, more) in
    after_run r.count r.delta (expand (time_runs runs)) i (omega (arith, more, le))
    ∙ after_runs runs k (i - r.count) (omega (arith, more, le))
    ∙ ap (λ (j : ℕ). slice_get (expand (time_runs (drop k runs))) j) left

-- the run of a sample gives its value
pub value_found : (runs : List TimeRun) (k i : ℕ) (d : TimeRun) → k < length runs → sum (take k (counts_of_runs runs)) ≤ i
    → i - sum (take k (counts_of_runs runs)) < (get_or runs k d).count → slice_get (expand (time_runs runs)) i ≡ Some (get_or runs k d).delta
value_found runs k i d there begun lt =
    let r : TimeRun = get_or runs k d in
    after_runs runs k i begun
    ∙ ap (λ (rs : List TimeRun). slice_get (expand (time_runs rs)) (i - sum (take k (counts_of_runs runs)))) (drop_more runs k d there)
    ∙ in_run r.count r.delta (expand (time_runs (drop (k + 1) runs))) (i - sum (take k (counts_of_runs runs))) lt

-- no run gives a sample after all of them a value
pub value_missing : (runs : List TimeRun) (k i : ℕ) → length runs ≤ k → sum (take k (counts_of_runs runs)) ≤ i → slice_get (expand (time_runs runs)) i ≡ None
value_missing runs k i all begun =
    after_runs runs k i begun
    ∙ ap (λ (rs : List TimeRun). slice_get (expand (time_runs rs)) (i - sum (take k (counts_of_runs runs)))) (drop_all k runs all)

pub run_count_at : (runs : List TimeRun) (k : ℕ) (d : TimeRun) → k < length runs → get_or (counts_of_runs runs) k 0 ≡ (get_or runs k d).count
run_count_at runs k d lt = get_or-map (λ (r : TimeRun). r.count) runs k d 0 lt
