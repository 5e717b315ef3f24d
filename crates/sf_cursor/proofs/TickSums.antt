-- How long the first samples of runs last.
use Rattle.std.proofs.Common.{◌≡◌, ℕ, zero, suc, ◌+◌, ◌-◌, ◌*◌, ◌^◌, ◌<◌, ◌≤◌, min, List, [], ◌∷◌, ◌++◌, length, take, sum, get_or, replicate, refl, sym, ap, ◌∙◌, arith}
use Rattle.std.proofs.lemmas.List.{length-append, length-map, length-replicate}
use Rattle.std.proofs.lemmas.List.Sums.{sum_by-cons, sum_by-append, sum_by_more}
use Rattle.sf_meaning.specs.ReadTables.{time_runs}
use Rattle.sf_meaning.specs.Tables.{expand}
use Rattle.sf_meaning.specs.declared.entries.TimeRun.{TimeRun}
use Rattle.sf_cursor.specs.inner.Sound.{Lasts, counts_of_runs}
use Rattle.sf_cursor.specs.declared.ticks.Lasting.{Lasting}
use Rattle.sf_cursor.proofs.RunValues.{run_count_at, sum-replicate}

-- the runs have as many samples as they count
pub length_expand : (runs : List TimeRun) → length (expand (time_runs runs)) ≡ sum (counts_of_runs runs)
length_expand [] = refl
length_expand (r ∷ runs) =
    length-append (replicate r.count r.delta) (expand (time_runs runs))
    ∙ ap (λ (n : ℕ). n + length (expand (time_runs runs))) (length-replicate r.count r.delta)
    ∙ ap (λ (n : ℕ). r.count + n) (length_expand runs)
    ∙ sym (sum_by-cons (λ (x : ℕ). x) r.count (counts_of_runs runs))

-- some of a run, and some of what follows it
take_within : (n m x : ℕ) (rest : List ℕ) → m ≤ n → take m (replicate n x ++ rest) ≡ replicate m x
take_within n zero x rest le = refl
take_within zero (suc m) x rest le = absurd (omega (arith, le))
take_within (suc n) (suc m) x rest le = ap (λ (ys : List ℕ). x ∷ ys) (take_within n m x rest (omega (arith, le)))

take_past : (n m x : ℕ) (rest : List ℕ) → take (n + m) (replicate n x ++ rest) ≡ replicate n x ++ take m rest
take_past zero m x rest =
    let none : 0 + m ≡ m = omega arith in
    rw none refl
take_past (suc n) m x rest =
    let one : suc n + m ≡ suc (n + m) = omega arith in
    rw one (ap (λ (ys : List ℕ). x ∷ ys) (take_past n m x rest))

sum_past : (n m x : ℕ) (rest : List ℕ) → sum (take (n + m) (replicate n x ++ rest)) ≡ n * x + sum (take m rest)
sum_past n m x rest =
    ap sum (take_past n m x rest) ∙ sum_by-append (λ (y : ℕ). y) (replicate n x) (take m rest)
    ∙ ap (λ (k : ℕ). k + sum (take m rest)) (sum-replicate n x)

after_none : (n : ℕ) → n ≡ 0 + n
after_none n = omega arith

-- the samples before a run, and some of the run
pub sum_to : (runs : List TimeRun) (k m : ℕ) (d : TimeRun) → k < length runs → m ≤ (get_or runs k d).count
    → sum (take (sum (take k (counts_of_runs runs)) + m) (expand (time_runs runs)))
    ≡ sum (take (sum (take k (counts_of_runs runs))) (expand (time_runs runs))) + m * (get_or runs k d).delta
sum_to [] k m d lt le = absurd (omega (arith, lt))
sum_to (r ∷ runs) zero m d lt le =
    let none : sum (take 0 (counts_of_runs (r ∷ runs))) ≡ 0 = omega arith in
    let some : sum (take 0 (counts_of_runs (r ∷ runs))) + m ≡ m = omega (arith, none) in
    ap (λ (n : ℕ). sum (take n (expand (time_runs (r ∷ runs))))) some
    ∙ ap sum (take_within r.count m r.delta (expand (time_runs runs)) le)
    ∙ sum-replicate m r.delta
    ∙ after_none (m * r.delta)
sum_to (r ∷ runs) (suc k) m d lt le =
    let s : ℕ = sum (take k (counts_of_runs runs)) in
    let rest : List ℕ = expand (time_runs runs) in
    let more : sum (take (suc k) (counts_of_runs (r ∷ runs))) ≡ r.count + s = sum_by-cons (λ (x : ℕ). x) r.count (take k (counts_of_runs runs)) in
    let more_m : sum (take (suc k) (counts_of_runs (r ∷ runs))) + m ≡ r.count + (s + m) = omega (arith, more) in
    let whole : sum (take (r.count + (s + m)) (expand (time_runs (r ∷ runs)))) ≡ r.count * r.delta + sum (take (s + m) rest) = sum_past r.count (s + m) r.delta rest in
    let front : sum (take (r.count + s) (expand (time_runs (r ∷ runs)))) ≡ r.count * r.delta + sum (take s rest) = sum_past r.count s r.delta rest in
    let step : sum (take (s + m) rest) ≡ sum (take s rest) + m * (get_or runs k d).delta = sum_to runs k m d (omega (arith, lt)) le in
    ap (λ (n : ℕ). sum (take n (expand (time_runs (r ∷ runs))))) more_m ∙ whole
    ∙ omega (arith, step, front)
    ∙ sym (ap (λ (n : ℕ). sum (take n (expand (time_runs (r ∷ runs)))) + m * (get_or runs k d).delta) more)

-- the next run's samples, as many of them as are left of the first 2 ^ 24
pub ticks_step : (runs : List TimeRun) (k left : ℕ) (d : TimeRun) → k < length runs → left ≤ 16777216 → min (sum (take k (counts_of_runs runs))) 16777216 ≡ 16777216 - left
    → sum (take (16777216 - (left - min left (get_or runs k d).count)) (expand (time_runs runs)))
    ≡ sum (take (16777216 - left) (expand (time_runs runs))) + min left (get_or runs k d).count * (get_or runs k d).delta
ticks_step runs k zero d lt few e =
    let none : min 0 (get_or runs k d).count ≡ 0 = omega arith in
    let same : 16777216 - (0 - min 0 (get_or runs k d).count) ≡ 16777216 - 0 = omega arith in
    ap (λ (n : ℕ). sum (take n (expand (time_runs runs)))) same
    ∙ omega (arith, ap (λ (n : ℕ). n * (get_or runs k d).delta) none)
ticks_step runs k (suc l) d lt few e =
    let some : ℕ = min (suc l) (get_or runs k d).count in
    let s : ℕ = sum (take k (counts_of_runs runs)) in
    let here : 16777216 - suc l ≡ s = omega (arith, e, few) in
    let next : 16777216 - (suc l - some) ≡ s + some = omega (arith, e, few) in
    let le : some ≤ (get_or runs k d).count = omega arith in
    ap (λ (n : ℕ). sum (take n (expand (time_runs runs)))) next
    ∙ sum_to runs k some d lt le
    ∙ sym (ap (λ (n : ℕ). sum (take n (expand (time_runs runs))) + some * (get_or runs k d).delta) here)

-- one run further
pub one_more_run : (runs : List TimeRun) (k : ℕ) (d : TimeRun) (l m : Lasting) → k < length runs → Lasts runs k l
    → m.left ≡ l.left - min l.left (get_or runs k d).count → m.ticks ≡ l.ticks + min l.left (get_or runs k d).count * (get_or runs k d).delta
    → m.ticks ≤ (16777216 - m.left) * 2 ^ 32 → Lasts runs (k + 1) m
one_more_run runs k d l m lt is left ticks bound =
    let counts : List ℕ = counts_of_runs runs in
    let some : ℕ = min l.left (get_or runs k d).count in
    let per : get_or counts k 0 ≡ (get_or runs k d).count = run_count_at runs k d lt in
    let more : sum (take (k + 1) counts) ≡ sum (take k counts) + get_or counts k 0 =
    sum_by_more (λ (x : ℕ). x) counts k 0 (omega (arith, lt, length-map runs (λ (r : TimeRun). r.count))) in
    let step = ticks_step runs k l.left d lt is.few is.counted in
    record {
      few = omega (arith, left, is.few);
      counted = omega (arith, left, more, per, is.counted, is.few);
      ticks = ticks ∙ ap (λ (n : ℕ). n + some * (get_or runs k d).delta) is.ticks ∙ sym step
          ∙ sym (ap (λ (n : ℕ). sum (take (16777216 - n) (expand (time_runs runs)))) left);
      bound = bound;
    }
