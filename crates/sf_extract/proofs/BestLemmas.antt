-- The best of sync samples, among those that pass a test.
use Rattle.std.proofs.Common.{◌≡◌, ℕ, zero, suc, ◌+◌, ◌≤◌, ◌<◌, Bool, true, false, cond, List, [], ◌∷◌, Option, Some, None, Contains, filter, unwrap_or, ◌⊎◌, inl, inr, refl, sym, ap, subst, ◌∙◌, arith, if◌then◌else◌}
use Rattle.sf_extract.specs.SyncAt.{best, better_of}
use Rattle.sf_extract.specs.inner.Orders.{AreNumbered, Finds, IsBest}
use Rattle.sf_extract.specs.declared.types.Sync.{Sync}

head_in : (s : Sync) (ss : List Sync) → Contains (s ∷ ss) s
head_in s ss = (0, omega arith, refl)

tail_in : (s x : Sync) (ss : List Sync) → Contains ss x → Contains (s ∷ ss) x
tail_in s x ss h = (suc h.0, omega (arith, h.1), h.2)

in_cases : (s x : Sync) (ss : List Sync) → Contains (s ∷ ss) x → (s ≡ x) ⊎ Contains ss x
in_cases s x ss (zero, lt, is) = inl is
in_cases s x ss (suc k, lt, is) = inr (k, omega (arith, lt), is)

-- numbers from one on are no lower
numbered_in : (n : ℕ) (ss : List Sync) (x : Sync) → AreNumbered n ss → Contains ss x → n ≤ x.sample
numbered_in n [] x h i = absurd (omega (arith, i.1))
numbered_in n (s ∷ ss) x h i = elim (in_cases s x ss i) as (λ _. n ≤ x.sample) [
  | inl same ↦ subst (λ (y : Sync). n ≤ y.sample) same h.0
  | inr later ↦ (let lt = numbered_in (s.sample + 1) ss x h.1 later in omega (arith, lt, h.0))
]

some_same : {A : Type 0} (a b : A) → Some a ≡ Some b → a ≡ b
some_same a b e = ap (λ o. unwrap_or o a) e

filter_by : (p : Sync → Bool) (s : Sync) (ss : List Sync) (b : Bool) → p s ≡ b → filter p (s ∷ ss) ≡ cond b (s ∷ filter p ss) (filter p ss)
filter_by p s ss true e = rw e refl
filter_by p s ss false e = rw e refl

picked : (b : Bool) (x y z : Sync) → (if b then Some x else Some y) ≡ Some z → (x ≡ z) ⊎ (y ≡ z)
picked true x y z e = inl (some_same x z e)
picked false x y z e = inr (some_same y z e)

better_cases : (is_better : Sync → Sync → Bool) (s x : Sync) (o : Option Sync) → better_of is_better s o ≡ Some x → (s ≡ x) ⊎ (o ≡ Some x)
better_cases b s x None e = inl (some_same s x e)
better_cases b s x (Some y) e = elim (picked (b y s) y s x e) as (λ _. (s ≡ x) ⊎ (Some y ≡ Some x)) [
  | inl here ↦ inr (ap (λ (z : Sync). Some z) here)
  | inr there ↦ inl there
]

-- the best one is among those that pass
pub record IsAmong (p : Sync → Bool) (ss : List Sync) (x : Sync) : Type 0 where
  pub there : Contains ss x
  pub passed : p x ≡ true

best_step : (b : Sync → Sync → Bool) (p : Sync → Bool) (s : Sync) (ss : List Sync) (x : Sync) (d : Bool)
    → ((y : Sync) → best b (filter p ss) ≡ Some y → IsAmong p ss y) → p s ≡ d → best b (cond d (s ∷ filter p ss) (filter p ss)) ≡ Some x → IsAmong p (s ∷ ss) x
unfolding best
best_step b p s ss x false later is e = (let h = later x e in record { there = tail_in s x ss h.there; passed = h.passed })
best_step b p s ss x true later is e = elim (better_cases b s x (best b (filter p ss)) e) as (λ _. IsAmong p (s ∷ ss) x) [
  | inl here ↦ record { there = subst (λ (y : Sync). Contains (s ∷ ss) y) here (head_in s ss); passed = ap p (sym here) ∙ is }
  | inr there ↦ (let h = later x there in record { there = tail_in s x ss h.there; passed = h.passed })
]

best_among : (b : Sync → Sync → Bool) (p : Sync → Bool) (ss : List Sync) (x : Sync) → best b (filter p ss) ≡ Some x → IsAmong p ss x
unfolding best
best_among b p [] x e = absurd (grind (arith, e))
best_among b p (s ∷ ss) x e =
    best_step b p s ss x (p s) (λ y. best_among b p ss y) refl (sym (ap (best b) (filter_by p s ss (p s) refl)) ∙ e)

-- what was found among sync samples was found among those after the first one, where that one doesn't pass
found_later : (b : Sync → Sync → Bool) (p : Sync → Bool) (s : Sync) (ss : List Sync) (r : Option Sync) → p s ≡ false → Finds b p (s ∷ ss) r → Finds b p ss r
found_later b p s ss None fails h = λ y i. h y (tail_in s y ss i)
found_later b p s ss (Some x) fails h = record {
  there = elim (in_cases s x ss h.there) as (λ _. Contains ss x) [
    | inl same ↦ absurd (grind (arith, sym fails ∙ ap p same ∙ h.passed))
    | inr later ↦ later
  ];
  passed = h.passed;
  beats = λ y i. h.beats y (tail_in s y ss i);
}

better_first : (b : Sync → Sync → Bool) (p : Sync → Bool) (s : Sync) (ss : List Sync) (o : Option Sync) → IsBest b p (s ∷ ss) s → best b (filter p ss) ≡ o → Some s ≡ better_of b s o
better_first b p s ss None h e = refl
better_first b p s ss (Some y) h e =
    let a = best_among b p ss y e in
    let worse : b y s ≡ false = (h.beats y (tail_in s y ss a.there) a.passed).most in
    sym (ap (λ (d : Bool). if d then Some y else Some s) worse)

better_later : (b : Sync → Sync → Bool) (p : Sync → Bool) (s x : Sync) (ss : List Sync) (o : Option Sync) → IsBest b p (s ∷ ss) x → p s ≡ true → s.sample < x.sample → Some x ≡ o
    → Some x ≡ better_of b s o
better_later b p s x ss o h is lt e =
    let yes : b x s ≡ true = (h.beats s (head_in s ss) is).lower lt in
    sym (ap (λ (d : Bool). if d then Some x else Some s) yes) ∙ ap (better_of b s) e

found_first : (b : Sync → Sync → Bool) (p : Sync → Bool) (n : ℕ) (s : Sync) (ss : List Sync) (r : Option Sync) → AreNumbered n (s ∷ ss) → p s ≡ true → Finds b p (s ∷ ss) r
    → ((q : Option Sync) → Finds b p ss q → q ≡ best b (filter p ss)) → r ≡ better_of b s (best b (filter p ss))
found_first b p n s ss None a is h later = absurd (grind (arith, sym is ∙ h s (head_in s ss)))
found_first b p n s ss (Some x) a is h later = elim (in_cases s x ss h.there) as (λ _. Some x ≡ better_of b s (best b (filter p ss))) [
  | inl same ↦
      (let here = subst (λ (y : Sync). IsBest b p (s ∷ ss) y) (sym same) h in
      ap (λ (y : Sync). Some y) (sym same) ∙ better_first b p s ss (best b (filter p ss)) here refl)
  | inr there ↦
      (let lt = numbered_in (s.sample + 1) ss x a.1 there in
      better_later b p s x ss (best b (filter p ss)) h is (omega (arith, lt))
      (later (Some x) (record { there = there; passed = h.passed; beats = λ y i. h.beats y (tail_in s y ss i) })))
]

found_step : (b : Sync → Sync → Bool) (p : Sync → Bool) (n : ℕ) (s : Sync) (ss : List Sync) (r : Option Sync) (d : Bool) → AreNumbered n (s ∷ ss) → p s ≡ d → Finds b p (s ∷ ss) r
    → ((q : Option Sync) → Finds b p ss q → q ≡ best b (filter p ss)) → r ≡ best b (cond d (s ∷ filter p ss) (filter p ss))
unfolding best
found_step b p n s ss r false a is h later = later r (found_later b p s ss r is h)
found_step b p n s ss r true a is h later = found_first b p n s ss r a is h later

-- what was found is the best one of those that pass
pub found_is : (b : Sync → Sync → Bool) (p : Sync → Bool) (n : ℕ) (ss : List Sync) (r : Option Sync) → AreNumbered n ss → Finds b p ss r → r ≡ best b (filter p ss)
unfolding best
found_is b p n [] None a h = refl
found_is b p n [] (Some x) a h = absurd (let i = h.there in omega (arith, i.1))
found_is b p n (s ∷ ss) r a h =
    found_step b p n s ss r (p s) a refl h (λ q g. found_is b p (s.sample + 1) ss q a.1 g) ∙ sym (ap (best b) (filter_by p s ss (p s) refl))

filter_every : (ss : List Sync) → filter (λ _. true) ss ≡ ss
filter_every [] = refl
filter_every (s ∷ ss) = ap (λ (xs : List Sync). s ∷ xs) (filter_every ss)

-- the same where each passes
pub found_any : (b : Sync → Sync → Bool) (n : ℕ) (ss : List Sync) (r : Option Sync) → AreNumbered n ss → Finds b (λ _. true) ss r → r ≡ best b ss
found_any b n ss r a h = found_is b (λ _. true) n ss r a h ∙ ap (best b) (filter_every ss)
