-- What is found in sync samples that stand in order.
use Rattle.std.proofs.Common.{◌≡◌, ℕ, ◌+◌, ◌-◌, ◌≤◌, ◌<◌, ◌≢◌, ℤ, pos, ◌≤ℤ◌, ◌<ℤ◌, ◌-ℤ◌, nat_lt, ◌==◌, ◌&&◌, ◌||◌, int_le, int_lt, Bool, true, false, List, length, Option, Some, None, Contains, int_cmp, nat_cmp, is_lt as is_less, ◌⊎◌, inl, inr, refl, sym, ap, subst, ◌∙◌, arith, if◌then◌else◌}
use Rattle.std.proofs.lemmas.Int.{ints, by_lt_z}
use Rattle.std.specs.Ordering.{ordering_then}
use Rattle.sf_extract.specs.SyncAt.{distance, is_earlier, is_nearer}
use Rattle.sf_extract.specs.inner.Orders.{Beats, Finds, InOrder, IsBest, IsParted, IsSplit, IsUpTo, Rises, nearer_of, nth}
use Rattle.sf_extract.specs.declared.types.Sync.{Sync}

nat_cases : (i k : ℕ) → (i < k) ⊎ (k ≤ i)
nat_cases i k = grind arith

le_is : (a b : ℤ) → int_le a b ≡ true → a ≤ℤ b
le_is a b h = grind (arith, ints)

is_le : (a b : ℤ) → a ≤ℤ b → int_le a b ≡ true
is_le a b h = grind (arith, ints)

not_le : (a b : ℤ) → b <ℤ a → int_le a b ≡ false
not_le a b h = grind (arith, ints)

is_lt : (a b : ℤ) → a <ℤ b → int_lt a b ≡ true
is_lt a b h = grind (arith, ints)

not_lt : (a b : ℤ) → b ≤ℤ a → int_lt a b ≡ false
not_lt a b h = grind (arith, ints)

lt_is : (a b : ℤ) → int_lt a b ≡ true → a <ℤ b
lt_is a b h = grind (arith, ints)

lt_not : (a b : ℤ) → int_lt a b ≡ false → b ≤ℤ a
lt_not a b h = grind (arith, ints)

-- what comes later in order is no better where the earlier one is, and by the number where both are shown at once
earlier_beats : (s other : Sync) → IsUpTo s other → Beats is_earlier s other
earlier_beats s other h = record {
  most = not_lt other.shown_us s.shown_us h.shown;
  lower = λ lt. is_lt s.shown_us other.shown_us (h.tie lt);
}

-- what is shown from a time on doesn't stand among those before it
not_before : (order : List Sync) (us : ℤ) (k i : ℕ) (z : ℤ) → IsSplit order us k → z ≡ (nth order i).shown_us → us ≤ℤ z → k ≤ i
not_before order us k i z split e le = elim (nat_cases i k) as (λ _. k ≤ i) [
  | inl lt ↦ (let b = split.before i lt in absurd (grind (arith, ints, b, e, le)))
  | inr ge ↦ ge
]

-- the first one from a time on
pub first_from : (ss order : List Sync) (us : ℤ) (k : ℕ) → InOrder ss order → IsSplit order us k → k < length order
    → Finds is_earlier (λ s. int_le us s.shown_us) ss (Some (nth order k))
first_from ss order us k h split lt = record {
  there = h.there k lt;
  passed = is_le us (nth order k).shown_us (split.from k (omega arith) lt);
  beats = λ other i from.
      let at = h.all other i in
      subst (λ (s : Sync). Beats is_earlier (nth order k) s) at.2
      (earlier_beats (nth order k) (nth order at.0) (h.rises k at.0 (not_before order us k at.0 (nth order at.0).shown_us split refl
      (le_is us (nth order at.0).shown_us (ap (λ (s : Sync). int_le us s.shown_us) at.2 ∙ from))) at.1));
}

-- none is shown from a time on
pub none_from : (ss order : List Sync) (us : ℤ) (k : ℕ) → InOrder ss order → IsSplit order us k → length order ≤ k → Finds is_earlier (λ s. int_le us s.shown_us) ss None
none_from ss order us k h split le = λ s i.
    let at = h.all s i in
    ap (λ (x : Sync). int_le us x.shown_us) (sym at.2) ∙ not_le us (nth order at.0).shown_us (split.before at.0 (omega (arith, at.1, le)))

-- the first one of all
pub first_of_all : (ss order : List Sync) → InOrder ss order → 0 < length order → Finds is_earlier (λ _. true) ss (Some (nth order 0))
first_of_all ss order h lt = record {
  there = h.there 0 lt;
  passed = refl;
  beats = λ other i from.
      let at = h.all other i in
      subst (λ (s : Sync). Beats is_earlier (nth order 0) s) at.2 (earlier_beats (nth order 0) (nth order at.0) (h.rises 0 at.0 (omega arith) at.1));
}

pub none_at_all : (ss order : List Sync) → InOrder ss order → length order ≤ 0 → Finds is_earlier (λ _. true) ss None
none_at_all ss order h le = λ s i. (let at = h.all s i in absurd (omega (arith, at.1, le)))

-- the one in the middle is shown before a time, and so are those before it
pub parts_low : (order : List Sync) (us : ℤ) (low mid high : ℕ) → Rises order → IsParted order us low high → mid < high → (nth order mid).shown_us <ℤ us → IsParted order us (mid + 1) high
parts_low order us low mid high r h lt is = record {
  between = omega (arith, lt);
  within = h.within;
  before = λ i il. (let up = (r i mid (omega (arith, il)) (omega (arith, lt, h.within))).shown in omega (arith, ints, up, is));
  from = h.from;
}

-- it isn't, and those after it neither
pub parts_high : (order : List Sync) (us : ℤ) (low mid high : ℕ) → Rises order → IsParted order us low high → low ≤ mid → mid < high → us ≤ℤ (nth order mid).shown_us → IsParted order us low mid
parts_high order us low mid high r h le lt is = record {
  between = le;
  within = omega (arith, lt, h.within);
  before = h.before;
  from = λ i il ih. (let up = (r mid i il ih).shown in omega (arith, ints, up, is));
}

-- those before a place are shown before the time of the one there, where the one before it is
pub split_at : (order : List Sync) (us : ℤ) (k : ℕ) → Rises order → 0 < k → k < length order → us ≤ℤ (nth order k).shown_us → (nth order (k - 1)).shown_us <ℤ us → IsSplit order us k
split_at order us k r some lt at before = record {
  between = omega arith;
  within = omega (arith, lt);
  before = λ i il. (let up = (r i (k - 1) (omega (arith, il)) (omega (arith, lt, some))).shown in omega (arith, ints, up, before));
  from = λ i le il. (let up = (r k i le il).shown in omega (arith, ints, up, at));
}

-- one of two keys isn't after the other
pub upto_by : (a b : ℤ) (m n : ℕ) → is_less (ordering_then (int_cmp b a) (nat_cmp n m)) ≡ false → (a ≤ℤ b) × (n < m → a <ℤ b)
upto_by a b m n h = (grind (arith, ints, h), λ lt. grind (arith, ints, h, lt))

later_beats : (s other : Sync) → (other.shown_us ≤ℤ s.shown_us) → (other.sample < s.sample → other.shown_us <ℤ s.shown_us) → Beats (λ x y. is_earlier y x) s other
later_beats s other le tie = record {
  most = not_lt s.shown_us other.shown_us le;
  lower = λ lt. is_lt other.shown_us s.shown_us (tie lt);
}

-- a lower number that isn't shown after the first one of a time is shown before it
tie_by : (order : List Sync) (at : ℤ) (k i : ℕ) → Rises order → IsSplit order at k → i < length order → k < length order → (nth order k).shown_us ≡ at → (nth order i).shown_us ≤ℤ (nth order k).shown_us
    → (nth order i).sample < (nth order k).sample → (nth order i).shown_us <ℤ (nth order k).shown_us
tie_by order at k i r split il kl is le lt = elim (nat_cases i k) as (λ _. (nth order i).shown_us <ℤ (nth order k).shown_us) [
  | inl before ↦ subst (λ (z : ℤ). (nth order i).shown_us <ℤ z) (sym is) (split.before i before)
  | inr after ↦ (let up = (r k i after il).tie lt in absurd (grind (arith, ints, up, le)))
]

-- the first one of those that are shown at a time, where none is shown after it until another time
latest_by : (ss order : List Sync) (us at : ℤ) (k : ℕ) → InOrder ss order → IsSplit order at k → k < length order → (nth order k).shown_us ≡ at → at ≤ℤ us
    → ((i : ℕ) → i < length order → (nth order i).shown_us ≤ℤ us → (nth order i).shown_us ≤ℤ at)
    → Finds (λ s other. is_earlier other s) (λ s. int_le s.shown_us us) ss (Some (nth order k))
latest_by ss order us at k h split lt is le last = record {
  there = h.there k lt;
  passed = is_le (nth order k).shown_us us (subst (λ (z : ℤ). z ≤ℤ us) (sym is) le);
  beats = λ other i until.
      let there = h.all other i in
      let upto : (nth order there.0).shown_us ≤ℤ us = le_is (nth order there.0).shown_us us (ap (λ (s : Sync). int_le s.shown_us us) there.2 ∙ until) in
      let most : (nth order there.0).shown_us ≤ℤ (nth order k).shown_us = subst (λ (z : ℤ). (nth order there.0).shown_us ≤ℤ z) (sym is) (last there.0 there.1 upto) in
      subst (λ (s : Sync). Beats (λ x y. is_earlier y x) (nth order k) s) there.2
      (later_beats (nth order k) (nth order there.0) most (tie_by order at k there.0 h.rises split there.1 lt is most));
}

int_cases : (a b : ℤ) → (a <ℤ b) ⊎ (b ≤ℤ a)
int_cases a b = by_lt_z a b (λ h. inl h) (λ h. inr h)

-- where none is shown at a time, none of those from it on is shown until then
none_past : (order : List Sync) (us : ℤ) (k i : ℕ) → Rises order → IsSplit order us k → (k < length order → (nth order k).shown_us ≢ us) → k ≤ i → i < length order → (nth order i).shown_us ≤ℤ us → ⊥
none_past order us k i r split other le lt upto =
    let kl : k < length order = omega (arith, le, lt) in
    let up = (r k i le lt).shown in
    let from = split.from k (omega arith) kl in
    other kl (omega (arith, ints, up, from, upto))

-- of those that are shown at a time the first one is the latest until then
pub latest_at : (ss order : List Sync) (us : ℤ) (k : ℕ) → InOrder ss order → IsSplit order us k → k < length order → (nth order k).shown_us ≡ us
    → Finds (λ s other. is_earlier other s) (λ s. int_le s.shown_us us) ss (Some (nth order k))
latest_at ss order us k h split lt at = latest_by ss order us us k h split lt at (grind (arith, ints)) (λ i il le. le)

-- of those that are shown last before a time the first one is the latest until then
pub latest_before : (ss order : List Sync) (us : ℤ) (k j : ℕ) → InOrder ss order → IsSplit order us k → (k < length order → (nth order k).shown_us ≢ us) → 0 < k → IsSplit order (nth order (k - 1)).shown_us j
    → Finds (λ s other. is_earlier other s) (λ s. int_le s.shown_us us) ss (Some (nth order j))
latest_before ss order us k j h split other some again =
    let last : k - 1 < length order = omega (arith, some, split.within) in
    let low : j ≤ k - 1 = not_before order (nth order (k - 1)).shown_us j (k - 1) (nth order (k - 1)).shown_us again refl (grind (arith, ints)) in
    let there : j < length order = omega (arith, low, last) in
    let below = (h.rises j (k - 1) low last).shown in
    let above = again.from j (omega arith) there in
    let under = split.before (k - 1) (omega (arith, some)) in
    latest_by ss order us (nth order (k - 1)).shown_us j h again there (omega (arith, ints, below, above)) (omega (arith, ints, under)) (λ i il le. elim (nat_cases i k) as (λ _. (nth order i).shown_us ≤ℤ (nth order (k - 1)).shown_us) [
      | inl before ↦ (h.rises i (k - 1) (omega (arith, before)) last).shown
      | inr after ↦ absurd (none_past order us k i h.rises split other after il le)
    ])

-- none is shown until a time
pub none_until : (ss order : List Sync) (us : ℤ) (k : ℕ) → InOrder ss order → IsSplit order us k → (k < length order → (nth order k).shown_us ≢ us) → k ≤ 0
    → Finds (λ s other. is_earlier other s) (λ s. int_le s.shown_us us) ss None
none_until ss order us k h split other none = λ s i.
    let at = h.all s i in
    ap (λ (x : Sync). int_le x.shown_us us) (sym at.2)
    ∙ elim (int_cases us (nth order at.0).shown_us) as (λ _. int_le (nth order at.0).shown_us us ≡ false) [
      | inl lt ↦ not_le (nth order at.0).shown_us us lt
      | inr le ↦ absurd (none_past order us k at.0 h.rises split other (omega (arith, none)) at.1 le)
    ]

near_true : (m n : ℕ) (c : Bool) → m < n → (nat_lt m n || (m == n && c)) ≡ true
near_true m n c h = grind (arith, h)

near_false : (m n : ℕ) (c : Bool) → n ≤ m → (m ≡ n → c ≡ false) → (nat_lt m n || (m == n && c)) ≡ false
near_false m n c h e = grind (arith, h, e)

near_le : (m n : ℕ) (c : Bool) → (nat_lt m n || (m == n && c)) ≡ false → n ≤ m
near_le m n c h = grind (arith, h)

near_lt : (m n : ℕ) (c : Bool) → (nat_lt m n || (m == n && c)) ≡ true → c ≡ false → m < n
near_lt m n c h e = grind (arith, h, e)

near_or : (m n : ℕ) (c : Bool) → m ≤ n → c ≡ true → (nat_lt m n || (m == n && c)) ≡ true
near_or m n c h e = grind (arith, h, e)

far_until : (us : ℤ) (s : Sync) → s.shown_us ≤ℤ us → pos (distance us s) ≡ us -ℤ s.shown_us
far_until us s h = grind (arith, ints, h)

far_from : (us : ℤ) (s : Sync) → us ≤ℤ s.shown_us → pos (distance us s) ≡ s.shown_us -ℤ us
far_from us s h = grind (arith, ints, h)

until_nearer : (us : ℤ) (s other : Sync) → other.shown_us ≤ℤ s.shown_us → s.shown_us ≤ℤ us → (other.sample < s.sample → other.shown_us <ℤ s.shown_us) → Beats (is_nearer us) s other
until_nearer us s other le upto tie =
    let a = far_until us s upto in
    let b = far_until us other (omega (arith, ints, le, upto)) in
    record {
      most = near_false (distance us other) (distance us s) (is_earlier other s) (omega (arith, ints, a, b, le)) (λ e. not_lt other.shown_us s.shown_us (omega (arith, ints, a, b, e)));
      lower = λ lt. (let before = tie lt in near_true (distance us s) (distance us other) (is_earlier s other) (omega (arith, ints, a, b, before)));
    }

from_nearer : (us : ℤ) (s other : Sync) → s.shown_us ≤ℤ other.shown_us → us ≤ℤ s.shown_us → (other.sample < s.sample → s.shown_us <ℤ other.shown_us) → Beats (is_nearer us) s other
from_nearer us s other le from tie =
    let a = far_from us s from in
    let b = far_from us other (omega (arith, ints, le, from)) in
    record {
      most = near_false (distance us other) (distance us s) (is_earlier other s) (omega (arith, ints, a, b, le)) (λ e. not_lt other.shown_us s.shown_us le);
      lower = λ lt. (let before = tie lt in near_true (distance us s) (distance us other) (is_earlier s other) (omega (arith, ints, a, b, before)));
    }

-- one until a time is as near as one from it on, and not after it
across_until : (us : ℤ) (s other : Sync) → s.shown_us ≤ℤ us → us ≤ℤ other.shown_us → distance us s ≤ distance us other → (other.sample < s.sample → s.shown_us <ℤ other.shown_us) → Beats (is_nearer us) s other
across_until us s other upto from near tie =
    let a = far_until us s upto in
    let b = far_from us other from in
    record {
      most = near_false (distance us other) (distance us s) (is_earlier other s) near (λ e. not_lt other.shown_us s.shown_us (omega (arith, ints, upto, from)));
      lower = λ lt. (let before = tie lt in near_or (distance us s) (distance us other) (is_earlier s other) near (is_lt s.shown_us other.shown_us before));
    }

-- one from a time on is nearer than one until it
across_from : (us : ℤ) (s other : Sync) → distance us s < distance us other → Beats (is_nearer us) s other
across_from us s other near = record {
  most = near_false (distance us other) (distance us s) (is_earlier other s) (omega (arith, near)) (λ e. absurd (omega (arith, e, near)));
  lower = λ lt. near_true (distance us s) (distance us other) (is_earlier s other) near;
}

first_is : (us : ℤ) (ss : List Sync) (s other : Sync) → IsBest is_earlier (λ x. int_le us x.shown_us) ss s → Contains ss other → us ≤ℤ other.shown_us → Beats (is_nearer us) s other
first_is us ss s other h i from =
    let b = h.beats other i (is_le us other.shown_us from) in
    from_nearer us s other (lt_not other.shown_us s.shown_us b.most) (le_is us s.shown_us h.passed) (λ lt. lt_is s.shown_us other.shown_us (b.lower lt))

last_is : (us : ℤ) (ss : List Sync) (s other : Sync) → IsBest (λ x y. is_earlier y x) (λ x. int_le x.shown_us us) ss s → Contains ss other → other.shown_us ≤ℤ us → Beats (is_nearer us) s other
last_is us ss s other h i upto =
    let b = h.beats other i (is_le other.shown_us us upto) in
    until_nearer us s other (lt_not s.shown_us other.shown_us b.most) (le_is s.shown_us us h.passed) (λ lt. lt_is other.shown_us s.shown_us (b.lower lt))

le_not : (a b : ℤ) → int_le a b ≡ false → b <ℤ a
le_not a b h = grind (arith, ints)

stays_by : (us : ℤ) (ss : List Sync) (s last other : Sync) → IsBest (λ x y. is_earlier y x) (λ x. int_le x.shown_us us) ss s → IsBest is_earlier (λ x. int_le us x.shown_us) ss last → is_nearer us last s ≡ false
    → Contains ss other → us <ℤ other.shown_us → Beats (is_nearer us) s other
stays_by us ss s last other h g near i from =
    let upto = le_is s.shown_us us h.passed in
    let after = le_is us last.shown_us g.passed in
    let on : us ≤ℤ other.shown_us = omega (arith, ints, from) in
    let up = lt_not other.shown_us last.shown_us (g.beats other i (is_le us other.shown_us on)).most in
    let least = near_le (distance us last) (distance us s) (is_earlier last s) near in
    let a = far_from us last after in
    let b = far_from us other on in
    across_until us s other upto on (omega (arith, ints, least, a, b, up)) (λ lt. omega (arith, ints, upto, from))

goes_by : (us : ℤ) (ss : List Sync) (s last other : Sync) → IsBest (λ x y. is_earlier y x) (λ x. int_le x.shown_us us) ss s → IsBest is_earlier (λ x. int_le us x.shown_us) ss last → is_nearer us last s ≡ true
    → Contains ss other → other.shown_us <ℤ us → Beats (is_nearer us) last other
goes_by us ss s last other h g near i until =
    let upto = le_is s.shown_us us h.passed in
    let after = le_is us last.shown_us g.passed in
    let on : other.shown_us ≤ℤ us = omega (arith, ints, until) in
    let up = lt_not s.shown_us other.shown_us (h.beats other i (is_le other.shown_us us on)).most in
    let least = near_lt (distance us last) (distance us s) (is_earlier last s) near (not_lt last.shown_us s.shown_us (omega (arith, ints, upto, after))) in
    let a = far_until us s upto in
    let b = far_until us other on in
    across_from us last other (omega (arith, ints, least, a, b, up))

nearest_by : (us : ℤ) (ss : List Sync) (s last : Sync) (b : Bool) → IsBest (λ x y. is_earlier y x) (λ x. int_le x.shown_us us) ss s → IsBest is_earlier (λ x. int_le us x.shown_us) ss last → is_nearer us last s ≡ b
    → Finds (is_nearer us) (λ _. true) ss (if b then Some last else Some s)
nearest_by us ss s last false h g near = record {
  there = h.there;
  passed = refl;
  beats = λ other i _. elim (int_cases us other.shown_us) as (λ _. Beats (is_nearer us) s other) [
    | inl after ↦ stays_by us ss s last other h g near i after
    | inr upto ↦ last_is us ss s other h i upto
  ];
}
nearest_by us ss s last true h g near = record {
  there = g.there;
  passed = refl;
  beats = λ other i _. elim (int_cases other.shown_us us) as (λ _. Beats (is_nearer us) last other) [
    | inl before ↦ goes_by us ss s last other h g near i before
    | inr from ↦ first_is us ss last other g i from
  ];
}

-- the nearest one of all
pub nearest_of_two : (us : ℤ) (ss : List Sync) (a b : Option Sync) → Finds (λ x y. is_earlier y x) (λ x. int_le x.shown_us us) ss a → Finds is_earlier (λ x. int_le us x.shown_us) ss b
    → Finds (is_nearer us) (λ _. true) ss (nearer_of us a b)
nearest_of_two us ss None None h g = λ s i. (let x = le_not s.shown_us us (h s i) in let y = le_not us s.shown_us (g s i) in absurd (omega (arith, ints, x, y)))
nearest_of_two us ss None (Some s) h g = record {
  there = g.there;
  passed = refl;
  beats = λ other i _. (let x = le_not other.shown_us us (h other i) in first_is us ss s other g i (omega (arith, ints, x)));
}
nearest_of_two us ss (Some s) None h g = record {
  there = h.there;
  passed = refl;
  beats = λ other i _. (let x = le_not us other.shown_us (g other i) in last_is us ss s other h i (omega (arith, ints, x)));
}
nearest_of_two us ss (Some s) (Some last) h g = nearest_by us ss s last (is_nearer us last s) h g refl
