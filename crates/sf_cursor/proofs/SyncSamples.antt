-- The numbers of the sync samples of a track, from the table of their numbers.
use Rattle.std.proofs.Common.{◌≡◌, ℕ, zero, suc, ◌+◌, ◌-◌, ◌<◌, ◌≤◌, ◌==◌, ◌&&◌, ltb, Bool, true, false, List, [], ◌∷◌, length, get_or, Option, Some, None, refl, sym, ap, ◌∙◌, subst, arith, inl, inr, if◌then◌else◌}
use Rattle.std.specs.List.{list_any, slice_get}
use Rattle.std.proofs.lemmas.Bool.{cases_lt, ltb-true, lt-ltb, ne_eqb, eq-eqb}
use Rattle.sf_meaning.specs.Tables.{is_sync, rising}
use Rattle.sf_meaning.specs.inner.Entries.{Rises}
use Rattle.sf_meaning.specs.inner.TrackTables.{tables_view}
use Rattle.sf_meaning.specs.ReadTables.{sizes_view}
use Rattle.sf_meaning.specs.TrackSamples.{listed}
use Rattle.sf_meaning.specs.declared.track_tables.Tables.{Tables as HeldTables}
use Rattle.sf_meaning.specs.declared.movie.PlainSample.{PlainSample}
use Rattle.sf_cursor.specs.Cursor.{numbers_in}
use Rattle.sf_cursor.specs.inner.Sound.{AreAll, AreSyncs, IsTold, Sound, Tells, number_told}
use Rattle.sf_cursor.proofs.OneSample.{Law, all_listed}
use Rattle.sf_cursor.proofs.SyncNumbers.{above, both, is_none}

all_numbers : (i : ℕ) (ss : List PlainSample) → ((k : ℕ) (s : PlainSample) → slice_get ss k ≡ Some s → s.sync ≡ true) → length (numbers_in i ss) ≡ length ss
all_numbers i [] h = refl
all_numbers i (s ∷ ss) h =
    ap (λ (b : Bool). length (if b then i ∷ numbers_in (i + 1) ss else numbers_in (i + 1) ss)) (h 0 s refl) ∙ ap suc (all_numbers (i + 1) ss (λ k x e. h (suc k) x e))

number_at : (i : ℕ) (ss : List PlainSample) → ((k : ℕ) (s : PlainSample) → slice_get ss k ≡ Some s → s.sync ≡ true) → (k : ℕ) → k < length ss → get_or (numbers_in i ss) k 0 ≡ i + k
number_at i [] h k lt = absurd (omega (arith, lt))
number_at i (s ∷ ss) h zero lt = ap (λ (b : Bool). get_or (if b then i ∷ numbers_in (i + 1) ss else numbers_in (i + 1) ss) 0 0) (h 0 s refl) ∙ omega arith
number_at i (s ∷ ss) h (suc k) lt =
    let rest = number_at (i + 1) ss (λ k x e. h (suc k) x e) k (omega (arith, lt)) in
    ap (λ (b : Bool). get_or (if b then i ∷ numbers_in (i + 1) ss else numbers_in (i + 1) ss) (suc k) 0) (h 0 s refl) ∙ omega (arith, rest)

are_all : (ss : List PlainSample) → ((k : ℕ) (s : PlainSample) → slice_get ss k ≡ Some s → s.sync ≡ true) → AreAll (length ss) (numbers_in 0 ss)
are_all ss h = record {
  long = all_numbers 0 ss h;
  at = λ k lt. number_at 0 ss h k (omega (arith, lt, all_numbers 0 ss h)) ∙ omega arith;
}

at_head : (x i : ℕ) (xs ns : List ℕ) → i + 1 ≡ x → ((k : ℕ) → k < length ns → get_or ns k 0 + 1 ≡ get_or xs k 0) → (k : ℕ) → k < length (i ∷ ns) → get_or (i ∷ ns) k 0 + 1 ≡ get_or (x ∷ xs) k 0
at_head x i xs ns e h zero lt = e
at_head x i xs ns e h (suc k) lt = h k (omega (arith, lt))

within_head : (x i n : ℕ) (xs ns : List ℕ) → x ≤ n → ((k : ℕ) → k < length ns → get_or xs k 0 ≤ n) → (k : ℕ) → k < length (i ∷ ns) → get_or (x ∷ xs) k 0 ≤ n
within_head x i n xs ns e h zero lt = e
within_head x i n xs ns e h (suc k) lt = h k (omega (arith, lt))

past_head : (x i n : ℕ) (xs ns : List ℕ) → ((k : ℕ) → length ns ≤ k → k < length xs → n < get_or xs k 0) → (k : ℕ) → length (i ∷ ns) ≤ k → k < length (x ∷ xs) → n < get_or (x ∷ xs) k 0
past_head x i n xs ns h zero le lt = absurd (omega (arith, le))
past_head x i n xs ns h (suc k) le lt = h k (omega (arith, le)) (omega (arith, lt))

-- one sync sample more stands in front
tells_head : (x i n : ℕ) (xs ns : List ℕ) → i + 1 ≡ x → x ≤ n → Tells xs n ns → Tells (x ∷ xs) n (i ∷ ns)
tells_head x i n xs ns e le h = record {
  long = omega (arith, h.long);
  at = at_head x i xs ns e h.at;
  within = within_head x i n xs ns le h.within;
  past = past_head x i n xs ns h.past;
}

any_later : (x z : ℕ) (xs : List ℕ) → (x == z) ≡ false → list_any (λ n. n == z) (x ∷ xs) ≡ list_any (λ n. n == z) xs
any_later x z xs e = rw e refl

-- samples are sync by a table of numbers
abbrev AreBy : ℕ → List ℕ → List PlainSample → Type 0
AreBy i xs ss = (k : ℕ) (s : PlainSample) → slice_get ss k ≡ Some s → s.sync ≡ list_any (λ n. n == i + k + 1) xs

rest_by : (i : ℕ) (xs : List ℕ) (s : PlainSample) (ss : List PlainSample) → AreBy i xs (s ∷ ss) → AreBy (i + 1) xs ss
rest_by i xs s ss h = λ k y e. subst (λ (z : ℕ). y.sync ≡ list_any (λ n. n == z) xs) (omega arith) (h (suc k) y e)

rest_after : (i x : ℕ) (xs : List ℕ) (s : PlainSample) (ss : List PlainSample) → x ≡ i + 1 → AreBy i (x ∷ xs) (s ∷ ss) → AreBy (i + 1) xs ss
rest_after i x xs s ss same h = λ k y e. rest_by i (x ∷ xs) s ss h k y e ∙ any_later x (i + 1 + k + 1) xs (ne_eqb x (i + 1 + k + 1) (λ eq. absurd (omega (arith, eq, same))))

head_by : (i : ℕ) (xs : List ℕ) (s : PlainSample) (ss : List PlainSample) → AreBy i xs (s ∷ ss) → s.sync ≡ list_any (λ n. n == i + 1) xs
head_by i xs s ss h = subst (λ (z : ℕ). s.sync ≡ list_any (λ n. n == z) xs) (omega arith) (h 0 s refl)

first_any : (x z : ℕ) (xs : List ℕ) → x ≡ z → list_any (λ n. n == z) (x ∷ xs) ≡ true
first_any x z xs e = rw (eq-eqb x z e) refl

flagged : (b c : Bool) (i : ℕ) (ns xs : List ℕ) (n : ℕ) → b ≡ c → Tells xs n (if c then i ∷ ns else ns) → Tells xs n (if b then i ∷ ns else ns)
flagged b c i ns xs n e h = subst (λ (d : Bool). Tells xs n (if d then i ∷ ns else ns)) (sym e) h

-- the table tells the sync samples from a number on
tells : (i n : ℕ) (xs : List ℕ) (ss : List PlainSample) → n ≡ i + length ss → rising i xs ≡ true → AreBy i xs ss → Tells xs n (numbers_in i ss)
tells i n xs [] e up h = record {
  long = omega arith;
  at = λ k lt. absurd (omega (arith, lt));
  within = λ k lt. absurd (omega (arith, lt));
  past = λ k le lt. (let over = above i xs k up lt in omega (arith, over, e));
}
tells i n [] (s ∷ ss) e up h =
    flagged s.sync false i (numbers_in (i + 1) ss) [] n (head_by i [] s ss h) (tells (i + 1) n [] ss (omega (arith, e)) refl (rest_by i [] s ss h))
tells i n (x ∷ xs) (s ∷ ss) e up h =
    let p = both (ltb i x) (rising x xs) up in
    let low : i < x = ltb-true i x p.0 in
    elim (cases_lt (i + 1) x) as (λ _. Tells (x ∷ xs) n (numbers_in i (s ∷ ss))) [
      | inl over ↦
          let up' : rising (i + 1) (x ∷ xs) ≡ true = rw (lt-ltb (i + 1) x over) p.1 in
          let none : list_any (λ n. n == i + 1) (x ∷ xs) ≡ false = is_none (x ∷ xs) (i + 1) (λ k lt eq. (let high = above (i + 1) (x ∷ xs) k up' lt in absurd (omega (arith, high, eq)))) in
          flagged s.sync false i (numbers_in (i + 1) ss) (x ∷ xs) n (head_by i (x ∷ xs) s ss h ∙ none) (tells (i + 1) n (x ∷ xs) ss (omega (arith, e)) up' (rest_by i (x ∷ xs) s ss h))
      | inr here ↦
          let same : x ≡ i + 1 = omega (arith, here, low) in
          let up' : rising (i + 1) xs ≡ true = subst (λ (z : ℕ). rising z xs ≡ true) same p.1 in
          flagged s.sync true i (numbers_in (i + 1) ss) (x ∷ xs) n (head_by i (x ∷ xs) s ss h ∙ first_any x (i + 1) xs same)
          (tells_head x i n xs (numbers_in (i + 1) ss) (sym same) (omega (arith, e, same)) (tells (i + 1) n xs ss (omega (arith, e)) up' (rest_after i x xs s ss same h)))
    ]

-- the sync samples of a track, by what is told of them
pub are_syncs : (sync : Option (List ℕ)) (ss : List PlainSample) → Rises 0 sync → ((k : ℕ) (s : PlainSample) → slice_get ss k ≡ Some s → s.sync ≡ is_sync sync (k + 1)) → AreSyncs sync (length ss) (numbers_in 0 ss)
are_syncs None ss up h = are_all ss h
are_syncs (Some xs) ss up h = tells 0 (length ss) xs ss (omega arith) up (λ k s e. subst (λ (z : ℕ). s.sync ≡ list_any (λ n. n == z) xs) (omega arith) (h k s e))

-- one of them is told at its place
pub is_told : (sync : Option (List ℕ)) (n : ℕ) (ns : List ℕ) (k : ℕ) → AreSyncs sync n ns → k < length ns → IsTold sync k
is_told None n ns k h lt = tt
is_told (Some xs) n ns k h lt = (omega (arith, h.long, lt), omega (arith, h.at k lt))

-- by its number
pub told_is : (sync : Option (List ℕ)) (n : ℕ) (ns : List ℕ) (k : ℕ) → AreSyncs sync n ns → k < length ns → (number_told sync k ≡ get_or ns k 0) × (get_or ns k 0 < n)
told_is None n ns k h lt = (sym (h.at k lt), omega (arith, h.at k lt, h.long, lt))
told_is (Some xs) n ns k h lt = (omega (arith, h.at k lt), omega (arith, h.at k lt, h.within k lt))

-- how many they are where each before a place is within the count, and those from it on aren't
pub told_count : (xs : List ℕ) (n : ℕ) (ns : List ℕ) (p : ℕ) → Tells xs n ns → p ≤ length xs → ((k : ℕ) → k < p → get_or xs k 0 ≤ n) → ((k : ℕ) → p ≤ k → k < length xs → n < get_or xs k 0) → p ≡ length ns
told_count xs n ns p h le before after = elim (cases_lt p (length ns)) as (λ _. p ≡ length ns) [
  | inl less ↦ (let a = after p (omega arith) (omega (arith, less, h.long)) in let b = h.within p less in absurd (omega (arith, a, b)))
  | inr more ↦ elim (cases_lt (length ns) p) as (λ _. p ≡ length ns) [
    | inl over ↦ (let a = before (length ns) over in let b = h.past (length ns) (omega arith) (omega (arith, over, le)) in absurd (omega (arith, a, b)))
    | inr upto ↦ omega (arith, more, upto)
  ]
]

-- as many samples are listed as have a size
pub listed_length : Law → (t : HeldTables) → Sound t → length (listed (tables_view t)) ≡ length (sizes_view t.sizes)
listed_length law t sound = law.all sound.scale sound.entries (tables_view t) (listed (tables_view t)) (all_listed sound.scale sound.entries (tables_view t) sound.said)

-- the sync samples among those that are listed
pub syncs_listed : Law → (t : HeldTables) → Sound t → AreSyncs t.sync (length (listed (tables_view t))) (numbers_in 0 (listed (tables_view t)))
syncs_listed law t sound =
    are_syncs t.sync (listed (tables_view t)) sound.order.syncs
    (λ k s e. (law.each sound.scale sound.entries (tables_view t) (listed (tables_view t)) (all_listed sound.scale sound.entries (tables_view t) sound.said) k s e).1.sync)
