-- The numbers of sync samples, and the orders that are made of them.
use Rattle.std.proofs.Common.{◌≡◌, ℕ, zero, suc, ◌+◌, ◌≤◌, ◌<◌, ℤ, pos, ◌≤ℤ◌, Bool, true, false, List, [], ◌∷◌, ◌++◌, length, map, take, drop, get_or, Option, Some, None, option_map, option_and_then, unwrap_or, Contains, IsSortedByKey, int_cmp, nat_cmp, ◌⊎◌, inl, inr, refl, sym, ap, subst, ◌∙◌, arith, if◌then◌else◌}
use Rattle.std.specs.List.{slice_get}
use Rattle.std.proofs.lemmas.Grind.{get_or_default_zero}
use Rattle.std.proofs.lemmas.Int.{ints}
use Rattle.std.proofs.lemmas.List.{append_assoc, append-nil, drop_more, drop_all, get_or-map, length-map, length_push, take_at}
use Rattle.std.proofs.lemmas.List.Elements.{Contains-get_or}
use Rattle.std.proofs.lemmas.Cmp.{int_cmp_total, nat_cmp_total, on_total, then_total}
use Rattle.std.proofs.lemmas.List.Sorted.{Contains-permutation, IsPermutation-sym, ranks_by, sorted_far}
use Rattle.std.specs.Ordering.{ordering_then}
use Rattle.std.proofs.lemmas.Option.{slice_get_past}
use Rattle.sf_meaning.specs.Shown.{shown, shown_us}
use Rattle.sf_meaning.specs.declared.movie.PlainMovie.{PlainMovie}
use Rattle.sf_meaning.specs.declared.movie.PlainSample.{PlainSample}
use Rattle.sf_meaning.specs.declared.movie.PlainTrack.{PlainTrack}
use Rattle.sf_movie.specs.Loaded.{count_of, sample_count, sync_samples, sync_samples_of}
use Rattle.sf_cursor.specs.Cursor.{numbers_in}
use Rattle.sf_extract.specs.SyncAt.{syncs_in, syncs_of}
use Rattle.sf_extract.specs.inner.Orders.{AreNumbered, AreOrders, AreTheOrders, IsOrder, Rises, Sorts, SyncsRise, kept_count, kept_number, nth, ordered, sync_of, time_at}
use Rattle.sf_extract.proofs.OrderLemmas.{upto_by}
use Rattle.sf_extract.proofs.SeatLemmas.{none_shown}
use Rattle.sf_extract.specs.declared.order.SyncOrder.{SyncOrder}
use Rattle.sf_extract.specs.declared.order.SyncOrder.TheVariants.{ByNumber, Listed}
use Rattle.sf_extract.specs.declared.types.Sync.{Sync}

shown_is : (m : PlainMovie) (t : ℕ) (track : PlainTrack) (i : ℕ) (s : PlainSample) → slice_get m.tracks t ≡ Some track → slice_get track.samples i ≡ Some s → time_at m t i ≡ shown_us m track s
unfolding shown
shown_is m t track i s found at =
    ap (λ (o : Option PlainTrack). unwrap_or (option_and_then (λ (x : PlainTrack). option_map (shown_us m x) (slice_get x.samples i)) o) (pos 0)) found
    ∙ ap (λ (o : Option PlainSample). unwrap_or (option_map (shown_us m track) o) (pos 0)) at

by_flag : (b : Bool) (f : ℕ → Sync) (x : Sync) (i : ℕ) (xs : List Sync) (ns : List ℕ) → x ≡ f i → xs ≡ map f ns → (if b then x ∷ xs else xs) ≡ map f (if b then i ∷ ns else ns)
by_flag true f x i xs ns e h = ap (λ (y : Sync). y ∷ xs) e ∙ ap (λ (ys : List Sync). f i ∷ ys) h
by_flag false f x i xs ns e h = h

syncs_by : (m : PlainMovie) (t : ℕ) (track : PlainTrack) (i : ℕ) (ss : List PlainSample) → ((k : ℕ) (s : PlainSample) → slice_get ss k ≡ Some s → time_at m t (i + k) ≡ shown_us m track s)
    → syncs_in m track i ss ≡ map (sync_of m t) (numbers_in i ss)
unfolding syncs_in
syncs_by m t track i [] h = refl
syncs_by m t track i (s ∷ ss) h =
    let first : time_at m t i ≡ shown_us m track s = subst (λ (n : ℕ). time_at m t n ≡ shown_us m track s) (omega arith) (h 0 s refl) in
    by_flag s.sync (sync_of m t) (record { sample = i; shown_us = shown_us m track s }) i (syncs_in m track (i + 1) ss) (numbers_in (i + 1) ss)
    (ap (λ (z : ℤ). record { sample = i; shown_us = z }) (sym first))
    (syncs_by m t track (i + 1) ss (λ k x e. subst (λ (n : ℕ). time_at m t n ≡ shown_us m track x) (omega arith) (h (suc k) x e)))

syncs_found : (m : PlainMovie) (t : ℕ) (found : Option PlainTrack) → slice_get m.tracks t ≡ found → syncs_of m found ≡ map (sync_of m t) (sync_samples_of found)
syncs_found m t None e = refl
syncs_found m t (Some track) e =
    syncs_by m t track 0 track.samples (λ k s at. subst (λ (n : ℕ). time_at m t n ≡ shown_us m track s) (omega arith) (shown_is m t track k s e at))

-- the sync samples of a track by their numbers
pub syncs_are : (m : PlainMovie) (t : ℕ) → syncs_of m (slice_get m.tracks t) ≡ map (sync_of m t) (sync_samples m t)
syncs_are m t = syncs_found m t (slice_get m.tracks t) refl

numbered_less : (a b : ℕ) (xs : List Sync) → a ≤ b → AreNumbered b xs → AreNumbered a xs
numbered_less a b [] le h = tt
numbered_less a b (x ∷ xs) le h = (omega (arith, le, h.0), h.1)

numbered_flag : (b : Bool) (i : ℕ) (x : Sync) (xs : List Sync) → x.sample ≡ i → AreNumbered (i + 1) xs → AreNumbered i (if b then x ∷ xs else xs)
numbered_flag true i x xs e h = (omega (arith, e), subst (λ (n : ℕ). AreNumbered (n + 1) xs) (sym e) h)
numbered_flag false i x xs e h = numbered_less i (i + 1) xs (omega arith) h

numbered_in : (m : PlainMovie) (track : PlainTrack) (i : ℕ) (ss : List PlainSample) → AreNumbered i (syncs_in m track i ss)
unfolding syncs_in
numbered_in m track i [] = tt
numbered_in m track i (s ∷ ss) = numbered_flag s.sync i (record { sample = i; shown_us = shown_us m track s }) (syncs_in m track (i + 1) ss) refl (numbered_in m track (i + 1) ss)

-- the numbers of the sync samples of a track rise
pub numbered_of : (m : PlainMovie) (found : Option PlainTrack) → AreNumbered 0 (syncs_of m found)
numbered_of m None = tt
numbered_of m (Some track) = numbered_in m track 0 track.samples

any_default : (ss : List Sync) (i : ℕ) (a b : Sync) → i < length ss → get_or ss i a ≡ get_or ss i b
any_default [] i a b lt = absurd (omega (arith, lt))
any_default (s ∷ ss) zero a b lt = refl
any_default (s ∷ ss) (suc i) a b lt = any_default ss i a b (omega (arith, lt))

-- a sort puts the samples of numbers in order
pub sorted_rises : (m : PlainMovie) (t : ℕ) (ns : List ℕ) → IsSortedByKey (λ (i : ℕ). (time_at m t i, i)) (λ (x y : ℤ × ℕ). ordering_then (int_cmp x.0 y.0) (nat_cmp x.1 y.1)) ns
    → Rises (map (sync_of m t) ns)
sorted_rises m t ns h = λ i j le lt.
    let long : length (map (sync_of m t) ns) ≡ length ns = length-map ns (sync_of m t) in
    let total = then_total (on_total (λ (p : ℤ × ℕ). p.0) int_cmp_total) (on_total (λ (p : ℤ × ℕ). p.1) nat_cmp_total) in
    let far = sorted_far _ (ranks_by total (λ (i : ℕ). (time_at m t i, i))) ns h i j 0 le (omega (arith, lt, long)) in
    let up = upto_by (time_at m t (get_or ns i 0)) (time_at m t (get_or ns j 0)) (get_or ns i 0) (get_or ns j 0) far in
    let first = get_or-map (sync_of m t) ns i 0 (record { sample = 0; shown_us = pos 0 }) (omega (arith, le, lt, long)) in
    let second = get_or-map (sync_of m t) ns j 0 (record { sample = 0; shown_us = pos 0 }) (omega (arith, lt, long)) in
    rw (first, second) (record { shown = up.0; tie = up.1 })

-- the sync samples of a track that were put in order
pub listed_order : (m : PlainMovie) (t : ℕ) (old new : List ℕ) → old ≡ sync_samples m t → Sorts (map (sync_of m t) old) (map (sync_of m t) new) → IsOrder m t (Listed new)
listed_order m t old new e h =
    let all : map (sync_of m t) old ≡ syncs_of m (slice_get m.tracks t) = ap (map (sync_of m t)) e ∙ sym (syncs_are m t) in
    let sorted : List Sync = map (sync_of m t) new in
    let long : length sorted ≡ length new = length-map new (sync_of m t) in
    record {
      in_order = record {
        rises = h.rises;
        there = λ i lt. subst (λ (ss : List Sync). Contains ss (nth sorted i)) all
            (Contains-permutation sorted (map (sync_of m t) old) (nth sorted i) (IsPermutation-sym (map (sync_of m t) old) sorted h.same) (Contains-get_or sorted i (record { sample = 0; shown_us = pos 0 }) lt));
        all = λ s i. (let at = Contains-permutation (map (sync_of m t) old) sorted s h.same (subst (λ (ss : List Sync). Contains ss s) (sym all) i) in
            (at.0, at.1, any_default sorted at.0 (record { sample = 0; shown_us = pos 0 }) s at.1 ∙ at.2));
      };
      count = long;
      at = λ k lt. get_or-map (sync_of m t) new k 0 (record { sample = 0; shown_us = pos 0 }) (omega (arith, lt, long));
    }

numbered_low : (n : ℕ) (ss : List Sync) → AreNumbered n ss → (j : ℕ) → j < length ss → n ≤ (nth ss j).sample
numbered_low n [] h j lt = absurd (omega (arith, lt))
numbered_low n (s ∷ ss) h zero lt = h.0
numbered_low n (s ∷ ss) h (suc j) lt = (let low = numbered_low (s.sample + 1) ss h.1 j (omega (arith, lt)) in omega (arith, h.0, low))

numbered_up : (n : ℕ) (ss : List Sync) → AreNumbered n ss → (i j : ℕ) → i ≤ j → j < length ss → (nth ss i).sample ≤ (nth ss j).sample
numbered_up n [] h i j le lt = absurd (omega (arith, lt))
numbered_up n (s ∷ ss) h zero zero le lt = omega arith
numbered_up n (s ∷ ss) h zero (suc j) le lt = (let low = numbered_low (s.sample + 1) ss h.1 j (omega (arith, lt)) in omega (arith, low))
numbered_up n (s ∷ ss) h (suc i) zero le lt = absurd (omega (arith, le))
numbered_up n (s ∷ ss) h (suc i) (suc j) le lt = numbered_up (s.sample + 1) ss h.1 i j (omega (arith, le)) (omega (arith, lt))

-- the sync samples of a track that are shown in the order of their numbers
pub number_order : (m : PlainMovie) (t n : ℕ) → n ≡ length (sync_samples m t) → SyncsRise m t n → IsOrder m t (ByNumber n)
number_order m t n count h =
    let ss : List Sync = syncs_of m (slice_get m.tracks t) in
    let numbers : List ℕ = sync_samples m t in
    let are : ss ≡ map (sync_of m t) numbers = syncs_are m t in
    let long : length ss ≡ n = ap length are ∙ length-map numbers (sync_of m t) ∙ sym count in
    let at : (k : ℕ) → k < length ss → nth ss k ≡ sync_of m t (get_or numbers k 0) = λ k lt.
    ap (λ (xs : List Sync). nth xs k) are ∙ get_or-map (sync_of m t) numbers k 0 (record { sample = 0; shown_us = pos 0 }) (omega (arith, lt, long, count)) in
    let shown : (k : ℕ) → k < length ss → (nth ss k).shown_us ≡ time_at m t (get_or numbers k 0) = λ k lt. ap (λ (s : Sync). s.shown_us) (at k lt) in
    record {
      in_order = record {
        rises = λ i j le lt. record {
          shown = rw (shown i (omega (arith, le, lt)), shown j lt) (h.rises i j le (omega (arith, lt, long)));
          tie = λ less. (let up = numbered_up 0 ss (numbered_of m (slice_get m.tracks t)) i j le lt in absurd (omega (arith, less, up)));
        };
        there = λ i lt. Contains-get_or ss i (record { sample = 0; shown_us = pos 0 }) lt;
        all = λ s i. (i.0, i.1, any_default ss i.0 (record { sample = 0; shown_us = pos 0 }) s i.1 ∙ i.2);
      };
      count = long;
      at = at;
    }

one_more : (i n : ℕ) → i < n + 1 → (i < n) ⊎ (i ≡ n)
one_more i n lt = grind (arith, lt)

-- one sync sample more isn't shown before an earlier one
pub rises_more : (m : PlainMovie) (t n : ℕ) (last at : ℤ) → SyncsRise m t n → ((i : ℕ) → i < n → time_at m t (get_or (sync_samples m t) i 0) ≤ℤ last) → at ≡ time_at m t (get_or (sync_samples m t) n 0) → last ≤ℤ at
    → SyncsRise m t (n + 1) × ((i : ℕ) → i < n + 1 → time_at m t (get_or (sync_samples m t) i 0) ≤ℤ at)
rises_more m t n last at h upto is le =
    let here : (i : ℕ) → i < n + 1 → time_at m t (get_or (sync_samples m t) i 0) ≤ℤ at = λ i lt. elim (one_more i n lt) as (λ _. time_at m t (get_or (sync_samples m t) i 0) ≤ℤ at) [
      | inl less ↦ (let before = upto i less in omega (arith, ints, before, le))
      | inr same ↦ subst (λ (k : ℕ). time_at m t (get_or (sync_samples m t) k 0) ≤ℤ at) (sym same) (omega (arith, ints, is))
    ] in (
      record {
        rises = λ i j ij lt. elim (one_more j n lt) as (λ _. time_at m t (get_or (sync_samples m t) i 0) ≤ℤ time_at m t (get_or (sync_samples m t) j 0)) [
          | inl less ↦ h.rises i j ij less
          | inr same ↦ subst (λ (k : ℕ). time_at m t (get_or (sync_samples m t) i 0) ≤ℤ time_at m t (get_or (sync_samples m t) k 0)) (sym same)
              (subst (λ (z : ℤ). time_at m t (get_or (sync_samples m t) i 0) ≤ℤ z) is (here i (omega (arith, ij, lt))))
        ];
      },
      here,
    )

-- the number of a sync sample is put to those before it
pub number_more : (all ns : List ℕ) (k x : ℕ) → k < length all → x ≡ get_or all k 0 → ns ++ drop k all ≡ all → (ns ++ x ∷ []) ++ drop (k + 1) all ≡ all
number_more all ns k x lt e h = append_assoc ns (x ∷ []) (drop (k + 1) all) ∙ ap (λ (l : List ℕ). ns ++ l) (sym (drop_more all k 0 lt ∙ ap (λ (y : ℕ). y ∷ drop (k + 1) all) (sym e))) ∙ h

-- at their end all were put
pub numbers_end : (all ns : List ℕ) (k : ℕ) → length all ≤ k → ns ++ drop k all ≡ all → ns ≡ all
numbers_end all ns k le h = sym (append-nil ns) ∙ ap (λ (l : List ℕ). ns ++ l) (sym (drop_all k all le)) ∙ h

pushed_below : (os : List SyncOrder) (o : SyncOrder) (k : ℕ) → k < length os → get_or (os ++ o ∷ []) k (ByNumber 0) ≡ get_or os k (ByNumber 0)
pushed_below [] o k lt = absurd (omega (arith, lt))
pushed_below (x ∷ xs) o zero lt = refl
pushed_below (x ∷ xs) o (suc k) lt = pushed_below xs o k (omega (arith, lt))

pushed_at : (os : List SyncOrder) (o : SyncOrder) (k : ℕ) → k ≡ length os → get_or (os ++ o ∷ []) k (ByNumber 0) ≡ o
pushed_at [] o zero e = refl
pushed_at [] o (suc k) e = absurd (omega (arith, e))
pushed_at (x ∷ xs) o zero e = absurd (omega (arith, e))
pushed_at (x ∷ xs) o (suc k) e = pushed_at xs o k (omega (arith, e))

other_default : (os : List SyncOrder) (t : ℕ) (a b : SyncOrder) → t < length os → get_or os t a ≡ get_or os t b
other_default [] t a b lt = absurd (omega (arith, lt))
other_default (x ∷ xs) zero a b lt = refl
other_default (x ∷ xs) (suc t) a b lt = other_default xs t a b (omega (arith, lt))

-- the order of one track more
pub order_more : (m : PlainMovie) (n : ℕ) (os : List SyncOrder) (o : SyncOrder) → AreOrders m n os → IsOrder m n o → AreOrders m (n + 1) (os ++ o ∷ [])
order_more m n os o h i = record {
  count = length_push os o ∙ ap (λ (k : ℕ). k + 1) h.count;
  each = λ t lt. elim (one_more t n (omega (arith, lt, length_push os o, h.count))) as (λ _. IsOrder m t (get_or (os ++ o ∷ []) t (ByNumber 0))) [
    | inl less ↦ (let below : t < length os = omega (arith, less, h.count) in subst (λ (x : SyncOrder). IsOrder m t x) (sym (pushed_below os o t below)) (h.each t below))
    | inr same ↦ subst (λ (x : SyncOrder). IsOrder m t x) (sym (pushed_at os o t (omega (arith, same, h.count)))) (subst (λ (k : ℕ). IsOrder m k o) (sym same) i)
  ];
}

count_past : (m : PlainMovie) (t : ℕ) → length m.tracks ≤ t → sample_count m t ≡ 0
count_past m t le = ap count_of (slice_get_past m.tracks t le)

-- no time is told of a track that isn't there
pub time_of_none : (m : PlainMovie) (t i : ℕ) → length m.tracks ≤ t → pos 0 ≡ time_at m t i
time_of_none m t i le = sym (ap (λ (o : Option ℤ). unwrap_or o (pos 0)) (none_shown m t i (omega (arith, count_past m t le))))

-- nor of a sample that isn't there
pub time_past : (m : PlainMovie) (t i : ℕ) → sample_count m t ≤ i → pos 0 ≡ time_at m t i
time_past m t i le = sym (ap (λ (o : Option ℤ). unwrap_or o (pos 0)) (none_shown m t i le))

-- the time of a sample
pub time_is : (m : PlainMovie) (t i : ℕ) (z : ℤ) → shown m t i ≡ Some z → z ≡ time_at m t i
time_is m t i z e = sym (ap (λ (o : Option ℤ). unwrap_or o (pos 0)) e)

-- there are as many sync samples as there are in order
pub order_within : (m : PlainMovie) (t k n : ℕ) (o : SyncOrder) → k < length (ordered m t o) → o ≡ ByNumber n → k < length (sync_samples m t)
order_within m t k n o lt e =
    let long : length (ordered m t o) ≡ length (sync_samples m t) = ap (λ (x : SyncOrder). length (ordered m t x)) e ∙ ap length (syncs_are m t) ∙ length-map (sync_samples m t) (sync_of m t) in
    omega (arith, lt, long)

-- the sync sample at a place, where they're shown in the order of their numbers
pub order_numbered : (m : PlainMovie) (t k n : ℕ) (o : SyncOrder) → IsOrder m t o → k < length (ordered m t o) → o ≡ ByNumber n → sync_of m t (get_or (sync_samples m t) k 0) ≡ nth (ordered m t o) k
order_numbered m t k n o h lt e = sym (h.at k lt ∙ ap (λ (x : SyncOrder). sync_of m t (kept_number m t x k)) e)

-- the same where their numbers are listed
pub order_listed : (m : PlainMovie) (t k x : ℕ) (o : SyncOrder) (ns : List ℕ) → IsOrder m t o → k < length (ordered m t o) → o ≡ Listed ns → k < length ns → x ≡ get_or ns k x
    → sync_of m t x ≡ nth (ordered m t o) k
order_listed m t k x o ns h lt e short at =
    ap (sync_of m t) (at ∙ get_or_default_zero ns k x short) ∙ sym (h.at k lt ∙ ap (λ (y : SyncOrder). sync_of m t (kept_number m t y k)) e)

-- there is a number at that place
pub order_short : (m : PlainMovie) (t k : ℕ) (o : SyncOrder) (ns : List ℕ) → k < length (ordered m t o) → o ≡ Listed ns → k < length ns
order_short m t k o ns lt e =
    let long : length (ordered m t o) ≡ length ns = ap (λ (x : SyncOrder). length (ordered m t x)) e ∙ length-map ns (sync_of m t) in
    omega (arith, lt, long)

-- how many sync samples there are
pub order_count : (m : PlainMovie) (t n : ℕ) (o x : SyncOrder) → IsOrder m t o → o ≡ x → n ≡ kept_count x → n ≡ length (ordered m t o)
order_count m t n o x h e is = is ∙ sym (h.count ∙ ap kept_count e)

-- numbers that were lent and written are those that were written
pub written_back : (xs ys : List ℕ) (n : ℕ) → length ys ≡ n → take n (ys ++ drop (length ys) xs) ≡ ys
written_back xs ys n e = take_at ys (drop (length ys) xs) n e

-- the order of a track
pub order_there : (m : PlainMovie) (t : ℕ) (os : List SyncOrder) (x : SyncOrder) → AreTheOrders m os → t < length os → x ≡ get_or os t x → IsOrder m t x
order_there m t os x h lt e = subst (λ (o : SyncOrder). IsOrder m t o) (sym (e ∙ other_default os t x (ByNumber 0) lt)) (h.each t lt)
