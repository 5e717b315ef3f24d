-- The samples of a track that a file holds, one after the other.
use Rattle.std.proofs.Common.{◌≡◌, ℕ, zero, suc, ◌+◌, ◌-◌, ◌*◌, ◌^◌, ◌<◌, ◌≤◌, nat_le, leb-true, min, Bool, true, false, List, [], ◌∷◌, length, take, drop, sum, get_or, replicate, Some, IfSome, OnOk, Ok, Err, refl, sym, ap, subst, ◌∙◌, arith, inl, inr}
use Rattle.std.specs.List.{slice_get}
use Rattle.std.proofs.lemmas.List.{drop_all, drop_more, get_or-drop, get_or-replicate, length-drop, length-replicate, take_all}
use Rattle.std.proofs.lemmas.List.Sums.{sum_by_more}
use Rattle.std.proofs.lemmas.Option.{get_or_from_slice_get, slice_get_within}
use Rattle.sf_meaning.specs.Steps.{◌>>◌, check}
use Rattle.sf_meaning.specs.Tracks.{Step, held_in, held_sample}
use Rattle.sf_meaning.specs.declared.faults.MovieFault.{MovieFault}
use Rattle.sf_meaning.specs.declared.faults.MovieFault.TheVariants.{SampleOutside, SampleTooLarge}
use Rattle.sf_meaning.specs.declared.movie.PlainSample.{PlainSample}
use Rattle.sf_cursor.specs.inner.Held.{AreInChunk, AreInChunks, IsThere, ends_held}
use Rattle.std.proofs.lemmas.Bool.{cases_lt, le-leb}
use Rattle.sf_cursor.proofs.RunValues.{sum-same}

-- both checks of a sample, and what follows it
both_held : (a b : Bool) (f g : MovieFault) (s : PlainSample) (q : Step (Unit {0})) → (check a f >> check b g) ≡ Ok tt → ((check a f >> (check b g >> Ok s)) >> q) ≡ q
both_held true true f g s q e = refl
both_held true false f g s q e = absurd (cc e)
both_held false b f g s q e = absurd (cc e)

one_fails : (a b : Bool) (f g e' : MovieFault) (s : PlainSample) (q : Step (Unit {0})) → (check a f >> check b g) ≡ Err e' → ((check a f >> (check b g >> Ok s)) >> q) ≡ Err e'
one_fails true true f g e' s q e = absurd (cc e)
one_fails true false f g e' s q e = e
one_fails false b f g e' s q e = e

-- the items from one on
drop_at : (xs : List PlainSample) (i : ℕ) (x : PlainSample) → slice_get xs i ≡ Some x → drop i xs ≡ x ∷ drop (i + 1) xs
drop_at xs i x e = drop_more xs i x (slice_get_within xs i x e) ∙ ap (λ (y : PlainSample). y ∷ drop (i + 1) xs) (get_or_from_slice_get xs i x x e)

ends_as : (bytes track i place size : ℕ) (s : PlainSample) → s.place ≡ place → s.size ≡ size → ends_held bytes track i place size ≡ ends_held bytes track i s.place s.size
ends_as bytes track i place size s p q =
    ap (λ (n : ℕ). ends_held bytes track i n size) (sym p) ∙ ap (λ (n : ℕ). ends_held bytes track i s.place n) (sym q)

-- a sample that the file holds
held_there : (bytes track i place size : ℕ) (ss : List PlainSample) → IsThere ss i place size → ends_held bytes track i place size ≡ Ok tt
    → held_in bytes track i (drop i ss) ≡ held_in bytes track (i + 1) (drop (i + 1) ss)
held_there bytes track i place size ss h e =
    ap (held_in bytes track i) (drop_at ss i h.s h.at)
    ∙ both_held (nat_le (h.s.place + h.s.size) bytes) (nat_le h.s.size 67108864) (SampleOutside track i) (SampleTooLarge track i h.s.size) h.s (held_in bytes track (i + 1) (drop (i + 1) ss))
    (sym (ends_as bytes track i place size h.s h.place h.size) ∙ e)

-- a sample that it doesn't hold, or that is too long
stopped_there : (bytes track i place size : ℕ) (ss : List PlainSample) (f : MovieFault) → IsThere ss i place size → ends_held bytes track i place size ≡ Err f
    → held_in bytes track i (drop i ss) ≡ Err f
stopped_there bytes track i place size ss f h e =
    ap (held_in bytes track i) (drop_at ss i h.s h.at)
    ∙ one_fails (nat_le (h.s.place + h.s.size) bytes) (nat_le h.s.size 67108864) (SampleOutside track i) (SampleTooLarge track i h.s.size) f h.s (held_in bytes track (i + 1) (drop (i + 1) ss))
    (sym (ends_as bytes track i place size h.s h.place h.size) ∙ e)

-- one of a chunk, where the last one ended
there : (place : ℕ) (sizes : List ℕ) (from count i at size : ℕ) (ss : List PlainSample) → AreInChunk place sizes from count ss → from ≤ i → i < from + count
    → at ≡ place + sum (take (i - from) (drop from sizes)) → size ≡ get_or sizes i 0 → IsThere ss i at size
there place sizes from count i at size ss all low lt is same =
    let here : from + (i - from) ≡ i = omega (arith, low) in
    let h : IsThere ss (from + (i - from)) (place + sum (take (i - from) (drop from sizes))) (get_or sizes (from + (i - from)) 0) = all (i - from) (omega (arith, low, lt)) in
    record {
      s = h.s;
      at = ap (slice_get ss) (sym here) ∙ h.at;
      place = h.place ∙ sym is;
      size = h.size ∙ ap (λ (n : ℕ). get_or sizes n 0) here ∙ sym same;
    }

pub held_on : (bytes track place : ℕ) (sizes : List ℕ) (from count i at size : ℕ) (ss : List PlainSample) → AreInChunk place sizes from count ss → from ≤ i → i < from + count
    → at ≡ place + sum (take (i - from) (drop from sizes)) → size ≡ get_or sizes i 0 → ends_held bytes track i at size ≡ Ok tt
    → held_in bytes track i (drop i ss) ≡ held_in bytes track (i + 1) (drop (i + 1) ss)
held_on bytes track place sizes from count i at size ss all low lt is same e =
    held_there bytes track i at size ss (there place sizes from count i at size ss all low lt is same) e

pub held_stop : (bytes track place : ℕ) (sizes : List ℕ) (from count i at size : ℕ) (ss : List PlainSample) (f : MovieFault) → AreInChunk place sizes from count ss → from ≤ i → i < from + count
    → at ≡ place + sum (take (i - from) (drop from sizes)) → size ≡ get_or sizes i 0 → ends_held bytes track i at size ≡ Err f
    → held_in bytes track i (drop i ss) ≡ Err f
held_stop bytes track place sizes from count i at size ss f all low lt is same e =
    stopped_there bytes track i at size ss f (there place sizes from count i at size ss all low lt is same) e

-- the next one's place
pub next_place : (place : ℕ) (sizes : List ℕ) (from i at size : ℕ) → from ≤ i → i < length sizes → at ≡ place + sum (take (i - from) (drop from sizes)) → size ≡ get_or sizes i 0
    → at + size ≡ place + sum (take (i + 1 - from) (drop from sizes))
next_place place sizes from i at size low lt is same =
    let there : i - from < length (drop from sizes) = omega (arith, length-drop from sizes, low, lt) in
    let more : sum (take (i - from + 1) (drop from sizes)) ≡ sum (take (i - from) (drop from sizes)) + get_or (drop from sizes) (i - from) 0 =
    sum_by_more (λ (x : ℕ). x) (drop from sizes) (i - from) 0 there in
    let one : i + 1 - from ≡ i - from + 1 = omega (arith, low) in
    let here : from + (i - from) ≡ i = omega (arith, low) in
    let item : get_or (drop from sizes) (i - from) 0 ≡ get_or sizes i 0 = get_or-drop from sizes (i - from) 0 ∙ ap (λ (n : ℕ). get_or sizes n 0) here in
    let sums : sum (take (i + 1 - from) (drop from sizes)) ≡ sum (take (i - from) (drop from sizes)) + size =
    ap (λ (n : ℕ). sum (take n (drop from sizes))) one ∙ more ∙ ap (λ (n : ℕ). sum (take (i - from) (drop from sizes)) + n) (item ∙ sym same) in
    omega (arith, is, sums)

-- ---- samples of one size

mul-mono : (m n size : ℕ) → m ≤ n → m * size ≤ n * size
mul-mono zero n size le = omega arith
mul-mono (suc m) zero size le = absurd (omega (arith, le))
mul-mono (suc m) (suc n) size le = omega (arith, mul-mono m n size (omega (arith, le)))

within_is : (m n : ℕ) → m ≤ n → nat_le m n ≡ true
within_is m n le = le-leb m n le

-- the first ones of a chunk whose samples have one size
uniform : (bytes track place n size from count : ℕ) (ss : List PlainSample) → AreInChunk place (replicate n size) from count ss → from + count ≤ n
    → place + count * size ≤ bytes → size ≤ 67108864 → (k : ℕ) → k ≤ count → held_in bytes track from (drop from ss) ≡ held_in bytes track (from + k) (drop (from + k) ss)
uniform bytes track place n size from count ss all lt ends short zero le =
    let none : from ≡ from + 0 = omega arith in
    ap (λ (m : ℕ). held_in bytes track m (drop m ss)) none
uniform bytes track place n size from count ss all lt ends short (suc k) le =
    let sizes : List ℕ = replicate n size in
    let here : from + k - from ≡ k = omega arith in
    let sums : sum (take k (drop from sizes)) ≡ k * size = sum-same n from k size (omega (arith, lt, le)) in
    let at : place + k * size ≡ place + sum (take (from + k - from) (drop from sizes)) =
    ap (λ (m : ℕ). place + m) (sym sums ∙ ap (λ (m : ℕ). sum (take m (drop from sizes))) (sym here)) in
    let one : size ≡ get_or sizes (from + k) 0 = sym (get_or-replicate n (from + k) size 0 (omega (arith, lt, le))) in
    let more : suc k * size ≤ count * size = mul-mono (suc k) count size le in
    let next : suc k * size ≡ k * size + size = omega arith in
    let inside : nat_le (place + k * size + size) bytes ≡ true = within_is _ _ (omega (arith, more, next, ends)) in
    let low : nat_le size 67108864 ≡ true = within_is _ _ short in
    let held : ends_held bytes track (from + k) (place + k * size) size ≡ Ok tt = rw (inside, low) refl in
    let on : from + k + 1 ≡ from + suc k = omega arith in
    uniform bytes track place n size from count ss all lt ends short k (omega (arith, le))
    ∙ held_on bytes track place sizes from count (from + k) (place + k * size) size ss all (omega arith) (omega (arith, le)) at one held
    ∙ ap (λ (m : ℕ). held_in bytes track m (drop m ss)) on

pub uniform_held : (bytes track place n size from count : ℕ) (sizes : List ℕ) (ss : List PlainSample) → sizes ≡ replicate n size → AreInChunk place sizes from count ss → from + count ≤ length sizes
    → place + count * size ≤ bytes → size ≤ 67108864 → held_in bytes track from (drop from ss) ≡ held_in bytes track (from + count) (drop (from + count) ss)
uniform_held bytes track place n size from count sizes ss is all lt ends short =
    let long : length sizes ≡ n = ap (λ (xs : List ℕ). length xs) is ∙ length-replicate n size in
    uniform bytes track place n size from count ss (subst (λ (xs : List ℕ). AreInChunk place xs from count ss) is all) (omega (arith, lt, long)) ends short count (omega arith)

-- ---- each sample that is held has a place

has_place : (place size bytes : ℕ) (a : Bool) (f g : MovieFault) (q : Step (Unit {0})) (s : PlainSample) → nat_le (place + size) bytes ≡ a
    → ((check a f >> (check (nat_le size 67108864) g >> Ok s)) >> q) ≡ Ok tt → place + size ≤ bytes
has_place place size bytes true f g q s is e = leb-true (place + size) bytes is
has_place place size bytes false f g q s is e = absurd (cc e)

rest_held : (a : Step PlainSample) (q : Step (Unit {0})) → (a >> q) ≡ Ok tt → q ≡ Ok tt
rest_held (Ok s) q e = e
rest_held (Err f) q e = absurd (cc e)

pub places_held : (bytes track i : ℕ) (ss : List PlainSample) → held_in bytes track i ss ≡ Ok tt → bytes < 2 ^ 64 → (j : ℕ) → IfSome (slice_get ss j) (λ s. s.place < 2 ^ 64)
places_held bytes track i [] e lt j = tt
places_held bytes track i (s ∷ ss) e lt zero =
    let le = has_place s.place s.size bytes (nat_le (s.place + s.size) bytes) (SampleOutside track i) (SampleTooLarge track i s.size) (held_in bytes track (i + 1) ss) s refl e in
    omega (arith, le, lt)
places_held bytes track i (s ∷ ss) e lt (suc j) =
    places_held bytes track (i + 1) ss (rest_held (held_sample bytes track i s) (held_in bytes track (i + 1) ss) e) lt j

pub all_places : (r : Step (Unit {0})) (bytes track : ℕ) (ss : List PlainSample) → r ≡ held_in bytes track 0 ss → bytes < 2 ^ 64
    → OnOk r ((i : ℕ) → IfSome (slice_get ss i) (λ s. s.place < 2 ^ 64))
all_places (Ok u) bytes track ss is lt = λ i. places_held bytes track 0 ss (sym is) lt i
all_places (Err f) bytes track ss is lt = tt

-- ---- chunk by chunk

-- the next chunk's samples
pub chunk_here : (counts places sizes : List ℕ) (ss : List PlainSample) (k from some : ℕ) → from ≡ min (sum (take k counts)) (length sizes)
    → some ≡ min (get_or counts k 0) (length sizes - from) → AreInChunks counts places sizes ss → AreInChunk (get_or places k 0) sizes from some ss
chunk_here counts places sizes ss k from some reached is all =
    λ j less.
    let s : ℕ = sum (take k counts) in
    elim (cases_lt (length sizes) s) [
      | inl over ↦ absurd (omega (arith, over, reached, is, less))
      | inr within ↦
          let same : from ≡ s = omega (arith, reached, within) in
          subst (λ (n : ℕ). IsThere ss (n + j) (get_or places k 0 + sum (take j (drop n sizes))) (get_or sizes (n + j) 0)) (sym same)
          (all k j (omega (arith, less, is, same)))
    ]

pub reached_next : (counts : List ℕ) (n k from some : ℕ) → k < length counts → from ≡ min (sum (take k counts)) n → some ≡ min (get_or counts k 0) (n - from)
    → from + some ≡ min (sum (take (k + 1) counts)) n
reached_next counts n k from some there reached is =
    let more : sum (take (k + 1) counts) ≡ sum (take k counts) + get_or counts k 0 = sum_by_more (λ (x : ℕ). x) counts k 0 there in
    omega (arith, reached, is, more)

-- after all chunks no sample is left
pub held_all : (bytes track : ℕ) (counts : List ℕ) (n k from : ℕ) (ss : List PlainSample) → length counts ≤ k → from ≡ min (sum (take k counts)) n
    → n ≤ sum counts → length ss ≡ n → held_in bytes track from (drop from ss) ≡ Ok tt
held_all bytes track counts n k from ss past reached reach long =
    let whole : sum (take k counts) ≡ sum counts = ap sum (take_all k counts past) in
    ap (held_in bytes track from) (drop_all from ss (omega (arith, reached, whole, reach, long)))

pub no_samples : (bytes track i : ℕ) (ss : List PlainSample) → length ss ≡ 0 → held_in bytes track i ss ≡ Ok tt
no_samples bytes track i [] e = refl
no_samples bytes track i (s ∷ ss) e = absurd (omega (arith, e))
