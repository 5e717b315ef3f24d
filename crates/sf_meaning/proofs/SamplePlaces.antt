-- One sample of the lists that tables give: its row, its decode tick, and its place and description by its chunk.
use Rattle.std.proofs.Common.{◌≡◌, ℕ, zero, suc, ℤ, pos, ◌+ℤ◌, ◌+◌, ◌-◌, ◌<◌, ◌≤◌, min, List, [], ◌∷◌, ◌++◌, length, take, drop, map, sum, get_or, replicate, Option, Some, refl, sym, ap, ◌∙◌, arith, inl, inr}
use Rattle.std.specs.List.{slice_get}
use Rattle.std.proofs.lemmas.Bool.{cases_lt}
use Rattle.std.proofs.lemmas.List.{length-append, length-take, length-drop, length-replicate, drop-drop, take-take, get_or_append_left, get_or-append_right, get_or-replicate, get_or-drop}
use Rattle.std.proofs.lemmas.List.Sums.{sum_by-cons}
use Rattle.sf_meaning.specs.Tables.{InChunk, is_sync, running, placed, described}
use Rattle.sf_meaning.specs.TrackSamples.{rows}
use Rattle.sf_meaning.specs.SampleAt.{IsChunkOf}
use Rattle.sf_meaning.specs.declared.movie.PlainSample.{PlainSample}

pub sum-cons : (x : ℕ) (xs : List ℕ) → sum (x ∷ xs) ≡ x + sum xs
sum-cons x xs = sum_by-cons (λ (y : ℕ). y) x xs

-- ---- running sums

length-running : (t : ℕ) (xs : List ℕ) → length (running t xs) ≡ length xs
length-running t [] = refl
length-running t (x ∷ xs) = ap suc (length-running (t + x) xs)

running_at : (t : ℕ) (xs : List ℕ) (i : ℕ) → i < length xs → get_or (running t xs) i 0 ≡ t + sum (take i xs)
running_at t [] i lt = absurd (omega (arith, lt))
running_at t (x ∷ xs) zero lt = omega arith
running_at t (x ∷ xs) (suc i) lt = running_at (t + x) xs i (omega (arith, lt)) ∙ omega (arith, sum-cons x (take i xs))

-- when a sample is decoded
pub decode_at : (deltas : List ℕ) (i : ℕ) → i < length (running 0 deltas) → get_or (running 0 deltas) i 0 ≡ sum (take i deltas)
decode_at deltas i lt = running_at 0 deltas i (omega (arith, lt, length-running 0 deltas)) ∙ omega arith

-- ---- a row

-- A sample is row i of these lists.
pub record RowAt (number i : ℕ) (sizes decodes : List ℕ) (offsets : List ℤ) (sync : Option (List ℕ)) (places descriptions : List ℕ) (s : PlainSample) : Type 0 where
  pub sized : i < length sizes
  pub decoded : i < length decodes
  pub stands : i < length places
  pub size : s.size ≡ get_or sizes i 0
  pub decode : s.decode ≡ get_or decodes i 0
  pub compose : s.compose ≡ pos s.decode +ℤ get_or offsets i (pos 0)
  pub is_sync_so : s.sync ≡ is_sync sync (number + i)
  pub place : s.place ≡ get_or places i 0
  pub description : s.description ≡ get_or descriptions i 0

pub row_is : (number i : ℕ) (sizes decodes : List ℕ) (offsets : List ℤ) (sync : Option (List ℕ)) (places descriptions : List ℕ) (s : PlainSample)
    → slice_get (rows number sizes decodes offsets sync places descriptions) i ≡ Some s → RowAt number i sizes decodes offsets sync places descriptions s
row_is number i [] decodes offsets sync places descriptions s e = absurd (cc e)
row_is number i (z ∷ sizes) [] offsets sync places descriptions s e = absurd (cc e)
row_is number i (z ∷ sizes) (d ∷ decodes) offsets sync [] descriptions s e = absurd (cc e)
row_is number i (z ∷ sizes) (d ∷ decodes) offsets sync (p ∷ places) [] s e = absurd (cc e)
row_is number zero (z ∷ sizes) (d ∷ decodes) offsets sync (p ∷ places) (k ∷ descriptions) s e =
    let it : PlainSample = record { decode = d; compose = pos d +ℤ get_or offsets 0 (pos 0); sync = is_sync sync number; place = p; size = z; description = k } in
    let is : s ≡ it = cc e in
    let first : number ≡ number + 0 = omega arith in
    record {
      sized = omega arith;
      decoded = omega arith;
      stands = omega arith;
      size = ap (λ (x : PlainSample). x.size) is;
      decode = ap (λ (x : PlainSample). x.decode) is;
      compose = ap (λ (x : PlainSample). x.compose) is ∙ ap (λ (n : ℕ). pos n +ℤ get_or offsets 0 (pos 0)) (sym (ap (λ (x : PlainSample). x.decode) is));
      is_sync_so = ap (λ (x : PlainSample). x.sync) is ∙ ap (is_sync sync) first;
      place = ap (λ (x : PlainSample). x.place) is;
      description = ap (λ (x : PlainSample). x.description) is;
    }
row_is number (suc i) (z ∷ sizes) (d ∷ decodes) offsets sync (p ∷ places) (k ∷ descriptions) s e =
    let r = row_is (number + 1) i sizes decodes (drop 1 offsets) sync places descriptions s e in
    let next : (number + 1) + i ≡ number + suc i = omega arith in
    let one : 1 + i ≡ suc i = omega arith in
    record {
      sized = omega (arith, r.sized);
      decoded = omega (arith, r.decoded);
      stands = omega (arith, r.stands);
      size = r.size;
      decode = r.decode;
      compose = r.compose ∙ ap (λ (o : ℤ). pos s.decode +ℤ o) (get_or-drop 1 offsets i (pos 0) ∙ ap (λ (n : ℕ). get_or offsets n (pos 0)) one);
      is_sync_so = r.is_sync_so ∙ ap (is_sync sync) next;
      place = r.place;
      description = r.description;
    }

-- ---- a place

abbrev pub pers : List InChunk → List ℕ
pers es = map (λ e. e.per) es

abbrev pub named : List InChunk → List ℕ
named es = map (λ e. e.description) es

-- Where a sample stands, and what describes it, by its chunk.
pub record PlaceAt (places : List ℕ) (es : List InChunk) (sizes : List ℕ) (i : ℕ) : Type 0 where
  pub c : ℕ
  pub chunk : IsChunkOf (pers es) i c
  pub place : get_or (placed places (pers es) sizes) i 0 ≡ get_or places c 0 + sum (take (i - sum (take c (pers es))) (drop (sum (take c (pers es))) sizes))
  pub description : get_or (described es) i 0 ≡ get_or (named es) c 0

-- a sample of the first chunk
in_first : (p : ℕ) (ps : List ℕ) (e : InChunk) (es : List InChunk) (sizes : List ℕ) (i : ℕ) → i < length sizes → i < e.per → PlaceAt (p ∷ ps) (e ∷ es) sizes i
in_first p ps e es sizes i sized lt =
    let front : List ℕ = running p (take e.per sizes) in
    let rest : List ℕ = placed ps (pers es) (drop e.per sizes) in
    let cut : length (take e.per sizes) ≡ min e.per (length sizes) = length-take e.per sizes in
    let long : length front ≡ length (take e.per sizes) = length-running p (take e.per sizes) in
    let one : sum (take 1 (pers (e ∷ es))) ≡ e.per = omega arith in
    let none : i - 0 ≡ i = omega arith in
    record {
      c = 0;
      chunk = record { past = omega (arith, one, lt); least = λ d h. omega arith };
      place = get_or_append_left front rest 0 i (omega (arith, cut, long, sized, lt))
          ∙ running_at p (take e.per sizes) i (omega (arith, cut, sized, lt))
          ∙ ap (λ (xs : List ℕ). p + sum xs) (take-take i e.per sizes (omega (arith, lt)))
          ∙ ap (λ (m : ℕ). p + sum (take m sizes)) (sym none);
      description = get_or_append_left (replicate e.per e.description) (described es) 0 i (omega (arith, length-replicate {A = ℕ} e.per e.description, lt))
          ∙ get_or-replicate e.per i e.description 0 lt;
    }

-- the chunk after the first one
least_behind : (n : ℕ) (ns : List ℕ) (i c : ℕ) → n ≤ i → IsChunkOf ns (i - n) c → (d : ℕ) → i < sum (take (d + 1) (n ∷ ns)) → suc c ≤ d
least_behind n ns i c le k zero h =
    let one : sum (take 1 (n ∷ ns)) ≡ n = omega arith in
    absurd (omega (arith, h, one, le))
least_behind n ns i c le k (suc d) h =
    let more : sum (n ∷ take (d + 1) ns) ≡ n + sum (take (d + 1) ns) = sum-cons n (take (d + 1) ns) in
    let back : suc d + 1 ≡ suc (d + 1) = omega arith in
    let all : sum (take (suc d + 1) (n ∷ ns)) ≡ sum (n ∷ take (d + 1) ns) = ap (λ (m : ℕ). sum (take m (n ∷ ns))) back in
    let past : i - n < sum (take (d + 1) ns) = omega (arith, h, more, all, le) in
    let after : c ≤ d = k.least d past in
    omega (arith, after)

behind_first : (p : ℕ) (ps : List ℕ) (e : InChunk) (es : List InChunk) (sizes : List ℕ) (i : ℕ) → i < length sizes → e.per ≤ i
    → PlaceAt ps es (drop e.per sizes) (i - e.per) → PlaceAt (p ∷ ps) (e ∷ es) sizes i
behind_first p ps e es sizes i sized le k =
    let n : ℕ = e.per in
    let front : List ℕ = running p (take n sizes) in
    let rest : List ℕ = placed ps (pers es) (drop n sizes) in
    let earlier : ℕ = sum (take k.c (pers es)) in
    let cut : length (take n sizes) ≡ min n (length sizes) = length-take n sizes in
    let long : length front ≡ n = omega (arith, cut, length-running p (take n sizes), sized, le) in
    let more : sum (n ∷ take k.c (pers es)) ≡ n + earlier = sum-cons n (take k.c (pers es)) in
    let next : sum (n ∷ take (k.c + 1) (pers es)) ≡ n + sum (take (k.c + 1) (pers es)) = sum-cons n (take (k.c + 1) (pers es)) in
    let past : i - n < sum (take (k.c + 1) (pers es)) = k.chunk.past in
    let back : suc k.c + 1 ≡ suc (k.c + 1) = omega arith in
    let all : sum (take (suc k.c + 1) (n ∷ pers es)) ≡ sum (n ∷ take (k.c + 1) (pers es)) = ap (λ (m : ℕ). sum (take m (n ∷ pers es))) back in
    let left : (i - n) - earlier ≡ i - (n + earlier) = omega arith in
    record {
      c = suc k.c;
      chunk = record { past = omega (arith, next, all, past, le); least = least_behind n (pers es) i k.c le k.chunk };
      place = get_or-append_right front rest n i 0 long le ∙ k.place
          ∙ ap (λ (xs : List ℕ). get_or ps k.c 0 + sum (take ((i - n) - earlier) xs)) (drop-drop earlier n sizes)
          ∙ ap (λ (m : ℕ). get_or ps k.c 0 + sum (take m (drop (n + earlier) sizes))) left
          ∙ ap (λ (m : ℕ). get_or ps k.c 0 + sum (take (i - m) (drop m sizes))) (sym more);
      description = get_or-append_right (replicate n e.description) (described es) n i 0 (length-replicate n e.description) le ∙ k.description;
    }

pub place_is : (places : List ℕ) (es : List InChunk) (sizes : List ℕ) (i : ℕ) → i < length sizes → i < length (placed places (pers es) sizes) → PlaceAt places es sizes i
place_is [] es sizes i sized lt = absurd (omega (arith, lt))
place_is (p ∷ ps) [] sizes i sized lt = absurd (omega (arith, lt))
place_is (p ∷ ps) (e ∷ es) sizes i sized lt =
    elim (cases_lt i e.per) [
      | inl first ↦ in_first p ps e es sizes i sized first
      | inr behind ↦
          let n : ℕ = e.per in
          let rest : List ℕ = placed ps (pers es) (drop n sizes) in
          let cut : length (take n sizes) ≡ min n (length sizes) = length-take n sizes in
          let long : length (running p (take n sizes) ++ rest) ≡ length (running p (take n sizes)) + length rest = length-append (running p (take n sizes)) rest in
          behind_first p ps e es sizes i sized behind
          (place_is ps es (drop n sizes) (i - n) (omega (arith, length-drop n sizes, sized, behind)) (omega (arith, long, length-running p (take n sizes), cut, lt, sized, behind)))
    ]

-- ---- how many there are

pub length-placed : (places counts sizes : List ℕ) → length counts ≤ length places → length sizes ≤ sum counts → length (placed places counts sizes) ≡ length sizes
length-placed [] [] sizes le many = omega (arith, many)
length-placed [] (n ∷ counts) sizes le many = absurd (omega (arith, le))
length-placed (p ∷ places) [] sizes le many = omega (arith, many)
length-placed (p ∷ places) (n ∷ counts) sizes le many =
    let more : sum (n ∷ counts) ≡ n + sum counts = sum-cons n counts in
    let rest = length-placed places counts (drop n sizes) (omega (arith, le)) (omega (arith, length-drop n sizes, more, many)) in
    omega (
      arith,
      length-append (running p (take n sizes)) (placed places counts (drop n sizes)),
      length-running p (take n sizes),
      length-take n sizes,
      length-drop n sizes,
      rest,
    )

pub length-described : (es : List InChunk) → length (described es) ≡ sum (pers es)
length-described [] = refl
length-described (e ∷ es) =
    omega (arith, length-append (replicate e.per e.description) (described es), length-replicate {A = ℕ} e.per e.description, length-described es, sum-cons e.per (pers es))

pub length-rows : (number n : ℕ) (sizes decodes : List ℕ) (offsets : List ℤ) (sync : Option (List ℕ)) (places descriptions : List ℕ)
    → length sizes ≡ n → n ≤ length decodes → n ≤ length places → n ≤ length descriptions → length (rows number sizes decodes offsets sync places descriptions) ≡ n
length-rows number n [] decodes offsets sync places descriptions z d p k = z
length-rows number n (x ∷ sizes) [] offsets sync places descriptions z d p k = absurd (omega (arith, z, d))
length-rows number n (x ∷ sizes) (y ∷ decodes) offsets sync [] descriptions z d p k = absurd (omega (arith, z, p))
length-rows number n (x ∷ sizes) (y ∷ decodes) offsets sync (q ∷ places) [] z d p k = absurd (omega (arith, z, k))
length-rows number n (x ∷ sizes) (y ∷ decodes) offsets sync (q ∷ places) (r ∷ descriptions) z d p k =
    let rest = length-rows (number + 1) (length sizes) sizes decodes (drop 1 offsets) sync places descriptions refl (omega (arith, z, d)) (omega (arith, z, p)) (omega (arith, z, k)) in
    omega (arith, rest, z)

pub length-decodes : (deltas : List ℕ) → length (running 0 deltas) ≡ length deltas
length-decodes deltas = length-running 0 deltas
