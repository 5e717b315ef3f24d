-- Chunks that are picked one after the other are in order.
use Rattle.std.proofs.Common.{◌≡◌, ℕ, zero, suc, ◌+◌, ◌<◌, ◌≤◌, List, [], ◌∷◌, ◌++◌, length, drop, Option, Some, None, refl, sym, subst, ap, ◌∙◌, inl, inr, arith, get_or-set_same, get_or-set_other}
use Rattle.std.specs.Prelude.{slice_get, ◌==◌}
use Rattle.std.specs.List.{AllByRecursion}
use Rattle.std.proofs.lemmas.Bool.{cases_eq, cases_order}
use Rattle.std.proofs.lemmas.List.Elements.{filter-append}
use Rattle.sf_tick.specs.declared.types.Stored.{Stored}
use Rattle.sf_tick.specs.declared.types.Chunk.{Chunk}
use Rattle.sf_gather.specs.declared.given.LastSample.{LastSample}
use Rattle.sf_gather.specs.Accepting.{kept_of, last_from}
use Rattle.sf_gather.specs.Chunks.{first_us}
use Rattle.sf_gather.specs.Proper.{AllFollow, AreChunks, Proper, samples_of}
use Rattle.sf_gather.proofs.GatherLaws.{follow_append}
use Rattle.sf_layout.specs.Layout.{track_chunks}
use Rattle.sf_interleave.specs.Waiting.{earliest_front, earlier_chunk, how_many, list_of, without_front, OfTheirTracks}
use Rattle.sf_interleave.proofs.WaitingLaws.{picked_first as first_of_list, picked_fewer, picked_least, picked_lowest, picked_none, their_without}
use Rattle.sf_series.specs.Order.{IsBefore, Ordered, Rises, InOrder, with_more, picks, in_order}
use Rattle.sf_series.proofs.Lists.{one, list_without, some_inside}

-- each list rises
abbrev pub AllRise : List (List Chunk) → Type 0
AllRise lists = (track : ℕ) → Rises (list_of lists track)

rises_rest : (list : List Chunk) → Rises list → Rises (drop 1 list)
rises_rest [] rises = tt
rises_rest (c ∷ []) rises = tt
rises_rest (c ∷ d ∷ list) rises = rises.2

-- lists still rise without a first chunk
rise_without : (lists : List (List Chunk)) (c : Chunk) → list_of lists c.track ≡ c ∷ drop 1 (list_of lists c.track) → AllRise lists → AllRise (without_front lists c.track)
rise_without lists c first rise t =
    let P : List Chunk → Type 0 = λ cs. Rises cs in
    elim (cases_eq c.track t) [
      | inl same ↦ (let inside = some_inside lists c.track c (drop 1 (list_of lists c.track)) first in
          let Q : ℕ → Type 0 = λ n. Rises (list_of (without_front lists c.track) n) in
          subst Q same (subst P (sym (get_or-set_same lists c.track (drop 1 (list_of lists c.track)) [] inside)) (rises_rest (list_of lists c.track) (rise c.track))))
      | inr other ↦ (let different : t ≡ c.track → ⊥ = λ (e : t ≡ c.track). other (sym e) in
          subst P (sym (get_or-set_other lists c.track t (drop 1 (list_of lists c.track)) [] different)) (rise t))
    ]

-- the second chunk of a list comes after the first
second_after : (list rest : List Chunk) (c d : Chunk) → list ≡ c ∷ (d ∷ rest) → Rises list → (c.first_us ≤ d.first_us) × (c.number < d.number)
second_after list rest c d e rises = let P : List Chunk → Type 0 = λ cs. Rises cs in let both : Rises (c ∷ (d ∷ rest)) = subst P e rises in (both.0, both.1)

before_same : (c d : Chunk) → c.track ≡ d.track → c.first_us ≤ d.first_us → c.number < d.number → IsBefore c d
before_same c d e le less =
    elim (cases_order c.first_us d.first_us) [
      | inl same ↦ inr (same, inr (e, less))
      | inr different ↦ elim different [ inl earlier ↦ inl earlier | inr later ↦ absurd (omega arith) ]
    ]

before_other : (c d : Chunk) → (c.track ≡ d.track → ⊥) → c.first_us ≤ d.first_us → (d.track < c.track → c.first_us < d.first_us) → IsBefore c d
before_other c d other le lowest =
    elim (cases_order c.track d.track) [
      | inl same ↦ absurd (other same)
      | inr different ↦ elim different [
        | inl lower ↦ elim (cases_order c.first_us d.first_us) [
          | inl at_once ↦ inr (at_once, inl lower)
          | inr apart ↦ elim apart [ inl earlier ↦ inl earlier | inr later ↦ absurd (omega arith) ]
        ]
        | inr higher ↦ inl (lowest higher)
      ]
    ]

-- what is picked next comes after what was picked
next_after : (lists : List (List Chunk)) (c d : Chunk) → OfTheirTracks 0 lists → AllRise lists → earliest_front lists ≡ Some c → earliest_front (without_front lists c.track) ≡ Some d → IsBefore c d
next_after lists c d all rise e f =
    let first = first_of_list lists c all e in
    let second = first_of_list (without_front lists c.track) d (their_without lists c.track all) f in
    elim (cases_eq c.track d.track) [
      | inl same ↦ (let inside = some_inside lists c.track c (drop 1 (list_of lists c.track)) first in
          let here : list_of (without_front lists c.track) d.track ≡ drop 1 (list_of lists c.track) =
          ap (λ (n : ℕ). list_of (without_front lists c.track) n) (sym same) ∙ get_or-set_same lists c.track (drop 1 (list_of lists c.track)) [] inside in
          let whole : list_of lists c.track ≡ c ∷ (d ∷ drop 1 (list_of (without_front lists c.track) d.track)) = first ∙ ap (λ (cs : List Chunk). c ∷ cs) (sym here ∙ second) in
          let both = second_after (list_of lists c.track) (drop 1 (list_of (without_front lists c.track) d.track)) c d whole (rise c.track) in
          before_same c d same both.0 both.1)
      | inr other ↦ (let different : d.track ≡ c.track → ⊥ = λ (w : d.track ≡ c.track). other (sym w) in
          let there : list_of lists d.track ≡ d ∷ drop 1 (list_of (without_front lists c.track) d.track) =
          sym (get_or-set_other lists c.track d.track (drop 1 (list_of lists c.track)) [] different) ∙ second in
          before_other c d other (picked_least lists c d (drop 1 (list_of (without_front lists c.track) d.track)) d.track e there)
          (λ lower. picked_lowest lists c d (drop 1 (list_of (without_front lists c.track) d.track)) d.track all e there lower))
    ]

-- picks, one by one
picks_some : (n : ℕ) (lists : List (List Chunk)) (c : Chunk) → earliest_front lists ≡ Some c → picks (suc n) lists ≡ c ∷ picks n (without_front lists c.track)
picks_some n lists c e = ap (λ (o : Option Chunk). with_more o (λ chunk. picks n (without_front lists chunk.track))) e

picks_none : (n : ℕ) (lists : List (List Chunk)) → earliest_front lists ≡ None → picks n lists ≡ []
picks_none zero lists e = refl
picks_none (suc n) lists e = ap (λ (o : Option Chunk). with_more o (λ chunk. picks n (without_front lists chunk.track))) e

pub order_next : (lists : List (List Chunk)) (c : Chunk) → OfTheirTracks 0 lists → earliest_front lists ≡ Some c → in_order lists ≡ c ∷ in_order (without_front lists c.track)
order_next lists c all e =
    let fewer : suc (how_many (without_front lists c.track)) ≡ how_many lists = omega (arith, picked_fewer lists c all e) in
    ap (λ (n : ℕ). picks n lists) (sym fewer) ∙ picks_some (how_many (without_front lists c.track)) lists c e

pub order_none : (lists : List (List Chunk)) → earliest_front lists ≡ None → in_order lists ≡ []
order_none lists e = picks_none (how_many lists) lists e

-- what picks give is ordered, and whole
ordered_cons : (c : Chunk) (o : Option Chunk) (more : Chunk → List Chunk) → ((d : Chunk) → o ≡ Some d → IsBefore c d) → Ordered (with_more o more) → Ordered (c ∷ with_more o more)
ordered_cons c None more before ordered = tt
ordered_cons c (Some d) more before ordered = (before d refl, ordered)

picks_behind : (n : ℕ) (lists : List (List Chunk)) (c : Chunk) → OfTheirTracks 0 lists → AllRise lists → earliest_front lists ≡ Some c → Ordered (picks n (without_front lists c.track))
    → Ordered (c ∷ picks n (without_front lists c.track))
picks_behind zero lists c all rise e ordered = tt
picks_behind (suc n) lists c all rise e ordered =
    ordered_cons c (earliest_front (without_front lists c.track)) (λ chunk. picks n (without_front (without_front lists c.track) chunk.track)) (λ d f. next_after lists c d all rise e f) ordered

ordered_if : (n : ℕ) (lists : List (List Chunk)) (o : Option Chunk) → earliest_front lists ≡ o → ((c : Chunk) → o ≡ Some c → Ordered (c ∷ picks n (without_front lists c.track)))
    → Ordered (with_more o (λ chunk. picks n (without_front lists chunk.track)))
ordered_if n lists None e more = tt
ordered_if n lists (Some c) e more = more c refl

picks_ordered : (n : ℕ) (lists : List (List Chunk)) → OfTheirTracks 0 lists → AllRise lists → Ordered (picks n lists)
picks_ordered zero lists all rise = tt
picks_ordered (suc n) lists all rise =
    ordered_if n lists (earliest_front lists) refl
    (λ c e. picks_behind n lists c all rise e
    (picks_ordered n (without_front lists c.track) (their_without lists c.track all) (rise_without lists c (first_of_list lists c all e) rise)))

whole_if : (n t : ℕ) (lists : List (List Chunk)) (o : Option Chunk) → OfTheirTracks 0 lists → earliest_front lists ≡ o → how_many lists ≡ suc n
    → ((c : Chunk) → how_many (without_front lists c.track) ≡ n → OfTheirTracks 0 (without_front lists c.track) → track_chunks t (picks n (without_front lists c.track)) ≡ list_of (without_front lists c.track) t)
    → track_chunks t (with_more o (λ chunk. picks n (without_front lists chunk.track))) ≡ list_of lists t
whole_if n t lists None all e many more = sym (picked_none lists t e)
whole_if n t lists (Some c) all e many more =
    filter-append (λ (d : Chunk). d.track == t) (c ∷ []) (picks n (without_front lists c.track))
    ∙ ap (λ (cs : List Chunk). one c t ++ cs) (more c (let fewer = picked_fewer lists c all e in omega arith) (their_without lists c.track all))
    ∙ list_without lists c t (first_of_list lists c all e)

none_left : (lists : List (List Chunk)) (t : ℕ) → how_many lists ≡ 0 → list_of lists t ≡ []
none_left [] t e = refl
none_left ([] ∷ lists) zero e = refl
none_left ((c ∷ list) ∷ lists) zero e = absurd (omega arith)
none_left (list ∷ lists) (suc t) e = none_left lists t (omega arith)

picks_whole : (n t : ℕ) (lists : List (List Chunk)) → OfTheirTracks 0 lists → how_many lists ≡ n → track_chunks t (picks n lists) ≡ list_of lists t
picks_whole zero t lists all e = sym (none_left lists t e)
picks_whole (suc n) t lists all e = whole_if n t lists (earliest_front lists) all refl e (λ c many theirs. picks_whole n t (without_front lists c.track) theirs many)

-- the chunks of lists that rise, the earliest first, are in their order
pub order_is : (lists : List (List Chunk)) → OfTheirTracks 0 lists → ((t : ℕ) → Rises (list_of lists t)) → InOrder lists (in_order lists)
order_is lists all rise = record { ordered = picks_ordered (how_many lists) lists all rise; whole = λ t. picks_whole (how_many lists) t lists all refl }

-- where the first chunks are the same, the same one is picked
pub same_fronts : (lists others : List (List Chunk)) → length lists ≡ length others → ((t : ℕ) → slice_get (list_of lists t) 0 ≡ slice_get (list_of others t) 0) → earliest_front lists ≡ earliest_front others
same_fronts [] [] same fronts = refl
same_fronts [] (other ∷ others) same fronts = absurd (omega arith)
same_fronts (list ∷ lists) [] same fronts = absurd (omega arith)
same_fronts (list ∷ lists) (other ∷ others) same fronts =
    ap (λ (o : Option Chunk). earlier_chunk o (earliest_front lists)) (fronts 0)
    ∙ ap (λ (o : Option Chunk). earlier_chunk (slice_get other 0) o) (same_fronts lists others (omega arith) (λ t. fronts (suc t)))

-- the chunks of a proper list without empty ones rise
first_before : (scale : ℕ) (s : Stored) (ss rest : List Stored) (next : Stored) → AllFollow scale (Some (kept_of s)) (ss ++ next ∷ rest) → s.dts_us ≤ next.dts_us
first_before scale s [] rest next follow = follow.0.rises
first_before scale s (t ∷ ss) rest next follow =
    let here : s.dts_us ≤ t.dts_us = follow.0.rises in
    let later : t.dts_us ≤ next.dts_us = first_before scale t ss rest next follow.1 in
    omega arith

starts_rise : (scale : ℕ) (last : Option LastSample) (xs ys rest : List Stored) → 0 < length xs → 0 < length ys → AllFollow scale last (xs ++ (ys ++ rest)) → first_us xs ≤ first_us ys
starts_rise scale last [] ys rest some more follow = absurd (omega arith)
starts_rise scale last (s ∷ ss) [] rest some more follow = absurd (omega arith)
starts_rise scale last (s ∷ ss) (y ∷ ys) rest some more follow = first_before scale s ss (ys ++ rest) y follow.1

rises_from : (t n scale : ℕ) (last : Option LastSample) (cs : List Chunk) → AreChunks t n cs → AllFollow scale last (samples_of cs) → AllByRecursion (λ c. 0 < length c.samples) cs → Rises cs
rises_from t n scale last [] are follow filled = tt
rises_from t n scale last (c ∷ []) are follow filled = tt
rises_from t n scale last (c ∷ d ∷ cs) are follow filled =
    let starts : first_us c.samples ≤ first_us d.samples = starts_rise scale last c.samples d.samples (samples_of cs) filled.0 filled.1.0 follow in
    let c_first : c.first_us ≡ first_us c.samples = are.0.first in
    let d_first : d.first_us ≡ first_us d.samples = are.1.0.first in
    let c_number : c.number ≡ n = are.0.number in
    let d_number : d.number ≡ n + 1 = are.1.0.number in
    (omega arith, omega arith, rises_from t (n + 1) scale (last_from last c.samples) (d ∷ cs) are.1 (follow_append scale last c.samples (samples_of (d ∷ cs)) follow).1 filled.1)

pub proper_rises : (t scale : ℕ) (cs : List Chunk) → Proper t scale cs → AllByRecursion (λ c. 0 < length c.samples) cs → Rises cs
proper_rises t scale cs proper filled = rises_from t 0 scale None cs proper.each proper.samples filled
