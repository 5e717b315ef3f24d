-- What is handed stays proper.
use Rattle.std.proofs.Common.{◌≡◌, ℕ, zero, suc, ◌+◌, ◌<◌, ◌≢◌, Bool, true, false, cond, List, [], ◌∷◌, ◌++◌, length, get_or, set, replicate, Option, Some, None, refl, sym, subst, ap, ◌∙◌, inl, inr, arith, get_or-set_same, get_or-set_other}
use Rattle.std.specs.Prelude.{slice_get}
use Rattle.std.proofs.lemmas.Bool.{cases_lt, cases_eq}
use Rattle.std.proofs.lemmas.Option.{slice_get_within}
use Rattle.std.proofs.lemmas.List.{length-set, length-replicate, get_or_past, get_or-replicate}
use Rattle.sf_tick.specs.declared.types.Chunk.{Chunk}
use Rattle.sf_entry.specs.declared.track_setup.TrackSetup.{TrackSetup}
use Rattle.sf_gather.specs.Proper.{Proper, ends_marked}
use Rattle.sf_gather.proofs.GatherLaws.{extended_proper}
use Rattle.sf_interleave.specs.Waiting.{list_of, with_chunk, earliest_front}
use Rattle.sf_series.specs.declared.limits.Limits.{Limits}
use Rattle.sf_series.specs.Switching.{Put, Into, Next, Limit, put}
use Rattle.sf_series.specs.Core.{State, fresh, is_filled, with_mark, hand, put_in, write_picked, write}
use Rattle.sf_series.specs.Fitting.{AllProper, AreProper, CanHand}

marked_last : (cs : List Chunk) (d : Chunk) → ends_marked (cs ++ d ∷ []) ≡ d.last
marked_last [] d = refl
marked_last (c ∷ []) d = refl
marked_last (c ∷ f ∷ cs) d = marked_last (f ∷ cs) d

-- another track's list stays
same_list : (lists : List (List Chunk)) (c : Chunk) (t : ℕ) → (c.track ≡ t → ⊥) → list_of (with_chunk lists c) t ≡ list_of lists t
same_list lists c t other = let different : t ≢ c.track = λ (e : t ≡ c.track). other (sym e) in get_or-set_other lists c.track t (list_of lists c.track ++ c ∷ []) [] different

all_same : (number : ℕ) (setups : List TrackSetup) (lists : List (List Chunk)) (c : Chunk) → c.track < number → AllProper number setups lists → AllProper number setups (with_chunk lists c)
all_same number [] lists c less all = tt
all_same number (setup ∷ setups) lists c less all =
    let P : List Chunk → Type 0 = λ cs. Proper number setup.scale cs in
    let other : c.track ≡ number → ⊥ = λ (e : c.track ≡ number). omega arith in
    (subst P (sym (same_list lists c number other)) all.0, all_same (number + 1) setups lists c (omega arith) all.1)

all_more : (number at : ℕ) (setups : List TrackSetup) (lists : List (List Chunk)) (c : Chunk) (own : TrackSetup) → number + at ≡ c.track → slice_get setups at ≡ Some own → c.track < length lists
    → (Proper c.track own.scale (list_of lists c.track) → Proper c.track own.scale (list_of lists c.track ++ c ∷ [])) → AllProper number setups lists → AllProper number setups (with_chunk lists c)
all_more number at [] lists c own e is less more all = tt
all_more number zero (setup ∷ setups) lists c own e is less more all =
    let same : setup ≡ own = cc in
    let here : number ≡ c.track = omega arith in
    let P : ℕ → Type 0 = λ n. Proper n setup.scale (list_of lists n) in
    let Q : ℕ → Type 0 = λ n. Proper n setup.scale (list_of (with_chunk lists c) n) in
    let R : TrackSetup → Type 0 = λ s. Proper c.track s.scale (list_of lists c.track) in
    let S : TrackSetup → Type 0 = λ s. Proper c.track s.scale (list_of lists c.track ++ c ∷ []) in
    let W : List Chunk → Type 0 = λ cs. Proper c.track setup.scale cs in
    let grown : Proper c.track setup.scale (list_of lists c.track ++ c ∷ []) = subst S (sym same) (more (subst R same (subst P here all.0))) in
    (subst Q (sym here) (subst W (sym (get_or-set_same lists c.track (list_of lists c.track ++ c ∷ []) [] less)) grown), all_same (number + 1) setups lists c (omega arith) all.1)
all_more number (suc at) (setup ∷ setups) lists c own e is less more all =
    let P : List Chunk → Type 0 = λ cs. Proper number setup.scale cs in
    let other : c.track ≡ number → ⊥ = λ (w : c.track ≡ number). omega arith in
    (subst P (sym (same_list lists c number other)) all.0, all_more (number + 1) at setups lists c own (omega arith) is less more all.1)

-- the marks, and how long they are
pub mark_long : (b : Bool) (marks : List Bool) (t : ℕ) → length (cond b (set marks t true) marks) ≡ length marks
mark_long true marks t = length-set marks t true
mark_long false marks t = refl

pub list_long : (b : Bool) (lists : List (List Chunk)) (c : Chunk) → length (cond b (with_chunk lists c) lists) ≡ length lists
list_long true lists c = length-set lists c.track _
list_long false lists c = refl

pub mark_other : (b : Bool) (marks : List Bool) (at t : ℕ) → (at ≡ t → ⊥) → get_or (cond b (set marks at true) marks) t false ≡ get_or marks t false
mark_other true marks at t other = let different : t ≢ at = λ (e : t ≡ at). other (sym e) in get_or-set_other marks at t true false different
mark_other false marks at t other = refl

pub list_other : (b : Bool) (lists : List (List Chunk)) (c : Chunk) (t : ℕ) → (c.track ≡ t → ⊥) → list_of (cond b (with_chunk lists c) lists) t ≡ list_of lists t
list_other true lists c t other = same_list lists c t other
list_other false lists c t other = refl

go_on_here : (filled last : Bool) (lists : List (List Chunk)) (marks : List Bool) (c : Chunk) → c.last ≡ last → c.track < length lists → c.track < length marks
    → (get_or marks c.track false ≡ false → ends_marked (list_of lists c.track) ≡ false)
    → get_or (cond last (set marks c.track true) marks) c.track false ≡ false → ends_marked (list_of (cond filled (with_chunk lists c) lists) c.track) ≡ false
go_on_here filled true lists marks c is less long old e = let marked : get_or (set marks c.track true) c.track false ≡ true = get_or-set_same marks c.track true false long in let wrong : true ≡ false = sym marked ∙ e in cc
go_on_here true false lists marks c is less long old e =
    ap ends_marked (get_or-set_same lists c.track (list_of lists c.track ++ c ∷ []) [] less) ∙ marked_last (list_of lists c.track) c ∙ is
go_on_here false false lists marks c is less long old e = old e

go_on_more : (filled : Bool) (lists : List (List Chunk)) (marks : List Bool) (c : Chunk) → c.track < length lists → c.track < length marks
    → ((t : ℕ) → get_or marks t false ≡ false → ends_marked (list_of lists t) ≡ false)
    → (t : ℕ) → get_or (with_mark marks c) t false ≡ false → ends_marked (list_of (cond filled (with_chunk lists c) lists) t) ≡ false
go_on_more filled lists marks c less long old t e =
    elim (cases_eq c.track t) [
      | inl same ↦ (let P : ℕ → Type 0 = λ n. get_or (with_mark marks c) n false ≡ false → ends_marked (list_of (cond filled (with_chunk lists c) lists) n) ≡ false in
          subst P same (go_on_here filled c.last lists marks c refl less long (old c.track)) e)
      | inr other ↦ ap ends_marked (list_other filled lists c t other) ∙ old t (sym (mark_other c.last marks c.track t other) ∙ e)
    ]

lists_if : (filled : Bool) (setups : List TrackSetup) (lists : List (List Chunk)) (c : Chunk) → AllProper 0 setups lists → AllProper 0 setups (with_chunk lists c) → AllProper 0 setups (cond filled (with_chunk lists c) lists)
lists_if true setups lists c old new = new
lists_if false setups lists c old new = old

hand_if : (b : Bool) (setups : List TrackSetup) (state new : State) → AreProper setups state → AreProper setups new → AreProper setups (cond b state new)
hand_if true setups state new old more = old
hand_if false setups state new old more = more

-- what was handed is proper with a chunk that can be handed
pub hand_proper : (setups : List TrackSetup) (state : State) (c : Chunk) → AreProper setups state → CanHand setups state c → AreProper setups (hand state c)
hand_proper setups state c p can =
    let inside : c.track < length setups = slice_get_within setups c.track can.setup can.there in
    let less : c.track < length state.handed = omega (arith, p.tracks) in
    let long : c.track < length state.marks = omega (arith, p.marks) in
    let from_0 : 0 + c.track ≡ c.track = omega arith in
    let new_lists : AllProper 0 setups (with_chunk state.handed c) =
    all_more 0 c.track setups state.handed c can.setup from_0 can.there less
    (λ old. extended_proper c.track can.setup.scale (list_of state.handed c.track) c old
    (record { goes_on = p.go_on c.track can.goes_on.goes_on; itself = can.goes_on.itself; samples = can.goes_on.samples })) p.lists in
    hand_if state.ended setups state _ p (record {
      tracks = list_long (is_filled c) state.handed c ∙ p.tracks;
      marks = mark_long c.last state.marks c.track ∙ p.marks;
      lists = lists_if (is_filled c) setups state.handed c p.lists new_lists;
      go_on = go_on_more (is_filled c) state.handed state.marks c less long p.go_on;
    })

put_proper : (setups : List TrackSetup) (state : State) (c : Chunk) (a : Put) → AreProper setups state → AreProper setups (put_in state c a)
put_proper setups state c Into p = record { tracks = p.tracks; marks = p.marks; lists = p.lists; go_on = p.go_on }
put_proper setups state c Next p = record { tracks = p.tracks; marks = p.marks; lists = p.lists; go_on = p.go_on }
put_proper setups state c (Limit shown) p = record { tracks = p.tracks; marks = p.marks; lists = p.lists; go_on = p.go_on }

picked_proper : (limits : Limits) (setups : List TrackSetup) (state : State) (o : Option Chunk) → AreProper setups state → AreProper setups (write_picked limits setups state o)
picked_proper limits setups state None p = p
picked_proper limits setups state (Some c) p = put_proper setups state c (put limits setups state.files c) p

-- a write changes nothing that was handed
pub write_proper : (limits : Limits) (setups : List TrackSetup) (state : State) → AreProper setups state → AreProper setups (write limits setups state)
write_proper limits setups state p = picked_proper limits setups state (earliest_front state.pending) p

none_handed : (n t : ℕ) → list_of (replicate n []) t ≡ []
none_handed n t =
    elim (cases_lt t n) [
      | inl less ↦ get_or-replicate n t [] [] less
      | inr past ↦ get_or_past (replicate n []) t [] (omega (arith, length-replicate {A = List Chunk} n []))
    ]

no_chunks : (t scale : ℕ) → Proper t scale []
no_chunks t scale = record { each = tt; mark = tt; samples = tt }

fresh_lists : (number n : ℕ) (setups : List TrackSetup) → AllProper number setups (replicate n [])
fresh_lists number n [] = tt
fresh_lists number n (setup ∷ setups) = let P : List Chunk → Type 0 = λ cs. Proper number setup.scale cs in (subst P (sym (none_handed n number)) (no_chunks number setup.scale), fresh_lists (number + 1) n setups)

-- before any step what was handed is proper
pub fresh_proper : (setups : List TrackSetup) → AreProper setups (fresh (length setups))
fresh_proper setups = record {
  tracks = length-replicate {A = List Chunk} (length setups) [];
  marks = length-replicate (length setups) false;
  lists = fresh_lists 0 (length setups) setups;
  go_on = λ t e. ap ends_marked (none_handed (length setups) t);
}
