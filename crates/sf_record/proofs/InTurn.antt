-- Chunks are written in their order, where of each track one waits or all were handed.
use Rattle.std.proofs.Common.{◌≡◌, ℕ, zero, suc, ◌+◌, ◌<◌, ◌≤◌, Bool, true, false, cond, List, [], ◌∷◌, ◌++◌, length, drop, set, Option, Some, None, refl, sym, ap, ◌∙◌, subst, inl, inr, append_assoc, append-nil, arith}
use Rattle.std.specs.Prelude.{◌==◌, get_or, slice_get}
use Rattle.std.specs.List.{AllByRecursion}
use Rattle.std.proofs.lemmas.Bool.{cases_lt}
use Rattle.std.proofs.lemmas.Bool.Decides.{eqb_tells}
use Rattle.std.proofs.lemmas.List.{get_or_past}
use Rattle.sf_tick.specs.declared.types.Chunk.{Chunk}
use Rattle.sf_entry.specs.declared.track_setup.TrackSetup.{TrackSetup}
use Rattle.sf_interleave.specs.Waiting.{OfTheirTracks, earliest_front, list_of, with_chunk, without_front}
use Rattle.sf_interleave.proofs.WaitingLaws.{picked_first}
use Rattle.sf_series.specs.declared.limits.Limits.{Limits}
use Rattle.sf_series.specs.Core.{State, fresh, hand, is_filled, put_in, with_mark, write, write_picked, taken as with_taken}
use Rattle.sf_series.specs.Ending.{written}
use Rattle.sf_series.specs.Files.{flat}
use Rattle.sf_series.specs.Kept.{Kept}
use Rattle.sf_series.specs.Order.{in_order}
use Rattle.sf_series.specs.Switching.{Put, Into, Next, Limit, put}
use Rattle.sf_series.proofs.SeriesLaws.{flat_into, flat_next, mark_other, order_next, order_none, same_fronts, write_kept}
use Rattle.sf_series.proofs.WrittenOut.{written_keeps}
use Rattle.sf_record.specs.inner.InTurn.{AllReady, InTurn, MayCome, with_rests}

-- ---- lists with more behind each

rests_at : (number : ℕ) (lists : List (List Chunk)) (rests : ℕ → List Chunk) (t : ℕ) → t < length lists → list_of (with_rests number lists rests) t ≡ list_of lists t ++ rests (number + t)
rests_at number [] rests t less = absurd (omega (arith, less))
rests_at number (l ∷ ls) rests zero less = let e : number ≡ number + 0 = omega arith in ap (λ (n : ℕ). l ++ rests n) e
rests_at number (l ∷ ls) rests (suc t) less =
    let e : (number + 1) + t ≡ number + suc t = omega arith in rests_at (number + 1) ls rests t (omega (arith, less)) ∙ ap (λ (n : ℕ). list_of ls t ++ rests n) e

rests_long : (number : ℕ) (lists : List (List Chunk)) (rests : ℕ → List Chunk) → length (with_rests number lists rests) ≡ length lists
rests_long number [] rests = refl
rests_long number (l ∷ ls) rests = ap (λ (n : ℕ). suc n) (rests_long (number + 1) ls rests)

beyond : (number : ℕ) (lists : List (List Chunk)) (a b : ℕ → List Chunk) → ((t : ℕ) → number ≤ t → a t ≡ b t) → with_rests number lists a ≡ with_rests number lists b
beyond number [] a b same = refl
beyond number (l ∷ ls) a b same =
    ap (λ (cs : List Chunk). (l ++ cs) ∷ with_rests (number + 1) ls a) (same number (omega arith))
    ∙ ap (λ (more : List (List Chunk)). (l ++ b number) ∷ more) (beyond (number + 1) ls a b (λ t above. same t (omega (arith, above))))

set_rests : (number k at : ℕ) (lists : List (List Chunk)) (x : List Chunk) (a b : ℕ → List Chunk) → number + k ≡ at → k < length lists → x ++ a at ≡ list_of lists k ++ b at → ((t : ℕ) → (t ≡ at → ⊥) → a t ≡ b t)
    → with_rests number (set lists k x) a ≡ with_rests number lists b
set_rests number k at [] x a b e less here other = absurd (omega (arith, less))
set_rests number zero at (l ∷ ls) x a b e less here other =
    let is : at ≡ number = omega (arith, e) in
    ap (λ (cs : List Chunk). cs ∷ with_rests (number + 1) ls a) (subst (λ (n : ℕ). x ++ a n ≡ l ++ b n) is here)
    ∙ ap (λ (more : List (List Chunk)). (l ++ b number) ∷ more) (beyond (number + 1) ls a b (λ t above. other t (λ w. omega (arith, w, above, is))))
set_rests number (suc k) at (l ∷ ls) x a b e less here other =
    ap (λ (cs : List Chunk). (l ++ cs) ∷ with_rests (number + 1) (set ls k x) a) (other number (λ w. omega (arith, w, e)))
    ∙ ap (λ (more : List (List Chunk)). (l ++ b number) ∷ more) (set_rests (number + 1) k at ls x a b (omega (arith, e)) (omega (arith, less)) here other)

drop_front : (l r : List Chunk) (c : Chunk) → l ≡ c ∷ drop 1 l → drop 1 (l ++ r) ≡ drop 1 l ++ r
drop_front [] r c e = cc
drop_front (x ∷ xs) r c e = refl

front_rests : (number k : ℕ) (lists : List (List Chunk)) (rests : ℕ → List Chunk) (c : Chunk) → list_of lists k ≡ c ∷ drop 1 (list_of lists k)
    → without_front (with_rests number lists rests) k ≡ with_rests number (without_front lists k) rests
front_rests number k [] rests c e = refl
front_rests number zero (l ∷ ls) rests c e = ap (λ (cs : List Chunk). cs ∷ with_rests (number + 1) ls rests) (drop_front l (rests number) c e)
front_rests number (suc k) (l ∷ ls) rests c e = ap (λ (more : List (List Chunk)). (l ++ rests number) ∷ more) (front_rests (number + 1) k ls rests c e)

rests_none : (number : ℕ) (lists : List (List Chunk)) → with_rests number lists (λ t. []) ≡ lists
rests_none number [] = refl
rests_none number (l ∷ ls) =
    ap (λ (cs : List Chunk). cs ∷ with_rests (number + 1) ls (λ t. [])) (append-nil l) ∙ ap (λ (more : List (List Chunk)). l ∷ more) (rests_none (number + 1) ls)

theirs_more : (t : ℕ) (xs ys : List Chunk) → AllByRecursion (λ c. c.track ≡ t) xs → AllByRecursion (λ c. c.track ≡ t) ys → AllByRecursion (λ c. c.track ≡ t) (xs ++ ys)
theirs_more t [] ys first more = more
theirs_more t (x ∷ xs) ys first more = (first.0, theirs_more t xs ys first.1 more)

their_rests : (number : ℕ) (lists : List (List Chunk)) (rests : ℕ → List Chunk) → OfTheirTracks number lists → ((t : ℕ) → AllByRecursion (λ c. c.track ≡ t) (rests t)) → OfTheirTracks number (with_rests number lists rests)
their_rests number [] rests theirs more = tt
their_rests number (l ∷ ls) rests theirs more = (theirs_more number l (rests number) theirs.0 (more number), their_rests (number + 1) ls rests theirs.1 more)

first_same : (l r : List Chunk) → 0 < length l → slice_get (l ++ r) 0 ≡ slice_get l 0
first_same [] r some = absurd (omega (arith, some))
first_same (x ∷ xs) r some = refl

-- the same chunk is picked whatever may come, where all are ready
same_front : (state : State) (rests : ℕ → List Chunk) → AllReady state → MayCome state.marks rests → earliest_front (with_rests 0 state.pending rests) ≡ earliest_front state.pending
same_front state rests ready may =
    same_fronts (with_rests 0 state.pending rests) state.pending (rests_long 0 state.pending rests)
    (λ t. elim (cases_lt t (length state.pending)) [
      | inl less ↦ (
          let zero_t : 0 + t ≡ t = omega arith in
          let at : list_of (with_rests 0 state.pending rests) t ≡ list_of state.pending t ++ rests t = rests_at 0 state.pending rests t less ∙ ap (λ (n : ℕ). list_of state.pending t ++ rests n) zero_t in
          elim (ready t less) [
            | inl some ↦ ap (λ (cs : List Chunk). slice_get cs 0) at ∙ first_same (list_of state.pending t) (rests t) some
            | inr marked ↦ ap (λ (cs : List Chunk). slice_get cs 0) (at ∙ ap (λ (cs : List Chunk). list_of state.pending t ++ cs) (may.none t marked) ∙ append-nil (list_of state.pending t))
          ])
      | inr past ↦ ap (λ (cs : List Chunk). slice_get cs 0)
          (get_or_past (with_rests 0 state.pending rests) t [] (omega (arith, past, rests_long 0 state.pending rests)) ∙ sym (get_or_past state.pending t [] past))
    ])

-- what is picked is the next one in order
next_in : (state : State) (rests : ℕ → List Chunk) (c : Chunk) → OfTheirTracks 0 state.pending → AllReady state → MayCome state.marks rests → earliest_front state.pending ≡ Some c
    → in_order (with_rests 0 state.pending rests) ≡ c ∷ in_order (with_rests 0 (without_front state.pending c.track) rests)
next_in state rests c theirs ready may e =
    order_next (with_rests 0 state.pending rests) c (their_rests 0 state.pending rests theirs may.theirs) (same_front state rests ready may ∙ e)
    ∙ ap (λ (lists : List (List Chunk)). c ∷ in_order lists) (front_rests 0 c.track state.pending rests c (picked_first state.pending c theirs e))

-- ---- what steps keep

pub fresh_turn : (tracks : ℕ) → InTurn (fresh tracks)
fresh_turn tracks rests may = refl

-- a chunk, and then what may come of its track
abbrev with_next : (ℕ → List Chunk) → Chunk → ℕ → List Chunk
with_next rests c t = cond (c.track == t) (c ∷ rests t) (rests t)

next_here : (rests : ℕ → List Chunk) (c : Chunk) → with_next rests c c.track ≡ c ∷ rests c.track
next_here rests c = elim (eqb_tells c.track c.track) [ inl p ↦ rw p.0 refl | inr p ↦ absurd (p.1 refl) ]

next_other : (rests : ℕ → List Chunk) (c : Chunk) (t : ℕ) → (t ≡ c.track → ⊥) → rests t ≡ with_next rests c t
next_other rests c t other = elim (eqb_tells c.track t) [ inl p ↦ absurd (other (sym p.1)) | inr p ↦ rw p.0 refl ]

theirs_next : (rests : ℕ → List Chunk) (c : Chunk) (t : ℕ) → AllByRecursion (λ d. d.track ≡ t) (rests t) → AllByRecursion (λ d. d.track ≡ t) (with_next rests c t)
theirs_next rests c t theirs = elim (eqb_tells c.track t) [ inl p ↦ rw p.0 (p.1, theirs) | inr p ↦ rw p.0 theirs ]

marked_before : (marks : List Bool) (c : Chunk) (t : ℕ) → get_or marks c.track false ≡ false → get_or marks t false ≡ true → get_or (with_mark marks c) t false ≡ true
marked_before marks c t unmarked e =
    elim (eqb_tells c.track t) [
      | inl p ↦ (let wrong : true ≡ false = sym e ∙ ap (λ (n : ℕ). get_or marks n false) (sym p.1) ∙ unmarked in cc)
      | inr p ↦ mark_other c.last marks c.track t p.1 ∙ e
    ]

came : (marks : List Bool) (c : Chunk) (rests : ℕ → List Chunk) → get_or marks c.track false ≡ false → MayCome (with_mark marks c) rests → MayCome marks (with_next rests c)
came marks c rests unmarked may =
    record {
      theirs = λ t. theirs_next rests c t (may.theirs t);
      none = λ t e. elim (eqb_tells c.track t) [
        | inl p ↦ (let wrong : true ≡ false = sym e ∙ ap (λ (n : ℕ). get_or marks n false) (sym p.1) ∙ unmarked in cc)
        | inr p ↦ sym (next_other rests c t (λ w. p.1 (sym w))) ∙ may.none t (marked_before marks c t unmarked e)
      ];
    }

came_none : (marks : List Bool) (c : Chunk) (rests : ℕ → List Chunk) → get_or marks c.track false ≡ false → MayCome (with_mark marks c) rests → MayCome marks rests
came_none marks c rests unmarked may = record { theirs = may.theirs; none = λ t e. may.none t (marked_before marks c t unmarked e) }

with_rests_next : (lists : List (List Chunk)) (c : Chunk) (rests : ℕ → List Chunk) → c.track < length lists → with_rests 0 (with_chunk lists c) rests ≡ with_rests 0 lists (with_next rests c)
with_rests_next lists c rests less =
    set_rests 0 c.track c.track lists (list_of lists c.track ++ c ∷ []) rests (with_next rests c) (omega arith) less
    (append_assoc (list_of lists c.track) (c ∷ []) (rests c.track) ∙ ap (λ (cs : List Chunk). list_of lists c.track ++ cs) (sym (next_here rests c))) (λ t other. next_other rests c t other)

turn_if : (filled : Bool) (handed pending files : List (List Chunk)) (marks : List Bool) (c : Chunk) → c.track < length handed → c.track < length pending → get_or marks c.track false ≡ false
    → ((rests : ℕ → List Chunk) → MayCome marks rests → in_order (with_rests 0 handed rests) ≡ flat files ++ in_order (with_rests 0 pending rests))
    → (rests : ℕ → List Chunk) → MayCome (with_mark marks c) rests
    → in_order (with_rests 0 (cond filled (with_chunk handed c) handed) rests) ≡ flat files ++ in_order (with_rests 0 (cond filled (with_chunk pending c) pending) rests)
turn_if true handed pending files marks c less waits unmarked turn rests may =
    ap (λ (lists : List (List Chunk)). in_order lists) (with_rests_next handed c rests less)
    ∙ turn (with_next rests c) (came marks c rests unmarked may)
    ∙ ap (λ (lists : List (List Chunk)). flat files ++ in_order lists) (sym (with_rests_next pending c rests waits))
turn_if false handed pending files marks c less waits unmarked turn rests may = turn rests (came_none marks c rests unmarked may)

hand_if : (b : Bool) (state : State) (c : Chunk) → InTurn state → InTurn (with_taken state c) → InTurn (cond b state (with_taken state c))
hand_if true state c old new = old
hand_if false state c old new = new

-- a chunk is handed
pub hand_turn : (state : State) (c : Chunk) → c.track < length state.handed → c.track < length state.pending → get_or state.marks c.track false ≡ false → InTurn state → InTurn (hand state c)
hand_turn state c less waits unmarked turn =
    hand_if state.ended state c turn (turn_if (is_filled c) state.handed state.pending state.files state.marks c less waits unmarked turn)

put_turn : (state : State) (c : Chunk) (p : Put) → OfTheirTracks 0 state.pending → AllReady state → earliest_front state.pending ≡ Some c → InTurn state → InTurn (put_in state c p)
put_turn state c Into theirs ready e turn rests may =
    turn rests may ∙ ap (λ (cs : List Chunk). flat state.files ++ cs) (next_in state rests c theirs ready may e)
    ∙ sym (append_assoc (flat state.files) (c ∷ []) (in_order (with_rests 0 (without_front state.pending c.track) rests)))
    ∙ ap (λ (cs : List Chunk). cs ++ in_order (with_rests 0 (without_front state.pending c.track) rests)) (sym (flat_into state.files c))
put_turn state c Next theirs ready e turn rests may =
    turn rests may ∙ ap (λ (cs : List Chunk). flat state.files ++ cs) (next_in state rests c theirs ready may e)
    ∙ sym (append_assoc (flat state.files) (c ∷ []) (in_order (with_rests 0 (without_front state.pending c.track) rests)))
    ∙ ap (λ (cs : List Chunk). cs ++ in_order (with_rests 0 (without_front state.pending c.track) rests)) (sym (flat_next state.files c))
put_turn state c (Limit shown) theirs ready e turn rests may = turn rests may

picked_turn : (limits : Limits) (setups : List TrackSetup) (state : State) (o : Option Chunk) → earliest_front state.pending ≡ o → OfTheirTracks 0 state.pending → AllReady state → InTurn state → InTurn (write_picked limits setups state o)
picked_turn limits setups state None e theirs ready turn = turn
picked_turn limits setups state (Some c) e theirs ready turn = put_turn state c (put limits setups state.files c) theirs ready e turn

-- the earliest chunk is written
pub write_turn : (limits : Limits) (setups : List TrackSetup) (state : State) → OfTheirTracks 0 state.pending → AllReady state → InTurn state → InTurn (write limits setups state)
write_turn limits setups state theirs ready turn = picked_turn limits setups state (earliest_front state.pending) refl theirs ready turn

-- ---- what follows at the end

none_come : (marks : List Bool) → MayCome marks (λ t. [])
none_come marks = record { theirs = λ t. tt; none = λ t e. refl }

-- where none waits all that was handed stands in files, in its order
pub all_turn : (state : State) → InTurn state → earliest_front state.pending ≡ None → in_order state.handed ≡ flat state.files
all_turn state turn none =
    ap (λ (lists : List (List Chunk)). in_order lists) (sym (rests_none 0 state.handed)) ∙ turn (λ t. []) (none_come state.marks)
    ∙ ap (λ (lists : List (List Chunk)). flat state.files ++ in_order lists) (rests_none 0 state.pending)
    ∙ ap (λ (cs : List Chunk). flat state.files ++ cs) (order_none state.pending none) ∙ append-nil (flat state.files)

-- the chunks in files and then those that wait, in order, are those that were handed
abbrev pub InLine : State → Type 0
InLine state = in_order state.handed ≡ flat state.files ++ in_order state.pending

-- so it is where chunks are written in turn
pub turn_line : (state : State) → InTurn state → InLine state
turn_line state turn =
    ap (λ (lists : List (List Chunk)). in_order lists) (sym (rests_none 0 state.handed)) ∙ turn (λ t. []) (none_come state.marks)
    ∙ ap (λ (lists : List (List Chunk)). flat state.files ++ in_order lists) (rests_none 0 state.pending)

line_put : (state : State) (c : Chunk) (p : Put) → OfTheirTracks 0 state.pending → earliest_front state.pending ≡ Some c → InLine state → InLine (put_in state c p)
line_put state c Into theirs e line =
    line ∙ ap (λ (cs : List Chunk). flat state.files ++ cs) (order_next state.pending c theirs e)
    ∙ sym (append_assoc (flat state.files) (c ∷ []) (in_order (without_front state.pending c.track)))
    ∙ ap (λ (cs : List Chunk). cs ++ in_order (without_front state.pending c.track)) (sym (flat_into state.files c))
line_put state c Next theirs e line =
    line ∙ ap (λ (cs : List Chunk). flat state.files ++ cs) (order_next state.pending c theirs e)
    ∙ sym (append_assoc (flat state.files) (c ∷ []) (in_order (without_front state.pending c.track)))
    ∙ ap (λ (cs : List Chunk). cs ++ in_order (without_front state.pending c.track)) (sym (flat_next state.files c))
line_put state c (Limit shown) theirs e line = line

line_picked : (limits : Limits) (setups : List TrackSetup) (state : State) (o : Option Chunk) → earliest_front state.pending ≡ o → OfTheirTracks 0 state.pending → InLine state → InLine (write_picked limits setups state o)
line_picked limits setups state None e theirs line = line
line_picked limits setups state (Some c) e theirs line = line_put state c (put limits setups state.files c) theirs e line

-- several writes keep it, whatever comes no more
pub line_written : (n : ℕ) (limits : Limits) (setups : List TrackSetup) (state : State) → Kept limits setups state → InLine state → InLine (written n limits setups state)
line_written n limits setups state kept line =
    (written_keeps (λ s. Kept limits setups s × InLine s) n limits setups state
    (λ s h. (write_kept limits setups s h.0, line_picked limits setups s (earliest_front s.pending) refl h.0.theirs h.1)) (kept, line)).1

lists_with : (number : ℕ) (lists handed : List (List Chunk)) (rests : ℕ → List Chunk) → length lists ≡ length handed → ((t : ℕ) → t < length handed → list_of lists t ≡ list_of handed t ++ rests (number + t)) → lists ≡ with_rests number handed rests
lists_with number [] [] rests long each = refl
lists_with number [] (h ∷ hs) rests long each = absurd (omega (arith, long))
lists_with number (l ∷ ls) [] rests long each = absurd (omega (arith, long))
lists_with number (l ∷ ls) (h ∷ hs) rests long each =
    let here : number + 0 ≡ number = omega arith in
    ap (λ (cs : List Chunk). cs ∷ ls) (each 0 (omega arith) ∙ ap (λ (n : ℕ). h ++ rests n) here)
    ∙ ap (λ (more : List (List Chunk)). (h ++ rests number) ∷ more)
    (lists_with (number + 1) ls hs rests (omega (arith, long))
    (λ t less. let e : number + suc t ≡ (number + 1) + t = omega arith in each (suc t) (omega (arith, less)) ∙ ap (λ (n : ℕ). list_of hs t ++ rests n) e))

-- where a chunk is next, those in files and then that one are the first of all in their order
pub next_turn : (state : State) (lists : List (List Chunk)) (rests : ℕ → List Chunk) (c : Chunk) → OfTheirTracks 0 state.pending → AllReady state → InTurn state → MayCome state.marks rests
    → length lists ≡ length state.handed → ((t : ℕ) → t < length state.handed → list_of lists t ≡ list_of state.handed t ++ rests t) → earliest_front state.pending ≡ Some c
    → (rest : List Chunk) × (in_order lists ≡ flat state.files ++ c ∷ rest)
next_turn state lists rests c theirs ready turn may long each e = (
  in_order (with_rests 0 (without_front state.pending c.track) rests),
  ap (λ (ls : List (List Chunk)). in_order ls)
      (lists_with 0 lists state.handed rests long (λ t less. let zero_t : t ≡ 0 + t = omega arith in each t less ∙ ap (λ (n : ℕ). list_of state.handed t ++ rests n) zero_t))
      ∙ turn rests may ∙ ap (λ (cs : List Chunk). flat state.files ++ cs) (next_in state rests c theirs ready may e),
)
