-- What every step keeps.
use Rattle.std.proofs.Common.{◌≡◌, ℕ, ◌<◌, ◌≤◌, Bool, true, false, cond, List, [], ◌∷◌, ◌++◌, length, replicate, drop, Option, Some, None, refl, sym, subst, ap, ◌∙◌, inl, inr, append_assoc, arith}
use Rattle.std.specs.Prelude.{◌==◌}
use Rattle.std.specs.List.{AllByRecursion}
use Rattle.std.proofs.lemmas.Bool.{cases_lt}
use Rattle.std.proofs.lemmas.Bool.Decides.{nat_tests}
use Rattle.std.proofs.lemmas.List.{length-set, get_or_past, get_or-replicate, length-replicate}
use Rattle.std.proofs.lemmas.List.Elements.{filter-append}
use Rattle.sf_tick.specs.declared.types.Chunk.{Chunk}
use Rattle.sf_entry.specs.declared.track_setup.TrackSetup.{TrackSetup}
use Rattle.sf_interleave.specs.Waiting.{earliest_front, list_of, with_chunk, without_front}
use Rattle.sf_interleave.proofs.WaitingLaws.{picked_first, their_first, their_with, their_without}
use Rattle.sf_series.specs.declared.limits.Limits.{Limits}
use Rattle.sf_series.specs.declared.limits.LimitShown.{LimitShown}
use Rattle.sf_series.specs.Files.{flat, chunks_of_track, into_open, into_next, OnlyOpenEmpty}
use Rattle.sf_series.specs.Switching.{Put, Into, Next, Limit, put, files_after, switched}
use Rattle.sf_series.specs.Kept.{AllThere, AllFilled, Kept}
use Rattle.sf_series.specs.Core.{State, fresh, is_filled, with_mark, hand, put_in, write_picked, write, failed, Step, Hand, Write, step, after}
use Rattle.sf_series.proofs.Files.{flat_into, flat_next, flat_empty, only_into, only_more}
use Rattle.sf_series.proofs.Lists.{one, list_with, list_past, list_without}
use Rattle.sf_series.proofs.Switching.{limitless, switched_one, next_some}
use Rattle.sf_layout.specs.Layout.{track_chunks}

none_at : (n t : ℕ) → list_of (replicate n []) t ≡ []
none_at n t =
    elim (cases_lt t n) [
      | inl less ↦ get_or-replicate n t [] [] less
      | inr past ↦ get_or_past (replicate n []) t [] (omega (arith, length-replicate {A = List Chunk} n []))
    ]

filled_append : (xs ys : List Chunk) → AllByRecursion (λ c. 0 < length c.samples) xs → AllByRecursion (λ c. 0 < length c.samples) ys → AllByRecursion (λ c. 0 < length c.samples) (xs ++ ys)
filled_append [] ys all more = more
filled_append (x ∷ xs) ys all more = (all.0, filled_append xs ys all.1 more)

filled_if : (b : Bool) (c : Chunk) → 0 < length c.samples → AllByRecursion (λ d. 0 < length d.samples) (cond b (c ∷ []) [])
filled_if true c some = (some, tt)
filled_if false c some = tt

filled_one : (c : Chunk) (t : ℕ) → 0 < length c.samples → AllByRecursion (λ d. 0 < length d.samples) (one c t)
filled_one c t some = filled_if (c.track == t) c some

filled_none : (n : ℕ) → AllFilled (replicate n [])
filled_none n t = let P : List Chunk → Type 0 = λ cs. AllByRecursion (λ c. 0 < length c.samples) cs in subst P (sym (none_at n t)) tt

-- one more chunk that isn't empty
filled_more : (lists : List (List Chunk)) (c : Chunk) → AllFilled lists → 0 < length c.samples → AllFilled (with_chunk lists c)
filled_more lists c filled some t =
    let P : List Chunk → Type 0 = λ cs. AllByRecursion (λ c. 0 < length c.samples) cs in
    elim (cases_lt t (length lists)) [
      | inl less ↦ subst P (sym (list_with lists c t less)) (filled_append (list_of lists t) (one c t) (filled t) (filled_one c t some))
      | inr past ↦ subst P (sym (list_past lists c t past)) tt
    ]

pub fresh_kept : (limits : Limits) (setups : List TrackSetup) (tracks : ℕ) → Kept limits setups (fresh tracks)
fresh_kept limits setups tracks = record {
  theirs = their_first tracks;
  tracks = refl;
  filled = filled_none tracks;
  there = λ t. refl;
  order = refl;
  only = tt;
  met = λ e. cc;
}

-- one more chunk is handed
there_more : (files pending handed : List (List Chunk)) (c : Chunk) → length pending ≡ length handed → AllThere files pending handed → AllThere files (with_chunk pending c) (with_chunk handed c)
there_more files pending handed c same there t =
    elim (cases_lt t (length pending)) [
      | inl less ↦ (let less_too : t < length handed = omega arith in
          ap (λ (cs : List Chunk). chunks_of_track t files ++ cs) (list_with pending c t less)
          ∙ sym (append_assoc (chunks_of_track t files) (list_of pending t) (one c t))
          ∙ ap (λ (cs : List Chunk). cs ++ one c t) (there t)
          ∙ sym (list_with handed c t less_too))
      | inr past ↦ (let past_too : length handed ≤ t = omega arith in
          ap (λ (cs : List Chunk). chunks_of_track t files ++ cs) (list_past pending c t past ∙ sym (get_or_past pending t [] past))
          ∙ there t ∙ get_or_past handed t [] past_too ∙ sym (list_past handed c t past_too))
    ]

-- a state after a chunk that has samples or none
abbrev pub handed_as : Bool → State → Chunk → State
handed_as filled state c =
    record state { handed = cond filled (with_chunk state.handed c) state.handed; pending = cond filled (with_chunk state.pending c) state.pending; marks = with_mark state.marks c }

joined_kept : (b : Bool) (limits : Limits) (setups : List TrackSetup) (state : State) (c : Chunk) → (b ≡ true → 0 < length c.samples) → Kept limits setups state → state.ended ≡ false → Kept limits setups (handed_as b state c)
joined_kept true limits setups state c some h e = record {
  theirs = their_with state.pending c h.theirs;
  tracks = length-set state.pending c.track _ ∙ h.tracks ∙ sym (length-set state.handed c.track _);
  filled = filled_more state.handed c h.filled (some refl);
  there = there_more state.files state.pending state.handed c h.tracks h.there;
  order = h.order;
  only = h.only;
  met = λ t. let wrong : true ≡ false = sym t ∙ e in cc;
}
joined_kept false limits setups state c some h e = record { theirs = h.theirs; tracks = h.tracks; filled = h.filled; there = h.there; order = h.order; only = h.only; met = h.met }

hand_if : (b : Bool) (limits : Limits) (setups : List TrackSetup) (state new : State) → Kept limits setups state → (b ≡ false → Kept limits setups new) → Kept limits setups (cond b state new)
hand_if true limits setups state new h k = h
hand_if false limits setups state new h k = k refl

pub hand_kept : (limits : Limits) (setups : List TrackSetup) (state : State) (c : Chunk) → Kept limits setups state → Kept limits setups (hand state c)
hand_kept limits setups state c h =
    hand_if state.ended limits setups state _ h (joined_kept (is_filled c) limits setups state c (λ e. grind (arith, nat_tests)) h)

-- one more chunk in files, and the rest waits
there_put : (files new pending handed : List (List Chunk)) (c : Chunk) → flat new ≡ flat files ++ c ∷ [] → list_of pending c.track ≡ c ∷ drop 1 (list_of pending c.track) → AllThere files pending handed
    → AllThere new (without_front pending c.track) handed
there_put files new pending handed c e first there t =
    ap (λ (cs : List Chunk). track_chunks t cs ++ list_of (without_front pending c.track) t) e
    ∙ ap (λ (cs : List Chunk). cs ++ list_of (without_front pending c.track) t) (filter-append (λ (d : Chunk). d.track == t) (flat files) (c ∷ []))
    ∙ append_assoc (chunks_of_track t files) (one c t) (list_of (without_front pending c.track) t)
    ∙ ap (λ (cs : List Chunk). chunks_of_track t files ++ cs) (list_without pending c t first)
    ∙ there t

-- where the earliest chunk meets no limit, none was met before
not_met : (limits : Limits) (setups : List TrackSetup) (state : State) (c : Chunk) (p : Put) → Kept limits setups state → earliest_front state.pending ≡ Some c → put limits setups state.files c ≡ p
    → ((shown : LimitShown) → p ≡ Limit shown → ⊥) → state.ended ≡ true → ⊥
not_met limits setups state c p h e at never ended =
    let met = h.met ended in
    let both : Some met.chunk ≡ Some c = sym met.next ∙ e in
    let same : met.chunk ≡ c = cc in
    never met.shown (sym at ∙ ap (λ (d : Chunk). put limits setups state.files d) (sym same) ∙ met.limit)

moved_kept : (limits : Limits) (setups : List TrackSetup) (state : State) (c : Chunk) (p : Put) (new : List (List Chunk)) → Kept limits setups state → earliest_front state.pending ≡ Some c
    → put limits setups state.files c ≡ p → ((shown : LimitShown) → p ≡ Limit shown → ⊥)
    → flat new ≡ flat state.files ++ c ∷ [] → OnlyOpenEmpty new → switched limits setups (flat state.files ++ c ∷ []) ≡ limitless new
    → Kept limits setups (record state { pending = without_front state.pending c.track; files = new })
moved_kept limits setups state c p new h e at never flat_is only order =
    record {
      theirs = their_without state.pending c.track h.theirs;
      tracks = length-set state.pending c.track _ ∙ h.tracks;
      filled = h.filled;
      there = there_put state.files new state.pending state.handed c flat_is (picked_first state.pending c h.theirs e) h.there;
      order = ap (λ (cs : List Chunk). switched limits setups cs) flat_is ∙ order;
      only = only;
      met = λ t. absurd (not_met limits setups state c p h e at never t);
    }

put_kept : (limits : Limits) (setups : List TrackSetup) (state : State) (c : Chunk) (p : Put) → Kept limits setups state → earliest_front state.pending ≡ Some c → put limits setups state.files c ≡ p
    → Kept limits setups (put_in state c p)
put_kept limits setups state c Into h e at =
    moved_kept limits setups state c Into (into_open state.files c) h e at (λ shown w. cc) (flat_into state.files c) (only_into state.files c h.only)
    (switched_one limits setups ([] ∷ []) state.files (flat state.files) c Into h.order at)
put_kept limits setups state c Next h e at =
    moved_kept limits setups state c Next (into_next state.files c) h e at (λ shown w. cc) (flat_next state.files c)
    (only_more state.files (c ∷ []) h.only (next_some limits setups state.files c at))
    (switched_one limits setups ([] ∷ []) state.files (flat state.files) c Next h.order at)
put_kept limits setups state c (Limit shown) h e at =
    record { theirs = h.theirs; tracks = h.tracks; filled = h.filled; there = h.there; order = h.order; only = h.only; met = λ t. record { chunk = c; shown = shown; next = e; limit = at } }

picked_kept : (limits : Limits) (setups : List TrackSetup) (state : State) (o : Option Chunk) → Kept limits setups state → earliest_front state.pending ≡ o → Kept limits setups (write_picked limits setups state o)
picked_kept limits setups state None h e = h
picked_kept limits setups state (Some c) h e = put_kept limits setups state c (put limits setups state.files c) h e refl

pub write_kept : (limits : Limits) (setups : List TrackSetup) (state : State) → Kept limits setups state → Kept limits setups (write limits setups state)
write_kept limits setups state h = picked_kept limits setups state (earliest_front state.pending) h refl

pub step_kept : (limits : Limits) (setups : List TrackSetup) (state : State) (s : Step) → Kept limits setups state → Kept limits setups (step limits setups state s)
step_kept limits setups state (Hand c) h = hand_kept limits setups state c h
step_kept limits setups state Write h = write_kept limits setups state h

pub after_kept : (limits : Limits) (setups : List TrackSetup) (state : State) (steps : List Step) → Kept limits setups state → Kept limits setups (after limits setups state steps)
after_kept limits setups state [] h = h
after_kept limits setups state (s ∷ steps) h = after_kept limits setups (step limits setups state s) steps (step_kept limits setups state s h)

-- any steps from the fresh state on
pub core_kept : (limits : Limits) (setups : List TrackSetup) (tracks : ℕ) (steps : List Step) → Kept limits setups (after limits setups (fresh tracks) steps)
core_kept limits setups tracks steps = after_kept limits setups (fresh tracks) steps (fresh_kept limits setups tracks)

-- what a failed write leaves in files
pub failed_there : (closed : Bool) (state : State) (t : ℕ) → chunks_of_track t (failed closed state).files ≡ chunks_of_track t state.files
failed_there true state t = ap (λ (cs : List Chunk). track_chunks t cs) (flat_empty state.files)
failed_there false state t = refl

-- the files after a chunk that meets no limit
pub flat_after : (files : List (List Chunk)) (c : Chunk) (p : Put) → ((shown : LimitShown) → p ≡ Limit shown → ⊥) → flat (files_after files c p) ≡ flat files ++ c ∷ []
flat_after files c Into never = flat_into files c
flat_after files c Next never = flat_next files c
flat_after files c (Limit shown) never = absurd (never shown refl)

write_put : (limits : Limits) (setups : List TrackSetup) (state : State) (c : Chunk) → earliest_front state.pending ≡ Some c → write limits setups state ≡ put_in state c (put limits setups state.files c)
write_put limits setups state c e = ap (λ (o : Option Chunk). write_picked limits setups state o) e

pub write_into : (limits : Limits) (setups : List TrackSetup) (state : State) (c : Chunk) → earliest_front state.pending ≡ Some c → put limits setups state.files c ≡ Into
    → write limits setups state ≡ record state { pending = without_front state.pending c.track; files = into_open state.files c }
write_into limits setups state c e at = write_put limits setups state c e ∙ ap (λ (p : Put). put_in state c p) at

pub write_next : (limits : Limits) (setups : List TrackSetup) (state : State) (c : Chunk) → earliest_front state.pending ≡ Some c → put limits setups state.files c ≡ Next
    → write limits setups state ≡ record state { pending = without_front state.pending c.track; files = into_next state.files c }
write_next limits setups state c e at = write_put limits setups state c e ∙ ap (λ (p : Put). put_in state c p) at

pub write_limit : (limits : Limits) (setups : List TrackSetup) (state : State) (c : Chunk) (shown : LimitShown) → earliest_front state.pending ≡ Some c → put limits setups state.files c ≡ Limit shown
    → write limits setups state ≡ record state { ended = true }
write_limit limits setups state c shown e at = write_put limits setups state c e ∙ ap (λ (p : Put). put_in state c p) at

pub write_idle : (limits : Limits) (setups : List TrackSetup) (state : State) → earliest_front state.pending ≡ None → write limits setups state ≡ state
write_idle limits setups state e = ap (λ (o : Option Chunk). write_picked limits setups state o) e
