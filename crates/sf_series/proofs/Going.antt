-- A series that goes on still does with a chunk that is handed, and after one that is put.
use Rattle.std.proofs.Common.{◌≡◌, ℕ, zero, suc, ◌+◌, ◌<◌, ◌≤◌, ◌⊎◌, Bool, true, false, cond, List, [], ◌∷◌, ◌++◌, length, map, drop, set, replicate, Option, Some, None, refl, sym, subst, ap, ◌∙◌, inl, inr, arith, get_or-set_same, get_or-set_other}
use Rattle.std.specs.Prelude.{slice_get, is_some, ◌==◌}
use Rattle.std.proofs.lemmas.Bool.Decides.{eqb_tells, nat_tests}
use Rattle.std.proofs.lemmas.List.{length-set, length-map, length-replicate, get_or-replicate}
use Rattle.sf_tick.specs.declared.types.Stored.{Stored}
use Rattle.sf_tick.specs.declared.types.Chunk.{Chunk}
use Rattle.sf_entry.specs.declared.track_setup.TrackSetup.{TrackSetup}
use Rattle.sf_gather.specs.declared.given.LastSample.{LastSample}
use Rattle.sf_gather.specs.Accepting.{last_from}
use Rattle.sf_gather.specs.Proper.{AllFollow, Tail, samples_of}
use Rattle.sf_gather.proofs.GatherLaws.{follow_append}
use Rattle.sf_interleave.specs.Waiting.{OfTheirTracks, earliest_front, list_of, with_chunk, without_front}
use Rattle.sf_interleave.proofs.WaitingLaws.{picked_first, their_first, their_with, their_without}
use Rattle.sf_file.specs.Open.{HeldTrack, OpenFile, held_from, setups_of, tracks_with, track_with as one_with}
use Rattle.sf_series.specs.Core.{is_filled, with_filled}
use Rattle.sf_series.specs.Series.{OpenFiles}
use Rattle.sf_series.specs.inner.Tails.{tail_with}
use Rattle.sf_series.specs.declared.faults.SeriesFault.{SeriesFault}
use Rattle.sf_series.specs.inner.Waits.{AllWait, GoesOn, SoundSeries, WaitAfter}
use Rattle.sf_series.specs.inner.Writing.{CanPut, IsFresh, WentInto}
use Rattle.sf_series.proofs.Kept.{read_other, read_set}
use Rattle.sf_series.proofs.Lists.{some_inside}
use Rattle.sf_series.proofs.Waits.{fresh_at, wait_fresh, wait_handed, wait_put, with_at}

-- the track of a setup, among those of an open file
pub found_track : (ts : List HeldTrack) (k : ℕ) (setup : TrackSetup) → slice_get (map (λ t. t.track.setup) ts) k ≡ Some setup → (held : HeldTrack) × (slice_get ts k ≡ Some held) × (held.track.setup ≡ setup)
found_track [] k setup e = cc
found_track (t ∷ ts) zero setup e = (t, refl, cc)
found_track (t ∷ ts) (suc k) setup e = found_track ts k setup e

pub found_at : {A : Type 0} (xs : List A) (k : ℕ) → k < length xs → (x : A) × (slice_get xs k ≡ Some x)
found_at {A} [] k less = absurd (omega (arith, less))
found_at {A} (x ∷ xs) zero less = (x, refl)
found_at {A} (x ∷ xs) (suc k) less = found_at xs k (omega arith)

found_long : (setups : List TrackSetup) (k : ℕ) (setup : TrackSetup) → slice_get setups k ≡ Some setup → k < length setups
found_long [] k setup e = cc
found_long (s ∷ setups) zero setup e = omega arith
found_long (s ∷ setups) (suc k) setup e = let more = found_long setups k setup e in omega (arith, more)

-- the chunk that is picked can be put
pub can_put : {pending : List (List Chunk)} {tails : List Tail} {kept : OpenFiles} {left : Option Chunk} (c : Chunk) (g : GoesOn pending tails kept left) → earliest_front pending ≡ Some c → CanPut g.file c
can_put {pending} {tails} {kept} {left} c g e =
    let first = picked_first pending c g.theirs e in
    let inside : c.track < length pending = some_inside pending c.track c (drop 1 (list_of pending c.track)) first in
    let tracks : length (setups_of g.file) ≡ length g.file.tracks = length-map g.file.tracks (λ (t : HeldTrack). t.track.setup) in
    let setups : length (setups_of g.file) ≡ length kept.setups = ap (λ (ss : List TrackSetup). length ss) g.setups in
    let held = found_at g.file.tracks c.track (omega (arith, inside, tracks, setups, g.lists)) in
    let tail = found_at tails c.track (omega (arith, inside, g.lists, g.tracks)) in
    let w = subst (λ (cs : List Chunk). WaitAfter held.0.track.setup.scale held.0.last tail.0.last cs) first (g.wait c.track held.0 tail.0 held.1 tail.1) in
    record {
      track = held.0;
      among = held.1;
      some = w.each.0.some;
      few = w.each.0.few;
      follow = (follow_append held.0.track.setup.scale held.0.last c.samples (samples_of (drop 1 (list_of pending c.track))) w.follow).0;
    }

-- the list of the chunk's track without it, and the others
without_same : (pending : List (List Chunk)) (c : Chunk) → c.track < length pending → list_of (without_front pending c.track) c.track ≡ drop 1 (list_of pending c.track)
without_same pending c inside = get_or-set_same pending c.track (drop 1 (list_of pending c.track)) [] inside

without_other : (pending : List (List Chunk)) (c : Chunk) (t : ℕ) → (c.track ≡ t → ⊥) → list_of (without_front pending c.track) t ≡ list_of pending t
without_other pending c t other = get_or-set_other pending c.track t (drop 1 (list_of pending c.track)) [] (λ e. other (sym e))

-- what waits of a track after the chunk is put, by what waited of it
wait_next : (pending : List (List Chunk)) (c : Chunk) (t : ℕ) (scale : ℕ) (in_file now handed : Option LastSample) → list_of pending c.track ≡ c ∷ drop 1 (list_of pending c.track) → c.track < length pending
    → WaitAfter scale in_file handed (list_of pending t)
    → ((c.track ≡ t) × (now ≡ last_from in_file c.samples)) ⊎ ((c.track ≡ t → ⊥) × (now ≡ in_file))
    → WaitAfter scale now handed (list_of (without_front pending c.track) t)
wait_next pending c t scale in_file now handed first inside w either =
    elim either [
      | inl here ↦ (
          let list : list_of pending t ≡ c ∷ drop 1 (list_of pending c.track) = ap (λ (n : ℕ). list_of pending n) (sym here.0) ∙ first in
          let rest : list_of (without_front pending c.track) t ≡ drop 1 (list_of pending c.track) = ap (λ (n : ℕ). list_of (without_front pending c.track) n) (sym here.0) ∙ without_same pending c inside in
          let put = wait_put c (subst (λ (cs : List Chunk). WaitAfter scale in_file handed cs) list w) in
          subst (λ (cs : List Chunk). WaitAfter scale now handed cs) (sym rest) (subst (λ (o : Option LastSample). WaitAfter scale o handed (drop 1 (list_of pending c.track))) (sym here.1) put))
      | inr there ↦ (
          subst (λ (cs : List Chunk). WaitAfter scale now handed cs) (sym (without_other pending c t there.0))
          (subst (λ (o : Option LastSample). WaitAfter scale o handed (list_of pending t)) (sym there.1) w))
    ]

-- a track with the chunk or another one, as of the track of a number
by_track : (number k : ℕ) (c : Chunk) (place : ℕ) (held old : HeldTrack) → number ≡ 0 → ((c.track ≡ number + k) × (held ≡ one_with old place c)) ⊎ ((c.track ≡ number + k → ⊥) × (held ≡ old))
    → ((c.track ≡ k) × (held.last ≡ last_from old.last c.samples)) ⊎ ((c.track ≡ k → ⊥) × (held.last ≡ old.last))
by_track number k c place held old zero_is either =
    elim either [
      | inl here ↦ inl (omega (arith, here.0, zero_is), ap (λ (h : HeldTrack). h.last) here.1)
      | inr there ↦ inr (λ e. there.0 (omega (arith, e, zero_is)), ap (λ (h : HeldTrack). h.last) there.1)
    ]

scale_of : (number k : ℕ) (c : Chunk) (place : ℕ) (held old : HeldTrack) → ((c.track ≡ number + k) × (held ≡ one_with old place c)) ⊎ ((c.track ≡ number + k → ⊥) × (held ≡ old)) → held.track.setup ≡ old.track.setup
scale_of number k c place held old either = elim either [ inl here ↦ ap (λ (h : HeldTrack). h.track.setup) here.1 | inr there ↦ ap (λ (h : HeldTrack). h.track.setup) there.1 ]

-- what waits after the chunk is put into the open file
wait_into : {pending : List (List Chunk)} {tails : List Tail} {kept : OpenFiles} {left : Option Chunk} (c : Chunk) (now : OpenFile) (g : GoesOn pending tails kept left) → earliest_front pending ≡ Some c
    → now.tracks ≡ tracks_with 0 g.file.tracks g.file.end c → AllWait now.tracks tails (without_front pending c.track)
wait_into {pending} {tails} {kept} {left} c now g e grown t held tail at tail_at =
    let first = picked_first pending c g.theirs e in
    let inside : c.track < length pending = some_inside pending c.track c (drop 1 (list_of pending c.track)) first in
    let found = with_at 0 t g.file.tracks g.file.end c held (ap (λ (ts : List HeldTrack). slice_get ts t) (sym grown) ∙ at) in
    let old = found.0 in
    subst (λ (s : TrackSetup). WaitAfter s.scale held.last tail.last (list_of (without_front pending c.track) t)) (sym (scale_of 0 t c g.file.end held old found.2))
    (wait_next pending c t old.track.setup.scale old.last held.last tail.last first inside (g.wait t old tail found.1 tail_at) (by_track 0 t c g.file.end held old refl found.2))

-- what waits after the chunk is put into the next file
wait_into_next : {pending : List (List Chunk)} {tails : List Tail} {kept : OpenFiles} {left : Option Chunk} (c : Chunk) (now : OpenFile) (g : GoesOn pending tails kept left) → earliest_front pending ≡ Some c
    → now.tracks ≡ tracks_with 0 (held_from 0 kept.setups []) 40 c → AllWait now.tracks tails (without_front pending c.track)
wait_into_next {pending} {tails} {kept} {left} c now g e grown t held tail at tail_at =
    let first = picked_first pending c g.theirs e in
    let inside : c.track < length pending = some_inside pending c.track c (drop 1 (list_of pending c.track)) first in
    let found = with_at 0 t (held_from 0 kept.setups []) 40 c held (ap (λ (ts : List HeldTrack). slice_get ts t) (sym grown) ∙ at) in
    let new = found.0 in
    let setup = fresh_at 0 t kept.setups new found.1 in
    let before = found_track g.file.tracks t new.track.setup (ap (λ (ss : List TrackSetup). slice_get ss t) g.setups ∙ setup.0) in
    let waited = subst (λ (s : TrackSetup). WaitAfter s.scale before.0.last tail.last (list_of pending t)) before.2 (g.wait t before.0 tail before.1 tail_at) in
    let fresh = subst (λ (o : Option LastSample). WaitAfter new.track.setup.scale o tail.last (list_of pending t)) (sym setup.1) (wait_fresh waited) in
    subst (λ (s : TrackSetup). WaitAfter s.scale held.last tail.last (list_of (without_front pending c.track) t)) (sym (scale_of 0 t c 40 held new found.2))
    (wait_next pending c t new.track.setup.scale new.last held.last tail.last first inside fresh (by_track 0 t c 40 held new refl found.2))

pub goes_put : {pending : List (List Chunk)} {tails : List Tail} {kept new : OpenFiles} {left : Option Chunk} (c : Chunk) → GoesOn pending tails kept left → earliest_front pending ≡ Some c
    → WentInto kept.setups kept.file c new.file → new.setups ≡ kept.setups → GoesOn (without_front pending c.track) tails new left
goes_put {pending} {tails} {kept} {new} {left} c g e w setups =
    let same = ap (λ (ss : List TrackSetup). length ss) (sym setups) in
    record {
      file = w.file;
      is_open = w.is_open;
      setups = w.own ∙ sym setups;
      none_left = g.none_left;
      lists = length-set pending c.track (drop 1 (list_of pending c.track)) ∙ g.lists ∙ same;
      tracks = g.tracks ∙ same;
      theirs = their_without pending c.track g.theirs;
      wait = elim w.grown [
        | inl into ↦ (let same_file : Some g.file ≡ Some into.0 = sym g.is_open ∙ into.1 in let is : into.0 ≡ g.file = cc in
            wait_into c w.file g e (into.2 ∙ ap (λ (f : OpenFile). tracks_with 0 f.tracks f.end c) is))
        | inr next ↦ wait_into_next c w.file g e next
      ];
    }

-- a series that starts goes on
pub goes_fresh : {kept : OpenFiles} (setups : List TrackSetup) (tails : List Tail) (file : OpenFile) → kept.setups ≡ setups → kept.file ≡ Some file → IsFresh setups file → length tails ≡ length setups
    → GoesOn (replicate (length setups) []) tails kept None
goes_fresh {kept} setups tails file same is fresh long =
    let long_too = ap (λ (ss : List TrackSetup). length ss) (sym same) in
    record {
      file = file;
      is_open = is;
      setups = fresh.own ∙ sym same;
      none_left = refl;
      lists = length-replicate {A = List Chunk} (length setups) [] ∙ long_too;
      tracks = long ∙ long_too;
      theirs = their_first (length setups);
      wait = λ t held tail at tail_at.
          let there = fresh_at 0 t setups held (ap (λ (ts : List HeldTrack). slice_get ts t) (sym fresh.tracks) ∙ at) in
          let inside : t < length setups = found_long setups t held.track.setup there.0 in
          let none : list_of (replicate (length setups) []) t ≡ [] = get_or-replicate (length setups) t [] [] inside in
          subst (λ (cs : List Chunk). WaitAfter held.track.setup.scale held.last tail.last cs) (sym none) (record { each = tt; follow = tt; handed_next = inl there.1 });
    }

-- the lists that wait with one more chunk, where it has samples
grown_list : (b : Bool) (pending : List (List Chunk)) (c : Chunk) (t : ℕ) → c.track ≡ t → t < length pending → list_of (cond b (with_chunk pending c) pending) t ≡ cond b (list_of pending t ++ c ∷ []) (list_of pending t)
grown_list true pending c t e inside =
    subst (λ (n : ℕ). list_of (with_chunk pending c) n ≡ list_of pending n ++ c ∷ []) e (get_or-set_same pending c.track (list_of pending c.track ++ c ∷ []) [] (omega (arith, e, inside)))
grown_list false pending c t e inside = refl

same_list : (b : Bool) (pending : List (List Chunk)) (c : Chunk) (t : ℕ) → (c.track ≡ t → ⊥) → list_of (cond b (with_chunk pending c) pending) t ≡ list_of pending t
same_list true pending c t other = get_or-set_other pending c.track t (list_of pending c.track ++ c ∷ []) [] (λ e. other (sym e))
same_list false pending c t other = refl

wait_grown : (b : Bool) (scale : ℕ) (in_file handed : Option LastSample) (cs : List Chunk) (c : Chunk) → (b ≡ true → 1 ≤ length c.samples) → (b ≡ false → c.samples ≡ []) → length c.samples ≤ 4194304
    → AllFollow scale handed c.samples → WaitAfter scale in_file handed cs → WaitAfter scale in_file (last_from handed c.samples) (cond b (cs ++ c ∷ []) cs)
wait_grown true scale in_file handed cs c some none few f w = wait_handed c w (record { some = some refl; few = few }) f
wait_grown false scale in_file handed cs c some none few f w = subst (λ (ss : List Stored). WaitAfter scale in_file (last_from handed ss) cs) (sym (none refl)) w

long_if : (b : Bool) (pending : List (List Chunk)) (c : Chunk) → length (cond b (with_chunk pending c) pending) ≡ length pending
long_if true pending c = length-set pending c.track _
long_if false pending c = refl

their_if : (b : Bool) (pending : List (List Chunk)) (c : Chunk) → OfTheirTracks 0 pending → OfTheirTracks 0 (cond b (with_chunk pending c) pending)
their_if true pending c theirs = their_with pending c theirs
their_if false pending c theirs = theirs

empty_samples : (ss : List Stored) → length ss ≡ 0 → ss ≡ []
empty_samples [] e = refl
empty_samples (s ∷ ss) e = absurd (omega (arith, e))

filled_some : (c : Chunk) → is_filled c ≡ true → 1 ≤ length c.samples
filled_some c e = grind (arith, nat_tests)

filled_none : (c : Chunk) → is_filled c ≡ false → length c.samples ≡ 0
filled_none c e = grind (arith, nat_tests)

pub goes_handed : {pending : List (List Chunk)} {tails : List Tail} {kept : OpenFiles} {left : Option Chunk} (c : Chunk) (setup : TrackSetup) (tail : Tail) → GoesOn pending tails kept left
    → slice_get kept.setups c.track ≡ Some setup → slice_get tails c.track ≡ Some tail → length c.samples ≤ 4194304 → AllFollow setup.scale tail.last c.samples
    → GoesOn (with_filled pending c) (set tails c.track (tail_with tail c)) kept left
goes_handed {pending} {tails} {kept} {left} c setup tail g there handed few follow =
    record {
      file = g.file;
      is_open = g.is_open;
      setups = g.setups;
      none_left = g.none_left;
      lists = long_if (is_filled c) pending c ∙ g.lists;
      tracks = length-set tails c.track (tail_with tail c) ∙ g.tracks;
      theirs = their_if (is_filled c) pending c g.theirs;
      wait = λ t held now at now_at. elim (eqb_tells c.track t) [
        | inl p ↦ (
            let own : slice_get tails t ≡ Some tail = ap (λ (n : ℕ). slice_get tails n) (sym p.1) ∙ handed in
            let read : slice_get (set tails c.track (tail_with tail c)) t ≡ Some (tail_with tail c) =
            ap (λ (n : ℕ). slice_get (set tails c.track (tail_with tail c)) n) (sym p.1) ∙ read_set tails c.track tail (tail_with tail c) handed in
            let both : Some (tail_with tail c) ≡ Some now = sym read ∙ now_at in
            let same : tail_with tail c ≡ now = cc in
            let track = found_track g.file.tracks t setup (ap (λ (ss : List TrackSetup). slice_get ss t) g.setups ∙ ap (λ (n : ℕ). slice_get kept.setups n) (sym p.1) ∙ there) in
            let both_held : Some track.0 ≡ Some held = sym track.1 ∙ at in
            let same_held : track.0 ≡ held = cc in
            let setup_is : held.track.setup ≡ setup = ap (λ (h : HeldTrack). h.track.setup) (sym same_held) ∙ track.2 in
            let inside : t < length pending = omega (arith, found_long kept.setups c.track setup there, p.1, g.lists) in
            let waited = g.wait t held tail at own in
            let follows = subst (λ (s : TrackSetup). AllFollow s.scale tail.last c.samples) (sym setup_is) follow in
            let grown = wait_grown (is_filled c) held.track.setup.scale held.last tail.last (list_of pending t) c (λ e. filled_some c e) (λ e. empty_samples c.samples (filled_none c e)) few follows waited in
            let with_list = subst (λ (cs : List Chunk). WaitAfter held.track.setup.scale held.last (last_from tail.last c.samples) cs) (sym (grown_list (is_filled c) pending c t p.1 inside)) grown in
            subst (λ (x : Tail). WaitAfter held.track.setup.scale held.last x.last (list_of (with_filled pending c) t)) same with_list)
        | inr p ↦ (
            let own : slice_get tails t ≡ Some now = sym (read_other tails c.track t (tail_with tail c) p.1) ∙ now_at in
            subst (λ (cs : List Chunk). WaitAfter held.track.setup.scale held.last now.last cs) (sym (same_list (is_filled c) pending c t p.1)) (g.wait t held now at own))
      ];
    }

-- a series to which no fault came goes on
pub going : {pending : List (List Chunk)} {tails : List Tail} {kept : OpenFiles} {left : Option Chunk} {fault : Option SeriesFault} → fault ≡ None → SoundSeries pending tails kept left fault → GoesOn pending tails kept left
going {pending} {tails} {kept} {left} {fault} e s = subst (λ (o : Option SeriesFault). SoundSeries pending tails kept left o) e s

pub gone : {pending : List (List Chunk)} {tails : List Tail} {kept : OpenFiles} {left : Option Chunk} {fault : Option SeriesFault} → fault ≡ None → GoesOn pending tails kept left → SoundSeries pending tails kept left fault
gone {pending} {tails} {kept} {left} {fault} e g = subst (λ (o : Option SeriesFault). SoundSeries pending tails kept left o) (sym e) g

-- the lists that wait with a chunk that has samples, or none
pub with_unfilled : (lists : List (List Chunk)) (c : Chunk) → (length c.samples == 0) ≡ true → with_filled lists c ≡ lists
with_unfilled lists c e = let f : is_filled c ≡ false = grind (arith, nat_tests) in rw f refl

pub with_some : (lists : List (List Chunk)) (c : Chunk) → (length c.samples == 0) ≡ false → with_filled lists c ≡ with_chunk lists c
with_some lists c e = let t : is_filled c ≡ true = grind (arith, nat_tests) in rw t refl

pub unset : {A : Type 0} (o : Option A) → is_some o ≡ false → o ≡ None
unset {A} None e = refl
unset {A} (Some x) e = cc
