-- Chunks that wait can be put into the open file: with one more that is handed, and after one that is put.
use Rattle.std.proofs.Common.{◌≡◌, ℕ, zero, suc, ◌+◌, ◌≤◌, ◌⊎◌, List, [], ◌∷◌, ◌++◌, length, drop, set, Option, Some, None, refl, sym, subst, ap, ◌∙◌, inl, inr, append-nil, arith, get_or-set_same}
use Rattle.std.specs.Prelude.{slice_get}
use Rattle.std.specs.List.{AllByRecursion}
use Rattle.std.proofs.lemmas.Bool.Decides.{eqb_tells}
use Rattle.std.proofs.lemmas.List.{set-set, set-get_or}
use Rattle.std.proofs.lemmas.List.Concat.{flat_map-append}
use Rattle.sf_tick.specs.declared.types.Stored.{Stored}
use Rattle.sf_tick.specs.declared.types.Chunk.{Chunk}
use Rattle.sf_entry.specs.declared.track_setup.TrackSetup.{TrackSetup}
use Rattle.sf_gather.specs.declared.given.LastSample.{LastSample}
use Rattle.sf_gather.specs.Accepting.{last_from}
use Rattle.sf_gather.specs.Proper.{AllFollow, samples_of}
use Rattle.sf_gather.proofs.GatherLaws.{append_follows, follow_append, last_from-append}
use Rattle.sf_interleave.specs.Waiting.{OfTheirTracks, earliest_front, list_of, without_front}
use Rattle.sf_interleave.proofs.WaitingLaws.{picked_first}
use Rattle.sf_file.specs.Open.{HeldTrack, held_from, track_with, tracks_with}
use Rattle.sf_series.specs.inner.Waits.{IsWaiting, WaitAfter, with_left}
use Rattle.sf_series.proofs.Lists.{some_inside}

-- samples that follow another one can begin a file
pub weaken : (scale : ℕ) (last : Option LastSample) (ss : List Stored) → AllFollow scale last ss → AllFollow scale None ss
weaken scale last [] f = tt
weaken scale last (s ∷ ss) f =
    (record { time = f.0.time; rises = tt; decode = f.0.decode; near = tt; offset = f.0.offset; compose = f.0.compose; some = f.0.some; size = f.0.size }, f.1)

-- the last of some samples is the same after whatever sample
pub last_any : (a b : Option LastSample) (ss : List Stored) → 1 ≤ length ss → last_from a ss ≡ last_from b ss
last_any a b [] some = absurd (omega (arith, some))
last_any a b (s ∷ ss) some = refl

all_more : (cs : List Chunk) (c : Chunk) → AllByRecursion IsWaiting cs → IsWaiting c → AllByRecursion IsWaiting (cs ++ c ∷ [])
all_more [] c all one = (one, tt)
all_more (d ∷ cs) c all one = (all.0, all_more cs c all.1 one)

samples_more : (cs : List Chunk) (c : Chunk) → samples_of (cs ++ c ∷ []) ≡ samples_of cs ++ c.samples
samples_more cs c = flat_map-append (λ (d : Chunk). d.samples) cs (c ∷ []) ∙ ap (λ (ss : List Stored). samples_of cs ++ ss) (append-nil c.samples)

follow_next : (scale : ℕ) (at handed : Option LastSample) (ss : List Stored) → (at ≡ None) ⊎ (at ≡ handed) → AllFollow scale handed ss → AllFollow scale at ss
follow_next scale at handed ss either f =
    elim either [
      | inl none ↦ subst (λ (o : Option LastSample). AllFollow scale o ss) (sym none) (weaken scale handed ss f)
      | inr same ↦ subst (λ (o : Option LastSample). AllFollow scale o ss) (sym same) f
    ]

-- one more chunk waits
pub wait_handed : {scale : ℕ} {in_file handed : Option LastSample} {cs : List Chunk} (c : Chunk) → WaitAfter scale in_file handed cs → IsWaiting c → AllFollow scale handed c.samples
    → WaitAfter scale in_file (last_from handed c.samples) (cs ++ c ∷ [])
wait_handed {scale} {in_file} {handed} {cs} c w one f =
    let join = samples_more cs c in
    record {
      each = all_more cs c w.each one;
      follow = subst (λ (ss : List Stored). AllFollow scale in_file ss) (sym join) (append_follows scale in_file (samples_of cs) c.samples w.follow (follow_next scale _ handed c.samples w.handed_next f));
      handed_next = inr (ap (λ (ss : List Stored). last_from in_file ss) join ∙ last_from-append in_file (samples_of cs) c.samples ∙ last_any _ handed c.samples one.some);
    }

-- the first chunk that waits is put into the open file
pub wait_put : {scale : ℕ} {in_file handed : Option LastSample} {cs : List Chunk} (c : Chunk) → WaitAfter scale in_file handed (c ∷ cs) → WaitAfter scale (last_from in_file c.samples) handed cs
wait_put {scale} {in_file} {handed} {cs} c w =
    let last = last_from-append in_file c.samples (samples_of cs) in
    record {
      each = w.each.1;
      follow = (follow_append scale in_file c.samples (samples_of cs) w.follow).1;
      handed_next = elim w.handed_next [ inl none ↦ inl (sym last ∙ none) | inr same ↦ inr (sym last ∙ same) ];
    }

-- what waits can begin the next file
fresh_next : (in_file handed : Option LastSample) (cs : List Chunk) → AllByRecursion IsWaiting cs → (last_from in_file (samples_of cs) ≡ None) ⊎ (last_from in_file (samples_of cs) ≡ handed)
    → (last_from None (samples_of cs) ≡ None) ⊎ (last_from None (samples_of cs) ≡ handed)
fresh_next in_file handed [] all either = inl refl
fresh_next in_file handed (c ∷ cs) all either =
    let same : last_from None (samples_of (c ∷ cs)) ≡ last_from in_file (samples_of (c ∷ cs)) =
    last_from-append None c.samples (samples_of cs) ∙ ap (λ (o : Option LastSample). last_from o (samples_of cs)) (last_any None in_file c.samples all.0.some) ∙ sym (last_from-append in_file c.samples (samples_of cs)) in
    elim either [ inl none ↦ inl (same ∙ none) | inr is ↦ inr (same ∙ is) ]

pub wait_fresh : {scale : ℕ} {in_file handed : Option LastSample} {cs : List Chunk} → WaitAfter scale in_file handed cs → WaitAfter scale None handed cs
wait_fresh {scale} {in_file} {handed} {cs} w =
    record { each = w.each; follow = weaken scale in_file (samples_of cs) w.follow; handed_next = fresh_next in_file handed cs w.each w.handed_next }

-- a track of an open file with one more chunk, and another one
pub with_at : (number k : ℕ) (ts : List HeldTrack) (place : ℕ) (c : Chunk) (held : HeldTrack) → slice_get (tracks_with number ts place c) k ≡ Some held
    → ((old : HeldTrack) × (slice_get ts k ≡ Some old) × (((c.track ≡ number + k) × (held ≡ track_with old place c)) ⊎ ((c.track ≡ number + k → ⊥) × (held ≡ old))))
with_at number k [] place c held e = cc
with_at number zero (t ∷ ts) place c held e =
    elim (eqb_tells c.track number) [
      | inl p ↦ (t, refl, inl (omega (arith, p.1), let same : Some (track_with t place c) ≡ Some held = rw p.0 at e in cc))
      | inr p ↦ (t, refl, inr (λ n. p.1 (omega (arith, n)), let same : Some t ≡ Some held = rw p.0 at e in cc))
    ]
with_at number (suc k) (t ∷ ts) place c held e =
    let more = with_at (number + 1) k ts place c held e in
    (more.0, more.1, elim more.2 [ inl p ↦ inl (omega (arith, p.0), p.1) | inr p ↦ inr (λ n. p.0 (omega (arith, n)), p.1) ])

-- a track of a file without chunks
pub fresh_at : (number k : ℕ) (setups : List TrackSetup) (held : HeldTrack) → slice_get (held_from number setups []) k ≡ Some held → (slice_get setups k ≡ Some held.track.setup) × (held.last ≡ None)
fresh_at number k [] held e = cc
fresh_at number zero (setup ∷ setups) held e =
    let same : record { track = record { setup = setup; first = None; rows = [] }; last = None } ≡ held = cc in
    (ap (λ (h : HeldTrack). Some h.track.setup) same, sym (ap (λ (h : HeldTrack). h.last) same))
fresh_at number (suc k) (setup ∷ setups) held e = fresh_at (number + 1) k setups held e

-- a chunk that was picked and stays in front
pub left_back : (lists : List (List Chunk)) (c : Chunk) → OfTheirTracks 0 lists → earliest_front lists ≡ Some c → with_left (Some c) (without_front lists c.track) ≡ lists
left_back lists c theirs e =
    let first = picked_first lists c theirs e in
    let inside = some_inside lists c.track c (drop 1 (list_of lists c.track)) first in
    ap (λ (cs : List Chunk). set (without_front lists c.track) c.track (c ∷ cs)) (get_or-set_same lists c.track (drop 1 (list_of lists c.track)) [] inside)
    ∙ set-set lists c.track (drop 1 (list_of lists c.track)) (c ∷ drop 1 (list_of lists c.track))
    ∙ ap (λ (cs : List Chunk). set lists c.track cs) (sym first)
    ∙ set-get_or lists c.track []
