-- Chunks that a file can hold can be written, and grow by one chunk.
use Rattle.std.proofs.Common.{◌≡◌, ℕ, zero, suc, ◌+◌, ◌^◌, ◌<◌, ◌≤◌, List, [], ◌∷◌, ◌++◌, length, map, Option, Some, None, IfSome, refl, sym, ap, ◌∙◌, subst, arith}
use Rattle.std.specs.Prelude.{slice_get}
use Rattle.std.specs.List.{AllByRecursion}
use Rattle.std.proofs.lemmas.Option.{slice_get_within}
use Rattle.sf_tick.specs.declared.types.Stored.{Stored}
use Rattle.sf_tick.specs.declared.types.Chunk.{Chunk}
use Rattle.sf_entry.specs.declared.track_setup.TrackSetup.{TrackSetup}
use Rattle.sf_layout.specs.Layout.{TrackRows, first_us, track_samples, track_rows, tracks_of, movie_box}
use Rattle.sf_layout.specs.Writable.{IsWritable, IsTimed, Rises, AllRise, AllWritable, Writable}
use Rattle.sf_layout.proofs.LayoutLaws.{samples_grown, samples_kept}
use Rattle.sf_gather.specs.declared.given.LastSample.{LastSample}
use Rattle.sf_gather.specs.Accepting.{kept_of, last_of}
use Rattle.sf_gather.specs.Proper.{AllFollow}
use Rattle.sf_gather.proofs.GatherLaws.{append_follows}
use Rattle.sf_file.specs.Open.{HeldTrack, OpenFile, AreSetups, Stands, Appendable, count_of, closing_box_with, held_from, rows_in, setups_of}
use Rattle.sf_file.specs.Holdable.{IsReadable, HoldableTrack, AllHoldable, Holdable}
use Rattle.sf_file.specs.inner.Tracks.{fresh}
use Rattle.sf_file.proofs.Room.{late_by, early_by}
use Rattle.sf_file.proofs.OneMore.{rows_held}
use Rattle.sf_file.proofs.MovieLengths.{empty_box}
use Rattle.sf_file.proofs.ClosedFile.{all_more, count_more, fresh_held, stands_box_with, stands_count}

writable_each : (scale : ℕ) (last : Option LastSample) (ss : List Stored) → AllFollow scale last ss → AllByRecursion IsWritable ss
writable_each scale last [] f = tt
writable_each scale last (s ∷ ss) f =
    (record { some = f.0.some; short = omega (arith, f.0.size); early = early_by f.0; late = late_by f.0 }, writable_each scale (Some (kept_of s)) ss f.1)

timed_each : (scale : ℕ) (last : Option LastSample) (ss : List Stored) → AllFollow scale last ss → AllByRecursion (IsTimed scale) ss
timed_each scale last [] f = tt
timed_each scale last (s ∷ ss) f = (record { early = f.0.time; decode = f.0.decode }, timed_each scale (Some (kept_of s)) ss f.1)

rises_after : (scale : ℕ) (s : Stored) (ss : List Stored) → AllFollow scale (Some (kept_of s)) ss → Rises s ss
rises_after scale s [] f = tt
rises_after scale s (t ∷ ts) f = (f.0.rises, f.0.near, rises_after scale t ts f.1)

all_rise : (scale : ℕ) (ss : List Stored) → AllFollow scale None ss → AllRise ss
all_rise scale [] f = tt
all_rise scale (s ∷ ss) f = rises_after scale s ss f.1

all_writable : (number : ℕ) (setups : List TrackSetup) (chunks : List Chunk) → AllHoldable number setups chunks → AllWritable number setups chunks
all_writable number [] chunks all = tt
all_writable number (setup ∷ setups) chunks all =
    let ss : List Stored = track_samples number chunks in
    let h : HoldableTrack setup ss = all.0 in (
      record {
        scale_some = h.readable.ticks;
        scale_fits = h.readable.rate;
        entry = h.readable.entry;
        each = writable_each setup.scale None ss h.follow;
        timed = timed_each setup.scale None ss h.follow;
        rise = all_rise setup.scale ss h.follow;
        few = h.few;
      },
      all_writable (number + 1) setups chunks all.1,
    )

-- Chunks that a file can hold can be written.
pub holdable_writable : (setups : List TrackSetup) (chunks : List Chunk) → Holdable setups chunks → Writable setups chunks
holdable_writable setups chunks h =
    record { tracks = h.tracks; known = h.known; filled = h.filled; each = all_writable 0 setups chunks h.each; moov = h.box }

none_holdable : (number : ℕ) (setups : List TrackSetup) → AllByRecursion IsReadable setups → AllHoldable number setups []
none_holdable number [] all = tt
none_holdable number (setup ∷ setups) all = (record { readable = all.0; follow = tt; few = omega arith }, none_holdable (number + 1) setups all.1)

pub nothing_holdable : (setups : List TrackSetup) → AreSetups setups → AllByRecursion IsReadable setups → Holdable setups []
nothing_holdable setups a all =
    let same : rows_in (map fresh setups) ≡ tracks_of setups [] = ap rows_in (fresh_held 0 setups) ∙ rows_held 0 setups [] in
    record {
      tracks = a.few;
      known = tt;
      filled = tt;
      each = none_holdable 0 setups all;
      box = omega (arith, ap (λ (rs : List TrackRows). length (movie_box rs)) same, empty_box setups a.few a.entries);
    }

-- what is known of the track of the chunk
grown_track : (setup : TrackSetup) (number : ℕ) (chunks : List Chunk) (c : Chunk) → HoldableTrack setup (track_samples number chunks) → c.track ≡ number
    → AllFollow setup.scale (last_of (track_samples number chunks)) c.samples → length (track_samples number (chunks ++ c ∷ [])) ≤ 16777216
    → HoldableTrack setup (track_samples number (chunks ++ c ∷ []))
grown_track setup number chunks c h e follow few =
    let more : track_samples number chunks ++ c.samples ≡ track_samples number (chunks ++ c ∷ []) = sym (samples_grown number chunks c e) in
    record {
      readable = h.readable;
      follow = subst (λ (ss : List Stored). AllFollow setup.scale None ss) more (append_follows setup.scale None (track_samples number chunks) c.samples h.follow follow);
      few = few;
    }

kept_track : (setup : TrackSetup) (number : ℕ) (chunks : List Chunk) (c : Chunk) → HoldableTrack setup (track_samples number chunks) → (c.track ≡ number → ⊥)
    → HoldableTrack setup (track_samples number (chunks ++ c ∷ []))
kept_track setup number chunks c h other = subst (λ (ss : List Stored). HoldableTrack setup ss) (sym (samples_kept number chunks c other)) h

-- tracks of higher numbers stay
kept_tracks : (number : ℕ) (setups : List TrackSetup) (chunks : List Chunk) (c : Chunk) → c.track < number → AllHoldable number setups chunks → AllHoldable number setups (chunks ++ c ∷ [])
kept_tracks number [] chunks c lt all = tt
kept_tracks number (setup ∷ setups) chunks c lt all =
    (kept_track setup number chunks c all.0 (λ e. omega (arith, e, lt)), kept_tracks (number + 1) setups chunks c (omega (arith, lt)) all.1)

grown_tracks : (number k : ℕ) (setups : List TrackSetup) (chunks : List Chunk) (c : Chunk) (setup : TrackSetup) → c.track ≡ number + k → slice_get setups k ≡ Some setup
    → AllFollow setup.scale (last_of (track_samples c.track chunks)) c.samples → length (track_samples c.track (chunks ++ c ∷ [])) ≤ 16777216
    → AllHoldable number setups chunks → AllHoldable number setups (chunks ++ c ∷ [])
grown_tracks number k [] chunks c setup at e follow few all = tt
grown_tracks number zero (first ∷ setups) chunks c setup at e follow few all =
    let here : c.track ≡ number = omega (arith, at) in
    let same : setup ≡ first = let back : first ≡ setup = cc in sym back in (
      grown_track first number chunks c all.0 here
          (subst (λ (n : ℕ). AllFollow first.scale (last_of (track_samples n chunks)) c.samples) here (subst (λ (s : TrackSetup). AllFollow s.scale (last_of (track_samples c.track chunks)) c.samples) same follow))
          (subst (λ (n : ℕ). length (track_samples n (chunks ++ c ∷ [])) ≤ 16777216) here few),
      kept_tracks (number + 1) setups chunks c (omega (arith, here)) all.1,
    )
grown_tracks number (suc k) (first ∷ setups) chunks c setup at e follow few all =
    (kept_track first number chunks c all.0 (λ n. omega (arith, n, at)), grown_tracks (number + 1) k setups chunks c setup (omega (arith, at)) e follow few all.1)

pub holdable_more : (setups : List TrackSetup) (chunks : List Chunk) (c : Chunk) (setup : TrackSetup) → Holdable setups chunks → slice_get setups c.track ≡ Some setup → 1 ≤ length c.samples
    → AllFollow setup.scale (last_of (track_samples c.track chunks)) c.samples → length (track_samples c.track (chunks ++ c ∷ [])) ≤ 16777216
    → length (movie_box (tracks_of setups (chunks ++ c ∷ []))) ≤ 2 ^ 28 → Holdable setups (chunks ++ c ∷ [])
holdable_more setups chunks c setup h e some follow few box =
    record {
      tracks = h.tracks;
      known = all_more (λ (d : Chunk). d.track < length setups) chunks c h.known (slice_get_within setups c.track setup e);
      filled = all_more (λ (d : Chunk). 0 < length d.samples) chunks c h.filled (omega (arith, some));
      each = grown_tracks 0 c.track setups chunks c setup (omega arith) e follow few h.each;
      box = box;
    }

-- what an open file holds of a track
held_setup : (number k : ℕ) (setups : List TrackSetup) (chunks : List Chunk) (t : HeldTrack) → slice_get (held_from number setups chunks) k ≡ Some t
    → (slice_get setups k ≡ Some t.track.setup) × (t.last ≡ last_of (track_samples (number + k) chunks))
held_setup number k [] chunks t e = cc
held_setup number zero (setup ∷ setups) chunks t e =
    let at : number ≡ number + 0 = omega arith in
    let same : t ≡ record { track = record { setup = setup; first = first_us (track_samples number chunks); rows = track_rows number 40 chunks }; last = last_of (track_samples number chunks) } = cc in
    (ap (λ (u : HeldTrack). Some u.track.setup) (sym same), ap (λ (u : HeldTrack). u.last) same ∙ ap (λ (n : ℕ). last_of (track_samples n chunks)) at)
held_setup number (suc k) (setup ∷ setups) chunks t e =
    let at : (number + 1) + k ≡ number + suc k = omega arith in
    let both = held_setup (number + 1) k setups chunks t e in
    (both.0, both.1 ∙ ap (λ (n : ℕ). last_of (track_samples n chunks)) at)

-- An open file's chunks and one more, which it was asked the sizes with, can be held.
pub stands_holdable : {begun : Option (List ℕ)} {chunks : List Chunk} {file : OpenFile} (c : Chunk) → Stands begun chunks file → (a : Appendable file c)
    → count_of a.track + length c.samples ≤ 16777216 → length (closing_box_with file c) ≤ 2 ^ 28
    → Holdable (setups_of file) chunks → Holdable (setups_of file) (chunks ++ c ∷ [])
stands_holdable {begun} {chunks} {file} c s a few box h =
    let e : slice_get (held_from 0 (setups_of file) chunks) c.track ≡ Some a.track = ap (λ (ts : List HeldTrack). slice_get ts c.track) (sym s.tracks) ∙ a.among in
    let both = held_setup 0 c.track (setups_of file) chunks a.track e in
    let zero_more : 0 + c.track ≡ c.track = omega arith in
    let last : a.track.last ≡ last_of (track_samples c.track chunks) = both.1 ∙ ap (λ (n : ℕ). last_of (track_samples n chunks)) zero_more in
    let count = stands_count c.track (count_of a.track) s (slice_get_within file.tracks c.track a.track a.among) (subst (λ (o : Option HeldTrack). IfSome o (λ t. count_of a.track ≡ count_of t)) (sym a.among) refl) in
    holdable_more (setups_of file) chunks c a.track.track.setup h both.0 a.joins.some
    (subst (λ (l : Option LastSample). AllFollow a.track.track.setup.scale l c.samples) last a.joins.follow)
    (omega (arith, few, count, count_more chunks c))
    (subst (λ (b : List ℕ). length b ≤ 2 ^ 28) (stands_box_with c s) box)
