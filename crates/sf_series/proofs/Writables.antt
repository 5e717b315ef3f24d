-- Each file of a series is one that is read back.
use Rattle.std.proofs.Common.{◌≡◌, ℕ, ◌+◌, ◌≤◌, List, [], ◌∷◌, ◌++◌, length, Option, None, sym, subst, ap, ◌∙◌}
use Rattle.std.specs.Prelude.{◌==◌}
use Rattle.std.specs.List.{AllByRecursion}
use Rattle.std.proofs.lemmas.List.Concat.{flat_map-append}
use Rattle.std.proofs.lemmas.List.Elements.{filter-append}
use Rattle.sf_tick.specs.Samples.{samples_of}
use Rattle.sf_tick.specs.declared.types.Stored.{Stored}
use Rattle.sf_tick.specs.declared.types.Chunk.{Chunk}
use Rattle.sf_entry.specs.declared.track_setup.TrackSetup.{TrackSetup}
use Rattle.sf_gather.specs.declared.given.LastSample.{LastSample}
use Rattle.sf_gather.specs.Accepting.{last_from}
use Rattle.sf_gather.specs.Proper.{AllFollow, Proper}
use Rattle.sf_gather.proofs.GatherLaws.{follow_append}
use Rattle.sf_layout.specs.Layout.{track_chunks, track_samples}
use Rattle.sf_layout.specs.Writable.{WritableTrack, AllWritable}
use Rattle.sf_interleave.specs.Waiting.{list_of}
use Rattle.sf_series.specs.Files.{flat, chunks_of_track}
use Rattle.sf_series.specs.Kept.{AllThere}
use Rattle.sf_file.specs.Holdable.{IsReadable}
use Rattle.sf_series.specs.Fitting.{AllProper}
use Rattle.sf_series.proofs.Samples.{follow_writable, follow_timed, follow_rise}

pub samples_append : (xs ys : List Chunk) → samples_of (xs ++ ys) ≡ samples_of xs ++ samples_of ys
samples_append xs ys = flat_map-append (λ (c : Chunk). c.samples) xs ys

pub all_front : (P : Chunk → Type 0) (xs ys : List Chunk) → AllByRecursion P (xs ++ ys) → AllByRecursion P xs
all_front P [] ys all = tt
all_front P (x ∷ xs) ys all = (all.0, all_front P xs ys all.1)

all_behind : (P : Chunk → Type 0) (xs ys : List Chunk) → AllByRecursion P (xs ++ ys) → AllByRecursion P ys
all_behind P [] ys all = all
all_behind P (x ∷ xs) ys all = all_behind P xs ys all.1

-- what holds of all chunks of files holds of each file's
abbrev pub InEach : (List Chunk → Type 0) → List (List Chunk) → Type 0
InEach P files = AllByRecursion P files

pub each_of : (P : Chunk → Type 0) (files : List (List Chunk)) → AllByRecursion P (flat files) → AllByRecursion (λ file. AllByRecursion P file) files
each_of P [] all = tt
each_of P (file ∷ files) all = (all_front P file (flat files) all, each_of P files (all_behind P file (flat files) all))

-- samples follow one after the other, after some earlier one
abbrev pub SomeFollow : ℕ → List Stored → Type 0
SomeFollow scale samples = (last : Option LastSample) × AllFollow scale last samples

-- the samples of a track in each file follow where those of all files do
follow_each : (scale t : ℕ) (last : Option LastSample) (files : List (List Chunk)) → AllFollow scale last (samples_of (chunks_of_track t files)) → AllByRecursion (λ file. SomeFollow scale (track_samples t file)) files
follow_each scale t last [] follow = tt
follow_each scale t last (file ∷ files) follow =
    let split : samples_of (chunks_of_track t (file ∷ files)) ≡ track_samples t file ++ samples_of (chunks_of_track t files) =
    ap samples_of (filter-append (λ (c : Chunk). c.track == t) file (flat files)) ∙ samples_append (track_chunks t file) (chunks_of_track t files) in
    let P : List Stored → Type 0 = λ ss. AllFollow scale last ss in
    let both = follow_append scale last (track_samples t file) (samples_of (chunks_of_track t files)) (subst P split follow) in
    ((last, both.0), follow_each scale t (last_from last (track_samples t file)) files both.1)

-- the samples of a track in files follow where those handed do
follow_files : (scale t : ℕ) (files pending handed : List (List Chunk)) → AllThere files pending handed → Proper t scale (list_of handed t) → AllFollow scale None (samples_of (chunks_of_track t files))
follow_files scale t files pending handed there proper =
    let P : List Stored → Type 0 = λ ss. AllFollow scale None ss in
    let all : AllFollow scale None (samples_of (chunks_of_track t files) ++ samples_of (list_of pending t)) =
    subst P (ap samples_of (sym (there t)) ∙ samples_append (chunks_of_track t files) (list_of pending t)) proper.samples in
    (follow_append scale None (samples_of (chunks_of_track t files)) (samples_of (list_of pending t)) all).0

-- what a file holds of a track, in the form that is read back
track_writable : (setup : TrackSetup) (samples : List Stored) → IsReadable setup → SomeFollow setup.scale samples → length samples ≤ 16777216 → WritableTrack setup samples
track_writable setup samples h follow few = record {
  scale_some = h.ticks;
  scale_fits = h.rate;
  entry = h.entry;
  each = follow_writable setup.scale follow.0 samples follow.1;
  timed = follow_timed setup.scale follow.0 samples follow.1;
  rise = follow_rise setup.scale follow.0 samples follow.1;
  few = few;
}

-- each file holds of each track what follows
abbrev pub AllSomeFollow : ℕ → List TrackSetup → List Chunk → Type 0
AllSomeFollow number [] file = Unit {0}
AllSomeFollow number (setup ∷ setups) file = SomeFollow setup.scale (track_samples number file) × AllSomeFollow (number + 1) setups file

pub both_all : (P Q : List Chunk → Type 0) (files : List (List Chunk)) → AllByRecursion P files → AllByRecursion Q files → AllByRecursion (λ f. P f × Q f) files
both_all P Q [] p q = tt
both_all P Q (file ∷ files) p q = ((p.0, q.0), both_all P Q files p.1 q.1)

unit_all : (files : List (List Chunk)) → AllByRecursion (λ (f : List Chunk). Unit {0}) files
unit_all [] = tt
unit_all (file ∷ files) = (tt, unit_all files)

pub all_follow : (number : ℕ) (setups : List TrackSetup) (files pending handed : List (List Chunk)) → AllThere files pending handed → AllProper number setups handed
    → AllByRecursion (λ file. AllSomeFollow number setups file) files
all_follow number [] files pending handed there proper = unit_all files
all_follow number (setup ∷ setups) files pending handed there proper =
    both_all (λ f. SomeFollow setup.scale (track_samples number f)) (λ f. AllSomeFollow (number + 1) setups f) files
    (follow_each setup.scale number None files (follow_files setup.scale number files pending handed there proper.0))
    (all_follow (number + 1) setups files pending handed there proper.1)

pub tracks_writable : (number : ℕ) (setups : List TrackSetup) (file : List Chunk) → AllByRecursion IsReadable setups → AllSomeFollow number setups file → ((t : ℕ) → length (track_samples t file) ≤ 16777216)
    → AllWritable number setups file
tracks_writable number [] file fit follow few = tt
tracks_writable number (setup ∷ setups) file fit follow few =
    (track_writable setup (track_samples number file) fit.0 follow.0 (few number), tracks_writable (number + 1) setups file fit.1 follow.1 few)
