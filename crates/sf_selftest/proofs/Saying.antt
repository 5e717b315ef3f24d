-- What the generated inputs say, and the one file of their chunks.
use Rattle.std.proofs.Common.{◌≡◌, ℕ, zero, suc, ◌+◌, ◌^◌, ◌≤◌, ◌<◌, ◌==◌, ◌⊎◌, nat_lt, Bool, true, false, cond, List, [], ◌∷◌, ◌++◌, length, map, Option, Some, None, Result, Ok, refl, sym, ap, subst, ◌∙◌, inl, inr, arith}
use Rattle.std.specs.Prelude.{slice_get}
use Rattle.std.specs.List.{AllByRecursion, range_with_len}
use Rattle.std.proofs.lemmas.Bool.{lt-ltb}
use Rattle.std.proofs.lemmas.List.{get_or_past}
use Rattle.sf_tick.specs.Samples.{samples_of}
use Rattle.sf_tick.specs.declared.types.Chunk.{Chunk}
use Rattle.sf_tick.specs.declared.types.Kind.{Kind}
use Rattle.sf_tick.specs.declared.types.Kind.TheVariants.{Avc, Aac}
use Rattle.sf_tick.specs.declared.types.Stored.{Stored}
use Rattle.sf_coded.specs.CodedFile.{CodedFile, coded}
use Rattle.sf_entry.specs.TrackSetup.{made, sound_track, video_track}
use Rattle.sf_entry.specs.declared.track_setup.SetupFault.{SetupFault}
use Rattle.sf_entry.specs.declared.track_setup.TrackSetup.{TrackSetup}
use Rattle.sf_layout.specs.Layout.{movie_box, track_chunks, track_samples}
use Rattle.sf_layout.specs.Writable.{IsReadBack, Writable}
use Rattle.sf_layout.specs.Written.{first_tick}
use Rattle.sf_file.specs.Holdable.{AllHoldable, Holdable}
use Rattle.sf_file.proofs.Holdable.{holdable_writable}
use Rattle.sf_gather.specs.Accepting.{kept_of}
use Rattle.sf_gather.specs.Chunks.{belongs, chunk_of, chunks, chunks_from}
use Rattle.sf_gather.specs.Proper.{AllFollow}
use Rattle.sf_gather.specs.declared.given.Given.{Given}
use Rattle.sf_gather.specs.declared.given.LastSample.{LastSample}
use Rattle.sf_gather.proofs.GatherLaws.{chunks_joined, chunks_proper}
use Rattle.sf_interleave.specs.Waiting.{OfTheirTracks, list_of}
use Rattle.sf_series.specs.Order.{InOrder, Rises, in_order}
use Rattle.sf_series.specs.Switching.{Switched, switched}
use Rattle.sf_series.proofs.SeriesLaws.{order_is, proper_rises}
use Rattle.sf_make.specs.Generator.{generated_config, generated_input, generated_inputs, generated_kind, generated_payload, generated_sample, generated_samples, generated_setup}
use Rattle.sf_make.specs.Writing.{coded_samples}
use Rattle.sf_make.proofs.MakeLaws.{input_back}
use Rattle.sf_record.specs.Called.{after_headers, all_said, answer_of, called_for, setups_said}
use Rattle.sf_record.specs.Input.{Taken, given_of, taken}
use Rattle.sf_record.specs.Said.{Said, behind_header, said_by, said_in, said_unless, usual}
use Rattle.sf_record.specs.Serial.{filled, lists_of, lowest_fault}
use Rattle.sf_record.specs.declared.serial_end.SerialOutcome.{SerialOutcome}
use Rattle.sf_record.specs.declared.serial_end.SerialOutcome.TheVariants as outcomes
use Rattle.sf_record.specs.declared.faults.TrackFault.{TrackFault}
use Rattle.sf_selftest.specs.SelfTest.{no_limits}
use Rattle.sf_selftest.proofs.Generated.{Before, given_by, not_refused, scale_of}
use Rattle.sf_selftest.proofs.MovieBound.{movie_few}
use Rattle.sf_selftest.proofs.OneFile.{AreFew, FewSetups, IsFilled, all_of_tracks, one_file}
use Rattle.sf_selftest.proofs.Handing.{ReadsAs, Tiles}
use Rattle.sf_selftest.proofs.GeneratedTracks.{all_follow, all_tile, entry_few, first_zero, kind_is, made_kind, read_back, reads_as, scale_is, setup_of, stored_at, stored_from}

-- ---- what an input says

given_same : (t : ℕ) (kind : Kind) → given_of t (setup_of kind) usual ≡ given_by t kind
unfolding video_track sound_track
given_same t Avc = refl
given_same t Aac = refl

taken_all : (t : ℕ) (kind : Kind) (at from count : ℕ) (last : Option LastSample) → from + count ≤ 200000 → Before kind (given_by t kind) from last
    → taken (given_by t kind) last (coded_samples at (map (generated_sample kind) (range_with_len from count))) None ≡ record { samples = stored_from t kind from count; fault = None }
unfolding coded_samples
taken_all t kind at from zero last le before = refl
taken_all t kind at from (suc count) last le before =
    rw (not_refused t kind from last (omega (arith, le)) before)
    (ap (λ (x : Taken). let more : Taken = record { samples = stored_at t kind from ∷ x.samples; fault = x.fault } in more)
    (taken_all t kind (at + (22 + length (generated_payload kind from))) (from + 1) count (Some (kept_of (stored_at t kind from))) (omega (arith, le)) (inr (from, omega arith, refl))))

-- what the generated input of a kind says as that of a track
said_generated : (t : ℕ) (kind : Kind) (count : ℕ) → count ≤ 200000
    → said_in t usual (generated_input kind count) ≡ behind_header (setup_of kind) (record { samples = stored_from t kind 0 count; fault = None })
unfolding said_in
said_generated t kind count le =
    let back = input_back kind count (omega (arith, le)) in
    let at : ℕ = 22 + length (generated_config kind) in
    let bytes : List ℕ = generated_input kind count in
    ap (λ (f : CodedFile). said_by t usual f.setup f.end bytes) back
    ∙ ap (λ (r : Result TrackSetup SetupFault). said_unless t usual r bytes) (made_kind kind)
    ∙ ap (λ (f : CodedFile). behind_header (setup_of kind) (taken (given_of t (setup_of kind) usual) None f.samples f.end)) back
    ∙ ap (λ (g : Given). behind_header (setup_of kind) (taken g None (coded_samples at (generated_samples kind count)) None)) (given_same t kind)
    ∙ ap (behind_header (setup_of kind)) (taken_all t kind at 0 count None (omega (arith, le)) (inl refl))

-- What is known of a track whose input is whole.
pub record IsTrack (t : ℕ) (setup : TrackSetup) (said : Said) : Type 0 where
  pub header : said.setup ≡ Some setup
  pub whole : said.fault ≡ None
  pub some : 1 ≤ setup.scale
  pub fits : setup.scale < 2 ^ 32
  pub back : IsReadBack setup
  pub reads : ReadsAs setup
  pub entry : length setup.entry ≤ 1000000
  pub follow : AllFollow setup.scale None said.samples
  pub few : length said.samples ≤ 200000
  pub first : first_tick said.samples ≡ 0
  pub tiles : setup.kind ≡ Avc → AllByRecursion (λ x. Tiles x.bytes) said.samples

-- so is each track, numbered from here on
abbrev pub AreTracks : ℕ → List TrackSetup → List Said → Type 0
AreTracks t [] [] = Unit {0}
AreTracks t [] (said ∷ saids) = ⊥
AreTracks t (setup ∷ setups) [] = ⊥
AreTracks t (setup ∷ setups) (said ∷ saids) = IsTrack t setup said × AreTracks (t + 1) setups saids

stored_long : (t : ℕ) (kind : Kind) (from count : ℕ) → length (stored_from t kind from count) ≡ count
stored_long t kind from zero = refl
stored_long t kind from (suc count) = ap suc (stored_long t kind (from + 1) count)

scale_some : (kind : Kind) → (1 ≤ scale_of kind) × (scale_of kind < 2 ^ 32)
scale_some Avc = (omega arith, omega arith)
scale_some Aac = (omega arith, omega arith)

tiles_of : (t : ℕ) (kind : Kind) (count : ℕ) → (setup_of kind).kind ≡ Avc → AllByRecursion (λ x. Tiles x.bytes) (stored_from t kind 0 count)
tiles_of t Avc count e = all_tile t 0 count
tiles_of t Aac count e = absurd (let other = kind_is Aac in cc)

track_generated : (t : ℕ) (kind : Kind) (count : ℕ) → count ≤ 200000 → IsTrack t (setup_of kind) (said_in t usual (generated_input kind count))
track_generated t kind count le =
    let scale : (1 ≤ (setup_of kind).scale) × ((setup_of kind).scale < 2 ^ 32) = subst (λ (n : ℕ). (1 ≤ n) × (n < 2 ^ 32)) (sym (scale_is kind)) (scale_some kind) in
    let long = stored_long t kind 0 count in
    let follow : AllFollow (setup_of kind).scale None (stored_from t kind 0 count) =
    subst (λ (n : ℕ). AllFollow n None (stored_from t kind 0 count)) (sym (scale_is kind)) (all_follow t kind 0 count None (omega (arith, le)) (inl refl)) in
    subst (IsTrack t (setup_of kind)) (sym (said_generated t kind count le))
    (record {
      header = refl;
      whole = refl;
      some = scale.0;
      fits = scale.1;
      back = read_back kind;
      reads = reads_as kind;
      entry = entry_few kind;
      follow = follow;
      few = omega (arith, le, long);
      first = first_zero t kind count;
      tiles = tiles_of t kind count;
    })

-- the tracks of so many generated inputs, numbered from here on
abbrev pub setups_from : ℕ → ℕ → List TrackSetup
setups_from t n = map (λ k. setup_of (generated_kind k)) (range_with_len t n)

abbrev pub inputs_from : ℕ → ℕ → ℕ → List (List ℕ)
inputs_from count t n = map (λ k. generated_input (generated_kind k) count) (range_with_len t n)

pub tracks_generated : (count t n : ℕ) → count ≤ 200000 → AreTracks t (setups_from t n) (all_said t usual (inputs_from count t n))
tracks_generated count t zero le = tt
tracks_generated count t (suc n) le = (track_generated t (generated_kind t) count le, tracks_generated count (t + 1) n le)

pub setups_long : (t n : ℕ) → length (setups_from t n) ≡ n
setups_long t zero = refl
setups_long t (suc n) = ap suc (setups_long (t + 1) n)

-- ---- the chunks of a track

theirs_if : (b : Bool) (given : Given) (number : ℕ) (so_far : List Stored) (a c : List Chunk) → AllByRecursion (λ c. c.track ≡ given.track) a → AllByRecursion (λ c. c.track ≡ given.track) c
    → AllByRecursion (λ c. c.track ≡ given.track) (cond b a (chunk_of given number false so_far ∷ c))
theirs_if true given number so_far a c p q = p
theirs_if false given number so_far a c p q = (refl, q)

chunks_theirs : (given : Given) (number : ℕ) (so_far xs : List Stored) → AllByRecursion (λ c. c.track ≡ given.track) (chunks_from given number so_far xs)
chunks_theirs given number so_far [] = (refl, tt)
chunks_theirs given number so_far (x ∷ xs) = theirs_if (belongs given so_far x) given number so_far _ _ (chunks_theirs given number (so_far ++ x ∷ []) xs) (chunks_theirs given (number + 1) (x ∷ []) xs)

filled_if : (b : Bool) (given : Given) (number : ℕ) (s : Stored) (so_far : List Stored) (a c : List Chunk) → AllByRecursion IsFilled a → AllByRecursion IsFilled c
    → AllByRecursion IsFilled (cond b a (chunk_of given number false (s ∷ so_far) ∷ c))
filled_if true given number s so_far a c p q = p
filled_if false given number s so_far a c p q = (omega arith, q)

chunks_filled : (given : Given) (number : ℕ) (s : Stored) (so_far xs : List Stored) → AllByRecursion IsFilled (chunks_from given number (s ∷ so_far) xs)
chunks_filled given number s so_far [] = (omega arith, tt)
chunks_filled given number s so_far (x ∷ xs) = filled_if (belongs given (s ∷ so_far) x) given number s so_far _ _ (chunks_filled given number s (so_far ++ x ∷ []) xs) (chunks_filled given (number + 1) x [] xs)

filled_same : (cs : List Chunk) → AllByRecursion IsFilled cs → filled cs ≡ cs
filled_same [] all = refl
filled_same (c ∷ cs) all =
    let test : nat_lt 0 (length c.samples) ≡ true = lt-ltb _ _ all.0 in
    rw test (ap (λ (l : List Chunk). c ∷ l) (filled_same cs all.1))

-- What is known of the list of a track with these samples.
record IsList (t : ℕ) (samples : List Stored) (cs : List Chunk) : Type 0 where
  theirs : AllByRecursion (λ c. c.track ≡ t) cs
  filled : AllByRecursion IsFilled cs
  rises : Rises cs
  samples_are : samples_of cs ≡ samples

is_list : (given : Given) (samples : List Stored) → AllFollow given.scale None samples → IsList given.track samples (filled (chunks given samples))
is_list given [] follow = record { theirs = tt; filled = tt; rises = tt; samples_are = refl }
is_list given (s ∷ ss) follow =
    let cs : List Chunk = chunks given (s ∷ ss) in
    let all : AllByRecursion IsFilled cs = chunks_filled given 0 s [] ss in
    subst (IsList given.track (s ∷ ss)) (sym (filled_same cs all))
    (record {
      theirs = chunks_theirs given 0 (s ∷ []) ss;
      filled = all;
      rises = proper_rises given.track given.scale cs (chunks_proper given (s ∷ ss) follow) all;
      samples_are = chunks_joined given 0 [] (s ∷ ss);
    })

-- ---- the chunks of all tracks

-- the lists of tracks, numbered from here on
abbrev pub lists_from : ℕ → List TrackSetup → List Said → List (List Chunk)
lists_from t setups saids = lists_of t usual setups saids

-- each list is one of its own track, with the samples of its input
abbrev AreLists : ℕ → List Said → List (List Chunk) → Type 0
AreLists t [] [] = Unit {0}
AreLists t [] (cs ∷ lists) = ⊥
AreLists t (said ∷ saids) [] = ⊥
AreLists t (said ∷ saids) (cs ∷ lists) = (IsList t said.samples cs × (length said.samples ≤ 200000)) × AreLists (t + 1) saids lists

are_lists : (t : ℕ) (setups : List TrackSetup) (saids : List Said) → AreTracks t setups saids → AreLists t saids (lists_from t setups saids)
are_lists t [] [] are = tt
are_lists t [] (said ∷ saids) are = absurd are
are_lists t (setup ∷ setups) [] are = absurd are
are_lists t (setup ∷ setups) (said ∷ saids) are = ((is_list (given_of t setup usual) said.samples are.0.follow, are.0.few), are_lists (t + 1) setups saids are.1)

lists_theirs : (t : ℕ) (saids : List Said) (lists : List (List Chunk)) → AreLists t saids lists → OfTheirTracks t lists
lists_theirs t [] [] are = tt
lists_theirs t [] (cs ∷ lists) are = absurd are
lists_theirs t (said ∷ saids) [] are = absurd are
lists_theirs t (said ∷ saids) (cs ∷ lists) are = (are.0.0.theirs, lists_theirs (t + 1) saids lists are.1)

-- What is known of each list, of a track that is there or not.
record IsOne (k n : ℕ) (cs : List Chunk) : Type 0 where
  filled : AllByRecursion IsFilled cs
  rises : Rises cs
  few : length (samples_of cs) ≤ 200000
  known : AllByRecursion (λ c. c.track < n) cs

all_known : (t n : ℕ) (cs : List Chunk) → t < n → AllByRecursion (λ c. c.track ≡ t) cs → AllByRecursion (λ c. c.track < n) cs
all_known t n [] lt all = tt
all_known t n (c ∷ cs) lt all = (let e = all.0 in omega (arith, lt, e), all_known t n cs lt all.1)

each_list : (t k n : ℕ) (saids : List Said) (lists : List (List Chunk)) → t + length saids ≤ n → AreLists t saids lists → IsOne k n (list_of lists k)
each_list t k n [] [] le are = record { filled = tt; rises = tt; few = omega arith; known = tt }
each_list t k n [] (cs ∷ lists) le are = absurd are
each_list t k n (said ∷ saids) [] le are = absurd are
each_list t zero n (said ∷ saids) (cs ∷ lists) le are =
    let long = ap (λ (ss : List Stored). length ss) are.0.0.samples_are in
    let few = are.0.1 in
    record { filled = are.0.0.filled; rises = are.0.0.rises; few = omega (arith, long, few); known = all_known t n cs (omega (arith, le)) are.0.0.theirs }
each_list t (suc k) n (said ∷ saids) (cs ∷ lists) le are =
    let rest = each_list (t + 1) k n saids lists (omega (arith, le)) are.1 in
    record { filled = rest.filled; rises = rest.rises; few = rest.few; known = rest.known }

list_samples : (t k : ℕ) (saids : List Said) (lists : List (List Chunk)) (said : Said) → AreLists t saids lists → slice_get saids k ≡ Some said → samples_of (list_of lists k) ≡ said.samples
list_samples t k [] [] said are at = absurd cc
list_samples t k [] (cs ∷ lists) said are at = absurd are
list_samples t k (x ∷ saids) [] said are at = absurd are
list_samples t zero (x ∷ saids) (cs ∷ lists) said are at = let same : x ≡ said = cc in are.0.0.samples_are ∙ ap (λ (y : Said). y.samples) same
list_samples t (suc k) (x ∷ saids) (cs ∷ lists) said are at = list_samples (t + 1) k saids lists said are.1 at

-- What is known of the chunks of tracks in their order.
pub record OneFile (setups : List TrackSetup) (saids : List Said) (order : List Chunk) : Type 0 where
  pub writable : Writable setups order
  pub switched_is : switched no_limits setups order ≡ record { files = order ∷ []; limit = None }
  pub samples : (k : ℕ) (said : Said) → slice_get saids k ≡ Some said → track_samples k order ≡ said.samples

setups_entries : (t : ℕ) (setups : List TrackSetup) (saids : List Said) → AreTracks t setups saids → AllByRecursion (λ s. length s.entry ≤ 1000000) setups
setups_entries t [] [] are = tt
setups_entries t [] (said ∷ saids) are = absurd are
setups_entries t (setup ∷ setups) [] are = absurd are
setups_entries t (setup ∷ setups) (said ∷ saids) are = (are.0.entry, setups_entries (t + 1) setups saids are.1)

saids_long : (t : ℕ) (setups : List TrackSetup) (saids : List Said) → AreTracks t setups saids → length saids ≡ length setups
saids_long t [] [] are = refl
saids_long t [] (said ∷ saids) are = absurd are
saids_long t (setup ∷ setups) [] are = absurd are
saids_long t (setup ∷ setups) (said ∷ saids) are = ap suc (saids_long (t + 1) setups saids are.1)

all_holdable : (t : ℕ) (setups : List TrackSetup) (saids : List Said) (order : List Chunk) → AreTracks t setups saids
    → ((k : ℕ) (said : Said) → slice_get saids k ≡ Some said → track_samples (t + k) order ≡ said.samples) → AllHoldable t setups order
all_holdable t [] [] order are samples = tt
all_holdable t [] (said ∷ saids) order are samples = absurd are
all_holdable t (setup ∷ setups) [] order are samples = absurd are
all_holdable t (setup ∷ setups) (said ∷ saids) order are samples =
    let here : t + 0 ≡ t = omega arith in
    let own : track_samples t order ≡ said.samples = ap (λ (n : ℕ). track_samples n order) (sym here) ∙ samples 0 said refl in
    let long = ap (λ (ss : List Stored). length ss) own in
    let few = are.0.few in (
      record {
        readable = record { ticks = are.0.some; rate = are.0.fits; entry = are.0.back };
        follow = subst (AllFollow setup.scale None) (sym own) are.0.follow;
        few = omega (arith, long, few);
      },
      all_holdable (t + 1) setups saids order are.1 (λ k x at. (let next : (t + 1) + k ≡ t + suc k = omega arith in ap (λ (n : ℕ). track_samples n order) next ∙ samples (suc k) x at)),
    )

pub one_file_of : (setups : List TrackSetup) (saids : List Said) → AreTracks 0 setups saids → length setups ≤ 8 → OneFile setups saids (in_order (lists_from 0 setups saids))
one_file_of setups saids are eight =
    let lists : List (List Chunk) = lists_from 0 setups saids in
    let order : List Chunk = in_order lists in
    let ok : AreLists 0 saids lists = are_lists 0 setups saids are in
    let long = saids_long 0 setups saids are in
    let each : (k : ℕ) → IsOne k (length setups) (list_of lists k) = λ k. each_list 0 k (length setups) saids lists (omega (arith, long)) ok in
    let whole : InOrder lists order = order_is lists (lists_theirs 0 saids lists ok) (λ k. (each k).rises) in
    let filled_all : AllByRecursion IsFilled order = all_of_tracks IsFilled order (λ k. subst (AllByRecursion IsFilled) (sym (whole.whole k)) (each k).filled) in
    let known : AllByRecursion (λ c. c.track < length setups) order =
    all_of_tracks (λ (c : Chunk). c.track < length setups) order (λ k. subst (AllByRecursion (λ c. c.track < length setups)) (sym (whole.whole k)) (each k).known) in
    let few : (k : ℕ) → length (track_samples k order) ≤ 200000 = λ k. subst (λ (cs : List Chunk). length (samples_of cs) ≤ 200000) (sym (whole.whole k)) (each k).few in
    let entries = setups_entries 0 setups saids are in
    let samples : (k : ℕ) (said : Said) → slice_get saids k ≡ Some said → track_samples k order ≡ said.samples =
    λ k said at. ap (λ (cs : List Chunk). samples_of cs) (whole.whole k) ∙ list_samples 0 k saids lists said ok at in
    let holdable : Holdable setups order = record {
      tracks = omega (arith, eight);
      known = known;
      filled = filled_all;
      each = all_holdable 0 setups saids order are (λ k said at. (let here : 0 + k ≡ k = omega arith in ap (λ (n : ℕ). track_samples n order) here ∙ samples k said at));
      box = movie_few setups order eight entries filled_all few;
    } in
    record {
      writable = holdable_writable setups order holdable;
      switched_is = one_file setups order (record { eight = eight; entries = entries }) (record { filled = filled_all; few = few });
      samples = samples;
    }

-- ---- the answer that the inputs call for

after_ok : (t : ℕ) (setups : List TrackSetup) (saids : List Said) (answer : SerialOutcome) → AreTracks t setups saids → after_headers t saids answer ≡ answer
after_ok t [] [] answer are = refl
after_ok t [] (said ∷ saids) answer are = absurd are
after_ok t (setup ∷ setups) [] answer are = absurd are
after_ok t (setup ∷ setups) (said ∷ saids) answer are = rw are.0.header (after_ok (t + 1) setups saids answer are.1)

setups_are : (t : ℕ) (setups : List TrackSetup) (saids : List Said) → AreTracks t setups saids → setups_said saids ≡ setups
setups_are t [] [] are = refl
setups_are t [] (said ∷ saids) are = absurd are
setups_are t (setup ∷ setups) [] are = absurd are
setups_are t (setup ∷ setups) (said ∷ saids) are = rw are.0.header (ap (λ (l : List TrackSetup). setup ∷ l) (setups_are (t + 1) setups saids are.1))

no_fault : (t : ℕ) (setups : List TrackSetup) (saids : List Said) → AreTracks t setups saids → lowest_fault t (map (λ s. s.fault) saids) ≡ outcomes.Done
no_fault t [] [] are = refl
no_fault t [] (said ∷ saids) are = absurd are
no_fault t (setup ∷ setups) [] are = absurd are
no_fault t (setup ∷ setups) (said ∷ saids) are = rw are.0.whole (no_fault (t + 1) setups saids are.1)

-- whole inputs of few samples are all recorded
pub answer_done : (setups : List TrackSetup) (saids : List Said) → AreTracks 0 setups saids → length setups ≤ 8 → after_headers 0 saids (answer_of usual no_limits (setups_said saids) saids) ≡ outcomes.Done
answer_done setups saids are eight =
    let file = one_file_of setups saids are eight in
    after_ok 0 setups saids (answer_of usual no_limits (setups_said saids) saids) are
    ∙ ap (λ (ss : List TrackSetup). answer_of usual no_limits ss saids) (setups_are 0 setups saids are)
    ∙ rw file.switched_is (no_fault 0 setups saids are)

-- The generated inputs call for a recording that is done.
pub generated_done : (count tracks : ℕ) → count ≤ 200000 → tracks ≤ 8 → called_for usual no_limits (generated_inputs count tracks) ≡ outcomes.Done
unfolding called_for
generated_done count tracks le eight =
    let long = setups_long 0 tracks in
    answer_done (setups_from 0 tracks) (all_said 0 usual (generated_inputs count tracks)) (tracks_generated count 0 tracks le) (omega (arith, eight, long))
