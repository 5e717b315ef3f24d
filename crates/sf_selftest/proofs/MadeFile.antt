-- The file into which the generated inputs are recorded.
use Rattle.std.proofs.Common.{◌≡◌, ℕ, zero, suc, ◌+◌, ◌-◌, ◌≤◌, ◌<◌, ◌⊎◌, pos, ◌-ℤ◌, nat_lt, true, List, [], ◌∷◌, ◌++◌, length, map, Option, Some, None, Result, Ok, Err, IfOk, refl, sym, ap, subst, ◌∙◌, inl, inr, arith}
use Rattle.std.specs.Prelude.{slice_get}
use Rattle.std.specs.List.{AllByRecursion, range_with_len}
use Rattle.std.proofs.lemmas.Bool.{lt-ltb}
use Rattle.std.proofs.lemmas.List.{length-map}
use Rattle.sf_tick.specs.declared.types.Chunk.{Chunk}
use Rattle.sf_tick.specs.declared.types.Kind.TheVariants.{Avc}
use Rattle.sf_tick.specs.declared.types.Stored.{Stored}
use Rattle.sf_world.specs.Views.{ShelfView, SourceView, told_source}
use Rattle.sf_entry.specs.declared.track_setup.TrackSetup.{TrackSetup}
use Rattle.sf_entry.specs.declared.types.EntryAt.{EntryAt}
use Rattle.sf_meaning.specs.Joined.{Held, content}
use Rattle.sf_meaning.specs.Movie.{movie}
use Rattle.sf_meaning.specs.Rows.{held_as}
use Rattle.sf_meaning.specs.Written.{held_since}
use Rattle.sf_meaning.specs.declared.movie.PlainTrack.{PlainTrack}
use Rattle.sf_layout.specs.Layout.{layout, track_samples}
use Rattle.sf_layout.specs.Writable.{Writable}
use Rattle.sf_layout.specs.Written.{base_of, first_tick, written_movie, written_tracks}
use Rattle.sf_layout.proofs.LayoutLaws.{layout_content, layout_entries, layout_joined, layout_read}
use Rattle.sf_movie.specs.Loaded.{Loaded}
use Rattle.sf_extract.specs.Current.{unmoved}
use Rattle.sf_extract.specs.Plan.{missing_from}
use Rattle.sf_extract.specs.declared.plan.Command.{Command}
use Rattle.sf_extract.specs.declared.plan.Command.TheVariants.{Select, ToEnd}
use Rattle.sf_reader.specs.Dumps.{first_missing, missing_or}
use Rattle.sf_series.specs.Order.{in_order}
use Rattle.sf_series.specs.Switching.{Switched}
use Rattle.sf_series.specs.declared.limits.Limits.{Limits}
use Rattle.sf_series.specs.declared.report.Report.{Report}
use Rattle.sf_make.specs.Generator.{generated_input, generated_inputs, generated_kind}
use Rattle.sf_record.specs.Called.{RecordsSaid, TellBytes, all_said, called_for}
use Rattle.sf_record.specs.Said.{Said, said_in, usual}
use Rattle.sf_record.specs.Serial.{FollowOrder, asked_for, gave}
use Rattle.sf_record.specs.declared.serial_end.SerialOutcome.{SerialOutcome}
use Rattle.sf_record.specs.declared.serial_end.SerialOutcome.TheVariants as outcomes
use Rattle.sf_selftest.specs.SelfTest.{HoldsGenerated, no_limits, whole_plan}
use Rattle.sf_selftest.specs.inner.Made.{HasSaid, IsMade}
use Rattle.sf_selftest.proofs.Handing.{ReadsAs, are_of, hands_out, plan_whole}
use Rattle.sf_selftest.proofs.Saying.{AreTracks, IsTrack, OneFile, generated_done, lists_from, one_file_of, setups_from, setups_long, tracks_generated}

-- ---- what was read is what the inputs say

setups_same : (t : ℕ) (setups others : List TrackSetup) (saids : List Said) → AreTracks t setups saids → map (λ r. r.setup) saids ≡ map Some others → others ≡ setups
setups_same t [] [] [] are same = refl
setups_same t [] (o ∷ others) [] are same = absurd cc
setups_same t [] others (said ∷ saids) are same = absurd are
setups_same t (setup ∷ setups) others [] are same = absurd are
setups_same t (setup ∷ setups) [] (said ∷ saids) are same = absurd cc
setups_same t (setup ∷ setups) (o ∷ others) (said ∷ saids) are same =
    let first : said.setup ≡ Some o = cc in
    let both : Some setup ≡ Some o = sym are.0.header ∙ first in
    let own : o ≡ setup = cc in
    let more : map (λ r. r.setup) saids ≡ map Some others = cc in
    ap (λ (x : TrackSetup). x ∷ others) own ∙ ap (λ (xs : List TrackSetup). setup ∷ xs) (setups_same (t + 1) setups others saids are.1 more)

-- ---- a track by its number

-- A track of a number, and what its input says.
record TrackAt (t : ℕ) (saids : List Said) (k : ℕ) (setup : TrackSetup) : Type 0 where
  said : Said
  there : slice_get saids k ≡ Some said
  is : IsTrack (t + k) setup said

track_at : (t k : ℕ) (setups : List TrackSetup) (saids : List Said) (setup : TrackSetup) → AreTracks t setups saids → slice_get setups k ≡ Some setup → TrackAt t saids k setup
track_at t k [] [] setup are at = absurd cc
track_at t k [] (said ∷ saids) setup are at = absurd are
track_at t k (s ∷ setups) [] setup are at = absurd are
track_at t zero (s ∷ setups) (said ∷ saids) setup are at =
    let same : s ≡ setup = cc in
    let here : t ≡ t + 0 = omega arith in
    record { said = said; there = refl; is = subst (λ (n : ℕ). IsTrack n setup said) here (subst (λ (x : TrackSetup). IsTrack t x said) same are.0) }
track_at t (suc k) (s ∷ setups) (said ∷ saids) setup are at =
    let x = track_at (t + 1) k setups saids setup are.1 at in
    let here : (t + 1) + k ≡ t + suc k = omega arith in
    record { said = x.said; there = x.there; is = subst (λ (n : ℕ). IsTrack n setup x.said) here x.is }

-- What is known of an input of a number.
record SaidAt (setups : List TrackSetup) (k : ℕ) (said : Said) : Type 0 where
  within : k < length setups
  whole : said.fault ≡ None
  first : first_tick said.samples ≡ 0

said_at : (t k : ℕ) (setups : List TrackSetup) (saids : List Said) (said : Said) → AreTracks t setups saids → slice_get saids k ≡ Some said → SaidAt setups k said
said_at t k [] [] said are at = absurd cc
said_at t k [] (x ∷ saids) said are at = absurd are
said_at t k (s ∷ setups) [] said are at = absurd are
said_at t zero (s ∷ setups) (x ∷ saids) said are at =
    let same : x ≡ said = cc in
    record {
      within = omega arith;
      whole = ap (λ (y : Said). y.fault) (sym same) ∙ are.0.whole;
      first = ap (λ (y : Said). first_tick y.samples) (sym same) ∙ are.0.first;
    }
said_at t (suc k) (s ∷ setups) (x ∷ saids) said are at =
    let rest = said_at (t + 1) k setups saids said are.1 at in
    let lt = rest.within in
    record { within = omega (arith, lt); whole = rest.whole; first = rest.first }

said_there : (t k : ℕ) (inputs : List (List ℕ)) (bytes : List ℕ) → slice_get inputs k ≡ Some bytes → slice_get (all_said t usual inputs) k ≡ Some (said_in (t + k) usual bytes)
said_there t k [] bytes at = absurd cc
said_there t zero (x ∷ inputs) bytes at =
    let same : x ≡ bytes = cc in
    let here : t ≡ t + 0 = omega arith in
    ap (λ (b : List ℕ). Some (said_in t usual b)) same ∙ ap (λ (n : ℕ). Some (said_in n usual bytes)) here
said_there t (suc k) (x ∷ inputs) bytes at =
    let here : (t + 1) + k ≡ t + suc k = omega arith in
    said_there (t + 1) k inputs bytes at ∙ ap (λ (n : ℕ). Some (said_in n usual bytes)) here

all_read : (setups : List TrackSetup) → ((setup : TrackSetup) → (t : ℕ) → slice_get setups t ≡ Some setup → ReadsAs setup) → AllByRecursion ReadsAs setups
all_read [] each = tt
all_read (s ∷ setups) each = (each s 0 refl, all_read setups (λ setup t at. each setup (suc t) at))

-- ---- the samples of a track

since_zero : (s : Stored) → held_since 0 s ≡ held_as s
since_zero s =
    let decode : s.decode - 0 ≡ s.decode = omega arith in
    let compose : s.compose + 0 ≡ s.compose = omega arith in
    ap (λ (n : ℕ). let h : Held = record { decode = n; compose = pos s.compose -ℤ pos 0; sync = s.sync; bytes = s.bytes } in h) decode
    ∙ ap (λ (n : ℕ). let h : Held = record { decode = s.decode; compose = pos n; sync = s.sync; bytes = s.bytes } in h) compose

all_since_zero : (ss : List Stored) → map (held_since 0) ss ≡ map held_as ss
all_since_zero [] = refl
all_since_zero (s ∷ ss) = ap (λ (h : Held). h ∷ map (held_since 0) ss) (since_zero s) ∙ ap (λ (hs : List Held). held_as s ∷ hs) (all_since_zero ss)

-- a track whose first sample is decoded at the tick 0
content_from : (setups : List TrackSetup) (order : List Chunk) (t : ℕ) (ss : List Stored) → Writable setups order → t < length setups → track_samples t order ≡ ss → first_tick ss ≡ 0
    → content (layout setups order) t ≡ Some (map held_as ss)
content_from setups order t ss w lt same first =
    layout_content setups order t w lt
    ∙ ap (λ (xs : List Stored). Some (map (held_since (first_tick xs)) xs)) same
    ∙ ap (λ (n : ℕ). Some (map (held_since n) ss)) first
    ∙ ap (λ (hs : List Held). Some hs) (all_since_zero ss)

-- ---- the plan

selects_there : (n k from t : ℕ) → from + t ≤ n → missing_from n k (map Select (range_with_len from t) ++ ToEnd ∷ []) ≡ None
unfolding missing_from
selects_there n k from zero le = refl
selects_there n k from (suc t) le =
    let test : nat_lt from n ≡ true = lt-ltb _ _ (omega (arith, le)) in
    rw test (selects_there n (k + 1) (from + 1) t (omega (arith, le)))

plan_there : (tracks n : ℕ) → n ≡ tracks → first_missing n 0 (whole_plan tracks ∷ []) ≡ None
unfolding first_missing
plan_there tracks n same = ap (λ (o : Option ℕ). missing_or 0 o None) (selects_there n 0 0 tracks (omega (arith, same)))

tracks_long : (start number : ℕ) (setups : List TrackSetup) (order : List Chunk) → length (written_tracks start number setups order) ≡ length setups
tracks_long start number [] order = refl
tracks_long start number (s ∷ setups) order = ap suc (tracks_long start (number + 1) setups order)

-- ---- the file

is_made : (count tracks : ℕ) (setups : List TrackSetup) (saids : List Said) (order : List Chunk) → length setups ≡ tracks → saids ≡ all_said 0 usual (generated_inputs count tracks)
    → AreTracks 0 setups saids → OneFile setups saids order → IsMade count tracks (layout setups order)
is_made count tracks setups saids order long same are file =
    let bytes : List ℕ = layout setups order in
    let w = file.writable in
    let inputs = generated_inputs count tracks in
    let has : (t : ℕ) (said : Said) → slice_get saids t ≡ Some said → content bytes t ≡ Some (map held_as said.samples) =
    λ t said at. (let k = said_at 0 t setups saids said are at in content_from setups order t said.samples w k.within (file.samples t said at) k.first) in
    let entries = layout_entries setups order w in
    let m : Loaded = record { movie = written_movie setups order; entries = entries.0 } in
    let many : length m.movie.tracks ≡ tracks = tracks_long _ 0 setups order ∙ long in
    let own = are_of setups entries.0 (all_read setups (λ setup t at. (track_at 0 t setups saids setup are at).is.reads)) entries.2 in
    record {
      holds = λ track input at.
          let zero_more : 0 + track ≡ track = omega arith in
          let there : slice_get saids track ≡ Some (said_in track usual input) = ap (λ (l : List Said). slice_get l track) same ∙ said_there 0 track inputs input at ∙ ap (λ (n : ℕ). Some (said_in n usual input)) zero_more in
          let known = said_at 0 track setups saids (said_in track usual input) are there in
          record {
            whole = known.whole;
            held = layout_joined setups order track w known.within ∙ ap (λ (ss : List Stored). Some (map held_as ss)) (file.samples track (said_in track usual input) there);
          };
      said = λ track said at. has track said (ap (λ (l : List Said). slice_get l track) same ∙ at);
      read = record {
        loaded = m;
        is = record { movie = layout_read setups order w; entries = entries.1 };
        there = plan_there tracks (length m.movie.tracks) many;
        whole =
            plan_whole bytes (range_with_len 0 tracks) (unmoved m)
            (hands_out bytes m setups (layout_read setups order w) own
            (λ t setup at video.
            let x = track_at 0 t setups saids setup are at in
            (x.said.samples, has t x.said x.there, x.is.tiles video)));
      };
      many = many;
    }

-- What a shelf keeps of a recording that is done.
pub record KeepsMade (count tracks : ℕ) (shelf : ShelfView) : Type 0 where
  pub file : List ℕ
  pub kept : shelf.files ≡ Some (file ∷ [])
  pub made : IsMade count tracks file

pub made_by : (count tracks : ℕ) (limits : Limits) (sources back : List SourceView) (s s' : ShelfView) (report : Report) → count ≤ 200000 → tracks ≤ 8 → limits ≡ no_limits → s.files ≡ Some []
    → RecordsSaid (asked_for usual limits sources s) (gave back s' report) (generated_inputs count tracks) → KeepsMade count tracks s'
made_by count tracks limits sources back s s' report le eight none empty recorded =
    let r : RecordsSaid (asked_for usual no_limits sources s) (gave back s' report) (generated_inputs count tracks) =
    subst (λ (l : Limits). RecordsSaid (asked_for usual l sources s) (gave back s' report) (generated_inputs count tracks)) none recorded in
    let saids : List Said = all_said 0 usual (generated_inputs count tracks) in
    let setups : List TrackSetup = setups_from 0 tracks in
    let are : AreTracks 0 setups saids = tracks_generated count 0 tracks le in
    let own : r.setups ≡ setups = setups_same 0 setups r.setups saids are r.taken in
    let long = setups_long 0 tracks in
    let order : List Chunk = in_order (lists_from 0 setups saids) in
    let file = one_file_of setups saids are (omega (arith, eight, long)) in
    let follow : FollowOrder (asked_for usual no_limits sources s) (gave back s' report) setups (lists_from 0 setups saids) None =
    subst (λ (ss : List TrackSetup). FollowOrder (asked_for usual no_limits sources s) (gave back s' report) ss (lists_from 0 ss saids) None) own r.follow in
    let both = sym follow.order ∙ file.switched_is in
    let files : follow.files ≡ order ∷ [] = ap (λ (x : Switched). x.files) both in
    record {
      file = layout setups order;
      kept = follow.kept.kept ∙ rw (empty, files) refl;
      made = is_made count tracks setups saids order long refl are file;
    }

-- the only file of the shelf, of which a copy is made where there is memory
pub made_only : {E : Type 0} (count tracks : ℕ) (shelf : ShelfView) (r : Result (List ℕ) E) → KeepsMade count tracks shelf → IfOk r (λ file. shelf.files ≡ Some (file ∷ [])) → IfOk r (IsMade count tracks)
made_only count tracks shelf (Ok file) k is =
    let both : Some (k.file ∷ []) ≡ Some (file ∷ []) = sym k.kept ∙ is in
    let same : k.file ≡ file = cc in
    subst (IsMade count tracks) same k.made
made_only count tracks shelf (Err e) k is = tt

contents_of : (inputs : List (List ℕ)) → map (λ s. s.content) (map (λ bytes. told_source bytes 0) inputs) ≡ map Some inputs
contents_of [] = refl
contents_of (bytes ∷ inputs) = ap (λ (l : List (Option (List ℕ))). Some bytes ∷ l) (contents_of inputs)

-- sources of these bytes tell them
pub told_all : (sources : List SourceView) (inputs : List (List ℕ)) → sources ≡ map (λ bytes. told_source bytes 0) inputs → TellBytes sources inputs
told_all sources inputs same = ap (λ (l : List SourceView). map (λ s. s.content) l) same ∙ contents_of inputs

inputs_long : (count from n : ℕ) → length (map (λ t. generated_input (generated_kind t) count) (range_with_len from n)) ≡ n
inputs_long count from zero = refl
inputs_long count from (suc n) = ap suc (inputs_long count (from + 1) n)

-- there is a source for each track
pub sources_long : (count tracks : ℕ) (sources : List SourceView) → sources ≡ map (λ bytes. told_source bytes 0) (generated_inputs count tracks) → length sources ≡ tracks
sources_long count tracks sources same =
    ap (λ (l : List SourceView). length l) same ∙ length-map (generated_inputs count tracks) (λ (bytes : List ℕ). told_source bytes 0) ∙ inputs_long count 0 tracks

-- the answer of the recording
pub outcome_by : (count tracks : ℕ) (outcome : SerialOutcome) (limits : Limits) → limits ≡ no_limits → count ≤ 200000 → tracks ≤ 8
    → (outcome ≡ outcomes.NoMemory) ⊎ (outcome ≡ called_for usual limits (generated_inputs count tracks)) → (outcome ≡ outcomes.NoMemory) ⊎ (outcome ≡ outcomes.Done)
outcome_by count tracks outcome limits is le eight (inl none) = inl none
outcome_by count tracks outcome limits is le eight (inr called) = inr (called ∙ ap (λ (l : Limits). called_for usual l (generated_inputs count tracks)) is ∙ generated_done count tracks le eight)

said_long : (t : ℕ) (inputs : List (List ℕ)) → length (all_said t usual inputs) ≡ length inputs
said_long t [] = refl
said_long t (bytes ∷ inputs) = ap suc (said_long (t + 1) inputs)

-- an input says something of each track
pub saids_many : (count tracks : ℕ) → length (all_said 0 usual (generated_inputs count tracks)) ≡ tracks
saids_many count tracks = said_long 0 (generated_inputs count tracks) ∙ inputs_long count 0 tracks
