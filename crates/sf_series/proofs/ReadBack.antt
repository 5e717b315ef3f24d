-- Each file of a series of proper chunks is one that is read back.
use Rattle.std.proofs.Common.{drop, ◌≡◌, ℕ, zero, suc, ◌+◌, ◌<◌, ◌≤◌, Bool, true, false, cond, List, [], ◌∷◌, ◌++◌, length, Option, Some, None, map, append-nil, refl, sym, subst, ap, ◌∙◌, inl, inr, arith, append_assoc}
use Rattle.std.specs.Prelude.{◌==◌}
use Rattle.std.specs.List.{AllByRecursion, flat_map}
use Rattle.std.proofs.lemmas.List.Elements.{filter-append}
use Rattle.std.proofs.lemmas.Bool.{cases_lt}
use Rattle.std.proofs.lemmas.Bool.Decides.{nat_tests}
use Rattle.std.proofs.lemmas.List.{length-append, get_or_past}
use Rattle.sf_tick.specs.Samples.{samples_of}
use Rattle.sf_tick.specs.declared.types.Stored.{Stored}
use Rattle.sf_tick.specs.declared.types.Chunk.{Chunk}
use Rattle.sf_entry.specs.declared.track_setup.TrackSetup.{TrackSetup}
use Rattle.sf_gather.specs.declared.given.LastSample.{LastSample}
use Rattle.sf_gather.specs.Accepting.{kept_of}
use Rattle.sf_gather.specs.Proper.{AllFollow, Proper}
use Rattle.sf_meaning.specs.Joined.{joined}
use Rattle.sf_meaning.specs.Rows.{held_as}
use Rattle.sf_layout.proofs.LayoutLaws.{layouts_joined}
use Rattle.sf_layout.specs.Layout.{layout, track_chunks, track_samples, stored_bytes}
use Rattle.sf_layout.specs.Writable.{Writable}
use Rattle.sf_interleave.specs.Waiting.{earliest_front, list_of}
use Rattle.sf_interleave.proofs.WaitingLaws.{picked_first, picked_none}
use Rattle.sf_series.specs.declared.limits.Limits.{Limits}
use Rattle.sf_series.specs.Files.{flat, chunks_of_track}
use Rattle.sf_series.specs.Core.{State}
use Rattle.sf_series.specs.Kept.{AllThere, Kept}
use Rattle.sf_series.specs.Within.{Within}
use Rattle.sf_file.specs.Holdable.{Holdable, IsReadable}
use Rattle.sf_file.specs.Open.{AreSetups}
use Rattle.sf_series.specs.Switching.{closed_length, passes}
use Rattle.sf_series.specs.Fitting.{AllProper, AreProper, Fits}
use Rattle.sf_series.specs.Dealt.{order_of, write_order, dealt, HasBytes}
use Rattle.sf_series.proofs.Dealt.{files_dealt}
use Rattle.sf_series.proofs.WriteOrder.{order_said}
use Rattle.sf_series.proofs.Within.{not_passed, switched_within}
use Rattle.sf_series.proofs.Samples.{all_tracks}
use Rattle.sf_series.proofs.Writables.{samples_append, all_front, each_of, AllSomeFollow, all_follow, tracks_writable}

-- each sample of a chunk is so
abbrev pub InChunk : (Stored → Type 0) → Chunk → Type 0
InChunk P c = AllByRecursion P c.samples

samples_split : (P : Stored → Type 0) (xs ys : List Stored) → AllByRecursion P (xs ++ ys) → AllByRecursion P xs × AllByRecursion P ys
samples_split P [] ys all = (tt, all)
samples_split P (x ∷ xs) ys all = let both = samples_split P xs ys all.1 in ((all.0, both.0), both.1)

in_chunks : (P : Stored → Type 0) (cs : List Chunk) → AllByRecursion P (samples_of cs) → AllByRecursion (InChunk P) cs
in_chunks P [] all = tt
in_chunks P (c ∷ cs) all = let both = samples_split P c.samples (samples_of cs) all in (both.0, in_chunks P cs both.1)

-- a sample isn't empty
abbrev pub IsFull : Stored → Type 0
IsFull s = 0 < length s.bytes

follow_full : (scale : ℕ) (last : Option LastSample) (ss : List Stored) → AllFollow scale last ss → AllByRecursion IsFull ss
follow_full scale last [] f = tt
follow_full scale last (s ∷ ss) f = (f.0.some, follow_full scale (Some (kept_of s)) ss f.1)

-- the list of each track is proper
proper_at : (number at : ℕ) (setups : List TrackSetup) (lists : List (List Chunk)) → AllProper number setups lists → at < length setups → (scale : ℕ) × Proper (number + at) scale (list_of lists (number + at))
proper_at number at [] lists all less = absurd (omega arith)
proper_at number zero (setup ∷ setups) lists all less =
    let P : ℕ → Type 0 = λ n. Proper n setup.scale (list_of lists n) in
    let same : number ≡ number + 0 = omega arith in
    (setup.scale, subst P same all.0)
proper_at number (suc at) (setup ∷ setups) lists all less =
    let more = proper_at (number + 1) at setups lists all.1 (omega arith) in
    let P : ℕ → Type 0 = λ n. Proper n more.0 (list_of lists n) in
    let same : (number + 1) + at ≡ number + suc at = omega arith in
    (more.0, subst P same more.1)

proper_of : (t : ℕ) (setups : List TrackSetup) (lists : List (List Chunk)) → AllProper 0 setups lists → t < length setups → (scale : ℕ) × Proper t scale (list_of lists t)
proper_of t setups lists all less =
    let found = proper_at 0 t setups lists all less in
    let P : ℕ → Type 0 = λ n. Proper n found.0 (list_of lists n) in
    let same : 0 + t ≡ t = omega arith in
    (found.0, subst P same found.1)

-- What holds of the chunks handed of each track holds of those in files.
in_files : (P : Chunk → Type 0) (files pending handed : List (List Chunk)) → AllThere files pending handed → ((t : ℕ) → AllByRecursion P (list_of handed t)) → AllByRecursion P (flat files)
in_files P files pending handed there all =
    let Q : List Chunk → Type 0 = λ cs. AllByRecursion P cs in
    all_tracks P (flat files) (λ t. all_front P (chunks_of_track t files) (list_of pending t) (subst Q (sym (there t)) (all t)))

handed_all : (P : Stored → Type 0) → ((scale : ℕ) (last : Option LastSample) (ss : List Stored) → AllFollow scale last ss → AllByRecursion P ss)
    → (setups : List TrackSetup) (handed : List (List Chunk)) → length handed ≡ length setups → AllProper 0 setups handed → (t : ℕ) → AllByRecursion (InChunk P) (list_of handed t)
handed_all P follow setups handed same all t =
    elim (cases_lt t (length setups)) [
      | inl less ↦ (let found = proper_of t setups handed all less in in_chunks P (list_of handed t) (follow found.0 None (samples_of (list_of handed t)) found.1.samples))
      | inr past ↦ (let Q : List Chunk → Type 0 = λ cs. AllByRecursion (InChunk P) cs in let past_too : length handed ≤ t = omega arith in subst Q (sym (get_or_past handed t [] past_too)) tt)
    ]

on_if : (b : Bool) (t : ℕ) (c : Chunk) (cs : List Chunk) → (b ≡ true → c.track ≡ t) → AllByRecursion (λ d. d.track ≡ t) cs → AllByRecursion (λ d. d.track ≡ t) (cond b (c ∷ cs) cs)
on_if true t c cs e all = (e refl, all)
on_if false t c cs e all = all

all_on : (t : ℕ) (cs : List Chunk) → AllByRecursion (λ d. d.track ≡ t) (track_chunks t cs)
all_on t [] = tt
all_on t (c ∷ cs) = on_if (c.track == t) t c (track_chunks t cs) (λ e. grind (arith, nat_tests)) (all_on t cs)

on_less : (n t : ℕ) (cs : List Chunk) → t < n → AllByRecursion (λ d. d.track ≡ t) cs → AllByRecursion (λ d. d.track < n) cs
on_less n t [] less all = tt
on_less n t (c ∷ cs) less all = (let e : c.track ≡ t = all.0 in omega arith, on_less n t cs less all.1)

none_front : (xs ys : List Chunk) → xs ++ ys ≡ [] → xs ≡ []
none_front [] ys e = refl
none_front (x ∷ xs) ys e = cc

tracks_below : (files pending handed : List (List Chunk)) → AllThere files pending handed → AllByRecursion (λ c. c.track < length handed) (flat files)
tracks_below files pending handed there =
    all_tracks (λ c. c.track < length handed) (flat files) (λ t.
    elim (cases_lt t (length handed)) [
      | inl less ↦ on_less (length handed) t (track_chunks t (flat files)) less (all_on t (flat files))
      | inr past ↦ (let Q : List Chunk → Type 0 = λ cs. AllByRecursion (λ c. c.track < length handed) cs in
          subst Q (sym (none_front (chunks_of_track t files) (list_of pending t) (there t ∙ get_or_past handed t [] past))) tt)
    ])

-- what is known of a file of a series
record Known (limits : Limits) (setups : List TrackSetup) (n : ℕ) (file : List Chunk) : Type 0 where
  pub within : Within limits setups file
  pub filled : AllByRecursion (λ c. 0 < length c.samples) file
  pub below : AllByRecursion (λ c. c.track < n) file
  pub follow : AllSomeFollow 0 setups file

known_writable : (limits : Limits) (setups : List TrackSetup) (n : ℕ) (file : List Chunk) → length setups ≤ 64 → n ≡ length setups → AllByRecursion IsReadable setups → Known limits setups n file → Writable setups file
known_writable limits setups n file tracks same fit k = record {
  tracks = tracks;
  filled = k.filled;
  each = tracks_writable 0 setups file fit k.follow k.within.counts;
  known = subst (λ (m : ℕ). AllByRecursion (λ c. c.track < m) file) same k.below;
  moov = k.within.movie;
}

all_writable : (limits : Limits) (setups : List TrackSetup) (n : ℕ) (files : List (List Chunk)) → length setups ≤ 64 → n ≡ length setups → AllByRecursion IsReadable setups → AllByRecursion (λ file. Within limits setups file) files
    → AllByRecursion (λ file. AllByRecursion (λ c. 0 < length c.samples) file) files → AllByRecursion (λ file. AllByRecursion (λ c. c.track < n) file) files
    → AllByRecursion (λ file. AllSomeFollow 0 setups file) files → AllByRecursion (λ file. Writable setups file) files
all_writable limits setups n [] tracks same fit within filled below follow = tt
all_writable limits setups n (file ∷ files) tracks same fit within filled below follow = (
  known_writable limits setups n file tracks same fit (record { within = within.0; filled = filled.0; below = below.0; follow = follow.0 }),
  all_writable limits setups n files tracks same fit within.1 filled.1 below.1 follow.1,
)

-- tracks with which a file can begin, where an empty one doesn't have too many bytes
pub setups_fits : (limits : Limits) (setups : List TrackSetup) → AreSetups setups → AllByRecursion IsReadable setups → passes limits.max_bytes (closed_length setups []) ≡ false → Holdable setups [] → Fits limits setups
setups_fits limits setups are readable under empty = record {
  few = are.few;
  each = readable;
  empty = record { bytes = λ some. not_passed limits.max_bytes (closed_length setups []) under some; movie = empty.box; counts = λ t. omega arith };
}

-- each file of a series of proper chunks passes no limit
pub files_within : (limits : Limits) (setups : List TrackSetup) (state : State) → Kept limits setups state → Within limits setups [] → AllByRecursion (λ file. Within limits setups file) state.files
files_within limits setups state kept empty = switched_within limits setups (flat state.files) state.files empty kept.order

-- so it is read back
pub files_writable : (limits : Limits) (setups : List TrackSetup) (state : State) → Kept limits setups state → Fits limits setups → AreProper setups state → AllByRecursion (λ file. Writable setups file) state.files
files_writable limits setups state kept fits proper =
    all_writable limits setups (length state.handed) state.files fits.few proper.tracks fits.each (files_within limits setups state kept fits.empty)
    (each_of (λ c. 0 < length c.samples) state.files (in_files (λ c. 0 < length c.samples) state.files state.pending state.handed kept.there kept.filled))
    (each_of (λ c. c.track < length state.handed) state.files (tracks_below state.files state.pending state.handed kept.there))
    (all_follow 0 setups state.files state.pending state.handed kept.there proper.lists)

-- the samples of a track's chunks in each file, one file after the other
pub samples_each : (t : ℕ) (files : List (List Chunk)) → flat_map (track_samples t) files ≡ samples_of (chunks_of_track t files)
samples_each t [] = refl
samples_each t (file ∷ files) =
    ap (λ (ss : List Stored). track_samples t file ++ ss) (samples_each t files)
    ∙ sym (samples_append (track_chunks t file) (chunks_of_track t files))
    ∙ ap samples_of (sym (filter-append (λ (c : Chunk). c.track == t) file (flat files)))

-- the files joined in order hold the samples of each track's chunks
pub files_joined : (limits : Limits) (setups : List TrackSetup) (state : State) (t : ℕ) → Kept limits setups state → Fits limits setups → AreProper setups state → t < length setups
    → joined (map (layout setups) state.files) t ≡ Some (map held_as (samples_of (chunks_of_track t state.files)))
files_joined limits setups state t kept fits proper less =
    layouts_joined setups state.files t (files_writable limits setups state kept fits proper) less
    ∙ ap (λ (ss : List Stored). Some (map held_as ss)) (samples_each t state.files)

-- where none waits, these are the samples of what was handed
pub handed_joined : (limits : Limits) (setups : List TrackSetup) (state : State) (t : ℕ) → Kept limits setups state → Fits limits setups → AreProper setups state → t < length setups → list_of state.pending t ≡ []
    → joined (map (layout setups) state.files) t ≡ Some (map held_as (samples_of (list_of state.handed t)))
handed_joined limits setups state t kept fits proper less none =
    files_joined limits setups state t kept fits proper less
    ∙ ap (λ (cs : List Chunk). Some (map held_as (samples_of cs))) (sym (append-nil (chunks_of_track t state.files)) ∙ ap (λ (cs : List Chunk). chunks_of_track t state.files ++ cs) (sym none) ∙ kept.there t)

-- a chunk with samples, none of them empty, has bytes
bytes_of : (ss : List Stored) → 0 < length ss → AllByRecursion IsFull ss → 0 < length (stored_bytes ss)
bytes_of [] some full = absurd (omega arith)
bytes_of (s ∷ ss) some full = omega (arith, length-append s.bytes (stored_bytes ss), full.0)

has_bytes : (c : Chunk) → 0 < length c.samples → InChunk IsFull c → HasBytes c
has_bytes c some full = bytes_of c.samples some full

all_have : (file : List Chunk) → AllByRecursion (λ c. 0 < length c.samples) file → AllByRecursion (InChunk IsFull) file → AllByRecursion HasBytes file
all_have [] some full = tt
all_have (c ∷ file) some full = (has_bytes c some.0 full.0, all_have file some.1 full.1)

orders_said : (setups : List TrackSetup) (files : List (List Chunk)) → AllByRecursion (λ file. Writable setups file) files → AllByRecursion (λ file. AllByRecursion (InChunk IsFull) file) files
    → AllByRecursion (λ file. AllByRecursion (λ c. c.track < length setups) file) files → map (write_order (length setups)) (map (layout setups) files) ≡ map order_of files
orders_said setups [] w full below = refl
orders_said setups (file ∷ files) w full below =
    ap (λ (o : List ℕ). o ∷ map (write_order (length setups)) (map (layout setups) files)) (order_said setups file w.0 (all_have file w.0.filled full.0) below.0)
    ∙ ap (λ (os : List (List ℕ)). order_of file ∷ os) (orders_said setups files w.1 full.1 below.1)

-- what holds of each file of a series of proper chunks: no sample is empty, and its tracks are known
pub files_full : (setups : List TrackSetup) (state : State) → AllThere state.files state.pending state.handed → AreProper setups state → AllByRecursion (λ file. AllByRecursion (InChunk IsFull) file) state.files
files_full setups state there proper =
    each_of (InChunk IsFull) state.files (in_files (InChunk IsFull) state.files state.pending state.handed there (handed_all IsFull follow_full setups state.handed proper.tracks proper.lists))

pub files_below : (setups : List TrackSetup) (state : State) → AllThere state.files state.pending state.handed → AreProper setups state → AllByRecursion (λ file. AllByRecursion (λ c. c.track < length setups) file) state.files
files_below setups state there proper =
    let n : length state.handed ≡ length setups = proper.tracks in
    let P : ℕ → Type 0 = λ n. AllByRecursion (λ c. c.track < n) (flat state.files) in
    each_of (λ c. c.track < length setups) state.files (subst P n (tracks_below state.files state.pending state.handed there))

-- the bytes of files say which chunk of lists stands where that begin with the files' chunks
pub files_say : (setups : List TrackSetup) (files lists : List (List Chunk)) (rest : ℕ → List Chunk) → AllByRecursion (λ file. Writable setups file) files → AllByRecursion (λ file. AllByRecursion (InChunk IsFull) file) files
    → AllByRecursion (λ file. AllByRecursion (λ c. c.track < length setups) file) files → ((t : ℕ) → list_of lists t ≡ chunks_of_track t files ++ rest t)
    → dealt (map (write_order (length setups)) (map (layout setups) files)) lists ≡ files
files_say setups files lists rest w full below begins = ap (λ (os : List (List ℕ)). dealt os lists) (orders_said setups files w full below) ∙ files_dealt files lists rest begins

pub bytes_dealt : (limits : Limits) (setups : List TrackSetup) (state : State) (lists : List (List Chunk)) (rest : ℕ → List Chunk) → Kept limits setups state → Fits limits setups → AreProper setups state
    → ((t : ℕ) → list_of lists t ≡ list_of state.handed t ++ rest t) → dealt (map (write_order (length setups)) (map (layout setups) state.files)) lists ≡ state.files
bytes_dealt limits setups state lists rest kept fits proper begins =
    files_say setups state.files lists (λ (t : ℕ). list_of state.pending t ++ rest t) (files_writable limits setups state kept fits proper) (files_full setups state kept.there proper) (files_below setups state kept.there proper)
    (λ t. begins t ∙ ap (λ (cs : List Chunk). cs ++ rest t) (sym (kept.there t)) ∙ append_assoc (chunks_of_track t state.files) (list_of state.pending t) (rest t))

none_behind : (xs ys all : List Chunk) → xs ++ ys ≡ all → ys ≡ [] → xs ≡ all
none_behind xs ys all e none = sym (append-nil xs) ∙ ap (λ (cs : List Chunk). xs ++ cs) (sym none) ∙ e

-- where none waits, all that were handed stand in files
pub all_written : (limits : Limits) (setups : List TrackSetup) (state : State) (t : ℕ) → Kept limits setups state → earliest_front state.pending ≡ None → chunks_of_track t state.files ≡ list_of state.handed t
all_written limits setups state t kept none =
    none_behind (chunks_of_track t state.files) (list_of state.pending t) (list_of state.handed t) (kept.there t) (picked_none state.pending t none)

-- the chunk that is written next stands after those in files in what was handed of its track
pub next_handed : (limits : Limits) (setups : List TrackSetup) (state : State) (c : Chunk) → Kept limits setups state → earliest_front state.pending ≡ Some c
    → list_of state.handed c.track ≡ chunks_of_track c.track state.files ++ c ∷ drop 1 (list_of state.pending c.track)
next_handed limits setups state c kept e =
    sym (kept.there c.track) ∙ ap (λ (cs : List Chunk). chunks_of_track c.track state.files ++ cs) (picked_first state.pending c kept.theirs e)
