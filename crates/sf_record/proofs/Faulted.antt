-- What stands where the recording of several inputs ended before all was written.
use Rattle.std.proofs.Common.{◌≡◌, ℕ, zero, suc, ◌+◌, ◌<◌, ◌≤◌, Bool, true, false, List, [], ◌∷◌, ◌++◌, length, map, drop, Option, Some, None, refl, sym, ap, subst, ◌∙◌, inl, inr, arith, append-nil, append_assoc, length-append}
use Rattle.std.specs.Prelude.{slice_get}
use Rattle.std.proofs.lemmas.Bool.{cases_lt}
use Rattle.sf_tick.specs.declared.types.Chunk.{Chunk}
use Rattle.sf_entry.specs.declared.track_setup.TrackSetup.{TrackSetup}
use Rattle.sf_gather.specs.declared.given.Options.{Options}
use Rattle.sf_interleave.specs.Waiting.{how_many, list_of}
use Rattle.sf_layout.specs.Layout.{samples_of}
use Rattle.sf_world.specs.Views.{KeptAtMost, ShelfView, SourceView}
use Rattle.sf_series.specs.declared.limits.Limits.{Limits}
use Rattle.sf_series.specs.declared.report.Report.{Report}
use Rattle.sf_series.specs.Core.{State, failed}
use Rattle.sf_series.specs.Ending.{Broken, IsKept, Reports, written}
use Rattle.sf_series.specs.Files.{chunks_of_track, flat, open_file}
use Rattle.sf_series.specs.Fitting.{AreProper, Fits}
use Rattle.sf_series.specs.Kept.{Kept}
use Rattle.sf_series.specs.Names.{file_name}
use Rattle.sf_series.specs.Order.{in_order}
use Rattle.sf_series.specs.ReadBack.{Begin, Gained, ReadToFault}
use Rattle.sf_series.specs.Series.{OpenSeries}
use Rattle.sf_series.specs.Shelved.{AllKept, BrokenOn, closed_in}
use Rattle.sf_series.specs.Switching.{closed_length, passes, switched}
use Rattle.sf_series.proofs.SeriesLaws.{broken_back, closed_long, closed_more, closed_open, failed_there, finished_back, stopped_back}
use Rattle.sf_series.proofs.WrittenOut.{written_handed, written_kept}
use Rattle.sf_record.specs.Pump.{Pumping}
use Rattle.sf_record.specs.Said.{Said}
use Rattle.sf_record.specs.Serial.{Asked, FollowToFault, Gave, RecordsToFault, asked_for, gave, lists_of}
use Rattle.sf_record.specs.inner.Deal.{HandsFirst, PumpsOver, TrackBegins}
use Rattle.sf_record.specs.inner.Finishing.{EndsEarly, FinishedAtFault}
use Rattle.sf_record.specs.inner.Headers.{AllOpened}
use Rattle.sf_record.proofs.Finishing.{some_written}
use Rattle.sf_record.proofs.InTurn.{InLine, line_written, turn_line}
use Rattle.sf_record.proofs.Readings.{AreBegun, FirstHanded, all_begun, first_at}

-- ---- lists

pub some_same : {A : Type 0} (x y : A) → Some x ≡ Some y → x ≡ y
some_same {A} x y e = cc

list_beyond : (xs : List (List Chunk)) (n : ℕ) → length xs ≤ n → list_of xs n ≡ []
list_beyond [] n le = refl
list_beyond (x ∷ xs) zero le = absurd (omega (arith, le))
list_beyond (x ∷ xs) (suc n) le = list_beyond xs n (omega (arith, le))

pub lists_long : (track : ℕ) (options : Options) (setups : List TrackSetup) (reads : List Said) → map (λ r. r.setup) reads ≡ map Some setups → length (lists_of track options setups reads) ≡ length setups
lists_long track options [] reads e = refl
lists_long track options (s ∷ setups) [] e = cc
lists_long track options (s ∷ setups) (r ∷ reads) e = ap (λ (n : ℕ). suc n) (lists_long (track + 1) options setups reads (ap (λ (os : List (Option TrackSetup)). drop 1 os) e))

pub fits_own : {limits : Limits} {setups : List TrackSetup} (series : OpenSeries) → (series.files.setups ≡ setups) × (series.files.limits ≡ limits) → Fits limits setups → Fits series.files.limits series.files.setups
fits_own {limits} {setups} series own fits = subst (λ (l : Limits). Fits l series.files.setups) (sym own.1) (subst (λ (ss : List TrackSetup). Fits limits ss) (sym own.0) fits)

-- what was handed of each track is the front of its list
pub lists_begin : (options : Options) (setups : List TrackSetup) (state : State) (reads : List Said) (rests : ℕ → List Chunk) → map (λ r. r.setup) reads ≡ map Some setups
    → ((n : ℕ) → n < length setups → list_of (lists_of 0 options setups reads) n ≡ list_of state.handed (0 + n) ++ rests n) → length state.handed ≡ length setups → Begin state.handed (lists_of 0 options setups reads)
lists_begin options setups state reads rests taken each long t =
    let lists = lists_of 0 options setups reads in
    let same = lists_long 0 options setups reads taken in
    let zero_t : 0 + t ≡ t = omega arith in
    elim (cases_lt t (length setups)) [
      | inl less ↦ (rests t, each t less ∙ ap (λ (k : ℕ). list_of state.handed k ++ rests t) zero_t)
      | inr not ↦ ([], list_beyond lists t (omega (arith, same, not)) ∙ sym (append-nil (list_of state.handed t) ∙ list_beyond state.handed t (omega (arith, long, not))))
    ]

-- ---- the files, by the chunks in them

-- files of a state after writes, the first of them closed
follow_split : {asked : Asked} {given : Gave} {setups : List TrackSetup} {lists : List (List Chunk)} (n : ℕ) (state : State) (closed last : List (List Chunk)) (shelf : ShelfView) → Kept asked.limits setups state → Begin state.handed lists → InLine state
    → closed ++ last ≡ (written n asked.limits setups state).files → length last ≤ 1 → AllKept asked.shelf asked.limits.stem setups closed shelf → KeptAtMost (file_name asked.limits.stem (length closed + 1)) shelf given.shelf
    → Reports setups (closed ++ last) closed given.report → FollowToFault asked given setups lists
follow_split {asked} {given} {setups} {lists} n state closed last shelf kept begin line split few all made reports =
    let end : State = written n asked.limits setups state in
    let kept_end : Kept asked.limits setups end = written_kept n asked.limits setups state kept in
    record {
      closed = closed;
      last = last;
      few = few;
      order = subst (λ (fs : List (List Chunk)). switched asked.limits setups (flat fs) ≡ record { files = fs; limit = None }) (sym split) kept_end.order;
      first = λ t. let b = begin t in (
        list_of end.pending t ++ b.0,
        b.1 ∙ ap (λ (cs : List Chunk). cs ++ b.0) (sym (kept_end.there t ∙ ap (λ (hs : List (List Chunk)). list_of hs t) (written_handed n asked.limits setups state)))
            ∙ append_assoc (chunks_of_track t end.files) (list_of end.pending t) b.0
            ∙ ap (λ (fs : List (List Chunk)). chunks_of_track t fs ++ (list_of end.pending t ++ b.0)) (sym split),
      );
      handed = state.handed;
      begin = begin;
      earliest = (
        in_order end.pending,
        ap (λ (hs : List (List Chunk)). in_order hs) (sym (written_handed n asked.limits setups state)) ∙ line_written n asked.limits setups state kept line
            ∙ ap (λ (fs : List (List Chunk)). flat fs ++ in_order end.pending) (sym split),
      );
      before = shelf;
      kept = all;
      made = made;
      reports = reports;
    }

-- all files were closed
follow_kept : {asked : Asked} {given : Gave} {lists : List (List Chunk)} (series : OpenSeries) (n : ℕ) (state : State) → series.files.limits ≡ asked.limits → Kept series.files.limits series.files.setups state → Begin state.handed lists → InLine state
    → IsKept asked.shelf series (written n series.files.limits series.files.setups state) given.report given.shelf → FollowToFault asked given series.files.setups lists
follow_kept {asked} {given} {lists} series n state own kept begin line is =
    let setups : List TrackSetup = series.files.setups in
    let own_kept : Kept asked.limits setups state = subst (λ (l : Limits). Kept l setups state) own kept in
    let all : IsKept asked.shelf series (written n asked.limits setups state) given.report given.shelf = subst (λ (l : Limits). IsKept asked.shelf series (written n l setups state) given.report given.shelf) own is in
    let files : List (List Chunk) = (written n asked.limits setups state).files in
    follow_split n state files [] given.shelf own_kept begin line (append-nil files) (omega arith) (subst (λ (l : Limits). AllKept asked.shelf l.stem setups files given.shelf) own all.kept) (inl (record { named = refl; kept = refl }))
    (subst (λ (fs : List (List Chunk)). Reports setups fs files given.report) (sym (append-nil files)) all.reports)

-- the last file failed
follow_open : {asked : Asked} {given : Gave} {setups : List TrackSetup} {lists : List (List Chunk)} (n : ℕ) (state : State) → Kept asked.limits setups state → Begin state.handed lists → InLine state → 1 ≤ length (written n asked.limits setups state).files
    → BrokenOn asked.shelf asked.limits.stem setups (written n asked.limits setups state).files given.shelf
    → Reports setups (written n asked.limits setups state).files (closed_in (written n asked.limits setups state).files) given.report → FollowToFault asked given setups lists
follow_open {asked} {given} {setups} {lists} n state kept begin line some broken reports =
    let files : List (List Chunk) = (written n asked.limits setups state).files in
    let split : closed_in files ++ open_file files ∷ [] ≡ files = closed_open files some in
    follow_split n state (closed_in files) (open_file files ∷ []) broken.before kept begin line split (omega arith) broken.closed
    (subst (λ (k : ℕ). KeptAtMost (file_name asked.limits.stem k) broken.before given.shelf) (sym (closed_long files some)) broken.last)
    (subst (λ (fs : List (List Chunk)). Reports setups fs (closed_in files) given.report) (sym split) reports)

-- the next file failed, or none was made
follow_next : {asked : Asked} {given : Gave} {setups : List TrackSetup} {lists : List (List Chunk)} (n : ℕ) (state : State) → Kept asked.limits setups state → Begin state.handed lists → InLine state
    → BrokenOn asked.shelf asked.limits.stem setups ((written n asked.limits setups state).files ++ [] ∷ []) given.shelf
    → Reports setups ((written n asked.limits setups state).files ++ [] ∷ []) (closed_in ((written n asked.limits setups state).files ++ [] ∷ [])) given.report → FollowToFault asked given setups lists
follow_next {asked} {given} {setups} {lists} n state kept begin line broken reports =
    let end : State = written n asked.limits setups state in
    let files : List (List Chunk) = end.files in
    let long : length (files ++ [] ∷ []) ≡ length files + 1 = length-append files ([] ∷ []) in
    let there : (t : ℕ) → chunks_of_track t (files ++ [] ∷ []) ≡ chunks_of_track t (files ++ []) =
    λ t. failed_there true end t ∙ ap (λ (fs : List (List Chunk)). chunks_of_track t fs) (sym (append-nil files)) in
    follow_split n state files [] broken.before kept begin line (append-nil files) (omega arith) (subst (λ (fs : List (List Chunk)). AllKept asked.shelf asked.limits.stem setups fs broken.before) (closed_more files []) broken.closed)
    (subst (λ (k : ℕ). KeptAtMost (file_name asked.limits.stem k) broken.before given.shelf) long broken.last)
    (record {
      tracks = λ t less. reports.tracks t less ∙ ap (λ (cs : List Chunk). Some (length (samples_of cs))) (there t);
      one_each = reports.one_each;
      lengths = reports.lengths ∙ ap (λ (fs : List (List Chunk)). map (closed_length setups) fs) (closed_more files []);
    })

-- the files of a state that a fault left
record LeftFiles (asked : Asked) (given : Gave) (setups : List TrackSetup) (files : List (List Chunk)) : Type 0 where
  kept : BrokenOn asked.shelf asked.limits.stem setups files given.shelf
  reports : Reports setups files (closed_in files) given.report

follow_failed : {asked : Asked} {given : Gave} {setups : List TrackSetup} {lists : List (List Chunk)} (closed : Bool) (n : ℕ) (state : State) → Kept asked.limits setups state → Begin state.handed lists → InLine state → 1 ≤ length (written n asked.limits setups state).files
    → LeftFiles asked given setups (failed closed (written n asked.limits setups state)).files → FollowToFault asked given setups lists
follow_failed {asked} {given} {setups} {lists} true n state kept begin line some left = follow_next n state kept begin line left.kept left.reports
follow_failed {asked} {given} {setups} {lists} false n state kept begin line some left = follow_open n state kept begin line some left.kept left.reports

-- a write or a closing failed
follow_broken : {asked : Asked} {given : Gave} {lists : List (List Chunk)} (series : OpenSeries) (state : State) → series.files.limits ≡ asked.limits → 1 ≤ length state.files → Kept series.files.limits series.files.setups state → Begin state.handed lists → InLine state
    → Broken asked.shelf series state given.report given.shelf → FollowToFault asked given series.files.setups lists
follow_broken {asked} {given} {lists} series state own some kept begin line broken =
    let setups : List TrackSetup = series.files.setups in
    let n : ℕ = broken.is_left.0 in
    let own_kept : Kept asked.limits setups state = subst (λ (l : Limits). Kept l setups state) own kept in
    let more : 1 ≤ length (written n asked.limits setups state).files = some_written n asked.limits setups state some in
    let left : LeftFiles asked given setups broken.left.files =
    record { kept = subst (λ (l : Limits). BrokenOn asked.shelf l.stem setups broken.left.files given.shelf) own broken.kept; reports = broken.reports } in
    elim broken.is_left.1 [
      | inl same ↦ (let is : broken.left ≡ written n asked.limits setups state = same ∙ ap (λ (l : Limits). written n l setups state) own in
          let so : LeftFiles asked given setups (written n asked.limits setups state).files = subst (λ (s : State). LeftFiles asked given setups s.files) is left in
          follow_open n state own_kept begin line more so.kept so.reports)
      | inr broke ↦ (let is : broken.left ≡ failed broke.0 (written n asked.limits setups state) = broke.1 ∙ ap (λ (l : Limits). failed broke.0 (written n l setups state)) own in
          follow_failed broke.0 n state own_kept begin line more (subst (λ (s : State). LeftFiles asked given setups s.files) is left))
    ]

follow_early : {asked : Asked} {given : Gave} {lists : List (List Chunk)} (series : OpenSeries) (state : State) → series.files.limits ≡ asked.limits → 1 ≤ length state.files → Kept series.files.limits series.files.setups state → Begin state.handed lists → InLine state
    → EndsEarly asked.shelf series state given.report given.shelf → FollowToFault asked given series.files.setups lists
follow_early {asked} {given} {lists} series state own some kept begin line ends =
    elim ends [
      | inl finished ↦ follow_kept series (how_many state.pending) state own kept begin line finished.kept
      | inr others ↦ elim others [
        | inl stopped ↦ follow_kept series (how_many state.pending) state own kept begin line stopped.1.kept
        | inr broken ↦ follow_broken series state own some kept begin line broken
      ]
    ]

-- ---- the files, by their bytes

-- all files are read back, with none after them
back_early : (begun shelf : ShelfView) (before : List (List ℕ)) (series : OpenSeries) (state : State) (lists : List (List Chunk)) (report : Report) → Kept series.files.limits series.files.setups state
    → Fits series.files.limits series.files.setups → AreProper series.files.setups state → Begin state.handed lists → begun.files ≡ Some before → EndsEarly begun series state report shelf → ReadToFault begun before series lists report shelf
back_early begun shelf before series state lists report kept fits proper begin told ends =
    elim ends [
      | inl finished ↦ (let b = finished_back begun shelf before series state lists report kept fits proper begin told finished in
          record {
            chunks = b.chunks;
            files = b.files;
            last = [];
            few = omega arith;
            gained = subst (λ (fs : List (List ℕ)). Gained begun before series.files.limits.stem fs shelf) (sym (append-nil b.files)) b.gained;
            back = b.back;
            lengths = b.lengths;
          })
      | inr others ↦ elim others [
        | inl stopped ↦ (let b = stopped_back begun shelf before series state lists stopped.0 report kept fits proper begin told stopped.1 in
            record {
              chunks = b.chunks;
              files = b.files;
              last = [];
              few = omega arith;
              gained = subst (λ (fs : List (List ℕ)). Gained begun before series.files.limits.stem fs shelf) (sym (append-nil b.files)) b.gained;
              back = b.back;
              lengths = b.lengths;
            })
        | inr broken ↦ broken_back begun shelf before series state lists report kept fits proper begin told broken
      ]
    ]

-- ---- what was read, and what stands of it

first_handed : {setups : List TrackSetup} {state : State} (pumps : List Pumping) (series : OpenSeries) → series.files.setups ≡ setups
    → ((number : ℕ) (pump : Pumping) → slice_get pumps number ≡ Some pump → TrackBegins series.files.setups state number pump) → FirstHanded 0 setups state pumps
first_handed {setups} {state} pumps series own tracks n setup pump at there =
    let t = tracks n pump there in
    let same : t.setup ≡ setup = some_same t.setup setup (sym t.there ∙ ap (λ (ss : List TrackSetup). slice_get ss n) own ∙ at) in
    first_at {b = 0 + n} (omega arith) (subst (λ (s : TrackSetup). HandsFirst pump.coded.source.content n s.scale state pump) same t.hands)

pub fault_recorded : {setups : List TrackSetup} {pumps : List Pumping} {begun after : ShelfView} {limits : Limits} {report : Report} (options : Options) (before : List SourceView) (firsts : List Pumping)
    → AllOpened 0 options before setups firsts → PumpsOver firsts pumps → Fits limits setups → passes limits.max_bytes (closed_length setups []) ≡ false → FinishedAtFault begun limits setups pumps report after
    → RecordsToFault (asked_for options limits before begun) (gave (map (λ p. p.coded.source) pumps) after report)
fault_recorded {setups} {pumps} {begun} {after} {limits} {report} options before firsts all over fits under f =
    let r : AreBegun 0 options before setups f.state pumps = all_begun 0 options before setups f.state firsts pumps all over (first_handed pumps f.series f.own.0 f.tracks) in
    let lists : List (List Chunk) = lists_of 0 options setups r.reads in
    let long : length f.state.handed ≡ length setups = f.proper.tracks ∙ ap (λ (ss : List TrackSetup). length ss) f.own.0 in
    let begin : Begin f.state.handed lists = lists_begin options setups f.state r.reads r.rests r.taken r.lists long in
    let asked : Asked = asked_for options limits before begun in
    let given : Gave = gave (map (λ p. p.coded.source) pumps) after report in
    let follow : FollowToFault asked given f.series.files.setups lists = follow_early f.series f.state f.own.1 f.some f.kept begin (turn_line f.state f.turn) f.ends in
    record {
      inputs = record { setups = setups; reads = r.reads; read = r.read; taken = r.taken; series = f.series; own = f.own };
      back = λ files told. back_early begun after files f.series f.state lists report f.kept (fits_own f.series f.own fits) f.proper begin told f.ends;
      under = under;
      follow = subst (λ (ss : List TrackSetup). FollowToFault asked given ss lists) f.own.0 follow;
    }
