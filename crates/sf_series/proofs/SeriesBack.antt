-- What is read back of the files that a shelf gained of a series.
use Rattle.std.proofs.Common.{drop, ◌≡◌, ◌≢◌, ℕ, suc, ◌≤◌, Bool, true, false, List, [], ◌∷◌, ◌++◌, length, map, Option, Some, refl, sym, subst, ap, ◌∙◌, inl, inr, arith, append-nil, append_assoc, length-append}
use Rattle.std.specs.Prelude.{◌==◌}
use Rattle.std.specs.List.{AllByRecursion}
use Rattle.std.specs.Result.{IsOk}
use Rattle.std.proofs.lemmas.List.{length-map}
use Rattle.std.proofs.lemmas.List.Concat.{flat_map-append}
use Rattle.std.proofs.lemmas.List.Elements.{filter-append}
use Rattle.sf_tick.specs.Samples.{samples_of}
use Rattle.sf_tick.specs.declared.types.Stored.{Stored}
use Rattle.sf_tick.specs.declared.types.Chunk.{Chunk}
use Rattle.sf_entry.specs.declared.track_setup.TrackSetup.{TrackSetup}
use Rattle.sf_world.specs.Contents.{shelved}
use Rattle.sf_world.specs.Views.{KeptAtMost, ShelfView}
use Rattle.sf_meaning.specs.Rows.{held_as}
use Rattle.sf_meaning.specs.Movie.{Step, movie}
use Rattle.sf_meaning.specs.declared.movie.PlainMovie.{PlainMovie}
use Rattle.sf_layout.specs.Layout.{layout, track_chunks}
use Rattle.sf_layout.specs.Writable.{Writable}
use Rattle.sf_layout.proofs.LayoutLaws.{layout_read, layouts_joined}
use Rattle.sf_interleave.specs.Waiting.{how_many, list_of}
use Rattle.sf_series.specs.declared.limits.Limits.{Limits}
use Rattle.sf_series.specs.declared.limits.LimitShown.{LimitShown}
use Rattle.sf_series.specs.declared.report.Report.{Report}
use Rattle.sf_series.specs.Core.{State, failed}
use Rattle.sf_series.specs.Ending.{Broken, Finished, IsLeft, Stopped, written, written_out}
use Rattle.sf_series.specs.Files.{chunks_of_track, flat, open_file}
use Rattle.sf_series.specs.Fitting.{AreProper, Fits}
use Rattle.sf_series.specs.Kept.{Kept}
use Rattle.sf_series.specs.Names.{file_name, names_to}
use Rattle.sf_series.specs.ReadBack.{Begin, Gained, ReadBack, ReadToFault, ReadToLimit, WholeReadBack}
use Rattle.sf_series.specs.Series.{OpenSeries}
use Rattle.sf_series.specs.Shelved.{AllKept, closed_in, with_files}
use Rattle.sf_series.specs.Switching.{Put, Into, Next, Limit, Switched, closed_length, files_after, go_on, put, switched_from}
use Rattle.sf_series.specs.Within.{Within}
use Rattle.sf_series.proofs.ReadBack.{files_below, files_full, files_say, files_within, files_writable, next_handed, samples_each}
use Rattle.sf_series.proofs.Shelving.{closed_long, closed_more, closed_open, long_into}
use Rattle.sf_series.proofs.WrittenOut.{written_all, written_handed, written_kept, written_proper}

front_each : (P : List Chunk → Type 0) (xs ys : List (List Chunk)) → AllByRecursion P (xs ++ ys) → AllByRecursion P xs
front_each P [] ys all = tt
front_each P (x ∷ xs) ys all = (all.0, front_each P xs ys all.1)

front_of : (P : List Chunk → Type 0) (xs ys zs : List (List Chunk)) → xs ++ ys ≡ zs → AllByRecursion P zs → AllByRecursion P xs
front_of P xs ys zs e all = front_each P xs ys (subst (λ (fs : List (List Chunk)). AllByRecursion P fs) (sym e) all)

chunks_split : (t : ℕ) (xs ys : List (List Chunk)) → chunks_of_track t (xs ++ ys) ≡ chunks_of_track t xs ++ chunks_of_track t ys
chunks_split t xs ys =
    ap (λ (cs : List Chunk). track_chunks t cs) (flat_map-append (λ (file : List Chunk). file) xs ys) ∙ filter-append (λ (c : Chunk). c.track == t) (flat xs) (flat ys)

all_movies : (setups : List TrackSetup) (files : List (List Chunk)) → AllByRecursion (λ file. Writable setups file) files → AllByRecursion (λ file. IsOk (movie file)) (map (layout setups) files)
all_movies setups [] w = tt
all_movies setups (file ∷ files) w = (subst (λ (r : Step PlainMovie). IsOk r) (sym (layout_read setups file w.0)) refl, all_movies setups files w.1)

all_sizes : (limits : Limits) (setups : List TrackSetup) (files : List (List Chunk)) → limits.max_bytes ≢ 0 → AllByRecursion (λ file. Within limits setups file) files
    → AllByRecursion (λ file. length file ≤ limits.max_bytes) (map (layout setups) files)
all_sizes limits setups [] some within = tt
all_sizes limits setups (file ∷ files) some within = (within.0.bytes some, all_sizes limits setups files some within.1)

lengths_of : (setups : List TrackSetup) (files : List (List Chunk)) → map (closed_length setups) files ≡ map length (map (layout setups) files)
lengths_of setups [] = refl
lengths_of setups (file ∷ files) = ap (λ (ns : List ℕ). closed_length setups file ∷ ns) (lengths_of setups files)

-- the first files of a state are read back
front_back : (limits : Limits) (setups : List TrackSetup) (state : State) (lists files more : List (List Chunk)) → Kept limits setups state → Fits limits setups → AreProper setups state
    → Begin state.handed lists → files ++ more ≡ state.files → ReadBack limits setups lists files (map (layout setups) files)
front_back limits setups state lists files more kept fits proper begin split =
    let writable : AllByRecursion (λ file. Writable setups file) files = front_of (λ file. Writable setups file) files more state.files split (files_writable limits setups state kept fits proper) in
    let within : AllByRecursion (λ file. Within limits setups file) files = front_of (λ file. Within limits setups file) files more state.files split (files_within limits setups state kept fits.empty) in
    let rest : ℕ → List Chunk = λ t. (chunks_of_track t more ++ list_of state.pending t) ++ (begin t).0 in
    let begins : (t : ℕ) → list_of lists t ≡ chunks_of_track t files ++ rest t =
    λ t. (begin t).1
    ∙ ap (λ (cs : List Chunk). cs ++ (begin t).0)
    (sym (kept.there t)
    ∙ ap (λ (cs : List Chunk). cs ++ list_of state.pending t) (ap (λ (fs : List (List Chunk)). chunks_of_track t fs) (sym split) ∙ chunks_split t files more)
    ∙ append_assoc (chunks_of_track t files) (chunks_of_track t more) (list_of state.pending t))
    ∙ append_assoc (chunks_of_track t files) (chunks_of_track t more ++ list_of state.pending t) (begin t).0 in
    record {
      by_bytes =
          files_say setups files lists rest writable (front_of _ files more state.files split (files_full setups state kept.there proper))
          (front_of _ files more state.files split (files_below setups state kept.there proper)) begins;
      laid_out = refl;
      movies = all_movies setups files writable;
      within = within;
      sizes = λ some. all_sizes limits setups files some within;
      fronts = λ t. (rest t, begins t);
      samples = λ t less. layouts_joined setups files t writable less ∙ ap (λ (ss : List Stored). Some (map held_as ss)) (samples_each t files);
    }

all_gained : {begun shelf : ShelfView} {before : List (List ℕ)} {stem : List ℕ} {setups : List TrackSetup} {files : List (List Chunk)} → begun.files ≡ Some before → AllKept begun stem setups files shelf
    → Gained begun before stem (map (layout setups) files) shelf
all_gained {begun} {shelf} {before} {stem} {setups} {files} told all =
    record {
      named = all.named ∙ ap (λ (n : ℕ). begun.names ++ names_to stem n) (sym (length-map files (layout setups)));
      kept = all.kept ∙ ap (λ (fs : Option (List (List ℕ))). with_files fs (map (layout setups) files)) told;
    }

-- what was handed is handed still after writes
begin_written : (n : ℕ) (limits : Limits) (setups : List TrackSetup) (state : State) (lists : List (List Chunk)) → Begin state.handed lists → Begin (written n limits setups state).handed lists
begin_written n limits setups state lists begin t =
    let b = begin t in (b.0, b.1 ∙ ap (λ (hs : List (List Chunk)). list_of hs t ++ b.0) (sym (written_handed n limits setups state)))

written_back : (n : ℕ) (limits : Limits) (setups : List TrackSetup) (state : State) (lists files more : List (List Chunk)) → Kept limits setups state → Fits limits setups → AreProper setups state
    → Begin state.handed lists → files ++ more ≡ (written n limits setups state).files → ReadBack limits setups lists files (map (layout setups) files)
written_back n limits setups state lists files more kept fits proper begin split =
    front_back limits setups (written n limits setups state) lists files more (written_kept n limits setups state kept) fits (written_proper n limits setups state proper)
    (begin_written n limits setups state lists begin) split

-- a series that was finished is read back whole
pub finished_back : (begun shelf : ShelfView) (before : List (List ℕ)) (series : OpenSeries) (state : State) (lists : List (List Chunk)) (report : Report)
    → Kept series.files.limits series.files.setups state → Fits series.files.limits series.files.setups → AreProper series.files.setups state → Begin state.handed lists
    → begun.files ≡ Some before → Finished begun series state report shelf → WholeReadBack begun before series state.handed lists report shelf
finished_back begun shelf before series state lists report kept fits proper begin told done =
    let limits : Limits = series.files.limits in
    let setups : List TrackSetup = series.files.setups in
    let n : ℕ = how_many state.pending in
    let end : State = written_out limits setups state in
    let back : ReadBack limits setups lists end.files (map (layout setups) end.files) = written_back n limits setups state lists end.files [] kept fits proper begin (append-nil end.files) in
    let all : (t : ℕ) → chunks_of_track t end.files ≡ list_of state.handed t = λ t. written_all n limits setups state t kept done.all in
    record {
      chunks = end.files;
      files = map (layout setups) end.files;
      gained = all_gained told done.kept.kept;
      back = back;
      order = (written_kept n limits setups state kept).order;
      all = all;
      whole = λ t less. back.samples t less ∙ ap (λ (cs : List Chunk). Some (map held_as (samples_of cs))) (all t);
      lengths = done.kept.reports.lengths ∙ lengths_of setups end.files;
    }

-- one that met a limit is read back up to the limit
pub stopped_back : (begun shelf : ShelfView) (before : List (List ℕ)) (series : OpenSeries) (state : State) (lists : List (List Chunk)) (shown : LimitShown) (report : Report)
    → Kept series.files.limits series.files.setups state → Fits series.files.limits series.files.setups → AreProper series.files.setups state → Begin state.handed lists
    → begun.files ≡ Some before → Stopped begun series state shown report shelf → ReadToLimit begun before series lists shown report shelf
stopped_back begun shelf before series state lists shown report kept fits proper begin told stopped =
    let limits : Limits = series.files.limits in
    let setups : List TrackSetup = series.files.setups in
    let n : ℕ = how_many state.pending in
    let end : State = written_out limits setups state in
    let kept_end : Kept limits setups end = written_kept n limits setups state kept in
    let c : Chunk = stopped.met.chunk in
    let b = begin_written n limits setups state lists begin c.track in
    let first : list_of end.handed c.track ≡ chunks_of_track c.track end.files ++ c ∷ drop 1 (list_of end.pending c.track) = next_handed limits setups end c kept_end stopped.met.next in
    record {
      chunks = end.files;
      files = map (layout setups) end.files;
      gained = all_gained told stopped.kept.kept;
      back = written_back n limits setups state lists end.files [] kept fits proper begin (append-nil end.files);
      order = kept_end.order;
      next = c;
      rest = drop 1 (list_of end.pending c.track) ++ b.0;
      follows = b.1 ∙ ap (λ (cs : List Chunk). cs ++ b.0) first ∙ append_assoc (chunks_of_track c.track end.files) (c ∷ drop 1 (list_of end.pending c.track)) b.0;
      met = stopped.met.limit;
      lengths = stopped.kept.reports.lengths ∙ lengths_of setups end.files;
    }

after_some : (p : Put) (files : List (List Chunk)) (c : Chunk) → 1 ≤ length files → 1 ≤ length (files_after files c p)
after_some Into files c some = omega (arith, long_into files c some)
after_some Next files c some = omega (arith, length-append files ((c ∷ []) ∷ []))
after_some (Limit shown) files c some = some

go_some : (p : Put) (files : List (List Chunk)) (rest : Switched) → 1 ≤ length files → 1 ≤ length rest.files → 1 ≤ length (go_on files p rest).files
go_some Into files rest some more = more
go_some Next files rest some more = more
go_some (Limit shown) files rest some more = some

switched_some : (limits : Limits) (setups : List TrackSetup) (files : List (List Chunk)) (order : List Chunk) → 1 ≤ length files → 1 ≤ length (switched_from limits setups files order).files
switched_some limits setups files [] some = some
switched_some limits setups files (c ∷ order) some =
    go_some (put limits setups files c) files (switched_from limits setups (files_after files c (put limits setups files c)) order) some
    (switched_some limits setups (files_after files c (put limits setups files c)) order (after_some (put limits setups files c) files c some))

-- there is a file in each state
kept_some : (limits : Limits) (setups : List TrackSetup) (state : State) → Kept limits setups state → 1 ≤ length state.files
kept_some limits setups state kept =
    subst (λ (s : Switched). 1 ≤ length s.files) kept.order (switched_some limits setups ([] ∷ []) (flat state.files) (omega arith))

-- the files of a state that a fault leaves: those that are closed, and what the state before had besides
record Left (files left : List (List Chunk)) : Type 0 where
  pub some : 1 ≤ length left
  pub more : List (List Chunk)
  pub split : closed_in left ++ more ≡ files

left_same : (files : List (List Chunk)) → 1 ≤ length files → Left files files
left_same files some = record { some = some; more = open_file files ∷ []; split = closed_open files some }

left_failed : (closed : Bool) (state : State) → 1 ≤ length state.files → Left state.files (failed closed state).files
left_failed false state some = left_same state.files some
left_failed true state some = record {
  some = omega (arith, length-append state.files ([] ∷ []));
  more = [];
  split = append-nil (closed_in (state.files ++ [] ∷ [])) ∙ closed_more state.files [];
}

-- a state that a fault left is one after so many writes but for its last file
record LeftAfter (series : OpenSeries) (state left : State) : Type 0 where
  pub count : ℕ
  pub parts : Left (written count series.files.limits series.files.setups state).files left.files

left_after : (series : OpenSeries) (state left : State) → Kept series.files.limits series.files.setups state → IsLeft series state left → LeftAfter series state left
left_after series state left kept is =
    let limits : Limits = series.files.limits in
    let setups : List TrackSetup = series.files.setups in
    let end : State = written is.0 limits setups state in
    let some : 1 ≤ length end.files = kept_some limits setups end (written_kept is.0 limits setups state kept) in
    let P : State → Type 0 = λ s. Left end.files s.files in
    record {
      count = is.0;
      parts = elim is.1 [
        | inl same ↦ subst P (sym same) (left_same end.files some)
        | inr broke ↦ subst P (sym broke.1) (left_failed broke.0 end some)
      ];
    }

-- what a shelf gained of files of which the last one isn't closed
record GainedMore (begun : ShelfView) (before : List (List ℕ)) (stem : List ℕ) (files : List (List ℕ)) (shelf : ShelfView) : Type 0 where
  pub last : List (List ℕ)
  pub few : length last ≤ 1
  pub gained : Gained begun before stem (files ++ last) shelf

gained_more : {begun middle shelf : ShelfView} {before : List (List ℕ)} {stem : List ℕ} {files : List (List ℕ)} → Gained begun before stem files middle → KeptAtMost (file_name stem (suc (length files))) middle shelf
    → GainedMore begun before stem files shelf
gained_more {begun} {middle} {shelf} {before} {stem} {files} gained kept =
    elim kept [
      | inl none ↦ record {
        last = [];
        few = omega arith;
        gained = subst (λ (fs : List (List ℕ)). Gained begun before stem fs shelf) (sym (append-nil files)) (record { named = none.named ∙ gained.named; kept = none.kept ∙ gained.kept });
      }
      | inr some ↦ (let long : suc (length files) ≡ length (files ++ some.file ∷ []) = omega (arith, length-append files (some.file ∷ [])) in
          record {
            last = some.file ∷ [];
            few = omega arith;
            gained = record {
              named =
                  some.kept.named ∙ ap (λ (ns : List (List ℕ)). ns ++ file_name stem (suc (length files)) ∷ []) gained.named
                  ∙ append_assoc begun.names (names_to stem (length files)) (file_name stem (suc (length files)) ∷ [])
                  ∙ ap (λ (n : ℕ). begun.names ++ names_to stem n) long;
              kept =
                  some.kept.kept ∙ ap (λ (fs : Option (List (List ℕ))). shelved fs (Some some.file)) gained.kept
                  ∙ ap (λ (fs : List (List ℕ)). Some fs) (append_assoc before files (some.file ∷ []));
            };
          })
    ]

-- the closed files of a series that failed are read back
pub broken_back : (begun shelf : ShelfView) (before : List (List ℕ)) (series : OpenSeries) (state : State) (lists : List (List Chunk)) (report : Report)
    → Kept series.files.limits series.files.setups state → Fits series.files.limits series.files.setups → AreProper series.files.setups state → Begin state.handed lists
    → begun.files ≡ Some before → Broken begun series state report shelf → ReadToFault begun before series lists report shelf
broken_back begun shelf before series state lists report kept fits proper begin told broken =
    let limits : Limits = series.files.limits in
    let setups : List TrackSetup = series.files.setups in
    let closed : List (List Chunk) = closed_in broken.left.files in
    let after : LeftAfter series state broken.left = left_after series state broken.left kept broken.is_left in
    let long : length broken.left.files ≡ suc (length (map (layout setups) closed)) = omega (arith, closed_long broken.left.files after.parts.some, length-map closed (layout setups)) in
    let last : KeptAtMost (file_name limits.stem (suc (length (map (layout setups) closed)))) broken.kept.before shelf = subst (λ (n : ℕ). KeptAtMost (file_name limits.stem n) broken.kept.before shelf) long broken.kept.last in
    let more : GainedMore begun before limits.stem (map (layout setups) closed) shelf = gained_more (all_gained told broken.kept.closed) last in
    record {
      chunks = closed;
      files = map (layout setups) closed;
      last = more.last;
      few = more.few;
      gained = more.gained;
      back = written_back after.count limits setups state lists closed after.parts.more kept fits proper begin after.parts.split;
      lengths = broken.reports.lengths ∙ lengths_of setups closed;
    }
