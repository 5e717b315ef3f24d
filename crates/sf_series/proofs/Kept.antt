-- The files of a series and what is kept of them: one more is made, closed, or gets a chunk.
use Rattle.std.proofs.Common.{◌≡◌, ℕ, zero, suc, ◌+◌, ◌<◌, List, [], ◌∷◌, ◌++◌, length, map, set, Option, Some, None, refl, sym, subst, ap, ◌∙◌, inl, inr, append-nil, length-append, arith}
use Rattle.std.specs.Prelude.{slice_get}
use Rattle.std.proofs.lemmas.Bool.Decides.{eqb_tells}
use Rattle.std.proofs.lemmas.List.{map-append, length-map}
use Rattle.sf_tick.specs.declared.types.Stored.{Stored}
use Rattle.sf_tick.specs.declared.types.Chunk.{Chunk}
use Rattle.sf_entry.specs.declared.track_setup.TrackSetup.{TrackSetup}
use Rattle.sf_world.specs.Views.{KeptAtMost, ShelfView}
use Rattle.sf_layout.specs.Layout.{layout, track_samples}
use Rattle.sf_layout.proofs.LayoutLaws.{samples_grown, samples_kept}
use Rattle.sf_file.specs.Open.{OpenFile, setups_of}
use Rattle.sf_file.specs.Open as one_file
use Rattle.sf_series.specs.declared.limits.Limits.{Limits}
use Rattle.sf_series.specs.declared.report.Report.{Report}
use Rattle.sf_series.specs.Ending.{Reports}
use Rattle.sf_series.specs.Files.{flat, into_open, open_file}
use Rattle.sf_series.specs.Names.{file_name}
use Rattle.sf_series.specs.Series.{AreOn, BeginsOn, Counts, FilesClosed, FilesStand, HoldsOn, OpenFiles}
use Rattle.sf_series.specs.Shelved.{AllKept, BrokenOn, IsMade, KeptMore, KeptSomeMore, closed_in, with_files}
use Rattle.sf_series.specs.Switching.{closed_length, count_of}
use Rattle.sf_series.specs.inner.Writing.{SameBesides, SameSetups}
use Rattle.sf_series.proofs.Files.{flat_empty, flat_into}
use Rattle.sf_series.proofs.Shelving.{broken_on, closed_into, closed_more, closed_open, into_on, kept_all, long_into, long_more, next_broken, next_open, open_into, open_more}

pub read_set : {A : Type 0} (xs : List A) (k : ℕ) (x y : A) → slice_get xs k ≡ Some x → slice_get (set xs k y) k ≡ Some y
read_set {A} [] k x y e = cc
read_set {A} (z ∷ xs) zero x y e = refl
read_set {A} (z ∷ xs) (suc k) x y e = read_set xs k x y e

pub read_other : {A : Type 0} (xs : List A) (k j : ℕ) (y : A) → (k ≡ j → ⊥) → slice_get (set xs k y) j ≡ slice_get xs j
read_other {A} [] k j y other = refl
read_other {A} (z ∷ xs) zero zero y other = absurd (other refl)
read_other {A} (z ∷ xs) zero (suc j) y other = refl
read_other {A} (z ∷ xs) (suc k) zero y other = refl
read_other {A} (z ∷ xs) (suc k) (suc j) y other = read_other xs k j y (λ e. other (ap (λ (n : ℕ). suc n) e))

-- how many samples of a track there are with one more chunk
pub count_same : (chunks : List Chunk) (c : Chunk) → count_of c.track (chunks ++ c ∷ []) ≡ count_of c.track chunks + length c.samples
count_same chunks c = ap (λ (ss : List Stored). length ss) (samples_grown c.track chunks c refl) ∙ length-append (track_samples c.track chunks) c.samples

pub count_other : (track : ℕ) (chunks : List Chunk) (c : Chunk) → (c.track ≡ track → ⊥) → count_of track (chunks ++ c ∷ []) ≡ count_of track chunks
count_other track chunks c other = ap (λ (ss : List Stored). length ss) (samples_kept track chunks c other)

-- the samples in files that are counted, with one more chunk
pub counts_more : (counts : List ℕ) (files : List (List Chunk)) (c : Chunk) (tracks : ℕ) → ((t : ℕ) → t < tracks → slice_get counts t ≡ Some (count_of t (flat files))) → c.track < tracks
    → (t : ℕ) → t < tracks → slice_get (set counts c.track (count_of c.track (flat files) + length c.samples)) t ≡ Some (count_of t (flat (into_open files c)))
counts_more counts files c tracks all less t inside =
    elim (eqb_tells c.track t) [
      | inl p ↦ (
          let same : c.track ≡ t = p.1 in
          let grown : count_of c.track (flat (into_open files c)) ≡ count_of c.track (flat files) + length c.samples = ap (λ (cs : List Chunk). count_of c.track cs) (flat_into files c) ∙ count_same (flat files) c in
          subst (λ (n : ℕ). slice_get (set counts c.track (count_of c.track (flat files) + length c.samples)) n ≡ Some (count_of n (flat (into_open files c)))) same
          (read_set counts c.track _ _ (all c.track less) ∙ ap (λ (n : ℕ). Some n) (sym grown)))
      | inr p ↦ (
          let kept : count_of t (flat (into_open files c)) ≡ count_of t (flat files) = ap (λ (cs : List Chunk). count_of t cs) (flat_into files c) ∙ count_other t (flat files) c p.1 in
          read_other counts c.track t _ p.1 ∙ all t inside ∙ ap (λ (n : ℕ). Some n) (sym kept))
    ]

-- a sink that begins on a shelf with more files begins on the shelf as it was
pub begins_before : (before : Option (List (List ℕ))) (more : List (List ℕ)) (begun : Option (List ℕ)) → BeginsOn (with_files before more) begun → BeginsOn before begun
begins_before None more begun b = record { empty = b.empty; told = tt }
begins_before (Some fs) more begun b = record { empty = b.empty; told = b.told }

pub begins_after : (before : Option (List (List ℕ))) (more : List (List ℕ)) (begun : Option (List ℕ)) → BeginsOn before begun → BeginsOn (with_files before more) begun
begins_after None more begun b = record { empty = b.empty; told = tt }
begins_after (Some fs) more begun b = record { empty = b.empty; told = b.told }

-- the next file is made
counts_next : {files : List (List Chunk)} {kept : OpenFiles} → Counts files files kept → Counts (files ++ [] ∷ []) (closed_in (files ++ [] ∷ [])) kept
counts_next {files} {kept} c =
    record {
      counts = λ t less. c.counts t less ∙ ap (λ (cs : List Chunk). Some (count_of t cs)) (sym (flat_empty files));
      closed = c.closed ∙ ap (λ (fs : List (List Chunk)). map (closed_length kept.setups) fs) (sym (closed_more files []));
    }

pub number_next : {files : List (List Chunk)} {kept : OpenFiles} → Counts files files kept → length kept.closed + 1 ≡ suc (length files)
number_next {files} {kept} c = omega (arith, ap (λ (ns : List ℕ). length ns) c.closed, length-map files (closed_length kept.setups))

-- what is kept of files but the open one is all that their counts speak of
counts_same : {files closed : List (List Chunk)} {kept new : OpenFiles} → SameBesides kept new → Counts files closed kept → Counts files closed new
counts_same {files} {closed} {kept} {new} same c =
    record {
      counts = λ t less. ap (λ (ns : List ℕ). slice_get ns t) same.counts ∙ c.counts t (subst (λ (ss : List TrackSetup). t < length ss) same.setups less);
      closed = same.closed ∙ c.closed ∙ ap (λ (ss : List TrackSetup). map (closed_length ss) closed) (sym same.setups);
    }

-- files are where they are, by the tracks and the names that are kept
on_same : (begun shelf : ShelfView) (files : List (List Chunk)) (kept new : OpenFiles) (o : Option OpenFile) → new.setups ≡ kept.setups → new.limits ≡ kept.limits → new.file ≡ o
    → AreOn begun kept.limits.stem kept.setups files o shelf → AreOn begun new.limits.stem new.setups files new.file shelf
on_same begun shelf files kept new o setups limits is on =
    subst (λ (p : Option OpenFile). AreOn begun new.limits.stem new.setups files p shelf) (sym is)
    (subst (λ (ss : List TrackSetup). AreOn begun new.limits.stem ss files o shelf) (sym setups)
    (subst (λ (l : Limits). AreOn begun l.stem kept.setups files o shelf) (sym limits) on))

pub made_stands : {begun before after : ShelfView} {files : List (List Chunk)} {kept new : OpenFiles} (file : OpenFile) → FilesClosed begun files kept before → SameBesides kept new → new.file ≡ Some file
    → HoldsOn before.files kept.setups [] file → IsMade (file_name kept.limits.stem (length kept.closed + 1)) before after → FilesStand begun (files ++ [] ∷ []) new after
made_stands {begun} {before} {after} {files} {kept} {new} file c same is holds made =
    let named = subst (λ (n : ℕ). IsMade (file_name kept.limits.stem n) before after) (number_next c.counts) made in
    let holds_begun : HoldsOn begun.files kept.setups (open_file (files ++ [] ∷ [])) file =
    record {
      own = holds.own;
      begun = holds.begun;
      begins = begins_before begun.files (map (layout kept.setups) files) holds.begun (subst (λ (fs : Option (List (List ℕ))). BeginsOn fs holds.begun) c.all.kept holds.begins);
      stands = subst (λ (cs : List Chunk). one_file.Stands holds.begun cs file) (sym (open_more files [])) holds.stands;
    } in
    record {
      some = omega (arith, long_more files []);
      counts = counts_same same (counts_next c.counts);
      where_they_are = on_same begun after (files ++ [] ∷ []) kept new (Some file) same.setups same.limits is (holds_begun, next_open c.all named);
    }

pub made_breaks : {begun before after : ShelfView} {files : List (List Chunk)} {kept new : OpenFiles} → FilesClosed begun files kept before → SameBesides kept new → new.file ≡ None
    → KeptAtMost (file_name kept.limits.stem (length kept.closed + 1)) before after → FilesStand begun (files ++ [] ∷ []) new after
made_breaks {begun} {before} {after} {files} {kept} {new} c same is last =
    let named = subst (λ (n : ℕ). KeptAtMost (file_name kept.limits.stem n) before after) (number_next c.counts) last in
    record {
      some = omega (arith, long_more files []);
      counts = counts_same same (counts_next c.counts);
      where_they_are = on_same begun after (files ++ [] ∷ []) kept new None same.setups same.limits is (next_broken c.all named);
    }

-- where an open file is
pub on_open : {begun shelf : ShelfView} {stem : List ℕ} {setups : List TrackSetup} {files : List (List Chunk)} {o : Option OpenFile} (file : OpenFile) → o ≡ Some file → AreOn begun stem setups files o shelf
    → AreOn begun stem setups files (Some file) shelf
on_open {begun} {shelf} {stem} {setups} {files} {o} file is on = subst (λ (p : Option OpenFile). AreOn begun stem setups files p shelf) is on

-- the open file is closed and kept: its length is told with the others
pub closed_stands : {begun before after : ShelfView} {files : List (List Chunk)} {kept new : OpenFiles} (file : OpenFile) (size : ℕ) → FilesStand begun files kept before → kept.file ≡ Some file
    → new.setups ≡ kept.setups → new.limits ≡ kept.limits → new.counts ≡ kept.counts → new.closed ≡ kept.closed ++ size ∷ []
    → ((begun : Option (List ℕ)) (chunks : List Chunk) → one_file.Stands begun chunks file → size ≡ length (layout (setups_of file) chunks))
    → ((begun : Option (List ℕ)) (chunks : List Chunk) → BeginsOn before.files begun → one_file.Stands begun chunks file → KeptMore (layout (setups_of file) chunks) before after)
    → FilesClosed begun files new after
closed_stands {begun} {before} {after} {files} {kept} {new} file size stands is setups limits counts closed long keeps =
    let on = on_open file is stands.where_they_are in
    let holds = on.0 in
    let files_now : before.files ≡ with_files begun.files (map (layout kept.setups) (closed_in files)) = on.1.made.kept ∙ on.1.closed.kept in
    let begins = subst (λ (fs : Option (List (List ℕ))). BeginsOn fs holds.begun) (sym files_now) (begins_after begun.files (map (layout kept.setups) (closed_in files)) holds.begun holds.begins) in
    let more = subst (λ (ss : List TrackSetup). KeptMore (layout ss (open_file files)) before after) holds.own (keeps holds.begun (open_file files) begins holds.stands) in
    let size_is : size ≡ closed_length kept.setups (open_file files) = long holds.begun (open_file files) holds.stands ∙ ap (λ (ss : List TrackSetup). length (layout ss (open_file files))) holds.own in
    let all = kept_all stands.some on.1 more in
    record {
      counts = record {
        counts = λ t less. ap (λ (ns : List ℕ). slice_get ns t) counts ∙ stands.counts.counts t (subst (λ (ss : List TrackSetup). t < length ss) setups less);
        closed =
            closed ∙ ap (λ (ns : List ℕ). ns ++ size ∷ []) stands.counts.closed ∙ ap (λ (n : ℕ). map (closed_length kept.setups) (closed_in files) ++ n ∷ []) size_is
            ∙ sym (map-append (closed_length kept.setups) (closed_in files) (open_file files ∷ []))
            ∙ ap (λ (fs : List (List Chunk)). map (closed_length kept.setups) fs) (closed_open files stands.some)
            ∙ ap (λ (ss : List TrackSetup). map (closed_length ss) files) (sym setups);
      };
      all =
          subst (λ (ss : List TrackSetup). AllKept begun new.limits.stem ss files after) (sym setups)
          (subst (λ (l : Limits). AllKept begun l.stem kept.setups files after) (sym limits) all);
    }

-- the open file is kept as far as it was written
pub broken_stands : {begun before after : ShelfView} {files : List (List Chunk)} {kept new : OpenFiles} (file : OpenFile) → FilesStand begun files kept before → kept.file ≡ Some file → SameBesides kept new
    → new.file ≡ None → KeptSomeMore before after → FilesStand begun files new after
broken_stands {begun} {before} {after} {files} {kept} {new} file stands is same none more =
    record {
      some = stands.some;
      counts = counts_same same stands.counts;
      where_they_are = on_same begun after files kept new None same.setups same.limits none (broken_on (on_open file is stands.where_they_are).1 more);
    }

-- one more chunk stands in the open file
pub appended_stands : {begun shelf : ShelfView} {files : List (List Chunk)} {kept new : OpenFiles} (file grown : OpenFile) (c : Chunk) → FilesStand begun files kept shelf → kept.file ≡ Some file
    → new.setups ≡ kept.setups → new.limits ≡ kept.limits → new.closed ≡ kept.closed → new.file ≡ Some grown → c.track < length kept.setups
    → ((n : ℕ) → slice_get kept.counts c.track ≡ Some n → new.counts ≡ set kept.counts c.track (n + length c.samples))
    → setups_of grown ≡ setups_of file
    → ((begun : Option (List ℕ)) (chunks : List Chunk) → one_file.Stands begun chunks file → one_file.Stands begun (chunks ++ c ∷ []) grown)
    → FilesStand begun (into_open files c) new shelf
appended_stands {begun} {shelf} {files} {kept} {new} file grown c stands is setups limits closed now less counted same_setups stands_more =
    let on = on_open file is stands.where_they_are in
    let holds = on.0 in
    let counts = counted _ (stands.counts.counts c.track less) in
    let holds_more : HoldsOn begun.files kept.setups (open_file (into_open files c)) grown =
    record {
      own = same_setups ∙ holds.own;
      begun = holds.begun;
      begins = holds.begins;
      stands = subst (λ (cs : List Chunk). one_file.Stands holds.begun cs grown) (sym (open_into files c)) (stands_more holds.begun (open_file files) holds.stands);
    } in
    record {
      some = omega (arith, long_into files c stands.some, stands.some);
      counts = record {
        counts = λ t inside. ap (λ (ns : List ℕ). slice_get ns t) counts ∙ counts_more kept.counts files c (length kept.setups) stands.counts.counts less t (subst (λ (ss : List TrackSetup). t < length ss) setups inside);
        closed =
            closed ∙ stands.counts.closed ∙ ap (λ (fs : List (List Chunk)). map (closed_length kept.setups) fs) (sym (closed_into files c))
            ∙ ap (λ (ss : List TrackSetup). map (closed_length ss) (closed_in (into_open files c))) (sym setups);
      };
      where_they_are = on_same begun shelf (into_open files c) kept new (Some grown) setups limits now (holds_more, into_on c stands.some on.1);
    }

-- before the first file
with_none : (files : Option (List (List ℕ))) → files ≡ with_files files []
with_none None = refl
with_none (Some fs) = ap (λ (gs : List (List ℕ)). Some gs) (sym (append-nil fs))

pub closed_none : (begun : ShelfView) (kept : OpenFiles) → kept.closed ≡ [] → ((t : ℕ) → t < length kept.setups → slice_get kept.counts t ≡ Some 0) → FilesClosed begun [] kept begun
closed_none begun kept closed counts =
    record {
      counts = record { counts = counts; closed = closed };
      all = record { named = sym (append-nil begun.names); kept = with_none begun.files };
    }

-- where the open file failed
pub broken_at : {begun shelf : ShelfView} {files : List (List Chunk)} {kept : OpenFiles} → FilesStand begun files kept shelf → kept.file ≡ None → BrokenOn begun kept.limits.stem kept.setups files shelf
broken_at {begun} {shelf} {files} {kept} s none = subst (λ (o : Option OpenFile). AreOn begun kept.limits.stem kept.setups files o shelf) none s.where_they_are

-- what is told of closed files
pub closed_told : {begun shelf : ShelfView} {files : List (List Chunk)} {kept new : OpenFiles} (report : Report) → FilesClosed begun files new shelf → SameSetups kept new → report.files ≡ new.closed
    → report.tracks ≡ new.counts → length report.tracks ≡ length new.setups → AllKept begun kept.limits.stem kept.setups files shelf × Reports kept.setups files files report
closed_told {begun} {shelf} {files} {kept} {new} report c same lengths tracks one_each = (
  subst (λ (ss : List TrackSetup). AllKept begun kept.limits.stem ss files shelf) same.setups (subst (λ (l : Limits). AllKept begun l.stem new.setups files shelf) same.limits c.all),
  record {
    tracks = λ t less. ap (λ (ns : List ℕ). slice_get ns t) tracks ∙ c.counts.counts t (subst (λ (ss : List TrackSetup). t < length ss) (sym same.setups) less);
    one_each = one_each ∙ ap (λ (ss : List TrackSetup). length ss) same.setups;
    lengths = lengths ∙ c.counts.closed ∙ ap (λ (ss : List TrackSetup). map (closed_length ss) files) same.setups;
  },
)
