-- How the recording of several inputs ends whose headers are taken.
use Rattle.std.proofs.Common.{◌≡◌, ℕ, zero, suc, ◌+◌, ◌*◌, ◌^◌, ◌<◌, ◌≤◌, Bool, true, false, List, [], ◌∷◌, ◌++◌, length, map, Option, Some, None, refl, sym, ap, subst, ◌∙◌, inl, inr, arith, append-nil}
use Rattle.std.specs.Prelude.{get_or, slice_get, sum_by}
use Rattle.std.specs.List.{AllByRecursion}
use Rattle.std.proofs.lemmas.Option.{slice_get_within}
use Rattle.std.proofs.lemmas.List.{get_or-replicate}
use Rattle.std.proofs.lemmas.List.Sums.{sum_by-cons}
use Rattle.sf_tick.specs.declared.types.Chunk.{Chunk}
use Rattle.sf_entry.specs.declared.track_setup.TrackSetup.{TrackSetup}
use Rattle.sf_file.specs.Holdable.{IsReadable}
use Rattle.sf_file.specs.Open.{AreSetups}
use Rattle.sf_gather.specs.declared.given.Given.{Given}
use Rattle.sf_gather.specs.declared.given.Options.{Options}
use Rattle.sf_interleave.specs.Waiting.{how_many, list_of}
use Rattle.sf_world.specs.Counts.{Rose}
use Rattle.sf_world.specs.Views.{KeptAtMost, ShelfView, SourceView, Unchanged}
use Rattle.sf_series.specs.declared.faults.SeriesFault.{SeriesFault}
use Rattle.sf_series.specs.declared.faults.SeriesFault.TheVariants as causes
use Rattle.sf_series.specs.declared.limits.Limits.{Limits}
use Rattle.sf_series.specs.declared.limits.LimitShown.{LimitShown}
use Rattle.sf_series.specs.declared.report.Report.{Report}
use Rattle.sf_series.specs.Core.{State, fresh}
use Rattle.sf_series.specs.Ending.{IsKept, Reports, written_out}
use Rattle.sf_series.specs.Files.{flat}
use Rattle.sf_series.specs.Names.{file_name}
use Rattle.sf_series.specs.Order.{in_order}
use Rattle.sf_series.specs.Shelved.{AllKept}
use Rattle.sf_series.specs.Switching.{closed_length, passes, switched}
use Rattle.sf_series.specs.Fitting.{AreProper, Fits}
use Rattle.sf_series.specs.Kept.{Kept}
use Rattle.sf_series.specs.ReadBack.{Begin, WholeReadBack}
use Rattle.sf_series.specs.Series.{IsNothing, MeetsLimit, OpenSeries, Stands as SeriesStands}
use Rattle.sf_layout.specs.Layout.{samples_of}
use Rattle.sf_series.proofs.SeriesLaws.{all_written, finished_back, fresh_kept, fresh_proper, stopped_back, switched_ends}
use Rattle.sf_series.proofs.WrittenOut.{written_ended}
use Rattle.sf_record.specs.declared.faults.TrackFault.{TrackFault}
use Rattle.sf_record.specs.declared.serial_end.SerialOutcome.{SerialOutcome}
use Rattle.sf_record.specs.declared.serial_end.SerialOutcome.TheVariants.{Done, WriteFault, Limit, Refused, ReadFault, NoMemory}
use Rattle.sf_record.specs.Pump.{Pumping}
use Rattle.sf_record.specs.Said.{Said}
use Rattle.sf_record.specs.Serial.{ComeBack, FitsNothing, FollowOrder, Opens, Recorded, RecordsToLimit, SerialEnds, TellsNone, asked_for, gave, lists_of, lowest_fault}
use Rattle.sf_record.specs.inner.Deal.{Deals, Hands, PumpsOver, TrackStands}
use Rattle.sf_record.specs.inner.Finishing.{AsPumps, FinishedAll, FinishedAtLimit, WriteEnds, unbegun}
use Rattle.sf_record.specs.inner.Headers.{AllOpened, IsOpened}
use Rattle.sf_record.specs.inner.InTurn.{MayCome}
use Rattle.sf_record.proofs.Counted.{rose_behind}
use Rattle.sf_record.proofs.Faulted.{fault_recorded, fits_own, lists_begin, lists_long, some_same}
use Rattle.sf_record.proofs.Finishing.{out_none}
use Rattle.sf_record.proofs.InTurn.{all_turn, next_turn}
use Rattle.sf_record.proofs.Opened.{opened_long}
use Rattle.sf_record.proofs.Told.{told_of}
use Rattle.sf_record.proofs.Readings.{AreFirst, AreRead, TakenHanded, all_first, all_read, hands_at}

-- A track of opened inputs.
pub record OpenedAt (number : ℕ) (options : Options) (setups : List TrackSetup) (before : List SourceView) (n : ℕ) (pump : Pumping) : Type 0 where
  pub setup : TrackSetup
  pub there : slice_get setups n ≡ Some setup
  pub source : SourceView
  pub from : slice_get before n ≡ Some source
  pub opened : IsOpened number options source setup pump

pub opened_at : (track : ℕ) (options : Options) (before : List SourceView) (setups : List TrackSetup) (pumps : List Pumping) (n : ℕ) (pump : Pumping) → AllOpened track options before setups pumps → slice_get pumps n ≡ Some pump
    → OpenedAt (track + n) options setups before n pump
opened_at track options [] [] [] n pump all at = cc
opened_at track options [] [] (p ∷ pumps) n pump all at = absurd all
opened_at track options [] (s ∷ setups) pumps n pump all at = absurd all
opened_at track options (b ∷ before) [] pumps n pump all at = absurd all
opened_at track options (b ∷ before) (s ∷ setups) [] n pump all at = absurd all
opened_at track options (b ∷ before) (s ∷ setups) (p ∷ pumps) zero pump all at =
    let same : p ≡ pump = some_same p pump at in
    let here : track ≡ track + 0 = omega arith in
    record { setup = s; there = refl; source = b; from = refl; opened = subst (λ (k : ℕ). IsOpened k options b s pump) here (subst (λ (q : Pumping). IsOpened track options b s q) same all.0) }
opened_at track options (b ∷ before) (s ∷ setups) (p ∷ pumps) (suc n) pump all at =
    let o = opened_at (track + 1) options before setups pumps n pump all.1 at in
    let here : (track + 1) + n ≡ track + suc n = omega arith in
    record { setup = o.setup; there = o.there; source = o.source; from = o.from; opened = subst (λ (k : ℕ). IsOpened k options o.source o.setup pump) here o.opened }

-- the header of each input is taken with the setup of its track
pub opens_at : (track : ℕ) (options : Options) (before : List SourceView) (setups : List TrackSetup) (pumps : List Pumping) (n : ℕ) (source : SourceView) (setup : TrackSetup) → AllOpened track options before setups pumps
    → slice_get before n ≡ Some source → slice_get setups n ≡ Some setup → Opens (track + n) options source.content setup
opens_at track options [] [] [] n source setup all at there = cc
opens_at track options [] [] (p ∷ pumps) n source setup all at there = absurd all
opens_at track options [] (s ∷ setups) pumps n source setup all at there = absurd all
opens_at track options (b ∷ before) [] pumps n source setup all at there = absurd all
opens_at track options (b ∷ before) (s ∷ setups) [] n source setup all at there = absurd all
opens_at track options (b ∷ before) (s ∷ setups) (p ∷ pumps) zero source setup all at there =
    let here : track ≡ track + 0 = omega arith in
    subst (λ (v : SourceView). Opens (track + 0) options v.content setup) (some_same b source at)
    (subst (λ (t : TrackSetup). Opens (track + 0) options b.content t) (some_same s setup there) (subst (λ (k : ℕ). Opens k options b.content s) here all.0.opens))
opens_at track options (b ∷ before) (s ∷ setups) (p ∷ pumps) (suc n) source setup all at there =
    let here : (track + 1) + n ≡ track + suc n = omega arith in
    subst (λ (k : ℕ). Opens k options source.content setup) here (opens_at (track + 1) options before setups pumps n source setup all.1 at there)

all_readable : (track : ℕ) (options : Options) (before : List SourceView) (setups : List TrackSetup) (pumps : List Pumping) → AllOpened track options before setups pumps
    → AllByRecursion IsReadable setups × AllByRecursion (λ s. 1 ≤ s.scale) setups × (sum_by (λ s. length s.entry) setups ≤ 2 ^ 23 * length setups)
all_readable track options [] [] [] all = (tt, tt, omega arith)
all_readable track options [] [] (p ∷ pumps) all = absurd all
all_readable track options [] (s ∷ setups) pumps all = absurd all
all_readable track options (b ∷ before) [] pumps all = absurd all
all_readable track options (b ∷ before) (s ∷ setups) [] all = absurd all
all_readable track options (b ∷ before) (s ∷ setups) (p ∷ pumps) all =
    let more = all_readable (track + 1) options before setups pumps all.1 in
    ((all.0.readable, more.0), (all.0.readable.ticks, more.1), omega (arith, all.0.short, more.2, sum_by-cons (λ (t : TrackSetup). length t.entry) s setups))

pub readable_of : (options : Options) (before : List SourceView) (setups : List TrackSetup) (pumps : List Pumping) → AllOpened 0 options before setups pumps → AllByRecursion IsReadable setups
readable_of options before setups pumps all = (all_readable 0 options before setups pumps all).0

pub setups_of : (options : Options) (before : List SourceView) (setups : List TrackSetup) (pumps : List Pumping) → AllOpened 0 options before setups pumps → 1 ≤ length pumps → length pumps ≤ 16 → AreSetups setups
setups_of options before setups pumps all some few =
    let long = opened_long 0 options before setups pumps all in
    let parts = all_readable 0 options before setups pumps all in
    record { some = omega (arith, long.0, long.1, some); few = omega (arith, long.0, long.1, few); ticks = parts.1; entries = omega (arith, long.0, long.1, few, parts.2) }

fresh_track : {options : Options} {before : List SourceView} {setups : List TrackSetup} {n : ℕ} {pump : Pumping} → OpenedAt (0 + n) options setups before n pump → TrackStands setups (fresh (length setups)) n pump
fresh_track {options} {before} {setups} {n} {pump} o =
    let zero_n : 0 + n ≡ n = omega arith in
    let inside : n < length setups = slice_get_within setups n o.setup o.there in
    record {
      setup = o.setup;
      there = o.there;
      hands = record {
        track = ap (λ (g : Given). g.track) o.opened.given ∙ zero_n;
        ticks = ap (λ (g : Given). g.scale) o.opened.given;
        taken = [];
        goes = ([], o.opened.stands);
        handed = get_or-replicate {A = List Chunk} (length setups) n [] [] inside;
        mark = get_or-replicate {A = Bool} (length setups) n false false inside;
      };
    }

-- nothing was dealt into a series that begins
pub fresh_deals : {setups : List TrackSetup} {begun shelf : ShelfView} {series : OpenSeries} (options : Options) (before : List SourceView) (pumps : List Pumping) → AllOpened 0 options before setups pumps
    → SeriesStands begun (fresh (length setups)) series shelf → series.files.setups ≡ setups → Deals begun (fresh (length setups)) pumps series shelf
fresh_deals {setups} {begun} {shelf} {series} options before pumps all stands own =
    let long = opened_long 0 options before setups pumps all in
    record {
      stands = stands;
      kept = fresh_kept series.files.limits series.files.setups (length setups);
      proper = subst (λ (ss : List TrackSetup). AreProper ss (fresh (length setups))) (sym own) (fresh_proper setups);
      one_each = long.1 ∙ sym long.0 ∙ ap (λ (ss : List TrackSetup). length ss) (sym own);
      tracks = λ n pump at.
          subst (λ (ss : List TrackSetup). TrackStands ss (fresh (length setups)) n pump) (sym own) (fresh_track (opened_at 0 options before setups pumps n pump all at));
    }

-- ---- lists that are the same

lists_same : (xs ys : List (List Chunk)) → length xs ≡ length ys → ((n : ℕ) → n < length xs → list_of xs n ≡ list_of ys n) → xs ≡ ys
lists_same [] [] long same = refl
lists_same [] (y ∷ ys) long same = absurd (omega (arith, long))
lists_same (x ∷ xs) [] long same = absurd (omega (arith, long))
lists_same (x ∷ xs) (y ∷ ys) long same =
    ap (λ (l : List Chunk). l ∷ xs) (same 0 (omega arith)) ∙ ap (λ (ls : List (List Chunk)). y ∷ ls) (lists_same xs ys (omega (arith, long)) (λ n less. same (suc n) (omega (arith, less))))

-- ---- all inputs were recorded, or up to a limit

taken_handed : {begun shelf : ShelfView} {state : State} {pumps : List Pumping} {series : OpenSeries} {setups : List TrackSetup} → Deals begun state pumps series shelf → series.files.setups ≡ setups → TakenHanded 0 setups state pumps
taken_handed {begun} {shelf} {state} {pumps} {series} {setups} d own n setup pump at there =
    let t = d.tracks n pump there in
    let same : t.setup ≡ setup = some_same t.setup setup (sym t.there ∙ ap (λ (ss : List TrackSetup). slice_get ss n) own ∙ at) in
    hands_at {b = 0 + n} (omega arith) (subst (λ (s : TrackSetup). Hands pump.coded.source.content n s.scale state pump) same t.hands)

begin_same : (lists : List (List Chunk)) → Begin lists lists
begin_same lists t = ([], sym (append-nil (list_of lists t)))

whole_back : {begun after : ShelfView} {limits : Limits} {setups : List TrackSetup} {pumps : List Pumping} {report : Report} (f : FinishedAll begun limits setups pumps report after) (lists : List (List Chunk)) → Fits limits setups
    → f.dealt.state.handed ≡ lists → (files : List (List ℕ)) → begun.files ≡ Some files → WholeReadBack begun files f.dealt.series lists lists report after
whole_back {begun} {after} {limits} {setups} {pumps} {report} f lists fits same files told =
    let d = f.dealt in
    subst (λ (ls : List (List Chunk)). WholeReadBack begun files d.series ls ls report after) same
    (finished_back begun after files d.series d.state d.state.handed report d.deals.kept (fits_own d.series d.own fits) d.deals.proper (begin_same d.state.handed) told f.finished)

-- what is kept of a state, by the limits and the setups of its series
kept_own : {limits : Limits} {setups : List TrackSetup} {state : State} (series : OpenSeries) → (series.files.setups ≡ setups) × (series.files.limits ≡ limits) → Kept series.files.limits series.files.setups state → Kept limits setups state
kept_own {limits} {setups} {state} series own kept = subst (λ (l : Limits). Kept l setups state) own.1 (subst (λ (ss : List TrackSetup). Kept series.files.limits ss state) own.0 kept)

-- Files that are kept and told, by the limits and the setups of a series.
record KeptFiles (begun : ShelfView) (limits : Limits) (setups : List TrackSetup) (files : List (List Chunk)) (report : Report) (after : ShelfView) : Type 0 where
  kept : AllKept begun limits.stem setups files after
  reports : Reports setups files files report

files_kept : {begun after : ShelfView} {limits : Limits} {setups : List TrackSetup} {report : Report} (series : OpenSeries) (state end : State) → (series.files.setups ≡ setups) × (series.files.limits ≡ limits) → end ≡ state
    → IsKept begun series end report after → KeptFiles begun limits setups state.files report after
files_kept {begun} {after} {limits} {setups} {report} series state end own same is =
    let all : AllKept begun series.files.limits.stem series.files.setups state.files after = subst (λ (s : State). AllKept begun series.files.limits.stem series.files.setups s.files after) same is.kept in
    let told : Reports series.files.setups state.files state.files report = subst (λ (s : State). Reports series.files.setups s.files s.files report) same is.reports in
    record {
      kept = subst (λ (l : Limits). AllKept begun l.stem setups state.files after) own.1 (subst (λ (ss : List TrackSetup). AllKept begun series.files.limits.stem ss state.files after) own.0 all);
      reports = subst (λ (ss : List TrackSetup). Reports ss state.files state.files report) own.0 told;
    }

-- all chunks were written in their order
follow_all : {options : Options} {before sources : List SourceView} {begun after : ShelfView} {limits : Limits} {setups : List TrackSetup} {pumps : List Pumping} {report : Report} (f : FinishedAll begun limits setups pumps report after) (lists : List (List Chunk))
    → passes limits.max_bytes (closed_length setups []) ≡ false → f.dealt.state.handed ≡ lists → FollowOrder (asked_for options limits before begun) (gave sources after report) setups lists None
follow_all {options} {before} {sources} {begun} {after} {limits} {setups} {pumps} {report} f lists under same =
    let d = f.dealt in
    let kept : Kept limits setups d.state = kept_own d.series d.own d.deals.kept in
    let files : KeptFiles begun limits setups d.state.files report after =
    files_kept d.series d.state (written_out d.series.files.limits d.series.files.setups d.state) d.own (out_none d.series.files.limits d.series.files.setups d.state f.none) f.finished.kept in
    record {
      under = under;
      files = d.state.files;
      order =
          ap (λ (ls : List (List Chunk)). switched limits setups (in_order ls)) (sym same)
          ∙ ap (λ (cs : List Chunk). switched limits setups cs) (all_turn d.state d.turn f.none) ∙ kept.order;
      kept = files.kept;
      reports = files.reports;
    }

-- the report tells how many samples were read of each input
counts_told : (options : Options) {begun after : ShelfView} {limits : Limits} {setups : List TrackSetup} {pumps : List Pumping} {report : Report} (f : FinishedAll begun limits setups pumps report after) (reads : List Said) → map (λ r. r.setup) reads ≡ map Some setups
    → f.dealt.state.handed ≡ lists_of 0 options setups reads → report.tracks ≡ map (λ r. length r.samples) reads
counts_told options {begun} {after} {limits} {setups} {pumps} {report} f reads taken same =
    let d = f.dealt in
    let kept : Kept limits setups d.state = kept_own d.series d.own d.deals.kept in
    let files : KeptFiles begun limits setups d.state.files report after =
    files_kept d.series d.state (written_out d.series.files.limits d.series.files.setups d.state) d.own (out_none d.series.files.limits d.series.files.setups d.state f.none) f.finished.kept in
    told_of 0 options setups reads report.tracks taken files.reports.one_each
    (λ t less. files.reports.tracks t less
    ∙ ap (λ (cs : List Chunk). Some (length (samples_of cs))) (all_written limits setups d.state t kept f.none ∙ ap (λ (ls : List (List Chunk)). list_of ls t) same))

pub all_recorded : {setups : List TrackSetup} {pumps : List Pumping} {begun after : ShelfView} {limits : Limits} {report : Report} (options : Options) (before : List SourceView) (firsts : List Pumping) (outcome : SerialOutcome)
    → AllOpened 0 options before setups firsts → PumpsOver firsts pumps → Fits limits setups → passes limits.max_bytes (closed_length setups []) ≡ false → AsPumps begun limits setups pumps report after outcome
    → Recorded (asked_for options limits before begun) (gave (map (λ p. p.coded.source) pumps) after report) outcome
all_recorded {setups} {pumps} {begun} {after} {limits} {report} options before firsts outcome all over fits under so =
    let f = so.0 in
    let d = f.dealt in
    let r : AreRead 0 options before setups d.state pumps =
    all_read 0 options before setups d.state firsts pumps all over (λ n setup pump at there. (taken_handed d.deals d.own.0 n setup pump at there, f.over n pump there)) in
    let lists = lists_of 0 options setups r.reads in
    let long : length d.state.handed ≡ length setups = d.deals.proper.tracks ∙ ap (λ (ss : List TrackSetup). length ss) d.own.0 in
    let same : d.state.handed ≡ lists =
    lists_same d.state.handed lists (long ∙ sym (lists_long 0 options setups r.reads r.taken)) (λ n less. ap (λ (k : ℕ). list_of d.state.handed k) (omega arith) ∙ r.lists n (omega (arith, less, long))) in (
      setups,
      r.reads,
      record { read = r.read; taken = r.taken; series = d.series; own = d.own; back = whole_back f lists fits same; follow = follow_all f lists under same; told = counts_told options f r.reads r.taken same },
      so.1 ∙ ap (λ (fs : List (Option TrackFault)). lowest_fault 0 fs) (sym r.faults),
    )

first_lists : {options : Options} {before : List SourceView} {setups : List TrackSetup} {state : State} {pumps : List Pumping} (r : AreFirst 0 options before setups state pumps) → length state.handed ≡ length setups
    → Begin state.handed (lists_of 0 options setups r.reads)
first_lists {options} {before} {setups} {state} {pumps} r long = lists_begin options setups state r.reads r.rests r.taken r.lists long

-- chunks were written in their order up to the one that met a limit
follow_limit : {options : Options} {before sources : List SourceView} {begun after : ShelfView} {limits : Limits} {setups : List TrackSetup} {pumps : List Pumping} {report : Report} (shown : LimitShown)
    (f : FinishedAtLimit begun limits setups pumps shown report after) (r : AreFirst 0 options before setups f.dealt.state pumps) → passes limits.max_bytes (closed_length setups []) ≡ false → length f.dealt.state.handed ≡ length setups
    → FollowOrder (asked_for options limits before begun) (gave sources after report) setups (lists_of 0 options setups r.reads) (Some shown)
follow_limit {options} {before} {sources} {begun} {after} {limits} {setups} {pumps} {report} shown f r under long =
    let d = f.dealt in
    let lists = lists_of 0 options setups r.reads in
    let kept : Kept limits setups d.state = kept_own d.series d.own d.deals.kept in
    let end : State = written_out d.series.files.limits d.series.files.setups d.state in
    let same : end ≡ d.state = written_ended (how_many d.state.pending) d.series.files.limits d.series.files.setups d.state f.ended in
    let met : MeetsLimit limits setups d.state shown =
    subst (λ (l : Limits). MeetsLimit l setups d.state shown) d.own.1 (subst (λ (ss : List TrackSetup). MeetsLimit d.series.files.limits ss d.state shown) d.own.0
    (subst (λ (s : State). MeetsLimit d.series.files.limits d.series.files.setups s shown) same f.stopped.met)) in
    let files : KeptFiles begun limits setups d.state.files report after = files_kept d.series d.state end d.own same f.stopped.kept in
    let may : MayCome d.state.marks r.rests =
    record {
      theirs = λ t. let zero_t : 0 + t ≡ t = omega arith in subst (λ (k : ℕ). AllByRecursion (λ c. c.track ≡ k) (r.rests t)) zero_t (r.theirs t);
      none = λ t marked. let zero_t : 0 + t ≡ t = omega arith in r.none t (ap (λ (k : ℕ). get_or d.state.marks k false) zero_t ∙ marked);
    } in
    let each : (t : ℕ) → t < length d.state.handed → list_of lists t ≡ list_of d.state.handed t ++ r.rests t =
    λ t less. let zero_t : 0 + t ≡ t = omega arith in r.lists t (omega (arith, less, long)) ∙ ap (λ (k : ℕ). list_of d.state.handed k ++ r.rests t) zero_t in
    let next = next_turn d.state lists r.rests met.chunk kept.theirs f.ready d.turn may (lists_long 0 options setups r.reads r.taken ∙ sym long) each met.next in
    record {
      under = under;
      files = d.state.files;
      order = ap (λ (cs : List Chunk). switched limits setups cs) next.1 ∙ switched_ends limits setups d.state.files (flat d.state.files) next.0 met.chunk shown kept.order met.limit;
      kept = files.kept;
      reports = files.reports;
    }

pub limit_recorded : {setups : List TrackSetup} {pumps : List Pumping} {begun after : ShelfView} {limits : Limits} {report : Report} (options : Options) (before : List SourceView) (firsts : List Pumping) (shown : LimitShown)
    → AllOpened 0 options before setups firsts → PumpsOver firsts pumps → Fits limits setups → passes limits.max_bytes (closed_length setups []) ≡ false → FinishedAtLimit begun limits setups pumps shown report after
    → RecordsToLimit (asked_for options limits before begun) (gave (map (λ p. p.coded.source) pumps) after report) shown
limit_recorded {setups} {pumps} {begun} {after} {limits} {report} options before firsts shown all over fits under f =
    let d = f.dealt in
    let r : AreFirst 0 options before setups d.state pumps = all_first 0 options before setups d.state firsts pumps all over (taken_handed d.deals d.own.0) in
    let long : length d.state.handed ≡ length setups = d.deals.proper.tracks ∙ ap (λ (ss : List TrackSetup). length ss) d.own.0 in
    record {
      inputs = record { setups = setups; reads = r.reads; read = r.read; taken = r.taken; series = d.series; own = d.own };
      back = λ files told. stopped_back begun after files d.series d.state (lists_of 0 options setups r.reads) shown report d.deals.kept (fits_own d.series d.own fits) d.deals.proper (first_lists r long) told f.stopped;
      follow = follow_limit shown f r under long;
    }

-- how the recording ends, by how the writing of the pumps' chunks ends
pub serial_ends : {setups : List TrackSetup} {limits : Limits} (options : Options) (before : List SourceView) (firsts pumps : List Pumping) (begun mid after : ShelfView) (report : Report) (outcome : SerialOutcome)
    → AllOpened 0 options before setups firsts → PumpsOver firsts pumps → Fits limits setups → passes limits.max_bytes (closed_length setups []) ≡ false → begun.faults ≤ mid.faults → WriteEnds begun mid limits setups pumps report after outcome
    → SerialEnds (asked_for options limits before begun) (gave (map (λ p. p.coded.source) pumps) after report) outcome
serial_ends {setups} {limits} options before firsts pumps begun mid after report Done all over fits under later w = all_recorded options before firsts Done all over fits under w
serial_ends {setups} {limits} options before firsts pumps begun mid after report WriteFault all over fits under later w = (rose_behind _ _ _ later w.0, inr (fault_recorded options before firsts all over fits under w.1))
serial_ends {setups} {limits} options before firsts pumps begun mid after report (Limit shown) all over fits under later w = inr (limit_recorded options before firsts shown all over fits under w)
serial_ends {setups} {limits} options before firsts pumps begun mid after report (Refused track fault) all over fits under later w = inr (all_recorded options before firsts (Refused track fault) all over fits under w)
serial_ends {setups} {limits} options before firsts pumps begun mid after report (ReadFault input) all over fits under later w = inr (all_recorded options before firsts (ReadFault input) all over fits under w)
serial_ends {setups} {limits} options before firsts pumps begun mid after report NoMemory all over fits under later w = inr (inr (fault_recorded options before firsts all over fits under w))

-- no file is made where not even an empty one is within the limit of bytes
pub nothing_fits : {setups : List TrackSetup} {begun after : ShelfView} {limits : Limits} {report : Report} (options : Options) (before : List SourceView) (pumps : List Pumping) (sources : List SourceView) (shown : LimitShown)
    → AllOpened 0 options before setups pumps → IsNothing limits setups shown → after ≡ begun → TellsNone (asked_for options limits before begun) report → FitsNothing (asked_for options limits before begun) (gave sources after report) shown
nothing_fits {setups} {begun} {after} {limits} {report} options before pumps sources shown all nothing same none =
    record {
      setups = setups;
      opens = λ number source setup at there.
          let here : 0 + number ≡ number = omega arith in
          subst (λ (k : ℕ). Opens k options source.content setup) here (opens_at 0 options before setups pumps number source setup all at there);
      one_each = (opened_long 0 options before setups pumps all).0;
      passed = nothing;
      nothing = same;
      none = none;
    }

-- ---- the sources come back

unchanged_then : {a b c : SourceView} → Unchanged a b → Unchanged b c → Unchanged a c
unchanged_then {a} {b} {c} first next = record { content = next.content ∙ first.content; size = next.size ∙ first.size; later = omega (arith, first.later, next.later) }

pub come_back : (track : ℕ) (options : Options) (before : List SourceView) (setups : List TrackSetup) (firsts pumps : List Pumping) → AllOpened track options before setups firsts → PumpsOver firsts pumps
    → ComeBack before (map (λ p. p.coded.source) pumps)
come_back track options [] [] [] [] all over = tt
come_back track options [] [] [] (p ∷ pumps) all over = absurd over
come_back track options [] [] (f ∷ firsts) pumps all over = absurd all
come_back track options [] (s ∷ setups) firsts pumps all over = absurd all
come_back track options (b ∷ before) [] firsts pumps all over = absurd all
come_back track options (b ∷ before) (s ∷ setups) [] pumps all over = absurd all
come_back track options (b ∷ before) (s ∷ setups) (f ∷ firsts) [] all over = absurd over
come_back track options (b ∷ before) (s ∷ setups) (f ∷ firsts) (p ∷ pumps) all over =
    (unchanged_then all.0.source over.0.source, come_back (track + 1) options before setups firsts pumps all.1 over.1)

-- the answer where no series is begun
pub unbegun_ends : (options : Options) (before : List SourceView) (setups : List TrackSetup) (pumps : List Pumping) (begun after : ShelfView) (limits : Limits) (report : Report) (sources : List SourceView) (fault : SeriesFault)
    → AllOpened 0 options before setups pumps → (fault ≡ causes.WriteFault → Rose begun.faults after.faults) → ((shown : LimitShown) → fault ≡ causes.Limit shown → IsNothing limits setups shown × (after ≡ begun)) → TellsNone (asked_for options limits before begun) report
    → KeptAtMost (file_name limits.stem 1) begun after → SerialEnds (asked_for options limits before begun) (gave sources after report) (unbegun fault)
unbegun_ends options before setups pumps begun after limits report sources causes.WriteFault all write nothing none made = (write refl, inl (record { made = made; none = none }))
unbegun_ends options before setups pumps begun after limits report sources (causes.Limit shown) all write nothing none made =
    let n = nothing shown refl in inl (nothing_fits options before pumps sources shown all n.0 n.1 none)
unbegun_ends options before setups pumps begun after limits report sources causes.NoMemory all write nothing none made = inr (inl (record { made = made; none = none }))

pub over_long : (firsts pumps : List Pumping) → PumpsOver firsts pumps → length pumps ≡ length firsts
over_long [] [] over = refl
over_long [] (p ∷ pumps) over = absurd over
over_long (f ∷ firsts) [] over = absurd over
over_long (f ∷ firsts) (p ∷ pumps) over = ap (λ (n : ℕ). suc n) (over_long firsts pumps over.1)

-- an empty file is within the limit of bytes, where a series begins
pub not_passed : (b : Bool) → (b ≡ true → ⊥) → b ≡ false
not_passed true not = absurd (not refl)
not_passed false not = refl
