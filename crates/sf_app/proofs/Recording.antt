-- What inputs that were fetched, recorded and given back say of an answer.
use Rattle.std.proofs.Common.{◌≡◌, ℕ, zero, suc, ◌+◌, ◌≤◌, ◌⊎◌, List, [], ◌∷◌, ◌++◌, length, map, Option, Some, None, Result, Ok, Err, refl, sym, ap, subst, ◌∙◌, inl, inr, arith}
use Rattle.std.specs.Prelude.{slice_get, IfSome, IsErrAnd}
use Rattle.std.proofs.lemmas.List.{length-map}
use Rattle.std.proofs.lemmas.List.Sums.{sum_by-cons}
use Rattle.sf_gather.specs.declared.given.Options.{Options}
use Rattle.sf_series.specs.declared.limits.Limits.{Limits}
use Rattle.sf_series.specs.declared.report.Report.{Report}
use Rattle.sf_world.specs.Counts.{Rose, both}
use Rattle.sf_world.specs.Views.{InputsView, ShelfView, SourceView}
use Rattle.sf_record.specs.Called.{NoneRose, NothingFailed, TellBytes, called_for}
use Rattle.sf_record.proofs.Called.{refused_by}
use Rattle.sf_record.specs.Input.{IsOfBytes, read_fault}
use Rattle.sf_record.specs.Said.{Said}
use Rattle.sf_record.specs.Serial.{AllRead, ComeBack, HasFault, KeepsMade, SerialEnds, WasRead, answer_at, asked_for, gave, lowest_fault}
use Rattle.sf_record.specs.declared.faults.TrackFault.{TrackFault}
use Rattle.sf_record.specs.declared.serial_end.SerialOutcome.{SerialOutcome}
use Rattle.sf_record.specs.declared.serial_end.SerialOutcome.TheVariants as outcomes
use Rattle.sf_words.specs.declared.command.RecordAsked.{RecordAsked}
use Rattle.sf_app.specs.AnswerText.{Answered}
use Rattle.sf_app.specs.Lending.{AreGiven, FaultyAt, Lent, faults_of, total}
use Rattle.sf_app.specs.Outside.{KeepInputs}
use Rattle.sf_app.specs.RecordEnds.{AreHeld, Performs, Records, answered, limits_of, options_of, status_of}
use Rattle.sf_app.specs.declared.status.Status.{Status}
use Rattle.sf_app.specs.declared.status.Status.TheVariants as statuses
use Rattle.sf_app.specs.inner.Fetching.{Fetched, TakesAllBack, Unfetched}
use Rattle.sf_app.proofs.Fetching.{given_long}

-- ---- sources that are given and given back

pub lent_all : (names : List (List ℕ)) (sources back : List SourceView) (i m i' : InputsView) → Fetched names sources i m → ComeBack sources back → TakesAllBack (faults_of back) m i' → Lent names sources back i i'
lent_all names sources back i m i' f came t =
    record {
      given = f.given;
      came_back = came;
      asked = t.asked ∙ f.asked;
      returned = t.returned ∙ ap (λ (l : List ℕ). l ++ faults_of back) f.returned;
      faults = t.faults ∙ ap (λ (n : ℕ). both n (total (faults_of back))) f.faults;
    }

pub back_long : (sources back : List SourceView) → ComeBack sources back → length back ≡ length sources
back_long [] [] came = refl
back_long [] (a ∷ back) came = absurd came
back_long (b ∷ sources) [] came = absurd came
back_long (b ∷ sources) (a ∷ back) came = ap (λ (n : ℕ). suc n) (back_long sources back came.1)

pub keep_all : (names : List (List ℕ)) (sources back : List SourceView) (i m i' : InputsView) → Fetched names sources i m → ComeBack sources back → TakesAllBack (faults_of back) m i' → KeepInputs i i'
keep_all names sources back i m i' f came t =
    record {
      holds = λ name. t.holds name ∙ f.holds name;
      spare = omega (arith, f.spare, t.spare, length-map back (λ (s : SourceView). s.faults), back_long sources back came);
    }

-- a source that was given had no fault, and has the bytes that are held for its name
faultless : (holds : List ℕ → Option (List ℕ)) (names : List (List ℕ)) (sources : List SourceView) (n : ℕ) (source : SourceView) → AreGiven holds names sources → slice_get sources n ≡ Some source → source.faults ≡ 0
faultless holds [] [] n source all at = cc
faultless holds [] (s ∷ sources) n source all at = absurd all
faultless holds (name ∷ names) [] n source all at = absurd all
faultless holds (name ∷ names) (s ∷ sources) zero source all at = let same : s ≡ source = cc in subst (λ (v : SourceView). v.faults ≡ 0) same all.0.faults
faultless holds (name ∷ names) (s ∷ sources) (suc n) source all at = faultless holds names sources n source all.1 at

-- The source of a name.
pub record SourceAt (holds : List ℕ → Option (List ℕ)) (sources : List SourceView) (n : ℕ) (name : List ℕ) : Type 0 where
  pub source : SourceView
  pub there : slice_get sources n ≡ Some source
  pub content : source.content ≡ holds name

pub source_at : (holds : List ℕ → Option (List ℕ)) (names : List (List ℕ)) (sources : List SourceView) (n : ℕ) (name : List ℕ) → AreGiven holds names sources → slice_get names n ≡ Some name → SourceAt holds sources n name
source_at holds [] [] n name all at = cc
source_at holds [] (s ∷ sources) n name all at = absurd all
source_at holds (other ∷ names) [] n name all at = absurd all
source_at holds (other ∷ names) (s ∷ sources) zero name all at =
    let same : other ≡ name = cc in
    record { source = s; there = refl; content = all.0.content ∙ ap holds same }
source_at holds (other ∷ names) (s ∷ sources) (suc n) name all at =
    let x = source_at holds names sources n name all.1 at in
    record { source = x.source; there = x.there; content = x.content }

-- ---- which source failed

-- The count of the source of a number, from the first one on, rose.
pub record RoseAt (first number : ℕ) (before after : List SourceView) : Type 0 where
  pub n : ℕ
  pub at : number ≡ first + n
  pub source : SourceView
  pub there : slice_get before n ≡ Some source
  pub end : SourceView
  pub back : slice_get after n ≡ Some end
  pub rose : Rose source.faults end.faults

rose_next : (first number : ℕ) (b a : SourceView) (before after : List SourceView) → RoseAt (first + 1) number before after → RoseAt first number (b ∷ before) (a ∷ after)
rose_next first number b a before after r =
    let n : ℕ = r.n in
    let at = r.at in
    let here : number ≡ first + suc n = omega (arith, at) in
    record { n = suc n; at = here; source = r.source; there = r.there; end = r.end; back = r.back; rose = r.rose }

own_read : (track number : ℕ) (fault : TrackFault) → (fault ≡ read_fault) ⊎ IsOfBytes fault.why → outcomes.ReadFault number ≡ answer_at track fault → (number ≡ track) × (fault ≡ read_fault)
own_read track number fault (inl same) e =
    let told : outcomes.ReadFault number ≡ outcomes.ReadFault track = e ∙ ap (λ (f : TrackFault). answer_at track f) same in
    let here : number ≡ track = cc in
    (here, same)
own_read track number fault (inr of) e =
    let told : outcomes.ReadFault number ≡ outcomes.Refused track fault = e ∙ refused_by fault.why track fault of in
    absurd (let wrong : ⊥ = cc in wrong)

read_rose_if : (first number : ℕ) (options : Options) (b a : SourceView) (before after : List SourceView) (r : Said) (reads : List Said) (o : Option TrackFault) → r.fault ≡ o → WasRead first options b a r
    → (outcomes.ReadFault number ≡ lowest_fault (first + 1) (map (λ r. r.fault) reads) → RoseAt (first + 1) number before after) → outcomes.ReadFault number ≡ lowest_fault first (o ∷ map (λ r. r.fault) reads)
    → RoseAt first number (b ∷ before) (a ∷ after)
read_rose_if first number options b a before after r reads None is w rest e = rose_next first number b a before after (rest e)
read_rose_if first number options b a before after r reads (Some fault) is w rest e =
    let own : (fault ≡ read_fault) ⊎ IsOfBytes fault.why = subst (λ (o : Option TrackFault). IfSome o (λ f. (f ≡ read_fault) ⊎ IsOfBytes f.why)) is w.own in
    let told = own_read first number fault own e in
    let here : number ≡ first + 0 = told.0 ∙ (let n : first ≡ first + 0 = omega arith in n) in
    record { n = 0; at = here; source = b; there = refl; end = a; back = refl; rose = w.failed (is ∙ ap (λ (f : TrackFault). Some f) told.1) }

read_rose : (first number : ℕ) (options : Options) (before after : List SourceView) (reads : List Said) → AllRead first options before after reads
    → outcomes.ReadFault number ≡ lowest_fault first (map (λ r. r.fault) reads) → RoseAt first number before after
read_rose first number options [] [] [] all e = cc
read_rose first number options [] [] (r ∷ reads) all e = absurd all
read_rose first number options [] (a ∷ after) reads all e = absurd all
read_rose first number options (b ∷ before) [] reads all e = absurd all
read_rose first number options (b ∷ before) (a ∷ after) [] all e = absurd all
read_rose first number options (b ∷ before) (a ∷ after) (r ∷ reads) all e = read_rose_if first number options b a before after r reads r.fault refl all.0 (λ told. read_rose (first + 1) number options before after reads all.1 told) e

header_rose : (track : ℕ) (options : Options) (before after : SourceView) → HasFault track options before after read_fault → Rose before.faults after.faults
header_rose track options before after (inl read) = read.failed refl
header_rose track options before after (inr failed) = failed.1

-- the source of an input of which a read failed
source_rose : (input : ℕ) (options : Options) (limits : Limits) (sources back : List SourceView) (s s' : ShelfView) (report : Report)
    → SerialEnds (asked_for options limits sources s) (gave back s' report) (outcomes.ReadFault input) → RoseAt 0 input sources back
source_rose input options limits sources back s s' report (inl h) =
    let here : input ≡ 0 + input = omega arith in
    record { n = input; at = here; source = h.before; there = h.there; end = h.after; back = h.back; rose = header_rose input options h.before h.after h.read }
source_rose input options limits sources back s s' report (inr r) = read_rose 0 input options sources back r.1 r.2.read r.3

count_there : (back : List SourceView) (n : ℕ) (source : SourceView) → slice_get back n ≡ Some source → slice_get (faults_of back) n ≡ Some source.faults
count_there [] n source at = cc
count_there (a ∷ back) zero source at = let same : a ≡ source = cc in ap (λ (v : SourceView). Some v.faults) same
count_there (a ∷ back) (suc n) source at = count_there back n source at

count_within : (back : List SourceView) (n : ℕ) (source : SourceView) → slice_get back n ≡ Some source → source.faults ≤ total (faults_of back)
count_within [] n source at = cc
count_within (a ∷ back) zero source at =
    let same : a.faults ≡ source.faults = (let v : a ≡ source = cc in ap (λ (x : SourceView). x.faults) v) in
    let all = sum_by-cons (λ (c : ℕ). c) a.faults (faults_of back) in
    omega (arith, same, all)
count_within (a ∷ back) (suc n) source at =
    let rest = count_within back n source at in
    let all = sum_by-cons (λ (c : ℕ). c) a.faults (faults_of back) in
    omega (arith, rest, all)

rose_all : (a i' t c : ℕ) → i' ≡ both a t → 1 ≤ c → c ≤ t → Rose a i'
rose_all a i' t c e some le = omega (arith, e, some, le)

some_faults : (a b : ℕ) → a ≡ 0 → Rose a b → 1 ≤ b
some_faults a b e rose = omega (arith, e, rose)

faulty_at : (names : List (List ℕ)) (input : ℕ) (sources back : List SourceView) (i i' : InputsView) → Lent names sources back i i' → RoseAt 0 input sources back → FaultyAt names input i i'
faulty_at names input sources back i i' lent r =
    let some : 1 ≤ r.end.faults = some_faults r.source.faults r.end.faults (faultless i.holds names sources r.n r.source lent.given r.there) r.rose in
    let here : r.n ≡ input = (let at = r.at in omega (arith, at)) in
    record {
      counts = faults_of back;
      one_each = length-map back (λ (s : SourceView). s.faults) ∙ back_long sources back lent.came_back ∙ given_long i.holds names sources lent.given;
      returned = lent.returned;
      count = r.end.faults;
      there = subst (λ (n : ℕ). slice_get (faults_of back) n ≡ Some r.end.faults) here (count_there back r.n r.end r.back);
      some = some;
      failed = rose_all i.faults i'.faults (total (faults_of back)) r.end.faults lent.faults some (count_within back r.n r.end r.back);
    }

-- what stands of a recording over its limits
pub records_by : (asked : RecordAsked) (limits : Limits) (outcome : SerialOutcome) (report : Report) (sources back : List SourceView) (i i' : InputsView) (s s' : ShelfView) → limits ≡ limits_of asked → Lent asked.inputs sources back i i'
    → SerialEnds (asked_for (options_of asked) limits sources s) (gave back s' report) outcome → KeepsMade limits.stem s s' → Records asked outcome report i i' s s'
records_by asked limits outcome report sources back i i' s s' is lent ends kept =
    record {
      sources = sources;
      back = back;
      lent = lent;
      ends = (let P : Limits → Type 0 = λ l. SerialEnds (asked_for (options_of asked) l sources s) (gave back s' report) outcome in subst P is ends);
      kept = subst (λ (l : Limits). KeepsMade l.stem s s') is kept;
    }

-- how inputs were recorded, by the outcome
pub performs_by : (asked : RecordAsked) (outcome : SerialOutcome) (report : Report) (i i' : InputsView) (s s' : ShelfView) → Records asked outcome report i i' s s' → Performs asked (answered outcome report) i i' s s'
performs_by asked outcomes.Done report i i' s s' r = r
performs_by asked outcomes.WriteFault report i i' s s' r = ((report, r), r.ends.0)
performs_by asked (outcomes.Limit limit) report i i' s s' r = (report, r)
performs_by asked (outcomes.Refused track fault) report i i' s s' r = (report, r)
performs_by asked (outcomes.ReadFault input) report i i' s s' r = ((report, r), faulty_at asked.inputs input r.sources r.back i i' r.lent (source_rose input (options_of asked) (limits_of asked) r.sources r.back s s' report r.ends))
performs_by asked outcomes.NoMemory report i i' s s' r = inr (report, r)

-- ---- the answer that the bytes call for

contents_held : (holds : List ℕ → Option (List ℕ)) (names : List (List ℕ)) (sources : List SourceView) → AreGiven holds names sources → map (λ s. s.content) sources ≡ map (λ name. holds name) names
contents_held holds [] [] all = refl
contents_held holds [] (s ∷ sources) all = absurd all
contents_held holds (name ∷ names) [] all = absurd all
contents_held holds (name ∷ names) (s ∷ sources) all =
    ap (λ (c : Option (List ℕ)). c ∷ map (λ s. s.content) sources) all.0.content ∙ ap (λ (cs : List (Option (List ℕ))). holds name ∷ cs) (contents_held holds names sources all.1)

pub bytes_told : (i : InputsView) (names all : List (List ℕ)) (sources : List SourceView) → AreGiven i.holds names sources → AreHeld i names all → TellBytes sources all
bytes_told i names all sources given held = contents_held i.holds names sources given ∙ held

no_faults : (a t i' : ℕ) → i' ≡ both a t → (Rose a i' → ⊥) → t ≡ 0
no_faults a zero i' e not = refl
no_faults a (suc t) i' e not = absurd (not (omega (arith, e)))

not_risen : (a b t rest : ℕ) → a ≡ 0 → t ≡ b + rest → t ≡ 0 → Rose a b → ⊥
not_risen a b t rest e f none rose = let wrong : 1 ≤ 0 = omega (arith, e, f, none, rose) in omega (arith, wrong)

none_risen : (holds : List ℕ → Option (List ℕ)) (names : List (List ℕ)) (sources back : List SourceView) → AreGiven holds names sources → ComeBack sources back → total (faults_of back) ≡ 0 → NoneRose sources back
none_risen holds [] [] back given came none = tt
none_risen holds [] (s ∷ sources) back given came none = absurd given
none_risen holds (name ∷ names) [] back given came none = absurd given
none_risen holds (name ∷ names) (s ∷ sources) [] given came none = absurd came
none_risen holds (name ∷ names) (s ∷ sources) (a ∷ back) given came none =
    let all = sum_by-cons (λ (c : ℕ). c) a.faults (faults_of back) in
    let rest : total (faults_of back) ≡ 0 = omega (arith, all, none) in
    (not_risen s.faults a.faults (total (faults_of (a ∷ back))) (total (faults_of back)) given.0.faults all none, none_risen holds names sources back given.1 came.1 rest)

pub nothing_failed : (names : List (List ℕ)) (options : Options) (limits : Limits) (sources back : List SourceView) (report : Report) (i i' : InputsView) (s s' : ShelfView) → Lent names sources back i i'
    → (Rose i.faults i'.faults → ⊥) → (Rose s.faults s'.faults → ⊥) → NothingFailed (asked_for options limits sources s) (gave back s' report)
nothing_failed names options limits sources back report i i' s s' lent not_read not_written =
    record {
      sources = none_risen i.holds names sources back lent.given lent.came_back (no_faults i.faults (total (faults_of back)) i'.faults lent.faults not_read);
      shelf = not_written;
    }

pub answered_by : (outcome : SerialOutcome) (report : Report) (called : SerialOutcome) → (outcome ≡ outcomes.NoMemory) ⊎ (outcome ≡ called) → Answered (answered outcome report) (status_of called)
answered_by outcomes.Done report called (inl e) = cc
answered_by outcomes.Done report called (inr e) = ap status_of e
answered_by outcomes.WriteFault report called (inl e) = inl (ap status_of e)
answered_by outcomes.WriteFault report called (inr e) = inr (ap status_of e)
answered_by (outcomes.Limit limit) report called (inl e) = inl (ap status_of e)
answered_by (outcomes.Limit limit) report called (inr e) = inr (ap status_of e)
answered_by (outcomes.Refused track fault) report called (inl e) = inl (ap status_of e)
answered_by (outcomes.Refused track fault) report called (inr e) = inr (ap status_of e)
answered_by (outcomes.ReadFault input) report called (inl e) = inl (ap status_of e)
answered_by (outcomes.ReadFault input) report called (inr e) = inr (ap status_of e)
answered_by outcomes.NoMemory report called e = inl refl

-- where nothing failed the answer is the one that the bytes call for, or want of memory
pub complete_by : (asked : RecordAsked) (all : List (List ℕ)) (limits : Limits) (outcome : SerialOutcome) (report : Report) (sources back : List SourceView) (i i' : InputsView) (s s' : ShelfView) → limits ≡ limits_of asked → Lent asked.inputs sources back i i'
    → AreHeld i asked.inputs all → (Rose i.faults i'.faults → ⊥) → (Rose s.faults s'.faults → ⊥)
    → ((inputs : List (List ℕ)) → TellBytes sources inputs → NothingFailed (asked_for (options_of asked) limits sources s) (gave back s' report) → (outcome ≡ outcomes.NoMemory) ⊎ (outcome ≡ called_for (options_of asked) limits inputs))
    → Answered (answered outcome report) (status_of (called_for (options_of asked) (limits_of asked) all))
complete_by asked all limits outcome report sources back i i' s s' is lent held not_read not_written called =
    let P : Limits → Type 0 = λ l. (inputs : List (List ℕ)) → TellBytes sources inputs → NothingFailed (asked_for (options_of asked) l sources s) (gave back s' report) → (outcome ≡ outcomes.NoMemory) ⊎ (outcome ≡ called_for (options_of asked) l inputs) in
    answered_by outcome report (called_for (options_of asked) (limits_of asked) all)
    (subst P is called all (bytes_told i asked.inputs all sources lent.given held) (nothing_failed asked.inputs (options_of asked) (limits_of asked) sources back report i i' s s' lent not_read not_written))

-- ---- where a source isn't given

-- the answer of a call that is handed on
err_of : {A : Type 0} (r : Result A Status) (e : Status) (P : Result A Status → Type 0) → IsErrAnd r (λ z. z ≡ e) → P (Err e) → P r
err_of (Ok x) e P is p = absurd is
err_of (Err z) e P is p = subst (λ (y : Status). P (Err y)) (sym is) p

performs_early : (asked : RecordAsked) (status : Status) (i i' : InputsView) (s : ShelfView) → Unfetched asked.inputs status i i' → Performs asked (Err status) i i' s s
performs_early asked statuses.Done i i' s u = absurd u
performs_early asked (statuses.Usage fault) i i' s u = absurd u
performs_early asked (statuses.OpenFault input) i i' s u = (refl, u)
performs_early asked (statuses.ReadFault input) i i' s u = absurd u
performs_early asked statuses.WriteFault i i' s u = absurd u
performs_early asked (statuses.InputRefused track fault) i i' s u = absurd u
performs_early asked (statuses.MovieRefused fault) i i' s u = absurd u
performs_early asked (statuses.SampleRefused reader track sample at) i i' s u = absurd u
performs_early asked (statuses.LimitReached limit) i i' s u = absurd u
performs_early asked (statuses.PlanRefused reader command) i i' s u = absurd u
performs_early asked statuses.NoMemory i i' s u = inl (refl, u.0, u.1)

answered_early : (names : List (List ℕ)) (status called : Status) (i i' : InputsView) → Unfetched names status i i' → (Rose i.misses i'.misses → ⊥) → Answered {A = Report} (Err status) called
answered_early names statuses.Done called i i' u not = absurd u
answered_early names (statuses.Usage fault) called i i' u not = absurd u
answered_early names (statuses.OpenFault input) called i i' u not = absurd (not u.failed)
answered_early names (statuses.ReadFault input) called i i' u not = absurd u
answered_early names statuses.WriteFault called i i' u not = absurd u
answered_early names (statuses.InputRefused track fault) called i i' u not = absurd u
answered_early names (statuses.MovieRefused fault) called i i' u not = absurd u
answered_early names (statuses.SampleRefused reader track sample at) called i i' u not = absurd u
answered_early names (statuses.LimitReached limit) called i i' u not = absurd u
answered_early names (statuses.PlanRefused reader command) called i i' u not = absurd u
answered_early names statuses.NoMemory called i i' u not = inl refl

pub performs_handed : (asked : RecordAsked) (names : List (List ℕ)) (r : Result Report Status) (status : Status) (i i' : InputsView) (s : ShelfView) → names ≡ asked.inputs → IsErrAnd r (λ z. z ≡ status)
    → Unfetched names status i i' → Performs asked r i i' s s
performs_handed asked names r status i i' s same is u =
    let P : Result Report Status → Type 0 = λ x. Performs asked x i i' s s in
    err_of r status P is (performs_early asked status i i' s (subst (λ (ns : List (List ℕ)). Unfetched ns status i i') same u))

pub answered_handed : (names : List (List ℕ)) (r : Result Report Status) (status called : Status) (i i' : InputsView) → IsErrAnd r (λ z. z ≡ status) → Unfetched names status i i' → (Rose i.misses i'.misses → ⊥)
    → Answered r called
answered_handed names r status called i i' is u not = let P : Result Report Status → Type 0 = λ x. Answered x called in err_of r status P is (answered_early names status called i i' u not)
