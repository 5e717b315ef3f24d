-- What a movie that was fetched, extracted and given back says of an answer.
use Rattle.std.proofs.Common.{◌≡◌, ◌≢◌, ℕ, zero, suc, ◌+◌, List, [], ◌∷◌, length, map, Option, Some, None, Result, Ok, Err, refl, sym, ap, subst, ◌∙◌, inl, inr, arith}
use Rattle.std.specs.Prelude.{IfOk, IfErr}
use Rattle.sf_world.specs.Counts.{Rose}
use Rattle.sf_world.specs.Views.{InputsView, Says, ShelfView, SinkView, SourceView}
use Rattle.sf_world.specs.declared.failures.Denied.{Denied}
use Rattle.sf_world.specs.declared.failures.Denied.TheVariants as denials
use Rattle.sf_meaning.specs.Movie.{movie}
use Rattle.sf_meaning.specs.declared.faults.MovieFault.{MovieFault}
use Rattle.sf_movie.specs.Loaded.{Loaded}
use Rattle.sf_extract.specs.Current.{unmoved}
use Rattle.sf_extract.specs.Plan.{missing_from}
use Rattle.sf_extract.specs.Readout.{Readout, read_out, readout}
use Rattle.sf_extract.specs.declared.plan.Command.{Command}
use Rattle.sf_extract.specs.declared.types.BadSample.{BadSample}
use Rattle.sf_reader.specs.Dumps.{AreUpTo, AreWhole, dumps_of, first_missing, missing_or as missing_in, readouts, told_length}
use Rattle.sf_reader.specs.Extracted.{Extracted, IsLoaded, KeptDumps, KeptOf, OfReadouts}
use Rattle.sf_reader.specs.declared.outcome.ExtractOutcome.{ExtractOutcome}
use Rattle.sf_reader.specs.declared.outcome.ExtractOutcome.TheVariants as outcomes
use Rattle.sf_words.specs.declared.command.ExtractAsked.{ExtractAsked}
use Rattle.sf_app.specs.AnswerText.{Answered, Puts, line_of}
use Rattle.sf_app.specs.ExtractEnds.{AreReadOut, EndsBy, ExtractEnds, Extraction, Extracts, ExtractsSo, PlansEnd, ReadsOut, answer_for, by_movie, by_plans, by_readouts, loaded, missing_or, refused_or}
use Rattle.sf_app.specs.Outside.{OfTold, Outside}
use Rattle.sf_app.specs.Plans.{plans_from}
use Rattle.sf_app.specs.declared.status.Status.{Status}
use Rattle.sf_app.specs.declared.status.Status.TheVariants as statuses
use Rattle.sf_app.specs.declared.status.UsageFault.{UsageFault}
use Rattle.sf_app.specs.inner.Extraction.{NotRead, answered, extraction}
use Rattle.sf_app.proofs.Performing.{Visit, faulty, given_back}

-- ---- the answer before the text

so : (e : Extraction) (outcome : ExtractOutcome) (lengths : List ℕ) (source end : SourceView) (i m i' : InputsView) (s s' : ShelfView) → Visit e.name source end i m i'
    → OfTold source.content (λ file. Extracted file e.plans e.stem outcome lengths s s') → ExtractsSo e outcome lengths i i' s s'
so e outcome lengths source end i m i' s s' v x = record { back = given_back e.name source end i m i' v; extracted = λ file told. x file (v.given.content ∙ told) }

-- how plans were extracted, by the outcome
pub extracts_by : (e : Extraction) (outcome : ExtractOutcome) (lengths : List ℕ) (source end : SourceView) (i m i' : InputsView) (s s' : ShelfView) → Visit e.name source end i m i'
    → OfTold source.content (λ file. Extracted file e.plans e.stem outcome lengths s s') → (outcome ≡ outcomes.WriteFault → Rose s.faults s'.faults) → (outcome ≡ outcomes.ReadFault → Rose source.faults end.faults)
    → Extracts e (answered outcome lengths) i i' s s'
extracts_by e outcomes.Done lengths source end i m i' s s' v x write read = so e outcomes.Done lengths source end i m i' s s' v x
extracts_by e (outcomes.Refused fault) lengths source end i m i' s s' v x write read = so e (outcomes.Refused fault) [] source end i m i' s s' v x
extracts_by e (outcomes.NoTrack reader command) lengths source end i m i' s s' v x write read = so e (outcomes.NoTrack reader command) [] source end i m i' s s' v x
extracts_by e (outcomes.BadSample reader track sample at) lengths source end i m i' s s' v x write read = so e (outcomes.BadSample reader track sample at) [] source end i m i' s s' v x
extracts_by e outcomes.ReadFault lengths source end i m i' s s' v x write read =
    (refl, so e outcomes.ReadFault [] source end i m i' s s' v x, faulty e.name source end i m i' v (read refl))
extracts_by e outcomes.WriteFault lengths source end i m i' s s' v x write read = (so e outcomes.WriteFault [] source end i m i' s s' v x, write refl)
extracts_by e outcomes.NoMemory lengths source end i m i' s s' v x write read = inr (so e outcomes.NoMemory [] source end i m i' s s' v x)

pub not_done : (e : Extraction) (r : Result (List ℕ) Status) (i i' : InputsView) (s s' : ShelfView) → Extracts e r i i' s s' → IfErr r (λ status. status ≢ statuses.Done)
not_done e (Ok lengths) i i' s s' x = tt
not_done e (Err status) i i' s s' x = λ is. (let P : Status → Type 0 = λ z. Extracts e (Err z) i i' s s' in subst P is x)

-- ---- the dumps of an extraction that is done

-- this law: what is read out of a file that is a movie is the readout of its bytes
abbrev pub Law : Type 0
Law = (file : List ℕ) (m : Loaded) (plan : List Command) → IsLoaded file m → readout file plan ≡ Ok (read_out file plan (unmoved m))

whole : (r : Readout) → r.refused ≡ None → r ≡ record { dump = r.dump; refused = None }
whole r e = ap (λ (o : Option BadSample). record { dump = r.dump; refused = o }) e

are_read_out : Law → (file : List ℕ) (m : Loaded) (plans : List (List Command)) → IsLoaded file m → AreWhole (readouts file m plans) → AreReadOut file plans (dumps_of (readouts file m plans))
are_read_out law file m [] is w = tt
are_read_out law file m (plan ∷ plans) is w =
    (law file m plan is ∙ ap (λ (r : Readout). Ok r) (whole (read_out file plan (unmoved m)) w.0), are_read_out law file m plans is w.1)

-- what holds of readouts, and of the movie that they are of
of_readouts : (file : List ℕ) (plans : List (List Command)) (P : List Readout → Type 0) (C : Type 0) → OfReadouts file plans P
    → ((m : Loaded) → IsLoaded file m → first_missing (length m.movie.tracks) 0 plans ≡ None → P (readouts file m plans) → C) → C
of_readouts file plans P C y f = f y.0 y.1 y.2 y.3

-- what is said of an extraction that is done, and of one that ends at a refused sample
abbrev DoneOf : Extraction → List ℕ → ShelfView → ShelfView → List Readout → Type 0
DoneOf e lengths s s' rs = AreWhole rs × KeptDumps e.stem (dumps_of rs) s s' × (lengths ≡ map told_length (dumps_of rs))

abbrev RefusedOf : Extraction → ℕ → BadSample → ShelfView → ShelfView → List Readout → Type 0
RefusedOf e reader bad s s' rs = KeptOf e.stem s s' (λ ds. AreUpTo reader bad ds rs)

pub dumps_ok : Law → (e : Extraction) (r : Result (List ℕ) Status) (i i' : InputsView) (s s' : ShelfView) → Extracts e r i i' s s'
    → IfOk r (λ lengths. (file : List ℕ) → i.holds e.name ≡ Some file → ReadsOut file e s s')
dumps_ok law e (Ok lengths) i i' s s' x = λ file told.
    of_readouts file e.plans (DoneOf e lengths s s') (ReadsOut file e s s') (x.extracted file told)
    (λ m is none all. record { dumps = dumps_of (readouts file m e.plans); are = are_read_out law file m e.plans is all.0; kept = all.1 })
dumps_ok law e (Err status) i i' s s' x = tt

-- ---- the answer that the bytes call for

loaded_is : (file : List ℕ) (m : Loaded) → IsLoaded file m → loaded file ≡ Ok m
unfolding loaded
loaded_is file m is = rw (is.movie, is.entries) refl

not_loaded : (file : List ℕ) (fault : MovieFault) → movie file ≡ Err fault → loaded file ≡ Err fault
unfolding loaded
not_loaded file fault e = rw e refl

-- the answer for the plan of a number and those after it, by what is missing in it
next_named : (tracks k : ℕ) (plans : List (List Command)) (o : Option ℕ) (later : Status) → missing_in k o (first_missing tracks (k + 1) plans) ≡ None
    → (first_missing tracks (k + 1) plans ≡ None → by_plans tracks (k + 1) plans later ≡ later) → missing_or k o (by_plans tracks (k + 1) plans later) ≡ later
next_named tracks k plans None later e f = f e
next_named tracks k plans (Some command) later e f = cc

all_named : (tracks k : ℕ) (plans : List (List Command)) (later : Status) → first_missing tracks k plans ≡ None → by_plans tracks k plans later ≡ later
unfolding first_missing
all_named tracks k [] later e = refl
all_named tracks k (plan ∷ plans) later e = next_named tracks k plans (missing_from tracks 0 plan) later e (λ f. all_named tracks (k + 1) plans later f)

some_same : {A : Type 0} (x y : A) → Some x ≡ Some y → x ≡ y
some_same x y e = cc e

next_missing : (tracks k reader command : ℕ) (plans : List (List Command)) (o : Option ℕ) (later : Status) → missing_in k o (first_missing tracks (k + 1) plans) ≡ Some (record { reader = reader; command = command })
    → (first_missing tracks (k + 1) plans ≡ Some (record { reader = reader; command = command }) → by_plans tracks (k + 1) plans later ≡ statuses.PlanRefused reader command)
    → missing_or k o (by_plans tracks (k + 1) plans later) ≡ statuses.PlanRefused reader command
next_missing tracks k reader command plans None later e f = f e
next_missing tracks k reader command plans (Some c) later e f =
    let same = some_same _ _ e in
    let r : k ≡ reader = ap (λ m. m.reader) same in
    let n : c ≡ command = ap (λ m. m.command) same in
    ap (λ (x : ℕ). statuses.PlanRefused x c) r ∙ ap (λ (x : ℕ). statuses.PlanRefused reader x) n

one_missing : (tracks k reader command : ℕ) (plans : List (List Command)) (later : Status) → first_missing tracks k plans ≡ Some (record { reader = reader; command = command })
    → by_plans tracks k plans later ≡ statuses.PlanRefused reader command
unfolding first_missing
one_missing tracks k reader command [] later e = cc
one_missing tracks k reader command (plan ∷ plans) later e =
    next_missing tracks k reader command plans (missing_from tracks 0 plan) later e (λ f. one_missing tracks (k + 1) reader command plans later f)

by_named : (file : List ℕ) (plans : List (List Command)) (m : Loaded) → IsLoaded file m → first_missing (length m.movie.tracks) 0 plans ≡ None → answer_for file plans ≡ by_readouts 0 (readouts file m plans)
by_named file plans m is e = ap (by_movie file plans) (loaded_is file m is) ∙ all_named (length m.movie.tracks) 0 plans (by_readouts 0 (readouts file m plans)) e

by_missing : (file : List ℕ) (plans : List (List Command)) (m : Loaded) (reader command : ℕ) → IsLoaded file m → first_missing (length m.movie.tracks) 0 plans ≡ Some (record { reader = reader; command = command })
    → answer_for file plans ≡ statuses.PlanRefused reader command
by_missing file plans m reader command is e = ap (by_movie file plans) (loaded_is file m is) ∙ one_missing (length m.movie.tracks) 0 reader command plans (by_readouts 0 (readouts file m plans)) e

all_whole : (k : ℕ) (rs : List Readout) → AreWhole rs → by_readouts k rs ≡ statuses.Done
all_whole k [] w = refl
all_whole k (r ∷ rs) w = ap (λ (o : Option BadSample). refused_or k o (by_readouts (k + 1) rs)) w.0 ∙ all_whole (k + 1) rs w.1

first_refused : (k n : ℕ) (bad : BadSample) (ds : List (List ℕ)) (rs : List Readout) → AreUpTo n bad ds rs → by_readouts k rs ≡ statuses.SampleRefused (k + n) bad.track bad.sample bad.at
first_refused k zero bad [] rs up = absurd up
first_refused k zero bad (d ∷ ds) [] up = absurd up
first_refused k zero bad (d ∷ ds) (r ∷ rs) up =
    let here : k ≡ k + 0 = omega arith in
    ap (λ (o : Option BadSample). refused_or k o (by_readouts (k + 1) rs)) up.1 ∙ ap (λ (n : ℕ). statuses.SampleRefused n bad.track bad.sample bad.at) here
first_refused k (suc n) bad [] rs up = absurd up
first_refused k (suc n) bad (d ∷ ds) [] up = absurd up
first_refused k (suc n) bad (d ∷ ds) (r ∷ rs) up =
    let here : (k + 1) + n ≡ k + suc n = omega arith in
    ap (λ (o : Option BadSample). refused_or k o (by_readouts (k + 1) rs)) up.1 ∙ first_refused (k + 1) n bad ds rs up.2 ∙ ap (λ (n : ℕ). statuses.SampleRefused n bad.track bad.sample bad.at) here

-- where nothing failed the answer is the one that the bytes and the plans call for, or want of memory
pub answered_by : (e : Extraction) (r : Result (List ℕ) Status) (i i' : InputsView) (s s' : ShelfView) (file : List ℕ) → Extracts e r i i' s s' → i.holds e.name ≡ Some file
    → (Rose i.misses i'.misses → ⊥) → (Rose i.faults i'.faults → ⊥) → (Rose s.faults s'.faults → ⊥) → Answered r (answer_for file e.plans)
answered_by e (Ok lengths) i i' s s' file x told missed read written =
    of_readouts file e.plans (DoneOf e lengths s s') (statuses.Done ≡ answer_for file e.plans) (x.extracted file told)
    (λ m is none all. sym (by_named file e.plans m is none ∙ all_whole 0 (readouts file m e.plans) all.0))
answered_by e (Err statuses.Done) i i' s s' file x told missed read written = absurd x
answered_by e (Err (statuses.Usage fault)) i i' s s' file x told missed read written = absurd x
answered_by e (Err (statuses.OpenFault input)) i i' s s' file x told missed read written = absurd (missed x.2.failed)
answered_by e (Err (statuses.ReadFault input)) i i' s s' file x told missed read written = absurd (read x.2.failed)
answered_by e (Err statuses.WriteFault) i i' s s' file x told missed read written = absurd (written x.1)
answered_by e (Err (statuses.InputRefused track fault)) i i' s s' file x told missed read written = absurd x
answered_by e (Err (statuses.MovieRefused fault)) i i' s s' file x told missed read written =
    let y = x.extracted file told in
    inr (sym (ap (by_movie file e.plans) (not_loaded file fault y.0)))
answered_by e (Err (statuses.SampleRefused reader track sample at)) i i' s s' file x told missed read written =
    let bad : BadSample = record { track = track; sample = sample; at = at } in
    let here : 0 + reader ≡ reader = omega arith in
    of_readouts file e.plans (RefusedOf e reader bad s s') (Answered {A = List ℕ} (Err (statuses.SampleRefused reader track sample at)) (answer_for file e.plans)) (x.extracted file told)
    (λ m is none all. inr (sym (by_named file e.plans m is none ∙ first_refused 0 reader bad all.0 (readouts file m e.plans) all.2 ∙ ap (λ (n : ℕ). statuses.SampleRefused n track sample at) here)))
answered_by e (Err (statuses.LimitReached limit)) i i' s s' file x told missed read written = absurd x
answered_by e (Err (statuses.PlanRefused reader command)) i i' s s' file x told missed read written =
    let y = x.extracted file told in
    let found = y.0 in
    inr (sym (by_missing file e.plans found.0 reader command found.1 found.2))
answered_by e (Err statuses.NoMemory) i i' s s' file x told missed read written = inl refl

-- ---- words that aren't read

-- what a text shows into which a line was put
pub says_by : (lines : List ℕ) (r : Result (Unit {0}) Denied) (t t' : SinkView) → Puts lines r t t' → Says lines t t'
says_by lines (Ok done) t t' p = inl p
says_by lines (Err denials.Failed) t t' p = inr (inr p)
says_by lines (Err denials.NoMemory) t t' p = inr (inl p)

no_memory : (asked : ExtractAsked) (plans : List (List Command)) (status : Status) (b a : Outside) → status ≡ statuses.NoMemory → a.inputs ≡ b.inputs → a.shelf ≡ b.shelf → Says (line_of status) b.text a.text
    → PlansEnd (extraction asked plans) status b a
no_memory asked plans status b a e inputs shelf says =
    let quiet : Extracts (extraction asked plans) (Err statuses.NoMemory) b.inputs a.inputs b.shelf a.shelf =
    inl (shelf, record { asked = ap (λ (v : InputsView). v.asked) inputs; returned = ap (λ (v : InputsView). v.returned) inputs }) in
    let spare : a.inputs.spare ≡ b.inputs.spare = ap (λ (v : InputsView). v.spare) inputs in
    record {
      ends = inr (record { extracts = subst (λ (z : Status). Extracts (extraction asked plans) (Err z) b.inputs a.inputs b.shelf a.shelf) (sym e) quiet; says = says });
      inputs = record { holds = λ other. ap (λ (v : InputsView). v.holds other) inputs; spare = omega (arith, spare) };
      done = λ is file told. absurd (let wrong : ⊥ = cc in wrong);
      complete = λ file told missed read written put. inl e;
    }

pub ends_unread : (asked : ExtractAsked) (said : Result (List (List Command)) UsageFault) (status : Status) (b a : Outside) → NotRead said status → a.inputs ≡ b.inputs → a.shelf ≡ b.shelf
    → Says (line_of status) b.text a.text → EndsBy asked said status b a
ends_unread asked (Err fault) status b a (inl e) inputs shelf says = record { answer = inr e; inputs = inputs; shelf = shelf; says = says }
ends_unread asked (Err fault) status b a (inr x) inputs shelf says =
    let same : x.0 ≡ fault = (let told = x.1 in cc) in
    record { answer = inl (x.2 ∙ ap (λ (f : UsageFault). statuses.Usage f) same); inputs = inputs; shelf = shelf; says = says }
ends_unread asked (Ok plans) status b a (inl e) inputs shelf says = no_memory asked plans status b a e inputs shelf says
ends_unread asked (Ok plans) status b a (inr x) inputs shelf says = absurd (let told = x.1 in let wrong : ⊥ = cc in wrong)

-- no plans were read from the words that are asked
pub ends_not_read : (asked : ExtractAsked) (words : List (List ℕ)) (status : Status) (b a : Outside) → words ≡ asked.plans → NotRead (plans_from 0 words) status → a.inputs ≡ b.inputs → a.shelf ≡ b.shelf
    → Says (line_of status) b.text a.text → ExtractEnds asked status b a
ends_not_read asked words status b a same unread inputs shelf says =
    ends_unread asked (plans_from 0 asked.plans) status b a (subst (λ (ws : List (List ℕ)). NotRead (plans_from 0 ws) status) same unread) inputs shelf says

-- the plans that the words say were extracted
pub ends_read : (asked : ExtractAsked) (words : List (List ℕ)) (plans : List (List Command)) (status : Status) (b a : Outside) → words ≡ asked.plans → plans_from 0 words ≡ Ok plans
    → PlansEnd (extraction asked plans) status b a → ExtractEnds asked status b a
ends_read asked words plans status b a same e ends =
    let said : plans_from 0 asked.plans ≡ Ok plans = ap (λ (ws : List (List ℕ)). plans_from 0 ws) (sym same) ∙ e in
    subst (λ (r : Result (List (List Command)) UsageFault). EndsBy asked r status b a) (sym said) ends
