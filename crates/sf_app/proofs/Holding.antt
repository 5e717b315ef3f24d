-- What the files of a recording that is done hold.
use Rattle.std.proofs.Common.{◌≡◌, ◌≢◌, ℕ, zero, suc, ◌+◌, ◌<◌, ◌≤◌, ◌⊎◌, nat_lt, Bool, true, false, cond, List, [], ◌∷◌, ◌++◌, length, map, Option, Some, None, Result, Ok, Err, refl, sym, ap, subst, ◌∙◌, inl, inr, append_assoc, arith}
use Rattle.std.specs.Prelude.{get_or, slice_get, IfOk, IfErr}
use Rattle.std.proofs.lemmas.Bool.Decides.{nat_tests}
use Rattle.sf_tick.specs.Samples.{samples_of}
use Rattle.sf_tick.specs.declared.types.Chunk.{Chunk}
use Rattle.sf_tick.specs.declared.types.Stored.{Stored}
use Rattle.sf_coded.specs.declared.types.CodedFault.TheVariants.{Magic, Version, KindCode, ConfigTooLong, Truncated, Tag, Empty, TooLong, Trailing, ReadFault as CodedReadFault, NoMemory as CodedNoMemory}
use Rattle.sf_entry.specs.declared.track_setup.TrackSetup.{TrackSetup}
use Rattle.sf_gather.specs.Chunks.{belongs, chunk_of, chunks, chunks_from}
use Rattle.sf_gather.specs.declared.given.Given.{Given}
use Rattle.sf_gather.specs.declared.given.Options.{Options}
use Rattle.sf_meaning.specs.Joined.{joined}
use Rattle.sf_meaning.specs.Rows.{held_as}
use Rattle.sf_series.specs.declared.report.Report.{Report}
use Rattle.sf_world.specs.Views.{InputsView, ShelfView, SourceView}
use Rattle.sf_record.specs.Input.{given_of}
use Rattle.sf_record.specs.Said.{IsHeld, Said, said_in}
use Rattle.sf_record.specs.Serial.{AllRead, SaysIn, WasRead, answer_by, filled, lists_of, lowest_fault}
use Rattle.sf_record.specs.declared.faults.InputFault.{InputFault}
use Rattle.sf_record.specs.declared.faults.InputFault.TheVariants.{Coded, Setup as SetupRefused, Sample as SampleRefused}
use Rattle.sf_record.specs.declared.faults.TrackFault.{TrackFault}
use Rattle.sf_record.specs.declared.serial_end.SerialOutcome.TheVariants as outcomes
use Rattle.sf_words.specs.declared.command.RecordAsked.{RecordAsked}
use Rattle.sf_app.specs.Lending.{AreGiven}
use Rattle.sf_app.specs.RecordEnds.{HoldsInputs, Performs, Records, options_of}
use Rattle.sf_app.specs.declared.status.Status.{Status}
use Rattle.sf_app.specs.declared.status.Status.TheVariants as statuses
use Rattle.sf_app.proofs.Recording.{source_at}

-- ---- the samples of chunks

no_samples : (ss : List Stored) → nat_lt 0 (length ss) ≡ false → ss ≡ []
no_samples [] e = refl
no_samples (s ∷ ss) e = let wrong : 1 ≤ 0 = grind (arith, nat_tests) in absurd (omega (arith, wrong))

bool_tells : (b : Bool) → (b ≡ true) ⊎ (b ≡ false)
bool_tells true = inl refl
bool_tells false = inr refl

filled_samples : (cs : List Chunk) → samples_of (filled cs) ≡ samples_of cs
filled_samples [] = refl
filled_samples (c ∷ cs) =
    elim (bool_tells (nat_lt 0 (length c.samples))) [
      | inl t ↦ rw t (ap (λ (ss : List Stored). c.samples ++ ss) (filled_samples cs))
      | inr f ↦ rw (f, no_samples c.samples f) (filled_samples cs)
    ]

joined_if : (b : Bool) (h : Chunk) (a c : List Chunk) (all : List Stored) → samples_of a ≡ all → h.samples ++ samples_of c ≡ all → samples_of (cond b a (h ∷ c)) ≡ all
joined_if true h a c all p q = p
joined_if false h a c all p q = q

-- the chunks hold the samples in order
chunks_joined : (given : Given) (number : ℕ) (so_far xs : List Stored) → samples_of (chunks_from given number so_far xs) ≡ so_far ++ xs
chunks_joined given number so_far [] = refl
chunks_joined given number so_far (x ∷ xs) =
    joined_if (belongs given so_far x) (chunk_of given number false so_far) _ _ _
    (chunks_joined given number (so_far ++ x ∷ []) xs ∙ append_assoc so_far (x ∷ []) xs)
    (ap (λ (ss : List Stored). so_far ++ ss) (chunks_joined given (number + 1) (x ∷ []) xs))

-- ---- what was read of an input

-- What was read of the input of a number.
pub record ReadAt (first : ℕ) (options : Options) (reads : List Said) (n : ℕ) (source : SourceView) : Type 0 where
  pub read : Said
  pub there : slice_get reads n ≡ Some read
  pub end : SourceView
  pub was : WasRead (first + n) options source end read

read_at : (first : ℕ) (options : Options) (before after : List SourceView) (reads : List Said) (n : ℕ) (source : SourceView) → AllRead first options before after reads → slice_get before n ≡ Some source
    → ReadAt first options reads n source
read_at first options [] [] [] n source all at = cc
read_at first options [] [] (r ∷ reads) n source all at = absurd all
read_at first options [] (a ∷ after) reads n source all at = absurd all
read_at first options (b ∷ before) [] reads n source all at = absurd all
read_at first options (b ∷ before) (a ∷ after) [] n source all at = absurd all
read_at first options (b ∷ before) (a ∷ after) (r ∷ reads) zero source all at =
    let same : b ≡ source = cc in
    let here : first ≡ first + 0 = omega arith in
    record { read = r; there = refl; end = a; was = subst (λ (k : ℕ). WasRead k options source a r) here (subst (λ (v : SourceView). WasRead first options v a r) same all.0) }
read_at first options (b ∷ before) (a ∷ after) (r ∷ reads) (suc n) source all at =
    let x = read_at (first + 1) options before after reads n source all.1 at in
    let here : (first + 1) + n ≡ first + suc n = omega arith in
    record { read = x.read; there = x.there; end = x.end; was = subst (λ (k : ℕ). WasRead k options source x.end x.read) here x.was }

-- a fault is never told as done
never_done : (why : InputFault) (number : ℕ) (fault : TrackFault) → outcomes.Done ≡ answer_by why number fault → ⊥
never_done (Coded Magic) number fault e = cc
never_done (Coded (Version v)) number fault e = cc
never_done (Coded (KindCode k)) number fault e = cc
never_done (Coded (ConfigTooLong len)) number fault e = cc
never_done (Coded (Truncated at)) number fault e = cc
never_done (Coded (Tag at tag)) number fault e = cc
never_done (Coded (Empty at)) number fault e = cc
never_done (Coded (TooLong at len)) number fault e = cc
never_done (Coded (Trailing at)) number fault e = cc
never_done (Coded CodedReadFault) number fault e = cc
never_done (Coded CodedNoMemory) number fault e = cc
never_done (SetupRefused other) number fault e = cc
never_done (SampleRefused other) number fault e = cc

none_if : (first : ℕ) (o : Option TrackFault) (faults : List (Option TrackFault)) → outcomes.Done ≡ lowest_fault first (o ∷ faults) → (o ≡ None) × (outcomes.Done ≡ lowest_fault (first + 1) faults)
none_if first None faults e = (refl, e)
none_if first (Some fault) faults e = absurd (never_done fault.why first fault e)

no_fault_at : (first : ℕ) (reads : List Said) (n : ℕ) (read : Said) → outcomes.Done ≡ lowest_fault first (map (λ r. r.fault) reads) → slice_get reads n ≡ Some read → read.fault ≡ None
no_fault_at first [] n read e at = cc
no_fault_at first (r ∷ reads) zero read e at =
    let same : r ≡ read = cc in
    subst (λ (x : Said). x.fault ≡ None) same (none_if first r.fault (map (λ r. r.fault) reads) e).0
no_fault_at first (r ∷ reads) (suc n) read e at = no_fault_at (first + 1) reads n read (none_if first r.fault (map (λ r. r.fault) reads) e).1 at

said_told : (track : ℕ) (options : Options) (o : Option (List ℕ)) (bytes : List ℕ) (said : Said) → o ≡ Some bytes → SaysIn track options o said → said ≡ said_in track options bytes
said_told track options o bytes said told says = let P : Option (List ℕ) → Type 0 = λ c. SaysIn track options c said in subst P told says

whole_said : (track : ℕ) (options : Options) (before after : SourceView) (bytes : List ℕ) (read : Said) → before.content ≡ Some bytes → read.fault ≡ None → WasRead track options before after read
    → read ≡ said_in track options bytes
whole_said track options before after bytes read told none w =
    elim w.read_so [
      | inl same ↦ same ∙ said_told track options before.content bytes w.said told w.says
      | inr first ↦ absurd (let wrong : ⊥ = (let fault = first.fault in cc) in wrong)
    ]

-- ---- the chunks of an input

-- The list of the chunks of the input of a number.
pub record ListAt (first : ℕ) (options : Options) (setups : List TrackSetup) (reads : List Said) (n : ℕ) (read : Said) : Type 0 where
  pub setup : TrackSetup
  pub few : n < length setups
  pub list : get_or (lists_of first options setups reads) n [] ≡ filled (chunks (given_of (first + n) setup options) read.samples)

list_at : (first : ℕ) (options : Options) (setups : List TrackSetup) (reads : List Said) (n : ℕ) (read : Said) → map (λ r. r.setup) reads ≡ map Some setups → slice_get reads n ≡ Some read
    → ListAt first options setups reads n read
list_at first options setups [] n read e at = cc
list_at first options [] (r ∷ reads) n read e at = cc
list_at first options (s ∷ setups) (r ∷ reads) zero read e at =
    let same : r ≡ read = cc in
    let here : first ≡ first + 0 = omega arith in
    record {
      setup = s;
      few = omega arith;
      list = ap (λ (x : Said). filled (chunks (given_of first s options) x.samples)) same ∙ ap (λ (k : ℕ). filled (chunks (given_of k s options) read.samples)) here;
    }
list_at first options (s ∷ setups) (r ∷ reads) (suc n) read e at =
    let more : map (λ r. r.setup) reads ≡ map Some setups = cc in
    let x = list_at (first + 1) options setups reads n read more at in
    let here : (first + 1) + n ≡ first + suc n = omega arith in
    let few = x.few in
    record { setup = x.setup; few = omega (arith, few); list = x.list ∙ ap (λ (k : ℕ). filled (chunks (given_of k x.setup options) read.samples)) here }

list_samples : (given : Given) (samples : List Stored) → samples_of (filled (chunks given samples)) ≡ samples
list_samples given samples = filled_samples (chunks given samples) ∙ chunks_joined given 0 [] samples

held_at : (options : Options) (holds : List ℕ → Option (List ℕ)) (names : List (List ℕ)) (sources back : List SourceView) (setups : List TrackSetup) (reads : List Said) (files : List (List ℕ)) (track : ℕ) (name bytes : List ℕ)
    → AreGiven holds names sources → AllRead 0 options sources back reads → map (λ r. r.setup) reads ≡ map Some setups → outcomes.Done ≡ lowest_fault 0 (map (λ r. r.fault) reads)
    → (track < length setups → joined files track ≡ Some (map held_as (samples_of (get_or (lists_of 0 options setups reads) track [])))) → slice_get names track ≡ Some name → holds name ≡ Some bytes
    → IsHeld track (said_in track options bytes) files
held_at options holds names sources back setups reads files track name bytes given all taken done whole at held =
    let x = source_at holds names sources track name given at in
    let y = read_at 0 options sources back reads track x.source all x.there in
    let here : 0 + track ≡ track = omega arith in
    let was : WasRead track options x.source y.end y.read = subst (λ (k : ℕ). WasRead k options x.source y.end y.read) here y.was in
    let none : y.read.fault ≡ None = no_fault_at 0 reads track y.read done y.there in
    let said : y.read ≡ said_in track options bytes = whole_said track options x.source y.end bytes y.read (x.content ∙ held) none was in
    let l = list_at 0 options setups reads track y.read taken y.there in
    record {
      whole = ap (λ (r : Said). r.fault) (sym said) ∙ none;
      held =
          whole l.few ∙ ap (λ (cs : List Chunk). Some (map held_as (samples_of cs))) l.list
          ∙ ap (λ (ss : List Stored). Some (map held_as ss)) (list_samples (given_of (0 + track) l.setup options) y.read.samples ∙ ap (λ (r : Said). r.samples) said);
    }

-- the files of a recording that is done hold the samples of its inputs
pub holds_inputs : (asked : RecordAsked) (report : Report) (i i' : InputsView) (s s' : ShelfView) (before : List (List ℕ)) → Records asked outcomes.Done report i i' s s' → s.files ≡ Some before
    → HoldsInputs asked i before s'
holds_inputs asked report i i' s s' before r told =
    let setups : List TrackSetup = r.ends.0 in
    let reads : List Said = r.ends.1 in
    let all = r.ends.2 in
    let w = all.back before told in
    record {
      files = w.files;
      kept = w.gained.kept;
      held = λ track name bytes at held. held_at (options_of asked) i.holds asked.inputs r.sources r.back setups reads w.files track name bytes r.lent.given all.read all.taken r.ends.3
          (λ lt. w.whole track (subst (λ (ss : List TrackSetup). track < length ss) (sym all.own.0) lt)) at held;
    }

-- what a recording answers before the text: at a report the files hold the inputs, and another answer isn't Done
pub held_ok : (asked : RecordAsked) (result : Result Report Status) (i i' : InputsView) (s s' : ShelfView) → Performs asked result i i' s s'
    → IfOk result (λ report. (before : List (List ℕ)) → s.files ≡ Some before → HoldsInputs asked i before s')
held_ok asked (Ok report) i i' s s' performs = λ before told. holds_inputs asked report i i' s s' before performs told
held_ok asked (Err status) i i' s s' performs = tt

pub not_done : (asked : RecordAsked) (result : Result Report Status) (i i' : InputsView) (s s' : ShelfView) → Performs asked result i i' s s' → IfErr result (λ status. status ≢ statuses.Done)
not_done asked (Ok report) i i' s s' performs = tt
not_done asked (Err status) i i' s s' performs = λ e. (let P : Status → Type 0 = λ x. Performs asked (Err x) i i' s s' in subst P e performs)
