-- How the recording of several inputs ends at a header that isn't taken.
use Rattle.std.proofs.Common.{◌≡◌, ℕ, zero, suc, ◌+◌, ◌<◌, ◌⊎◌, List, [], ◌∷◌, ◌++◌, length, map, Option, Some, None, refl, sym, ap, subst, ◌∙◌, inl, inr, arith, length-append}
use Rattle.std.specs.Prelude.{slice_get}
use Rattle.std.proofs.lemmas.List.{length-map}
use Rattle.sf_coded.specs.declared.types.CodedFault.TheVariants.{Magic, Version, KindCode, ConfigTooLong, Truncated, Tag, Empty, TooLong, Trailing, ReadFault as CodedReadFault, NoMemory as CodedNoMemory}
use Rattle.sf_entry.specs.declared.track_setup.TrackSetup.{TrackSetup}
use Rattle.sf_gather.specs.declared.given.Options.{Options}
use Rattle.sf_world.specs.Views.{ShelfView, SourceView}
use Rattle.sf_series.specs.declared.limits.Limits.{Limits}
use Rattle.sf_series.specs.declared.report.Report.{Report}
use Rattle.sf_record.specs.declared.faults.InputFault.{InputFault}
use Rattle.sf_record.specs.declared.faults.InputFault.TheVariants.{Coded, Setup as SetupRefused, Sample as SampleRefused}
use Rattle.sf_record.specs.declared.faults.TrackFault.{TrackFault}
use Rattle.sf_record.specs.declared.headers.Untaken.{Untaken}
use Rattle.sf_record.specs.declared.headers.Untaken.TheVariants.{Fault, NoMemory}
use Rattle.sf_record.specs.declared.serial_end.SerialOutcome.TheVariants.{Refused}
use Rattle.sf_record.specs.Input.{IsOfBytes, read_fault}
use Rattle.sf_record.specs.Pump.{Pumping}
use Rattle.sf_record.specs.Said.{Said, said_in}
use Rattle.sf_record.specs.Serial.{Asked, ComeBack, EndsAtHeader, Gave, HasFault, Opens, SerialEnds, TellsNone, answer_by, asked_for, gave}
use Rattle.sf_record.specs.inner.Finishing.{untaken_as}
use Rattle.sf_record.specs.inner.Headers.{AllOpened, HeadersRead, IsUntaken, StopsAt}
use Rattle.sf_record.proofs.Opened.{opened_long}

-- the fault of a header is a failed read, or lies in the input's bytes
header_own : {track : ℕ} {options : Options} {before after : SourceView} (fault : TrackFault) → HasFault track options before after fault → (fault ≡ read_fault) ⊎ IsOfBytes fault.why
header_own {track} {options} {before} {after} fault has =
    elim has [
      | inl read ↦ read.own
      | inr failed ↦ inl failed.0
    ]

-- a fault that is told as a failed read is one
why_read : (fault : TrackFault) → (fault ≡ read_fault) ⊎ IsOfBytes fault.why → fault.why ≡ Coded CodedReadFault → fault ≡ read_fault
why_read fault own e =
    elim own [
      | inl is ↦ is
      | inr of ↦ absurd (subst (λ (w : InputFault). IsOfBytes w) e of)
    ]

-- a fault that is told as a refusal lies in the input's bytes
why_refused : {asked : Asked} {given : Gave} (number : ℕ) (fault : TrackFault) → (fault ≡ read_fault) ⊎ IsOfBytes fault.why → (fault.why ≡ Coded CodedReadFault → ⊥) → EndsAtHeader asked given number fault
    → SerialEnds asked given (Refused number fault)
why_refused {asked} {given} number fault own not e =
    elim own [
      | inl is ↦ absurd (not (ap (λ (f : TrackFault). f.why) is))
      | inr of ↦ inl (of, e)
    ]

ends_by : {asked : Asked} {given : Gave} (why : InputFault) (number : ℕ) (fault : TrackFault) → (fault ≡ read_fault) ⊎ IsOfBytes fault.why → fault.why ≡ why → EndsAtHeader asked given number fault
    → SerialEnds asked given (answer_by why number fault)
ends_by {asked} {given} (Coded CodedReadFault) number fault own is e = inl (subst (λ (f : TrackFault). EndsAtHeader asked given number f) (why_read fault own is) e)
ends_by {asked} {given} (Coded Magic) number fault own is e = why_refused number fault own (λ read. cc) e
ends_by {asked} {given} (Coded (Version v)) number fault own is e = why_refused number fault own (λ read. cc) e
ends_by {asked} {given} (Coded (KindCode k)) number fault own is e = why_refused number fault own (λ read. cc) e
ends_by {asked} {given} (Coded (ConfigTooLong len)) number fault own is e = why_refused number fault own (λ read. cc) e
ends_by {asked} {given} (Coded (Truncated at)) number fault own is e = why_refused number fault own (λ read. cc) e
ends_by {asked} {given} (Coded (Tag at tag)) number fault own is e = why_refused number fault own (λ read. cc) e
ends_by {asked} {given} (Coded (Empty at)) number fault own is e = why_refused number fault own (λ read. cc) e
ends_by {asked} {given} (Coded (TooLong at len)) number fault own is e = why_refused number fault own (λ read. cc) e
ends_by {asked} {given} (Coded (Trailing at)) number fault own is e = why_refused number fault own (λ read. cc) e
ends_by {asked} {given} (Coded CodedNoMemory) number fault own is e = why_refused number fault own (λ read. cc) e
ends_by {asked} {given} (SetupRefused other) number fault own is e = why_refused number fault own (λ read. cc) e
ends_by {asked} {given} (SampleRefused other) number fault own is e = why_refused number fault own (λ read. cc) e

-- the place between two lists
between : {A : Type 0} (xs ys : List A) (x : A) (n : ℕ) → n ≡ length xs → slice_get (xs ++ x ∷ ys) n ≡ Some x
between {A} [] ys x zero e = refl
between {A} [] ys x (suc n) e = absurd (omega (arith, e))
between {A} (y ∷ xs) ys x zero e = absurd (omega (arith, e))
between {A} (y ∷ xs) ys x (suc n) e = between xs ys x n (omega (arith, e))

-- the headers below are taken
opens_below : (track : ℕ) (options : Options) (before : List SourceView) (setups : List TrackSetup) (pumps : List Pumping) (more : List SourceView) (n : ℕ) (source : SourceView) → AllOpened track options before setups pumps
    → n < length before → slice_get (before ++ more) n ≡ Some source → (setup : TrackSetup) × Opens (track + n) options source.content setup
opens_below track options [] [] [] more n source all less at = absurd (omega (arith, less))
opens_below track options [] [] (p ∷ pumps) more n source all less at = absurd all
opens_below track options [] (s ∷ setups) pumps more n source all less at = absurd all
opens_below track options (b ∷ before) [] pumps more n source all less at = absurd all
opens_below track options (b ∷ before) (s ∷ setups) [] more n source all less at = absurd all
opens_below track options (b ∷ before) (s ∷ setups) (p ∷ pumps) more zero source all less at =
    let here : track ≡ track + 0 = omega arith in
    let is : b ≡ source = cc in
    (s, subst (λ (v : SourceView). Opens (track + 0) options v.content s) is (subst (λ (k : ℕ). Opens k options b.content s) here all.0.opens))
opens_below track options (b ∷ before) (s ∷ setups) (p ∷ pumps) more (suc n) source all less at =
    let here : (track + 1) + n ≡ track + suc n = omega arith in
    let o = opens_below (track + 1) options before setups pumps more n source all.1 (omega (arith, less)) at in
    (o.0, subst (λ (k : ℕ). Opens k options source.content o.0) here o.1)

ends_at : {options : Options} {before : List SourceView} {setups : List TrackSetup} {pumps : List Pumping} {rest : List SourceView} {untaken : Untaken} (limits : Limits) (shelf : ShelfView) (report : Report) (fault : TrackFault) (number : ℕ)
    (s : StopsAt options before setups pumps rest untaken) → number ≡ length pumps → TellsNone (asked_for options limits before shelf) report → HasFault (length s.taken) options s.first s.after fault
    → EndsAtHeader (asked_for options limits before shelf) (gave (map (λ p. p.coded.source) pumps ++ rest) shelf report) number fault
ends_at {options} {before} {setups} {pumps} {rest} {untaken} limits shelf report fault number s is none has =
    let long = opened_long 0 options s.taken setups pumps s.opened in
    let here : number ≡ length s.taken = is ∙ long.1 in
    let sources : List SourceView = map (λ p. p.coded.source) pumps in
    let taken : number ≡ length sources = is ∙ sym (length-map pumps (λ p. p.coded.source)) in
    record {
      below = λ n source less at.
          let at_parts = ap (λ (vs : List SourceView). slice_get vs n) (sym s.parts) ∙ at in
          let o = opens_below 0 options s.taken setups pumps (s.first ∷ s.others) n source s.opened (omega (arith, less, here)) at_parts in
          let zero_n : 0 + n ≡ n = omega arith in
          (o.0, subst (λ (k : ℕ). Opens k options source.content o.0) zero_n o.1);
      before = s.first;
      there = ap (λ (vs : List SourceView). slice_get vs number) s.parts ∙ between s.taken s.others s.first number here;
      after = s.after;
      back = ap (λ (vs : List SourceView). slice_get (sources ++ vs) number) s.left ∙ between sources s.others s.after number taken;
      read = subst (λ (k : ℕ). HasFault k options s.first s.after fault) (sym here) has;
      nothing = refl;
      none = none;
    }

untaken_by : {options : Options} {before : List SourceView} {setups : List TrackSetup} {pumps : List Pumping} {rest : List SourceView} {all : Untaken} (limits : Limits) (shelf : ShelfView) (report : Report) (untaken : Untaken) (number : ℕ)
    (s : StopsAt options before setups pumps rest all) → number ≡ length pumps → TellsNone (asked_for options limits before shelf) report → IsUntaken (length s.taken) options s.first s.after untaken
    → SerialEnds (asked_for options limits before shelf) (gave (map (λ p. p.coded.source) pumps ++ rest) shelf report) (untaken_as number untaken)
untaken_by {options} {before} {setups} {pumps} {rest} {all} limits shelf report (Fault fault) number s is none why =
    ends_by fault.why number fault (header_own fault why) refl (ends_at limits shelf report fault number s is none why)
untaken_by {options} {before} {setups} {pumps} {rest} {all} limits shelf report NoMemory number s is none why = inr (inl (record { made = inl (record { named = refl; kept = refl }); none = none }))

-- how the recording ends where a header isn't taken
pub untaken_ends : {options : Options} {before : List SourceView} {setups : List TrackSetup} {pumps : List Pumping} {rest : List SourceView} {untaken : Untaken} (limits : Limits) (shelf : ShelfView) (report : Report) (number : ℕ)
    → StopsAt options before setups pumps rest untaken → number ≡ length pumps → TellsNone (asked_for options limits before shelf) report
    → SerialEnds (asked_for options limits before shelf) (gave (map (λ p. p.coded.source) pumps ++ rest) shelf report) (untaken_as number untaken)
untaken_ends {options} {before} {setups} {pumps} {rest} {untaken} limits shelf report number s is none = untaken_by limits shelf report untaken number s is none s.why

-- ---- the sources come back

pub same_back : (sources : List SourceView) → ComeBack sources sources
same_back [] = tt
same_back (s ∷ sources) = (record { content = refl; size = refl; later = omega arith }, same_back sources)

pub opened_back : (track : ℕ) (options : Options) (before : List SourceView) (setups : List TrackSetup) (pumps : List Pumping) (more left : List SourceView) → AllOpened track options before setups pumps → ComeBack more left
    → ComeBack (before ++ more) (map (λ p. p.coded.source) pumps ++ left)
opened_back track options [] [] [] more left all back = back
opened_back track options [] [] (p ∷ pumps) more left all back = absurd all
opened_back track options [] (s ∷ setups) pumps more left all back = absurd all
opened_back track options (b ∷ before) [] pumps more left all back = absurd all
opened_back track options (b ∷ before) (s ∷ setups) [] more left all back = absurd all
opened_back track options (b ∷ before) (s ∷ setups) (p ∷ pumps) more left all back = (all.0.source, opened_back (track + 1) options before setups pumps more left all.1 back)

pub stopped_sources : {options : Options} {before : List SourceView} {setups : List TrackSetup} {pumps : List Pumping} {rest : List SourceView} {untaken : Untaken} → StopsAt options before setups pumps rest untaken
    → ComeBack before (map (λ p. p.coded.source) pumps ++ rest)
stopped_sources {options} {before} {setups} {pumps} {rest} {untaken} s =
    subst (λ (vs : List SourceView). ComeBack vs (map (λ p. p.coded.source) pumps ++ rest)) (sym s.parts)
    (subst (λ (vs : List SourceView). ComeBack (s.taken ++ s.first ∷ s.others) (map (λ p. p.coded.source) pumps ++ vs)) (sym s.left)
    (opened_back 0 options s.taken setups pumps (s.first ∷ s.others) (s.after ∷ s.others) s.opened (s.same, same_back s.others)))

-- no header is refused where each is taken
pub none_refused : (track : ℕ) (options : Options) (before : List SourceView) (setups : List TrackSetup) (pumps : List Pumping) (n : ℕ) (source : SourceView) (bytes : List ℕ) → AllOpened track options before setups pumps
    → slice_get before n ≡ Some source → source.content ≡ Some bytes → (said_in (track + n) options bytes).setup ≡ None → ⊥
none_refused track options [] [] [] n source bytes all at told refused = cc
none_refused track options [] [] (p ∷ pumps) n source bytes all at told refused = absurd all
none_refused track options [] (s ∷ setups) pumps n source bytes all at told refused = absurd all
none_refused track options (b ∷ before) [] pumps n source bytes all at told refused = absurd all
none_refused track options (b ∷ before) (s ∷ setups) [] n source bytes all at told refused = absurd all
none_refused track options (b ∷ before) (s ∷ setups) (p ∷ pumps) zero source bytes all at told refused =
    let is : b ≡ source = cc in
    let here : track + 0 ≡ track = omega arith in
    let opens : Opens track options (Some bytes) s = subst (λ (o : Option (List ℕ)). Opens track options o s) (ap (λ (v : SourceView). v.content) is ∙ told) all.0.opens in
    let setup : (said_in track options bytes).setup ≡ Some s = ap (λ (x : Said). x.setup) opens in
    let none : (said_in track options bytes).setup ≡ None = subst (λ (k : ℕ). (said_in k options bytes).setup ≡ None) here refused in
    let wrong : Some s ≡ None = sym setup ∙ none in
    cc
none_refused track options (b ∷ before) (s ∷ setups) (p ∷ pumps) (suc n) source bytes all at told refused =
    let here : track + suc n ≡ (track + 1) + n = omega arith in
    none_refused (track + 1) options before setups pumps n source bytes all.1 at told (subst (λ (k : ℕ). (said_in k options bytes).setup ≡ None) here refused)

-- the pumps and the inputs that are left are as many as the inputs
pub stopped_long : {options : Options} {before : List SourceView} {setups : List TrackSetup} {pumps : List Pumping} {rest : List SourceView} {untaken : Untaken} → StopsAt options before setups pumps rest untaken
    → length pumps + length rest ≡ length before
stopped_long {options} {before} {setups} {pumps} {rest} {untaken} s =
    let long = opened_long 0 options s.taken setups pumps s.opened in
    let left = ap (λ (vs : List SourceView). length vs) s.left in
    let parts = ap (λ (vs : List SourceView). length vs) s.parts in
    omega (arith, long.1, left, parts, length-append s.taken (s.first ∷ s.others))

-- ---- what the headers of inputs come to

-- They are all taken: there is a pump of each input.
pub record AllTaken (options : Options) (before : List SourceView) (inputs : ℕ) (setups : List TrackSetup) (pumps : List Pumping) : Type 0 where
  pub opened : AllOpened 0 options before setups pumps
  pub long : length pumps ≡ inputs

pub all_taken : {S : Type 0} (options : Options) (seen : S → SourceView) (sources : List S) (setups : List TrackSetup) (pumps : List Pumping) (rest : List SourceView) (untaken : Option Untaken)
    → HeadersRead options (map seen sources) setups pumps rest untaken → untaken ≡ None → AllTaken options (map seen sources) (length sources) setups pumps
all_taken {S} options seen sources setups pumps rest untaken read is =
    let all : HeadersRead options (map seen sources) setups pumps rest None = subst (λ (o : Option Untaken). HeadersRead options (map seen sources) setups pumps rest o) is read in
    record { opened = all.0; long = (opened_long 0 options (map seen sources) setups pumps all.0).1 ∙ length-map sources seen }

-- One isn't taken: the pumps and the inputs that are left are as many as the inputs.
pub record OneUntaken (options : Options) (before : List SourceView) (inputs : ℕ) (setups : List TrackSetup) (pumps : List Pumping) (rest : List SourceView) (left : ℕ) (why : Untaken) : Type 0 where
  pub stops : StopsAt options before setups pumps rest why
  pub long : length pumps + left ≡ inputs

pub one_untaken : {S : Type 0} (options : Options) (seen : S → SourceView) (sources : List S) (setups : List TrackSetup) (pumps : List Pumping) (rest : List S) (untaken : Option Untaken) (why : Untaken)
    → HeadersRead options (map seen sources) setups pumps (map seen rest) untaken → untaken ≡ Some why → OneUntaken options (map seen sources) (length sources) setups pumps (map seen rest) (length rest) why
one_untaken {S} options seen sources setups pumps rest untaken why read is =
    let stops : StopsAt options (map seen sources) setups pumps (map seen rest) why = subst (λ (o : Option Untaken). HeadersRead options (map seen sources) setups pumps (map seen rest) o) is read in
    let long = stopped_long stops in
    record { stops = stops; long = omega (arith, long, length-map sources seen, length-map rest seen) }
