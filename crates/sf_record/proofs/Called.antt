-- Where nothing failed, the answer of a recording is the one that the inputs' bytes call for.
use Rattle.std.proofs.Common.{◌≡◌, ℕ, zero, suc, ◌+◌, ◌<◌, ◌≤◌, ◌⊎◌, Bool, true, false, cond, List, [], ◌∷◌, ◌++◌, length, map, Option, Some, None, refl, sym, ap, subst, ◌∙◌, inl, inr, arith}
use Rattle.std.specs.Prelude.{slice_get}
use Rattle.std.specs.Option.{option_to_list}
use Rattle.sf_coded.specs.declared.types.CodedFault.TheVariants.{Magic, Version, KindCode, ConfigTooLong, Truncated, Tag, Empty, TooLong, Trailing, ReadFault as CodedReadFault, NoMemory as CodedNoMemory}
use Rattle.sf_entry.specs.declared.track_setup.TrackSetup.{TrackSetup}
use Rattle.sf_gather.specs.declared.given.Options.{Options}
use Rattle.sf_world.specs.Counts.{Rose}
use Rattle.sf_world.specs.Views.{SourceView}
use Rattle.sf_series.specs.declared.limits.Limits.{Limits}
use Rattle.sf_series.specs.declared.limits.LimitShown.{LimitShown}
use Rattle.sf_series.specs.declared.limits.LimitShown.TheVariants.{Nothing}
use Rattle.sf_series.specs.Order.{in_order}
use Rattle.sf_series.specs.Switching.{Switched, closed_length, passes, switched}
use Rattle.sf_record.specs.declared.faults.InputFault.{InputFault}
use Rattle.sf_record.specs.declared.faults.InputFault.TheVariants.{Coded, Setup as SetupRefused, Sample as SampleRefused}
use Rattle.sf_record.specs.declared.faults.TrackFault.{TrackFault}
use Rattle.sf_record.specs.declared.serial_end.SerialOutcome.{SerialOutcome}
use Rattle.sf_record.specs.declared.serial_end.SerialOutcome.TheVariants.{Done, WriteFault, Limit, Refused, ReadFault, NoMemory}
use Rattle.sf_record.specs.Input.{IsOfBytes, read_fault}
use Rattle.sf_record.specs.Said.{Said, said_in, without_setup}
use Rattle.sf_record.specs.Serial.{AllRead, Asked, EndsAtHeader, FitsNothing, FollowOrder, Gave, HasFault, Opens, Recorded, RecordsToLimit, SaysIn, SerialEnds, WasRead, answer_by, lists_of, lowest_fault}
use Rattle.sf_record.specs.Called.{RecordsSaid, NoneRose, NothingFailed, TellBytes, after_headers, all_said, answer_for_all, answer_of, called_for, empty_limit, setups_said, unless_met, unless_refused}

-- ---- what is read is what the inputs say

-- what an input says, whose bytes are told
said_told : (track : ℕ) (options : Options) (o : Option (List ℕ)) (bytes : List ℕ) (said : Said) → o ≡ Some bytes → SaysIn track options o said → said ≡ said_in track options bytes
said_told track options o bytes said told says = let P : Option (List ℕ) → Type 0 = λ c. SaysIn track options c said in subst P told says

read_said : (track : ℕ) (options : Options) (before after : SourceView) (bytes : List ℕ) (read : Said) → before.content ≡ Some bytes → (Rose before.faults after.faults → ⊥) → WasRead track options before after read
    → read ≡ said_in track options bytes
read_said track options before after bytes read told not w =
    elim w.read_so [
      | inl same ↦ same ∙ said_told track options before.content bytes w.said told w.says
      | inr first ↦ absurd (not (w.failed first.fault))
    ]

reads_said : (track : ℕ) (options : Options) (before after : List SourceView) (reads : List Said) (inputs : List (List ℕ)) → TellBytes before inputs → NoneRose before after → AllRead track options before after reads
    → reads ≡ all_said track options inputs
reads_said track options [] [] [] [] told not all = refl
reads_said track options [] [] [] (bytes ∷ inputs) told not all = cc
reads_said track options [] [] (r ∷ reads) inputs told not all = absurd all
reads_said track options [] (a ∷ after) reads inputs told not all = absurd all
reads_said track options (b ∷ before) [] reads inputs told not all = absurd all
reads_said track options (b ∷ before) (a ∷ after) [] inputs told not all = absurd all
reads_said track options (b ∷ before) (a ∷ after) (r ∷ reads) [] told not all = cc
reads_said track options (b ∷ before) (a ∷ after) (r ∷ reads) (bytes ∷ inputs) told not all =
    let here : b.content ≡ Some bytes = cc in
    let more : TellBytes before inputs = cc in
    ap (λ (s : Said). s ∷ reads) (read_said track options b a bytes r here not.0 all.0)
    ∙ ap (λ (rs : List Said). said_in track options bytes ∷ rs) (reads_said (track + 1) options before after reads inputs more not.1 all.1)

-- ---- inputs that all have a setup

setups_same : (saids : List Said) (setups : List TrackSetup) → map (λ s. s.setup) saids ≡ map Some setups → setups_said saids ≡ setups
setups_same [] [] e = refl
setups_same [] (s ∷ setups) e = cc
setups_same (said ∷ saids) [] e = cc
setups_same (said ∷ saids) (s ∷ setups) e =
    let here : said.setup ≡ Some s = cc in
    let more : map (λ x. x.setup) saids ≡ map Some setups = cc in
    ap (λ (o : Option TrackSetup). option_to_list o ++ setups_said saids) here ∙ ap (λ (ss : List TrackSetup). s ∷ ss) (setups_same saids setups more)

all_headers : (number : ℕ) (saids : List Said) (setups : List TrackSetup) (answer : SerialOutcome) → map (λ s. s.setup) saids ≡ map Some setups → after_headers number saids answer ≡ answer
all_headers number [] [] answer e = refl
all_headers number [] (s ∷ setups) answer e = cc
all_headers number (said ∷ saids) [] answer e = cc
all_headers number (said ∷ saids) (s ∷ setups) answer e =
    let here : said.setup ≡ Some s = cc in
    let more : map (λ x. x.setup) saids ≡ map Some setups = cc in
    ap (λ (o : Option TrackSetup). unless_refused o said.fault number (after_headers (number + 1) saids answer)) here ∙ all_headers (number + 1) saids setups answer more

-- the answer for inputs with these setups
for_setups : (options : Options) (limits : Limits) (saids : List Said) (setups : List TrackSetup) → map (λ s. s.setup) saids ≡ map Some setups
    → answer_for_all options limits saids ≡ answer_of options limits setups saids
for_setups options limits saids setups e =
    all_headers 0 saids setups (answer_of options limits (setups_said saids) saids) e ∙ ap (λ (ss : List TrackSetup). answer_of options limits ss saids) (setups_same saids setups e)

under_limit : (limits : Limits) (setups : List TrackSetup) → passes limits.max_bytes (closed_length setups []) ≡ false → empty_limit limits setups ≡ None
under_limit limits setups e = ap (λ (b : Bool). cond b (Some (Nothing (closed_length setups []) limits.max_bytes)) None) e

over_limit : (limits : Limits) (setups : List TrackSetup) → passes limits.max_bytes (closed_length setups []) ≡ true → empty_limit limits setups ≡ Some (Nothing (closed_length setups []) limits.max_bytes)
over_limit limits setups e = ap (λ (b : Bool). cond b (Some (Nothing (closed_length setups []) limits.max_bytes)) None) e

-- the answer by the limit that the chunks meet, if any
by_order : {asked : Asked} {given : Gave} (setups : List TrackSetup) (saids : List Said) (limit : Option LimitShown) → FollowOrder asked given setups (lists_of 0 asked.options setups saids) limit
    → answer_of asked.options asked.limits setups saids ≡ unless_met limit (lowest_fault 0 (map (λ s. s.fault) saids))
by_order {asked} {given} setups saids limit follow =
    let lists = lists_of 0 asked.options setups saids in
    ap (λ (o : Option LimitShown). unless_met o (unless_met (switched asked.limits setups (in_order lists)).limit (lowest_fault 0 (map (λ s. s.fault) saids)))) (under_limit asked.limits setups follow.under)
    ∙ ap (λ (s : Switched). unless_met s.limit (lowest_fault 0 (map (λ s. s.fault) saids))) follow.order

-- ---- how a recording ends

recorded_called : {asked : Asked} {given : Gave} (outcome : SerialOutcome) (inputs : List (List ℕ)) → TellBytes asked.sources inputs → NothingFailed asked given → Recorded asked given outcome → outcome ≡ called_for asked.options asked.limits inputs
unfolding called_for
recorded_called {asked} {given} outcome inputs told not rec =
    let setups = rec.0 in
    let reads = rec.1 in
    let same : reads ≡ all_said 0 asked.options inputs = reads_said 0 asked.options asked.sources given.sources reads inputs told not.sources rec.2.read in
    rec.3 ∙ sym (for_setups asked.options asked.limits reads setups rec.2.taken ∙ by_order setups reads None rec.2.follow) ∙ ap (λ (rs : List Said). answer_for_all asked.options asked.limits rs) same

limit_called : {asked : Asked} {given : Gave} (shown : LimitShown) (inputs : List (List ℕ)) → TellBytes asked.sources inputs → NothingFailed asked given → RecordsToLimit asked given shown → Limit shown ≡ called_for asked.options asked.limits inputs
unfolding called_for
limit_called {asked} {given} shown inputs told not rec =
    let was = rec.inputs in
    let same : was.reads ≡ all_said 0 asked.options inputs = reads_said 0 asked.options asked.sources given.sources was.reads inputs told not.sources was.read in
    sym (for_setups asked.options asked.limits was.reads was.setups was.taken ∙ by_order was.setups was.reads (Some shown) rec.follow) ∙ ap (λ (rs : List Said). answer_for_all asked.options asked.limits rs) same

-- an input whose header is taken says its setup
opens_setup : (track : ℕ) (options : Options) (o : Option (List ℕ)) (bytes : List ℕ) (setup : TrackSetup) → o ≡ Some bytes → Opens track options o setup → (said_in track options bytes).setup ≡ Some setup
opens_setup track options o bytes setup told opens =
    let P : Option (List ℕ) → Type 0 = λ c. Opens track options c setup in
    ap (λ (s : Said). s.setup) (subst P told opens)

-- inputs whose headers are all taken say their setups
all_open : (track at : ℕ) (options : Options) (sources : List SourceView) (setups : List TrackSetup) (inputs : List (List ℕ)) → track + 0 ≡ at → length setups ≡ length sources → TellBytes sources inputs
    → ((number : ℕ) (source : SourceView) (setup : TrackSetup) → slice_get sources number ≡ Some source → slice_get setups number ≡ Some setup → Opens (track + number) options source.content setup)
    → map (λ s. s.setup) (all_said at options inputs) ≡ map Some setups
all_open track at options [] [] [] here long told opens = refl
all_open track at options [] [] (bytes ∷ inputs) here long told opens = cc
all_open track at options [] (t ∷ setups) inputs here long told opens = absurd (omega (arith, long))
all_open track at options (s ∷ sources) [] inputs here long told opens = absurd (omega (arith, long))
all_open track at options (s ∷ sources) (t ∷ setups) [] here long told opens = cc
all_open track at options (s ∷ sources) (t ∷ setups) (bytes ∷ inputs) here long told opens =
    let first : s.content ≡ Some bytes = cc in
    let more : TellBytes sources inputs = cc in
    let one : Opens at options s.content t = subst (λ (n : ℕ). Opens n options s.content t) here (opens 0 s t refl refl) in
    let next : (at + 1) + 0 ≡ at + 1 = omega arith in
    ap (λ (o : Option TrackSetup). o ∷ map (λ x. x.setup) (all_said (at + 1) options inputs)) (opens_setup at options s.content bytes t first one)
    ∙ ap (λ (os : List (Option TrackSetup)). Some t ∷ os)
    (all_open (at + 1) (at + 1) options sources setups inputs next (omega (arith, long)) more
    (λ number source setup there found. let e : track + suc number ≡ (at + 1) + number = omega (arith, here) in
    subst (λ (n : ℕ). Opens n options source.content setup) e (opens (suc number) source setup there found)))

nothing_called : {asked : Asked} {given : Gave} (shown : LimitShown) (inputs : List (List ℕ)) → TellBytes asked.sources inputs → FitsNothing asked given shown → Limit shown ≡ called_for asked.options asked.limits inputs
unfolding called_for
nothing_called {asked} {given} shown inputs told f =
    let saids = all_said 0 asked.options inputs in
    let opens : (number : ℕ) (source : SourceView) (setup : TrackSetup) → slice_get asked.sources number ≡ Some source → slice_get f.setups number ≡ Some setup → Opens (0 + number) asked.options source.content setup =
    λ number source setup there found. let e : number ≡ 0 + number = omega arith in subst (λ (n : ℕ). Opens n asked.options source.content setup) e (f.opens number source setup there found) in
    let all : map (λ s. s.setup) saids ≡ map Some f.setups = all_open 0 0 asked.options asked.sources f.setups inputs (omega arith) f.one_each told opens in
    ap (λ (x : LimitShown). Limit x) f.passed.numbers
    ∙ sym (for_setups asked.options asked.limits saids f.setups all
    ∙ ap (λ (o : Option LimitShown). unless_met o (unless_met (switched asked.limits f.setups (in_order (lists_of 0 asked.options f.setups saids))).limit (lowest_fault 0 (map (λ s. s.fault) saids))))
    (over_limit asked.limits f.setups f.passed.passed))

-- a fault of bytes is told as a refusal
pub refused_by : (why : InputFault) (number : ℕ) (fault : TrackFault) → IsOfBytes why → answer_by why number fault ≡ Refused number fault
refused_by (Coded Magic) number fault of = refl
refused_by (Coded (Version v)) number fault of = refl
refused_by (Coded (KindCode k)) number fault of = refl
refused_by (Coded (ConfigTooLong len)) number fault of = refl
refused_by (Coded (Truncated at)) number fault of = refl
refused_by (Coded (Tag at tag)) number fault of = refl
refused_by (Coded (Empty at)) number fault of = refl
refused_by (Coded (TooLong at len)) number fault of = refl
refused_by (Coded (Trailing at)) number fault of = refl
refused_by (Coded CodedReadFault) number fault of = absurd of
refused_by (Coded CodedNoMemory) number fault of = absurd of
refused_by (SetupRefused other) number fault of = refl
refused_by (SampleRefused other) number fault of = refl

-- the fault of a header that was read is one of its bytes, and the input says so
pub record SaysFault (track : ℕ) (options : Options) (before : SourceView) (bytes : List ℕ) (fault : TrackFault) : Type 0 where
  pub says : said_in track options bytes ≡ without_setup (Some fault)
  pub of : IsOfBytes fault.why

has_said : {track : ℕ} {options : Options} {before after : SourceView} (bytes : List ℕ) (fault : TrackFault) → before.content ≡ Some bytes → (Rose before.faults after.faults → ⊥) → HasFault track options before after fault
    → SaysFault track options before bytes fault
has_said {track} {options} {before} {after} bytes fault told not has =
    elim has [
      | inl read ↦ (record {
        says = sym (read_said track options before after bytes (without_setup (Some fault)) told not read);
        of = elim read.own [
          | inl is ↦ absurd (not (read.failed (ap (λ (f : TrackFault). Some f) is)))
          | inr of ↦ of
        ];
      })
      | inr failed ↦ absurd (not failed.1)
    ]

none_at : (before after : List SourceView) (n : ℕ) (b a : SourceView) → NoneRose before after → slice_get before n ≡ Some b → slice_get after n ≡ Some a → Rose b.faults a.faults → ⊥
none_at [] after n b a not at back rose = cc
none_at (x ∷ before) [] n b a not at back rose = cc
none_at (x ∷ before) (y ∷ after) zero b a not at back rose =
    let first : x ≡ b = cc in
    let last : y ≡ a = cc in
    not.0 (subst (λ (v : SourceView). Rose v.faults y.faults) (sym first) (subst (λ (v : SourceView). Rose b.faults v.faults) (sym last) rose))
none_at (x ∷ before) (y ∷ after) (suc n) b a not at back rose = none_at before after n b a not.1 at back rose

-- the bytes of a source that is told
bytes_at : (sources : List SourceView) (inputs : List (List ℕ)) (n : ℕ) (source : SourceView) → TellBytes sources inputs → slice_get sources n ≡ Some source → (bytes : List ℕ) × (source.content ≡ Some bytes)
bytes_at [] inputs n source told at = cc
bytes_at (s ∷ sources) [] n source told at = cc
bytes_at (s ∷ sources) (bytes ∷ inputs) zero source told at =
    let here : s.content ≡ Some bytes = cc in
    let is : s ≡ source = cc in
    (bytes, ap (λ (v : SourceView). v.content) (sym is) ∙ here)
bytes_at (s ∷ sources) (bytes ∷ inputs) (suc n) source told at = let more : TellBytes sources inputs = cc in bytes_at sources inputs n source more at

-- the first header that isn't taken
header_at : (track at k : ℕ) (options : Options) (sources : List SourceView) (inputs : List (List ℕ)) (before : SourceView) (bytes : List ℕ) (fault : TrackFault) (answer : SerialOutcome) → at + k ≡ track → TellBytes sources inputs
    → ((number : ℕ) (source : SourceView) → number < k → slice_get sources number ≡ Some source → (setup : TrackSetup) × Opens (at + number) options source.content setup)
    → slice_get sources k ≡ Some before → before.content ≡ Some bytes → said_in track options bytes ≡ without_setup (Some fault) → after_headers at (all_said at options inputs) answer ≡ answer_by fault.why track fault
header_at track at k options [] inputs before bytes fault answer here told below there content says = cc
header_at track at k options (s ∷ sources) [] before bytes fault answer here told below there content says = cc
header_at track at zero options (s ∷ sources) (first ∷ inputs) before bytes fault answer here told below there content says =
    let is : s ≡ before = cc in
    let told_here : s.content ≡ Some first = cc in
    let same : Some first ≡ Some bytes = sym told_here ∙ ap (λ (v : SourceView). v.content) is ∙ content in
    let bytes_same : first ≡ bytes = cc in
    let at_same : at ≡ track = omega (arith, here) in
    let said : said_in at options first ≡ without_setup (Some fault) =
    ap (λ (b : List ℕ). said_in at options b) bytes_same ∙ ap (λ (n : ℕ). said_in n options bytes) at_same ∙ says in
    ap (λ (x : Said). unless_refused x.setup x.fault at (after_headers (at + 1) (all_said (at + 1) options inputs) answer)) said ∙ ap (λ (n : ℕ). answer_by fault.why n fault) at_same
header_at track at (suc k) options (s ∷ sources) (first ∷ inputs) before bytes fault answer here told below there content says =
    let told_here : s.content ≡ Some first = cc in
    let more : TellBytes sources inputs = cc in
    let zero_at : at + 0 ≡ at = omega arith in
    let open_here = below 0 s (omega arith) refl in
    let opens : Opens at options s.content open_here.0 = subst (λ (n : ℕ). Opens n options s.content open_here.0) zero_at open_here.1 in
    ap (λ (o : Option TrackSetup). unless_refused o (said_in at options first).fault at (after_headers (at + 1) (all_said (at + 1) options inputs) answer)) (opens_setup at options s.content first open_here.0 told_here opens)
    ∙ header_at track (at + 1) k options sources inputs before bytes fault answer (omega (arith, here)) more
    (λ number source less found. let o = below (suc number) source (omega (arith, less)) found in let e : at + suc number ≡ (at + 1) + number = omega arith in
    (o.0, subst (λ (n : ℕ). Opens n options source.content o.0) e o.1)) there content says

header_called : {asked : Asked} {given : Gave} (track : ℕ) (fault : TrackFault) (inputs : List (List ℕ)) → TellBytes asked.sources inputs → NothingFailed asked given → EndsAtHeader asked given track fault
    → (Refused track fault ≡ called_for asked.options asked.limits inputs) × IsOfBytes fault.why
unfolding called_for
header_called {asked} {given} track fault inputs told not e =
    let b = bytes_at asked.sources inputs track e.before told e.there in
    let none = none_at asked.sources given.sources track e.before e.after not.sources e.there e.back in
    let says = has_said b.0 fault b.1 none e.read in
    let zero_track : 0 + track ≡ track = omega arith in
    let saids = all_said 0 asked.options inputs in (
      sym (header_at track 0 track asked.options asked.sources inputs e.before b.0 fault (answer_of asked.options asked.limits (setups_said saids) saids) zero_track told
          (λ number source less found. let o = e.below number source less found in let e : number ≡ 0 + number = omega arith in (o.0, subst (λ (n : ℕ). Opens n asked.options source.content o.0) e o.1))
          e.there b.1 says.says
          ∙ refused_by fault.why track fault says.of),
      says.of,
    )

-- where nothing failed, a recording ends as the bytes of its inputs call for
pub ends_called : {asked : Asked} {given : Gave} (outcome : SerialOutcome) (inputs : List (List ℕ)) → SerialEnds asked given outcome → TellBytes asked.sources inputs → NothingFailed asked given
    → (outcome ≡ NoMemory) ⊎ (outcome ≡ called_for asked.options asked.limits inputs)
ends_called {asked} {given} Done inputs ends told not = inr (recorded_called Done inputs told not ends)
ends_called {asked} {given} WriteFault inputs ends told not = absurd (not.shelf ends.0)
ends_called {asked} {given} (Limit shown) inputs (inl nothing) told not = inr (nothing_called shown inputs told nothing)
ends_called {asked} {given} (Limit shown) inputs (inr rec) told not = inr (limit_called shown inputs told not rec)
ends_called {asked} {given} (Refused track fault) inputs (inl header) told not = inr (header_called track fault inputs told not header.1).0
ends_called {asked} {given} (Refused track fault) inputs (inr rec) told not = inr (recorded_called (Refused track fault) inputs told not rec)
ends_called {asked} {given} (ReadFault input) inputs (inl header) told not = absurd (header_called input read_fault inputs told not header).1
ends_called {asked} {given} (ReadFault input) inputs (inr rec) told not = inr (recorded_called (ReadFault input) inputs told not rec)
ends_called {asked} {given} NoMemory inputs ends told not = inl refl

-- where nothing failed and all is recorded, what was recorded is what the inputs say
pub said_recorded : {asked : Asked} {given : Gave} (outcome : SerialOutcome) (inputs : List (List ℕ)) → outcome ≡ Done → SerialEnds asked given outcome → TellBytes asked.sources inputs → NothingFailed asked given
    → RecordsSaid asked given inputs
said_recorded {asked} {given} outcome inputs done ends told not =
    let rec : Recorded asked given Done = subst (SerialEnds asked given) done ends in
    let setups = rec.0 in
    let reads = rec.1 in
    let same : reads ≡ all_said 0 asked.options inputs = reads_said 0 asked.options asked.sources given.sources reads inputs told not.sources rec.2.read in
    record {
      setups = setups;
      taken = ap (λ (rs : List Said). map (λ s. s.setup) rs) (sym same) ∙ rec.2.taken;
      follow = subst (λ (rs : List Said). FollowOrder asked given setups (lists_of 0 asked.options setups rs) None) same rec.2.follow;
    }

pub never_rose : (a b : ℕ) → a ≡ 0 → b ≡ 0 → Rose a b → ⊥
never_rose a b x y rose = let wrong : 1 ≤ 0 = omega (arith, x, y, rose) in omega (arith, wrong)

-- no count rises of sources that never fail
pub none_risen : {A : Type 0} (f : A → SourceView) (xs ys : List A) → ((x : A) → (f x).faults ≡ 0) → NoneRose (map f xs) (map f ys)
none_risen {A} f [] ys never = tt
none_risen {A} f (x ∷ xs) [] never = tt
none_risen {A} f (x ∷ xs) (y ∷ ys) never = (never_rose (f x).faults (f y).faults (never x) (never y), none_risen f xs ys never)
