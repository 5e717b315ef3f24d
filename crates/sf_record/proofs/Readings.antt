-- What was read of the inputs of pumps, of which all that was taken was handed to a series.
use Rattle.std.proofs.Common.{◌≡◌, ℕ, zero, suc, ◌+◌, ◌<◌, ◌⊎◌, Bool, true, false, cond, List, [], ◌∷◌, ◌++◌, length, map, Option, Some, None, refl, sym, ap, subst, ◌∙◌, inl, inr, arith, append-nil, append_assoc}
use Rattle.std.specs.Prelude.{get_or, replicate, slice_get, nat_lt, IfSome}
use Rattle.std.specs.List.{AllByRecursion}
use Rattle.std.specs.Option.{option_to_list}
use Rattle.std.proofs.lemmas.List.{get_or-replicate}
use Rattle.std.proofs.lemmas.List.Elements.{filter-append}
use Rattle.sf_tick.specs.declared.types.Chunk.{Chunk}
use Rattle.sf_tick.specs.declared.types.Stored.{Stored}
use Rattle.sf_world.specs.Counts.{Rose}
use Rattle.sf_world.specs.Views.{SourceView}
use Rattle.sf_entry.specs.declared.track_setup.TrackSetup.{TrackSetup}
use Rattle.sf_gather.specs.declared.given.Given.{Given}
use Rattle.sf_gather.specs.declared.given.Options.{Options}
use Rattle.sf_gather.specs.Chunks.{belongs, chunks, chunks_from, closed}
use Rattle.sf_gather.specs.Proper.{OnlyLastMarked, ends_marked}
use Rattle.sf_gather.specs.Gathered.{Gathered}
use Rattle.sf_gather.proofs.GatherLaws.{closed_first}
use Rattle.sf_interleave.specs.Waiting.{list_of}
use Rattle.sf_series.specs.Core.{State}
use Rattle.sf_record.specs.declared.faults.TrackFault.{TrackFault}
use Rattle.sf_record.specs.Input.{IsFront, IsOfBytes, OfInput, Taken, ended, given_of, input_of, read_fault, with_front}
use Rattle.sf_record.specs.Pump.{Ended, Gathers, Pumping, Works, given_chunks}
use Rattle.sf_record.specs.Reading.{EndsBy}
use Rattle.sf_record.specs.Said.{Said, behind_header, said_in}
use Rattle.sf_record.specs.Serial.{AllRead, FirstOf, Opens, SaysIn, WasRead, filled, lists_of}
use Rattle.sf_record.specs.inner.Deal.{Hands, HandsFirst, IsOver, PumpOver, PumpsOver}
use Rattle.sf_record.specs.inner.Headers.{AllOpened, IsOpened}
use Rattle.sf_record.proofs.Counted.{rose_behind}
use Rattle.sf_record.proofs.Handing.{bool_tells, unmarked_from}
use Rattle.sf_record.proofs.Inputs.{reads_front}
use Rattle.sf_record.proofs.OfBytes.{input_of_bytes}

-- what was read of the input of a track with this setup
abbrev pub as_read : TrackSetup → List Stored → Option TrackFault → Said
as_read setup samples fault = record { setup = Some setup; samples = samples; fault = fault }

-- something that an input says of which this was read
abbrev pub SaidFor : ℕ → Options → Option (List ℕ) → Said → Type 0
SaidFor track options contents read = (said : Said) × SaysIn track options contents said × ((read ≡ said) ⊎ FirstOf said read)

whole_said : (track : ℕ) (options : Options) (bytes : List ℕ) (setup : TrackSetup) (accepted : List Stored) (fault : Option TrackFault) → Opens track options (Some bytes) setup
    → input_of (given_of track setup options) bytes ≡ with_front accepted (ended fault) → as_read setup accepted fault ≡ said_in track options bytes
whole_said track options bytes setup accepted fault opens is =
    ap (λ (ss : List Stored). as_read setup ss fault) (sym (append-nil accepted)) ∙ sym (opens ∙ ap (λ (t : Taken). behind_header setup t) is)

ends_said : (contents : Option (List ℕ)) (track : ℕ) (options : Options) (setup : TrackSetup) (accepted : List Stored) (fault : Option TrackFault) → Opens track options contents setup
    → EndsBy contents (given_of track setup options) accepted fault → SaidFor track options contents (as_read setup accepted fault)
ends_said None track options setup accepted fault opens ends = (as_read setup accepted fault, tt, inl refl)
ends_said (Some bytes) track options setup accepted None opens ends = (said_in track options bytes, refl, inl (whole_said track options bytes setup accepted None opens ends))
ends_said (Some bytes) track options setup accepted (Some fault) opens (inr exact) = (said_in track options bytes, refl, inl (whole_said track options bytes setup accepted (Some fault) opens exact.1))
ends_said (Some bytes) track options setup accepted (Some fault) opens (inl failed) = (
  said_in track options bytes,
  refl,
  inr (record {
    setup = sym (ap (λ (s : Said). s.setup) opens);
    fault = ap (λ (f : TrackFault). Some f) failed.0;
    rest = failed.1.0;
    samples = ap (λ (s : Said). s.samples) opens ∙ failed.1.1;
  }),
)

ends_own : (contents : Option (List ℕ)) (given : Given) (accepted : List Stored) (fault : Option TrackFault) → EndsBy contents given accepted fault → IfSome fault (λ f. (f ≡ read_fault) ⊎ IsOfBytes f.why)
ends_own contents given accepted None ends = tt
ends_own contents given accepted (Some fault) (inl failed) = inl failed.0
ends_own contents given accepted (Some fault) (inr exact) = inr exact.0

-- All that an input says was read of it, up to its end or its fault, and was handed.
pub record IsRead (track : ℕ) (options : Options) (before : SourceView) (setup : TrackSetup) (state : State) (pump : Pumping) : Type 0 where
  pub read : Said
  pub was : WasRead track options before pump.coded.source read
  pub own : read.setup ≡ Some setup
  pub fault : read.fault ≡ pump.fault
  pub all : list_of state.handed track ≡ filled (chunks (given_of track setup options) read.samples)

-- a fault that a pump keeps since its input was opened
since_opened : {track : ℕ} {options : Options} {before : SourceView} {setup : TrackSetup} {first pump : Pumping} → IsOpened track options before setup first → PumpOver first pump
    → pump.fault ≡ Some read_fault → Rose before.faults pump.coded.source.faults
since_opened {track} {options} {before} {setup} {first} {pump} opened over is =
    elim (over.failed is) [
      | inl was ↦ (let wrong : None ≡ Some read_fault = sym opened.fault ∙ was in cc)
      | inr rose ↦ rose_behind _ _ _ opened.source.later rose
    ]

pub over_read : {track : ℕ} {options : Options} {before : SourceView} {setup : TrackSetup} {first pump : Pumping} {state : State} → IsOpened track options before setup first → PumpOver first pump
    → Hands pump.coded.source.content track setup.scale state pump → IsOver pump → IsRead track options before setup state pump
over_read {track} {options} {before} {setup} {first} {pump} {state} opened over hands is =
    let contents : Option (List ℕ) = pump.coded.source.content in
    let accepted : List Stored = hands.goes.0 in
    let given : Given = given_of track setup options in
    let gave : List Chunk = given_chunks hands.taken pump in
    let told : contents ≡ before.content = over.source.content ∙ opened.source.content in
    let own : pump.given ≡ given = over.given ∙ opened.given in
    let ended : Ended contents accepted gave pump = subst (λ (o : Option Gathered). Works contents accepted gave pump o) is.last hands.goes.1.works in
    let ends : EndsBy contents pump.given accepted pump.fault = ended.ends (over.live (inl opened.live)) in
    let ends_so : EndsBy before.content given accepted pump.fault =
    subst (λ (g : Given). EndsBy before.content g accepted pump.fault) own (subst (λ (c : Option (List ℕ)). EndsBy c pump.given accepted pump.fault) told ends) in
    let said = ends_said before.content track options setup accepted pump.fault opened.opens ends_so in
    let taken : hands.taken ≡ chunks pump.given accepted = sym (append-nil hands.taken) ∙ ap (λ (o : Option Chunk). hands.taken ++ option_to_list o) (sym is.free) ∙ ended.chunks in
    record {
      read = as_read setup accepted pump.fault;
      was = record {
        said = said.0;
        says = said.1;
        read_so = said.2;
        failed = since_opened opened over;
        own = ends_own before.content given accepted pump.fault ends_so;
      };
      own = refl;
      fault = refl;
      all = hands.handed ∙ ap (λ (cs : List Chunk). filled cs) (taken ∙ ap (λ (g : Given). chunks g accepted) own);
    }

-- All that several inputs say was read of them, and was handed.
pub record AreRead (track : ℕ) (options : Options) (before : List SourceView) (setups : List TrackSetup) (state : State) (pumps : List Pumping) : Type 0 where
  pub reads : List Said
  pub read : AllRead track options before (map (λ p. p.coded.source) pumps) reads
  pub taken : map (λ r. r.setup) reads ≡ map Some setups
  pub faults : map (λ r. r.fault) reads ≡ map (λ p. p.fault) pumps
  pub lists : (n : ℕ) → n < length setups → list_of state.handed (track + n) ≡ list_of (lists_of track options setups reads) n

-- of the pumps of tracks that are numbered from here on, all was handed
abbrev pub AllHanded : ℕ → List TrackSetup → State → List Pumping → Type 0
AllHanded track setups state pumps = (n : ℕ) (setup : TrackSetup) (pump : Pumping) → slice_get setups n ≡ Some setup → slice_get pumps n ≡ Some pump
    → Hands pump.coded.source.content (track + n) setup.scale state pump × IsOver pump

pub hands_at : {contents : Option (List ℕ)} {a b scale : ℕ} {state : State} {pump : Pumping} → a ≡ b → Hands contents a scale state pump → Hands contents b scale state pump
hands_at {contents} {a} {b} {scale} {state} {pump} e h = subst (λ (n : ℕ). Hands contents n scale state pump) e h

lists_next : {x : List Chunk} {long : ℕ} (state : State) (xs : List (List Chunk)) (track : ℕ) → list_of state.handed track ≡ x → ((m : ℕ) → m < long → list_of state.handed ((track + 1) + m) ≡ list_of xs m)
    → (n : ℕ) → n < suc long → list_of state.handed (track + n) ≡ list_of (x ∷ xs) n
lists_next {x} {long} state xs track here more zero less = let e : track + 0 ≡ track = omega arith in ap (λ (k : ℕ). list_of state.handed k) e ∙ here
lists_next {x} {long} state xs track here more (suc m) less = let e : track + suc m ≡ (track + 1) + m = omega arith in ap (λ (k : ℕ). list_of state.handed k) e ∙ more m (omega (arith, less))

pub all_read : (track : ℕ) (options : Options) (before : List SourceView) (setups : List TrackSetup) (state : State) (firsts pumps : List Pumping) → AllOpened track options before setups firsts → PumpsOver firsts pumps
    → AllHanded track setups state pumps → AreRead track options before setups state pumps
all_read track options [] [] state [] [] all over handed = record { reads = []; read = tt; taken = refl; faults = refl; lists = λ n less. absurd (omega (arith, less)) }
all_read track options [] [] state [] (p ∷ pumps) all over handed = absurd over
all_read track options [] [] state (f ∷ firsts) pumps all over handed = absurd all
all_read track options [] (s ∷ setups) state firsts pumps all over handed = absurd all
all_read track options (b ∷ before) [] state firsts pumps all over handed = absurd all
all_read track options (b ∷ before) (s ∷ setups) state [] pumps all over handed = absurd all
all_read track options (b ∷ before) (s ∷ setups) state (f ∷ firsts) [] all over handed = absurd over
all_read track options (b ∷ before) (s ∷ setups) state (f ∷ firsts) (p ∷ pumps) all over handed =
    let here = handed 0 s p refl refl in
    let one : IsRead track options b s state p = over_read all.0 over.0 (hands_at (omega arith) here.0) here.1 in
    let more : AreRead (track + 1) options before setups state pumps =
    all_read (track + 1) options before setups state firsts pumps all.1 over.1 (λ n setup pump at there. let h = handed (suc n) setup pump at there in (hands_at (omega arith) h.0, h.1)) in
    record {
      reads = one.read ∷ more.reads;
      read = (one.was, more.read);
      taken = ap (λ (o : Option TrackSetup). o ∷ map (λ r. r.setup) more.reads) one.own ∙ ap (λ (os : List (Option TrackSetup)). Some s ∷ os) more.taken;
      faults = ap (λ (o : Option TrackFault). o ∷ map (λ r. r.fault) more.reads) one.fault ∙ ap (λ (os : List (Option TrackFault)). p.fault ∷ os) more.faults;
      lists = lists_next state (lists_of (track + 1) options setups more.reads) track one.all more.lists;
    }

-- ---- pumps that go on

filled_split : (xs ys : List Chunk) → filled (xs ++ ys) ≡ filled xs ++ filled ys
filled_split xs ys = filter-append (λ (c : Chunk). nat_lt 0 (length c.samples)) xs ys

-- the chunks of samples are of their track
theirs_from : (given : Given) (number : ℕ) (so_far samples : List Stored) → AllByRecursion (λ c. c.track ≡ given.track) (chunks_from given number so_far samples)
theirs_from given number so_far [] = (refl, tt)
theirs_from given number so_far (next ∷ rest) =
    elim (bool_tells (belongs given so_far next)) [
      | inl t ↦ rw t (theirs_from given number (so_far ++ next ∷ []) rest)
      | inr f ↦ rw f (refl, theirs_from given (number + 1) (next ∷ []) rest)
    ]

theirs_after : (track : ℕ) (xs ys : List Chunk) → AllByRecursion (λ c. c.track ≡ track) (xs ++ ys) → AllByRecursion (λ c. c.track ≡ track) ys
theirs_after track [] ys all = all
theirs_after track (x ∷ xs) ys all = theirs_after track xs ys all.1

theirs_if : (b : Bool) (track : ℕ) (c : Chunk) (cs : List Chunk) → c.track ≡ track → AllByRecursion (λ d. d.track ≡ track) cs → AllByRecursion (λ d. d.track ≡ track) (cond b (c ∷ cs) cs)
theirs_if true track c cs one all = (one, all)
theirs_if false track c cs one all = all

theirs_filled : (track : ℕ) (cs : List Chunk) → AllByRecursion (λ c. c.track ≡ track) cs → AllByRecursion (λ c. c.track ≡ track) (filled cs)
theirs_filled track [] all = tt
theirs_filled track (c ∷ cs) all = theirs_if (nat_lt 0 (length c.samples)) track c (filled cs) all.0 (theirs_filled track cs all.1)

-- a list isn't marked at its end where none of its chunks is
unmarked_front : (cs more : List Chunk) → AllByRecursion (λ c. c.last ≡ false) (cs ++ more) → ends_marked cs ≡ false
unmarked_front [] more all = refl
unmarked_front (c ∷ []) more all = all.0
unmarked_front (c ∷ d ∷ cs) more all = unmarked_front (d ∷ cs) more all.1

marks_open : (cs : List Chunk) (d : Chunk) → OnlyLastMarked (cs ++ d ∷ []) → ends_marked cs ≡ false
marks_open [] d all = refl
marks_open (c ∷ []) d all = all.0
marks_open (c ∷ f ∷ cs) d all = marks_open (f ∷ cs) d all.1

-- no chunk is held after the last one
none_held : (taken : List Chunk) (o : Option Chunk) → OnlyLastMarked (taken ++ option_to_list o) → ends_marked taken ≡ true → filled (option_to_list o) ≡ []
none_held taken None mark e = refl
none_held taken (Some c) mark e = let wrong : true ≡ false = sym e ∙ marks_open taken c mark in cc

-- What an input says is known, of which the chunks that were handed are the first.
pub record IsFirst (track : ℕ) (options : Options) (before : SourceView) (setup : TrackSetup) (state : State) (pump : Pumping) : Type 0 where
  pub read : Said
  pub was : WasRead track options before pump.coded.source read
  pub own : read.setup ≡ Some setup
  pub rest : List Chunk
  pub first : filled (chunks (given_of track setup options) read.samples) ≡ list_of state.handed track ++ rest
  pub theirs : AllByRecursion (λ c. c.track ≡ track) rest
  pub none : get_or state.marks track false ≡ true → rest ≡ []

-- an input that says all of what was read of it so far, and more
front_said : (contents : Option (List ℕ)) (track : ℕ) (options : Options) (setup : TrackSetup) (accepted : List Stored) → Opens track options contents setup → OfInput contents (given_of track setup options) (IsFront accepted)
    → (said : Said) × SaysIn track options contents said × (said.setup ≡ Some setup) × ((more : List Stored) × (said.samples ≡ accepted ++ more)) × IfSome said.fault (λ f. IsOfBytes f.why)
front_said None track options setup accepted opens front = (as_read setup accepted None, tt, refl, ([], sym (append-nil accepted)), tt)
front_said (Some bytes) track options setup accepted opens front = (
  said_in track options bytes,
  refl,
  ap (λ (s : Said). s.setup) opens,
  (front.0, ap (λ (s : Said). s.samples) opens ∙ front.1),
  subst (λ (s : Said). IfSome s.fault (λ f. IsOfBytes f.why)) (sym opens) (input_of_bytes (given_of track setup options) bytes),
)

of_bytes_not_read : (o : Option TrackFault) → IfSome o (λ f. IsOfBytes f.why) → o ≡ Some read_fault → ⊥
of_bytes_not_read None of e = cc
of_bytes_not_read (Some f) of e = let is : f ≡ read_fault = cc in subst (λ (g : TrackFault). IsOfBytes g.why) is of

or_of_bytes : (o : Option TrackFault) → IfSome o (λ f. IsOfBytes f.why) → IfSome o (λ f. (f ≡ read_fault) ⊎ IsOfBytes f.why)
or_of_bytes None of = tt
or_of_bytes (Some f) of = inr of

-- a pump whose last chunk isn't made
goes_first : {track : ℕ} {options : Options} {before : SourceView} {setup : TrackSetup} {first pump : Pumping} {state : State} → IsOpened track options before setup first → PumpOver first pump
    → (hands : Hands pump.coded.source.content track setup.scale state pump) (g : Gathered) → Gathers pump.coded.source.content hands.goes.0 (given_chunks hands.taken pump) pump g → IsFirst track options before setup state pump
goes_first {track} {options} {before} {setup} {first} {pump} {state} opened over hands g w =
    let contents : Option (List ℕ) = pump.coded.source.content in
    let accepted : List Stored = hands.goes.0 in
    let given : Given = given_of track setup options in
    let told : contents ≡ before.content = over.source.content ∙ opened.source.content in
    let own : pump.given ≡ given = over.given ∙ opened.given in
    let front : OfInput contents pump.given (IsFront accepted) = reads_front contents pump.given accepted pump.coded.setup pump.coded.place pump.held_back w.reads in
    let front_so : OfInput before.content given (IsFront accepted) =
    subst (λ (h : Given). OfInput before.content h (IsFront accepted)) own (subst (λ (c : Option (List ℕ)). OfInput c pump.given (IsFront accepted)) told front) in
    let said = front_said before.content track options setup accepted opened.opens front_so in
    let stays = closed_first given accepted said.3.0 in
    let gave : given_chunks hands.taken pump ≡ closed given accepted = w.chunks ∙ ap (λ (h : Given). closed h accepted) own in
    let rest : List Chunk = option_to_list pump.chunk ++ stays.0 in
    let whole : chunks given said.0.samples ≡ hands.taken ++ rest =
    ap (λ (ss : List Stored). chunks given ss) said.3.1 ∙ stays.1 ∙ ap (λ (cs : List Chunk). cs ++ stays.0) (sym gave) ∙ append_assoc hands.taken (option_to_list pump.chunk) stays.0 in
    record {
      read = said.0;
      was = record {
        said = said.0;
        says = said.1;
        read_so = inl refl;
        failed = λ e. absurd (of_bytes_not_read said.0.fault said.4 e);
        own = or_of_bytes said.0.fault said.4;
      };
      own = said.2;
      rest = filled rest;
      first = ap (λ (cs : List Chunk). filled cs) whole ∙ filled_split hands.taken rest ∙ ap (λ (cs : List Chunk). cs ++ filled rest) (sym hands.handed);
      theirs = theirs_filled track rest (theirs_after track hands.taken rest (subst (λ (cs : List Chunk). AllByRecursion (λ c. c.track ≡ track) cs) whole (theirs_from given 0 [] said.0.samples)));
      none = λ marked.
          let unmarked : ends_marked hands.taken ≡ false =
          unmarked_front hands.taken (option_to_list pump.chunk) (subst (λ (cs : List Chunk). AllByRecursion (λ c. c.last ≡ false) cs) (sym w.chunks) (unmarked_from pump.given 0 [] accepted)) in
          let wrong : true ≡ false = sym marked ∙ hands.mark ∙ unmarked in cc;
    }

-- one whose last chunk is made
ended_first : {track : ℕ} {options : Options} {before : SourceView} {setup : TrackSetup} {first pump : Pumping} {state : State} → IsOpened track options before setup first → PumpOver first pump
    → (hands : Hands pump.coded.source.content track setup.scale state pump) → Ended pump.coded.source.content hands.goes.0 (given_chunks hands.taken pump) pump → IsFirst track options before setup state pump
ended_first {track} {options} {before} {setup} {first} {pump} {state} opened over hands ended =
    let contents : Option (List ℕ) = pump.coded.source.content in
    let accepted : List Stored = hands.goes.0 in
    let given : Given = given_of track setup options in
    let told : contents ≡ before.content = over.source.content ∙ opened.source.content in
    let own : pump.given ≡ given = over.given ∙ opened.given in
    let ends : EndsBy contents pump.given accepted pump.fault = ended.ends (over.live (inl opened.live)) in
    let ends_so : EndsBy before.content given accepted pump.fault =
    subst (λ (g : Given). EndsBy before.content g accepted pump.fault) own (subst (λ (c : Option (List ℕ)). EndsBy c pump.given accepted pump.fault) told ends) in
    let said = ends_said before.content track options setup accepted pump.fault opened.opens ends_so in
    let whole : chunks given accepted ≡ given_chunks hands.taken pump = sym (ended.chunks ∙ ap (λ (g : Given). chunks g accepted) own) in
    record {
      read = as_read setup accepted pump.fault;
      was = record {
        said = said.0;
        says = said.1;
        read_so = said.2;
        failed = since_opened opened over;
        own = ends_own before.content given accepted pump.fault ends_so;
      };
      own = refl;
      rest = filled (option_to_list pump.chunk);
      first = ap (λ (cs : List Chunk). filled cs) whole ∙ filled_split hands.taken (option_to_list pump.chunk) ∙ ap (λ (cs : List Chunk). cs ++ filled (option_to_list pump.chunk)) (sym hands.handed);
      theirs = theirs_filled track (option_to_list pump.chunk)
          (theirs_after track hands.taken (option_to_list pump.chunk) (subst (λ (cs : List Chunk). AllByRecursion (λ c. c.track ≡ track) cs) whole (theirs_from given 0 [] accepted)));
      none = λ marked. none_held hands.taken pump.chunk hands.goes.1.proper.mark (sym hands.mark ∙ marked);
    }

works_first : {track : ℕ} {options : Options} {before : SourceView} {setup : TrackSetup} {first pump : Pumping} {state : State} → IsOpened track options before setup first → PumpOver first pump
    → (hands : Hands pump.coded.source.content track setup.scale state pump) (o : Option Gathered) → Works pump.coded.source.content hands.goes.0 (given_chunks hands.taken pump) pump o → IsFirst track options before setup state pump
works_first {track} {options} {before} {setup} {first} {pump} {state} opened over hands (Some g) w = goes_first opened over hands g w
works_first {track} {options} {before} {setup} {first} {pump} {state} opened over hands None w = ended_first opened over hands w

-- What several inputs say is known, of which the chunks that were handed are the first.
pub record AreFirst (track : ℕ) (options : Options) (before : List SourceView) (setups : List TrackSetup) (state : State) (pumps : List Pumping) : Type 0 where
  pub reads : List Said
  pub read : AllRead track options before (map (λ p. p.coded.source) pumps) reads
  pub taken : map (λ r. r.setup) reads ≡ map Some setups
  pub rests : ℕ → List Chunk
  pub lists : (n : ℕ) → n < length setups → list_of (lists_of track options setups reads) n ≡ list_of state.handed (track + n) ++ rests n
  pub theirs : (n : ℕ) → AllByRecursion (λ c. c.track ≡ track + n) (rests n)
  pub none : (n : ℕ) → get_or state.marks (track + n) false ≡ true → rests n ≡ []

-- of the pumps of tracks that are numbered from here on, what was taken was handed
abbrev pub TakenHanded : ℕ → List TrackSetup → State → List Pumping → Type 0
TakenHanded track setups state pumps = (n : ℕ) (setup : TrackSetup) (pump : Pumping) → slice_get setups n ≡ Some setup → slice_get pumps n ≡ Some pump
    → Hands pump.coded.source.content (track + n) setup.scale state pump

-- what follows of a track, and of those after it
abbrev pub rests_next : List Chunk → (ℕ → List Chunk) → ℕ → List Chunk
rests_next rest more zero = rest
rests_next rest more (suc n) = more n

firsts_next : {x : List Chunk} {long : ℕ} (state : State) (xs : List (List Chunk)) (track : ℕ) (rest : List Chunk) (rests : ℕ → List Chunk) → x ≡ list_of state.handed track ++ rest
    → ((m : ℕ) → m < long → list_of xs m ≡ list_of state.handed ((track + 1) + m) ++ rests m)
    → (n : ℕ) → n < suc long → list_of (x ∷ xs) n ≡ list_of state.handed (track + n) ++ rests_next rest rests n
firsts_next {x} {long} state xs track rest rests here more zero less = let e : track ≡ track + 0 = omega arith in here ∙ ap (λ (k : ℕ). list_of state.handed k ++ rest) e
firsts_next {x} {long} state xs track rest rests here more (suc m) less =
    let e : (track + 1) + m ≡ track + suc m = omega arith in more m (omega (arith, less)) ∙ ap (λ (k : ℕ). list_of state.handed k ++ rests m) e

theirs_each : (track : ℕ) (rest : List Chunk) (rests : ℕ → List Chunk) → AllByRecursion (λ c. c.track ≡ track) rest → ((m : ℕ) → AllByRecursion (λ c. c.track ≡ (track + 1) + m) (rests m))
    → (n : ℕ) → AllByRecursion (λ c. c.track ≡ track + n) (rests_next rest rests n)
theirs_each track rest rests here more zero = let e : track ≡ track + 0 = omega arith in subst (λ (k : ℕ). AllByRecursion (λ c. c.track ≡ k) rest) e here
theirs_each track rest rests here more (suc m) = let e : (track + 1) + m ≡ track + suc m = omega arith in subst (λ (k : ℕ). AllByRecursion (λ c. c.track ≡ k) (rests m)) e (more m)

none_each : (marks : List Bool) (track : ℕ) (rest : List Chunk) (rests : ℕ → List Chunk) → (get_or marks track false ≡ true → rest ≡ []) → ((m : ℕ) → get_or marks ((track + 1) + m) false ≡ true → rests m ≡ [])
    → (n : ℕ) → get_or marks (track + n) false ≡ true → rests_next rest rests n ≡ []
none_each marks track rest rests here more zero marked = let e : track ≡ track + 0 = omega arith in here (ap (λ (k : ℕ). get_or marks k false) e ∙ marked)
none_each marks track rest rests here more (suc m) marked = let e : (track + 1) + m ≡ track + suc m = omega arith in more m (ap (λ (k : ℕ). get_or marks k false) e ∙ marked)

pub all_first : (track : ℕ) (options : Options) (before : List SourceView) (setups : List TrackSetup) (state : State) (firsts pumps : List Pumping) → AllOpened track options before setups firsts → PumpsOver firsts pumps
    → TakenHanded track setups state pumps → AreFirst track options before setups state pumps
all_first track options [] [] state [] [] all over handed =
    record { reads = []; read = tt; taken = refl; rests = λ n. []; lists = λ n less. absurd (omega (arith, less)); theirs = λ n. tt; none = λ n marked. refl }
all_first track options [] [] state [] (p ∷ pumps) all over handed = absurd over
all_first track options [] [] state (f ∷ firsts) pumps all over handed = absurd all
all_first track options [] (s ∷ setups) state firsts pumps all over handed = absurd all
all_first track options (b ∷ before) [] state firsts pumps all over handed = absurd all
all_first track options (b ∷ before) (s ∷ setups) state [] pumps all over handed = absurd all
all_first track options (b ∷ before) (s ∷ setups) state (f ∷ firsts) [] all over handed = absurd over
all_first track options (b ∷ before) (s ∷ setups) state (f ∷ firsts) (p ∷ pumps) all over handed =
    let h = hands_at (omega arith) (handed 0 s p refl refl) in
    let one : IsFirst track options b s state p = works_first all.0 over.0 h p.gatherer h.goes.1.works in
    let more : AreFirst (track + 1) options before setups state pumps =
    all_first (track + 1) options before setups state firsts pumps all.1 over.1 (λ n setup pump at there. hands_at (omega arith) (handed (suc n) setup pump at there)) in
    record {
      reads = one.read ∷ more.reads;
      read = (one.was, more.read);
      taken = ap (λ (o : Option TrackSetup). o ∷ map (λ r. r.setup) more.reads) one.own ∙ ap (λ (os : List (Option TrackSetup)). Some s ∷ os) more.taken;
      rests = rests_next one.rest more.rests;
      lists = firsts_next state (lists_of (track + 1) options setups more.reads) track one.rest more.rests one.first more.lists;
      theirs = theirs_each track one.rest more.rests one.theirs more.theirs;
      none = none_each state.marks track one.rest more.rests one.none more.none;
    }

-- ---- pumps of which more was taken than was handed

-- What an input says is known, of which the chunks that were handed are the first, whatever else was taken.
pub record IsBegun (track : ℕ) (options : Options) (before : SourceView) (setup : TrackSetup) (state : State) (pump : Pumping) : Type 0 where
  pub read : Said
  pub was : WasRead track options before pump.coded.source read
  pub own : read.setup ≡ Some setup
  pub rest : List Chunk
  pub first : filled (chunks (given_of track setup options) read.samples) ≡ list_of state.handed track ++ rest

-- a state in which these chunks were handed of each track up to one
abbrev pub handed_to : State → ℕ → List Chunk → State
handed_to state track taken = record state { handed = replicate (suc track) (filled taken); marks = replicate (suc track) (ends_marked taken) }

hands_all : {contents : Option (List ℕ)} {track scale : ℕ} {state : State} {pump : Pumping} (h : HandsFirst contents track scale state pump) → Hands contents track scale (handed_to state track h.taken) pump
hands_all {contents} {track} {scale} {state} {pump} h =
    record {
      track = h.track;
      ticks = h.ticks;
      taken = h.taken;
      goes = h.goes;
      handed = get_or-replicate {A = List Chunk} (suc track) track (filled h.taken) [] (omega arith);
      mark = get_or-replicate {A = Bool} (suc track) track (ends_marked h.taken) false (omega arith);
    }

begun_first : {track : ℕ} {options : Options} {before : SourceView} {setup : TrackSetup} {first pump : Pumping} {state : State} → IsOpened track options before setup first → PumpOver first pump
    → HandsFirst pump.coded.source.content track setup.scale state pump → IsBegun track options before setup state pump
unfolding hands_all
begun_first {track} {options} {before} {setup} {first} {pump} {state} opened over h =
    let all : Hands pump.coded.source.content track setup.scale (handed_to state track h.taken) pump = hands_all h in
    let one : IsFirst track options before setup (handed_to state track h.taken) pump = works_first opened over all pump.gatherer all.goes.1.works in
    record {
      read = one.read;
      was = one.was;
      own = one.own;
      rest = h.rest ++ one.rest;
      first = one.first ∙ ap (λ (cs : List Chunk). cs ++ one.rest) (all.handed ∙ h.first) ∙ append_assoc (list_of state.handed track) h.rest one.rest;
    }

-- What several inputs say is known, of which the chunks that were handed are the first.
pub record AreBegun (track : ℕ) (options : Options) (before : List SourceView) (setups : List TrackSetup) (state : State) (pumps : List Pumping) : Type 0 where
  pub reads : List Said
  pub read : AllRead track options before (map (λ p. p.coded.source) pumps) reads
  pub taken : map (λ r. r.setup) reads ≡ map Some setups
  pub rests : ℕ → List Chunk
  pub lists : (n : ℕ) → n < length setups → list_of (lists_of track options setups reads) n ≡ list_of state.handed (track + n) ++ rests n

-- of the pumps of tracks that are numbered from here on, the first chunks that were taken were handed
abbrev pub FirstHanded : ℕ → List TrackSetup → State → List Pumping → Type 0
FirstHanded track setups state pumps = (n : ℕ) (setup : TrackSetup) (pump : Pumping) → slice_get setups n ≡ Some setup → slice_get pumps n ≡ Some pump
    → HandsFirst pump.coded.source.content (track + n) setup.scale state pump

pub first_at : {contents : Option (List ℕ)} {a b scale : ℕ} {state : State} {pump : Pumping} → a ≡ b → HandsFirst contents a scale state pump → HandsFirst contents b scale state pump
first_at {contents} {a} {b} {scale} {state} {pump} e h = subst (λ (n : ℕ). HandsFirst contents n scale state pump) e h

pub all_begun : (track : ℕ) (options : Options) (before : List SourceView) (setups : List TrackSetup) (state : State) (firsts pumps : List Pumping) → AllOpened track options before setups firsts → PumpsOver firsts pumps
    → FirstHanded track setups state pumps → AreBegun track options before setups state pumps
all_begun track options [] [] state [] [] all over handed = record { reads = []; read = tt; taken = refl; rests = λ n. []; lists = λ n less. absurd (omega (arith, less)) }
all_begun track options [] [] state [] (p ∷ pumps) all over handed = absurd over
all_begun track options [] [] state (f ∷ firsts) pumps all over handed = absurd all
all_begun track options [] (s ∷ setups) state firsts pumps all over handed = absurd all
all_begun track options (b ∷ before) [] state firsts pumps all over handed = absurd all
all_begun track options (b ∷ before) (s ∷ setups) state [] pumps all over handed = absurd all
all_begun track options (b ∷ before) (s ∷ setups) state (f ∷ firsts) [] all over handed = absurd over
all_begun track options (b ∷ before) (s ∷ setups) state (f ∷ firsts) (p ∷ pumps) all over handed =
    let here : track + 0 ≡ track = omega arith in
    let one : IsBegun track options b s state p = begun_first all.0 over.0 (first_at here (handed 0 s p refl refl)) in
    let more : AreBegun (track + 1) options before setups state pumps =
    all_begun (track + 1) options before setups state firsts pumps all.1 over.1 (λ n setup pump at there. let e : track + suc n ≡ (track + 1) + n = omega arith in first_at e (handed (suc n) setup pump at there)) in
    record {
      reads = one.read ∷ more.reads;
      read = (one.was, more.read);
      taken = ap (λ (o : Option TrackSetup). o ∷ map (λ r. r.setup) more.reads) one.own ∙ ap (λ (os : List (Option TrackSetup)). Some s ∷ os) more.taken;
      rests = rests_next one.rest more.rests;
      lists = firsts_next state (lists_of (track + 1) options setups more.reads) track one.rest more.rests one.first more.lists;
    }
