-- The headers of inputs, which are taken one after the other.
use Rattle.std.proofs.Common.{◌≡◌, ◌≢◌, ℕ, suc, ◌+◌, ◌⊎◌, true, false, is_some, List, [], ◌∷◌, ◌++◌, length, Option, Some, None, Err, refl, sym, ap, subst, ◌∙◌, inl, inr, append_assoc, arith}
use Rattle.sf_world.specs.Views.{SourceView, Unchanged}
use Rattle.sf_coded.specs.declared.types.CodedFault.{CodedFault}
use Rattle.sf_coded.specs.declared.types.CodedFault.TheVariants.{ReadFault}
use Rattle.sf_coded.specs.Progress.{RefusesBy, Stands as FileStands}
use Rattle.sf_entry.specs.TrackSetup.{Makes}
use Rattle.sf_entry.specs.declared.track_setup.SetupFault.{SetupFault}
use Rattle.sf_entry.specs.declared.track_setup.SetupFault.TheVariants.{NoMemory as SetupWantsMemory}
use Rattle.sf_entry.specs.declared.track_setup.TrackSetup.{TrackSetup}
use Rattle.sf_tick.specs.declared.types.Setup.{Setup}
use Rattle.sf_world.specs.Counts.{Rose}
use Rattle.sf_gather.specs.declared.given.Options.{Options}
use Rattle.sf_record.specs.Input.{IsOfBytes, coded_fault, read_fault, setup_fault}
use Rattle.sf_record.specs.Pump.{Pumping}
use Rattle.sf_record.specs.Said.{without_setup}
use Rattle.sf_record.specs.Serial.{HasFault, Opens, SaysIn}
use Rattle.sf_record.specs.declared.faults.TrackFault.{TrackFault}
use Rattle.sf_record.specs.declared.headers.Untaken.{Untaken}
use Rattle.sf_record.specs.declared.headers.Untaken.TheVariants.{Fault, NoMemory as MemoryWanted}
use Rattle.sf_record.proofs.Counted.{rose_behind}
use Rattle.sf_record.proofs.HeaderSaid.{header_not, setup_not}
use Rattle.sf_record.specs.inner.Headers.{AllOpened, HeadersRead, IsOpened, IsUntaken, StopsAt}

-- as many setups and pumps as inputs
pub opened_long : (track : ℕ) (options : Options) (before : List SourceView) (setups : List TrackSetup) (pumps : List Pumping) → AllOpened track options before setups pumps
    → (length setups ≡ length before) × (length pumps ≡ length before)
opened_long track options [] [] [] all = (refl, refl)
opened_long track options [] [] (p ∷ pumps) all = absurd all
opened_long track options [] (s ∷ setups) pumps all = absurd all
opened_long track options (b ∷ before) [] pumps all = absurd all
opened_long track options (b ∷ before) (s ∷ setups) [] all = absurd all
opened_long track options (b ∷ before) (s ∷ setups) (p ∷ pumps) all =
    let more = opened_long (track + 1) options before setups pumps all.1 in (ap (λ (n : ℕ). suc n) more.0, ap (λ (n : ℕ). suc n) more.1)

-- one more header is taken
pub opened_more : (track : ℕ) (options : Options) (before : List SourceView) (setups : List TrackSetup) (pumps : List Pumping) (b : SourceView) (s : TrackSetup) (p : Pumping)
    → AllOpened track options before setups pumps → IsOpened (track + length before) options b s p → AllOpened track options (before ++ b ∷ []) (setups ++ s ∷ []) (pumps ++ p ∷ [])
opened_more track options [] [] [] b s p all one = (subst (λ (n : ℕ). IsOpened n options b s p) (omega arith) one, tt)
opened_more track options [] [] (q ∷ pumps) b s p all one = absurd all
opened_more track options [] (t ∷ setups) pumps b s p all one = absurd all
opened_more track options (a ∷ before) [] pumps b s p all one = absurd all
opened_more track options (a ∷ before) (t ∷ setups) [] b s p all one = absurd all
opened_more track options (a ∷ before) (t ∷ setups) (q ∷ pumps) b s p all one =
    (all.0, opened_more (track + 1) options before setups pumps b s p all.1 (subst (λ (n : ℕ). IsOpened n options b s p) (omega arith) one))

-- one more input, after one whose header isn't taken
pub stops_more : {options : Options} {before : List SourceView} {setups : List TrackSetup} {pumps : List Pumping} {rest : List SourceView} {untaken : Untaken} (b : SourceView)
    → StopsAt options before setups pumps rest untaken → StopsAt options (before ++ b ∷ []) setups pumps (rest ++ b ∷ []) untaken
stops_more {options} {before} {setups} {pumps} {rest} {untaken} b s =
    record {
      taken = s.taken;
      first = s.first;
      others = s.others ++ b ∷ [];
      parts = ap (λ (vs : List SourceView). vs ++ b ∷ []) s.parts ∙ append_assoc s.taken (s.first ∷ s.others) (b ∷ []);
      opened = s.opened;
      after = s.after;
      left = ap (λ (vs : List SourceView). vs ++ b ∷ []) s.left;
      why = s.why;
      same = s.same;
    }

-- the first header that isn't taken
pub stops_here : {options : Options} {setups : List TrackSetup} {pumps : List Pumping} {untaken : Untaken} (before rest : List SourceView) (b after : SourceView)
    → AllOpened 0 options before setups pumps → rest ≡ [] → IsUntaken (length before) options b after untaken → Unchanged b after
    → StopsAt options (before ++ b ∷ []) setups pumps (rest ++ after ∷ []) untaken
stops_here {options} {setups} {pumps} {untaken} before rest b after all none why same =
    record {
      taken = before;
      first = b;
      others = [];
      parts = refl;
      opened = all;
      after = after;
      left = ap (λ (vs : List SourceView). vs ++ after ∷ []) none;
      why = why;
      same = same;
    }

-- ---- one header

-- a header that isn't taken, where the source was looked at before
has_from : {number : ℕ} {options : Options} {first before after : SourceView} (fault : TrackFault) → Unchanged first before → HasFault number options before after fault → HasFault number options first after fault
has_from {number} {options} {first} {before} {after} fault same has =
    elim has [
      | inl read ↦ inl (record {
        said = read.said;
        says = subst (λ (o : Option (List ℕ)). SaysIn number options o read.said) same.content read.says;
        read_so = read.read_so;
        failed = λ e. rose_behind _ _ _ same.later (read.failed e);
        own = read.own;
      })
      | inr failed ↦ inr (failed.0, rose_behind _ _ _ same.later failed.1)
    ]

pub untaken_from : {first before : SourceView} (number : ℕ) (options : Options) (after : SourceView) (untaken : Untaken) → Unchanged first before → IsUntaken number options before after untaken → IsUntaken number options first after untaken
untaken_from {first} {before} number options after (Fault fault) same why = has_from fault same why
untaken_from {first} {before} number options after MemoryWanted same why = tt

pub opened_from : {number : ℕ} {options : Options} {first before : SourceView} {setup : TrackSetup} {pump : Pumping} → Unchanged first before → IsOpened number options before setup pump → IsOpened number options first setup pump
opened_from {number} {options} {first} {before} {setup} {pump} same o =
    record {
      given = o.given;
      readable = o.readable;
      short = o.short;
      opens = subst (λ (c : Option (List ℕ)). Opens number options c setup) same.content o.opens;
      stands = o.stands;
      free = o.free;
      live = o.live;
      fault = o.fault;
      source = record { content = o.source.content ∙ same.content; size = o.source.size ∙ same.size; later = omega (arith, same.later, o.source.later) };
    }

-- a fault that lies in the bytes of a header
has_bytes : {number : ℕ} {options : Options} {before after : SourceView} (fault : TrackFault) → IsOfBytes fault.why → SaysIn number options before.content (without_setup (Some fault)) → HasFault number options before after fault
has_bytes {number} {options} {before} {after} fault of says =
    inl (record {
      said = without_setup (Some fault);
      says = says;
      read_so = inl refl;
      failed = λ e. let is : fault ≡ read_fault = cc in absurd (subst (λ (f : TrackFault). IsOfBytes f.why) is of);
      own = inr of;
    })

-- an answer for a setup of which no track is made
pub setup_untaken : (number : ℕ) (options : Options) (before after : SourceView) (setup : Setup) (place : ℕ) (fault : SetupFault) (untaken : Untaken) → FileStands before.content setup [] place → Makes setup (Err fault)
    → ((told : TrackFault) → untaken ≡ Fault told → (told ≡ setup_fault fault) × (fault ≢ SetupWantsMemory)) → IsUntaken number options before after untaken
setup_untaken number options before after setup place fault (Fault told) stands makes is =
    let t = is told refl in
    let refused = setup_not number options before.content setup place fault stands makes t.1 in
    subst (λ (f : TrackFault). HasFault number options before after f) (sym t.0) (has_bytes (setup_fault fault) refused.0 refused.1)
setup_untaken number options before after setup place fault MemoryWanted stands makes is = tt

-- an answer for a header that isn't read
pub header_untaken : (number : ℕ) (options : Options) (before after : SourceView) (fault : CodedFault) (untaken : Untaken) → RefusesBy before.content fault → (fault ≡ ReadFault → Rose before.faults after.faults)
    → ((told : TrackFault) → untaken ≡ Fault told → (told ≡ coded_fault fault) × ((fault ≡ ReadFault) ⊎ IsOfBytes told.why)) → IsUntaken number options before after untaken
header_untaken number options before after fault (Fault told) refusal failed is =
    let t = is told refl in
    elim t.1 [
      | inl read ↦ inr (t.0 ∙ ap (λ (f : CodedFault). coded_fault f) read, failed read)
      | inr of ↦ (let of_so : IsOfBytes (coded_fault fault).why = subst (λ (f : TrackFault). IsOfBytes f.why) t.0 of in
          subst (λ (f : TrackFault). HasFault number options before after f) (sym t.0) (has_bytes (coded_fault fault) of_so (header_not number options before.content fault refusal of_so)))
    ]
header_untaken number options before after fault MemoryWanted refusal failed is = tt

-- ---- headers so far

pub rest_added : (options : Options) (before : List SourceView) (setups : List TrackSetup) (pumps : List Pumping) (rest : List SourceView) (untaken : Option Untaken) (b : SourceView) → is_some untaken ≡ true
    → HeadersRead options before setups pumps rest untaken → HeadersRead options (before ++ b ∷ []) setups pumps (rest ++ b ∷ []) untaken
rest_added options before setups pumps rest None b some read = cc
rest_added options before setups pumps rest (Some untaken) b some read = stops_more b read

pub pump_added : (options : Options) (before : List SourceView) (setups : List TrackSetup) (pumps : List Pumping) (rest : List SourceView) (untaken : Option Untaken) (b : SourceView) (setup : TrackSetup) (pump : Pumping) → is_some untaken ≡ false
    → IsOpened (length pumps) options b setup pump → HeadersRead options before setups pumps rest untaken → HeadersRead options (before ++ b ∷ []) (setups ++ setup ∷ []) (pumps ++ pump ∷ []) rest untaken
pump_added options before setups pumps rest None b setup pump none opened read =
    let long = opened_long 0 options before setups pumps read.0 in
    let here : length pumps ≡ 0 + length before = omega (arith, long.1) in
    (opened_more 0 options before setups pumps b setup pump read.0 (subst (λ (n : ℕ). IsOpened n options b setup pump) here opened), read.1)
pump_added options before setups pumps rest (Some untaken) b setup pump none opened read = cc

pub stop_added : (options : Options) (before : List SourceView) (setups : List TrackSetup) (pumps : List Pumping) (rest : List SourceView) (untaken : Option Untaken) (b after : SourceView) (why : Untaken) → is_some untaken ≡ false
    → IsUntaken (length pumps) options b after why → Unchanged b after → HeadersRead options before setups pumps rest untaken → HeadersRead options (before ++ b ∷ []) setups pumps (rest ++ after ∷ []) (Some why)
stop_added options before setups pumps rest None b after why none is same read =
    let long = opened_long 0 options before setups pumps read.0 in
    stops_here before rest b after read.0 read.1 (subst (λ (n : ℕ). IsUntaken n options b after why) long.1 is) same
stop_added options before setups pumps rest (Some untaken) b after why none is same read = cc

-- no header is read yet
pub none_read : (options : Options) (setups : List TrackSetup) (pumps : List Pumping) (rest : List SourceView) (untaken : Option Untaken) → pumps ≡ [] → setups ≡ [] → rest ≡ [] → untaken ≡ None
    → HeadersRead options [] setups pumps rest untaken
none_read options setups pumps rest untaken p s r u =
    subst (λ (o : Option Untaken). HeadersRead options [] setups pumps rest o) (sym u)
    (subst (λ (ss : List TrackSetup). AllOpened 0 options [] ss pumps) (sym s) (subst (λ (ps : List Pumping). AllOpened 0 options [] [] ps) (sym p) tt), r)
