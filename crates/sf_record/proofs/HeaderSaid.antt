-- What the header of an input says.
use Rattle.std.proofs.Common.{◌≡◌, ◌≢◌, ℕ, ◌+◌, ◌==◌, Bool, true, false, cond, List, [], ◌∷◌, get_or, length, Option, Some, None, Result, Ok, Err, refl, sym, ap, ◌∙◌, subst}
use Rattle.std.specs.List.{list_all}
use Rattle.sf_tick.specs.declared.types.Kind.{Kind}
use Rattle.sf_tick.specs.declared.types.Kind.TheVariants as kinds
use Rattle.sf_tick.specs.declared.types.Setup.{Setup}
use Rattle.sf_coded.specs.CodedFile.{CodedFile}
use Rattle.sf_coded.specs.Progress.{RefusesBy, Stands}
use Rattle.sf_coded.specs.declared.types.CodedFault.{CodedFault}
use Rattle.sf_coded.specs.declared.types.CodedFault.TheVariants.{ReadFault, NoMemory}
use Rattle.sf_avc.specs.declared.nal.NalFault.{NalFault}
use Rattle.sf_avc.specs.declared.nal.NalFault.TheVariants as units
use Rattle.sf_avc.specs.declared.config_body.ConfigFault.{ConfigFault}
use Rattle.sf_avc.specs.declared.config_body.ConfigFault.TheVariants as configs
use Rattle.sf_avc.specs.declared.sps.SpsFault.{SpsFault}
use Rattle.sf_avc.specs.declared.sps.SpsHead.{SpsHead}
use Rattle.sf_avc.specs.ConfigBody.{config_body, is_known, made_config, of_type, too_long, with_head, with_sets, with_units}
use Rattle.sf_avc.specs.Sps.{sps_of}
use Rattle.sf_avc.specs.Units.{Nal, after_start, nals, pieces, trimmed, unit_before, units_of}
use Rattle.sf_entry.specs.Asc.{asc_of}
use Rattle.sf_entry.specs.Steps.{◌>>=◌, as_fault}
use Rattle.sf_entry.specs.TrackSetup.{Makes, made, made_by, sound_track, video_track}
use Rattle.sf_entry.specs.declared.asc.Asc.{Asc}
use Rattle.sf_entry.specs.declared.asc.AscFault.{AscFault}
use Rattle.sf_entry.specs.declared.track_setup.SetupFault.{SetupFault}
use Rattle.sf_entry.specs.declared.track_setup.SetupFault.TheVariants as setups
use Rattle.sf_entry.specs.declared.track_setup.TrackSetup.{TrackSetup}
use Rattle.sf_record.specs.Input.{IsOfBytes, IsOfSetup, coded_fault, setup_fault}
use Rattle.sf_gather.specs.declared.given.Options.{Options}
use Rattle.sf_record.specs.Said.{Said, said_by, said_in, said_unless, without_setup}
use Rattle.sf_record.specs.Serial.{Opens, SaysIn}

-- the header of a setup of which a track is made
pub header_opened : (number : ℕ) (options : Options) (contents : Option (List ℕ)) (setup : Setup) (track : TrackSetup) (place : ℕ) → Stands contents setup [] place → made setup ≡ Ok track
    → Opens number options contents track
unfolding said_in
header_opened number options None setup track place stands is = tt
header_opened number options (Some bytes) setup track place stands is =
    ap (λ (c : CodedFile). said_by number options c.setup c.end bytes) stands ∙ ap (λ (r : Result TrackSetup SetupFault). said_unless number options r bytes) is

setup_says : (number : ℕ) (options : Options) (contents : Option (List ℕ)) (setup : Setup) (place : ℕ) (fault : SetupFault) → Stands contents setup [] place → made setup ≡ Err fault
    → SaysIn number options contents (without_setup (Some (setup_fault fault)))
unfolding said_in
setup_says number options None setup place fault stands is = tt
setup_says number options (Some bytes) setup place fault stands is =
    sym (ap (λ (c : CodedFile). said_by number options c.setup c.end bytes) stands ∙ ap (λ (r : Result TrackSetup SetupFault). said_unless number options r bytes) is)

-- ---- a refusal tells of a setup

before_fault : (at : ℕ) (t : List ℕ) (others : Result (List Nal) NalFault) → others ≢ Err units.NoMemory → unit_before at t others ≢ Err units.NoMemory
before_fault at [] others not e = absurd (cc e)
before_fault at (a ∷ t) (Ok us) not e = absurd (cc e)
before_fault at (a ∷ t) (Err f) not e =
    let is : f ≡ units.NoMemory = cc e in
    not (rw is refl)

units_not : (at : ℕ) (ps : List (List ℕ)) → units_of at ps ≢ Err units.NoMemory
unfolding units_of
units_not at [] e = absurd (cc e)
units_not at (p ∷ ps) e = before_fault at (trimmed p) (units_of (at + length p + 3) ps) (units_not (at + length p + 3) ps) e

chosen_fault : (b : Bool) (r : Result (List Nal) NalFault) → r ≢ Err units.NoMemory → cond b r (Err units.NoStart) ≢ Err units.NoMemory
chosen_fault true r not e = not e
chosen_fault false r not e = absurd (cc e)

start_fault : (ps : List (List ℕ)) → after_start ps ≢ Err units.NoMemory
start_fault [] e = absurd (cc e)
start_fault (p ∷ []) e = absurd (cc e)
start_fault (p ∷ q ∷ ps) e = chosen_fault (list_all (λ b. b == 0) p) (units_of (length p + 3) (q ∷ ps)) (units_not (length p + 3) (q ∷ ps)) e

nals_fault : (payload : List ℕ) → nals payload ≢ Err units.NoMemory
unfolding nals
nals_fault payload e = start_fault (pieces payload) e

-- a refusal of the configuration of video tells of it
abbrev OfConfig : Result (List ℕ) ConfigFault → Type 0
OfConfig (Ok body) = Unit {0}
OfConfig (Err fault) = IsOfSetup (setups.Avc fault)

config_if : (b : Bool) (x y : Result (List ℕ) ConfigFault) → OfConfig x → OfConfig y → OfConfig (cond b x y)
config_if true x y of_x of_y = of_x
config_if false x y of_x of_y = of_y

head_of_config : (sps pps : List (List ℕ)) (r : Result SpsHead SpsFault) → OfConfig (with_head sps pps r)
head_of_config sps pps (Err fault) = tt
head_of_config sps pps (Ok head) = config_if (is_known head.profile) (Ok (config_body sps pps head)) (Err (configs.Profile head.profile)) tt tt

sets_of_config : (sps pps : List (List ℕ)) → OfConfig (with_sets sps pps)
unfolding with_sets
sets_of_config sps pps =
    let head : Result (List ℕ) ConfigFault = with_head sps pps (sps_of (get_or sps 0 [])) in
    let fitting : Result (List ℕ) ConfigFault = cond (too_long sps pps) (Err configs.TooLong) head in
    config_if (length sps == 0) (Err configs.NoSps) (cond (length pps == 0) (Err configs.NoPps) fitting) tt
    (config_if (length pps == 0) (Err configs.NoPps) fitting tt
    (config_if (too_long sps pps) (Err configs.TooLong) head tt (head_of_config sps pps (sps_of (get_or sps 0 [])))))

units_of_config : (r : Result (List Nal) NalFault) → r ≢ Err units.NoMemory → OfConfig (with_units r)
units_of_config (Ok us) not = sets_of_config (of_type 7 us) (of_type 8 us)
units_of_config (Err units.NoStart) not = tt
units_of_config (Err (units.EmptyUnit at)) not = tt
units_of_config (Err units.NoMemory) not = absurd (not refl)

config_tells : (config : List ℕ) → OfConfig (made_config config)
unfolding made_config
config_tells config = units_of_config (nals config) (nals_fault config)

abbrev OfMade : Result TrackSetup SetupFault → Type 0
OfMade (Ok track) = Unit {0}
OfMade (Err fault) = IsOfSetup fault

video_tells : (setup : Setup) (r : Result (List ℕ) ConfigFault) → OfConfig r → OfMade (as_fault setups.Avc r >>= (λ config. Ok (video_track setup config)))
video_tells setup (Ok config) of = tt
video_tells setup (Err fault) of = of

sound_tells : (setup : Setup) (r : Result Asc AscFault) → OfMade (as_fault setups.Aac r >>= (λ asc. Ok (sound_track setup asc)))
sound_tells setup (Ok asc) = tt
sound_tells setup (Err fault) = tt

kind_tells : (kind : Kind) (setup : Setup) → OfMade (made_by kind setup)
kind_tells kinds.Avc setup = video_tells setup (made_config setup.config) (config_tells setup.config)
kind_tells kinds.Aac setup = sound_tells setup (asc_of setup.config)

made_tells : (setup : Setup) → OfMade (made setup)
unfolding made
made_tells setup = kind_tells setup.kind setup

-- an answer that is a refusal is that of the setup
makes_fault : (setup : Setup) (fault : SetupFault) → Makes setup (Err fault) → fault ≢ setups.NoMemory → made setup ≡ Err fault
makes_fault setup (setups.Avc fault) makes not = makes
makes_fault setup (setups.Aac fault) makes not = makes
makes_fault setup setups.NoMemory makes not = absurd (not refl)

-- the input of a track of whose setup no track is made
pub setup_not : (number : ℕ) (options : Options) (contents : Option (List ℕ)) (setup : Setup) (place : ℕ) (fault : SetupFault) → Stands contents setup [] place → Makes setup (Err fault) → fault ≢ setups.NoMemory
    → IsOfBytes (setup_fault fault).why × SaysIn number options contents (without_setup (Some (setup_fault fault)))
setup_not number options contents setup place fault stands makes not =
    let is : made setup ≡ Err fault = makes_fault setup fault makes not in
    (subst (λ (r : Result TrackSetup SetupFault). OfMade r) is (made_tells setup), setup_says number options contents setup place fault stands is)

-- the input of a track whose header is refused
pub header_not : (number : ℕ) (options : Options) (contents : Option (List ℕ)) (fault : CodedFault) → RefusesBy contents fault → IsOfBytes (coded_fault fault).why
    → SaysIn number options contents (without_setup (Some (coded_fault fault)))
unfolding said_in
header_not number options contents ReadFault r b = absurd b
header_not number options contents NoMemory r b = absurd b
header_not number options None fault r b = tt
header_not number options (Some bytes) fault r b = sym (ap (λ (c : CodedFile). said_by number options c.setup c.end bytes) r)
