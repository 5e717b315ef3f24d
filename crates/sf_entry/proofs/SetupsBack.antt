-- The entries of setups, which are read back.
use Rattle.std.proofs.Common.{◌≡◌, ℕ, ◌≤◌, ◌^◌, ◌-◌, ◌<◌, List, [], ◌∷◌, length, Result, Ok, Err, sym, refl, subst, ap, ◌∙◌, arith}
use Rattle.sf_tick.specs.declared.types.Kind.{Kind}
use Rattle.sf_tick.specs.declared.types.Kind.TheVariants as kinds
use Rattle.sf_tick.specs.declared.types.Setup.{Setup}
use Rattle.sf_avc.specs.declared.config.AvcConfig.{AvcConfig}
use Rattle.sf_avc.specs.declared.config_body.ConfigFault.{ConfigFault}
use Rattle.sf_avc.specs.Units.{Nal, nals}
use Rattle.sf_avc.specs.Config.{config_of}
use Rattle.sf_avc.specs.ConfigBody.{of_type, made_config}
use Rattle.sf_avc.proofs.ConfigBack.{config_back}
use Rattle.sf_entry.specs.declared.asc.Asc.{Asc}
use Rattle.sf_entry.specs.declared.asc.AscFault.{AscFault}
use Rattle.sf_entry.specs.declared.types.Entry.TheVariants as entries
use Rattle.sf_entry.specs.declared.track_setup.SetupFault.TheVariants.{Avc, Aac}
use Rattle.sf_entry.specs.declared.track_setup.TrackSetup.{TrackSetup}
use Rattle.sf_entry.specs.Steps.{◌>>=◌, as_fault}
use Rattle.sf_entry.specs.Asc.{asc_of}
use Rattle.sf_entry.specs.Stsd.{entries_of, stsd_of, only_entry}
use Rattle.sf_entry.specs.TrackSetup.{video_track, sound_track, made_by, made}
use Rattle.sf_entry.proofs.EntriesBack.{sound_back, video_back}
use Rattle.sf_entry.proofs.ConfigLength.{config_length}

sound_by : (base : ℕ) (setup : Setup) (track : TrackSetup) (found : Result Asc AscFault) → length setup.config ≤ 65536 → (as_fault Aac found >>= (λ asc. Ok (sound_track setup asc))) ≡ Ok track
    → entries_of base (stsd_of track.entry) ≡ Ok (only_entry base track.entry (entries.Aac setup.config) ∷ [])
unfolding sound_track
sound_by base setup track (Ok asc) le e =
    let is : sound_track setup asc ≡ track = cc e in
    subst (λ (t : TrackSetup). entries_of base (stsd_of t.entry) ≡ Ok (only_entry base t.entry (entries.Aac setup.config) ∷ [])) is (sound_back base _ _ setup.config le)
sound_by base setup track (Err fault) le e = absurd (cc e)

-- the entry of a setup of sound is read back as its configuration
pub sound_read : (base : ℕ) (setup : Setup) (track : TrackSetup) → setup.kind ≡ kinds.Aac → length setup.config ≤ 65536 → made setup ≡ Ok track
    → entries_of base (stsd_of track.entry) ≡ Ok (only_entry base track.entry (entries.Aac setup.config) ∷ [])
unfolding made
sound_read base setup track kind le e = sound_by base setup track (asc_of setup.config) le (sym (ap (λ (k : Kind). made_by k setup) kind) ∙ e)

video_by : (base : ℕ) (setup : Setup) (track : TrackSetup) (config : AvcConfig) (found : Result (List ℕ) ConfigFault)
    → ((body : List ℕ) → found ≡ Ok body → config_of body ≡ Ok config) → ((body : List ℕ) → found ≡ Ok body → length body < 2 ^ 25 - 94)
    → (as_fault Avc found >>= (λ body. Ok (video_track setup body))) ≡ Ok track → entries_of base (stsd_of track.entry) ≡ Ok (only_entry base track.entry (entries.Avc config) ∷ [])
unfolding video_track
video_by base setup track config (Ok body) reads short e =
    let is : video_track setup body ≡ track = cc e in
    subst (λ (t : TrackSetup). entries_of base (stsd_of t.entry) ≡ Ok (only_entry base t.entry (entries.Avc config) ∷ [])) is
    (video_back base setup.width setup.height body config (omega (arith, short body refl)) (reads body refl))
video_by base setup track config (Err fault) reads short e = absurd (cc e)

-- the entry of a setup of video is read back as the length size 4 and the parameter sets of its configuration
pub video_read : (base : ℕ) (setup : Setup) (track : TrackSetup) (units : List Nal) → setup.kind ≡ kinds.Avc → nals setup.config ≡ Ok units → made setup ≡ Ok track
    → entries_of base (stsd_of track.entry) ≡ Ok (only_entry base track.entry (entries.Avc (record { width = 4; sps = of_type 7 units; pps = of_type 8 units })) ∷ [])
unfolding made
video_read base setup track units kind is e =
    video_by base setup track _ (made_config setup.config) (λ body made_body. config_back setup.config body units is made_body)
    (λ body made_body. config_length setup.config body made_body) (sym (ap (λ (k : Kind). made_by k setup) kind) ∙ e)
