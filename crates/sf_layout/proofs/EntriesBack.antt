-- The sample entry of a setup that was made is read back, as one of the setup's kind.
use Rattle.std.proofs.Common.{◌≡◌, ℕ, ◌≤◌, List, length, Result, Ok, Err, refl, sym, ap, ◌∙◌}
use Rattle.sf_tick.specs.declared.types.Kind.{Kind}
use Rattle.sf_tick.specs.declared.types.Kind.TheVariants as kinds
use Rattle.sf_tick.specs.declared.types.Setup.{Setup}
use Rattle.sf_avc.specs.declared.nal.NalFault.{NalFault}
use Rattle.sf_avc.specs.declared.config_body.ConfigFault.{ConfigFault}
use Rattle.sf_avc.specs.Units.{Nal, nals}
use Rattle.sf_avc.specs.ConfigBody.{with_units, made_config}
use Rattle.sf_entry.specs.declared.asc.Asc.{Asc}
use Rattle.sf_entry.specs.declared.asc.AscFault.{AscFault}
use Rattle.sf_entry.specs.declared.track_setup.SetupFault.TheVariants.{Avc, Aac}
use Rattle.sf_entry.specs.declared.track_setup.TrackSetup.{TrackSetup}
use Rattle.sf_entry.specs.Steps.{◌>>=◌, as_fault}
use Rattle.sf_entry.specs.Asc.{asc_of}
use Rattle.sf_entry.specs.Stsd.{only_entry}
use Rattle.sf_entry.specs.TrackSetup.{video_track, sound_track, made_by, made}
use Rattle.sf_entry.proofs.SetupsBack.{sound_read, video_read}
use Rattle.sf_layout.specs.Written.{kind_as}
use Rattle.sf_layout.specs.Writable.{IsReadBack}

sound_kind : (setup : Setup) (track : TrackSetup) (found : Result Asc AscFault) → (as_fault Aac found >>= (λ asc. Ok (sound_track setup asc))) ≡ Ok track → track.kind ≡ setup.kind
unfolding sound_track
sound_kind setup track (Ok asc) e = let is : sound_track setup asc ≡ track = cc e in ap (λ (t : TrackSetup). t.kind) (sym is)
sound_kind setup track (Err fault) e = absurd (cc e)

sound_entry : (setup : Setup) (track : TrackSetup) → setup.kind ≡ kinds.Aac → length setup.config ≤ 65536 → made setup ≡ Ok track → IsReadBack track
unfolding made only_entry
sound_entry setup track kind le e =
    let by : made_by kinds.Aac setup ≡ Ok track = sym (ap (λ (k : Kind). made_by k setup) kind) ∙ e in
    let same : track.kind ≡ kinds.Aac = sound_kind setup track (asc_of setup.config) by ∙ kind in
    record { read = λ base. (_, sound_read base setup track kind le e, ap kind_as (sym same)) }

video_kind : (setup : Setup) (track : TrackSetup) (found : Result (List ℕ) ConfigFault) → (as_fault Avc found >>= (λ body. Ok (video_track setup body))) ≡ Ok track → track.kind ≡ setup.kind
unfolding video_track
video_kind setup track (Ok body) e = let is : video_track setup body ≡ track = cc e in ap (λ (t : TrackSetup). t.kind) (sym is)
video_kind setup track (Err fault) e = absurd (cc e)

video_by : (setup : Setup) (track : TrackSetup) (found : Result (List Nal) NalFault) → nals setup.config ≡ found → setup.kind ≡ kinds.Avc → made setup ≡ Ok track
    → (as_fault Avc (with_units found) >>= (λ body. Ok (video_track setup body))) ≡ Ok track → IsReadBack track
unfolding only_entry
video_by setup track (Ok units) is kind e by =
    let same : track.kind ≡ kinds.Avc = video_kind setup track (with_units (Ok units)) by ∙ kind in
    record { read = λ base. (_, video_read base setup track units kind is e, ap kind_as (sym same)) }
video_by setup track (Err fault) is kind e by = absurd (cc by)

video_entry : (setup : Setup) (track : TrackSetup) → setup.kind ≡ kinds.Avc → made setup ≡ Ok track → IsReadBack track
unfolding made made_config
video_entry setup track kind e = video_by setup track (nals setup.config) refl kind e (sym (ap (λ (k : Kind). made_by k setup) kind) ∙ e)

entry_by : (kind : Kind) (setup : Setup) (track : TrackSetup) → setup.kind ≡ kind → length setup.config ≤ 65536 → made setup ≡ Ok track → IsReadBack track
entry_by kinds.Avc setup track is le e = video_entry setup track is e
entry_by kinds.Aac setup track is le e = sound_entry setup track is le e

pub made_entry : (setup : Setup) (track : TrackSetup) → length setup.config ≤ 65536 → made setup ≡ Ok track → IsReadBack track
made_entry setup track le e = entry_by setup.kind setup track refl le e
