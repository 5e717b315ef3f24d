-- The units of generated payloads, and the tracks of generated setups.
use Rattle.std.proofs.Common.{◌≡◌, ℕ, zero, suc, ◌+◌, ◌^◌, ◌≤◌, ◌<◌, ◌==◌, ◌⊎◌, Bool, true, false, List, [], ◌∷◌, ◌++◌, length, replicate, codes, Result, Ok, Err, refl, sym, ap, ◌∙◌, inl, inr, arith}
use Rattle.sf_tick.specs.declared.types.Kind.{Kind}
use Rattle.sf_tick.specs.declared.types.Kind.TheVariants.{Avc, Aac}
use Rattle.sf_tick.specs.declared.types.Setup.{Setup}
use Rattle.sf_avc.specs.Units.{Nal, after_start, nals, pieces, trimmed, units_of, kept_before}
use Rattle.sf_avc.specs.Stored.{after_length, prefixed, stored}
use Rattle.sf_entry.specs.declared.track_setup.TrackSetup.{TrackSetup}
use Rattle.sf_entry.specs.declared.asc.Asc.{Asc}
use Rattle.sf_entry.specs.TrackSetup.{made, video_track, sound_track}
use Rattle.sf_entry.specs.Avc1.{avc1_entry, avc1_body, video_fields}
use Rattle.sf_entry.specs.Mp4a.{mp4a_entry, mp4a_body}
use Rattle.sf_entry.specs.Asc.{asc_of, front_in, judged, object_in, stated_in}
use Rattle.sf_avc.specs.ConfigBody.{made_config, with_sets, config_body, sized_set, formats}
use Rattle.sf_avc.specs.Bits.{bits_of, number}
use Rattle.sf_avc.specs.Sps.{fields_of, sps_of, without_emulation, fixed, exp_golomb, plain_head, value, with_formats, zeros_in_front}
use Rattle.sf_avc.specs.declared.sps.SpsHead.{SpsHead}
use Rattle.std.proofs.lemmas.List.{length-append}
use Rattle.sf_box.specs.Boxes.{be16, be32, box_of}
use Rattle.sf_box.proofs.BoxLaws.{length-box_of, length-be16, length-be32}
use Rattle.sf_entry.specs.Mp4a.{descriptor, decoder_body, esds_body, rate_field, size_bytes, stream_body}

-- no start code stands in bytes 80
filling_pieces : (k : ℕ) → pieces (replicate k 128) ≡ replicate k 128 ∷ []
unfolding pieces
filling_pieces zero = refl
filling_pieces (suc zero) = refl
filling_pieces (suc (suc zero)) = refl
filling_pieces (suc (suc (suc k))) = rw (filling_pieces (suc (suc k))) refl

filling_trimmed : (k : ℕ) → trimmed (replicate k 128) ≡ replicate k 128
unfolding trimmed
filling_trimmed zero = refl
filling_trimmed (suc zero) = refl
filling_trimmed (suc (suc k)) = rw (filling_trimmed (suc k)) refl

-- the first byte of a unit that is a sync sample, or isn't
abbrev pub first_byte : Bool → ℕ
first_byte true = 101
first_byte false = 65

unit_pieces : (sync : Bool) (k : ℕ) → pieces (first_byte sync ∷ replicate k 128) ≡ (first_byte sync ∷ replicate k 128) ∷ []
unfolding pieces
unit_pieces true zero = refl
unit_pieces true (suc zero) = refl
unit_pieces true (suc (suc k)) = rw (filling_pieces (suc (suc k))) refl
unit_pieces false zero = refl
unit_pieces false (suc zero) = refl
unit_pieces false (suc (suc k)) = rw (filling_pieces (suc (suc k))) refl

unit_trimmed : (sync : Bool) (k : ℕ) → trimmed (first_byte sync ∷ replicate k 128) ≡ first_byte sync ∷ replicate k 128
unfolding trimmed
unit_trimmed true zero = refl
unit_trimmed true (suc k) = rw (filling_trimmed (suc k)) refl
unit_trimmed false zero = refl
unit_trimmed false (suc k) = rw (filling_trimmed (suc k)) refl

-- the only unit of a payload
abbrev pub only_unit : Bool → ℕ → Nal
only_unit sync k = record { at = 4; bytes = first_byte sync ∷ replicate k 128 }

pub payload_units : (sync : Bool) (k : ℕ) → nals (0 ∷ 0 ∷ 0 ∷ 1 ∷ first_byte sync ∷ replicate k 128) ≡ Ok (only_unit sync k ∷ [])
unfolding nals pieces units_of
payload_units sync k =
    rw (unit_pieces sync k) (rw (unit_trimmed sync k) refl)

-- the configuration of generated video
abbrev pub video_bytes : List ℕ
video_bytes = 0 ∷ 0 ∷ 0 ∷ 1 ∷ 103 ∷ 66 ∷ 0 ∷ 30 ∷ 240 ∷ 0 ∷ 0 ∷ 0 ∷ 1 ∷ 104 ∷ 206 ∷ 56 ∷ 128 ∷ []

abbrev pub sequence_set : List ℕ
sequence_set = 103 ∷ 66 ∷ 0 ∷ 30 ∷ 240 ∷ []

abbrev pub picture_set : List ℕ
picture_set = 104 ∷ 206 ∷ 56 ∷ 128 ∷ []

abbrev pub video_sets : List Nal
video_sets = record { at = 4; bytes = sequence_set } ∷ record { at = 13; bytes = picture_set } ∷ []

pub video_units : nals video_bytes ≡ Ok video_sets
unfolding nals pieces trimmed units_of
video_units = refl

-- the head of the sequence set
abbrev pub baseline : SpsHead
baseline = plain_head 66 0 30 0

video_head : sps_of sequence_set ≡ Ok baseline
unfolding sps_of fields_of without_emulation fixed exp_golomb value zeros_in_front with_formats bits_of number
video_head = refl

-- the body of the configuration record of video
abbrev pub video_body : List ℕ
video_body = config_body (sequence_set ∷ []) (picture_set ∷ []) baseline

video_config : made_config video_bytes ≡ Ok video_body
unfolding made_config with_sets
video_config = rw (video_units, video_head) refl

-- the track that is made of the setup of generated video
abbrev pub video_setup : Setup
video_setup = record { kind = Avc; scale = 0; width = 0; height = 0; channels = 0; config = video_bytes }

pub video_made : made video_setup ≡ Ok (video_track video_setup video_body)
unfolding made
video_made = rw video_config refl

-- the same for sound
abbrev pub sound_setup : Setup
sound_setup = record { kind = Aac; scale = 0; width = 0; height = 0; channels = 0; config = 17 ∷ 144 ∷ [] }

-- what its configuration says
abbrev pub stereo_says : Asc
stereo_says = record { object = 2; rate = 48000; channels = 2 }

stereo : asc_of (17 ∷ 144 ∷ []) ≡ Ok stereo_says
unfolding asc_of front_in judged object_in stated_in bits_of number
stereo = refl

pub sound_made : made sound_setup ≡ Ok (sound_track sound_setup stereo_says)
unfolding made
sound_made = rw stereo refl

-- ---- how long the entries are

fields_long : length (video_fields 0 0) ≡ 78
unfolding video_fields be16 be32
fields_long = refl

body_long : length video_body ≡ 20
unfolding config_body sized_set formats be16
body_long = refl

pub video_entry_long : length (avc1_entry 0 0 video_body) ≤ 1000000
unfolding avc1_entry avc1_body
video_entry_long =
    let body : List ℕ = video_fields 0 0 ++ box_of (codes "avcC") video_body in
    omega (arith, length-box_of (codes "avc1") body refl, length-append (video_fields 0 0) (box_of (codes "avcC") video_body), length-box_of (codes "avcC") video_body refl, fields_long, body_long)

esds_long : length (esds_body (17 ∷ 144 ∷ [])) ≡ 43
unfolding esds_body descriptor stream_body decoder_body size_bytes
esds_long = refl

pub sound_entry_long : length (mp4a_entry 2 48000 (17 ∷ 144 ∷ [])) ≤ 1000000
unfolding mp4a_entry mp4a_body
sound_entry_long =
    let esds : List ℕ = box_of (codes "esds") (esds_body (17 ∷ 144 ∷ [])) in
    let rest : List ℕ = be32 (rate_field 48000) ++ esds in
    let fields : List ℕ = 0 ∷ 16 ∷ 0 ∷ 0 ∷ 0 ∷ 0 ∷ rest in
    let body : List ℕ = 0 ∷ 0 ∷ 0 ∷ 0 ∷ 0 ∷ 0 ∷ 0 ∷ 1 ∷ 0 ∷ 0 ∷ 0 ∷ 0 ∷ 0 ∷ 0 ∷ 0 ∷ 0 ∷ (be16 2 ++ fields) in
    omega (
      arith,
      length-box_of (codes "mp4a") body refl,
      length-append (be16 2) fields,
      length-be16 2,
      length-append (be32 (rate_field 48000)) esds,
      length-be32 (rate_field 48000),
      length-box_of (codes "esds") (esds_body (17 ∷ 144 ∷ [])) refl,
      esds_long,
    )
