-- The length of a sample entry that is made of a setup with a short configuration.
use Rattle.std.proofs.Common.{◌≡◌, ℕ, ◌+◌, ◌*◌, ◌^◌, ◌≤◌, Bool, true, false, cond, List, [], ◌∷◌, ◌++◌, length, map, codes, Result, Ok, Err, refl, subst, arith}
use Rattle.std.specs.List.{filter, flat_map}
use Rattle.std.proofs.lemmas.List.{length-append}
use Rattle.sf_tick.specs.declared.types.Kind.{Kind}
use Rattle.sf_tick.specs.declared.types.Kind.TheVariants as kinds
use Rattle.sf_tick.specs.declared.types.Setup.{Setup}
use Rattle.sf_box.specs.Boxes.{be16, be32, box_of}
use Rattle.sf_box.proofs.BoxLaws.{length-be16, length-box_of}
use Rattle.sf_avc.specs.declared.nal.NalFault.{NalFault}
use Rattle.sf_avc.specs.declared.config_body.ConfigFault.{ConfigFault}
use Rattle.sf_avc.specs.declared.sps.SpsHead.{SpsHead}
use Rattle.sf_avc.specs.ConfigBody.{config_body, is_type, made_config, of_type, sized_set, too_long, with_units}
use Rattle.sf_avc.specs.Units.{Nal, nals}
use Rattle.sf_gather.proofs.Sizes.{codes as with_codes, nals_codes}
use Rattle.sf_entry.specs.declared.asc.Asc.{Asc}
use Rattle.sf_entry.specs.declared.asc.AscFault.{AscFault}
use Rattle.sf_entry.specs.declared.track_setup.SetupFault.TheVariants.{Avc, Aac}
use Rattle.sf_entry.specs.declared.track_setup.TrackSetup.{TrackSetup}
use Rattle.sf_entry.specs.Asc.{asc_of}
use Rattle.sf_entry.specs.Avc1.{avc1_body, avc1_entry, video_fields}
use Rattle.sf_entry.specs.Mp4a.{decoder_body, descriptor, esds_body, mp4a_body, mp4a_entry, size_bytes, stream_body}
use Rattle.sf_entry.specs.Steps.{◌>>=◌, as_fault}
use Rattle.sf_entry.specs.TrackSetup.{default, made, made_by, sound_track, video_track}
use Rattle.sf_entry.proofs.ConfigLength.{body_parts, has_room, with_sets_within}

-- how long lists are together
abbrev sum_len : List (List ℕ) → ℕ
sum_len [] = 0
sum_len (x ∷ xs) = length x + sum_len xs

abbrev bytes_of : List Nal → List (List ℕ)
bytes_of us = map (λ (u : Nal). u.bytes) us

-- with a start code before each unit they are longer
codes_sum : (us : List Nal) → sum_len (bytes_of us) ≤ with_codes us
codes_sum [] = omega arith
codes_sum (u ∷ us) = omega (arith, codes_sum us)

-- the units of a payload aren't longer than it
nals_sum : (payload : List ℕ) (us : List Nal) → nals payload ≡ Ok us → sum_len (bytes_of us) ≤ length payload
nals_sum payload us e = omega (arith, codes_sum us, nals_codes payload us e)

filter_if : (b : Bool) (x : List ℕ) (xs : List (List ℕ)) (n : ℕ) → sum_len xs ≤ n → sum_len (cond b (x ∷ xs) xs) ≤ length x + n
filter_if true x xs n less = omega (arith, less)
filter_if false x xs n less = omega (arith, less)

filter_sum : (P : List ℕ → Bool) (xs : List (List ℕ)) → sum_len (filter P xs) ≤ sum_len xs
filter_sum P [] = omega arith
filter_sum P (x ∷ xs) = filter_if (P x) x (filter P xs) (sum_len xs) (filter_sum P xs)

sized_sum : (sets : List (List ℕ)) → length (flat_map sized_set sets) ≤ 2 * length sets + sum_len sets
unfolding sized_set
sized_sum [] = omega arith
sized_sum (set ∷ sets) =
    let whole = length-append (sized_set set) (flat_map sized_set sets) in
    let one = length-append (be16 (length set)) set in
    omega (arith, whole, one, length-be16 (length set), sized_sum sets)

body_short : (sps pps : List (List ℕ)) (head : SpsHead) → too_long sps pps ≡ false → length (config_body sps pps head) ≤ 600 + (sum_len sps + sum_len pps)
body_short sps pps head room =
    let few = has_room sps pps room in
    omega (arith, few.few_sps, few.few_pps, sized_sum sps, sized_sum pps, body_parts sps pps head)

with_units_short : (found : Result (List Nal) NalFault) (body : List ℕ) (n : ℕ) → ((us : List Nal) → found ≡ Ok us → sum_len (bytes_of us) ≤ n) → with_units found ≡ Ok body → length body ≤ 600 + (n + n)
with_units_short (Ok us) body n short e =
    let less = short us refl in
    let sps = of_type 7 us in
    let pps = of_type 8 us in
    omega (arith, with_sets_within (600 + (sum_len sps + sum_len pps)) sps pps body (body_short sps pps) e, filter_sum (is_type 7) (bytes_of us), filter_sum (is_type 8) (bytes_of us), less)
with_units_short (Err fault) body n short e = absurd (cc e)

-- a configuration record that is made of a configuration
config_short : (config body : List ℕ) → made_config config ≡ Ok body → length body ≤ 600 + (length config + length config)
unfolding made_config
config_short config body e = with_units_short (nals config) body (length config) (nals_sum config) e

fields_long : (width height : ℕ) → length (video_fields width height) ≡ 78
unfolding video_fields be16 be32
fields_long width height = refl

avc1_long : (width height : ℕ) (config : List ℕ) → length (avc1_entry width height config) ≡ 94 + length config
unfolding avc1_entry avc1_body
avc1_long width height config =
    let inner = length-box_of (codes "avcC") config refl in
    let whole = length-box_of (codes "avc1") (avc1_body width height config) refl in
    omega (arith, inner, fields_long width height, whole, length-append (video_fields width height) (box_of (codes "avcC") config))

video_short : (setup : Setup) (track : TrackSetup) (r : Result (List ℕ) ConfigFault) (n : ℕ) → ((body : List ℕ) → r ≡ Ok body → length body ≤ n) → (as_fault Avc r >>= (λ config. Ok (video_track setup config))) ≡ Ok track
    → length track.entry ≤ 94 + n
unfolding video_track
video_short setup track (Ok body) n short e =
    let is : video_track setup body ≡ track = cc e in
    let less = short body refl in
    subst (λ (t : TrackSetup). length t.entry ≤ 94 + n) is (omega (arith, avc1_long setup.width setup.height body, less))
video_short setup track (Err fault) n short e = absurd (cc e)

descriptor_long : (tag : ℕ) (body : List ℕ) → length (descriptor tag body) ≡ 5 + length body
unfolding descriptor size_bytes
descriptor_long tag body = omega arith

sound_fields_long : (channels rate : ℕ) (config : List ℕ) → length (mp4a_body channels rate config) ≡ 28 + length (box_of (codes "esds") (esds_body config))
unfolding mp4a_body be16 be32
sound_fields_long channels rate config = omega arith

esds_long : (config : List ℕ) → length (esds_body config) ≡ 4 + length (descriptor 3 (stream_body config))
unfolding esds_body
esds_long config = omega arith

stream_long : (config : List ℕ) → length (stream_body config) ≡ 3 + length (descriptor 4 (decoder_body config) ++ descriptor 6 (2 ∷ []))
unfolding stream_body
stream_long config = omega arith

decoder_long : (config : List ℕ) → length (decoder_body config) ≡ 13 + length (descriptor 5 config)
unfolding decoder_body
decoder_long config = omega arith

mp4a_long : (channels rate : ℕ) (config : List ℕ) → length (mp4a_entry channels rate config) ≡ 85 + length config
unfolding mp4a_entry
mp4a_long channels rate config =
    let whole = length-box_of (codes "mp4a") (mp4a_body channels rate config) refl in
    let inner = length-box_of (codes "esds") (esds_body config) refl in
    omega (arith, whole, inner, sound_fields_long channels rate config, esds_long config, stream_long config, decoder_long config, length-append (descriptor 4 (decoder_body config)) (descriptor 6 (2 ∷ [])), descriptor_long 3 (stream_body config), descriptor_long 4 (decoder_body config), descriptor_long 5 config, descriptor_long 6 (2 ∷ []))

sound_short : (setup : Setup) (track : TrackSetup) (r : Result Asc AscFault) → (as_fault Aac r >>= (λ asc. Ok (sound_track setup asc))) ≡ Ok track → length track.entry ≤ 85 + length setup.config
unfolding sound_track
sound_short setup track (Ok asc) e =
    let is : sound_track setup asc ≡ track = cc e in
    subst (λ (t : TrackSetup). length t.entry ≤ 85 + length setup.config) is (omega (arith, mp4a_long (default setup.channels asc.channels) asc.rate setup.config))
sound_short setup track (Err fault) e = absurd (cc e)

kind_short : (kind : Kind) (setup : Setup) (track : TrackSetup) → made_by kind setup ≡ Ok track → length setup.config ≤ 65536 → length track.entry ≤ 2 ^ 18
kind_short kinds.Avc setup track e le =
    omega (arith, le, video_short setup track (made_config setup.config) (600 + (length setup.config + length setup.config)) (λ body is. config_short setup.config body is) e)
kind_short kinds.Aac setup track e le = omega (arith, le, sound_short setup track (asc_of setup.config) e)

-- the entry of a track that is made of a setup is short
pub entry_short : (setup : Setup) (track : TrackSetup) → made setup ≡ Ok track → length setup.config ≤ 65536 → length track.entry ≤ 2 ^ 18
unfolding made
entry_short setup track e le = kind_short setup.kind setup track e le
