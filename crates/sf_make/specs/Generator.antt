-- The inputs that the generator makes. Track t is AVC where t is even, and AAC where it is odd. They are no pictures or
-- sounds that can be decoded.
use Rattle.std.specs.Prelude.{ℕ, zero, suc, ◌+◌, ◌*◌, ◌/◌, ◌%◌, ◌==◌, if◌then◌else◌, Bool, true, List, [], ◌∷◌, map, replicate}
use Rattle.std.specs.List.{range_with_len}
use Rattle.sf_tick.specs.declared.types.Kind.{Kind}
use Rattle.sf_tick.specs.declared.types.Kind.TheVariants.{Avc, Aac}
use Rattle.sf_tick.specs.declared.types.Setup.{Setup}
use Rattle.sf_tick.specs.declared.types.Sample.{Sample}
use Rattle.sf_make.specs.Writing.{coded_bytes}

-- the kind of a track
abbrev pub generated_kind : ℕ → Kind
generated_kind t = if t % 2 == 0 then Avc else Aac

-- The configuration of a kind. AVC: 00 00 00 01 67 42 00 1E F0, a sequence parameter set after its start code, and
-- 00 00 00 01 68 CE 38 80, a picture parameter set after its. AAC: 11 90.
unfoldable pub generated_config : Kind → List ℕ
generated_config Avc = 0 ∷ 0 ∷ 0 ∷ 1 ∷ 103 ∷ 66 ∷ 0 ∷ 30 ∷ 240 ∷ 0 ∷ 0 ∷ 0 ∷ 1 ∷ 104 ∷ 206 ∷ 56 ∷ 128 ∷ []
generated_config Aac = 17 ∷ 144 ∷ []

-- the setup of a kind: its configuration, and 0 for all else
abbrev pub generated_setup : Kind → Setup
generated_setup kind = record {
  kind = kind;
  scale = 0;
  width = 0;
  height = 0;
  channels = 0;
  config = generated_config kind;
}

-- how far apart the samples of a kind are, in microseconds
abbrev pub spacing_us : Kind → ℕ
spacing_us Avc = 33333
spacing_us Aac = 21333

-- whether sample i of a kind is a sync sample: each of AAC, and each thirtieth of AVC
abbrev pub generated_sync : Kind → ℕ → Bool
generated_sync Avc i = i % 30 == 0
generated_sync Aac i = true

-- The payload of sample i of a kind. AVC: the start code 00 00 00 01, then 65 in a sync sample, else 41, then i mod 7
-- bytes 80. AAC: 21, then i mod 5 bytes 80.
unfoldable pub generated_payload : Kind → ℕ → List ℕ
generated_payload Avc i = 0 ∷ 0 ∷ 0 ∷ 1 ∷ (if i % 30 == 0 then 101 else 65) ∷ replicate (i % 7) 128
generated_payload Aac i = 33 ∷ replicate (i % 5) 128

-- sample i of a kind, which is shown when it is decoded
abbrev pub generated_sample : Kind → ℕ → Sample
generated_sample kind i = record {
  dts_us = spacing_us kind * i;
  pts_us = spacing_us kind * i;
  sync = generated_sync kind i;
  bytes = generated_payload kind i;
}

-- so many samples of a kind
abbrev pub generated_samples : Kind → ℕ → List Sample
generated_samples kind count = map (generated_sample kind) (range_with_len 0 count)

-- the input with so many samples of a kind
abbrev pub generated_input : Kind → ℕ → List ℕ
generated_input kind count = coded_bytes (generated_setup kind) (generated_samples kind count)

-- the inputs of so many tracks, each with so many samples
abbrev pub generated_inputs : ℕ → ℕ → List (List ℕ)
generated_inputs count tracks = map (λ t. generated_input (generated_kind t) count) (range_with_len 0 tracks)

-- the sum of the numbers below a number
unfoldable pub sum_below : ℕ → ℕ
sum_below zero = 0
sum_below (suc n) = sum_below n + n

-- how many bytes the payloads of so many samples of a kind take
abbrev pub payload_total : Kind → ℕ → ℕ
payload_total Avc count = 5 * count + (21 * (count / 7) + sum_below (count % 7))
payload_total Aac count = count + (10 * (count / 5) + sum_below (count % 5))
