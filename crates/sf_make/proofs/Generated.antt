-- The generated inputs are read back, and their lengths.
use Rattle.std.proofs.Common.{◌≡◌, ℕ, zero, suc, ◌+◌, ◌*◌, ◌/◌, ◌%◌, ◌≤◌, ◌<◌, ◌^◌, inl, inr, List, [], ◌∷◌, ◌++◌, length, map, Some, None, refl, subst, ap, ◌∙◌, arith}
use Rattle.std.specs.List.{flat_map, range_with_len, AllByRecursion}
use Rattle.std.proofs.lemmas.Bool.{cases_lt}
use Rattle.std.proofs.lemmas.List.{length-append, length-replicate}
use Rattle.std.proofs.lemmas.List.FromFn.{length-map-range_with_len}
use Rattle.sf_tick.specs.declared.types.Kind.{Kind}
use Rattle.sf_tick.specs.declared.types.Kind.TheVariants.{Avc, Aac}
use Rattle.sf_coded.specs.CodedFile.{coded}
use Rattle.sf_make.specs.Writing.{header_bytes, record_bytes, coded_bytes, coded_samples, StatableSetup, StatableSample}
use Rattle.sf_make.specs.Generator.{generated_config, generated_setup, generated_payload, generated_sample, generated_samples, generated_input, sum_below, payload_total}
use Rattle.sf_make.proofs.Inputs.{records_more}
use Rattle.sf_make.proofs.Reading.{length-record, length-header, coded_back}

-- how many bytes a payload has
length-payload-avc : (i : ℕ) → length (generated_payload Avc i) ≡ 5 + i % 7
unfolding generated_payload
length-payload-avc i = omega (arith, length-replicate {A = ℕ} (i % 7) 128)

length-payload-aac : (i : ℕ) → length (generated_payload Aac i) ≡ 1 + i % 5
unfolding generated_payload
length-payload-aac i = omega (arith, length-replicate {A = ℕ} (i % 5) 128)

setup_fits : (kind : Kind) → StatableSetup (generated_setup kind)
unfolding generated_config
setup_fits Avc = record { scale = omega arith; width = omega arith; height = omega arith; channels = omega arith; config = omega arith }
setup_fits Aac = record { scale = omega arith; width = omega arith; height = omega arith; channels = omega arith; config = omega arith }

sample_fits : (kind : Kind) (i : ℕ) → i < 2 ^ 32 → StatableSample (generated_sample kind i)
sample_fits Avc i lt = record {
  dts = omega (arith, lt);
  pts = omega (arith, lt);
  some = omega (arith, length-payload-avc i);
  bound = omega (arith, length-payload-avc i);
}
sample_fits Aac i lt = record {
  dts = omega (arith, lt);
  pts = omega (arith, lt);
  some = omega (arith, length-payload-aac i);
  bound = omega (arith, length-payload-aac i);
}

samples_fit : (kind : Kind) (from count : ℕ) → from + count ≤ 2 ^ 32 → AllByRecursion StatableSample (map (generated_sample kind) (range_with_len from count))
samples_fit kind from zero le = tt
samples_fit kind from (suc count) le = (sample_fits kind from (omega (arith, le)), samples_fit kind (from + 1) count (omega (arith, le)))

pub input_back : (kind : Kind) (count : ℕ) → count ≤ 2 ^ 32
    → coded (generated_input kind count) ≡ record { setup = Some (generated_setup kind); samples = coded_samples (22 + length (generated_config kind)) (generated_samples kind count); end = None }
input_back kind count le = coded_back (generated_setup kind) (generated_samples kind count) (setup_fits kind) (samples_fit kind 0 count (omega (arith, le)))

pub length-samples : (kind : Kind) (count : ℕ) → length (generated_samples kind count) ≡ count
length-samples kind count = length-map-range_with_len (generated_sample kind) 0 count

-- one sample more, whose payload has a remainder by 7 of filling
turn_7 : (n : ℕ) → 21 * ((n + 1) / 7) + sum_below ((n + 1) % 7) ≡ (21 * (n / 7) + sum_below (n % 7)) + n % 7
unfolding sum_below
turn_7 n =
    elim (cases_lt (n % 7) 6) [
      | inl less ↦
          let q : (n + 1) / 7 ≡ n / 7 = omega (arith, less) in
          let r : (n + 1) % 7 ≡ suc (n % 7) = omega (arith, less) in
          rw (q, r) (omega arith)
      | inr ends ↦
          let last : n % 7 ≡ 6 = omega (arith, ends) in
          let q : (n + 1) / 7 ≡ n / 7 + 1 = omega (arith, last) in
          let r : (n + 1) % 7 ≡ 0 = omega (arith, last) in
          rw (q, r, last) (omega arith)
    ]

-- one sample more, whose payload has a remainder by 5 of filling
turn_5 : (n : ℕ) → 10 * ((n + 1) / 5) + sum_below ((n + 1) % 5) ≡ (10 * (n / 5) + sum_below (n % 5)) + n % 5
unfolding sum_below
turn_5 n =
    elim (cases_lt (n % 5) 4) [
      | inl less ↦
          let q : (n + 1) / 5 ≡ n / 5 = omega (arith, less) in
          let r : (n + 1) % 5 ≡ suc (n % 5) = omega (arith, less) in
          rw (q, r) (omega arith)
      | inr ends ↦
          let last : n % 5 ≡ 4 = omega (arith, ends) in
          let q : (n + 1) / 5 ≡ n / 5 + 1 = omega (arith, last) in
          let r : (n + 1) % 5 ≡ 0 = omega (arith, last) in
          rw (q, r, last) (omega arith)
    ]

-- one record more
total_more : (kind : Kind) (n : ℕ) → length (flat_map record_bytes (generated_samples kind (n + 1))) ≡ length (flat_map record_bytes (generated_samples kind n)) + (22 + length (generated_payload kind n))
total_more kind n =
    ap (λ (bytes : List ℕ). length bytes) (records_more kind n)
    ∙ omega (arith, length-append (flat_map record_bytes (generated_samples kind n)) (record_bytes (generated_sample kind n)), length-record (generated_sample kind n))

-- how many bytes so many records of a kind take
abbrev Total : Kind → ℕ → Type 0
Total kind n = length (flat_map record_bytes (generated_samples kind n)) ≡ 22 * n + payload_total kind n

records_total : (kind : Kind) (n : ℕ) → Total kind n
unfolding sum_below
records_total Avc zero = refl
records_total Aac zero = refl
records_total Avc (suc n) =
    let more : Total Avc (n + 1) = omega (arith, total_more Avc n, length-payload-avc n, turn_7 n, records_total Avc n) in
    subst (Total Avc) (omega arith) more
records_total Aac (suc n) =
    let more : Total Aac (n + 1) = omega (arith, total_more Aac n, length-payload-aac n, turn_5 n, records_total Aac n) in
    subst (Total Aac) (omega arith) more

pub length-input : (kind : Kind) (count : ℕ) → length (generated_input kind count) ≡ 22 + length (generated_config kind) + (22 * count + payload_total kind count) + 1
unfolding coded_bytes
length-input kind count =
    omega (
      arith,
      length-append (header_bytes (generated_setup kind)) (flat_map record_bytes (generated_samples kind count) ++ 0 ∷ []),
      length-append (flat_map record_bytes (generated_samples kind count)) (0 ∷ []),
      length-header (generated_setup kind),
      records_total kind count,
    )
