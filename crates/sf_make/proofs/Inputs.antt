-- An input grows by a record, and the inputs by an input.
use Rattle.std.proofs.Common.{◌≡◌, ℕ, ◌+◌, List, [], ◌∷◌, ◌++◌, refl, sym, ap, ◌∙◌, append_assoc, arith}
use Rattle.std.specs.List.{flat_map}
use Rattle.std.proofs.lemmas.Grind.{flat_map-append}
use Rattle.std.proofs.lemmas.List.{append-nil}
use Rattle.std.proofs.lemmas.List.FromFn.{map-range_with_len_more}
use Rattle.sf_tick.specs.declared.types.Kind.{Kind}
use Rattle.sf_make.specs.Writing.{header_bytes, record_bytes, coded_bytes}
use Rattle.sf_make.specs.Generator.{generated_kind, generated_setup, generated_sample, generated_samples, generated_input, generated_inputs}

joined : (xs ys zs : List ℕ) → (xs ++ ys) ++ zs ≡ xs ++ (ys ++ zs)
joined xs ys zs = simp append_assoc refl

-- the records of one sample more
pub records_more : (kind : Kind) (n : ℕ) → flat_map record_bytes (generated_samples kind (n + 1)) ≡ flat_map record_bytes (generated_samples kind n) ++ record_bytes (generated_sample kind n)
records_more kind n =
    ap (flat_map record_bytes) (map-range_with_len_more (generated_sample kind) 0 n n (omega arith))
    ∙ flat_map-append record_bytes (generated_samples kind n) (generated_sample kind n ∷ [])
    ∙ ap (λ (bytes : List ℕ). flat_map record_bytes (generated_samples kind n) ++ bytes) (append-nil (record_bytes (generated_sample kind n)))

-- an input so far, with the record of the next sample
pub input_more : (kind : Kind) (n : ℕ) (before after : List ℕ) → before ≡ header_bytes (generated_setup kind) ++ flat_map record_bytes (generated_samples kind n)
    → after ≡ before ++ record_bytes (generated_sample kind n) → after ≡ header_bytes (generated_setup kind) ++ flat_map record_bytes (generated_samples kind (n + 1))
input_more kind n before after b a =
    a
    ∙ ap (λ (bytes : List ℕ). bytes ++ record_bytes (generated_sample kind n)) b
    ∙ joined (header_bytes (generated_setup kind)) (flat_map record_bytes (generated_samples kind n)) (record_bytes (generated_sample kind n))
    ∙ ap (λ (bytes : List ℕ). header_bytes (generated_setup kind) ++ bytes) (sym (records_more kind n))

-- an input so far, with the end
pub input_ends : (kind : Kind) (n count : ℕ) (before after : List ℕ) → n ≡ count → before ≡ header_bytes (generated_setup kind) ++ flat_map record_bytes (generated_samples kind n)
    → after ≡ before ++ 0 ∷ [] → after ≡ generated_input kind count
unfolding coded_bytes
input_ends kind n count before after same b a = rw (← same) (a ∙ ap (λ (bytes : List ℕ). bytes ++ 0 ∷ []) b ∙ joined (header_bytes (generated_setup kind)) (flat_map record_bytes (generated_samples kind n)) (0 ∷ []))

-- the inputs of one track more
pub inputs_more : (count n : ℕ) → generated_inputs count (n + 1) ≡ generated_inputs count n ++ generated_input (generated_kind n) count ∷ []
inputs_more count n = map-range_with_len_more (λ t. generated_input (generated_kind t) count) 0 n n (omega arith)
