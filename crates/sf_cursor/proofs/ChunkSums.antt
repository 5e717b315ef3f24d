-- The chunk of a sample, by the sums of the chunks' counts.
use Rattle.std.proofs.Common.{◌≡◌, ℕ, ◌+◌, ◌-◌, ◌<◌, ◌≤◌, List, length, take, sum, get_or, arith, inl, inr}
use Rattle.std.proofs.lemmas.Bool.{cases_lt}
use Rattle.std.proofs.lemmas.List.{take-take, take_all}
use Rattle.std.proofs.lemmas.List.Sums.{sum_by_more, sum_by-take-le}
use Rattle.sf_meaning.specs.SampleAt.{IsChunkOf}

-- the first items sum to no more than more of them
pub sum-take : (xs : List ℕ) (m n : ℕ) → m ≤ n → sum (take m xs) ≤ sum (take n xs)
sum-take xs m n le =
    let part : sum (take m (take n xs)) ≤ sum (take n xs) = sum_by-take-le (λ (x : ℕ). x) (take n xs) m in
    let same : take m (take n xs) ≡ take m xs = take-take m n xs le in
    rw (← same) part

pub chunk_found : (counts : List ℕ) (i c left : ℕ) → c < length counts → sum (take c counts) + left ≡ i → left < get_or counts c 0 → IsChunkOf counts i c
chunk_found counts i c left there e lt =
    let more : sum (take (c + 1) counts) ≡ sum (take c counts) + get_or counts c 0 = sum_by_more (λ (x : ℕ). x) counts c 0 there in
    record {
      past = omega (arith, more, e, lt);
      least = λ d past. elim (cases_lt d c) [
        | inl before ↦ absurd (omega (arith, past, e, sum-take counts (d + 1) c (omega (arith, before))))
        | inr after ↦ after
      ];
    }

-- a chunk that begins by a sample, where the next one doesn't
pub last_chunk : (counts : List ℕ) (i c : ℕ) → c < length counts → sum (take c counts) ≤ i → (c + 1 < length counts → i < sum (take (c + 1) counts)) → i < sum counts → IsChunkOf counts i c
last_chunk counts i c there begun next all =
    let more : sum (take (c + 1) counts) ≡ sum (take c counts) + get_or counts c 0 = sum_by_more (λ (x : ℕ). x) counts c 0 there in
    let past : i < sum (take (c + 1) counts) = elim (cases_lt (c + 1) (length counts)) [
      | inl one ↦ next one
      | inr last ↦
          let whole : take (c + 1) counts ≡ counts = take_all (c + 1) counts last in
          rw whole all
    ] in
    chunk_found counts i c (i - sum (take c counts)) there (omega (arith, begun)) (omega (arith, more, past, begun))
