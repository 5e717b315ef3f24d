-- How many samples come before the first chunk of each entry of the sample-to-chunk box.
use Rattle.std.proofs.Common.{◌≡◌, ℕ, ◌+◌, ◌-◌, ◌*◌, ◌<◌, ◌≤◌, true, min, List, length, take, sum, get_or, ap, subst, ◌∙◌, arith}
use Rattle.std.specs.List.Sorted.{IsNonDecreasingBy}
use Rattle.std.proofs.lemmas.List.Sorted.{IsNonDecreasingBy-from_default}
use Rattle.sf_meaning.specs.ReadTables.{spreads_as}
use Rattle.sf_meaning.specs.SampleTables.{begins_rising}
use Rattle.sf_meaning.specs.declared.entries.ChunkRun.{ChunkRun}
use Rattle.sf_cursor.specs.inner.Sound.{AreChunkStarts, counts_in, no_run}
use Rattle.sf_cursor.proofs.ChunkSums.{sum-take}
use Rattle.sf_cursor.proofs.RunChunks.{InEntry, in_entry, first_first, firsts_rise, samples_next}

-- the first entry begins at 0
pub first_chunk_start : (runs : List ChunkRun) (n : ℕ) (starts : List ℕ) → begins_rising (spreads_as runs) ≡ true → AreChunkStarts runs n starts
    → 0 < length starts → get_or starts 0 0 ≡ 0
first_chunk_start runs n starts up a some =
    let none : (get_or runs 0 no_run).first - 1 ≡ 0 = omega (arith, first_first runs no_run up (omega (arith, a.long, some))) in
    a.at 0 some ∙ ap (λ (m : ℕ). min (sum (take m (counts_in runs n))) 4294967295) none ∙ omega arith

-- no sample comes before the first entry
pub begins_at : (runs : List ChunkRun) (n : ℕ) → begins_rising (spreads_as runs) ≡ true → 0 < length runs
    → 0 ≡ min (sum (take ((get_or runs 0 no_run).first - 1) (counts_in runs n))) 4294967295
begins_at runs n up some =
    let none : 0 ≡ (get_or runs 0 no_run).first - 1 = omega (arith, first_first runs no_run up some) in
    omega arith ∙ ap (λ (m : ℕ). min (sum (take m (counts_in runs n))) 4294967295) none

-- none begins before an earlier one
pub chunk_starts_rise : (runs : List ChunkRun) (n : ℕ) (starts : List ℕ) → begins_rising (spreads_as runs) ≡ true → AreChunkStarts runs n starts
    → IsNonDecreasingBy (λ (x : ℕ). x) starts
chunk_starts_rise runs n starts up a =
    IsNonDecreasingBy-from_default (λ (x : ℕ). x) starts 0 (λ i j le lt.
    let low : get_or starts i 0 ≡ min (sum (take ((get_or runs i no_run).first - 1) (counts_in runs n))) 4294967295 = a.at i (omega (arith, le, lt)) in
    let high : get_or starts j 0 ≡ min (sum (take ((get_or runs j no_run).first - 1) (counts_in runs n))) 4294967295 = a.at j lt in
    let firsts : (get_or runs i no_run).first ≤ (get_or runs j no_run).first = firsts_rise runs i j no_run up le (omega (arith, lt, a.long)) in
    omega (arith, low, high, sum-take (counts_in runs n) ((get_or runs i no_run).first - 1) ((get_or runs j no_run).first - 1) (omega (arith, firsts))))

-- the last entry that begins by a sample is that of its chunk
pub entry_found : (runs : List ChunkRun) (n : ℕ) (starts : List ℕ) (i r : ℕ) → begins_rising (spreads_as runs) ≡ true → AreChunkStarts runs n starts
    → r < length starts → get_or starts r 0 ≤ i → (r + 1 < length starts → i < get_or starts (r + 1) 0) → i < 4294967295 → i < sum (counts_in runs n)
    → InEntry runs n r i (i - get_or starts r 0)
entry_found runs n starts i r up a there begun next few reach =
    let at : get_or starts r 0 ≡ min (sum (take ((get_or runs r no_run).first - 1) (counts_in runs n))) 4294967295 = a.at r there in
    let same : sum (take ((get_or runs r no_run).first - 1) (counts_in runs n)) ≡ get_or starts r 0 = omega (arith, at, begun, few) in
    let found : InEntry runs n r i (i - sum (take ((get_or runs r no_run).first - 1) (counts_in runs n))) =
    in_entry runs n r i up (omega (arith, there, a.long)) (omega (arith, same, begun))
    (λ h.
    let lt : r + 1 < length starts = omega (arith, h, a.long) in
    let later : get_or starts (r + 1) 0 ≡ min (sum (take ((get_or runs (r + 1) no_run).first - 1) (counts_in runs n))) 4294967295 = a.at (r + 1) lt in
    omega (arith, later, next lt))
    reach in
    subst (λ (s : ℕ). InEntry runs n r i (i - s)) same found

-- how many samples come before the next entry's first chunk
pub next_start : (runs : List ChunkRun) (n r total : ℕ) → begins_rising (spreads_as runs) ≡ true
    → total ≡ min (sum (take ((get_or runs r no_run).first - 1) (counts_in runs n))) 4294967295 → r + 1 < length runs
    → min (total + (min ((get_or runs (r + 1) no_run).first - 1) n - min ((get_or runs r no_run).first - 1) n) * (get_or runs r no_run).per) 4294967295
    ≡ min (sum (take ((get_or runs (r + 1) no_run).first - 1) (counts_in runs n))) 4294967295
next_start runs n r total up is lt =
    omega (arith, is, samples_next runs n r up lt)
