use Rattle.std.proofs.Common.{◌≡◌, ℕ, ◌+◌, ◌-◌, ◌*◌, ◌/◌, ◌^◌, ◌<◌, ◌≤◌, min, List, length, take, sum, get_or, sym, ap, subst, ◌∙◌, arith}
use Rattle.std.proofs.lemmas.List.{length-map}
use Rattle.std.proofs.lemmas.List.Sums.{sum_by_more}
use Rattle.sf_meaning.specs.ReadTables.{time_runs}
use Rattle.sf_meaning.specs.Tables.{expand}
use Rattle.sf_meaning.specs.SampleAt.{IsChunkOf}
use Rattle.sf_meaning.specs.declared.entries.TimeRun.{TimeRun}
use Rattle.sf_cursor.specs.inner.Sound.{counts_of_runs}
use Rattle.sf_cursor.proofs.ChunkSums.{last_chunk}
use Rattle.sf_cursor.proofs.RunValues.{run_count_at}
use Rattle.sf_cursor.proofs.StartLemmas.{starts_rise, begun_at, begins_later, start_not_above}
use Rattle.sf_cursor.proofs.TickSums.{sum_to}
use Rattle.sf_cursor.proofs.ticks.decode_at.Goals as goal

pub last_begun-k-requires-clause-rising : goal.last_begun-k-requires-clause-rising
last_begun-k-requires-clause-rising c = starts_rise (counts_of_runs c.args.runs.now) c.args.starts.now c.requires.starts

pub overflow_sub-before : goal.overflow_sub-before
overflow_sub-before c =
    let low : 16 * (c.last_begun-k.result / 16) ≤ c.last_begun-k.result = omega arith in
    let early = start_not_above (counts_of_runs c.args.runs.now) c.args.starts.now (16 * (c.last_begun-k.result / 16)) c.last_begun-k.result c.requires.starts low c.last_begun-k.ensures.there in
    omega (arith, early, c.last_begun-k.ensures.begun, c.requires.few)

pub after_runs-lasting-requires-clause-before : goal.after_runs-lasting-requires-clause-before
after_runs-lasting-requires-clause-before c =
    let runs : List TimeRun = c.args.runs.now in
    let counts : List ℕ = counts_of_runs runs in
    let starts : List ℕ = c.args.starts.now in
    let k : ℕ = c.last_begun-k.result in
    let block : ℕ = k / 16 in
    let low : 16 * block ≤ k = omega arith in
    let long : length counts ≡ length runs = length-map runs (λ (r : TimeRun). r.count) in
    let early = start_not_above counts starts (16 * block) k c.requires.starts low c.last_begun-k.ensures.there in
    let by : get_or starts (16 * block) 0 ≤ c.args.i = omega (arith, early, c.last_begun-k.ensures.begun) in
    let begun : get_or starts (16 * block) 0 ≡ sum (take (16 * block) counts) =
    begun_at counts starts c.args.i (16 * block) c.requires.starts (omega (arith, low, c.last_begun-k.ensures.there)) by (omega (arith, c.requires.few)) in
    let there : block < length c.args.ticks.now = omega (arith, c.requires.ticks.long, c.requires.starts.long, long, c.last_begun-k.ensures.there) in
    let reached : min (sum (take (16 * block) counts)) 16777216 ≡ 16777216 - (16777216 - get_or starts (16 * block) 0) = omega (arith, begun, by, c.requires.few) in
    record {
      few = omega arith;
      counted = reached;
      ticks = c.requires.ticks.at block there ∙ ap (λ (n : ℕ). sum (take n (expand (time_runs runs)))) reached;
      bound = subst (λ (n : ℕ). get_or c.args.ticks.now block 0 ≤ n * 2 ^ 32) reached (c.requires.ticks.bound block there);
    }

pub ticks_after-requires-clause-before : goal.ticks_after-requires-clause-before
ticks_after-requires-clause-before c = omega (arith, c.after_runs-lasting.ensures.bound)

pub returns-clause-bound : goal.returns-clause-bound
returns-clause-bound c = omega (arith, c.after_runs-lasting.ensures.bound, c.ticks_after.ensures.bound, c.requires.few)

pub returns-clause-exact : goal.returns-clause-exact
returns-clause-exact c =
    let none : TimeRun = record { count = 0; delta = 0 } in
    let runs : List TimeRun = c.args.runs.now in
    let counts : List ℕ = counts_of_runs runs in
    let starts : List ℕ = c.args.starts.now in
    let k : ℕ = c.last_begun-k.result in
    let s : ℕ = sum (take k counts) in
    let long : length counts ≡ length runs = length-map runs (λ (r : TimeRun). r.count) in
    let begun : get_or starts k 0 ≡ s = begun_at counts starts c.args.i k c.requires.starts c.last_begun-k.ensures.there c.last_begun-k.ensures.begun (omega (arith, c.requires.few)) in
    let there : k < length counts = omega (arith, c.requires.starts.long, c.last_begun-k.ensures.there) in
    let by : s ≤ c.args.i = omega (arith, begun, c.last_begun-k.ensures.begun) in
    let chunk : IsChunkOf counts c.args.i k = last_chunk counts c.args.i k there by
    (λ h. begins_later counts starts c.args.i (k + 1) c.requires.starts (omega (arith, c.requires.starts.long, h)) (c.last_begun-k.ensures.next (omega (arith, c.requires.starts.long, h))))
    c.requires.reach in
    let past : c.args.i < sum (take (k + 1) counts) = chunk.past in
    let more : sum (take (k + 1) counts) ≡ s + get_or counts k 0 = sum_by_more (λ (x : ℕ). x) counts k 0 there in
    let per : get_or counts k 0 ≡ (get_or runs k none).count = run_count_at runs k none (omega (arith, long, there)) in
    let enough : c.args.i - s ≤ (get_or runs k none).count = omega (arith, past, more, per) in
    let whole : s + (c.args.i - s) ≡ c.args.i = omega (arith, by) in
    let first : min s 16777216 ≡ s = omega (arith, by, c.requires.few) in
    let reached : 16777216 - c.after_runs-lasting.result.left ≡ s = omega (arith, c.after_runs-lasting.ensures.counted, first) in
    let before : c.after_runs-lasting.result.ticks ≡ sum (take s (expand (time_runs runs))) =
    c.after_runs-lasting.ensures.ticks ∙ ap (λ (n : ℕ). sum (take n (expand (time_runs runs)))) reached in
    let to = sum_to runs k (c.args.i - s) none (omega (arith, long, there)) enough in
    let all : sum (take c.args.i (expand (time_runs runs))) ≡ sum (take s (expand (time_runs runs))) + (c.args.i - s) * (get_or runs k none).delta =
    sym (ap (λ (n : ℕ). sum (take n (expand (time_runs runs)))) whole) ∙ to in
    c.ticks_after.ensures.exact
    ∙ ap (λ (n : ℕ). n + (c.args.i - get_or starts k 0) * (get_or runs k none).delta) before
    ∙ ap (λ (n : ℕ). sum (take s (expand (time_runs runs))) + (c.args.i - n) * (get_or runs k none).delta) begun
    ∙ sym all
