use Rattle.std.proofs.Common.{◌≡◌, ℕ, ◌+◌, ◌<◌, ◌≤◌, List, length, take, sum, get_or, sym, arith, inl, inr}
use Rattle.std.proofs.lemmas.Bool.{cases_lt}
use Rattle.std.proofs.lemmas.List.{length-map}
use Rattle.std.proofs.lemmas.List.Sums.{sum_by_more}
use Rattle.sf_meaning.specs.declared.entries.TimeRun.{TimeRun}
use Rattle.sf_cursor.specs.inner.Sound.{counts_of_runs}
use Rattle.sf_cursor.proofs.RunValues.{value_found, value_missing, run_count_at}
use Rattle.sf_cursor.proofs.StartLemmas.{starts_rise, begun_at, begins_later}
use Rattle.sf_cursor.proofs.look_up.value_at.Goals as goal

pub last_begun-k-requires-clause-rising : goal.last_begun-k-requires-clause-rising
last_begun-k-requires-clause-rising c = starts_rise (counts_of_runs c.args.runs.now) c.args.starts.now c.requires.starts

pub returns-then-i-starts : goal.returns-then-i-starts
returns-then-i-starts c =
    let counts : List ℕ = counts_of_runs c.args.runs.now in
    let starts : List ℕ = c.args.starts.now in
    let k : ℕ = c.last_begun-k.result in
    let long : length counts ≡ length c.args.runs.now = length-map c.args.runs.now (λ (r : TimeRun). r.count) in
    let begun : get_or starts k 0 ≡ sum (take k counts) = begun_at counts starts c.args.i k c.requires.starts c.last_begun-k.ensures.there c.last_begun-k.ensures.begun c.requires.few in
    sym (value_found c.args.runs.now k c.args.i (record { count = 0; delta = 0 }) (omega (arith, c.requires.starts.long, long, c.last_begun-k.ensures.there))
    (omega (arith, begun, c.last_begun-k.ensures.begun)) (omega (arith, begun, c.if-i-starts.true)))

pub returns-else-i-starts : goal.returns-else-i-starts
returns-else-i-starts c =
    let none : TimeRun = record { count = 0; delta = 0 } in
    let counts : List ℕ = counts_of_runs c.args.runs.now in
    let starts : List ℕ = c.args.starts.now in
    let k : ℕ = c.last_begun-k.result in
    let long : length counts ≡ length c.args.runs.now = length-map c.args.runs.now (λ (r : TimeRun). r.count) in
    let begun : get_or starts k 0 ≡ sum (take k counts) = begun_at counts starts c.args.i k c.requires.starts c.last_begun-k.ensures.there c.last_begun-k.ensures.begun c.requires.few in
    let there : k < length counts = omega (arith, c.requires.starts.long, c.last_begun-k.ensures.there) in
    let more : sum (take (k + 1) counts) ≡ sum (take k counts) + get_or counts k 0 = sum_by_more (λ (x : ℕ). x) counts k 0 there in
    let per : get_or counts k 0 ≡ (get_or c.args.runs.now k none).count = run_count_at c.args.runs.now k none (omega (arith, long, there)) in
    let after : sum (take (k + 1) counts) ≤ c.args.i = omega (arith, begun, more, per, c.if-i-starts.false, c.last_begun-k.ensures.begun) in
    let last : length c.args.runs.now ≤ k + 1 = elim (cases_lt (k + 1) (length starts)) [
      | inl next ↦
          let later : c.args.i < sum (take (k + 1) counts) = begins_later counts starts c.args.i (k + 1) c.requires.starts next (c.last_begun-k.ensures.next next) in
          absurd (omega (arith, later, after))
      | inr over ↦ omega (arith, over, long, c.requires.starts.long)
    ] in
    sym (value_missing c.args.runs.now (k + 1) c.args.i last after)
