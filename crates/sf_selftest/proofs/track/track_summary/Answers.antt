use Rattle.std.proofs.Common.{◌≡◌, ◌+◌, ℕ, drop, ap, ◌∙◌, arith}
use Rattle.sf_selftest.specs.inner.Listed.{samples_at, with_sample, with_samples}
use Rattle.sf_selftest.specs.declared.summary.TrackSummary.{TrackSummary}
use Rattle.sf_selftest.proofs.Counting.{one_most, told_more}
use Rattle.sf_selftest.proofs.track.track_summary.Goals as goal

pub loop-number-preserved : goal.loop-number-preserved
loop-number-preserved c =
    let at = c.loop-number in
    let i = at.invariant in
    let s = c.sample.result in
    let next : TrackSummary = c.with_sample-summary.result in
    let is : next ≡ with_sample at.summary s = c.with_sample-summary.ensures in
    let syncs = ap (λ (t : TrackSummary). t.syncs) is in
    let stored = ap (λ (t : TrackSummary). t.stored) is in
    record {
      told = ap (λ (t : TrackSummary). with_samples t (drop (at.number + 1) (samples_at c.args.movie.now.movie c.args.track))) is
          ∙ told_more c.args.movie.now.movie c.args.track at.number at.summary s _ c.sample.ensures.sample i.told;
      samples = ap (λ (t : TrackSummary). t.samples) is ∙ ap (λ (n : ℕ). n + 1) i.samples;
      syncs = omega (arith, syncs, one_most s.sync, i.syncs);
      stored = omega (arith, stored, c.sample.ensures.short, i.stored);
    }
