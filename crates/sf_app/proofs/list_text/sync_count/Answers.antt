use Rattle.std.proofs.Common.{◌≡◌, ℕ, ◌+◌, List, length, sym, ap, ◌∙◌, arith}
use Rattle.std.proofs.lemmas.List.{take_all}
use Rattle.sf_meaning.specs.declared.movie.PlainSample.{PlainSample}
use Rattle.sf_app.specs.ListText.{sync_count}
use Rattle.sf_app.specs.inner.Listing.{track_at}
use Rattle.sf_app.proofs.Listing.{count_told, sync_more, sync_no_more}
use Rattle.sf_app.proofs.list_text.sync_count.Goals.{then-sample, else-sample}
use Rattle.sf_app.proofs.list_text.sync_count.Goals as goal

pub loop-number-preserved : goal.loop-number-preserved
loop-number-preserved c =
    let m = c.args.movie.now.movie in
    let t : ℕ = c.args.track in
    let i : ℕ = c.loop-number.number in
    let s : PlainSample = c.sample.result in
    elim c.if-sample.branch [
      | then-sample w ↦ record {
        few = omega (arith, w.syncs-is, c.loop-number.invariant.few);
        counted = w.syncs-is ∙ ap (λ (n : ℕ). n + 1) c.loop-number.invariant.counted ∙ sym (sync_more m t i s c.requires c.sample.ensures.sample w.if-sample.true);
      }
      | else-sample w ↦ record {
        few = omega (arith, w.syncs-is, c.loop-number.invariant.few);
        counted = w.syncs-is ∙ c.loop-number.invariant.counted ∙ sym (sync_no_more m t i s c.requires c.sample.ensures.sample w.if-sample.false);
      }
    ]

pub returns : goal.returns
returns c =
    let m = c.args.movie.now.movie in
    let samples : List PlainSample = (track_at m c.args.track).samples in
    let count : c.count-number-end.result ≡ length samples = count_told m c.args.track c.count-number-end.result c.requires c.count-number-end.ensures in
    c.loop-number.invariant.counted ∙ ap sync_count (take_all c.loop-number.number samples (omega (arith, count, c.loop-number-test.false)))
