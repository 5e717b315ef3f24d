use Rattle.std.proofs.Common.{ℕ, ◌<◌, List, Some, take, length, get_or, ap, sym, ◌∙◌, arith}
use Rattle.std.proofs.lemmas.Grind.{take_at_read}
use Rattle.sf_tick.specs.declared.types.Stored.{Stored}
use Rattle.sf_gather.specs.Accepting.{kept_of, last_from}
use Rattle.sf_file.proofs.Room.{last_more}
use Rattle.sf_file.proofs.open_track.last_after.Goals as goal

pub loop-sample-preserved : goal.loop-sample-preserved
loop-sample-preserved c =
    let ss : List Stored = c.args.samples.now in
    let i : ℕ = c.loop-sample.sample-index in
    let lt : i < length ss = omega (arith, c.loop-sample-test.true) in
    ap (λ (s : Stored). Some (kept_of s)) c.sample-item.is
    ∙ sym (last_more c.args.before (take i ss) (get_or ss i c.sample-item.result))
    ∙ sym (ap (λ (xs : List Stored). last_from c.args.before xs) (take_at_read ss i c.sample-item.result lt).1)
