use Rattle.std.proofs.Common.{ℕ, ◌+◌, ◌-◌, min, ap, ◌∙◌, arith}
use Rattle.sf_meaning.proofs.SampleLemmas.{entry_last, entry_next}
use Rattle.sf_meaning.proofs.run_sums.entry_chunks.Goals as goal

pub returns-in-empty-clause-holds : goal.returns-in-empty-clause-holds
returns-in-empty-clause-holds c =
    entry_last c.args.run c.args.others.now c.args.left c.args.chunks c.chunks_before.result (omega (arith, c.in-empty.len_below))
    (c.chunks_before.ensures ∙ ap (λ (n : ℕ). min c.args.left (n + 1 - c.args.run.first)) c.from.ensures)

pub returns-in-len1-up-clause-holds : goal.returns-in-len1-up-clause-holds
returns-in-len1-up-clause-holds c =
    entry_next c.args.run c.args.others.now c.args.left c.args.chunks c.chunks_before-in-len1-up.result (omega (arith, c.in-len1-up.len_at_least))
    (c.chunks_before-in-len1-up.ensures ∙ ap (λ (n : ℕ). min c.args.left (n - c.args.run.first)) c.from-in-len1-up.ensures)
