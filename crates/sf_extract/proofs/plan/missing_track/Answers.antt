use Rattle.std.proofs.Common.{ℕ, List, length, sym, ap, ◌∙◌}
use Rattle.sf_extract.specs.Plan.{missing_from}
use Rattle.sf_extract.specs.declared.plan.Command.{Command}
use Rattle.sf_extract.proofs.WordLemmas.{missing_here, there_step}
use Rattle.sf_extract.proofs.plan.missing_track.Goals as goal

pub loop-k-preserved : goal.loop-k-preserved
loop-k-preserved c =
    sym (there_step c.track_count-tracks.result c.loop-k.k c.as_slice-command-items.result.now _ c.loop-k-test.true (sym c.is_there.ensures ∙ c.if-not-is_there.false)) ∙ c.loop-k.invariant

pub returns-then-not-is_there : goal.returns-then-not-is_there
returns-then-not-is_there c =
    sym (missing_here c.track_count-tracks.result c.loop-k.k c.as_slice-command-items.result.now _ c.loop-k-test.true (sym c.is_there.ensures ∙ c.if-not-is_there.true))
    ∙ c.loop-k.invariant ∙ ap (λ (n : ℕ). missing_from n 0 c.as_slice-command-items.result.now) c.track_count-tracks.ensures.count
    ∙ ap (λ (cs : List Command). missing_from (length c.args.movie.now.movie.tracks) 0 cs) c.as_slice-command-items.ensures
