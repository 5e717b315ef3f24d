-- The lines of a movie that was made, and how the making ends.
use Rattle.std.proofs.Common.{◌≡◌, ℕ, ◌+◌, ◌<◌, ◌≤◌, ◌⊎◌, List, ◌++◌, length, drop, ap, sym, ◌∙◌, append_assoc, append-nil, refl, inl, inr}
use Rattle.std.specs.Prelude.{get_or}
use Rattle.std.proofs.lemmas.List.{drop_all, drop_more}
use Rattle.sf_world.specs.Counts.{Rose}
use Rattle.sf_world.specs.Views.{SinkView}
use Rattle.sf_selftest.specs.declared.summary.TrackSummary.{TrackSummary}
use Rattle.sf_app.specs.AnswerText.{TellsDone}
use Rattle.sf_app.specs.MakeEnds.{summary_line, summary_lines}
use Rattle.sf_app.specs.declared.status.Status.{Status}
use Rattle.sf_app.specs.declared.status.Status.TheVariants.{Done, Usage, OpenFault, ReadFault, WriteFault, InputRefused, MovieRefused, SampleRefused, LimitReached, PlanRefused, NoMemory}

-- the line of one track more
pub lines_more : (front line lines : List ℕ) (number : ℕ) (none : TrackSummary) (all : List TrackSummary) → number < length all → line ≡ summary_line number (get_or all number none)
    → front ++ summary_lines number (drop number all) ≡ lines → (front ++ line) ++ summary_lines (number + 1) (drop (number + 1) all) ≡ lines
unfolding summary_lines
lines_more front line lines number none all lt is so_far =
    let rest : List TrackSummary = drop (number + 1) all in
    append_assoc front line (summary_lines (number + 1) rest)
    ∙ ap (λ (l : List ℕ). front ++ (l ++ summary_lines (number + 1) rest)) is
    ∙ sym (ap (λ (ts : List TrackSummary). front ++ summary_lines number ts) (drop_more all number none lt))
    ∙ so_far

-- no track is left
pub no_more : (front lines : List ℕ) (number : ℕ) (all : List TrackSummary) → length all ≤ number → front ++ summary_lines number (drop number all) ≡ lines → front ≡ lines
unfolding summary_lines
no_more front lines number all le so_far =
    sym (append-nil front) ∙ sym (ap (λ (ts : List TrackSummary). front ++ summary_lines number ts) (drop_all number all le)) ∙ so_far

-- the text tells that all is done, or failed
pub done_unless : (lines : List ℕ) (status : Status) (before after : SinkView) → TellsDone lines status before after → (Rose before.faults after.faults → ⊥) → (status ≡ NoMemory) ⊎ (status ≡ Done)
done_unless lines Done before after tells not = inr refl
done_unless lines (Usage fault) before after tells not = absurd tells
done_unless lines (OpenFault input) before after tells not = absurd tells
done_unless lines (ReadFault input) before after tells not = absurd tells
done_unless lines WriteFault before after tells not = absurd (not tells.failed)
done_unless lines (InputRefused track fault) before after tells not = absurd tells
done_unless lines (MovieRefused fault) before after tells not = absurd tells
done_unless lines (SampleRefused reader track sample at) before after tells not = absurd tells
done_unless lines (LimitReached limit) before after tells not = absurd tells
done_unless lines (PlanRefused reader command) before after tells not = absurd tells
done_unless lines NoMemory before after tells not = inl refl
