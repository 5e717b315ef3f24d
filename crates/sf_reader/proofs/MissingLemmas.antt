-- Commands that name a track which isn't there.
use Rattle.std.proofs.Common.{◌≡◌, ℕ, ◌+◌, ◌<◌, ◌≤◌, List, ◌∷◌, length, drop, get_or, Option, Some, None, sym, ap, ◌∙◌}
use Rattle.std.proofs.lemmas.List.{drop_more, drop_all}
use Rattle.sf_extract.specs.Plan.{missing_from}
use Rattle.sf_extract.specs.declared.plan.Command.{Command}
use Rattle.sf_reader.specs.Dumps.{first_missing, missing_or}

missing_by : (tracks k : ℕ) (plans : List (List Command)) (plan : List Command) (o : Option ℕ) → k < length plans → plan ≡ get_or plans k plan → o ≡ missing_from tracks 0 plan
    → first_missing tracks k (drop k plans) ≡ missing_or k o (first_missing tracks (k + 1) (drop (k + 1) plans))
unfolding first_missing
missing_by tracks k plans plan o lt is e =
    ap (first_missing tracks k) (drop_more plans k plan lt ∙ ap (λ (p : List Command). p ∷ drop (k + 1) plans) (sym is))
    ∙ ap (λ (m : Option ℕ). missing_or k m (first_missing tracks (k + 1) (drop (k + 1) plans))) (sym e)

-- a plan that names a missing track
pub missing_at : (tracks k : ℕ) (plans : List (List Command)) (plan : List Command) (command : ℕ) → k < length plans → plan ≡ get_or plans k plan → Some command ≡ missing_from tracks 0 plan
    → first_missing tracks k (drop k plans) ≡ Some (record { reader = k; command = command })
missing_at tracks k plans plan command lt is e = missing_by tracks k plans plan (Some command) lt is e

-- a plan that names none
pub missing_after : (tracks k : ℕ) (plans : List (List Command)) (plan : List Command) → k < length plans → plan ≡ get_or plans k plan → None ≡ missing_from tracks 0 plan
    → first_missing tracks k (drop k plans) ≡ first_missing tracks (k + 1) (drop (k + 1) plans)
missing_after tracks k plans plan lt is e = missing_by tracks k plans plan None lt is e

-- no plan is left
pub missing_none : (tracks k : ℕ) (plans : List (List Command)) → length plans ≤ k → first_missing tracks k (drop k plans) ≡ None
unfolding first_missing
missing_none tracks k plans le = ap (first_missing tracks k) (drop_all k plans le)
