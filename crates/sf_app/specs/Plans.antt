-- The plans that words say.
use Rattle.std.specs.Prelude.{ℕ, ◌+◌, List, [], ◌∷◌, Result, Ok, Err}
use Rattle.sf_extract.specs.Plan.{Reading, plan_of}
use Rattle.sf_extract.specs.declared.plan.Command.{Command}
use Rattle.sf_extract.specs.declared.plan.PlanFault.{PlanFault}
use Rattle.sf_extract.specs.declared.plan.PlanFault.TheVariants.{BadWord, NoMemory}
use Rattle.sf_app.specs.declared.status.UsageFault.{UsageFault}
use Rattle.sf_app.specs.declared.status.UsageFault.TheVariants.{PlanWord}

-- where a word stops being a plan
abbrev pub place_of : PlanFault → ℕ
place_of (BadWord at) = at
place_of NoMemory = 0

-- what the word of a number says, in front of what the later words say
abbrev pub with_plan : ℕ → Reading (List Command) → Result (List (List Command)) UsageFault → Result (List (List Command)) UsageFault
with_plan reader (Ok plan) (Ok plans) = Ok (plan ∷ plans)
with_plan reader (Ok plan) (Err fault) = Err fault
with_plan reader (Err fault) later = Err (PlanWord reader (place_of fault))

-- The plans that words say, counted from a number, or the first word that isn't a plan, and where.
unfoldable pub plans_from : ℕ → List (List ℕ) → Result (List (List Command)) UsageFault
plans_from reader [] = Ok []
plans_from reader (word ∷ words) = with_plan reader (plan_of word) (plans_from (reader + 1) words)
