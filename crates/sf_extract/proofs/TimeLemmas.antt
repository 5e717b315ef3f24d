-- The times of a plan's commands.
use Rattle.std.proofs.Common.{◌≡◌, ℕ, zero, suc, ◌<◌, List, [], ◌∷◌, ◌++◌, length, get_or, sym, subst, arith}
use Rattle.std.specs.List.{AllByRecursion}
use Rattle.sf_extract.specs.declared.plan.Command.{Command}
use Rattle.sf_extract.specs.inner.Times.{IsInTime}

all_more : (cs : List Command) (c : Command) → AllByRecursion IsInTime cs → IsInTime c → AllByRecursion IsInTime (cs ++ c ∷ [])
all_more [] c h i = (i, tt)
all_more (x ∷ xs) c h i = (h.0, all_more xs c h.1 i)

-- one command more
pub times_more : (cs now : List Command) (c : Command) → AllByRecursion IsInTime cs → IsInTime c → now ≡ cs ++ c ∷ [] → AllByRecursion IsInTime now
times_more cs now c h i e = subst (λ (x : List Command). AllByRecursion IsInTime x) (sym e) (all_more cs c h i)

-- the command of a number
pub time_at : (cs : List Command) (k : ℕ) (d : Command) → AllByRecursion IsInTime cs → k < length cs → IsInTime (get_or cs k d)
time_at [] k d h lt = absurd (omega (arith, lt))
time_at (x ∷ xs) zero d h lt = h.0
time_at (x ∷ xs) (suc k) d h lt = time_at xs k d h.1 (omega (arith, lt))
