-- Plans that are read from words, one after the other.
use Rattle.std.proofs.Common.{◌≡◌, ℕ, ◌+◌, ◌<◌, ◌≤◌, ◌⊎◌, List, [], ◌∷◌, ◌++◌, length, drop, Result, Ok, Err, refl, sym, ap, ◌∙◌, inl, inr, append_assoc, append-nil}
use Rattle.std.specs.Prelude.{get_or}
use Rattle.std.proofs.lemmas.List.{drop_more, drop_all}
use Rattle.sf_extract.specs.Plan.{Reading, plan_of}
use Rattle.sf_extract.specs.declared.plan.Command.{Command}
use Rattle.sf_extract.specs.declared.plan.PlanFault.{PlanFault}
use Rattle.sf_extract.specs.declared.plan.PlanFault.TheVariants.{BadWord, NoMemory}
use Rattle.sf_app.specs.Plans.{plans_from, with_plan}
use Rattle.sf_app.specs.declared.status.UsageFault.{UsageFault}
use Rattle.sf_app.specs.declared.status.UsageFault.TheVariants.{PlanWord}
use Rattle.sf_app.specs.inner.Extraction.{NotRead, after, unread}

-- what the next word says, and those after it
next_word : (words : List (List ℕ)) (n : ℕ) (word : List ℕ) (r : Reading (List Command)) → n < length words → get_or words n word ≡ word → plan_of word ≡ r
    → plans_from n (drop n words) ≡ with_plan n r (plans_from (n + 1) (drop (n + 1) words))
unfolding plans_from
next_word words n word r lt is e =
    ap (plans_from n) (drop_more words n word lt ∙ ap (λ (w : List ℕ). w ∷ drop (n + 1) words) is)
    ∙ ap (λ (x : Reading (List Command)). with_plan n x (plans_from (n + 1) (drop (n + 1) words))) e

after_plan : (plans : List (List Command)) (plan : List Command) (n : ℕ) (later : Result (List (List Command)) UsageFault) → after plans (with_plan n (Ok plan) later) ≡ after (plans ++ plan ∷ []) later
after_plan plans plan n (Ok more) = ap (λ (ps : List (List Command)). Ok ps) (sym (append_assoc plans (plan ∷ []) more))
after_plan plans plan n (Err fault) = refl

-- one more plan is read
pub one_more_plan : (words : List (List ℕ)) (n : ℕ) (word : List ℕ) (plan : List Command) (plans : List (List Command)) → n < length words → get_or words n word ≡ word → plan_of word ≡ Ok plan
    → after plans (plans_from n (drop n words)) ≡ plans_from 0 words → after (plans ++ plan ∷ []) (plans_from (n + 1) (drop (n + 1) words)) ≡ plans_from 0 words
one_more_plan words n word plan plans lt is e so_far =
    sym (after_plan plans plan n (plans_from (n + 1) (drop (n + 1) words))) ∙ ap (after plans) (sym (next_word words n word (Ok plan) lt is e)) ∙ so_far

-- the next word isn't read
pub no_plan : (words : List (List ℕ)) (n : ℕ) (word : List ℕ) (fault : PlanFault) (plans : List (List Command)) → n < length words → get_or words n word ≡ word → (fault ≡ NoMemory) ⊎ (plan_of word ≡ Err fault)
    → after plans (plans_from n (drop n words)) ≡ plans_from 0 words → NotRead (plans_from 0 words) (unread n fault)
no_plan words n word NoMemory plans lt is why so_far = inl refl
no_plan words n word (BadWord at) plans lt is (inl e) so_far = absurd (let wrong : ⊥ = cc in wrong)
no_plan words n word (BadWord at) plans lt is (inr e) so_far = inr (PlanWord n at, sym so_far ∙ ap (after plans) (next_word words n word (Err (BadWord at)) lt is e), refl)

-- no word is left
pub all_plans : (words : List (List ℕ)) (n : ℕ) (plans : List (List Command)) → length words ≤ n → after plans (plans_from n (drop n words)) ≡ plans_from 0 words → plans_from 0 words ≡ Ok plans
unfolding plans_from
all_plans words n plans le so_far =
    sym so_far ∙ ap (λ (ws : List (List ℕ)). after plans (plans_from n ws)) (drop_all n words le) ∙ ap (λ (ps : List (List Command)). Ok ps) (append-nil plans)
