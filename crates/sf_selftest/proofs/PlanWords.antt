-- The words of plans that select the first so many tracks and read to the end.
use Rattle.std.proofs.Common.{◌≡◌, ℕ, List, [], ◌∷◌, Ok, refl, sym, ap, ◌∙◌}
use Rattle.sf_extract.specs.Plan.{by_letter, command_in, commands_in, number_in, pieces, plan_of}
use Rattle.sf_selftest.specs.SelfTest.{whole_plan}

-- s0,e
pub word_1 : (n : ℕ) → n ≡ 1 → plan_of (115 ∷ 48 ∷ 44 ∷ 101 ∷ []) ≡ Ok (whole_plan n)
unfolding by_letter command_in commands_in number_in pieces plan_of
word_1 n is = ap (λ (k : ℕ). Ok (whole_plan k)) (sym is)

-- s0,s1,e
pub word_2 : (n : ℕ) → n ≡ 2 → plan_of (115 ∷ 48 ∷ 44 ∷ 115 ∷ 49 ∷ 44 ∷ 101 ∷ []) ≡ Ok (whole_plan n)
unfolding by_letter command_in commands_in number_in pieces plan_of
word_2 n is = ap (λ (k : ℕ). Ok (whole_plan k)) (sym is)

-- s0,s1,s2,e
pub word_3 : (n : ℕ) → n ≡ 3 → plan_of (115 ∷ 48 ∷ 44 ∷ 115 ∷ 49 ∷ 44 ∷ 115 ∷ 50 ∷ 44 ∷ 101 ∷ []) ≡ Ok (whole_plan n)
unfolding by_letter command_in commands_in number_in pieces plan_of
word_3 n is = ap (λ (k : ℕ). Ok (whole_plan k)) (sym is)

-- s0,s1,s2,s3,e
pub word_4 : (n : ℕ) → n ≡ 4 → plan_of (115 ∷ 48 ∷ 44 ∷ 115 ∷ 49 ∷ 44 ∷ 115 ∷ 50 ∷ 44 ∷ 115 ∷ 51 ∷ 44 ∷ 101 ∷ []) ≡ Ok (whole_plan n)
unfolding by_letter command_in commands_in number_in pieces plan_of
word_4 n is = ap (λ (k : ℕ). Ok (whole_plan k)) (sym is)

-- s0,s1,s2,s3,s4,e
pub word_5 : (n : ℕ) → n ≡ 5 → plan_of (115 ∷ 48 ∷ 44 ∷ 115 ∷ 49 ∷ 44 ∷ 115 ∷ 50 ∷ 44 ∷ 115 ∷ 51 ∷ 44 ∷ 115 ∷ 52 ∷ 44 ∷ 101 ∷ []) ≡ Ok (whole_plan n)
unfolding by_letter command_in commands_in number_in pieces plan_of
word_5 n is = ap (λ (k : ℕ). Ok (whole_plan k)) (sym is)

-- s0,s1,s2,s3,s4,s5,e
pub word_6 : (n : ℕ) → n ≡ 6 → plan_of (115 ∷ 48 ∷ 44 ∷ 115 ∷ 49 ∷ 44 ∷ 115 ∷ 50 ∷ 44 ∷ 115 ∷ 51 ∷ 44 ∷ 115 ∷ 52 ∷ 44 ∷ 115 ∷ 53 ∷ 44 ∷ 101 ∷ []) ≡ Ok (whole_plan n)
unfolding by_letter command_in commands_in number_in pieces plan_of
word_6 n is = ap (λ (k : ℕ). Ok (whole_plan k)) (sym is)

-- s0,s1,s2,s3,s4,s5,s6,e
pub word_7 : (n : ℕ) → n ≡ 7 → plan_of (115 ∷ 48 ∷ 44 ∷ 115 ∷ 49 ∷ 44 ∷ 115 ∷ 50 ∷ 44 ∷ 115 ∷ 51 ∷ 44 ∷ 115 ∷ 52 ∷ 44 ∷ 115 ∷ 53 ∷ 44 ∷ 115 ∷ 54 ∷ 44 ∷ 101 ∷ []) ≡ Ok (whole_plan n)
unfolding by_letter command_in commands_in number_in pieces plan_of
word_7 n is = ap (λ (k : ℕ). Ok (whole_plan k)) (sym is)

-- s0,s1,s2,s3,s4,s5,s6,s7,e
pub word_8 : (n : ℕ) → n ≡ 8 → plan_of (115 ∷ 48 ∷ 44 ∷ 115 ∷ 49 ∷ 44 ∷ 115 ∷ 50 ∷ 44 ∷ 115 ∷ 51 ∷ 44 ∷ 115 ∷ 52 ∷ 44 ∷ 115 ∷ 53 ∷ 44 ∷ 115 ∷ 54 ∷ 44 ∷ 115 ∷ 55 ∷ 44 ∷ 101 ∷ []) ≡ Ok (whole_plan n)
unfolding by_letter command_in commands_in number_in pieces plan_of
word_8 n is = ap (λ (k : ℕ). Ok (whole_plan k)) (sym is)
