-- More than two zero bytes in front say no more than two.
use Rattle.std.proofs.Common.{◌≡◌, inl, inr, ℕ, ◌+◌, ◌≤◌, Bool, true, false, cond, ◌&&◌, ◌==◌, nat_le, min, List, [], ◌∷◌, length, ap, sym, refl, ◌∙◌, arith}
use Rattle.std.proofs.lemmas.Bool.{le-leb}
use Rattle.std.proofs.lemmas.Bool.Decides.{eqb_tells}
use Rattle.sf_avc.specs.Sps.{without_emulation}

-- the same after a choice of two numbers that say the same
chosen : (z : Bool) (f : ℕ → List ℕ) (x y : ℕ) → f x ≡ f y → f (cond z x 0) ≡ f (cond z y 0)
chosen true f x y e = e
chosen false f x y e = refl

-- one zero byte more after two or more
run_more : (run : ℕ) (bytes : List ℕ) → 2 ≤ run → without_emulation (run + 1) bytes ≡ without_emulation run bytes
unfolding without_emulation
run_more run [] two = refl
run_more run (b ∷ bytes) two =
    let now : nat_le 2 run ≡ true = le-leb 2 run two in
    let next : nat_le 2 (run + 1) ≡ true = le-leb 2 (run + 1) (omega arith) in
    rw (now, next) (ap (λ (after : List ℕ). cond (b == 3 && true) (without_emulation 0 bytes) (b ∷ after))
    (chosen (b == 0) (λ n. without_emulation n bytes) (run + 1 + 1) (run + 1) (run_more (run + 1) bytes (omega arith))))

-- a count that stands still at 2
run_capped : (run : ℕ) (bytes : List ℕ) → run ≤ 2 → without_emulation (min 2 (run + 1)) bytes ≡ without_emulation (run + 1) bytes
run_capped run bytes few =
    elim (eqb_tells run 2) [
      | inl p ↦ ap (λ (n : ℕ). without_emulation n bytes) (omega (arith, p.1)) ∙ sym (run_more run bytes (omega (arith, p.1)))
      | inr p ↦ ap (λ (n : ℕ). without_emulation n bytes) (omega (arith, p.1))
    ]

-- the bytes after a kept byte, with a count that stands still
run_after : (z : Bool) (run : ℕ) (bytes : List ℕ) → run ≤ 2
    → without_emulation (cond z (run + 1) 0) bytes ≡ without_emulation (cond z (min 2 (run + 1)) 0) bytes
run_after true run bytes few = sym (run_capped run bytes few)
run_after false run bytes few = refl

-- a byte that is kept
pub kept : (run b : ℕ) (bytes : List ℕ) → run ≤ 2 → (b == 3 && nat_le 2 run) ≡ false
    → without_emulation run (b ∷ bytes) ≡ b ∷ without_emulation (cond (b == 0) (min 2 (run + 1)) 0) bytes
unfolding without_emulation
kept run b bytes few keeps = rw keeps (ap (λ (after : List ℕ). b ∷ after) (run_after (b == 0) run bytes few))

-- a byte that is left out
pub left_out : (run b : ℕ) (bytes : List ℕ) → (b == 3 && nat_le 2 run) ≡ true → without_emulation run (b ∷ bytes) ≡ without_emulation 0 bytes
unfolding without_emulation
left_out run b bytes leaves = rw leaves refl

pub ruleset byte_facts = (kept, left_out)

-- a choice of two lists that are no longer
no_longer_of : (b : Bool) (xs ys : List ℕ) (n : ℕ) → length xs ≤ n → length ys ≤ n → length (cond b xs ys) ≤ n
no_longer_of true xs ys n x y = x
no_longer_of false xs ys n x y = y

-- leaving bytes out makes nothing longer
pub no_longer : (run : ℕ) (bytes : List ℕ) → length (without_emulation run bytes) ≤ length bytes
unfolding without_emulation
no_longer run [] = omega arith
no_longer run (b ∷ bytes) =
    no_longer_of (b == 3 && nat_le 2 run) (without_emulation 0 bytes) (b ∷ without_emulation (cond (b == 0) (run + 1) 0) bytes) (length (b ∷ bytes))
    (omega (arith, no_longer 0 bytes)) (omega (arith, no_longer (cond (b == 0) (run + 1) 0) bytes))
