-- A box whose size is written at its mark.
use Rattle.std.proofs.Common.{◌≡◌, ℕ, ◌+◌, ◌-◌, ◌≤◌, List, ◌++◌, length, take, drop, sym, ap, ◌∙◌, append_assoc, arith}
use Rattle.std.proofs.lemmas.List.{length-append, length-drop, take-append-drop, drop-drop, take_at, drop_at}
use Rattle.sf_box.specs.Boxes.{be32, box_of, opened}
use Rattle.sf_box.proofs.Numbers.{length-be32}

-- a part of a list is its first items and those after them
pub drop_in_two : (xs : List ℕ) (at n : ℕ) → drop at xs ≡ take n (drop at xs) ++ drop (at + n) xs
drop_in_two xs at n = rw (← drop-drop n at xs) (sym (take-append-drop n (drop at xs)))

pub ends_box : (o : List ℕ) (mark : ℕ) → mark + 8 ≤ length o
    → (take mark o ++ be32 (length o - mark)) ++ drop (mark + 4) o ≡ take mark o ++ box_of (take 4 (drop (mark + 4) o)) (drop (mark + 8) o)
unfolding box_of
ends_box o mark le =
    let size : length o - mark ≡ 8 + length (drop (mark + 8) o) = omega (arith, length-drop (mark + 8) o) in
    let eight : mark + 8 ≡ (mark + 4) + 4 = omega arith in
    let rest : drop (mark + 4) o ≡ take 4 (drop (mark + 4) o) ++ drop (mark + 8) o = rw eight (drop_in_two o (mark + 4) 4) in
    append_assoc (take mark o) (be32 (length o - mark)) (drop (mark + 4) o)
    ∙ ap (λ (n : ℕ). take mark o ++ (be32 n ++ drop (mark + 4) o)) size
    ∙ ap (λ (t : List ℕ). take mark o ++ (be32 (8 + length (drop (mark + 8) o)) ++ t)) rest

-- the same where the bytes in front, the type and the body are known
pub gains_box : (o front kind body : List ℕ) (mark : ℕ) → length kind ≡ 4 → mark ≡ length front → o ≡ front ++ opened kind ++ body
    → take mark o ++ box_of (take 4 (drop (mark + 4) o)) (drop (mark + 8) o) ≡ front ++ box_of kind body
unfolding opened
gains_box o front kind body mark k m e =
    let parts : o ≡ (front ++ be32 0) ++ (kind ++ body) = e ∙ simp append_assoc in
    let whole : o ≡ ((front ++ be32 0) ++ kind) ++ body = e ∙ simp append_assoc in
    let four : length (front ++ be32 0) ≡ mark + 4 = omega (arith, length-append front (be32 0), length-be32 0) in
    let eight : length ((front ++ be32 0) ++ kind) ≡ mark + 8 = omega (arith, length-append (front ++ be32 0) kind) in
    let a : take mark o ≡ front = rw parts (rw append_assoc (take_at front (be32 0 ++ (kind ++ body)) mark (sym m))) in
    let b : take 4 (drop (mark + 4) o) ≡ kind = rw (parts, drop_at (front ++ be32 0) (kind ++ body) (mark + 4) four) (take_at kind body 4 k) in
    let c : drop (mark + 8) o ≡ body = rw whole (drop_at ((front ++ be32 0) ++ kind) body (mark + 8) eight) in
    ap (λ (t : List ℕ). t ++ box_of (take 4 (drop (mark + 4) o)) (drop (mark + 8) o)) a
    ∙ ap (λ (t : List ℕ). front ++ box_of t (drop (mark + 8) o)) b
    ∙ ap (λ (t : List ℕ). front ++ box_of kind t) c
