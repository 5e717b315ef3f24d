-- Parts of a block.
use Rattle.std.proofs.Common.{◌≡◌, ℕ, zero, suc, ◌+◌, ◌-◌, ◌≤◌, List, [], ◌++◌, length, length-append, take, drop, Option, Some, None, refl, sym, ap, ◌∙◌, subst, arith}
use Rattle.std.proofs.lemmas.List.{take-take, drop-take, drop-drop, nil_from_length}
use Rattle.std.proofs.Math.Seq.{take-add}
use Rattle.sf_world.specs.Contents.{ReadsAt}
use Rattle.sf_coded.specs.inner.Window.{AreFrom, Covers}

-- a part of what a block holds
part_is : (all block : List ℕ) (from held at count : ℕ) → take held block ≡ take held (drop from all) → from ≤ at → at + count ≤ from + held
    → take count (drop (at - from) block) ≡ take count (drop at all)
part_is all block from held at count e low high =
    let d : ℕ = at - from in
    let n : held ≡ d + (held - d) = omega arith in
    let le : count ≤ held - d = omega arith in
    let cut : (xs : List ℕ) → take count (drop d (take held xs)) ≡ take count (drop d xs) =
    λ xs. ap (λ (m : ℕ). take count (drop d (take m xs))) n ∙ ap (take count) (drop-take d (held - d) xs) ∙ take-take count (held - d) (drop d xs) le
    in
    let place : from + d ≡ at = omega arith in
    sym (cut block) ∙ ap (λ (xs : List ℕ). take count (drop d xs)) e ∙ cut (drop from all)
    ∙ ap (take count) (drop-drop d from all ∙ ap (λ (m : ℕ). drop m all) place)

pub part_from : (contents : Option (List ℕ)) (block : List ℕ) (from held at count : ℕ) (out : List ℕ) → ReadsAt contents from held block → from ≤ at → at + count ≤ from + held
    → length out ≡ count → out ≡ take count (drop (at - from) block) → AreFrom contents at out
part_from None block from held at count out e low high len is = tt
part_from (Some all) block from held at count out e low high len is =
    is ∙ part_is all block from held at count e low high ∙ ap (λ (n : ℕ). take n (drop at all)) (sym len)

none_from : (contents : Option (List ℕ)) (at : ℕ) → AreFrom contents at []
none_from None at = tt
none_from (Some all) at = refl

-- what a block holds of a part, or no byte
held_part : (contents : Option (List ℕ)) (block : List ℕ) (from held at count : ℕ) (out : List ℕ) → ReadsAt contents from held block → (1 ≤ count → Covers from held at count)
    → length out ≡ count → out ≡ take count (drop (at - from) block) → AreFrom contents at out
held_part contents block from held at zero out e covers len is = subst (λ (xs : List ℕ). AreFrom contents at xs) (sym (nil_from_length out len)) (none_from contents at)
held_part contents block from held at (suc n) out e covers len is =
    let c = covers (omega arith) in
    part_from contents block from held at (suc n) out e c.begins c.ends len is

-- what is copied out of the block of a source, as far as it holds a part
pub front_held : (source told : Option (List ℕ)) (block : List ℕ) (from held at count : ℕ) (old new : List ℕ) → source ≡ told → ReadsAt source from held block
    → (1 ≤ count → Covers from held at count) → length old ≡ count → length new ≡ length old → new ≡ take (length old) (drop (at - from) block) → AreFrom told at new
front_held source told block from held at count old new same e covers len len' is =
    subst (λ (s : Option (List ℕ)). AreFrom s at new) same
    (held_part source block from held at (length old) new e (λ le. subst (λ (n : ℕ). Covers from held at n) (sym len) (covers (subst (λ (n : ℕ). 1 ≤ n) len le))) len' is)

-- a part, and the one after it
pub joined_from : (contents : Option (List ℕ)) (at : ℕ) (a b : List ℕ) → AreFrom contents at a → AreFrom contents (at + length a) b → AreFrom contents at (a ++ b)
joined_from None at a b front rest = tt
joined_from (Some all) at a b front rest =
    let from : List ℕ = drop at all in
    ap (λ (x : List ℕ). x ++ b) front
    ∙ ap (λ (y : List ℕ). take (length a) from ++ y) (rest ∙ ap (take (length b)) (sym (drop-drop (length a) at all)))
    ∙ sym (take-add (length a) (length b) from) ∙ ap (λ (n : ℕ). take n from) (sym (length-append a b))
