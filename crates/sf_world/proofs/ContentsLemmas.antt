-- Contents that a failed patch leaves as they were.
use Rattle.std.proofs.Common.{◌≡◌, ℕ, ◌+◌, ◌≤◌, List, ◌++◌, length, take, drop, Some, ◌∙◌, ap, sym, arith, length-drop, append_assoc}
use Rattle.std.proofs.lemmas.List.{take-append-drop, drop-drop, length-take}
use Rattle.sf_world.specs.Contents.{Spoils}

-- a range written over with what it holds
pub same_range : (bytes : List ℕ) (at size : ℕ) → take at bytes ++ take size (drop at bytes) ++ drop (at + size) bytes ≡ bytes
same_range bytes at size =
    append_assoc (take at bytes) (take size (drop at bytes)) (drop (at + size) bytes)
    ∙ ap (λ (rest : List ℕ). take at bytes ++ (take size (drop at bytes) ++ rest)) (sym (drop-drop size at bytes))
    ∙ ap (λ (rest : List ℕ). take at bytes ++ rest) (take-append-drop size (drop at bytes))
    ∙ take-append-drop at bytes

pub spoils_nothing : (bytes : List ℕ) (at size : ℕ) → at + size ≤ length bytes → Spoils (Some bytes) at size (Some bytes)
spoils_nothing bytes at size le =
    let whole : length (take size (drop at bytes)) ≡ size = omega (arith, length-take size (drop at bytes), length-drop at bytes) in
    record {
      bytes = take size (drop at bytes);
      range = whole;
      contents = ap Some (sym (same_range bytes at size)) ∙ ap (λ (n : ℕ). Some (take at bytes ++ take size (drop at bytes) ++ drop (at + n) bytes)) (sym whole);
    }
