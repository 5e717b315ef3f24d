-- Sets that were read so far, and the rest.
use Rattle.std.proofs.Common.{◌≡◌, ℕ, suc, List, [], ◌∷◌, ◌++◌, Option, Some, None, ap, sym, refl, ◌∙◌, append_assoc}
use Rattle.sf_avc.specs.Config.{Sets, with_set, sets}
use Rattle.sf_avc.specs.inner.Config.{FirstSet}

-- with these sets in front
abbrev pub with_front : List (List ℕ) → Option Sets → Option Sets
with_front front None = None
with_front front (Some found) = Some (front ++ found.0, found.1)

front_moves : (front : List (List ℕ)) (set : List ℕ) (found : Option Sets) → with_front (front ++ set ∷ []) found ≡ with_front front (with_set set found)
front_moves front set None = refl
front_moves front set (Some found) = ap (λ (all : List (List ℕ)). Some (all, found.1)) (append_assoc front (set ∷ []) found.0)

-- one more set was read
pub sets_next : (front : List (List ℕ)) (set bytes after : List ℕ) (n left : ℕ) (new : List (List ℕ)) (all : Option Sets) → left ≡ suc n
    → new ≡ front ++ set ∷ [] → FirstSet bytes set after → with_front front (sets left bytes) ≡ all → with_front new (sets n after) ≡ all
sets_next front set bytes after n left new all one more first so_far =
    ap (λ (sets_read : List (List ℕ)). with_front sets_read (sets n after)) more
    ∙ front_moves front set (sets n after)
    ∙ sym (ap (λ (found : Option Sets). with_front front found) (first n))
    ∙ sym (ap (λ (count : ℕ). with_front front (sets count bytes)) one)
    ∙ so_far
