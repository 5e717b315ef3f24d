-- The boxes up to the first place that is no whole box.
use Rattle.std.proofs.Common.{◌≡◌, ℕ, zero, suc, ◌+◌, ◌≤◌, false, List, [], ◌∷◌, length, drop, Result, Ok, Err, refl, ap, ◌∙◌, arith}
use Rattle.std.proofs.lemmas.List.{length-drop}
use Rattle.sf_box.specs.declared.types.BoxHead.{BoxHead}
use Rattle.sf_box.specs.declared.types.BoxFault.{BoxFault}
use Rattle.sf_box.specs.Boxes.{Piece, head_of, with_first, first_then, piece_of, tiles, boxes, first_or_end, leads, leading}
use Rattle.sf_box.proofs.Boxes.{head_takes, rest_shorter}

-- two walks agree after a head where they agree on shorter rests
same_after : (n m at : ℕ) (bytes : List ℕ) (r : Result BoxHead BoxFault)
    → ((h : BoxHead) → r ≡ Ok h → leads n (at + h.size) (drop h.size bytes) ≡ leads m (at + h.size) (drop h.size bytes))
    → first_or_end r (λ h. piece_of h bytes ∷ leads n (at + h.size) (drop h.size bytes))
    ≡ first_or_end r (λ h. piece_of h bytes ∷ leads m (at + h.size) (drop h.size bytes))
same_after n m at bytes (Ok h) same = ap (λ (ps : List Piece). piece_of h bytes ∷ ps) (same h refl)
same_after n m at bytes (Err e) same = refl

-- as many steps as there are bytes are enough
pub leads_enough : (n m at : ℕ) (bytes : List ℕ) → length bytes ≤ n → length bytes ≤ m → leads n at bytes ≡ leads m at bytes
unfolding leads
leads_enough zero zero at bytes p q = refl
leads_enough zero (suc m) at [] p q = refl
leads_enough zero (suc m) at (b ∷ bytes) p q = absurd (omega arith)
leads_enough (suc n) zero at [] p q = refl
leads_enough (suc n) zero at (b ∷ bytes) p q = absurd (omega arith)
leads_enough (suc n) (suc m) at [] p q = refl
leads_enough (suc n) (suc m) at (b ∷ bytes) p q =
    same_after n m at (b ∷ bytes) (head_of false at (b ∷ bytes))
    (λ h e. leads_enough n m (at + h.size) (drop h.size (b ∷ bytes)) (rest_shorter false at n (b ∷ bytes) h e p) (rest_shorter false at m (b ∷ bytes) h e q))

-- one step of the walk
pub leading_step : (at : ℕ) (bytes : List ℕ) (h : BoxHead) → head_of false at bytes ≡ Ok h
    → leading at bytes ≡ piece_of h bytes ∷ leading (at + h.size) (drop h.size bytes)
unfolding leading leads
leading_step at [] h e = absurd (omega (arith, (head_takes false at [] h e).whole, (head_takes false at [] h e).head, (head_takes false at [] h e).least))
leading_step at (b ∷ bytes) h e =
    let t = head_takes false at (b ∷ bytes) h e in
    rw e (ap (λ (ps : List Piece). piece_of h (b ∷ bytes) ∷ ps) (leads_enough (length bytes) (length (drop h.size (b ∷ bytes))) (at + h.size) (drop h.size (b ∷ bytes))
    (omega (arith, t.whole, t.head, t.least, length-drop h.size (b ∷ bytes))) (omega arith)))

-- the walk ends at the end of the bytes
pub leading_none : (at : ℕ) → leading at [] ≡ []
unfolding leading leads
leading_none at = refl

-- the walk ends at the first place that is no whole box
pub leading_end : (at : ℕ) (bytes : List ℕ) (f : BoxFault) → head_of false at bytes ≡ Err f → leading at bytes ≡ []
unfolding leading leads
leading_end at [] f e = refl
leading_end at (b ∷ bytes) f e = rw e refl

-- a walk with no fault in the rest has none before
rest_is : (p : Piece) (r : Result (List Piece) BoxFault) (ps : List Piece) → with_first p r ≡ Ok ps → (qs : List Piece) × (r ≡ Ok qs) × (ps ≡ p ∷ qs)
rest_is p (Ok qs) ps e = (qs, refl, cc e)
rest_is p (Err f) ps e = absurd (cc e)

after_head : (n at : ℕ) (bytes : List ℕ) (r : Result BoxHead BoxFault) (ps : List Piece)
    → ((h : BoxHead) (qs : List Piece) → r ≡ Ok h → tiles n false (at + h.size) (drop h.size bytes) ≡ Ok qs → leads n (at + h.size) (drop h.size bytes) ≡ qs)
    → first_then r (λ h. with_first (piece_of h bytes) (tiles n false (at + h.size) (drop h.size bytes))) ≡ Ok ps
    → first_or_end r (λ h. piece_of h bytes ∷ leads n (at + h.size) (drop h.size bytes)) ≡ ps
after_head n at bytes (Ok h) ps rest e =
    let x = rest_is (piece_of h bytes) (tiles n false (at + h.size) (drop h.size bytes)) ps e in
    ap (λ (qs : List Piece). piece_of h bytes ∷ qs) (rest h x.0 refl x.1) ∙ cc (x.2)
after_head n at bytes (Err f) ps rest e = absurd (cc e)

leads_are : (n at : ℕ) (bytes : List ℕ) (ps : List Piece) → tiles n false at bytes ≡ Ok ps → leads n at bytes ≡ ps
unfolding leads tiles
leads_are zero at bytes ps e = cc e
leads_are (suc n) at [] ps e = cc e
leads_are (suc n) at (b ∷ bytes) ps e =
    after_head n at (b ∷ bytes) (head_of false at (b ∷ bytes)) ps (λ h qs is r. leads_are n (at + h.size) (drop h.size (b ∷ bytes)) qs r) e

-- where boxes tile the bytes, the walk gives them all
pub leading_boxes : (at : ℕ) (bytes : List ℕ) (ps : List Piece) → boxes false at bytes ≡ Ok ps → leading at bytes ≡ ps
unfolding leading boxes
leading_boxes at bytes ps e = leads_are (length bytes) at bytes ps e
