-- What is known of the list of boxes: one step, a box in front, the first fault.
use Rattle.std.proofs.Common.{◌≡◌, ℕ, zero, suc, ◌+◌, ◌-◌, ◌^◌, ◌<◌, ◌≤◌, Bool, true, false, cond, ◌||◌, ltb, ◌==◌, ◌⊎◌, inl, inr, List, [], ◌∷◌, ◌++◌, length, take, drop, Result, Ok, Err, refl, sym, ap, ◌∙◌, append_assoc, arith}
use Rattle.std.proofs.lemmas.Bool.{le-ltb, ltb-false, ne_eqb}
use Rattle.std.proofs.lemmas.List.{length-append, length-drop, take_at, drop_at, drop-drop, append-nil, nil_from_length}
use Rattle.sf_box.specs.declared.types.BoxHead.{BoxHead}
use Rattle.sf_box.specs.declared.types.BoxFault.{BoxFault}
use Rattle.sf_box.specs.declared.types.BoxFault.TheVariants.{Overrun}
use Rattle.sf_box.specs.Boxes.{Piece, Takes, be32, be64, word32, word64, box_of, wide_box, sized, head_of, with_first, joined_with, first_then, piece_of, tiles, boxes}
use Rattle.sf_box.proofs.Numbers.{length-be32, length-be64, length-box_of, length-wide_box, word32_of, word64_of, drop_word, drop_wide}

-- the two ways of a choice
pub chosen : {A : Type 0} (b : Bool) (x y z : A) → cond b x y ≡ z → ((b ≡ true) × (x ≡ z)) ⊎ ((b ≡ false) × (y ≡ z))
chosen true x y z e = inl (refl, e)
chosen false x y z e = inr (refl, e)

-- the parts of a choice that isn't made
neither : (a b : Bool) → (a || b) ≡ false → (a ≡ false) × (b ≡ false)
neither true b e = absurd (cc e)
neither false b e = (refl, e)

-- what a size that was taken says
sized_takes : (at head size : ℕ) (first bytes : List ℕ) (h : BoxHead) → 8 ≤ head → sized at (length bytes) head size first ≡ Ok h → Takes bytes h
sized_takes at head size first bytes h least e =
    let it : BoxHead = record { kind = record { 0 = take 4 (drop 4 first) }; at = at; head = head; size = size } in
    elim (chosen (ltb size head || ltb (length bytes) size) (Err (Overrun at size)) (Ok it) (Ok h) e) [
      | inl p ↦ absurd (cc (p.1))
      | inr p ↦
          let is : it ≡ h = cc (p.1) in
          let both = neither (ltb size head) (ltb (length bytes) size) p.0 in
          let low : head ≤ size = ltb-false size head both.0 in
          let high : size ≤ length bytes = ltb-false (length bytes) size both.1 in
          let s : size ≡ h.size = ap (λ (x : BoxHead). x.size) is in
          let t : head ≡ h.head = ap (λ (x : BoxHead). x.head) is in
          record { whole = omega arith; head = omega arith; least = omega arith }
    ]

pub head_takes : (top : Bool) (at : ℕ) (bytes : List ℕ) (h : BoxHead) → head_of top at bytes ≡ Ok h → Takes bytes h
unfolding head_of
head_takes top at bytes h e =
    elim (chosen (ltb (length bytes) 8) _ _ (Ok h) e) [
      | inl p ↦ absurd (cc (p.1))
      | inr p ↦
          elim (chosen (word32 bytes == 1) _ _ (Ok h) p.1) [
            | inl q ↦
                elim (chosen (ltb (length bytes) 16) _ _ (Ok h) q.1) [
                  | inl r ↦ absurd (cc (r.1))
                  | inr r ↦ sized_takes at 16 (word64 (drop 8 bytes)) bytes bytes h (omega arith) r.1
                ]
            | inr q ↦
                elim (chosen (word32 bytes == 0) _ _ (Ok h) q.1) [
                  | inl r ↦
                      elim (chosen top _ _ (Ok h) r.1) [
                        | inl s ↦ sized_takes at 8 (length bytes) bytes bytes h (omega arith) s.1
                        | inr s ↦ absurd (cc (s.1))
                      ]
                  | inr r ↦ sized_takes at 8 (word32 bytes) bytes bytes h (omega arith) r.1
                ]
          ]
    ]

-- the rest after a head is shorter by eight bytes or more
pub rest_shorter : (top : Bool) (at n : ℕ) (bytes : List ℕ) (h : BoxHead) → head_of top at bytes ≡ Ok h → length bytes ≤ suc n → length (drop h.size bytes) ≤ n
rest_shorter top at n bytes h e le =
    let t = head_takes top at bytes h e in
    omega (arith, t.whole, t.head, t.least, length-drop h.size bytes)

-- two walks agree after a head where they agree on shorter rests
same_after : (n m : ℕ) (top : Bool) (at : ℕ) (bytes : List ℕ) (r : Result BoxHead BoxFault)
    → ((h : BoxHead) → r ≡ Ok h → tiles n top (at + h.size) (drop h.size bytes) ≡ tiles m top (at + h.size) (drop h.size bytes))
    → first_then r (λ h. with_first (piece_of h bytes) (tiles n top (at + h.size) (drop h.size bytes)))
    ≡ first_then r (λ h. with_first (piece_of h bytes) (tiles m top (at + h.size) (drop h.size bytes)))
same_after n m top at bytes (Ok h) same = ap (with_first (piece_of h bytes)) (same h refl)
same_after n m top at bytes (Err e) same = refl

-- as many steps as there are bytes are enough
pub tiles_enough : (n m : ℕ) (top : Bool) (at : ℕ) (bytes : List ℕ) → length bytes ≤ n → length bytes ≤ m → tiles n top at bytes ≡ tiles m top at bytes
unfolding tiles
tiles_enough zero zero top at bytes p q = refl
tiles_enough zero (suc m) top at [] p q = refl
tiles_enough zero (suc m) top at (b ∷ bytes) p q = absurd (omega arith)
tiles_enough (suc n) zero top at [] p q = refl
tiles_enough (suc n) zero top at (b ∷ bytes) p q = absurd (omega arith)
tiles_enough (suc n) (suc m) top at [] p q = refl
tiles_enough (suc n) (suc m) top at (b ∷ bytes) p q =
    same_after n m top at (b ∷ bytes) (head_of top at (b ∷ bytes))
    (λ h e. tiles_enough n m top (at + h.size) (drop h.size (b ∷ bytes)) (rest_shorter top at n (b ∷ bytes) h e p) (rest_shorter top at m (b ∷ bytes) h e q))

-- a head with a size in four bytes
pub head_is : (top : Bool) (at size : ℕ) (kind bytes : List ℕ) → 8 ≤ size → size ≤ length bytes → word32 bytes ≡ size → take 4 (drop 4 bytes) ≡ kind
    → head_of top at bytes ≡ Ok (record { kind = record { 0 = kind }; at = at; head = 8; size = size })
unfolding head_of
head_is top at size kind bytes least whole word type_is =
    let short : ltb (length bytes) 8 ≡ false = le-ltb _ _ (omega arith) in
    let one : (size == 1) ≡ false = ne_eqb size 1 (λ e. omega (arith, e)) in
    let zero : (size == 0) ≡ false = ne_eqb size 0 (λ e. omega (arith, e)) in
    let low : ltb size 8 ≡ false = le-ltb _ _ least in
    let high : ltb (length bytes) size ≡ false = le-ltb _ _ whole in
    rw (short, word, one, zero, low, high, type_is) refl

-- a head with a size in eight bytes
pub head_is_wide : (top : Bool) (at size : ℕ) (kind bytes : List ℕ) → 16 ≤ size → size ≤ length bytes → word32 bytes ≡ 1 → word64 (drop 8 bytes) ≡ size → take 4 (drop 4 bytes) ≡ kind
    → head_of top at bytes ≡ Ok (record { kind = record { 0 = kind }; at = at; head = 16; size = size })
unfolding head_of
head_is_wide top at size kind bytes least whole word wide type_is =
    let short : ltb (length bytes) 8 ≡ false = le-ltb _ _ (omega arith) in
    let shorter : ltb (length bytes) 16 ≡ false = le-ltb _ _ (omega arith) in
    let low : ltb size 16 ≡ false = le-ltb _ _ least in
    let high : ltb (length bytes) size ≡ false = le-ltb _ _ whole in
    rw (short, word, shorter, wide, low, high, type_is) refl

-- one step of the walk, at bytes that aren't empty
pub boxes_step : (top : Bool) (at : ℕ) (bytes : List ℕ) (h : BoxHead) → head_of top at bytes ≡ Ok h
    → boxes top at bytes ≡ with_first (piece_of h bytes) (boxes top (at + h.size) (drop h.size bytes))
unfolding boxes tiles
boxes_step top at [] h e = absurd (omega (arith, (head_takes top at [] h e).whole, (head_takes top at [] h e).head, (head_takes top at [] h e).least))
boxes_step top at (b ∷ bytes) h e =
    let t = head_takes top at (b ∷ bytes) h e in
    rw e (ap (with_first (piece_of h (b ∷ bytes))) (tiles_enough (length bytes) (length (drop h.size (b ∷ bytes))) top (at + h.size) (drop h.size (b ∷ bytes))
    (omega (arith, t.whole, t.head, t.least, length-drop h.size (b ∷ bytes))) (omega arith)))

-- no bytes hold no boxes
pub boxes_none : (top : Bool) (at : ℕ) → boxes top at [] ≡ Ok []
unfolding boxes tiles
boxes_none top at = refl

-- the walk ends with the first fault
pub boxes_fault : (top : Bool) (at : ℕ) (bytes : List ℕ) (f : BoxFault) → 0 < length bytes → head_of top at bytes ≡ Err f → boxes top at bytes ≡ Err f
unfolding boxes tiles
boxes_fault top at [] f some e = absurd (omega arith)
boxes_fault top at (b ∷ bytes) f some e = rw e refl

by_head : (top : Bool) (at : ℕ) (bytes : List ℕ) (r : Result BoxHead BoxFault) → 0 < length bytes → head_of top at bytes ≡ r
    → boxes top at bytes ≡ first_then r (λ h. with_first (piece_of h bytes) (boxes top (at + h.size) (drop h.size bytes)))
by_head top at bytes (Ok h) some e = boxes_step top at bytes h e
by_head top at bytes (Err f) some e = boxes_fault top at bytes f some e

-- the boxes of bytes are the first head's box and the boxes of the rest, or the first fault
pub boxes_by_head : (top : Bool) (at : ℕ) (bytes : List ℕ) → 0 < length bytes
    → boxes top at bytes ≡ first_then (head_of top at bytes) (λ h. with_first (piece_of h bytes) (boxes top (at + h.size) (drop h.size bytes)))
boxes_by_head top at bytes some = by_head top at bytes (head_of top at bytes) some refl

-- ---- a walk along boxes: those met so far, then those of the rest

pub joined_more : (ps : List Piece) (p : Piece) (r : Result (List Piece) BoxFault) → joined_with ps (with_first p r) ≡ joined_with (ps ++ p ∷ []) r
joined_more ps p (Ok qs) = ap (λ (xs : List Piece). Ok xs) (sym (append_assoc ps (p ∷ []) qs))
joined_more ps p (Err f) = refl

-- one more box
pub box_step : (top : Bool) (at : ℕ) (rest : List ℕ) (h : BoxHead) (front : List Piece) (all : Result (List Piece) BoxFault)
    → head_of top at rest ≡ Ok h → joined_with front (boxes top at rest) ≡ all → joined_with (front ++ piece_of h rest ∷ []) (boxes top (at + h.size) (drop h.size rest)) ≡ all
box_step top at rest h front all e w =
    sym (joined_more front (piece_of h rest) (boxes top (at + h.size) (drop h.size rest))) ∙ ap (joined_with front) (sym (boxes_step top at rest h e)) ∙ w

-- a place that is no whole box
pub box_wrong : (top : Bool) (at : ℕ) (rest : List ℕ) (f : BoxFault) (front : List Piece) (all : Result (List Piece) BoxFault)
    → 0 < length rest → head_of top at rest ≡ Err f → joined_with front (boxes top at rest) ≡ all → all ≡ Err f
box_wrong top at rest f front all some e w = sym w ∙ ap (joined_with front) (boxes_fault top at rest f some e)

-- the end of the bytes
pub box_end : (top : Bool) (at : ℕ) (rest : List ℕ) (front : List Piece) (all : Result (List Piece) BoxFault)
    → length rest ≡ 0 → joined_with front (boxes top at rest) ≡ all → all ≡ Ok front
box_end top at rest front all none w =
    let nil : rest ≡ [] = nil_from_length rest none in
    sym w ∙ ap (λ (r : List ℕ). joined_with front (boxes top at r)) nil ∙ ap (joined_with front) (boxes_none top at) ∙ ap (λ (ps : List Piece). Ok ps) (append-nil front)

-- ---- boxes that were written

-- the head of a box that was written
pub head_of_box : (top : Bool) (at : ℕ) (kind body rest : List ℕ) → length kind ≡ 4 → length body < 2 ^ 32 - 8
    → head_of top at (box_of kind body ++ rest) ≡ Ok (record { kind = record { 0 = kind }; at = at; head = 8; size = 8 + length body })
unfolding box_of
head_of_box top at kind body rest k lt =
    let n : ℕ = 8 + length body in
    let front : (be32 n ++ (kind ++ body)) ++ rest ≡ be32 n ++ (kind ++ (body ++ rest)) = simp append_assoc in
    let long : length ((be32 n ++ (kind ++ body)) ++ rest) ≡ 8 + length body + length rest =
    omega (arith, length-append (be32 n ++ (kind ++ body)) rest, length-append (be32 n) (kind ++ body), length-append kind body, length-be32 n) in
    let word : word32 ((be32 n ++ (kind ++ body)) ++ rest) ≡ n = ap word32 front ∙ word32_of n (kind ++ (body ++ rest)) (omega arith) in
    let after : drop 4 ((be32 n ++ (kind ++ body)) ++ rest) ≡ kind ++ (body ++ rest) = ap (drop 4) front ∙ drop_word n (kind ++ (body ++ rest)) in
    head_is top at n kind ((be32 n ++ (kind ++ body)) ++ rest) (omega arith) (omega arith) word (ap (take 4) after ∙ take_at kind (body ++ rest) 4 k)

-- the head of a box with a size in eight bytes that was written
pub head_of_wide : (top : Bool) (at : ℕ) (kind body rest : List ℕ) → length kind ≡ 4 → 16 + length body < 2 ^ 64
    → head_of top at (wide_box kind body ++ rest) ≡ Ok (record { kind = record { 0 = kind }; at = at; head = 16; size = 16 + length body })
unfolding wide_box
head_of_wide top at kind body rest k lt =
    let n : ℕ = 16 + length body in
    let bytes : List ℕ = (be32 1 ++ (kind ++ (be64 n ++ body))) ++ rest in
    let tail : List ℕ = be64 n ++ (body ++ rest) in
    let front : bytes ≡ be32 1 ++ (kind ++ tail) = simp append_assoc in
    let long : length bytes ≡ 16 + length body + length rest =
    omega (
      arith,
      length-append (be32 1 ++ (kind ++ (be64 n ++ body))) rest,
      length-append (be32 1) (kind ++ (be64 n ++ body)),
      length-append kind (be64 n ++ body),
      length-append (be64 n) body,
      length-be32 1,
      length-be64 n,
    ) in
    let word : word32 bytes ≡ 1 = ap word32 front ∙ word32_of 1 (kind ++ tail) (omega arith) in
    let after : drop 4 bytes ≡ kind ++ tail = ap (drop 4) front ∙ drop_word 1 (kind ++ tail) in
    let behind : drop 8 bytes ≡ tail = sym (drop-drop 4 4 bytes) ∙ ap (drop 4) after ∙ drop_at kind tail 4 k in
    let wide : word64 (drop 8 bytes) ≡ n = ap word64 behind ∙ word64_of n (body ++ rest) lt in
    head_is_wide top at n kind bytes (omega arith) (omega arith) word wide (ap (take 4) after ∙ take_at kind tail 4 k)

-- the body of a box that was written
pub box_body : (kind body : List ℕ) → length kind ≡ 4 → drop 8 (box_of kind body) ≡ body
unfolding box_of
box_body kind body k =
    let n : ℕ = 8 + length body in
    sym (drop-drop 4 4 (be32 n ++ (kind ++ body))) ∙ ap (drop 4) (drop_word n (kind ++ body)) ∙ drop_at kind body 4 k

pub wide_body : (kind body : List ℕ) → length kind ≡ 4 → drop 16 (wide_box kind body) ≡ body
unfolding wide_box
wide_body kind body k =
    let n : ℕ = 16 + length body in
    let tail : List ℕ = be64 n ++ body in
    let behind : drop 8 (be32 1 ++ (kind ++ tail)) ≡ tail = sym (drop-drop 4 4 (be32 1 ++ (kind ++ tail))) ∙ ap (drop 4) (drop_word 1 (kind ++ tail)) ∙ drop_at kind tail 4 k in
    sym (drop-drop 8 8 (be32 1 ++ (kind ++ tail))) ∙ ap (drop 8) behind ∙ drop_wide n body

-- a box that stands in front of others, by the bytes that it takes
box_in_front : (top : Bool) (at : ℕ) (front body rest : List ℕ) (h : BoxHead) → head_of top at (front ++ rest) ≡ Ok h → length front ≡ h.size → drop h.head front ≡ body
    → boxes top at (front ++ rest) ≡ with_first (record { head = h; body = body }) (boxes top (at + h.size) rest)
box_in_front top at front body rest h head long inner =
    let cut : drop h.size (front ++ rest) ≡ rest = drop_at front rest h.size long in
    let whole : take h.size (front ++ rest) ≡ front = take_at front rest h.size long in
    boxes_step top at (front ++ rest) h head
    ∙ ap (λ (b : List ℕ). with_first (record { head = h; body = b }) (boxes top (at + h.size) (drop h.size (front ++ rest)))) (ap (drop h.head) whole ∙ inner)
    ∙ ap (λ (t : List ℕ). with_first (record { head = h; body = body }) (boxes top (at + h.size) t)) cut

-- a box in front of others
pub boxes_box : (top : Bool) (at : ℕ) (kind body rest : List ℕ) → length kind ≡ 4 → length body < 2 ^ 32 - 8
    → boxes top at (box_of kind body ++ rest)
    ≡ with_first (record { head = record { kind = record { 0 = kind }; at = at; head = 8; size = 8 + length body }; body = body }) (boxes top (at + (8 + length body)) rest)
boxes_box top at kind body rest k lt =
    box_in_front top at (box_of kind body) body rest (record { kind = record { 0 = kind }; at = at; head = 8; size = 8 + length body })
    (head_of_box top at kind body rest k lt) (length-box_of kind body k) (box_body kind body k)

-- a box with a size in eight bytes in front of others
pub boxes_wide : (top : Bool) (at : ℕ) (kind body rest : List ℕ) → length kind ≡ 4 → 16 + length body < 2 ^ 64
    → boxes top at (wide_box kind body ++ rest)
    ≡ with_first (record { head = record { kind = record { 0 = kind }; at = at; head = 16; size = 16 + length body }; body = body }) (boxes top (at + (16 + length body)) rest)
boxes_wide top at kind body rest k lt =
    box_in_front top at (wide_box kind body) body rest (record { kind = record { 0 = kind }; at = at; head = 16; size = 16 + length body })
    (head_of_wide top at kind body rest k lt) (length-wide_box kind body k) (wide_body kind body k)
