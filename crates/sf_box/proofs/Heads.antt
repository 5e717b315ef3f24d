-- Heads that are read one after the other, and the list of boxes.
use Rattle.std.proofs.Common.{is_err, Option, Some, None, OnOk, ◌≡◌, ℕ, ◌+◌, ◌-◌, ◌<◌, ◌≤◌, min, Bool, true, false, cond, ◌||◌, ltb, ◌==◌, inl, inr, List, [], ◌∷◌, ◌++◌, length, take, drop, Result, Ok, Err, refl, sym, subst, ap, ◌∙◌, append_assoc, arith}
use Rattle.std.proofs.lemmas.List.{length-drop, take-take, drop-take, drop-drop, map-append}
use Rattle.std.proofs.lemmas.Bool.{cases_lt}
use Rattle.std.proofs.lemmas.List.{append-nil, take_all}
use Rattle.std.proofs.lemmas.List.Elements.{All-append, All-cons, All-nil}
use Rattle.std.proofs.Math.Seq.{take-length}
use Rattle.std.specs.Int.{w32, w64, from_be_bytes}
use Rattle.std.specs.List.{All, Contains}
use Rattle.std.specs.Str.{bytes_eq}
use Rattle.sf_box.specs.declared.types.BoxHead.{BoxHead}
use Rattle.sf_box.specs.declared.types.BoxFault.{BoxFault}
use Rattle.sf_box.specs.declared.types.BoxFault.TheVariants.{Short, Overrun}
use Rattle.sf_box.specs.Boxes.{word32, word64, Piece, sized, head_in, head_of, with_first, joined_with, first_then, piece_of, boxes, leading}
use Rattle.sf_box.specs.Reading.{piece_at, pieces_at, Within, AreHeads, first_head, piece_found, FindsPiece}
use Rattle.sf_box.specs.inner.Walks.{Walked, told}
use Rattle.sf_box.proofs.Boxes.{chosen, head_takes, boxes_step, boxes_none, boxes_fault, joined_more, boxes_by_head}
use Rattle.sf_box.proofs.LeadingBoxes.{leading_step, leading_none, leading_end}

sized_place : (at room head size : ℕ) (first : List ℕ) (h : BoxHead) → sized at room head size first ≡ Ok h → h.at ≡ at
sized_place at room head size first h e =
    let it : BoxHead = record { kind = record { 0 = take 4 (drop 4 first) }; at = at; head = head; size = size } in
    elim (chosen (ltb size head || ltb room size) (Err (Overrun at size)) (Ok it) (Ok h) e) [
      | inl p ↦ absurd (cc (p.1))
      | inr p ↦ let is : it ≡ h = cc (p.1) in sym (ap (λ (x : BoxHead). x.at) is)
    ]

-- a head that was read stands at its place
pub head_place : (top : Bool) (at : ℕ) (bytes : List ℕ) (h : BoxHead) → head_of top at bytes ≡ Ok h → h.at ≡ at
unfolding head_of
head_place top at bytes h e =
    elim (chosen (ltb (length bytes) 8) _ _ (Ok h) e) [
      | inl p ↦ absurd (cc (p.1))
      | inr p ↦
          elim (chosen (word32 bytes == 1) _ _ (Ok h) p.1) [
            | inl q ↦
                elim (chosen (ltb (length bytes) 16) _ _ (Ok h) q.1) [
                  | inl r ↦ absurd (cc (r.1))
                  | inr r ↦ sized_place at (length bytes) 16 (word64 (drop 8 bytes)) bytes h r.1
                ]
            | inr q ↦
                elim (chosen (word32 bytes == 0) _ _ (Ok h) q.1) [
                  | inl r ↦
                      elim (chosen top _ _ (Ok h) r.1) [
                        | inl s ↦ sized_place at (length bytes) 8 (length bytes) bytes h s.1
                        | inr s ↦ absurd (cc (s.1))
                      ]
                  | inr r ↦ sized_place at (length bytes) 8 (word32 bytes) bytes h r.1
                ]
          ]
    ]

-- ---- the first sixteen bytes tell the head

word_first : (bytes : List ℕ) (n : ℕ) → 4 ≤ n → word32 (take n bytes) ≡ word32 bytes
unfolding word32
word_first bytes n le = ap (from_be_bytes w32) (take-take 4 n bytes le)

wide_first : (bytes : List ℕ) (n : ℕ) → 8 ≤ n → word64 (take n bytes) ≡ word64 bytes
unfolding word64
wide_first bytes n le = ap (from_be_bytes w64) (take-take 8 n bytes le)

-- heads are the same where their three fields are
same_fields : (top : Bool) (at room : ℕ) (xs ys : List ℕ) → word32 xs ≡ word32 ys → take 4 (drop 4 xs) ≡ take 4 (drop 4 ys) → word64 (drop 8 xs) ≡ word64 (drop 8 ys)
    → head_in top at room xs ≡ head_in top at room ys
same_fields top at room xs ys size kind wide = rw (size, kind, wide) refl

-- the first bytes of a rest tell its head as the whole rest does
pub first_tells : (top : Bool) (at : ℕ) (bytes first : List ℕ) → first ≡ take (min 16 (length bytes)) bytes → head_in top at (length bytes) first ≡ head_of top at bytes
unfolding head_of
first_tells top at bytes first e =
    elim (cases_lt 16 (length bytes)) [
      | inr few ↦
          let m : min 16 (length bytes) ≡ length bytes = omega arith in
          ap (head_in top at (length bytes)) (e ∙ ap (λ (n : ℕ). take n bytes) m ∙ take-length bytes)
      | inl many ↦
          let m : min 16 (length bytes) ≡ 16 = omega arith in
          let f : first ≡ take 16 bytes = e ∙ ap (λ (n : ℕ). take n bytes) m in
          let kind : take 4 (drop 4 (take 16 bytes)) ≡ take 4 (drop 4 bytes) = ap (take 4) (drop-take 4 12 bytes) ∙ take-take 4 12 (drop 4 bytes) (omega arith) in
          let wide : word64 (drop 8 (take 16 bytes)) ≡ word64 (drop 8 bytes) = ap word64 (drop-take 8 8 bytes) ∙ wide_first (drop 8 bytes) 8 (omega arith) in
          ap (head_in top at (length bytes)) f ∙ same_fields top at (length bytes) (take 16 bytes) bytes (word_first bytes 16 (omega arith)) kind wide
    ]

-- as many first bytes as there are, up to sixteen
take_some : (bytes : List ℕ) → take 16 bytes ≡ take (min 16 (length bytes)) bytes
take_some bytes =
    elim (cases_lt 16 (length bytes)) [
      | inr few ↦
          let m : min 16 (length bytes) ≡ length bytes = omega arith in
          take_all 16 bytes few ∙ sym (take-length bytes) ∙ ap (λ (n : ℕ). take n bytes) (sym m)
      | inl many ↦
          let m : min 16 (length bytes) ≡ 16 = omega arith in
          ap (λ (n : ℕ). take n bytes) (sym m)
    ]

-- a head that the first bytes tell is the first step along the boxes
pub step_by_head : (top : Bool) (at room : ℕ) (first : List ℕ) (r : Result BoxHead BoxFault) → 0 < room → r ≡ head_in top at room first
    → (bytes : List ℕ) → length bytes ≡ room → take 16 bytes ≡ first
    → boxes top at bytes ≡ first_then r (λ h. with_first (piece_of h bytes) (boxes top (at + h.size) (drop h.size bytes)))
step_by_head top at room first r some e bytes long begins =
    let whole : first ≡ take (min 16 (length bytes)) bytes = sym begins ∙ take_some bytes in
    let head : r ≡ head_of top at bytes = e ∙ ap (λ (n : ℕ). head_in top at n first) (sym long) ∙ first_tells top at bytes first whole in
    boxes_by_head top at bytes (omega (arith, long, some))
    ∙ ap (λ (x : Result BoxHead BoxFault). first_then x (λ h. with_first (piece_of h bytes) (boxes top (at + h.size) (drop h.size bytes)))) (sym head)

-- ---- a walk along heads

-- The boxes of the heads so far, then those of the rest, are those of all bytes, for both walks.
pub record Walk (base : ℕ) (all : List ℕ) (heads : List BoxHead) (at : ℕ) (rest : List ℕ) : Type 0 where
  pub whole : boxes false base all ≡ joined_with (pieces_at base all heads) (boxes false at rest)
  pub leads : leading base all ≡ pieces_at base all heads ++ leading at rest
  pub place : at + length rest ≡ base + length all
  pub rest_is : rest ≡ drop (at - base) all
  pub order : base ≤ at
  pub within : All (Within base all) heads

joined_none : (r : Result (List Piece) BoxFault) → r ≡ joined_with [] r
joined_none (Ok qs) = refl
joined_none (Err f) = refl

pub walk_begins : (base : ℕ) (all : List ℕ) → Walk base all [] base all
walk_begins base all =
    let none : base - base ≡ 0 = omega arith in
    record {
      whole = joined_none (boxes false base all);
      leads = refl;
      place = refl;
      rest_is = rw none refl;
      order = omega arith;
      within = All-nil (Within base all);
    }

-- a rest after a box
rest_behind : (base at size : ℕ) (all rest : List ℕ) → base ≤ at → rest ≡ drop (at - base) all → drop size rest ≡ drop ((at + size) - base) all
rest_behind base at size all rest order e =
    let n : (at + size) - base ≡ (at - base) + size = omega arith in
    ap (drop size) e ∙ drop-drop size (at - base) all ∙ ap (λ (k : ℕ). drop k all) (sym n)

-- the piece of a head that was read at a place
piece_stands : (base at : ℕ) (all rest : List ℕ) (h : BoxHead) → rest ≡ drop (at - base) all → h.at ≡ at → piece_of h rest ≡ piece_at base all h
piece_stands base at all rest h e place =
    ap (piece_of h) (e ∙ ap (λ (n : ℕ). drop (n - base) all) (sym place))

walk_goes : (base : ℕ) (all : List ℕ) (heads : List BoxHead) (at : ℕ) (rest : List ℕ) (h : BoxHead) → head_of false at rest ≡ Ok h → Walk base all heads at rest
    → Walk base all (heads ++ h ∷ []) (at + h.size) (drop h.size rest)
walk_goes base all heads at rest h e w =
    let t = head_takes false at rest h e in
    let place = head_place false at rest h e in
    let behind : List ℕ = drop h.size rest in
    let stands = piece_stands base at all rest h w.rest_is place in
    let pieces = map-append (piece_at base all) heads (h ∷ []) in
    let step : boxes false at rest ≡ with_first (piece_at base all h) (boxes false (at + h.size) behind) =
    boxes_step false at rest h e ∙ ap (λ (p : Piece). with_first p (boxes false (at + h.size) behind)) stands in
    let lead : leading at rest ≡ piece_at base all h ∷ leading (at + h.size) behind =
    leading_step at rest h e ∙ ap (λ (p : Piece). p ∷ leading (at + h.size) behind) stands in
    record {
      whole = w.whole ∙ ap (joined_with (pieces_at base all heads)) step
          ∙ joined_more (pieces_at base all heads) (piece_at base all h) (boxes false (at + h.size) behind)
          ∙ ap (λ (ps : List Piece). joined_with ps (boxes false (at + h.size) behind)) (sym pieces);
      leads = w.leads ∙ ap (λ (ps : List Piece). pieces_at base all heads ++ ps) lead
          ∙ sym (append_assoc (pieces_at base all heads) (piece_at base all h ∷ []) (leading (at + h.size) behind))
          ∙ ap (λ (ps : List Piece). ps ++ leading (at + h.size) behind) (sym pieces);
      place = omega (arith, length-drop h.size rest, t.whole, w.place);
      rest_is = rest_behind base at h.size all rest w.order w.rest_is;
      order = omega (arith, w.order);
      within = All-append (Within base all) heads (h ∷ []) w.within
          (All-cons (Within base all) h [] (record { begins = omega (arith, place, w.order); ends = omega (arith, place, t.whole, w.place); head = t.head; least = t.least }) (All-nil (Within base all)));
    }

-- the walk goes on after a head that was put to the others
pub walk_next : (base : ℕ) (all : List ℕ) (heads : List BoxHead) (at : ℕ) (rest : List ℕ) (h : BoxHead) (new : List BoxHead) (behind : List ℕ)
    → new ≡ heads ++ h ∷ [] → behind ≡ drop h.size rest → Ok h ≡ head_of false at rest → Walk base all heads at rest
    → Walk base all new (at + h.size) behind
walk_next base all heads at rest h new behind more after e w = rw (more, after) (walk_goes base all heads at rest h (sym e) w)

joined_end : (ps : List Piece) → joined_with ps (Ok []) ≡ Ok ps
joined_end ps = ap (λ (xs : List Piece). Ok xs) (append-nil ps)

lead_end : (base : ℕ) (all : List ℕ) (heads : List BoxHead) (at : ℕ) (rest : List ℕ) → leading at rest ≡ [] → Walk base all heads at rest → leading base all ≡ pieces_at base all heads
lead_end base all heads at rest e w =
    w.leads ∙ ap (λ (ps : List Piece). pieces_at base all heads ++ ps) e ∙ append-nil (pieces_at base all heads)

pub walk_ends : (base : ℕ) (all : List ℕ) (heads : List BoxHead) (at : ℕ) (rest : List ℕ) → length rest ≡ 0 → Walk base all heads at rest → Walked base all heads None
walk_ends base all heads at [] none w = record {
  leads = lead_end base all heads at [] (leading_none at) w;
  ends = w.whole ∙ ap (joined_with (pieces_at base all heads)) (boxes_none false at) ∙ joined_end (pieces_at base all heads);
  within = w.within;
}
walk_ends base all heads at (b ∷ rest) none w = absurd (omega (arith, none))

pub walk_fails : (base : ℕ) (all : List ℕ) (heads : List BoxHead) (at : ℕ) (rest : List ℕ) (f : BoxFault) → 0 < length rest → Err f ≡ head_of false at rest → Walk base all heads at rest
    → Walked base all heads (Some f)
walk_fails base all heads at rest f some e w = record {
  leads = lead_end base all heads at rest (leading_end at rest f (sym e)) w;
  ends = w.whole ∙ ap (joined_with (pieces_at base all heads)) (boxes_fault false at rest f some (sym e));
  within = w.within;
}

-- a fault of a walk, told of its holder
pub tells_fault : (base : ℕ) (all : List ℕ) (f : BoxFault) → boxes false base all ≡ Err f → AreHeads base all (Err (told f))
tells_fault base all (Short n) e = e
tells_fault base all (Overrun n size) e = e

-- a push that wasn't refused
pub pushed : {T E : Type 0} (r : Result T E) (P : Type 0) → is_err r ≡ false → OnOk r P → P
pushed (Ok x) P e p = p
pushed (Err x) P e p = absurd (cc e)

-- ---- the first of a type

found_cond : (base : ℕ) (bytes : List ℕ) (b : Bool) (h : BoxHead) (rest : Option BoxHead) → cond b (Some (piece_at base bytes h)) (piece_found base bytes rest) ≡ piece_found base bytes (cond b (Some h) rest)
found_cond base bytes true h rest = refl
found_cond base bytes false h rest = refl

pub finds_piece : (heads : List BoxHead) (kind : List ℕ) → FindsPiece heads kind (first_head heads kind)
finds_piece [] kind base bytes = refl
finds_piece (h ∷ hs) kind base bytes =
    ap (λ (x : Option Piece). cond (bytes_eq h.kind.0 kind) (Some (piece_at base bytes h)) x) (finds_piece hs kind base bytes)
    ∙ found_cond base bytes (bytes_eq h.kind.0 kind) h (first_head hs kind)

pub finds_by : (heads : List BoxHead) (kind : List ℕ) (found : Option BoxHead) → found ≡ first_head heads kind → FindsPiece heads kind found
finds_by heads kind found e base bytes = finds_piece heads kind base bytes ∙ ap (piece_found base bytes) (sym e)

-- what holds of all heads holds of one among them
pub all_among : (base : ℕ) (all : List ℕ) (heads : List BoxHead) (h : BoxHead) → Contains heads h → All (Within base all) heads → Within base all h
all_among base all heads h there each = let P : BoxHead → Type 0 = Within base all in subst P (there.2) (each there.0 h there.1)
