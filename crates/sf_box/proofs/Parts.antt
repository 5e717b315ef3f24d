-- What was written from parts is read as these parts.
use Rattle.std.proofs.Common.{◌≡◌, ℕ, ◌+◌, Bool, true, false, cond, List, [], ◌∷◌, ◌++◌, length, map, Option, Some, None, Result, Ok, Err, refl, sym, ap, ◌∙◌, append_assoc, arith}
use Rattle.std.specs.List.{AllByRecursion}
use Rattle.std.specs.Str.{bytes_eq}
use Rattle.std.proofs.lemmas.List.{length-append}
use Rattle.sf_box.specs.declared.types.BoxFault.{BoxFault}
use Rattle.sf_box.specs.Boxes.{Piece, box_of, with_first, joined_with, boxes}
use Rattle.sf_box.specs.Parts.{Part, part_of, parts_from, parts, tiled, laid, child, child_piece, Fits}
use Rattle.sf_box.proofs.Boxes.{boxes_box, boxes_none}
use Rattle.sf_box.proofs.Numbers.{length-box_of}

-- the bytes of parts in front of others
pub tiled-append : (ps qs : List Part) → tiled (ps ++ qs) ≡ tiled ps ++ tiled qs
unfolding tiled
tiled-append [] qs = refl
tiled-append (p ∷ ps) qs = ap (λ (t : List ℕ). box_of p.0 p.1 ++ t) (tiled-append ps qs) ∙ sym (append_assoc (box_of p.0 p.1) (tiled ps) (tiled qs))

pub length-tiled-cons : (p : Part) (ps : List Part) → length p.0 ≡ 4 → length (tiled (p ∷ ps)) ≡ 8 + length p.1 + length (tiled ps)
unfolding tiled
length-tiled-cons p ps k = omega (arith, length-append (box_of p.0 p.1) (tiled ps), length-box_of p.0 p.1 k)

pub length-tiled-nil : length (tiled []) ≡ 0
unfolding tiled
length-tiled-nil = refl

joined_first : (p : Piece) (ps : List Piece) (r : Result (List Piece) BoxFault) → with_first p (joined_with ps r) ≡ joined_with (p ∷ ps) r
joined_first p ps (Ok qs) = refl
joined_first p ps (Err f) = refl

joined_nil : (r : Result (List Piece) BoxFault) → joined_with [] r ≡ r
joined_nil (Ok qs) = refl
joined_nil (Err f) = refl

-- parts that were written in front of other bytes
pub boxes_tiled_then : (top : Bool) (at : ℕ) (ps : List Part) (rest : List ℕ) → AllByRecursion Fits ps
    → boxes top at (tiled ps ++ rest) ≡ joined_with (laid at ps) (boxes top (at + length (tiled ps)) rest)
unfolding tiled
boxes_tiled_then top at [] rest fits =
    let e : at + 0 ≡ at = omega arith in
    rw e (sym (joined_nil (boxes top at rest)))
boxes_tiled_then top at (p ∷ ps) rest fits =
    let more : at + (8 + length p.1) + length (tiled ps) ≡ at + length (box_of p.0 p.1 ++ tiled ps) =
    omega (arith, length-append (box_of p.0 p.1) (tiled ps), length-box_of p.0 p.1 fits.0.kind) in
    let first : Piece = record { head = record { kind = record { 0 = p.0 }; at = at; head = 8; size = 8 + length p.1 }; body = p.1 } in
    ap (boxes top at) (append_assoc (box_of p.0 p.1) (tiled ps) rest)
    ∙ boxes_box top at p.0 p.1 (tiled ps ++ rest) fits.0.kind fits.0.body
    ∙ ap (with_first first) (boxes_tiled_then top (at + (8 + length p.1)) ps rest fits.1)
    ∙ joined_first first (laid (at + (8 + length p.1)) ps) (boxes top (at + (8 + length p.1) + length (tiled ps)) rest)
    ∙ ap (λ (n : ℕ). joined_with (laid at (p ∷ ps)) (boxes top n rest)) more

-- what was written from parts is read as these parts, each at its place
pub boxes_tiled : (top : Bool) (at : ℕ) (ps : List Part) → AllByRecursion Fits ps → boxes top at (tiled ps) ≡ Ok (laid at ps)
unfolding tiled
boxes_tiled top at [] fits = boxes_none top at
boxes_tiled top at (p ∷ ps) fits =
    let first : Piece = record { head = record { kind = record { 0 = p.0 }; at = at; head = 8; size = 8 + length p.1 }; body = p.1 } in
    boxes_box top at p.0 p.1 (tiled ps) fits.0.kind fits.0.body
    ∙ ap (with_first first) (boxes_tiled top (at + (8 + length p.1)) ps fits.1)

-- boxes without their places are the parts
pub parts_laid : (at : ℕ) (ps : List Part) → map part_of (laid at ps) ≡ ps
parts_laid at [] = refl
parts_laid at (p ∷ ps) = ap (λ (qs : List Part). p ∷ qs) (parts_laid (at + (8 + length p.1)) ps)

pub parts_tiled : (top : Bool) (ps : List Part) → AllByRecursion Fits ps → parts top (tiled ps) ≡ Some ps
unfolding parts
parts_tiled top ps fits = ap parts_from (boxes_tiled top 0 ps fits) ∙ ap (λ (qs : List Part). Some qs) (parts_laid 0 ps)

-- the places of parts in front of others
pub laid-append : (at : ℕ) (ps qs : List Part) → AllByRecursion Fits ps → laid at (ps ++ qs) ≡ laid at ps ++ laid (at + length (tiled ps)) qs
laid-append at [] qs fits =
    let e : at + length (tiled []) ≡ at = omega (arith, length-tiled-nil) in
    rw e refl
laid-append at (p ∷ ps) qs fits =
    let more : at + (8 + length p.1) + length (tiled ps) ≡ at + length (tiled (p ∷ ps)) = omega (arith, length-tiled-cons p ps fits.0.kind) in
    ap (λ (ls : List Piece). record { head = record { kind = record { 0 = p.0 }; at = at; head = 8; size = 8 + length p.1 }; body = p.1 } ∷ ls)
    (laid-append (at + (8 + length p.1)) ps qs fits.1 ∙ ap (λ (n : ℕ). laid (at + (8 + length p.1)) ps ++ laid n qs) more)

-- the first that there is
abbrev pub or_else : {A : Type 0} → Option A → Option A → Option A
or_else None other = other
or_else (Some a) other = Some a

or_else-cond : {A : Type 0} (b : Bool) (x y z : Option A) → or_else (cond b x y) z ≡ cond b (or_else x z) (or_else y z)
or_else-cond true x y z = refl
or_else-cond false x y z = refl

-- the first body of a type in parts that stand before others
pub child-append : (ps qs : List Part) (kind : List ℕ) → child (ps ++ qs) kind ≡ or_else (child ps kind) (child qs kind)
child-append [] qs kind = refl
child-append (p ∷ ps) qs kind =
    ap (λ (x : Option (List ℕ)). cond (bytes_eq p.0 kind) (Some p.1) x) (child-append ps qs kind)
    ∙ sym (or_else-cond (bytes_eq p.0 kind) (Some p.1) (child ps kind) (child qs kind))

pub child_piece-append : (ps qs : List Piece) (kind : List ℕ) → child_piece (ps ++ qs) kind ≡ or_else (child_piece ps kind) (child_piece qs kind)
child_piece-append [] qs kind = refl
child_piece-append (p ∷ ps) qs kind =
    ap (λ (x : Option Piece). cond (bytes_eq p.head.kind.0 kind) (Some p) x) (child_piece-append ps qs kind)
    ∙ sym (or_else-cond (bytes_eq p.head.kind.0 kind) (Some p) (child_piece ps kind) (child_piece qs kind))
