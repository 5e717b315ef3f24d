-- The pieces between start codes, found one after the other.
use Rattle.std.proofs.Common.{◌≡◌, ℕ, suc, ◌+◌, ◌≤◌, ◌<◌, Bool, true, false, cond, get_or, List, [], ◌∷◌, ◌++◌, length, take, drop, refl, sym, ap, ◌∙◌, append_assoc, arith}
use Rattle.std.proofs.Math.Seq.{take-suc}
use Rattle.std.proofs.lemmas.List.{drop_more, length-drop, append-nil, take-append-drop}
use Rattle.sf_avc.specs.Units.{is_code, longer, pieces}

-- pieces, with bytes in front of the first
abbrev pub before : List ℕ → List (List ℕ) → List (List ℕ)
before front [] = []
before front (p ∷ ps) = (front ++ p) ∷ ps

before_none : (ps : List (List ℕ)) → ps ≡ before [] ps
before_none [] = refl
before_none (p ∷ ps) = refl

before_longer : (front : List ℕ) (a : ℕ) (ps : List (List ℕ)) → before front (longer a ps) ≡ before (front ++ a ∷ []) ps
before_longer front a [] = refl
before_longer front a (p ∷ ps) = ap (λ (q : List ℕ). q ∷ ps) (sym (append_assoc front (a ∷ []) p))

after_one : (xs : List ℕ) (at : ℕ) → at + 3 ≤ length xs → drop (at + 1) xs ≡ get_or xs (at + 1) 0 ∷ get_or xs (at + 2) 0 ∷ drop (at + 3) xs
after_one xs at le =
    let two : at + 1 + 1 ≡ at + 2 = omega arith in
    let all : at + 2 + 1 ≡ at + 3 = omega arith in
    drop_more xs (at + 1) 0 (omega arith)
    ∙ ap (λ (n : ℕ). get_or xs (at + 1) 0 ∷ drop n xs) two
    ∙ ap (λ (r : List ℕ). get_or xs (at + 1) 0 ∷ r) (drop_more xs (at + 2) 0 (omega arith))
    ∙ ap (λ (n : ℕ). get_or xs (at + 1) 0 ∷ get_or xs (at + 2) 0 ∷ drop n xs) all

-- the bytes from a place on
three : (xs : List ℕ) (at : ℕ) → at + 3 ≤ length xs → drop at xs ≡ get_or xs at 0 ∷ get_or xs (at + 1) 0 ∷ get_or xs (at + 2) 0 ∷ drop (at + 3) xs
three xs at le =
    drop_more xs at 0 (omega arith)
    ∙ ap (λ (r : List ℕ). get_or xs at 0 ∷ r) (after_one xs at le)

code_there : (a b c : ℕ) (rest : List ℕ) → is_code a b c ≡ true → pieces (a ∷ b ∷ c ∷ rest) ≡ [] ∷ pieces rest
unfolding pieces
code_there a b c rest e = rw e refl

no_code : (a b c : ℕ) (rest : List ℕ) → is_code a b c ≡ false → pieces (a ∷ b ∷ c ∷ rest) ≡ longer a (pieces (b ∷ c ∷ rest))
unfolding pieces
no_code a b c rest e = rw e refl

pub pieces_few : (xs : List ℕ) → length xs ≤ 2 → pieces xs ≡ xs ∷ []
unfolding pieces
pieces_few [] le = refl
pieces_few (a ∷ []) le = refl
pieces_few (a ∷ b ∷ []) le = refl
pieces_few (a ∷ b ∷ c ∷ xs) le = absurd (omega arith)

-- the search so far has found no start code
abbrev pub Seeks : List ℕ → ℕ → Type 0
Seeks xs at = pieces xs ≡ before (take at xs) (pieces (drop at xs))

pub seeks_begins : (xs : List ℕ) → Seeks xs 0
seeks_begins xs = before_none (pieces xs)

pub seeks_on : (xs : List ℕ) (at : ℕ) → at + 3 ≤ length xs → is_code (get_or xs at 0) (get_or xs (at + 1) 0) (get_or xs (at + 2) 0) ≡ false → Seeks xs at → Seeks xs (at + 1)
seeks_on xs at le none e =
    let a : ℕ = get_or xs at 0 in
    let next : at + 1 ≡ suc at = omega arith in
    let front : take (at + 1) xs ≡ take at xs ++ a ∷ [] = ap (λ (n : ℕ). take n xs) next ∙ take-suc xs at 0 (omega arith) in
    let more = after_one xs at le in
    e
    ∙ ap (λ (r : List ℕ). before (take at xs) (pieces r)) (three xs at le)
    ∙ ap (before (take at xs)) (no_code a (get_or xs (at + 1) 0) (get_or xs (at + 2) 0) (drop (at + 3) xs) none)
    ∙ before_longer (take at xs) a (pieces (get_or xs (at + 1) 0 ∷ get_or xs (at + 2) 0 ∷ drop (at + 3) xs))
    ∙ ap (λ (f : List ℕ). before f (pieces (get_or xs (at + 1) 0 ∷ get_or xs (at + 2) 0 ∷ drop (at + 3) xs))) (sym front)
    ∙ ap (λ (r : List ℕ). before (take (at + 1) xs) (pieces r)) (sym more)

pub seeks_found : (xs : List ℕ) (at : ℕ) → at + 3 ≤ length xs → is_code (get_or xs at 0) (get_or xs (at + 1) 0) (get_or xs (at + 2) 0) ≡ true → Seeks xs at
    → pieces xs ≡ take at xs ∷ pieces (drop (at + 3) xs)
seeks_found xs at le here e =
    e
    ∙ ap (λ (r : List ℕ). before (take at xs) (pieces r)) (three xs at le)
    ∙ ap (before (take at xs)) (code_there (get_or xs at 0) (get_or xs (at + 1) 0) (get_or xs (at + 2) 0) (drop (at + 3) xs) here)
    ∙ ap (λ (p : List ℕ). p ∷ pieces (drop (at + 3) xs)) (append-nil (take at xs))

pub seeks_none : (xs : List ℕ) (at : ℕ) → length xs ≤ at + 2 → Seeks xs at → pieces xs ≡ xs ∷ []
seeks_none xs at le e =
    e
    ∙ ap (before (take at xs)) (pieces_few (drop at xs) (omega (arith, length-drop at xs)))
    ∙ ap (λ (p : List ℕ). p ∷ []) (take-append-drop at xs)

length_longer : (a : ℕ) (ps : List (List ℕ)) → length (longer a ps) ≡ length ps
length_longer a [] = refl
length_longer a (p ∷ ps) = refl

either_some : (b : Bool) (ps qs : List (List ℕ)) → 0 < length ps → 0 < length qs → 0 < length (cond b ps qs)
either_some true ps qs x y = x
either_some false ps qs x y = y

-- there is always a piece
pub pieces_some : (xs : List ℕ) → 0 < length (pieces xs)
unfolding pieces
pieces_some [] = omega arith
pieces_some (a ∷ []) = omega arith
pieces_some (a ∷ b ∷ []) = omega arith
pieces_some (a ∷ b ∷ c ∷ rest) =
    either_some (is_code a b c) ([] ∷ pieces rest) (longer a (pieces (b ∷ c ∷ rest))) (omega arith)
    (omega (arith, length_longer a (pieces (b ∷ c ∷ rest)), pieces_some (b ∷ c ∷ rest)))
