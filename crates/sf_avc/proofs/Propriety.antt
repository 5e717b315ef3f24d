-- The units of a payload can stand after start codes.
use Rattle.std.proofs.Common.{◌≡◌, ◌≢◌, ℕ, ◌+◌, ◌≤◌, ◌==◌, inl, inr, Bool, true, false, cond, List, [], ◌∷◌, ◌++◌, length, Result, Ok, Err, refl, sym, subst, ap, ◌∙◌, append_assoc, arith}
use Rattle.std.proofs.lemmas.Bool.Decides.{eqb_tells}
use Rattle.std.proofs.lemmas.List.{append-nil, length-append}
use Rattle.std.specs.List.{AllByRecursion, list_all}
use Rattle.sf_avc.specs.declared.nal.NalFault.{NalFault}
use Rattle.sf_avc.specs.declared.nal.NalFault.TheVariants.{NoStart}
use Rattle.sf_avc.specs.Units.{Nal, is_code, longer, pieces, kept_before, trimmed, unit_before, units_of, after_start, nals}
use Rattle.sf_avc.specs.Units.{with_codes}
use Rattle.sf_avc.specs.UnitsBack.{Proper, placed}
use Rattle.sf_avc.proofs.UnitsBack.{codes_back}

-- no 00 00 01 stands in the bytes
abbrev pub NoCode : List ℕ → Type 0
NoCode bytes = (front after : List ℕ) → bytes ≢ front ++ 0 ∷ 0 ∷ 1 ∷ after

-- the bytes don't end with a zero byte
abbrev pub NoZero : List ℕ → Type 0
NoZero bytes = (front : List ℕ) → bytes ≢ front ++ 0 ∷ []

few_free : (bytes : List ℕ) → length bytes ≤ 2 → NoCode bytes
few_free bytes le front after e =
    let long : length bytes ≡ length (front ++ 0 ∷ 0 ∷ 1 ∷ after) = ap (λ (xs : List ℕ). length xs) e in
    omega (arith, le, long, length-append front (0 ∷ 0 ∷ 1 ∷ after))

longer_is : (a : ℕ) (qs : List (List ℕ)) (p : List ℕ) (ps : List (List ℕ)) → longer a qs ≡ p ∷ ps → (q : List ℕ) × (qs ≡ q ∷ ps) × (p ≡ a ∷ q)
longer_is a [] p ps e = absurd (cc e)
longer_is a (q ∷ qs) p ps e = (q, cc e, cc e)

only_begins : (xs p : List ℕ) (ps : List (List ℕ)) → xs ∷ [] ≡ p ∷ ps → (rest : List ℕ) × (xs ≡ p ++ rest)
only_begins xs p ps e =
    let is : xs ≡ p = cc e in
    ([], is ∙ sym (append-nil p))

two_begin : (code : Bool) (a : ℕ) (xs p : List ℕ) (after qs ps : List (List ℕ)) → cond code ([] ∷ after) (longer a qs) ≡ p ∷ ps
    → ((q : List ℕ) → qs ≡ q ∷ ps → (rest : List ℕ) × (xs ≡ q ++ rest)) → (rest : List ℕ) × (a ∷ xs ≡ p ++ rest)
two_begin true a xs p after qs ps e later =
    let none : [] ≡ p = cc e in
    (a ∷ xs, ap (λ (front : List ℕ). front ++ a ∷ xs) none)
two_begin false a xs p after qs ps e later =
    let l = longer_is a qs p ps e in
    let m = later l.0 l.1 in
    (m.0, ap (λ (bytes : List ℕ). a ∷ bytes) m.1 ∙ ap (λ (front : List ℕ). front ++ m.0) (sym l.2))

-- the first piece begins the bytes
piece_begins : (xs p : List ℕ) (ps : List (List ℕ)) → pieces xs ≡ p ∷ ps → (rest : List ℕ) × (xs ≡ p ++ rest)
unfolding pieces
piece_begins [] p ps e = only_begins [] p ps e
piece_begins (a ∷ []) p ps e = only_begins (a ∷ []) p ps e
piece_begins (a ∷ b ∷ []) p ps e = only_begins (a ∷ b ∷ []) p ps e
piece_begins (a ∷ b ∷ c ∷ rest) p ps e =
    two_begin (is_code a b c) a (b ∷ c ∷ rest) p (pieces rest) (pieces (b ∷ c ∷ rest)) ps e (λ q is. piece_begins (b ∷ c ∷ rest) q ps is)

code_is : (a b c : ℕ) → a ≡ 0 → b ≡ 0 → c ≡ 1 → is_code a b c ≡ false → ⊥
code_is a b c x y z none =
    let code : is_code a b c ≡ true = rw (x, y, z) refl in
    absurd (cc (sym code ∙ none))

-- one byte more in front makes no code where none stands there
cons_free : (a b c : ℕ) (rest q more : List ℕ) → is_code a b c ≡ false → b ∷ c ∷ rest ≡ q ++ more → NoCode q → NoCode (a ∷ q)
cons_free a b c rest q more none e free [] after h =
    let first : a ≡ 0 = cc h in
    let others : q ≡ 0 ∷ 1 ∷ after = cc h in
    let all : b ∷ c ∷ rest ≡ 0 ∷ 1 ∷ (after ++ more) = e ∙ ap (λ (front : List ℕ). front ++ more) others in
    code_is a b c first (cc all) (cc all) none
cons_free a b c rest q more none e free (x ∷ front) after h =
    let others : q ≡ front ++ 0 ∷ 0 ∷ 1 ∷ after = cc h in
    free front after others

longer_free : (a b c : ℕ) (rest : List ℕ) (qs : List (List ℕ)) → is_code a b c ≡ false → ((q : List ℕ) (ps : List (List ℕ)) → qs ≡ q ∷ ps → (more : List ℕ) × (b ∷ c ∷ rest ≡ q ++ more))
    → AllByRecursion NoCode qs → AllByRecursion NoCode (longer a qs)
longer_free a b c rest [] none begins free = tt
longer_free a b c rest (q ∷ qs) none begins free =
    let m = begins q qs refl in
    (cons_free a b c rest q m.0 none m.1 free.0, free.1)

two_free : (code : Bool) (ps qs : List (List ℕ)) → AllByRecursion NoCode ps → (code ≡ false → AllByRecursion NoCode qs) → AllByRecursion NoCode (cond code ps qs)
two_free true ps qs x y = x
two_free false ps qs x y = y refl

-- no piece has a code in it
pieces_free : (xs : List ℕ) → AllByRecursion NoCode (pieces xs)
unfolding pieces
pieces_free [] = (few_free [] (omega arith), tt)
pieces_free (a ∷ []) = (few_free (a ∷ []) (omega arith), tt)
pieces_free (a ∷ b ∷ []) = (few_free (a ∷ b ∷ []) (omega arith), tt)
pieces_free (a ∷ b ∷ c ∷ rest) =
    two_free (is_code a b c) ([] ∷ pieces rest) (longer a (pieces (b ∷ c ∷ rest))) (few_free [] (omega arith), pieces_free rest)
    (λ none. longer_free a b c rest (pieces (b ∷ c ∷ rest)) none (λ q ps is. piece_begins (b ∷ c ∷ rest) q ps is) (pieces_free (b ∷ c ∷ rest)))

-- ---- without the zero bytes at the end

kept_begins : (a : ℕ) (rest t z : List ℕ) → rest ≡ t ++ z → (y : List ℕ) × (a ∷ rest ≡ kept_before a t ++ y)
kept_begins a rest [] z e =
    elim (eqb_tells a 0) [
      | inl p ↦ rw p.0 (a ∷ rest, refl)
      | inr p ↦ rw p.0 (rest, refl)
    ]
kept_begins a rest (b ∷ t) z e = (z, ap (λ (xs : List ℕ). a ∷ xs) e)

trimmed_begins : (q : List ℕ) → (z : List ℕ) × (q ≡ trimmed q ++ z)
unfolding trimmed
trimmed_begins [] = ([], refl)
trimmed_begins (a ∷ rest) =
    let m = trimmed_begins rest in
    kept_begins a rest (trimmed rest) m.0 m.1

none_free : NoZero []
none_free front e =
    let long : 0 ≡ length (front ++ 0 ∷ []) = ap (λ (xs : List ℕ). length xs) e in
    omega (arith, long, length-append front (0 ∷ []))

one_free : (a : ℕ) → a ≢ 0 → NoZero (a ∷ [])
one_free a ne [] e = ne (cc e)
one_free a ne (x ∷ front) e = none_free front (cc e)

more_free : (a b : ℕ) (t : List ℕ) → NoZero (b ∷ t) → NoZero (a ∷ b ∷ t)
more_free a b t free [] e = absurd (cc e)
more_free a b t free (x ∷ front) e = free front (cc e)

kept_free : (a : ℕ) (t : List ℕ) → NoZero t → NoZero (kept_before a t)
kept_free a [] free =
    elim (eqb_tells a 0) [
      | inl p ↦ rw p.0 none_free
      | inr p ↦ rw p.0 (one_free a p.1)
    ]
kept_free a (b ∷ t) free = more_free a b t free

trimmed_free : (q : List ℕ) → NoZero (trimmed q)
unfolding trimmed
trimmed_free [] = none_free
trimmed_free (a ∷ rest) = kept_free a (trimmed rest) (trimmed_free rest)

-- ---- units

proper_is : (at : ℕ) (p : List ℕ) → NoCode p → 1 ≤ length (trimmed p) → Proper (record { at = at; bytes = trimmed p })
proper_is at p free some =
    let m = trimmed_begins p in
    record {
      some = some;
      no_code = λ front after e. free front (after ++ m.0) (m.1 ∙ ap (λ (t : List ℕ). t ++ m.0) e ∙ append_assoc front (0 ∷ 0 ∷ 1 ∷ after) m.0);
      no_zero = trimmed_free p;
    }

before_proper : (at : ℕ) (t : List ℕ) (others : Result (List Nal) NalFault) (us : List Nal) → (1 ≤ length t → Proper (record { at = at; bytes = t }))
    → ((vs : List Nal) → others ≡ Ok vs → AllByRecursion Proper vs) → unit_before at t others ≡ Ok us → AllByRecursion Proper us
before_proper at [] others us p later e = absurd (cc e)
before_proper at (a ∷ t) (Err f) us p later e = absurd (cc e)
before_proper at (a ∷ t) (Ok vs) us p later e =
    let is : record { at = at; bytes = a ∷ t } ∷ vs ≡ us = cc e in
    subst (λ (xs : List Nal). AllByRecursion Proper xs) is (p (omega arith), later vs refl)

units_proper : (at : ℕ) (ps : List (List ℕ)) (us : List Nal) → AllByRecursion NoCode ps → units_of at ps ≡ Ok us → AllByRecursion Proper us
unfolding units_of
units_proper at [] us free e =
    let is : [] ≡ us = cc e in
    subst (λ (xs : List Nal). AllByRecursion Proper xs) is tt
units_proper at (p ∷ ps) us free e =
    before_proper at (trimmed p) (units_of (at + length p + 3) ps) us (proper_is at p free.0) (λ vs is. units_proper (at + length p + 3) ps vs free.1 is) e

chosen_proper : (b : Bool) (r : Result (List Nal) NalFault) (us : List Nal) → (r ≡ Ok us → AllByRecursion Proper us) → cond b r (Err NoStart) ≡ Ok us → AllByRecursion Proper us
chosen_proper true r us p e = p e
chosen_proper false r us p e = absurd (cc e)

start_proper : (ps : List (List ℕ)) (us : List Nal) → AllByRecursion NoCode ps → after_start ps ≡ Ok us → AllByRecursion Proper us
start_proper [] us free e = absurd (cc e)
start_proper (p ∷ []) us free e = absurd (cc e)
start_proper (p ∷ q ∷ ps) us free e = chosen_proper (list_all (λ b. b == 0) p) (units_of (length p + 3) (q ∷ ps)) us (λ is. units_proper (length p + 3) (q ∷ ps) us free.1 is) e

-- the units of a payload can stand after start codes
pub nals_proper : (payload : List ℕ) (us : List Nal) → nals payload ≡ Ok us → AllByRecursion Proper us
unfolding nals
nals_proper payload us e = start_proper (pieces payload) us (pieces_free payload) e

before_some : (at : ℕ) (t : List ℕ) (others : Result (List Nal) NalFault) (us : List Nal) → unit_before at t others ≡ Ok us → 1 ≤ length us
before_some at [] others us e = absurd (cc e)
before_some at (a ∷ t) (Err f) us e = absurd (cc e)
before_some at (a ∷ t) (Ok vs) us e =
    let is : record { at = at; bytes = a ∷ t } ∷ vs ≡ us = cc e in
    subst (λ (xs : List Nal). 1 ≤ length xs) is (omega arith)

chosen_some : (b : Bool) (at : ℕ) (t : List ℕ) (others : Result (List Nal) NalFault) (us : List Nal) → cond b (unit_before at t others) (Err NoStart) ≡ Ok us → 1 ≤ length us
chosen_some true at t others us e = before_some at t others us e
chosen_some false at t others us e = absurd (cc e)

start_some : (ps : List (List ℕ)) (us : List Nal) → after_start ps ≡ Ok us → 1 ≤ length us
unfolding units_of
start_some [] us e = absurd (cc e)
start_some (p ∷ []) us e = absurd (cc e)
start_some (p ∷ q ∷ ps) us e = chosen_some (list_all (λ b. b == 0) p) (length p + 3) (trimmed q) (units_of (length p + 3 + length q + 3) ps) us e

-- a payload has a unit
pub nals_some : (payload : List ℕ) (us : List Nal) → nals payload ≡ Ok us → 1 ≤ length us
unfolding nals
nals_some payload us e = start_some (pieces payload) us e

again : (us : List Nal) → 1 ≤ length us → AllByRecursion Proper us → nals (with_codes us) ≡ Ok (placed 0 us)
again [] some ps = absurd (omega arith)
again (u ∷ us) some ps = codes_back u us ps

-- the units of a payload, put after start codes again, are its units
pub nals_again : (payload : List ℕ) (us : List Nal) → nals payload ≡ Ok us → nals (with_codes us) ≡ Ok (placed 0 us)
nals_again payload us e = again us (nals_some payload us e) (nals_proper payload us e)
