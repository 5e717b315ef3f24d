-- How long the stored form of a payload of video is, and which faults its units have.
use Rattle.std.proofs.Common.{◌≡◌, ◌≢◌, ℕ, ◌+◌, ◌*◌, ◌≤◌, ◌==◌, inl, inr, Bool, true, false, cond, List, [], ◌∷◌, ◌++◌, length, Some, Result, Ok, Err, refl, ap, arith}
use Rattle.std.proofs.lemmas.Bool.Decides.{eqb_tells}
use Rattle.std.proofs.lemmas.List.{length-append}
use Rattle.std.specs.List.{list_all}
use Rattle.sf_box.specs.Boxes.{be32}
use Rattle.sf_box.proofs.BoxLaws.{length-be32}
use Rattle.sf_avc.specs.declared.nal.NalFault.{NalFault}
use Rattle.sf_avc.specs.declared.nal.NalFault.TheVariants.{NoStart, EmptyUnit, NoMemory}
use Rattle.sf_avc.specs.Units.{Nal as Unit, is_code, longer, pieces, kept_before, trimmed, unit_before, units_of, after_start, nals, AreUnits}
use Rattle.sf_avc.proofs.Propriety.{nals_some}
use Rattle.sf_avc.specs.Stored.{after_length, prefixed, stored_units, stored}
use Rattle.sf_gather.specs.declared.accepting.SampleFault.TheVariants.{Nal}
use Rattle.sf_gather.specs.Accepting.{RefusedBy, refused_units}
use Rattle.sf_gather.specs.inner.Storing.{units_fault}

-- how many bytes pieces take, each with a start code of three bytes
abbrev span : List (List ℕ) → ℕ
span [] = 0
span (p ∷ ps) = length p + 3 + span ps

-- how many bytes units take, each with a start code of three bytes
abbrev pub codes : List Unit → ℕ
codes [] = 0
codes (u ∷ us) = length u.bytes + 3 + codes us

longer_span : (a n : ℕ) (qs : List (List ℕ)) → span qs ≡ n + 3 → span (longer a qs) ≡ n + 4
longer_span a n [] e = absurd (omega (arith, e))
longer_span a n (q ∷ qs) e = omega (arith, e)

two_span : (code : Bool) (a n : ℕ) (ps qs : List (List ℕ)) → span ps ≡ n + 3 → span qs ≡ n + 5 → span (cond code ([] ∷ ps) (longer a qs)) ≡ n + 6
two_span true a n ps qs x y = omega (arith, x)
two_span false a n ps qs x y = omega (arith, longer_span a (n + 2) qs (omega (arith, y)))

pieces_span : (xs : List ℕ) → span (pieces xs) ≡ length xs + 3
unfolding pieces
pieces_span [] = refl
pieces_span (a ∷ []) = refl
pieces_span (a ∷ b ∷ []) = refl
pieces_span (a ∷ b ∷ c ∷ rest) =
    let later : span (pieces (b ∷ c ∷ rest)) ≡ length rest + 5 = omega (arith, pieces_span (b ∷ c ∷ rest)) in
    omega (arith, two_span (is_code a b c) a (length rest) (pieces rest) (pieces (b ∷ c ∷ rest)) (pieces_span rest) later)

kept_length : (a : ℕ) (t : List ℕ) → length (kept_before a t) ≤ length t + 1
kept_length a [] =
    elim (eqb_tells a 0) [
      | inl p ↦ rw p.0 (omega arith)
      | inr p ↦ rw p.0 (omega arith)
    ]
kept_length a (b ∷ t) = omega arith

trimmed_length : (xs : List ℕ) → length (trimmed xs) ≤ length xs
unfolding trimmed
trimmed_length [] = omega arith
trimmed_length (a ∷ rest) = omega (arith, kept_length a (trimmed rest), trimmed_length rest)

before_codes : (at n m : ℕ) (t : List ℕ) (others : Result (List Unit) NalFault) (us : List Unit) → length t ≤ n → ((vs : List Unit) → others ≡ Ok vs → codes vs ≤ m)
    → unit_before at t others ≡ Ok us → codes us ≤ n + 3 + m
before_codes at n m [] others us le later e = absurd (cc e)
before_codes at n m (a ∷ t) (Err f) us le later e = absurd (cc e)
before_codes at n m (a ∷ t) (Ok vs) us le later e =
    let is : record { at = at; bytes = a ∷ t } ∷ vs ≡ us = cc e in
    rw (← is) (omega (arith, le, later vs refl))

units_codes : (at : ℕ) (ps : List (List ℕ)) (us : List Unit) → units_of at ps ≡ Ok us → codes us ≤ span ps
unfolding units_of
units_codes at [] us e =
    let is : [] ≡ us = cc e in
    rw (← is) (omega arith)
units_codes at (p ∷ ps) us e =
    before_codes at (length p) (span ps) (trimmed p) (units_of (at + length p + 3) ps) us (trimmed_length p) (units_codes (at + length p + 3) ps) e

chosen_codes : (b : Bool) (n : ℕ) (r : Result (List Unit) NalFault) (us : List Unit) → ((vs : List Unit) → r ≡ Ok vs → codes vs ≤ n) → cond b r (Err NoStart) ≡ Ok us → codes us ≤ n
chosen_codes true n r us le e = le us e
chosen_codes false n r us le e = absurd (cc e)

start_codes : (ps : List (List ℕ)) (us : List Unit) → after_start ps ≡ Ok us → codes us + 3 ≤ span ps
start_codes [] us e = absurd (cc e)
start_codes (p ∷ []) us e = absurd (cc e)
start_codes (p ∷ q ∷ ps) us e =
    omega (arith, chosen_codes (list_all (λ b. b == 0) p) (span (q ∷ ps)) (units_of (length p + 3) (q ∷ ps)) us (units_codes (length p + 3) (q ∷ ps)) e)

-- the units of a payload are no longer than it, each with a start code of three bytes
pub nals_codes : (payload : List ℕ) (us : List Unit) → nals payload ≡ Ok us → codes us ≤ length payload
unfolding nals
nals_codes payload us e = omega (arith, start_codes (pieces payload) us e, pieces_span payload)

prefixed_length : (us : List Unit) → length (prefixed us) ≤ 2 * codes us
unfolding after_length
prefixed_length [] = omega arith
prefixed_length (u ∷ us) =
    omega (arith, prefixed_length us, length-append (be32 (length u.bytes) ++ u.bytes) (prefixed us), length-append (be32 (length u.bytes)) u.bytes, length-be32 (length u.bytes))

stored_is : (payload bytes : List ℕ) (r : Result (List Unit) NalFault) → stored_units r ≡ Ok bytes → (us : List Unit) × (r ≡ Ok us) × (bytes ≡ prefixed us)
stored_is payload bytes (Ok us) e = (us, refl, cc e)
stored_is payload bytes (Err f) e = absurd (cc e)

-- what is stored of a payload is at most twice as long
pub stored_length : (payload bytes : List ℕ) → stored payload ≡ Ok bytes → length bytes ≤ 2 * length payload
unfolding stored
stored_length payload bytes e =
    let s = stored_is payload bytes (nals payload) e in
    rw s.2 (omega (arith, prefixed_length s.0, nals_codes payload s.0 s.1))

prefixed_some : (us : List Unit) → 1 ≤ length us → 1 ≤ length (prefixed us)
unfolding after_length
prefixed_some [] some = absurd (omega arith)
prefixed_some (u ∷ us) some =
    omega (arith, length-append (be32 (length u.bytes) ++ u.bytes) (prefixed us), length-append (be32 (length u.bytes)) u.bytes, length-be32 (length u.bytes))

-- what is stored of a payload has bytes
pub stored_some : (payload bytes : List ℕ) → stored payload ≡ Ok bytes → 1 ≤ length bytes
unfolding stored
stored_some payload bytes e =
    let s = stored_is payload bytes (nals payload) e in
    rw s.2 (prefixed_some s.0 (nals_some payload s.0 s.1))

-- ---- faults

before_fault : (at : ℕ) (t : List ℕ) (others : Result (List Unit) NalFault) → others ≢ Err NoMemory → unit_before at t others ≢ Err NoMemory
before_fault at [] others not e = absurd (cc e)
before_fault at (a ∷ t) (Ok us) not e = absurd (cc e)
before_fault at (a ∷ t) (Err f) not e =
    let is : f ≡ NoMemory = cc e in
    not (rw is refl)

units_not : (at : ℕ) (ps : List (List ℕ)) → units_of at ps ≢ Err NoMemory
unfolding units_of
units_not at [] e = absurd (cc e)
units_not at (p ∷ ps) e = before_fault at (trimmed p) (units_of (at + length p + 3) ps) (units_not (at + length p + 3) ps) e

chosen_fault : (b : Bool) (r : Result (List Unit) NalFault) → r ≢ Err NoMemory → cond b r (Err NoStart) ≢ Err NoMemory
chosen_fault true r not e = not e
chosen_fault false r not e = absurd (cc e)

start_fault : (ps : List (List ℕ)) → after_start ps ≢ Err NoMemory
start_fault [] e = absurd (cc e)
start_fault (p ∷ []) e = absurd (cc e)
start_fault (p ∷ q ∷ ps) e = chosen_fault (list_all (λ b. b == 0) p) (units_of (length p + 3) (q ∷ ps)) (units_not (length p + 3) (q ∷ ps)) e

nals_fault : (payload : List ℕ) → nals payload ≢ Err NoMemory
unfolding nals
nals_fault payload e = start_fault (pieces payload) e

form_fault : (r : Result (List Unit) NalFault) → r ≢ Err NoMemory → stored_units r ≢ Err NoMemory
form_fault (Ok us) not e = absurd (cc e)
form_fault (Err f) not e =
    let is : f ≡ NoMemory = cc e in
    not (rw is refl)

form_refused : (r : Result (List Unit) NalFault) (fault : NalFault) → r ≡ Err fault → refused_units (stored_units r) ≡ Some (Nal fault)
form_refused (Ok us) fault e = absurd (cc e)
form_refused (Err f) fault e =
    let is : f ≡ fault = cc e in
    ap (λ (x : NalFault). Some (Nal x)) is

-- the refusal of a payload's units is that of its stored form
pub refused_so : (payload : List ℕ) (fault : NalFault) → AreUnits payload (Err fault) → RefusedBy (refused_units (stored payload)) (units_fault fault)
unfolding stored
refused_so payload NoStart are = form_refused (nals payload) NoStart are
refused_so payload (EmptyUnit at) are = form_refused (nals payload) (EmptyUnit at) are
refused_so payload NoMemory are = tt

-- a payload isn't refused for want of memory
pub stored_fault : (payload : List ℕ) → stored payload ≢ Err NoMemory
unfolding stored
stored_fault payload e = form_fault (nals payload) (nals_fault payload) e
