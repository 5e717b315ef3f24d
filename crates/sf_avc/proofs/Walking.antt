-- Units that are found one following the other, and the list of units.
use Rattle.std.proofs.Common.{◌≡◌, ℕ, suc, ◌+◌, ◌-◌, ◌≤◌, ◌<◌, ◌==◌, true, false, List, [], ◌∷◌, ◌++◌, length, take, drop, map, Option, Some, None, Result, Ok, Err, refl, sym, subst, ap, ◌∙◌, append_assoc, arith}
use Rattle.std.specs.Bool.{⊤}
use Rattle.std.specs.Result.{MatchResult, IsErrAnd}
use Rattle.std.proofs.lemmas.List.{length-drop, length-take, take-take, drop-drop, map-append, append-nil}
use Rattle.std.proofs.lemmas.List.Elements.{All-append, All-cons, All-nil}
use Rattle.std.specs.List.{All, list_all}
use Rattle.sf_avc.specs.declared.nal.Unit.{Unit}
use Rattle.sf_avc.specs.declared.nal.NalFault.{NalFault}
use Rattle.sf_avc.specs.declared.nal.NalFault.TheVariants.{NoStart}
use Rattle.sf_avc.specs.Units.{Nal, pieces, trimmed, with_unit, unit_before, units_of, after_start, nals, unit_at, Within, HasBytes}
use Rattle.sf_avc.specs.inner.Units.{CutsAt, UnitIn, NoUnitIn, units_from, units_next, Later, NextUnit}
use Rattle.sf_avc.proofs.Pieces.{pieces_some}

-- ---- the first start code

pub begins_at : (p : List ℕ) (ps : List (List ℕ)) → 0 < length ps → list_all (λ b. b == 0) p ≡ true → after_start (p ∷ ps) ≡ units_of (length p + 3) ps
begins_at p [] some e = absurd (omega arith)
begins_at p (q ∷ ps) some e = rw e refl

begins_not : (p : List ℕ) (ps : List (List ℕ)) → list_all (λ b. b == 0) p ≡ false → after_start (p ∷ ps) ≡ Err NoStart
begins_not p [] e = refl
begins_not p (q ∷ ps) e = rw e refl

pub starts : (payload : List ℕ) (at : ℕ) → CutsAt payload (Some at) → list_all (λ b. b == 0) (take at payload) ≡ true → nals payload ≡ units_from payload (at + 3)
unfolding nals
starts payload at cuts zeros =
    let long : length (take at payload) ≡ at = omega (arith, length-take at payload, cuts.0) in
    ap after_start cuts.1
    ∙ begins_at (take at payload) (pieces (drop (at + 3) payload)) (pieces_some (drop (at + 3) payload)) zeros
    ∙ ap (λ (n : ℕ). units_of (n + 3) (pieces (drop (at + 3) payload))) long

pub starts_not : (payload : List ℕ) (at : ℕ) → CutsAt payload (Some at) → list_all (λ b. b == 0) (take at payload) ≡ false → nals payload ≡ Err NoStart
unfolding nals
starts_not payload at cuts other = ap after_start cuts.1 ∙ begins_not (take at payload) (pieces (drop (at + 3) payload)) other

pub starts_nowhere : (payload : List ℕ) → CutsAt payload None → nals payload ≡ Err NoStart
unfolding nals
starts_nowhere payload cuts = ap after_start cuts

-- ---- the next unit

-- the first piece of some bytes
abbrev pub piece_in : List ℕ → Option ℕ → List ℕ
piece_in rest None = rest
piece_in rest (Some code) = take code rest

-- the place after a start code
abbrev pub after : ℕ → Option ℕ → Option ℕ
after at None = None
after at (Some code) = Some (at + code + 3)

first_piece : (payload : List ℕ) (at : ℕ) (code : Option ℕ) → CutsAt (drop at payload) code
    → units_from payload at ≡ unit_before at (trimmed (piece_in (drop at payload) code)) (units_next payload (after at code))
unfolding units_of
first_piece payload at None cuts = ap (units_of at) cuts
first_piece payload at (Some code) cuts =
    let rest : List ℕ = drop at payload in
    let long : length (take code rest) ≡ code = omega (arith, length-take code rest, cuts.0) in
    let place : at + length (take code rest) + 3 ≡ at + code + 3 = omega (arith, long) in
    let far : at + (code + 3) ≡ at + code + 3 = omega arith in
    let following : drop (code + 3) rest ≡ drop (at + code + 3) payload = drop-drop (code + 3) at payload ∙ ap (λ (n : ℕ). drop n payload) far in
    ap (units_of at) cuts.1
    ∙ ap (λ (n : ℕ). unit_before at (trimmed (take code rest)) (units_of n (pieces (drop (code + 3) rest)))) place
    ∙ ap (λ (r : List ℕ). unit_before at (trimmed (take code rest)) (units_of (at + code + 3) (pieces r))) following

piece_within : (rest : List ℕ) (code : Option ℕ) → length (piece_in rest code) ≤ length rest
piece_within rest None = omega arith
piece_within rest (Some code) = omega (arith, length-take code rest)

piece_takes : (rest : List ℕ) (code : Option ℕ) (len : ℕ) → len ≤ length (piece_in rest code) → take len (piece_in rest code) ≡ take len rest
piece_takes rest None len le = refl
piece_takes rest (Some code) len le = take-take len code rest (omega (arith, le, length-take code rest))

later_is : (payload : List ℕ) (at : ℕ) (code : Option ℕ) → at ≤ length payload → CutsAt (drop at payload) code → Later payload at (after at code)
later_is payload at None le cuts = tt
later_is payload at (Some code) le cuts = (omega arith, omega (arith, cuts.0, length-drop at payload))

-- no bytes are left of a piece
pub none_left : (payload : List ℕ) (at : ℕ) (code : Option ℕ) (f : NalFault) → CutsAt (drop at payload) code → NoUnitIn at (piece_in (drop at payload) code) f
    → units_from payload at ≡ Err f
none_left payload at code f cuts none =
    first_piece payload at code cuts
    ∙ ap (λ (t : List ℕ). unit_before at t (units_next payload (after at code))) none.none
    ∙ ap (λ (e : NalFault). Err e) (sym none.is)

pub unit_is : (at : ℕ) (bytes : List ℕ) (others : Result (List Nal) NalFault) → 0 < length bytes → unit_before at bytes others ≡ with_unit (record { at = at; bytes = bytes }) others
unit_is at [] others some = absurd (omega arith)
unit_is at (b ∷ rest) others some = refl

-- bytes are left of a piece
pub some_left : (payload : List ℕ) (at : ℕ) (code : Option ℕ) (u : Unit) → at ≤ length payload → CutsAt (drop at payload) code → UnitIn at (piece_in (drop at payload) code) u
    → NextUnit payload at u (after at code)
some_left payload at code u in_it cuts unit =
    let rest : List ℕ = drop at payload in
    let within : length (piece_in rest code) ≤ length rest = piece_within rest code in
    let bytes : trimmed (piece_in rest code) ≡ take u.len rest = unit.is ∙ piece_takes rest code u.len unit.whole in
    let others : Result (List Nal) NalFault = units_next payload (after at code) in
    record {
      is =
          first_piece payload at code cuts
          ∙ ap (λ (t : List ℕ). unit_before at t others) bytes
          ∙ unit_is at (take u.len rest) others (omega (arith, unit.some, unit.whole, within, length-take u.len rest))
          ∙ ap (λ (n : ℕ). with_unit (record { at = n; bytes = take u.len (drop n payload) }) others) (sym unit.place);
      within = omega (arith, unit.place, unit.whole, within, in_it, length-drop at payload);
      some = unit.some;
      later = later_is payload at code in_it cuts;
    }

-- ---- a walk along units

-- units, with others in front
abbrev pub joined_with : {E : Type 0} → List Nal → Result (List Nal) E → Result (List Nal) E
joined_with front (Ok us) = Ok (front ++ us)
joined_with front (Err f) = Err f

-- a place lies in a payload
abbrev pub InIt : List ℕ → Option ℕ → Type 0
InIt payload None = ⊤
InIt payload (Some at) = at ≤ length payload

-- The units so far, then those after a place, are those of the payload.
pub record Walk (payload : List ℕ) (units : List Unit) (next : Option ℕ) : Type 0 where
  pub whole : nals payload ≡ joined_with (map (unit_at payload) units) (units_next payload next)
  pub within : All (Within payload) units
  pub some : All HasBytes units
  pub in_it : InIt payload next

pub joined_more : {E : Type 0} (front : List Nal) (u : Nal) (r : Result (List Nal) E) → joined_with front (with_unit u r) ≡ joined_with (front ++ u ∷ []) r
joined_more front u (Ok us) = ap (λ (xs : List Nal). Ok xs) (sym (append_assoc front (u ∷ []) us))
joined_more front u (Err f) = refl

pub joined_none : {E : Type 0} (r : Result (List Nal) E) → r ≡ joined_with [] r
joined_none (Ok us) = refl
joined_none (Err f) = refl

later_in : (payload : List ℕ) (at : ℕ) (next : Option ℕ) → Later payload at next → InIt payload next
later_in payload at None later = tt
later_in payload at (Some n) later = later.1

pub walk_begins : (payload : List ℕ) (at : ℕ) → at ≤ length payload → nals payload ≡ units_from payload at → Walk payload [] (Some at)
walk_begins payload at le e = record { whole = e ∙ joined_none (units_from payload at); within = All-nil (Within payload); some = All-nil HasBytes; in_it = le }

pub walk_on : (payload : List ℕ) (units more : List Unit) (at : ℕ) (u : Unit) (next : Option ℕ) → more ≡ units ++ u ∷ [] → NextUnit payload at u next
    → Walk payload units (Some at) → Walk payload more next
walk_on payload units more at u next e n w =
    let front : List Nal = map (unit_at payload) units in
    let units_are : map (unit_at payload) more ≡ front ++ unit_at payload u ∷ [] = ap (map (unit_at payload)) e ∙ map-append (unit_at payload) units (u ∷ []) in
    record {
      whole =
          w.whole ∙ ap (joined_with front) n.is ∙ joined_more front (unit_at payload u) (units_next payload next)
          ∙ ap (λ (xs : List Nal). joined_with xs (units_next payload next)) (sym units_are);
      within = rw e (All-append (Within payload) units (u ∷ []) w.within (All-cons (Within payload) u [] n.within (All-nil (Within payload))));
      some = rw e (All-append HasBytes units (u ∷ []) w.some (All-cons HasBytes u [] n.some (All-nil HasBytes)));
      in_it = later_in payload at next n.later;
    }

pub walk_fails : (payload : List ℕ) (units : List Unit) (at : ℕ) (f : NalFault) → units_from payload at ≡ Err f → Walk payload units (Some at) → nals payload ≡ Err f
walk_fails payload units at f e w = w.whole ∙ ap (joined_with (map (unit_at payload) units)) e

pub walk_ends : (payload : List ℕ) (units : List Unit) (next : Option ℕ) → next ≡ None → Walk payload units next → nals payload ≡ Ok (map (unit_at payload) units)
walk_ends payload units next e w =
    w.whole ∙ ap (λ (n : Option ℕ). joined_with (map (unit_at payload) units) (units_next payload n)) e
    ∙ ap (λ (xs : List Nal). Ok xs) (append-nil (map (unit_at payload) units))

-- how far a walk still may go
abbrev pub left : List ℕ → Option ℕ → ℕ
left payload None = 0
left payload (Some at) = suc (length payload - at)

-- the same for a rest and a piece that are known to be these
pub next_found : (payload : List ℕ) (at : ℕ) (code : Option ℕ) (u : Unit) (rest piece : List ℕ) → at ≤ length payload → rest ≡ drop at payload → piece ≡ piece_in rest code
    → CutsAt rest code → UnitIn at piece u → NextUnit payload at u (after at code)
next_found payload at code u rest piece in_it r p cuts unit =
    some_left payload at code u in_it (subst (λ (xs : List ℕ). CutsAt xs code) r cuts)
    (subst (λ (xs : List ℕ). UnitIn at xs u) (p ∙ ap (λ (xs : List ℕ). piece_in xs code) r) unit)

pub next_fault : (payload : List ℕ) (at : ℕ) (code : Option ℕ) (f : NalFault) (rest piece : List ℕ) → rest ≡ drop at payload → piece ≡ piece_in rest code
    → CutsAt rest code → NoUnitIn at piece f → units_from payload at ≡ Err f
next_fault payload at code f rest piece r p cuts none =
    none_left payload at code f (subst (λ (xs : List ℕ). CutsAt xs code) r cuts)
    (subst (λ (xs : List ℕ). NoUnitIn at xs f) (p ∙ ap (λ (xs : List ℕ). piece_in xs code) r) none)

-- a fault that is handed on
pub handed_on : (payload : List ℕ) (at : ℕ) (r : Result (Unit × Option ℕ) NalFault) (f : NalFault) → IsErrAnd r (λ z. z ≡ f) → units_from payload at ≡ Err f
    → MatchResult r (λ x. NextUnit payload at x.0 x.1) (λ e. units_from payload at ≡ Err e)
handed_on payload at (Ok x) f h e = absurd h
handed_on payload at (Err g) f h e = e ∙ ap (λ (z : NalFault). Err z) (sym h)
