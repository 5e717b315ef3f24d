-- The error of a call that `?` hands on.
use Rattle.std.proofs.Common.{◌≡◌, List, [], ◌∷◌, length, Result, Ok, Err, IfOk, IfErr, OnOk, refl, sym, ap, subst, arith}
use Rattle.std.specs.Result.{IsErrAnd}

-- the error that is handed on is that of the call, whatever their values would be
pub handed_on : {A B E : Type 0} {result : Result A E} {x y : E} → IsErrAnd result (λ z. z ≡ x) → result ≡ Err y → ◌≡◌ {A = Result B E} (Err x) (Err y)
handed_on {A} {B} {E} {result} {x} {y} h e = ap (λ (z : E). Err z) (sym (subst (λ (r : Result A E). IsErrAnd r (λ z. z ≡ x)) e h))

-- what follows from a clause for a value, and from one for a fault
pub if_ok_then : {A E : Type 0} (r : Result A E) {P Q : A → Type 0} → ((x : A) → P x → Q x) → IfOk r P → IfOk r Q
if_ok_then {A} {E} (Ok x) {P} {Q} f p = f x p
if_ok_then {A} {E} (Err e) {P} {Q} f p = tt

pub if_err_then : {A E : Type 0} (r : Result A E) {P Q : E → Type 0} → ((x : E) → P x → Q x) → IfErr r P → IfErr r Q
if_err_then {A} {E} (Ok x) {P} {Q} f p = tt
if_err_then {A} {E} (Err e) {P} {Q} f p = f e p

pub on_ok_then : {A E P Q : Type 0} (r : Result A E) → (P → Q) → OnOk r P → OnOk r Q
on_ok_then {A} {E} {P} {Q} (Ok x) f p = f p
on_ok_then {A} {E} {P} {Q} (Err e) f p = tt

pub nothing_left : {A : Type 0} (xs : List A) → length xs ≡ 0 → xs ≡ []
nothing_left {A} [] e = refl
nothing_left {A} (x ∷ xs) e = absurd (omega (arith, e))
