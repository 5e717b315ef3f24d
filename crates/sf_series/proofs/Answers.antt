-- What clauses say of an answer.
use Rattle.std.specs.Result.{IfErr, IsErrAnd}
use Rattle.std.proofs.Common.{◌≡◌, Result, Ok, Err, Option, Some, None, IfSome, IsSome, OnErr, OnOk, refl, sym, subst}

pub on_err : {A E : Type 0} (r : Result A E) (P : Type 0) → P → OnErr r P
on_err {A} {E} (Ok x) P p = tt
on_err {A} {E} (Err e) P p = p

pub of_some : {A : Type 0} {o : Option A} (x : A) (P : A → Type 0) → o ≡ Some x → IfSome o P → P x
of_some {A} {o} x P e p = let Q : Option A → Type 0 = λ q. IfSome q P in subst Q e p

pub some_of : {A : Type 0} (o : Option A) → IsSome o → (x : A) × (o ≡ Some x)
some_of {A} None is = cc
some_of {A} (Some x) is = (x, refl)

pub on_ok_then : {A E : Type 0} (r : Result A E) {P Q : Type 0} → (P → Q) → OnOk r P → OnOk r Q
on_ok_then {A} {E} (Ok x) {P} {Q} f p = f p
on_ok_then {A} {E} (Err e) {P} {Q} f p = tt

pub on_err_then : {A E : Type 0} (r : Result A E) {P Q : Type 0} → (P → Q) → OnErr r P → OnErr r Q
on_err_then {A} {E} (Ok x) {P} {Q} f p = tt
on_err_then {A} {E} (Err e) {P} {Q} f p = f p

pub if_err : {A E : Type 0} (r : Result A E) (x : E) (P : E → Type 0) → IsErrAnd r (λ z. z ≡ x) → P x → IfErr r P
if_err {A} {E} (Ok y) x P e p = tt
if_err {A} {E} (Err z) x P e p = subst P (sym e) p
