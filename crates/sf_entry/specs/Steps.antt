-- Steps that may fail.
use Rattle.std.specs.Prelude.{Bool, true, false, Option, Some, None, Result, Ok, Err}

infixl 10 ◌>>=◌
-- a step after a step that succeeded
abbrev pub ◌>>=◌ : {A B E : Type 0} → Result A E → (A → Result B E) → Result B E
(Ok x) >>= f = f x
(Err e) >>= f = Err e

infixl 10 ◌>>◌
-- a step after a check that held
abbrev pub ◌>>◌ : {A B E : Type 0} → Result A E → Result B E → Result B E
(Ok x) >> r = r
(Err e) >> r = Err e

-- the test holds, or this fault is found
abbrev pub check : {E : Type 0} → Bool → E → Result (Unit {0}) E
check true e = Ok tt
check false e = Err e

-- the value, or this fault where there is none
abbrev pub needed : {A E : Type 0} → Option A → E → Result A E
needed (Some x) e = Ok x
needed None e = Err e

-- the same under another fault
abbrev pub as_fault : {A E F : Type 0} → (E → F) → Result A E → Result A F
as_fault f (Ok x) = Ok x
as_fault f (Err e) = Err (f e)
