-- How the answer of a call tells what a definition says.
use Rattle.std.specs.Prelude.{◌≡◌, ◌⊎◌, Result, Ok, Err}

-- An answer, seen by a view, is what is said, unless memory ran out, for which this fault stands.
abbrev pub Gives : {X Y E : Type 0} → E → (X → Y) → Result X E → Result Y E → Type 0
Gives no_memory view (Ok x) said = said ≡ Ok (view x)
Gives no_memory view (Err e) said = (e ≡ no_memory) ⊎ (said ≡ Err e)
