-- Byte strings by name.
use Rattle.std.specs.Prelude.{ℕ, List, [], ◌∷◌, Option, Some, None, bytes_eq, if◌then◌else◌}

-- the bytes of the first pair of a name
abbrev pub named_bytes : List (List ℕ × List ℕ) → List ℕ → Option (List ℕ)
named_bytes [] name = None
named_bytes (pair ∷ pairs) name = if bytes_eq pair.0 name then Some pair.1 else named_bytes pairs name
