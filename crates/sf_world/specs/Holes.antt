-- Zeros with pieces laid over them.
use Rattle.std.specs.Prelude.{ℕ, ◌+◌, nat_le, Bool, List, [], ◌∷◌, ◌++◌, length, take, drop, replicate}
use Rattle.std.specs.List.{list_all}

-- bytes with a piece over those from a place on
abbrev pub over : List ℕ → ℕ → List ℕ → List ℕ
over bytes place piece = take place bytes ++ piece ++ drop (place + length piece) bytes

-- bytes with pieces over them, each at its place, one after the other
abbrev pub laid : List ℕ → List (ℕ × List ℕ) → List ℕ
laid bytes [] = bytes
laid bytes (piece ∷ pieces) = laid (over bytes piece.0 piece.1) pieces

-- so many zeros with pieces over them
abbrev pub holed : ℕ → List (ℕ × List ℕ) → List ℕ
holed size pieces = laid (replicate size 0) pieces

-- whether each piece lies within so many bytes
abbrev pub lie_within : ℕ → List (ℕ × List ℕ) → Bool
lie_within size pieces = list_all (λ piece. nat_le (piece.0 + length piece.1) size) pieces
