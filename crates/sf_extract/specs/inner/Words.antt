-- What is left of a plan word while its commands are read.
use Rattle.std.specs.Prelude.{ℕ, suc, ◌==◌, List, [], ◌∷◌, ◌++◌, Ok, Err, if◌then◌else◌}
use Rattle.sf_extract.specs.Plan.{Reading, pieces}
use Rattle.sf_extract.specs.declared.plan.Command.{Command}

-- how many bytes stand in front of the first comma, or in all
abbrev pub piece_len : List ℕ → ℕ
piece_len [] = 0
piece_len (b ∷ bytes) = if b == 0x2C then 0 else suc (piece_len bytes)

-- the pieces after one
abbrev pub after_comma : List ℕ → List (List ℕ)
after_comma [] = []
after_comma (b ∷ bytes) = pieces bytes

-- commands in front of those that are read later
abbrev pub with_front : List Command → Reading (List Command) → Reading (List Command)
with_front front (Ok commands) = Ok (front ++ commands)
with_front front (Err fault) = Err fault
