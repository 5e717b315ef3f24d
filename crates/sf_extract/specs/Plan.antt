-- Plan words: one or more commands with commas between.
use Rattle.std.specs.Prelude.{ℕ, ◌+◌, ◌*◌, ◌-◌, ◌^◌, ◌==◌, ◌&&◌, nat_lt, nat_le, Bool, true, List, [], ◌∷◌, length, take, Option, Some, None, Result, Ok, Err, if◌then◌else◌}
use Rattle.sf_meaning.specs.Steps.{◌>>=◌, ◌>>◌, check}
use Rattle.sf_extract.specs.declared.types.Mode.TheVariants.{Previous, Next, Closest}
use Rattle.sf_extract.specs.declared.plan.Command.{Command}
use Rattle.sf_extract.specs.declared.plan.Command.TheVariants.{Select, Unselect, Seek, Read, Advance, ToEnd}
use Rattle.sf_extract.specs.declared.plan.PlanFault.{PlanFault}
use Rattle.sf_extract.specs.declared.plan.PlanFault.TheVariants.{BadWord}

-- a reading of a plan word, or the place of the first byte that can't continue it
abbrev pub Reading : Type 0 → Type 0
Reading A = Result A PlanFault

-- whether a byte is a digit in ASCII
abbrev pub is_digit : ℕ → Bool
is_digit b = nat_le 48 b && nat_le b 57

-- how many digits stand in front
abbrev pub digits : List ℕ → ℕ
digits [] = 0
digits (b ∷ bs) = if is_digit b then digits bs + 1 else 0

-- the number that digits write after those of a number
abbrev pub number_after : ℕ → List ℕ → ℕ
number_after n [] = n
number_after n (b ∷ bs) = number_after (n * 10 + (b - 48)) bs

-- the number that bytes write from a place on: 1 to 19 digits with a value of at most 2^63 - 1. The 20th digit is refused, and a
-- number that is too large at its first one.
unfoldable pub number_in : ℕ → List ℕ → Reading ℕ
number_in at bytes = do
  check (nat_lt 0 (digits bytes)) (BadWord at)
  check (nat_lt (digits bytes) 20) (BadWord (at + 19))
  check (nat_lt (number_after 0 (take (digits bytes) bytes)) (2 ^ 63)) (BadWord at)
  check (digits bytes == length bytes) (BadWord (at + digits bytes))
  Ok (number_after 0 (take (digits bytes) bytes))

-- a command with the number that bytes write from a place on
abbrev pub with_number : ℕ → List ℕ → (ℕ → Command) → Reading Command
with_number at bytes command = number_in at bytes >>= (λ n. Ok (command n))

-- a command without a number, after which a place follows
abbrev pub alone : ℕ → List ℕ → Command → Reading Command
alone at [] command = Ok command
alone at (b ∷ bytes) command = Err (BadWord at)

-- the command that a letter at a place and what follows it are: s and u with a track, p, n and c with microseconds, and r, a and e
unfoldable pub by_letter : ℕ → ℕ → List ℕ → Reading Command
by_letter letter at bytes =
    if letter == 0x73 then with_number (at + 1) bytes Select
    else if letter == 0x75 then with_number (at + 1) bytes Unselect
    else if letter == 0x70 then with_number (at + 1) bytes (Seek Previous)
    else if letter == 0x6E then with_number (at + 1) bytes (Seek Next)
    else if letter == 0x63 then with_number (at + 1) bytes (Seek Closest)
    else if letter == 0x72 then alone (at + 1) bytes Read
    else if letter == 0x61 then alone (at + 1) bytes Advance
    else if letter == 0x65 then alone (at + 1) bytes ToEnd
    else Err (BadWord at)

-- the command that bytes from a place on are
unfoldable pub command_in : ℕ → List ℕ → Reading Command
command_in at [] = Err (BadWord at)
command_in at (letter ∷ bytes) = by_letter letter at bytes

-- pieces, with one byte more in front of the first
abbrev pub longer : ℕ → List (List ℕ) → List (List ℕ)
longer b [] = []
longer b (p ∷ ps) = (b ∷ p) ∷ ps

-- the pieces of a word between its commas
unfoldable pub pieces : List ℕ → List (List ℕ)
pieces [] = [] ∷ []
pieces (b ∷ bytes) = if b == 0x2C then [] ∷ pieces bytes else longer b (pieces bytes)

-- the commands that pieces are, the first of which begins at a place and each a comma after the one before
unfoldable pub commands_in : ℕ → List (List ℕ) → Reading (List Command)
commands_in at [] = Ok []
commands_in at (p ∷ ps) = do
  command ← command_in at p
  commands ← commands_in (at + length p + 1) ps
  Ok (command ∷ commands)

-- The plan that a word says, or the place of its first byte that can't continue a plan: its length where it ends too early.
unfoldable pub plan_of : List ℕ → Reading (List Command)
plan_of word = commands_in 0 (pieces word)

-- whether a command names no track but one of so many
abbrev pub is_there : ℕ → Command → Bool
is_there tracks (Select t) = nat_lt t tracks
is_there tracks (Unselect t) = nat_lt t tracks
is_there tracks (Seek mode us) = true
is_there tracks Read = true
is_there tracks Advance = true
is_there tracks ToEnd = true

-- the number of the first command that names another track than one of so many, counted from a number
unfoldable pub missing_from : ℕ → ℕ → List Command → Option ℕ
missing_from tracks k [] = None
missing_from tracks k (c ∷ cs) = if is_there tracks c then missing_from tracks (k + 1) cs else Some k
