-- The words after the command's, as options and positional words. Words are lists of bytes.
use Rattle.std.specs.Prelude.{ℕ, ◌==◌, ◌&&◌, Bool, false, List, [], ◌∷◌, Option, Some, None, if◌then◌else◌}
use Rattle.std.specs.List.{list_any, before_first, after_first}
use Rattle.std.specs.Str.{bytes_eq}

-- a word: its bytes
abbrev pub Word : Type 0
Word = List ℕ

-- What words give: the positional ones, and options with their values, both in their order.
pub record Given : Type 0 where
  pub positional : List Word
  pub options : List (Word × Word)

-- no words
abbrev pub nothing : Given
nothing = record { positional = []; options = [] }

-- one more positional word, or one more option with its value, in front of what follows
abbrev pub with_positional : Word → Option Given → Option Given
with_positional word None = None
with_positional word (Some given) = Some (record given { positional = word ∷ given.positional })

abbrev pub with_option : Word → Word → Option Given → Option Given
with_option name value None = None
with_option name value (Some given) = Some (record given { options = (name, value) ∷ given.options })

-- whether a word begins with '-' and is longer than that
abbrev pub is_dashed : Word → Bool
is_dashed (b ∷ c ∷ bytes) = b == 45
is_dashed _ = false

-- whether a word is "--", which ends the options
abbrev pub ends_options : Word → Bool
ends_options (b ∷ c ∷ []) = (b == 45) && (c == 45)
ends_options _ = false

-- what stands after "--" in a word that is more than that
abbrev pub after_dashes : Word → Option Word
after_dashes (b ∷ c ∷ d ∷ bytes) = if (b == 45) && (c == 45) then Some (d ∷ bytes) else None
after_dashes _ = None

-- the name in an option: what stands before its first '='
abbrev pub name_in : Word → Word
name_in text = before_first (λ b. b == 61) text

-- the value in an option: what stands after its first '='
abbrev pub value_in : Word → Option Word
value_in text = if list_any (λ b. b == 61) text then Some (after_first (λ b. b == 61) text) else None

-- whether a name is one of some
abbrev pub is_one_of : List Word → Word → Bool
is_one_of names name = list_any (λ n. bytes_eq n name) names

-- the words after an option of this name, whose value stands in its word or is the next one
abbrev pub option_read : Word → Option Word → (Option Word → Option Given) → Option Given
option_read name (Some value) rest = with_option name value (rest None)
option_read name None rest = rest (Some name)

-- a word that is meant as an option: it must be one of the command
abbrev pub dashed_read : List Word → Option Word → (Option Word → Option Given) → Option Given
dashed_read names None rest = None
dashed_read names (Some text) rest = if is_one_of names (name_in text) then option_read (name_in text) (value_in text) rest else None

-- What words give to a command with options of these names, where one may wait for its value: `--name VALUE` and `--name=VALUE`, positional words between them, and after `--` positional words alone. None where they can't be read.
unfoldable pub read : List Word → Option Word → List Word → Option Given
read names None [] = Some nothing
read names (Some name) [] = None
read names (Some name) (word ∷ words) = if is_dashed word then None else with_option name word (read names None words)
read names None (word ∷ words) =
    if ends_options word then Some (record { positional = words; options = [] })
    else if is_dashed word then dashed_read names (after_dashes word) (λ waits. read names waits words)
    else with_positional word (read names None words)
