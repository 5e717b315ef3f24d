-- The values of options and of positional words.
use Rattle.std.specs.Prelude.{ℕ, ◌==◌, ◌&&◌, Bool, nat_le, List, [], ◌∷◌, length, Option, Some, None, option_and_then, if◌then◌else◌}
use Rattle.std.specs.List.{list_all}
use Rattle.std.specs.Str.{bytes_eq}
use Rattle.std.specs.Str.Parse.{digits_value}
use Rattle.sf_words.specs.Reading.{Word}
use Rattle.sf_words.specs.declared.command.Threads.{Threads}
use Rattle.sf_words.specs.declared.command.Threads.TheVariants.{Serial, Threaded}

-- whether a byte is an ASCII digit
abbrev pub is_digit : ℕ → Bool
is_digit b = nat_le 48 b && nat_le b 57

-- whether a word is 1 to 20 ASCII digits; leading zeros are allowed
abbrev pub is_number : Word → Bool
is_number word = nat_le 1 (length word) && (nat_le (length word) 20 && list_all is_digit word)

-- the number that a word is, in a range
unfoldable pub number : ℕ → ℕ → Word → Option ℕ
number least most word =
    if is_number word && (nat_le least (digits_value 10 word) && nat_le (digits_value 10 word) most) then Some (digits_value 10 word) else None

-- a text that isn't empty
unfoldable pub text : Word → Option Word
text [] = None
text (b ∷ bytes) = Some (b ∷ bytes)

-- the values given to an option, in their order
abbrev pub values_of : Word → List (Word × Word) → List Word
values_of name [] = []
values_of name (option ∷ options) = if bytes_eq option.0 name then option.1 ∷ values_of name options else values_of name options

-- What the values given to an option come to: its default without one, and no more than one is taken.
abbrev pub said : {A : Type 0} → A → (Word → Option A) → List Word → Option A
said default reads [] = Some default
said default reads (value ∷ []) = reads value
said default reads (value ∷ other ∷ values) = None

-- the way of working that a number stands for
abbrev pub threads_of : ℕ → Threads
threads_of n = if n == 0 then Serial else Threaded

abbrev pub threads : Word → Option Threads
threads word = option_and_then (λ n. Some (threads_of n)) (number 0 1 word)

-- words of which none is empty, from so many to so many of them
unfoldable pub words_from : ℕ → ℕ → List Word → Option (List Word)
words_from least most words =
    if (nat_le least (length words) && nat_le (length words) most) && list_all (λ w. nat_le 1 (length w)) words then Some words else None
