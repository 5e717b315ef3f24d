-- The grammar of a command as `clap` is told it, and what a parse by it gave.
use Rattle.std.specs.Str.Parse.{digits_value}
use Rattle.std.specs.Prelude.{◌≡◌, ⊤, ℕ, ◌^◌, ◌&&◌, nat_lt, if◌then◌else◌, Result, Ok, Err, true, false, List, [], ◌∷◌, ◌++◌, map, codes, Option, Some, None, unwrap_or, option_map}
use Rattle.std.specs.List.{fold}
use Rattle.std.specs.Str.{bytes_eq}
use Rattle.clap.specs.Walk.{Row, Rule, Text, all_of}
use Rattle.clap.specs.Simple.{App, Shape, new_rule, new_shape, filled, with_index, with_rule}
use Rattle.clap.specs.Matches.{found_of, matched_of, raw_values}
use Rattle.clap.specs.declared.builder.action.ArgAction.TheVariants.{Append}
use Rattle.clap.specs.declared.error.kind.ErrorKind.{ErrorKind}
use Rattle.clap.specs.declared.error.kind.ErrorKind.TheVariants.{OutOfMemory}
use Rattle.clap.specs.declared.parser.matches.ArgMatches.{ArgMatches}
use Rattle.sf_words.specs.Reading.{Given, Word}
use Rattle.sf_words.specs.Values.{is_number, values_of}
use Rattle.sf_words.specs.declared.faults.UsageFault.TheVariants.{Words}
use Rattle.sf_words.specs.declared.faults.WordsFault.{WordsFault}
use Rattle.sf_words.specs.declared.faults.WordsFault.TheVariants.{NoMemory, Usage}

-- the id of the positional words, which is no option's
abbrev pub words_id : Text
words_id = codes "WORDS"

-- an option as it is told, and the positional words
abbrev pub told_option : Text → Rule
told_option name = record (new_rule name) { long = Some name; action = Some Append }

abbrev pub told_words : Rule
told_words = record (new_rule words_id) { action = Some Append }

-- a command with these options, and positional words
abbrev pub grammar_app : Text → List Text → App
grammar_app name names = record {
  top = record (new_shape name) { rules = map told_option names ++ told_words ∷ []; no_binary_name = true; disable_help_flag = true };
  subs = [];
}

-- the same as it is built
abbrev pub option_rule : Text → Rule
option_rule name = filled (told_option name)

abbrev pub words_rule : Rule
words_rule = with_index 1 (filled told_words)

abbrev pub rules : List Text → List Rule
rules names = map option_rule names ++ words_rule ∷ []

abbrev pub built_shape : Text → List Text → Shape
built_shape name names = record (new_shape name) {
  rules = rules names;
  no_binary_name = true;
  disable_help_flag = true;
  disable_help_subcommand = true;
  is_built = true;
}

-- the values of an id in rows
abbrev pub vals : Text → List Row → List Text
vals id rows = unwrap_or (all_of id rows) []

-- the values of an id in matches
abbrev pub matched : Text → ArgMatches → List Text
matched id m = unwrap_or (option_map raw_values (matched_of (found_of m) id)) []

-- the matches hold what the words gave
pub record Holds (given : Given) (m : ArgMatches) : Type 0 where
  pub options : (name : Text) → bytes_eq name words_id ≡ false → matched name m ≡ values_of name given.options
  pub positional : matched words_id m ≡ given.positional

-- a parse gave what the words give
abbrev pub Gave : Option Given → ArgMatches → Type 0
Gave None m = ⊥
Gave (Some given) m = Holds given m

-- no memory, or the words aren't what is taken
abbrev pub Denies : {A : Type 0} → Option A → WordsFault → Type 0
Denies o NoMemory = ⊤
Denies None (Usage Words) = ⊤
Denies o _ = ⊥

-- what is taken is given, or the words aren't that
abbrev pub or_words : {A : Type 0} → Option A → Result A WordsFault
or_words (Some a) = Ok a
or_words None = Err (Usage Words)

-- the same where memory may be missing
abbrev pub Takes : {A : Type 0} → Option A → Result A WordsFault → Type 0
Takes o (Ok a) = o ≡ Some a
Takes o (Err fault) = Denies o fault

-- what an error of a parse comes to
abbrev pub denied : ErrorKind → WordsFault
denied OutOfMemory = NoMemory
denied _ = Usage Words

-- the only value among those of an option, where there are less than two
abbrev pub only_value : List Word → Option (Option Word)
only_value [] = Some None
only_value (value ∷ []) = Some (Some value)
only_value (value ∷ other ∷ values) = None

-- a number that a u64 holds
abbrev pub small_number : Word → Option ℕ
small_number word = if is_number word && nat_lt (digits_value 10 word) (2 ^ 64) then Some (digits_value 10 word) else None

-- the grammar before its options are told, and after the options of some names
abbrev pub bare_app : Text → App
bare_app name = record { top = record (new_shape name) { no_binary_name = true; disable_help_flag = true }; subs = [] }

abbrev pub with_option_told : App → Text → App
with_option_told app name = with_rule app (told_option name)

abbrev pub options_told : Text → List Text → App
options_told name names = fold with_option_told (bare_app name) names

-- the values of each option in matches
abbrev pub values_in : ArgMatches → Word → List Word
values_in m name = matched name m
