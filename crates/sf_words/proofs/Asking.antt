-- What the matches of a parse ask is what the words that were read ask.
use Rattle.std.proofs.Common.{◌≡◌, ◌∙◌, Bool, cond, true, false, refl, sym, ap, subst, List, [], Option, Some, None, Result, Ok, Err}
use Rattle.std.specs.Str.{bytes_eq}
use Rattle.clap.specs.declared.parser.matches.ArgMatches.{ArgMatches}
use Rattle.sf_words.specs.Reading.{Given, Word}
use Rattle.sf_words.specs.Values.{values_of}
use Rattle.sf_words.specs.Commands.{IsRead, Values, asked, extract_asked, extract_numbers, list_asked, make_asked, or_usage, record_asked, record_numbers}
use Rattle.sf_words.specs.inner.Grammar.{Denies, Gave, Holds, Takes, matched, values_in, words_id}
use Rattle.sf_words.specs.declared.command.Command.{Command as Asked}
use Rattle.sf_words.specs.declared.faults.UsageFault.TheVariants.{Command, Words}
use Rattle.sf_words.specs.declared.faults.WordsFault.{WordsFault}
use Rattle.sf_words.specs.declared.faults.WordsFault.TheVariants.{NoMemory, Usage}

-- a command asks only for values of options
abbrev pub Asks : Type 0
Asks = List Word → Values → Option Asked

-- the values of options, and none of the positional words
abbrev pub of_options : Values → Values
of_options values name = cond (bytes_eq name words_id) [] (values name)

abbrev pub given_values : Given → Values
given_values given name = values_of name given.options

same_values : (given : Given) (m : ArgMatches) → Holds given m → of_options (values_in m) ≡ of_options (given_values given)
same_values given m h = λ i name. at name i
  where
    at : (name : Word) → of_options (values_in m) name ≡ of_options (given_values given) name
    at name = go (bytes_eq name words_id) refl
      where
        go : (b : Bool) → bytes_eq name words_id ≡ b → cond b [] (matched name m) ≡ cond b [] (values_of name given.options)
        go true e = refl
        go false e = h.options name e

-- a command that asks only for options
abbrev pub OnOptions : Asks → Type 0
OnOptions asks = (words : List Word) (values : Values) → asks words values ≡ asks words (of_options values)

pub on_record : OnOptions record_asked
unfolding record_asked record_numbers
on_record words values = refl

pub on_extract : OnOptions extract_asked
unfolding extract_asked extract_numbers
on_extract words values = refl

pub on_make : OnOptions make_asked
unfolding make_asked
on_make words values = refl

pub on_list : OnOptions (λ words values. list_asked words)
on_list words values = refl

asks_same : (asks : Asks) → OnOptions asks → (given : Given) (m : ArgMatches) → Holds given m → asks (matched words_id m) (values_in m) ≡ asks given.positional (given_values given)
asks_same asks on given m h =
    on (matched words_id m) (values_in m)
    ∙ ap (λ (values : Values). asks (matched words_id m) values) (same_values given m h)
    ∙ sym (on (matched words_id m) (given_values given))
    ∙ ap (λ (words : List Word). asks words (given_values given)) h.positional

from_denies : (o : Option Asked) (fault : WordsFault) → Denies o fault → IsRead (or_usage o) (Err fault)
from_denies o NoMemory d = tt
from_denies None (Usage Words) d = refl
from_denies (Some command) (Usage Words) d = absurd d
from_denies None (Usage Command) d = absurd d
from_denies (Some command) (Usage Command) d = absurd d

pub reads : (asks : Asks) → OnOptions asks → (r : Option Given) (m : ArgMatches) (result : Result Asked WordsFault) → Gave r m → Takes (asks (matched words_id m) (values_in m)) result
    → IsRead (asked asks r) result
reads asks on None m result g t = absurd g
reads asks on (Some given) m (Ok command) g t = ap or_usage (sym (asks_same asks on given m g) ∙ t)
reads asks on (Some given) m (Err fault) g t =
    from_denies (asks given.positional (given_values given)) fault (subst (λ (o : Option Asked). Denies o fault) (asks_same asks on given m g) t)

pub denied_read : (asks : Asks) (r : Option Given) (fault : WordsFault) → Denies r fault → IsRead (asked asks r) (Err fault)
denied_read asks r NoMemory d = tt
denied_read asks None (Usage Words) d = refl
denied_read asks (Some given) (Usage Words) d = absurd d
denied_read asks None (Usage Command) d = absurd d
denied_read asks (Some given) (Usage Command) d = absurd d
