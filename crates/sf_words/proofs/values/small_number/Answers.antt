use Rattle.std.proofs.Common.{◌≡◌, ◌∙◌, ◌<◌, ◌≤◌, length, true, rules}
use Rattle.std.specs.List.{list_all}
use Rattle.sf_words.specs.Values.{is_digit}
use Rattle.sf_words.proofs.Numbers.{small_read}
use Rattle.sf_words.proofs.values.small_number.Goals as goal

pub returns : goal.returns
returns c =
    let word = c.args.word.now in
    let digits : list_all is_digit word ≡ true = search rules in
    let some : 0 < length word = search rules in
    let few : length word ≤ 20 = search rules in
    c.ok.ensures.value ∙ small_read word c.parse.result c.parse.ensures.value.0 digits some few
