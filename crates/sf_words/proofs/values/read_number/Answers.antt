use Rattle.std.proofs.Common.{◌∙◌, sym, ap, rules}
use Rattle.sf_words.specs.inner.Grammar.{or_words}
use Rattle.sf_words.proofs.Numbers.{no_number, number_above, number_below, number_in}
use Rattle.sf_words.proofs.values.read_number.Goals as goal

pub returns-in-Some : goal.returns-in-Some
returns-in-Some c =
    sym (ap or_words (number_in c.args.least c.args.most c.in-Some.number c.args.word.now (search rules) (sym c.small_number.ensures ∙ c.in-Some.is) c.if-least-number.true c.if-number-most.true))

pub returns-in_default : goal.returns-in_default
returns-in_default c =
    sym (ap or_words (number_above c.args.least c.args.most c.in-Some.number c.args.word.now (search rules) (sym c.small_number.ensures ∙ c.in-Some.is) c.if-number-most.false))

pub returns-in_default-2 : goal.returns-in_default-2
returns-in_default-2 c =
    sym (ap or_words (number_below c.args.least c.args.most c.in-Some.number c.args.word.now (search rules) (sym c.small_number.ensures ∙ c.in-Some.is) c.if-least-number.false))

pub returns-in_default-3 : goal.returns-in_default-3
returns-in_default-3 c = sym (ap or_words (no_number c.args.least c.args.most c.args.word.now (search rules) (sym c.small_number.ensures ∙ c.in_default.is)))
