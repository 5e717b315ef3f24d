use Rattle.std.proofs.Common.{◌∙◌, List, map, string_bytes, sym, ap, subst, None}
use Rattle.clap.specs.Faults.{fault_of, is_simple_and_free}
use Rattle.clap.specs.Kinds.{HasKind}
use Rattle.clap.specs.Simple.{App, HasMatchesOf}
use Rattle.clap.specs.Walk.{Text, texts}
use Rattle.sf_words.specs.Reading.{read}
use Rattle.sf_words.specs.declared.faults.WordsFault.{WordsFault}
use Rattle.sf_words.specs.inner.Grammar.{Denies}
use Rattle.sf_words.proofs.Parsed.{are_texts, denies, gives, simple_and_free}
use Rattle.sf_words.proofs.grammar.parse.Goals as goal

pub returns-in-Ok : goal.returns-in-Ok
returns-in-Ok c =
    let name = c.args.name.now in
    let names = texts c.args.options.now in
    let words : List Text = map string_bytes c.args.words.now in
    let app = c.in_ok-command.ensures in
    let faultless = c.in-Ok.ensures.kinds (ap is_simple_and_free app ∙ simple_and_free name names) in
    gives name names words c.in-Ok.matches c.requires (are_texts c.args.words.now) (sym (ap (λ (a : App). fault_of a words) app) ∙ faultless)
    (subst (λ (a : App). HasMatchesOf a words c.in-Ok.matches) app c.in-Ok.ensures.matches)

pub returns-in-Err : goal.returns-in-Err
returns-in-Err c =
    let name = c.args.name.now in
    let names = texts c.args.options.now in
    let words : List Text = map string_bytes c.args.words.now in
    let app = c.in_ok-command.ensures in
    let kinds = c.in-Err.ensures.kinds (ap is_simple_and_free app ∙ simple_and_free name names) in
    subst (λ (fault : WordsFault). Denies (read names None words) fault) (sym c.denied.ensures)
    (denies name names words c.in-Err.error c.requires (are_texts c.args.words.now) (subst (λ (a : App). HasKind (fault_of a words) c.in-Err.error) app kinds))
