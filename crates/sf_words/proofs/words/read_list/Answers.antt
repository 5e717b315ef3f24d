use Rattle.std.proofs.Common.{◌≡◌, [], List, None, Err, map, string_bytes, ap, subst, rules}
use Rattle.clap.specs.Walk.{Text, texts}
use Rattle.sf_words.specs.Commands.{IsRead, asked, list_asked}
use Rattle.sf_words.specs.Reading.{is_one_of, read}
use Rattle.sf_words.specs.inner.Grammar.{words_id}
use Rattle.sf_words.proofs.Asking.{denied_read, on_list, reads}
use Rattle.sf_words.proofs.words.read_list.Goals as goal

pub parse-requires : goal.parse-requires
parse-requires c =
    let options : texts c.as_slice.result.now ≡ [] = search rules in
    ap (λ (names : List Text). is_one_of names words_id) options

pub returns-in-Ok : goal.returns-in-Ok
returns-in-Ok c =
    let words : List Text = map string_bytes c.args.words.now in
    let options : texts c.as_slice.result.now ≡ [] = search rules in
    subst (λ (names : List Text). IsRead (asked (λ given values. list_asked given) (read names None words)) c.list.result) options
    (reads (λ given values. list_asked given) on_list (read (texts c.as_slice.result.now) None words) c.in-Ok.matches c.list.result c.in-Ok.ensures c.list.ensures)

pub returns-in-Err : goal.returns-in-Err
returns-in-Err c =
    let words : List Text = map string_bytes c.args.words.now in
    let options : texts c.as_slice.result.now ≡ [] = search rules in
    subst (λ (names : List Text). IsRead (asked (λ given values. list_asked given) (read names None words)) (Err c.in-Err.fault)) options
    (denied_read (λ given values. list_asked given) (read (texts c.as_slice.result.now) None words) c.in-Err.fault c.in-Err.ensures)
