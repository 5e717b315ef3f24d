use Rattle.std.proofs.Common.{◌≡◌, List, None, Err, map, string_bytes, ap, subst, rules}
use Rattle.clap.specs.Walk.{Text, texts}
use Rattle.sf_words.specs.Commands.{IsRead, asked, make_asked, make_options}
use Rattle.sf_words.specs.Reading.{is_one_of, read}
use Rattle.sf_words.specs.inner.Grammar.{words_id}
use Rattle.sf_words.proofs.Asking.{denied_read, on_make, reads}
use Rattle.sf_words.proofs.words.read_make.Goals as goal

pub parse-requires : goal.parse-requires
parse-requires c =
    let options : texts c.as_slice.result.now ≡ make_options = search rules in
    ap (λ (names : List Text). is_one_of names words_id) options

pub returns-in-Ok : goal.returns-in-Ok
returns-in-Ok c =
    let words : List Text = map string_bytes c.args.words.now in
    let options : texts c.as_slice.result.now ≡ make_options = search rules in
    subst (λ (names : List Text). IsRead (asked make_asked (read names None words)) c.make.result) options
    (reads make_asked on_make (read (texts c.as_slice.result.now) None words) c.in-Ok.matches c.make.result c.in-Ok.ensures c.make.ensures)

pub returns-in-Err : goal.returns-in-Err
returns-in-Err c =
    let words : List Text = map string_bytes c.args.words.now in
    let options : texts c.as_slice.result.now ≡ make_options = search rules in
    subst (λ (names : List Text). IsRead (asked make_asked (read names None words)) (Err c.in-Err.fault)) options
    (denied_read make_asked (read (texts c.as_slice.result.now) None words) c.in-Err.fault c.in-Err.ensures)
