use Rattle.std.proofs.Common.{◌≡◌, ℕ, ◌+◌, ◌<◌, ◌++◌, List, length, string_bytes, take, refl, sym, ap, ◌∙◌, append_assoc, arith}
use Rattle.std.specs.Prelude.{get_or}
use Rattle.sf_app.specs.AnswerText.{value_line, value_lines}
use Rattle.sf_app.proofs.Telling.{next_line}
use Rattle.sf_app.proofs.answer_text.add_values.Goals as goal

pub loop-index-preserved : goal.loop-index-preserved
loop-index-preserved c =
    let i : ℕ = c.loop-index.index in
    let values : List ℕ = c.args.values.now in
    let word : List ℕ = c.args.word.now in
    let first : ℕ = c.args.first in
    let value : ℕ = get_or values i 0 in
    let lt : i < length values = c.loop-index-test.true in
    let number : c.from.result + i ≡ first + i = (let e = c.from.ensures in omega (arith, e)) in
    c.in_ok-add_value.ensures
    ∙ ap (λ (n : ℕ). string_bytes c.loop-index.lines ++ value_line word n value) number
    ∙ ap (λ (ls : List ℕ). ls ++ value_line word (first + i) value) c.loop-index.invariant
    ∙ append_assoc (string_bytes c.args.lines.now) (value_lines word first (take i values)) (value_line word (first + i) value)
    ∙ ap (λ (ls : List ℕ). string_bytes c.args.lines.now ++ ls) (sym (next_line word first i values value 0 lt refl))
