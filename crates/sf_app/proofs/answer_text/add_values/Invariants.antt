use Rattle.std.proofs.Common.{◌≡◌, ◌++◌, string_bytes, take}
use Rattle.sf_app.specs.AnswerText.{value_lines}
use Rattle.sf_app.proofs.answer_text.add_values.Given as goal

abbrev pub invariant-loop-index : goal.invariant-loop-index
invariant-loop-index l = string_bytes l.lines ≡ string_bytes l.initial.lines ++ value_lines l.word l.first (take l.index l.values)
