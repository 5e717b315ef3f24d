use Rattle.std.proofs.Common.{ap, ◌∙◌, rules}
use Rattle.sf_app.specs.AnswerText.{line_of}
use Rattle.sf_app.proofs.Performing.{puts_same}
use Rattle.sf_app.proofs.answer_text.put_answer.Goals as goal

pub returns-in_ok-line-in-InputRefused : goal.returns-in_ok-line-in-InputRefused
returns-in_ok-line-in-InputRefused g c = puts_same _ _ _ _ _ (ap line_of c.in-InputRefused.is ∙ search rules) c.put-in-InputRefused.ensures

pub returns-in_ok-line-in-SampleRefused : goal.returns-in_ok-line-in-SampleRefused
returns-in_ok-line-in-SampleRefused g c = puts_same _ _ _ _ _ (ap line_of c.in-SampleRefused.is ∙ search rules) c.put-in-SampleRefused.ensures

pub returns-in-MovieRefused : goal.returns-in-MovieRefused
returns-in-MovieRefused g c = rw c.in-MovieRefused.is c.put-in-MovieRefused.ensures
