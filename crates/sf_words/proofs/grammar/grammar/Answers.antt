use Rattle.std.proofs.Common.{◌∙◌, sym, ap, ap₂, rules, true, []}
use Rattle.std.proofs.lemmas.Result.{IfOk-weaker}
use Rattle.clap.specs.Simple.{App, app_of_fields, with_rule}
use Rattle.clap.specs.Walk.{texts}
use Rattle.sf_words.proofs.Parsed.{told_by, told_more, told_whole}
use Rattle.sf_words.proofs.grammar.grammar.Goals as goal

pub loop-option-init : goal.loop-option-init
loop-option-init c = ap app_of_fields c.disable_help_flag-command.ensures ∙ ap (λ f. app_of_fields (record f { disable_help_flag = true })) c.no_binary_name.ensures
    ∙ ap (λ (a : App). record a { top = record a.top { no_binary_name = true; disable_help_flag = true } }) c.new.ensures.app

pub loop-option-preserved : goal.loop-option-preserved
loop-option-preserved c =
    let name = c.args.name.now in
    c.in_ok-command.ensures.shape c.option_arg.ensures.local ∙ ap₂ with_rule c.loop-option.invariant c.option_arg.ensures.rule
    ∙ sym (told_more name c.args.options.now c.loop-option.option-index (record { ref_ptr = (0, 0); now = [] }) (search rules))

pub returns : goal.returns
returns c =
    let name = c.args.name.now in
    let names = texts c.args.options.now in
    let all = c.loop-option-test.false in
    IfOk-weaker c.arg-2.result _ _ (λ r h. h.shape c.words_arg.ensures.local ∙ ap₂ with_rule (c.loop-option.invariant ∙ told_by name c.args.options.now c.loop-option.option-index (search rules)) c.words_arg.ensures.rule
    ∙ told_whole name names) c.arg-2.ensures
