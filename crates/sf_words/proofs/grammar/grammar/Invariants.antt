use Rattle.std.proofs.Common.{◌≡◌, take}
use Rattle.clap.specs.Simple.{app_of}
use Rattle.clap.specs.Walk.{texts}
use Rattle.sf_words.specs.inner.Grammar.{options_told}
use Rattle.sf_words.proofs.grammar.grammar.Given as goal

abbrev pub invariant-loop-option : goal.invariant-loop-option
invariant-loop-option l = app_of l.command ≡ options_told l.name (take l.option-index (texts l.options))
