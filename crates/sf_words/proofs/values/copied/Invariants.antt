use Rattle.std.proofs.Common.{◌≡◌, ◌++◌, drop}
use Rattle.clap.specs.Walk.{texts}
use Rattle.sf_words.proofs.values.copied.Given as goal

abbrev pub invariant-loop-word : goal.invariant-loop-word
invariant-loop-word l = l.copies ++ texts (drop l.word-index l.words) ≡ texts l.words
