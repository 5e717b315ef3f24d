use Rattle.std.proofs.Common.{◌≡◌, drop, length, nat_le}
use Rattle.std.specs.List.{list_all}
use Rattle.clap.specs.Walk.{texts}
use Rattle.sf_words.proofs.values.are_filled.Given as goal

abbrev pub invariant-loop-word : goal.invariant-loop-word
invariant-loop-word l = list_all (λ w. nat_le 1 (length w)) (texts (drop l.word-index l.words)) ≡ list_all (λ w. nat_le 1 (length w)) (texts l.words)
