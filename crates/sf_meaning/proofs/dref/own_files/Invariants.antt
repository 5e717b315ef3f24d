use Rattle.std.proofs.Common.{◌≡◌, ◌%◌, ◌==◌, drop, take, map}
use Rattle.sf_box.specs.Boxes.{word32}
use Rattle.sf_meaning.specs.References.{flagged}
use Rattle.sf_meaning.specs.inner.Found.{pieces}
use Rattle.sf_meaning.proofs.dref.own_files.Given as goal

abbrev pub invariant-loop-entry : goal.invariant-loop-entry
invariant-loop-entry l = record {
  left : flagged (pieces l.entries) ≡ flagged (pieces (drop l.entry-index l.entries));
  told : l.own ≡ map (λ p. word32 p.body % 2 == 1) (pieces (take l.entry-index l.entries));
}
