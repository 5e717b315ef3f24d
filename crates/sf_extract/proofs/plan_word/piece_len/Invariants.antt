use Rattle.std.proofs.Common.{◌≡◌, ◌+◌, drop}
use Rattle.sf_extract.specs.inner.Words.{piece_len}
use Rattle.sf_extract.proofs.plan_word.piece_len.Given as goal

abbrev pub invariant-loop-i : goal.invariant-loop-i
invariant-loop-i l = l.i + piece_len (drop l.i l.bytes) ≡ piece_len l.bytes
