-- The size is written over the four bytes at the mark.
use Rattle.std.proofs.Common.{◌≡◌, ℕ, ◌+◌, ◌-◌, List, ◌++◌, length, take, drop, ap, ◌∙◌}
use Rattle.sf_box.specs.Boxes.{be32}
use Rattle.sf_box.proofs.Ending.{ends_box, gains_box}
use Rattle.sf_box.proofs.writing.end_box.Goals as goal

pub returns : goal.returns
unfolding be32
returns c =
    let o = c.args.out.now in
    let word : c.write_u32.new.buf ≡ be32 (length o - c.args.mark) = rw (← c.len.ensures) c.write_u32.ensures in
    let exact = c.patch.ensures.bytes ∙ ap (λ (w : List ℕ). (take c.args.mark o ++ w) ++ drop (c.args.mark + length w) o) word ∙ ends_box o c.args.mark c.requires.head in
    record {
      len = c.patch.ensures.len;
      exact = exact;
      gains = λ front kind body k m e. exact ∙ gains_box o front kind body c.args.mark k m e;
    }
