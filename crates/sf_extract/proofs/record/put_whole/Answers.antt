use Rattle.std.proofs.Common.{ℕ, ◌++◌, ap, ◌∙◌, unwrap_or}
use Rattle.sf_box.specs.Boxes.{be32}
use Rattle.sf_extract.specs.inner.Acts.{record_with}
use Rattle.sf_extract.specs.Runs.{given_now}
use Rattle.sf_extract.proofs.RecordLemmas.{given_bad, given_ok, patched_is}
use Rattle.sf_extract.proofs.RunLemmas.{bad_same}
use Rattle.sf_extract.proofs.record.put_whole.Goals as goal

pub returns-in-Ok-clause-ok : goal.returns-in-Ok-clause-ok
unfolding be32
returns-in-Ok-clause-ok c =
    let a = c.in-Ok.ensures in
    record {
      bytes = record_with c.args.standing (unwrap_or c.flags.result 0) a.bytes;
      is = given_ok c.args.extractor.now c.args.standing c.args.stored.now a.bytes c.flags.result c.requires.standing a.said c.flags.ensures.flags;
      grew = c.patch.ensures.bytes
          ∙ patched_is c.args.out.now c.put_head.new.out c.put_u32.new.out c.sample_bytes.new.into a.bytes c.to_be_bytes.result c.args.standing c.unwrap_or-flags.result c.len-at.result
          c.in_ok-put_head.ensures.ok c.in_ok-put_u32.ensures.ok a.grew c.len-at.ensures (c.to_be_bytes.ensures ∙ ap be32 a.count)
          ∙ ap (λ (f : ℕ). c.args.out.now ++ record_with c.args.standing f a.bytes) c.unwrap_or-flags.ensures;
    }

pub returns-in-Err-BadLength-clause-bad : goal.returns-in-Err-BadLength-clause-bad
returns-in-Err-BadLength-clause-bad c = λ bad e.
    let h = rw c.in-Err-BadLength.field-0-is at c.in-Err-BadLength.ensures in
    bad_same (given_now c.args.extractor.now c.args.stored.now) _ bad (given_bad c.args.extractor.now c.args.standing c.args.stored.now c.in-Err-BadLength.at c.requires.standing h.0) e
