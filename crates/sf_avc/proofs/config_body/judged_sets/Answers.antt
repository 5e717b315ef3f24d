use Rattle.std.proofs.Common.{arith, ◌∙◌, sym, ap}
use Rattle.sf_avc.specs.Sps.{sps_of}
use Rattle.sf_avc.proofs.RecordSets.{first_four, made_with}
use Rattle.sf_avc.proofs.config_body.judged_sets.Goals as goal

pub returns-in-Ok : goal.returns-in-Ok
returns-in-Ok c = record {
  is =
      made_with c.args.config.now c.args.sps.now c.args.pps.now _ c.in-Ok.head (omega arith) (grind arith) (omega arith) (omega arith)
      (sym c.any_long.ensures.is ∙ c.if-any_long.false) (sym c.any_long-else-any_long.ensures.is ∙ c.if-any_long-2.false)
      (ap sps_of (sym c.unit_bytes.ensures.bytes) ∙ sym c.in-Ok.ensures.head) (sym c.is_known.ensures ∙ c.if-is_known.true);
  some = omega arith;
  first = first_four c.args.config.now c.args.sps.now _ c.in-Ok.head (omega arith) (ap sps_of (sym c.unit_bytes.ensures.bytes) ∙ sym c.in-Ok.ensures.head);
  few_sps = omega arith;
  few_pps = omega arith;
  short_sps = c.any_long.ensures.short c.if-any_long.false;
  short_pps = c.any_long-else-any_long.ensures.short c.if-any_long-2.false;
  fits = c.in-Ok.ensures.fits;
}
