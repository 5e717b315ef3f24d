use Rattle.std.proofs.Common.{List, ℕ, Option, Result, sym, subst}
use Rattle.sf_avc.specs.declared.prefixed.LengthFault.{LengthFault}
use Rattle.sf_extract.specs.HandedOut.{HandsOut}
use Rattle.sf_extract.proofs.HandedLemmas.{handed_is}
use Rattle.sf_extract.proofs.extractor.Extractor.sample_bytes.Goals as goal

pub returns : goal.returns
returns c =
    subst (λ (said : Option (Result (List ℕ) LengthFault)). HandsOut c.args.into.now c.hand_out.new.into said c.hand_out.result)
    (sym (handed_is c.self.inside.movie.now _ c.args.self.now c.in-Some.standing c.sample-sample.result c.cut_width-width.result c.args.stored.now c.self.view_is c.in-Some.ensures.exact c.sample-sample.ensures.sample c.cut_width-width.ensures.exact))
    c.hand_out.ensures
