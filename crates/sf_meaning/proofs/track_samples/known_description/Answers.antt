use Rattle.std.proofs.Common.{◌∙◌, sym, arith, inr}
use Rattle.sf_meaning.proofs.DescriptionLemmas.{known-replicate, unknown-replicate}
use Rattle.sf_meaning.proofs.track_samples.known_description.Goals as goal

pub returns-then-is_known : goal.returns-then-is_known
returns-then-is_known c = known-replicate c.args.at c.args.entries c.args.count c.args.description (sym c.is_known.ensures ∙ c.if-is_known.true)

pub returns : goal.returns
returns c = inr (unknown-replicate c.args.at c.args.entries c.args.count c.args.description (omega arith) (sym c.is_known.ensures ∙ c.if-is_known.false))
