use Rattle.sf_meaning.proofs.EntryLemmas.{not_next}
use Rattle.sf_meaning.proofs.listing.next_number.Goals as goal

pub returns-else-next-number-clause-here : goal.returns-else-next-number-clause-here
returns-else-next-number-clause-here c = not_next c.args.number c.args.numbers.now c.if-next-number.false c.requires.rising
