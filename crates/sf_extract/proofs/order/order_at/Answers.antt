use Rattle.sf_extract.proofs.NumberLemmas.{order_within}
use Rattle.sf_extract.proofs.order.order_at.Goals as goal

pub sync_there-requires-clause-there : goal.sync_there-requires-clause-there
sync_there-requires-clause-there c = order_within c.args.movie.now.movie c.args.t c.args.k c.in-ByNumber.field-0 c.args.order.now c.requires.there c.in-ByNumber.is
