use Rattle.sf_coded.proofs.Records.{sample_told}
use Rattle.sf_coded.proofs.coded.sample_at.Goals as goal

pub returns-in_ok-bytes-in-Next-clause-told : goal.returns-in_ok-bytes-in-Next-clause-told
returns-in_ok-bytes-in-Next-clause-told g c =
    sample_told c.args.blocks.now.content c.turn_at.new.blocks.content c.args.at c.in-Next.found c.in_ok-bytes-in-Next.bytes
    (rw c.in-Next.is at c.in_ok-turn_at.ensures.told) c.in_ok-bytes-in-Next.ensures.bytes c.in_ok-bytes-in-Next.ensures.len c.turn_at.ensures.source.content
