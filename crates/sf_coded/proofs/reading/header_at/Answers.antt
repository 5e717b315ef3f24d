use Rattle.std.proofs.Common.{◌≡◌, min, length, ◌∙◌, refl}
use Rattle.sf_coded.proofs.Firsts.{header_told, length_firsts}
use Rattle.sf_coded.proofs.reading.header_at.Goals as goal

pub returns-clause-told : goal.returns-clause-told
returns-clause-told g c =
    let len : length c.read.new.into ≡ min 22 c.size-size.result = c.read.auto.into ∙ length_firsts _ c.min-count.result c.size-size.result refl c.min-count.ensures in
    header_told c.args.blocks.now.content c.size-size.result c.read.new.into c.read_header.result c.size-size.ensures.told c.in_ok-read.ensures.bytes len c.read_header.ensures.fields
