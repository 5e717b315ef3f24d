use Rattle.std.proofs.Common.{◌≡◌, ◌-◌, min, length, ◌∙◌, refl}
use Rattle.sf_coded.proofs.Firsts.{turn_told, length_firsts}
use Rattle.sf_coded.proofs.reading.turn_at.Goals as goal

pub returns-clause-told : goal.returns-clause-told
returns-clause-told g c =
    let len : length c.read.new.into ≡ min 22 (c.size.result - c.args.at) = c.read.auto.into ∙ length_firsts _ c.min-count.result (c.size.result - c.args.at) refl c.min-count.ensures in
    turn_told c.args.blocks.now.content c.size.result c.args.at c.read.new.into c.read_record.result c.size.ensures.told c.in_ok-read.ensures.bytes len c.read_record.ensures
