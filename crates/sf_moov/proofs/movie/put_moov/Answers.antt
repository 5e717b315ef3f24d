use Rattle.std.proofs.Common.{codes, refl, arith}
use Rattle.sf_box.specs.Boxes.{opened}
use Rattle.sf_box.specs.Parts.{tiled}
use Rattle.sf_layout.specs.MovieBox.{in_moov, moov_of}
use Rattle.sf_moov.proofs.BoxLengths.{grows_more, length-moov_with, moov_put, moov_room}
use Rattle.sf_moov.proofs.movie.put_moov.Goals as goal

pub put_traks-requires-clause-size : goal.put_traks-requires-clause-size
put_traks-requires-clause-size c = omega (arith, c.requires.size, length-moov_with c.args.heads.now c.args.start_us c.args.stbls.now)

pub returns-in_err-put_traks-clause-grows : goal.returns-in_err-put_traks-clause-grows
returns-in_err-put_traks-clause-grows c =
    let begun = grows_more c.begin_box.new.out _ c.put_mvhd.new.out c.put_traks.new.out c.in_ok-put_mvhd.ensures.put c.in_err-put_traks.ensures.grows in
    grows_more c.args.out.now (opened (codes "moov")) c.begin_box.new.out c.put_traks.new.out c.in_ok-mark.ensures.ok begun

pub returns-in_err-put_udta-clause-grows : goal.returns-in_err-put_udta-clause-grows
returns-in_err-put_udta-clause-grows c =
    let headed = grows_more c.put_mvhd.new.out _ c.put_traks.new.out c.put_udta.new.out c.in_ok-put_traks.ensures.put c.in_err-put_udta.ensures.grows in
    let begun = grows_more c.begin_box.new.out _ c.put_mvhd.new.out c.put_udta.new.out c.in_ok-put_mvhd.ensures.put headed in
    grows_more c.args.out.now (opened (codes "moov")) c.begin_box.new.out c.put_udta.new.out c.in_ok-mark.ensures.ok begun

pub end_box-requires-clause-size : goal.end_box-requires-clause-size
end_box-requires-clause-size c =
    let heads = c.args.heads.now in
    let stbls = c.args.stbls.now in
    let made = moov_put c.args.out.now c.begin_box.new.out c.put_mvhd.new.out c.put_traks.new.out c.put_udta.new.out heads c.args.start_us c.longest.result stbls
    c.in_ok-mark.ensures.ok c.in_ok-put_mvhd.ensures.put c.longest.ensures.exact c.in_ok-put_traks.ensures.put c.in_ok-put_udta.ensures.put in
    omega (arith, c.requires.size, c.in_ok-mark.ensures.mark, moov_room c.args.out.now c.put_udta.new.out heads c.args.start_us stbls made)

pub returns-clause-put : goal.returns-clause-put
unfolding moov_of
returns-clause-put c =
    let heads = c.args.heads.now in
    let stbls = c.args.stbls.now in
    let made = moov_put c.args.out.now c.begin_box.new.out c.put_mvhd.new.out c.put_traks.new.out c.put_udta.new.out heads c.args.start_us c.longest.result stbls
    c.in_ok-mark.ensures.ok c.in_ok-put_mvhd.ensures.put c.longest.ensures.exact c.in_ok-put_traks.ensures.put c.in_ok-put_udta.ensures.put in
    c.end_box.ensures.gains c.args.out.now (codes "moov") (tiled (in_moov heads c.args.start_us stbls)) refl c.in_ok-mark.ensures.mark made
