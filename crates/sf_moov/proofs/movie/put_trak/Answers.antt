use Rattle.std.proofs.Common.{◌≡◌, ◌++◌, [], ◌∷◌, codes, refl, append_assoc, append-nil}
use Rattle.sf_box.specs.Boxes.{opened}
use Rattle.sf_box.specs.Parts.{tiled}
use Rattle.sf_layout.specs.MovieBox.{mdia_body, trak_body}
use Rattle.sf_layout.specs.Headers.{edts_parts}
use Rattle.sf_box.proofs.BoxLaws.{tiled-append}
use Rattle.sf_moov.proofs.movie.put_trak.Goals as goal

pub returns-clause-put : goal.returns-clause-put
unfolding trak_body tiled
returns-clause-put c =
    let head = c.args.head.now in
    let stbl = c.args.stbl.now in
    let made : c.put_mdia.new.out ≡ c.args.out.now ++ opened (codes "trak") ++ trak_body c.args.number head stbl =
    rw (c.in_ok-put_mdia.ensures.put, c.in_ok-put_edits.ensures.put, c.in_ok-put_tkhd.ensures.put, c.in_ok-mark.ensures.ok, tiled-append (edts_parts head) ((codes "mdia", mdia_body head stbl) ∷ [])) (simp (append_assoc, append-nil)) in
    c.end_box.ensures.gains c.args.out.now (codes "trak") (trak_body c.args.number head stbl) refl c.in_ok-mark.ensures.mark made
