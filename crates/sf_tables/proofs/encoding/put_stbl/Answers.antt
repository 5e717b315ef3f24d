use Rattle.std.proofs.Common.{◌≡◌, ℕ, List, ◌++◌, codes, length, map, refl, ap, arith}
use Rattle.std.proofs.lemmas.List.{length-append}
use Rattle.sf_box.specs.Boxes.{box_of, opened}
use Rattle.sf_box.specs.Parts.{tiled}
use Rattle.sf_box.proofs.BoxLaws.{length-opened}
use Rattle.sf_meaning.specs.Stbl.{stsd_body}
use Rattle.sf_tables.specs.inner.Kept.{counts_kept, places_kept, timed_kept, of_samples, stbl_from}
use Rattle.sf_tables.proofs.BoxLengths.{length-stbl_from}
use Rattle.sf_tables.proofs.Tiling.{grows_more, stbl_tiled}
use Rattle.sf_tables.proofs.encoding.put_stbl.Goals as goal

pub put_stsd-requires : goal.put_stsd-requires
put_stsd-requires c = omega (arith, length-stbl_from c.args.entry.now (map timed_kept c.args.samples.now) (places_kept c.args.chunks.now) (counts_kept c.args.chunks.now), c.requires.size)

pub put_of_samples-requires-clause-size : goal.put_of_samples-requires-clause-size
put_of_samples-requires-clause-size c = omega (arith, length-stbl_from c.args.entry.now (map timed_kept c.args.samples.now) (places_kept c.args.chunks.now) (counts_kept c.args.chunks.now), c.requires.size)

pub put_of_chunks-requires-clause-size : goal.put_of_chunks-requires-clause-size
put_of_chunks-requires-clause-size c = omega (arith, length-stbl_from c.args.entry.now (map timed_kept c.args.samples.now) (places_kept c.args.chunks.now) (counts_kept c.args.chunks.now), c.requires.size)

pub returns-in_err-put_stsd-clause-grows : goal.returns-in_err-put_stsd-clause-grows
returns-in_err-put_stsd-clause-grows c = grows_more c.args.out.now (opened (codes "stbl")) c.begin_box.new.out c.put_stsd.new.out c.in_ok-mark.ensures.ok c.in_err-put_stsd.ensures.grows

pub returns-in_err-put_of_samples-clause-grows : goal.returns-in_err-put_of_samples-clause-grows
returns-in_err-put_of_samples-clause-grows c =
    let begun = grows_more c.begin_box.new.out (box_of (codes "stsd") (stsd_body c.args.entry.now)) c.put_stsd.new.out c.put_of_samples.new.out c.in_ok-put_stsd.ensures.put c.in_err-put_of_samples.ensures.grows in
    grows_more c.args.out.now (opened (codes "stbl")) c.begin_box.new.out c.put_of_samples.new.out c.in_ok-mark.ensures.ok begun

pub returns-in_err-put_of_chunks-clause-grows : goal.returns-in_err-put_of_chunks-clause-grows
returns-in_err-put_of_chunks-clause-grows c =
    let described = grows_more c.put_stsd.new.out (tiled (of_samples (map timed_kept c.args.samples.now))) c.put_of_samples.new.out c.put_of_chunks.new.out c.in_ok-put_of_samples.ensures.put c.in_err-put_of_chunks.ensures.grows in
    let begun = grows_more c.begin_box.new.out (box_of (codes "stsd") (stsd_body c.args.entry.now)) c.put_stsd.new.out c.put_of_chunks.new.out c.in_ok-put_stsd.ensures.put described in
    grows_more c.args.out.now (opened (codes "stbl")) c.begin_box.new.out c.put_of_chunks.new.out c.in_ok-mark.ensures.ok begun

pub end_box-requires-clause-size : goal.end_box-requires-clause-size
end_box-requires-clause-size c =
    let made : c.put_of_chunks.new.out ≡ c.args.out.now ++ opened (codes "stbl") ++ tiled (stbl_from c.args.entry.now (map timed_kept c.args.samples.now) (places_kept c.args.chunks.now) (counts_kept c.args.chunks.now)) =
    rw (← stbl_tiled c.args.out.now c.args.entry.now (map timed_kept c.args.samples.now) (places_kept c.args.chunks.now) (counts_kept c.args.chunks.now), ← c.in_ok-mark.ensures.ok, ← c.in_ok-put_stsd.ensures.put, ← c.in_ok-put_of_samples.ensures.put) c.in_ok-put_of_chunks.ensures.put in
    let body : List ℕ = tiled (stbl_from c.args.entry.now (map timed_kept c.args.samples.now) (places_kept c.args.chunks.now) (counts_kept c.args.chunks.now)) in
    omega (
      arith,
      ap (λ (xs : List ℕ). length xs) made,
      length-append (c.args.out.now ++ opened (codes "stbl")) body,
      length-append c.args.out.now (opened (codes "stbl")),
      length-opened (codes "stbl") refl,
      c.in_ok-mark.ensures.mark,
      c.requires.size,
    )

pub returns-clause-put : goal.returns-clause-put
returns-clause-put c =
    let made : c.put_of_chunks.new.out ≡ c.args.out.now ++ opened (codes "stbl") ++ tiled (stbl_from c.args.entry.now (map timed_kept c.args.samples.now) (places_kept c.args.chunks.now) (counts_kept c.args.chunks.now)) =
    rw (← stbl_tiled c.args.out.now c.args.entry.now (map timed_kept c.args.samples.now) (places_kept c.args.chunks.now) (counts_kept c.args.chunks.now), ← c.in_ok-mark.ensures.ok, ← c.in_ok-put_stsd.ensures.put, ← c.in_ok-put_of_samples.ensures.put) c.in_ok-put_of_chunks.ensures.put in
    c.end_box.ensures.gains c.args.out.now (codes "stbl") (tiled (stbl_from c.args.entry.now (map timed_kept c.args.samples.now) (places_kept c.args.chunks.now) (counts_kept c.args.chunks.now))) refl c.in_ok-mark.ensures.mark made
