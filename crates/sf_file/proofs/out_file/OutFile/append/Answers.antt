use Rattle.std.proofs.Common.{◌≡◌, ℕ, ◌+◌, ◌≤◌, ◌^◌, List, Some, length, map, sym, ap, subst, ◌∙◌, arith}
use Rattle.std.specs.Prelude.{slice_get}
use Rattle.sf_tick.specs.declared.types.Stored.{Stored}
use Rattle.sf_world.specs.Contents.{grown}
use Rattle.sf_layout.specs.Layout.{movie_box, stored_bytes}
use Rattle.sf_file.specs.Open.{Appendable, HeldTrack, OpenFile, Stands, rows_in, setups_of, tracks_with}
use Rattle.sf_file.specs.inner.Tracks.{held_in}
use Rattle.sf_file.proofs.OneMore.{setups_with}
use Rattle.sf_file.proofs.ClosedFile.{bytes_short, end_fits, sound_more, stands_more}
use Rattle.sf_file.proofs.out_file.OutFile.append.Goals as goal

pub overflow_add-self : goal.overflow_add-self
overflow_add-self g c =
    let len = c.len.ensures ∙ ap length (c.in-Ok.ensures ∙ ap (λ (ss : List Stored). stored_bytes ss) c.as_slice.ensures) in
    let a = c.requires.appendable in
    omega (arith, len, end_fits c.self.invariant (bytes_short a.track c.args.chunk.now a.joins))

pub invariant_of-self-2 : goal.invariant_of-self-2
invariant_of-self-2 g c =
    let chunk = c.args.chunk.now in
    let a = c.requires.appendable in
    let among : slice_get (held_in c.self.inside.tracks.items) chunk.track ≡ Some a.track = ap (λ (f : OpenFile). slice_get f.tracks chunk.track) c.self.view_is ∙ a.among in
    let box = subst (λ (f : OpenFile). length (movie_box (rows_in (tracks_with 0 f.tracks f.end chunk))) ≤ 2 ^ 28) (sym c.self.view_is) c.requires.movie_box in
    let after = c.add.ensures ∙ ap (λ (ts : List HeldTrack). tracks_with 0 ts c.self.inside.end chunk) c.reserve.ensures.held in
    let len = c.len.ensures ∙ ap length (c.in-Ok.ensures ∙ ap (λ (ss : List Stored). stored_bytes ss) c.as_slice.ensures) in
    sound_more chunk a.track c.self.invariant among a.joins box after len (omega (arith, c.put.ensures.longer, c.self.invariant.head))

pub returns-clause-stands : goal.returns-clause-stands
returns-clause-stands g c begun chunks s =
    let chunk = c.args.chunk.now in
    let after = c.add.ensures ∙ ap (λ (ts : List HeldTrack). tracks_with 0 ts c.self.inside.end chunk) c.reserve.ensures.held in
    let len = c.len.ensures ∙ ap length (c.in-Ok.ensures ∙ ap (λ (ss : List Stored). stored_bytes ss) c.as_slice.ensures) in
    stands_more chunk (subst (λ (f : OpenFile). Stands begun chunks f) (sym c.self.view_is) s) (subst (λ (f : OpenFile). Appendable f chunk) (sym c.self.view_is) c.requires.appendable)
    after (ap (λ (n : ℕ). c.self.inside.end + n) len)
    (c.in_ok-put.ensures.ok.content ∙ ap (λ (b : List ℕ). grown (g.S.Sink.seen c.self.inside.sink).content b) (c.as_slice-2.ensures ∙ c.in-Ok.ensures ∙ ap (λ (ss : List Stored). stored_bytes ss) c.as_slice.ensures))

pub returns-clause-setups : goal.returns-clause-setups
returns-clause-setups g c =
    let chunk = c.args.chunk.now in
    let after = c.add.ensures ∙ ap (λ (ts : List HeldTrack). tracks_with 0 ts c.self.inside.end chunk) c.reserve.ensures.held in
    ap (λ (ts : List HeldTrack). map (λ (t : HeldTrack). t.track.setup) ts) after
    ∙ setups_with 0 (held_in c.self.inside.tracks.items) c.self.inside.end chunk
    ∙ ap setups_of c.self.view_is
