use Rattle.std.proofs.Common.{◌≡◌, ℕ, ◌<◌, ◌≤◌, ◌^◌, List, ◌++◌, length, map, sym, ap, subst, ◌∙◌, arith}
use Rattle.std.specs.List.{AllByRecursion}
use Rattle.sf_layout.specs.Layout.{movie_box, start_of, stbl_of}
use Rattle.sf_layout.specs.MovieBox.{moov_of}
use Rattle.sf_layout.specs.declared.heads.TrackHead.{TrackHead}
use Rattle.sf_moov.specs.Heads.{HaveLengths}
use Rattle.sf_file.specs.Open.{HeldTrack, OpenFile, closing_box, rows_in}
use Rattle.sf_file.specs.inner.Tracks.{IsShort, KeptTrack, heads_in, held_in}
use Rattle.sf_file.proofs.MovieLengths.{all_short, have_lengths, length_box}
use Rattle.sf_file.proofs.out_file.OutFile.movie_box.Goals as goal

short_tables : (ks : List KeptTrack) → length (movie_box (rows_in (held_in ks))) ≤ 2 ^ 28 → AllByRecursion IsShort ks
short_tables ks box =
    let start_us : ℕ = start_of (rows_in (held_in ks)) in
    all_short start_us ks (omega (arith, box, length_box (held_in ks)))

-- the movie box, of heads and tables that are those of the tracks
made_of : (ts : List HeldTrack) (start_us : ℕ) (heads : List TrackHead) (tables : List (List ℕ)) → start_us ≡ start_of (rows_in ts) → heads ≡ heads_in start_us ts → tables ≡ map stbl_of (rows_in ts)
    → moov_of heads start_us tables ≡ movie_box (rows_in ts)
unfolding movie_box
made_of ts start_us heads tables s h t =
    ap (λ (hs : List TrackHead). moov_of hs start_us tables) h ∙ ap (λ (bs : List (List ℕ)). moov_of (heads_in start_us ts) start_us bs) t
    ∙ ap (λ (us : ℕ). moov_of (heads_in us ts) us (map stbl_of (rows_in ts))) s

fit : (ts : List HeldTrack) (start_us : ℕ) (heads : List TrackHead) (tables : List (List ℕ)) → heads ≡ heads_in start_us ts → tables ≡ map stbl_of (rows_in ts) → HaveLengths heads tables
fit ts start_us heads tables h t = rw (h, t) (have_lengths start_us (rows_in ts))

pub tables-requires : goal.tables-requires
tables-requires g c =
    subst (λ (ks : List KeptTrack). AllByRecursion IsShort ks) (sym c.deref-2.ensures.value) (short_tables c.self.inside.tracks.items c.self.invariant.box)

pub encode_moov-requires-clause-tables : goal.encode_moov-requires-clause-tables
encode_moov-requires-clause-tables g c =
    fit (held_in c.self.inside.tracks.items) c.start_us-start_us.result c.deref-3.result.now c.deref-4.result.now
    (c.deref-3.ensures.value ∙ c.in_ok-heads.ensures.exact ∙ ap (λ (ks : List KeptTrack). heads_in c.start_us-start_us.result (held_in ks)) c.deref.ensures.value)
    (c.deref-4.ensures.value ∙ c.in_ok-tables.ensures ∙ ap (λ (ks : List KeptTrack). map stbl_of (rows_in (held_in ks))) c.deref-2.ensures.value)

whole : (ts : List HeldTrack) {start_us : ℕ} {heads : List TrackHead} {tables : List (List ℕ)} → start_us ≡ start_of (rows_in ts) → heads ≡ heads_in start_us ts → tables ≡ map stbl_of (rows_in ts)
    → length (movie_box (rows_in ts)) ≤ 2 ^ 28 → length (moov_of heads start_us tables) < 2 ^ 32
whole ts {start_us} {heads} {tables} s h t box = omega (arith, ap (λ (b : List ℕ). length b) (made_of ts start_us heads tables s h t), box)

pub encode_moov-requires-clause-size : goal.encode_moov-requires-clause-size
encode_moov-requires-clause-size g c =
    whole (held_in c.self.inside.tracks.items)
    (c.start_us-start_us.ensures.start ∙ ap (λ (f : OpenFile). start_of (rows_in f.tracks)) (sym c.self.view_is))
    (c.deref-3.ensures.value ∙ c.in_ok-heads.ensures.exact ∙ ap (λ (ks : List KeptTrack). heads_in c.start_us-start_us.result (held_in ks)) c.deref.ensures.value)
    (c.deref-4.ensures.value ∙ c.in_ok-tables.ensures ∙ ap (λ (ks : List KeptTrack). map stbl_of (rows_in (held_in ks))) c.deref-2.ensures.value)
    c.self.invariant.box

pub returns : goal.returns
returns g c =
    c.in_ok-encode_moov.ensures.ok ∙ ap (λ (b : List ℕ). b ++ moov_of c.deref-3.result.now c.start_us-start_us.result c.deref-4.result.now) c.new-out.ensures
    ∙ made_of (held_in c.self.inside.tracks.items) c.start_us-start_us.result c.deref-3.result.now c.deref-4.result.now
    (c.start_us-start_us.ensures.start ∙ ap (λ (f : OpenFile). start_of (rows_in f.tracks)) (sym c.self.view_is))
    (c.deref-3.ensures.value ∙ c.in_ok-heads.ensures.exact ∙ ap (λ (ks : List KeptTrack). heads_in c.start_us-start_us.result (held_in ks)) c.deref.ensures.value)
    (c.deref-4.ensures.value ∙ c.in_ok-tables.ensures ∙ ap (λ (ks : List KeptTrack). map stbl_of (rows_in (held_in ks))) c.deref-2.ensures.value)
    ∙ ap closing_box c.self.view_is
