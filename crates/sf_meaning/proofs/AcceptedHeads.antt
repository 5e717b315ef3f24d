-- What holds of the headers and the tables of a track that is accepted.
use Rattle.std.proofs.Common.{◌≡◌, ℕ, ◌*◌, ◌^◌, ◌≤◌, ◌==◌, nat_le, ◌&&◌, Bool, List, length, drop, codes, inl, inr, Option, Some, None, Ok, refl, subst, arith}
use Rattle.std.proofs.lemmas.Bool.{leb-true}
use Rattle.std.proofs.lemmas.List.{length-replicate}
use Rattle.sf_box.specs.Boxes.{Piece, word32}
use Rattle.sf_box.specs.Parts.{child_piece}
use Rattle.sf_meaning.specs.Steps.{as_fault, check, body_at}
use Rattle.sf_meaning.specs.Headers.{Head, inside, needed_in, is_wide, timescale_in}
use Rattle.sf_meaning.specs.Edits.{followed, unshifted, edits_in, bounded, shift_in, shift_by, shift_of}
use Rattle.sf_meaning.specs.TrackHeads.{TrackHeads, media_in, information_in, heads_in}
use Rattle.sf_meaning.specs.Tables.{sample_count}
use Rattle.sf_meaning.specs.SampleTables.{either_table, in_stbl, offsets_told, short_table, syncs_told}
use Rattle.sf_meaning.specs.SampleSizes.{field_bits, is_compact, sizes_of, sizes_told, sizes_whole}
use Rattle.sf_meaning.specs.TrackSamples.{Tables, times_table, chunks_table, sizes_table, places_table, tables_told}
use Rattle.sf_meaning.specs.Tracks.{TrackParts, entries_told, parts_in}
use Rattle.sf_meaning.specs.declared.elst.Shift.{Shift}
use Rattle.sf_meaning.specs.declared.faults.HeadFault.{HeadFault}
use Rattle.sf_meaning.specs.declared.faults.HeadFault.TheVariants as heads
use Rattle.sf_meaning.specs.declared.faults.TableFault.{TableFault}
use Rattle.sf_meaning.specs.declared.faults.MovieFault.TheVariants as movies
use Rattle.sf_meaning.proofs.Accepted.{bind_ok, first_ok, then_ok, checked, as_ok, ok_is, scale_some}
use Rattle.sf_meaning.proofs.ListLemmas.{bool_tells, both_true}
use Rattle.sf_meaning.proofs.SizeLemmas.{length_fields, length_words}

-- a shift of an edit list that is read
pub record IsBounded (movie_scale scale : ℕ) (s : Shift) : Type 0 where
  pub lead : s.lead ≤ 2 ^ 40 * movie_scale
  pub media_time : s.media_time ≤ 2 ^ 40 * scale

none_bounded : (movie_scale scale : ℕ) (r : Head Shift) (s : Shift) → r ≡ Ok unshifted → r ≡ Ok s → IsBounded movie_scale scale s
none_bounded movie_scale scale r s is e = subst (λ (x : Shift). IsBounded movie_scale scale x) (ok_is unshifted s r is e) (record { lead = omega arith; media_time = omega arith })

edits_bounded : (movie_scale scale : ℕ) (p : Piece) (o : Option Shift) (s : Shift) → bounded movie_scale scale p o ≡ Ok s → IsBounded movie_scale scale s
edits_bounded movie_scale scale p None s e = none_bounded movie_scale scale _ s refl e
edits_bounded movie_scale scale p (Some x) s e =
    let a : Bool = nat_le x.lead (2 ^ 40 * movie_scale) in
    let b : Bool = nat_le x.media_time (2 ^ 40 * scale) in
    let both = both_true a b (checked (a && b) (heads.EditTooLong p.head.at) (Ok x) s e) in
    let same = then_ok (check (a && b) (heads.EditTooLong p.head.at)) (Ok x) s e in
    subst (λ (y : Shift). IsBounded movie_scale scale y) (ok_is x s _ refl same)
    (record { lead = leb-true x.lead (2 ^ 40 * movie_scale) both.0; media_time = leb-true x.media_time (2 ^ 40 * scale) both.1 })

list_bounded : (movie_scale scale : ℕ) (o : Option Piece) (s : Shift) → shift_by movie_scale scale o ≡ Ok s → IsBounded movie_scale scale s
unfolding shift_in
list_bounded movie_scale scale None s e = none_bounded movie_scale scale _ s refl e
list_bounded movie_scale scale (Some p) s e =
    let a = bind_ok (edits_in p) _ s e in
    edits_bounded movie_scale scale p (followed (is_wide p.body) a.0) s a.2

shift_bounded : (movie_scale scale : ℕ) (o : Option Piece) (s : Shift) → shift_of movie_scale scale o ≡ Ok s → IsBounded movie_scale scale s
unfolding shift_of
shift_bounded movie_scale scale None s e = none_bounded movie_scale scale _ s refl e
shift_bounded movie_scale scale (Some edts) s e =
    let a = bind_ok (inside edts) _ s e in
    list_bounded movie_scale scale (child_piece a.0 (codes "elst")) s a.2

media_some : (mdia : Piece) (x : ℕ × List Piece) → media_in mdia ≡ Ok x → 1 ≤ x.0
unfolding media_in
media_some mdia x e =
    let a = bind_ok (inside mdia) _ x e in
    let b = bind_ok (needed_in (body_at mdia) (codes "mdhd") a.0) _ x a.2 in
    let c = bind_ok (timescale_in b.0) _ x b.2 in
    subst (λ (y : ℕ × List Piece). 1 ≤ y.0) (ok_is _ x _ refl c.2) (scale_some b.0 c.0 c.1)

-- headers that are read
pub record IsHeaded (movie_scale : ℕ) (h : TrackHeads) : Type 0 where
  pub scale : 1 ≤ h.scale
  pub shift : IsBounded movie_scale h.scale h.shift

headed : (movie_scale : ℕ) (trak : Piece) (h : TrackHeads) → heads_in movie_scale trak ≡ Ok h → IsHeaded movie_scale h
unfolding heads_in
headed movie_scale trak h e =
    let a = bind_ok (inside trak) _ h e in
    let b = bind_ok (needed_in (body_at trak) (codes "mdia") a.0) _ h a.2 in
    let c = bind_ok (media_in b.0) _ h b.2 in
    let d = bind_ok (shift_of movie_scale c.0.0 (child_piece a.0 (codes "edts"))) _ h c.2 in
    let f = bind_ok (needed_in (body_at b.0) (codes "minf") c.0.1) _ h d.2 in
    let g = bind_ok (information_in f.0) _ h f.2 in
    subst (λ (x : TrackHeads). IsHeaded movie_scale x) (ok_is _ h _ refl g.2)
    (record { scale = media_some b.0 c.0 c.1; shift = shift_bounded movie_scale c.0.0 (child_piece a.0 (codes "edts")) d.0 d.1 })

-- no more sizes than are counted
length_sizes : (p : Piece) → length (sizes_of p) ≤ sample_count p.body
length_sizes p =
    let n : ℕ = sample_count p.body in
    elim (bool_tells (is_compact p)) [
      | inl t ↦ rw t (length_fields (field_bits p.body) n (drop 12 p.body))
      | inr f ↦
          elim (bool_tells (word32 (drop 4 p.body) == 0)) [
            | inl t ↦ rw (f, t) (omega (arith, length_words n (drop 12 p.body)))
            | inr g ↦ rw (f, g) (omega (arith, length-replicate n (word32 (drop 4 p.body))))
          ]
    ]

whole_few : (p : Piece) (u : Unit {0}) → sizes_whole p ≡ Ok u → sample_count p.body ≤ 16777216
unfolding sizes_whole
whole_few p u e =
    let a = then_ok (check (nat_le 12 (length p.body)) (short_table p)) _ u e in
    leb-true (sample_count p.body) 16777216 (checked (nat_le (sample_count p.body) 16777216) _ _ u a)

sizes_few : (p : Piece) (sizes : List ℕ) → sizes_told p ≡ Ok sizes → length sizes ≤ 16777216
unfolding sizes_told
sizes_few p sizes e =
    let a = first_ok (sizes_whole p) _ sizes e in
    let same = then_ok (sizes_whole p) _ sizes e in
    let few : length (sizes_of p) ≤ 16777216 = omega (arith, length_sizes p, whole_few p a.0 a.1) in
    subst (λ (xs : List ℕ). length xs ≤ 16777216) (ok_is (sizes_of p) sizes _ refl same) few

table_few : (at : ℕ) (ps : List Piece) (sizes : List ℕ) → sizes_table at ps ≡ Ok sizes → length sizes ≤ 16777216
unfolding sizes_table
table_few at ps sizes e = let a = bind_ok (either_table at (codes "stsz") (codes "stz2") ps) _ sizes e in sizes_few a.0 sizes a.2

tables_few : (at : ℕ) (ps : List Piece) (t : Tables) → tables_told at ps ≡ Ok t → length t.sizes ≤ 16777216
unfolding tables_told
tables_few at ps t e =
    let a = bind_ok (times_table at ps) _ t e in
    let b = bind_ok (offsets_told (child_piece ps (codes "ctts"))) _ t a.2 in
    let c = bind_ok (chunks_table at ps) _ t b.2 in
    let d = bind_ok (sizes_table at ps) _ t c.2 in
    let f = bind_ok (places_table at ps) _ t d.2 in
    let g = bind_ok (syncs_told (child_piece ps (codes "stss"))) _ t f.2 in
    subst (λ (x : Tables). length x.sizes ≤ 16777216) (ok_is _ t _ refl g.2) (table_few at ps d.0 d.1)

-- parts that are read
pub record IsRead (movie_scale : ℕ) (p : TrackParts) : Type 0 where
  pub heads : IsHeaded movie_scale p.heads
  pub few : length p.tables.sizes ≤ 16777216

pub parts_read : (movie_scale : ℕ) (trak : Piece) (p : TrackParts) → parts_in movie_scale trak ≡ Ok p → IsRead movie_scale p
unfolding parts_in
parts_read movie_scale trak p e =
    let a = bind_ok (as_fault (λ (f : HeadFault). movies.Head f) (heads_in movie_scale trak)) _ p e in
    let b = bind_ok (as_fault (λ (f : TableFault). movies.Table f) (in_stbl a.0.stbl)) _ p a.2 in
    let c = bind_ok (entries_told a.0.own (body_at a.0.stbl) b.0) _ p b.2 in
    let d = bind_ok (as_fault (λ (f : TableFault). movies.Table f) (tables_told (body_at a.0.stbl) b.0)) _ p c.2 in
    subst (λ (x : TrackParts). IsRead movie_scale x) (ok_is _ p _ refl d.2)
    (record {
      heads = headed movie_scale trak a.0 (as_ok (λ (f : HeadFault). movies.Head f) (heads_in movie_scale trak) a.0 a.1);
      few = tables_few (body_at a.0.stbl) b.0 d.0 (as_ok (λ (f : TableFault). movies.Table f) (tables_told (body_at a.0.stbl) b.0) d.0 d.1);
    })
