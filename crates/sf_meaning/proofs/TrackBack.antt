-- A track whose tables were written is read back, whatever its headers are and wherever its tables stand.
use Rattle.std.proofs.Common.{◌≡◌, ℕ, zero, suc, ◌+◌, ◌-◌, ◌^◌, ◌<◌, Bool, true, false, cond, List, [], ◌∷◌, ◌++◌, length, codes, Some, Ok, refl, sym, ap, ◌∙◌, inl, inr}
use Rattle.std.specs.List.{AllByRecursion}
use Rattle.sf_box.specs.declared.types.BoxHead.{BoxHead}
use Rattle.sf_box.specs.Boxes.{Piece, be32}
use Rattle.sf_box.specs.Parts.{Part, tiled, laid, Fits}
use Rattle.sf_box.proofs.BoxLaws.{boxes_tiled}
use Rattle.sf_entry.specs.Stsd.{entries_of, stsd_of}
use Rattle.sf_entry.specs.declared.types.EntryAt.{EntryAt}
use Rattle.sf_meaning.specs.References.{names_other}
use Rattle.sf_meaning.specs.TrackHeads.{TrackHeads, heads_in}
use Rattle.sf_meaning.specs.SampleTables.{in_stbl}
use Rattle.sf_meaning.specs.Tracks.{TrackParts, kind_of, held_in, entries_told, parts_in, track_in}
use Rattle.sf_meaning.specs.Groups.{counts_in_trak}
use Rattle.sf_meaning.specs.Written.{listed}
use Rattle.sf_meaning.specs.Writable.{Tellable}
use Rattle.sf_meaning.specs.Stbl.{Timed, Row, timed_of, sizes_in_rows, counts_in_rows, places_in_rows, all_in_time, all_sync, all_near, stsz_body, stsc_body, stsd_body, ctts_parts, stss_parts, places_part, stbl_parts}
use Rattle.sf_meaning.specs.declared.elst.Shift.{Shift}
use Rattle.sf_meaning.specs.declared.movie.TrackKind.{TrackKind}
use Rattle.sf_meaning.specs.declared.movie.PlainTrack.{PlainTrack}
use Rattle.sf_meaning.proofs.ListLemmas.{all-append, bool_tells}
use Rattle.sf_meaning.proofs.HeadersBack.{kinds_fit}
use Rattle.sf_meaning.proofs.TablesRead.{told, stts_place, stsc_place, tables_laid, counts_told, held_back}

optional_kind : (lacks : Bool) (p : Part) → length p.0 ≡ 4 → AllByRecursion (λ p. length p.0 ≡ 4) (cond lacks [] (p ∷ []))
optional_kind true p e = tt
optional_kind false p e = (e, tt)

places_kind : (places : List ℕ) → length (places_part places).0 ≡ 4
places_kind places = elim (bool_tells (all_near places)) [ inl t ↦ rw t refl | inr f ↦ rw f refl ]

stbl_kinds : (entry : List ℕ) (rs : List Row) → AllByRecursion (λ p. length p.0 ≡ 4) (stbl_parts entry rs)
stbl_kinds entry rs =
    let ss : List Timed = timed_of rs in
    let last : List Part = (codes "stsz", stsz_body (sizes_in_rows rs)) ∷ (codes "stsc", stsc_body (counts_in_rows rs)) ∷ places_part (places_in_rows rs) ∷ [] in (
      refl,
      (
        refl,
        all-append (λ (p : Part). length p.0 ≡ 4) (ctts_parts ss) (stss_parts ss ++ last) (optional_kind (all_in_time ss) _ refl)
            (all-append (λ (p : Part). length p.0 ≡ 4) (stss_parts ss) last (optional_kind (all_sync ss) _ refl) (refl, (refl, (places_kind (places_in_rows rs), tt)))),
      ),
    )

-- the boxes of a sample table box fit their sizes
pub stbl_fits : (entry : List ℕ) (rs : List Row) → length (tiled (stbl_parts entry rs)) < 2 ^ 32 - 8 → AllByRecursion Fits (stbl_parts entry rs)
stbl_fits entry rs short = kinds_fit (stbl_parts entry rs) (stbl_kinds entry rs) short

stsd_is : (entry : List ℕ) → stsd_of entry ≡ stsd_body entry
unfolding stsd_of be32
stsd_is entry = refl

-- the boxes of a sample table box
stbl_read : (h : BoxHead) (entry : List ℕ) (rs : List Row) → AllByRecursion Fits (stbl_parts entry rs)
    → in_stbl (record { head = h; body = tiled (stbl_parts entry rs) }) ≡ Ok (laid (h.at + h.head) (stbl_parts entry rs))
unfolding in_stbl
stbl_read h entry rs fits = rw (boxes_tiled false (h.at + h.head) (stbl_parts entry rs) fits) refl

-- An entry that is read back, alone in its box, as one of a kind.
abbrev pub ReadsBack : List ℕ → TrackKind → Type 0
ReadsBack bytes kind = (base : ℕ) → (e : EntryAt) × (entries_of base (stsd_of bytes) ≡ Ok (e ∷ [])) × (kind_of e.entry ≡ kind)

-- where the only data reference is to this very file, none names another
none_other : (reference : ℕ) → names_other (true ∷ []) reference ≡ false
none_other zero = refl
none_other (suc zero) = refl
none_other (suc (suc n)) = refl

entries_read : (at : ℕ) (bytes : List ℕ) (e : EntryAt) (rs : List Row) → entries_of (at + 8) (stsd_of bytes) ≡ Ok (e ∷ [])
    → entries_told (true ∷ []) at (laid at (stbl_parts bytes rs)) ≡ Ok (e ∷ [])
unfolding entries_told
entries_read at bytes e rs back =
    let read : entries_of (at + 8) (stsd_body bytes) ≡ Ok (e ∷ []) = ap (entries_of (at + 8)) (sym (stsd_is bytes)) ∙ back in
    rw (read, none_other e.reference) refl

-- what the headers of a track say whose sample table box is this one
abbrev pub written_heads : ℕ → Shift → BoxHead → List ℕ → List Row → TrackHeads
written_heads scale shift h bytes rs = record { scale = scale; shift = shift; own = true ∷ []; stbl = record { head = h; body = tiled (stbl_parts bytes rs) } }

-- its parts
abbrev written_parts : ℕ → Shift → BoxHead → List ℕ → EntryAt → List Row → TrackParts
written_parts scale shift h bytes e rs = record {
  heads = written_heads scale shift h bytes rs;
  entries = e ∷ [];
  tables = told (stts_place (h.at + h.head) bytes) (stsc_place (h.at + h.head) bytes rs) rs;
}

parts_back : (movie_scale scale base : ℕ) (shift : Shift) (trak : Piece) (h : BoxHead) (bytes : List ℕ) (e : EntryAt) (rs : List Row)
    → heads_in movie_scale trak ≡ Ok (written_heads scale shift h bytes rs) → length (tiled (stbl_parts bytes rs)) < 2 ^ 32 - 8
    → entries_of (h.at + h.head + 8) (stsd_of bytes) ≡ Ok (e ∷ []) → Tellable scale base rs
    → parts_in movie_scale trak ≡ Ok (written_parts scale shift h bytes e rs)
unfolding parts_in
parts_back movie_scale scale base shift trak h bytes e rs heads short back t =
    let fits : AllByRecursion Fits (stbl_parts bytes rs) = stbl_fits bytes rs short in
    let at : ℕ = h.at + h.head in
    rw (heads, stbl_read h bytes rs fits, entries_read at bytes e rs back, tables_laid scale base at at bytes rs t fits) refl

-- A track is read as its rows.
pub track_back : (file movie_scale number scale base : ℕ) (shift : Shift) (trak : Piece) (h : BoxHead) (bytes : List ℕ) (kind : TrackKind) (rs : List Row)
    → heads_in movie_scale trak ≡ Ok (written_heads scale shift h bytes rs) → length (tiled (stbl_parts bytes rs)) < 2 ^ 32 - 8 → ReadsBack bytes kind → Tellable scale base rs
    → held_in file number 0 (listed base rs) ≡ Ok tt
    → track_in file movie_scale number trak ≡ Ok (record { kind = kind; scale = scale; lead = shift.lead; media_time = shift.media_time; samples = listed base rs })
unfolding track_in
track_back file movie_scale number scale base shift trak h bytes kind rs heads short back t held =
    let at : ℕ = h.at + h.head in
    let b : (e : EntryAt) × (entries_of (at + 8) (stsd_of bytes) ≡ Ok (e ∷ [])) × (kind_of e.entry ≡ kind) = back (at + 8) in
    rw (parts_back movie_scale scale base shift trak h bytes b.0 rs heads short b.1 t, held_back file number scale base (stts_place at bytes) (stsc_place at bytes rs) rs t held)
    (ap (λ (k : TrackKind). let track : PlainTrack = record { kind = k; scale = scale; lead = shift.lead; media_time = shift.media_time; samples = listed base rs } in Ok track) b.2)

-- Its sample entries are those that are read of its entry, alone in its box, at some place.
pub entries_back : (movie_scale scale base : ℕ) (shift : Shift) (trak : Piece) (h : BoxHead) (bytes : List ℕ) (kind : TrackKind) (rs : List Row)
    → heads_in movie_scale trak ≡ Ok (written_heads scale shift h bytes rs) → length (tiled (stbl_parts bytes rs)) < 2 ^ 32 - 8 → ReadsBack bytes kind → Tellable scale base rs
    → (p : TrackParts) × (parts_in movie_scale trak ≡ Ok p) × (at : ℕ) × (entries_of at (stsd_of bytes) ≡ Ok p.entries)
entries_back movie_scale scale base shift trak h bytes kind rs heads short back t =
    let at : ℕ = h.at + h.head in
    let b : (e : EntryAt) × (entries_of (at + 8) (stsd_of bytes) ≡ Ok (e ∷ [])) × (kind_of e.entry ≡ kind) = back (at + 8) in
    (written_parts scale shift h bytes b.0 rs, parts_back movie_scale scale base shift trak h bytes b.0 rs heads short b.1 t, at + 8, b.1)

-- How many samples its chunks have.
pub counts_back : (movie_scale scale base : ℕ) (shift : Shift) (trak : Piece) (h : BoxHead) (bytes : List ℕ) (kind : TrackKind) (rs : List Row)
    → heads_in movie_scale trak ≡ Ok (written_heads scale shift h bytes rs) → length (tiled (stbl_parts bytes rs)) < 2 ^ 32 - 8 → ReadsBack bytes kind → Tellable scale base rs
    → counts_in_trak movie_scale (Some trak) ≡ Some (counts_in_rows rs)
counts_back movie_scale scale base shift trak h bytes kind rs heads short back t =
    let at : ℕ = h.at + h.head in
    let b : (e : EntryAt) × (entries_of (at + 8) (stsd_of bytes) ≡ Ok (e ∷ [])) × (kind_of e.entry ≡ kind) = back (at + 8) in
    rw (parts_back movie_scale scale base shift trak h bytes b.0 rs heads short b.1 t)
    (ap (λ (ns : List ℕ). Some ns) (counts_told scale base (stts_place at bytes) (stsc_place at bytes rs) rs t))
