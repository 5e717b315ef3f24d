-- A file of several tracks is read back as the movie of its chunks.
use Rattle.std.proofs.Common.{◌≡◌, ℕ, suc, ◌+◌, ◌-◌, ◌^◌, ◌<◌, ◌≤◌, nat_le, true, false, List, [], ◌∷◌, ◌++◌, length, drop, map, codes, Some, None, Ok, refl, ap, ◌∙◌, arith, lit<, lit≤}
use Rattle.std.specs.List.{AllByRecursion}
use Rattle.std.specs.Str.{bytes_eq}
use Rattle.std.proofs.lemmas.List.{length-append, drop_all}
use Rattle.std.proofs.lemmas.Bool.{le-leb}
use Rattle.sf_box.specs.declared.types.BoxHead.{BoxHead}
use Rattle.sf_box.specs.Boxes.{Piece, boxes, box_of, wide_box}
use Rattle.sf_box.specs.Parts.{Part, tiled, laid, Fits, child_piece}
use Rattle.sf_box.proofs.BoxLaws.{length-box_of, length-wide_box, boxes_box, boxes_wide, boxes_tiled, laid-append, tiled-append, length-tiled-cons}
use Rattle.sf_tick.specs.declared.types.Chunk.{Chunk}
use Rattle.sf_entry.specs.declared.track_setup.TrackSetup.{TrackSetup}
use Rattle.sf_meaning.specs.Steps.{of_kind}
use Rattle.sf_meaning.specs.Headers.{timescale_in, start_in}
use Rattle.sf_meaning.specs.Tracks.{tracks_in}
use Rattle.sf_meaning.specs.Movie.{tracks_of, header_scale, in_moov, movie_in, only_moov, movie}
use Rattle.sf_layout.specs.Headers.{ftyp_body, longest, mvhd_body}
use Rattle.sf_meaning.specs.WrittenHeaders.{in_udta}
use Rattle.sf_meaning.specs.declared.movie.PlainTrack.{PlainTrack}
use Rattle.sf_meaning.proofs.MeaningLaws.{kinds_fit, scale_read, start_read}
use Rattle.sf_layout.specs.MovieBox.{trak_body, traks_from, moov_of, in_moov as moov_holds}
use Rattle.sf_layout.specs.Layout.{samples_of, stored_bytes, stbl_of, head_of, movie_box, layout, tracks_of as held_tracks}
use Rattle.sf_layout.specs.Written.{start_in as file_start, written_tracks, written_movie}
use Rattle.sf_layout.specs.Writable.{Writable}
use Rattle.sf_layout.specs.declared.heads.TrackHead.{TrackHead}
use Rattle.sf_meaning.proofs.ListLemmas.{all-append}
use Rattle.sf_layout.proofs.Parts.{tiled_one}
use Rattle.sf_layout.proofs.HeadsBack.{Kinds}
use Rattle.sf_layout.proofs.TracksBack.{trak_list, InFile, tracks_read}
use Rattle.sf_layout.proofs.Payload.{payload_of}
use Rattle.sf_layout.proofs.Starts.{start_early}

-- the movie header, in either version
mvhd_read : (h : BoxHead) (tracks movie_us : ℕ) → timescale_in (record { head = h; body = mvhd_body tracks movie_us }) ≡ Ok 1000000
unfolding mvhd_body
mvhd_read h tracks movie_us = scale_read h movie_us 1000000 _ (lit≤ tt) (lit< tt)

-- the boxes of tracks are of no other type
traks_kinds : (number : ℕ) (heads : List TrackHead) (stbls : List (List ℕ)) → Kinds (traks_from number heads stbls)
traks_kinds number [] stbls = tt
traks_kinds number (head ∷ heads) [] = tt
traks_kinds number (head ∷ heads) (stbl ∷ stbls) = (refl, traks_kinds (number + 1) heads stbls)

skip_traks : (kind : List ℕ) (number at : ℕ) (heads : List TrackHead) (stbls : List (List ℕ)) (rest : List Piece) → bytes_eq (codes "trak") kind ≡ false
    → child_piece (laid at (traks_from number heads stbls) ++ rest) kind ≡ child_piece rest kind
skip_traks kind number at [] stbls rest other = refl
skip_traks kind number at (head ∷ heads) [] rest other = refl
skip_traks kind number at (head ∷ heads) (stbl ∷ stbls) rest other = rw other (skip_traks kind (number + 1) _ heads stbls rest other)

-- a box at a place
abbrev piece_at : ℕ → Part → Piece
piece_at at p = record { head = record { kind = record { 0 = p.0 }; at = at; head = 8; size = 8 + length p.1 }; body = p.1 }

only_traks : (number at : ℕ) (heads : List TrackHead) (stbls : List (List ℕ)) (rest : List Piece) → of_kind (codes "trak") rest ≡ []
    → of_kind (codes "trak") (laid at (traks_from number heads stbls) ++ rest) ≡ laid at (traks_from number heads stbls)
only_traks number at [] stbls rest none = none
only_traks number at (head ∷ heads) [] rest none = none
only_traks number at (head ∷ heads) (stbl ∷ stbls) rest none =
    let body : List ℕ = trak_body number head stbl in
    ap (λ (ps : List Piece). piece_at at (codes "trak", body) ∷ ps) (only_traks (number + 1) (at + (8 + length body)) heads stbls rest none)

few_traks : (start number at : ℕ) (setups : List TrackSetup) (chunks : List Chunk) → length (laid at (trak_list start number setups chunks)) ≡ length setups
few_traks start number at [] chunks = refl
few_traks start number at (setup ∷ setups) chunks = ap suc (few_traks start (number + 1) _ setups chunks)

-- the boxes of a movie box
abbrev pub parts_of_moov : List TrackSetup → List Chunk → List Part
parts_of_moov setups chunks = moov_holds (map (head_of (file_start setups chunks)) (held_tracks setups chunks)) (file_start setups chunks) (map stbl_of (held_tracks setups chunks))

movie_box_is : (setups : List TrackSetup) (chunks : List Chunk) → movie_box (held_tracks setups chunks) ≡ box_of (codes "moov") (tiled (parts_of_moov setups chunks))
unfolding movie_box moov_of
movie_box_is setups chunks = refl

-- a movie by its boxes
movie_by : (body : List ℕ) (at bytes scale start : ℕ) (ps traks : List Piece) (mvhd udta : Piece) (tracks : List PlainTrack)
    → in_moov body at ≡ Ok ps → of_kind (codes "trak") ps ≡ traks → child_piece ps (codes "cmov") ≡ None → length traks ≤ 64
    → child_piece ps (codes "mvhd") ≡ Some mvhd → timescale_in mvhd ≡ Ok scale → child_piece ps (codes "udta") ≡ Some udta → start_in (Some udta) ≡ start
    → tracks_in bytes scale 0 traks ≡ Ok tracks
    → movie_in body at bytes ≡ Ok (record { scale = scale; start_us = start; tracks = tracks })
unfolding movie_in tracks_of header_scale
movie_by body at bytes scale start ps traks mvhd udta tracks inside only plain few has_mvhd timescale has_udta starts read =
    let none : drop 64 traks ≡ [] = drop_all 64 traks few in
    rw (inside, only, plain, none, has_mvhd) (rw (timescale, read, has_udta, starts) refl)

-- What is known of the movie box of writable chunks.
pub record MoovRead (setups : List TrackSetup) (chunks : List Chunk) : Type 0 where
  pub traks_short : length (tiled (trak_list (file_start setups chunks) 0 setups chunks)) < 2 ^ 32 - 8
  pub traks : AllByRecursion Fits (trak_list (file_start setups chunks) 0 setups chunks)
  pub all : AllByRecursion Fits (parts_of_moov setups chunks)
  pub short : 8 + length (tiled (parts_of_moov setups chunks)) ≤ 268435456

pub moov_bounds : (setups : List TrackSetup) (chunks : List Chunk) → Writable setups chunks → MoovRead setups chunks
moov_bounds setups chunks w =
    let start : ℕ = file_start setups chunks in
    let heads : List TrackHead = map (head_of start) (held_tracks setups chunks) in
    let stbls : List (List ℕ) = map stbl_of (held_tracks setups chunks) in
    let traks : List Part = trak_list start 0 setups chunks in
    let udta : List Part = (codes "udta", tiled (in_udta start)) ∷ [] in
    let mvhd : Part = (codes "mvhd", mvhd_body (length heads) (longest heads)) in
    let kinds : Kinds traks = traks_kinds 1 heads stbls in
    let short : 8 + length (tiled (parts_of_moov setups chunks)) ≤ 268435456 =
    omega (arith, w.moov, ap (λ (b : List ℕ). length b) (movie_box_is setups chunks), length-box_of (codes "moov") (tiled (parts_of_moov setups chunks)) refl) in
    let first : length (tiled (parts_of_moov setups chunks)) ≡ 8 + length mvhd.1 + length (tiled (traks ++ udta)) = length-tiled-cons mvhd (traks ++ udta) refl in
    let both : length (tiled (traks ++ udta)) ≡ length (tiled traks) + length (tiled udta) = ap (λ (b : List ℕ). length b) (tiled-append traks udta) ∙ length-append (tiled traks) (tiled udta) in
    let few : length (tiled traks) < 2 ^ 32 - 8 = omega (arith, short, first, both) in
    record {
      traks_short = few;
      traks = kinds_fit traks kinds few;
      all = kinds_fit (parts_of_moov setups chunks) (refl, all-append (λ (p : Part). length p.0 ≡ 4) traks udta kinds (refl, tt)) (omega (arith, short));
      short = short;
    }

-- where the boxes of a movie box stand whose body begins at a place
abbrev pub first_trak : ℕ → List TrackSetup → List Chunk → ℕ
first_trak at setups chunks =
    at + (8 + length (mvhd_body (length (map (head_of (file_start setups chunks)) (held_tracks setups chunks))) (longest (map (head_of (file_start setups chunks)) (held_tracks setups chunks)))))

abbrev pub pieces_of : ℕ → List TrackSetup → List Chunk → List Piece
pieces_of at setups chunks =
    let start : ℕ = file_start setups chunks in
    let heads : List TrackHead = map (head_of start) (held_tracks setups chunks) in
    let traks : List Part = trak_list start 0 setups chunks in
    let one : ℕ = first_trak at setups chunks in
    piece_at at (codes "mvhd", mvhd_body (length heads) (longest heads)) ∷ (laid one traks ++ (piece_at (one + length (tiled traks)) (codes "udta", tiled (in_udta start)) ∷ []))

pub moov_pieces : (at : ℕ) (setups : List TrackSetup) (chunks : List Chunk) → MoovRead setups chunks → in_moov (tiled (parts_of_moov setups chunks)) at ≡ Ok (pieces_of at setups chunks)
moov_pieces at setups chunks k =
    let start : ℕ = file_start setups chunks in
    let heads : List TrackHead = map (head_of start) (held_tracks setups chunks) in
    let mvhd : Piece = piece_at at (codes "mvhd", mvhd_body (length heads) (longest heads)) in
    let traks : List Part = trak_list start 0 setups chunks in
    let udta : List Part = (codes "udta", tiled (in_udta start)) ∷ [] in
    rw (boxes_tiled false at (parts_of_moov setups chunks) k.all)
    (ap (λ (ps : List Piece). let all : List Piece = mvhd ∷ ps in Ok all) (laid-append (first_trak at setups chunks) traks udta k.traks))

-- the tracks among them
pub moov_traks : (at : ℕ) (setups : List TrackSetup) (chunks : List Chunk)
    → of_kind (codes "trak") (pieces_of at setups chunks) ≡ laid (first_trak at setups chunks) (trak_list (file_start setups chunks) 0 setups chunks)
moov_traks at setups chunks =
    only_traks 1 (first_trak at setups chunks) (map (head_of (file_start setups chunks)) (held_tracks setups chunks)) (map stbl_of (held_tracks setups chunks)) _ refl

-- none of them is compressed, there are at most 64 tracks, and the header says microseconds
pub moov_plain : (at : ℕ) (setups : List TrackSetup) (chunks : List Chunk) → child_piece (pieces_of at setups chunks) (codes "cmov") ≡ None
moov_plain at setups chunks =
    skip_traks (codes "cmov") 1 (first_trak at setups chunks) (map (head_of (file_start setups chunks)) (held_tracks setups chunks)) (map stbl_of (held_tracks setups chunks)) _ refl

pub moov_few : (at : ℕ) (setups : List TrackSetup) (chunks : List Chunk) → Writable setups chunks
    → length (laid (first_trak at setups chunks) (trak_list (file_start setups chunks) 0 setups chunks)) ≤ 64
moov_few at setups chunks w = omega (arith, few_traks (file_start setups chunks) 0 (first_trak at setups chunks) setups chunks, w.tracks)

-- where the header stands
abbrev pub header_at : ℕ → List TrackSetup → List Chunk → Piece
header_at at setups chunks =
    let heads : List TrackHead = map (head_of (file_start setups chunks)) (held_tracks setups chunks) in
    piece_at at (codes "mvhd", mvhd_body (length heads) (longest heads))

pub moov_scale : (at : ℕ) (setups : List TrackSetup) (chunks : List Chunk) → timescale_in (header_at at setups chunks) ≡ Ok 1000000
moov_scale at setups chunks = mvhd_read _ _ _

moov_read : (at bytes : ℕ) (setups : List TrackSetup) (chunks : List Chunk) → Writable setups chunks → InFile bytes chunks
    → movie_in (tiled (parts_of_moov setups chunks)) at bytes ≡ Ok (written_movie setups chunks)
moov_read at bytes setups chunks w f =
    let start : ℕ = file_start setups chunks in
    let heads : List TrackHead = map (head_of start) (held_tracks setups chunks) in
    let stbls : List (List ℕ) = map stbl_of (held_tracks setups chunks) in
    let traks : List Part = trak_list start 0 setups chunks in
    let one : ℕ = first_trak at setups chunks in
    let udta : Piece = piece_at (one + length (tiled traks)) (codes "udta", tiled (in_udta start)) in
    let k : MoovRead setups chunks = moov_bounds setups chunks w in
    let early : start ≤ 2 ^ 48 = start_early 0 setups chunks w.each in
    movie_by (tiled (parts_of_moov setups chunks)) at bytes 1000000 start (pieces_of at setups chunks) (laid one traks) (header_at at setups chunks) udta (written_tracks start 0 setups chunks)
    (moov_pieces at setups chunks k) (moov_traks at setups chunks) (moov_plain at setups chunks) (moov_few at setups chunks w) refl (moov_scale at setups chunks) (skip_traks (codes "udta") 1 one heads stbls (udta ∷ []) refl) (start_read udta.head start (omega (arith, early)))
    (tracks_read bytes start 0 one setups chunks f w.each k.traks_short)

-- the file of chunks, by its boxes
abbrev pub file_parts : List TrackSetup → List Chunk → List ℕ
file_parts setups chunks =
    box_of (codes "ftyp") ftyp_body
    ++ (wide_box (codes "mdat") (stored_bytes (samples_of chunks)) ++ tiled ((codes "moov", tiled (parts_of_moov setups chunks)) ∷ []))

pub layout_is : (setups : List TrackSetup) (chunks : List Chunk) → layout setups chunks ≡ file_parts setups chunks
unfolding layout
layout_is setups chunks = rw (movie_box_is setups chunks, tiled_one (codes "moov", tiled (parts_of_moov setups chunks))) refl

abbrev pub moov_place : List Chunk → ℕ
moov_place chunks = 24 + (16 + length (stored_bytes (samples_of chunks)))

-- What is known of the file of writable chunks.
pub record FileRead (setups : List TrackSetup) (chunks : List Chunk) : Type 0 where
  pub long : 40 + length (stored_bytes (samples_of chunks)) ≤ length (file_parts setups chunks)
  pub small : nat_le (8 + length (tiled (parts_of_moov setups chunks))) 268435456 ≡ true
  pub boxes : boxes true 0 (file_parts setups chunks)
      ≡ Ok (record { head = record { kind = record { 0 = codes "ftyp" }; at = 0; head = 8; size = 24 }; body = ftyp_body }
      ∷ record { head = record { kind = record { 0 = codes "mdat" }; at = 24; head = 16; size = 16 + length (stored_bytes (samples_of chunks)) }; body = stored_bytes (samples_of chunks) }
      ∷ laid (moov_place chunks) ((codes "moov", tiled (parts_of_moov setups chunks)) ∷ []))

pub file_of : (setups : List TrackSetup) (chunks : List Chunk) → Writable setups chunks → FileRead setups chunks
file_of setups chunks w =
    let k : MoovRead setups chunks = moov_bounds setups chunks w in
    let moov : List Part = (codes "moov", tiled (parts_of_moov setups chunks)) ∷ [] in
    let payload : List ℕ = stored_bytes (samples_of chunks) in
    let ftyp : length ftyp_body < 2 ^ 32 - 8 = lit< tt in
    let wide : 16 + length payload < 2 ^ 64 = omega (arith, payload_of setups chunks w) in
    let fits : AllByRecursion Fits moov = (record { kind = refl; body = omega (arith, k.short) }, tt) in
    record {
      long = omega (
        arith,
        length-append (box_of (codes "ftyp") ftyp_body) (wide_box (codes "mdat") payload ++ tiled moov),
        length-append (wide_box (codes "mdat") payload) (tiled moov),
        length-box_of (codes "ftyp") ftyp_body refl,
        length-wide_box (codes "mdat") payload refl,
      );
      small = le-leb (8 + length (tiled (parts_of_moov setups chunks))) 268435456 k.short;
      boxes = boxes_box true 0 (codes "ftyp") ftyp_body (wide_box (codes "mdat") payload ++ tiled moov) refl ftyp
          ∙ rw (boxes_wide true 24 (codes "mdat") payload (tiled moov) refl wide, boxes_tiled true (moov_place chunks) moov fits) refl;
    }

file_read : (setups : List TrackSetup) (chunks : List Chunk) → Writable setups chunks → movie (file_parts setups chunks) ≡ Ok (written_movie setups chunks)
unfolding movie only_moov
file_read setups chunks w =
    let k : FileRead setups chunks = file_of setups chunks w in
    let f : InFile (length (file_parts setups chunks)) chunks = record { filled = w.filled; payload = payload_of setups chunks w; whole = k.long } in
    rw (k.boxes, k.small, moov_read (moov_place chunks + 8) (length (file_parts setups chunks)) setups chunks w f) refl

-- A file that was laid out is the movie of its chunks.
pub layout_read : (setups : List TrackSetup) (chunks : List Chunk) → Writable setups chunks → movie (layout setups chunks) ≡ Ok (written_movie setups chunks)
layout_read setups chunks w = ap movie (layout_is setups chunks) ∙ file_read setups chunks w
