-- The samples of each track of a written file: all of them, chunk by chunk, and with times from the series' start.
use Rattle.std.proofs.Common.{◌≡◌, ℕ, zero, suc, ◌+◌, ◌-◌, ◌*◌, ◌/◌, ◌^◌, ◌<◌, ◌≤◌, List, [], ◌∷◌, ◌++◌, length, drop, map, Some, Ok, refl, sym, ap, ◌∙◌, subst, arith}
use Rattle.std.specs.List.{AllByRecursion, flat_map, slice_get}
use Rattle.std.proofs.lemmas.List.{append-nil, map-append, drop_all}
use Rattle.sf_box.specs.declared.types.BoxHead.{BoxHead}
use Rattle.sf_box.specs.Boxes.{box_of, wide_box, be32, be64}
use Rattle.sf_box.specs.Parts.{tiled, laid}
use Rattle.sf_tick.specs.Tick.{tick}
use Rattle.sf_tick.specs.declared.types.Stored.{Stored}
use Rattle.sf_tick.specs.declared.types.Chunk.{Chunk}
use Rattle.sf_entry.specs.declared.track_setup.TrackSetup.{TrackSetup}
use Rattle.sf_meaning.specs.Movie.{tracks_of, header_scale, only_moov}
use Rattle.sf_meaning.specs.Joined.{Held, content, begins_at, later, moved, joined}
use Rattle.sf_meaning.specs.Groups.{Group, counts_among, traks_in, chunk_counts, groups}
use Rattle.sf_meaning.specs.Rows.{held_as, timed}
use Rattle.sf_meaning.specs.Written.{held_since}
use Rattle.sf_meaning.specs.Stbl.{Timed, counts_in_rows}
use Rattle.sf_meaning.proofs.MeaningLaws.{since_start}
use Rattle.sf_layout.specs.Layout.{samples_of, stored_bytes, track_samples, track_rows, first_us, lead_of, movie_box, layout, tracks_of as held_tracks}
use Rattle.sf_layout.specs.Written.{first_tick, base_of, written_track, written_tracks, track_groups, start_in as file_start}
use Rattle.sf_layout.specs.Writable.{IsTimed, Rises, AllRise, WritableTrack, AllWritable, Writable}
use Rattle.sf_layout.proofs.Timing.{ticks_rise}
use Rattle.sf_layout.proofs.TrackRows.{rows_shown, rows_cut}
use Rattle.sf_layout.proofs.TracksBack.{trak_of, trak_list, counts_read, length-traks}
use Rattle.sf_layout.proofs.Payload.{payload_of}
use Rattle.sf_layout.proofs.Starts.{Begins, AllBegin, all_begin}
use Rattle.sf_layout.proofs.FileBack.{file_parts, moov_place, first_trak, MoovRead, moov_bounds, moov_pieces, moov_traks, moov_plain, moov_few, moov_scale, FileRead, file_of, layout_is, layout_read}

-- The track of a number among those that are written.
record TrackAt (start number t k : ℕ) (setups : List TrackSetup) (chunks : List Chunk) : Type 0 where
  setup : TrackSetup
  found : slice_get (written_tracks start number setups chunks) t ≡ Some (written_track start k setup chunks)
  writable : WritableTrack setup (track_samples k chunks)
  begins : Begins start (first_us (track_samples k chunks))

track_at : (start number t k : ℕ) (setups : List TrackSetup) (chunks : List Chunk) → number + t ≡ k → t < length setups → AllWritable number setups chunks → AllBegin start number setups chunks
    → TrackAt start number t k setups chunks
track_at start number t k [] chunks e lt w b = absurd (omega (arith, lt))
track_at start number zero k (setup ∷ setups) chunks e lt w b =
    let same : number ≡ k = omega (arith, e) in
    subst (λ (j : ℕ). TrackAt start number zero j (setup ∷ setups) chunks) same (record { setup = setup; found = refl; writable = w.0; begins = b.0 })
track_at start number (suc t) k (setup ∷ setups) chunks e lt w b =
    let more : TrackAt start (number + 1) t k setups chunks = track_at start (number + 1) t k setups chunks (omega (arith, e)) (omega (arith, lt)) w.1 b.1 in
    record { setup = more.setup; found = more.found; writable = more.writable; begins = more.begins }

-- the track of a number in a file
track_of : (t : ℕ) (setups : List TrackSetup) (chunks : List Chunk) → Writable setups chunks → t < length setups → TrackAt (file_start setups chunks) 0 t t setups chunks
track_of t setups chunks w lt = track_at (file_start setups chunks) 0 t t setups chunks (omega arith) lt w.each (all_begin 0 setups chunks)

-- the payload stands at 40
payload_at : (setups : List TrackSetup) (chunks : List Chunk) → drop 40 (layout setups chunks) ≡ stored_bytes (samples_of chunks) ++ movie_box (held_tracks setups chunks)
unfolding layout box_of wide_box be32 be64
payload_at setups chunks = refl

-- The content of a track: the samples of its chunks, each once, in order, with times from the track's first sample.
pub layout_content : (setups : List TrackSetup) (chunks : List Chunk) (t : ℕ) → Writable setups chunks → t < length setups
    → content (layout setups chunks) t ≡ Some (map (held_since (base_of t chunks)) (track_samples t chunks))
unfolding content
layout_content setups chunks t w lt =
    let k : TrackAt (file_start setups chunks) 0 t t setups chunks = track_of t setups chunks w lt in
    rw (layout_read setups chunks w, k.found)
    (ap (λ (hs : List Held). Some hs) (rows_shown (layout setups chunks) (base_of t chunks) t 40 chunks (movie_box (held_tracks setups chunks)) (payload_at setups chunks)))

-- ---- times from the series' start

-- the tick at which a track begins, by the file's start and the track's lead
abbrev begin_tick : ℕ → ℕ → List Stored → ℕ
begin_tick scale start ss = tick (start + lead_of start (first_us ss)) scale

begins_read : (setups : List TrackSetup) (chunks : List Chunk) (t : ℕ) (w : Writable setups chunks) (k : TrackAt (file_start setups chunks) 0 t t setups chunks)
    → begins_at (layout setups chunks) t ≡ Some (begin_tick k.setup.scale (file_start setups chunks) (track_samples t chunks))
unfolding begins_at
begins_read setups chunks t w k =
    let lead : ℕ = lead_of (file_start setups chunks) (first_us (track_samples t chunks)) in
    let same : lead * 1000000 / 1000000 ≡ lead = omega arith in
    rw (layout_read setups chunks w, k.found) (rw same refl)

-- the start and the lead make the first sample's time, exactly
exact : (scale start : ℕ) (s : Stored) (ss : List Stored) → IsTimed scale s → start ≤ s.dts_us → begin_tick scale start (s ∷ ss) ≡ s.decode
exact scale start s ss timed le =
    let same : start + (s.dts_us - start) ≡ s.dts_us = omega (arith, le) in
    ap (λ (us : ℕ). tick us scale) same ∙ sym timed.decode

-- no sample is decoded before the first
above_after : (scale base : ℕ) (s : Stored) (ss : List Stored) → base ≤ s.decode → IsTimed scale s → AllByRecursion (IsTimed scale) ss → Rises s ss
    → AllByRecursion (λ s. base ≤ s.decode) (map timed ss)
above_after scale base s [] le a all rise = tt
above_after scale base s (u ∷ us) le a all rise =
    let more : base ≤ u.decode = omega (arith, le, ticks_rise scale s u a all.0 rise.0) in
    (more, above_after scale base u us more all.0 all.1 rise.2)

later_back : (scale start : ℕ) (ss : List Stored) → AllByRecursion (IsTimed scale) ss → AllRise ss → Begins start (first_us ss)
    → later (begin_tick scale start ss) (map (held_since (first_tick ss)) ss) ≡ map held_as ss
later_back scale start [] all rise begins = refl
later_back scale start (s ∷ ss) all rise begins =
    let by : begin_tick scale start (s ∷ ss) ≡ s.decode = exact scale start s ss all.0 begins in
    let above : AllByRecursion (λ (u : Timed). s.decode ≤ u.decode) (map timed (s ∷ ss)) = (omega arith, above_after scale s.decode s ss (omega arith) all.0 all.1 rise) in
    ap (λ (b : ℕ). later b (map (held_since s.decode) (s ∷ ss))) by ∙ since_start s.decode (s ∷ ss) above

-- the content of a track, with times from the series' start
layout_moved : (setups : List TrackSetup) (chunks : List Chunk) (t : ℕ) → Writable setups chunks → t < length setups
    → moved (begins_at (layout setups chunks) t) (content (layout setups chunks) t) ≡ Some (map held_as (track_samples t chunks))
layout_moved setups chunks t w lt =
    let k : TrackAt (file_start setups chunks) 0 t t setups chunks = track_of t setups chunks w lt in
    rw (begins_read setups chunks t w k, layout_content setups chunks t w lt)
    (ap (λ (hs : List Held). Some hs) (later_back k.setup.scale (file_start setups chunks) (track_samples t chunks) k.writable.timed k.writable.rise k.begins))

-- The samples of a track of files that were laid out, joined in order, are those of their chunks, each once, in order.
pub layouts_joined : (setups : List TrackSetup) (files : List (List Chunk)) (t : ℕ) → AllByRecursion (Writable setups) files → t < length setups
    → joined (map (layout setups) files) t ≡ Some (map held_as (flat_map (track_samples t) files))
unfolding joined
layouts_joined setups [] t all lt = refl
layouts_joined setups (chunks ∷ files) t all lt =
    rw (layout_moved setups chunks t all.0 lt, layouts_joined setups files t all.1 lt)
    (ap (λ (hs : List Held). Some hs) (sym (map-append held_as (track_samples t chunks) (flat_map (track_samples t) files))))

-- so are those of one file
pub layout_joined : (setups : List TrackSetup) (chunks : List Chunk) (t : ℕ) → Writable setups chunks → t < length setups
    → joined (layout setups chunks ∷ []) t ≡ Some (map held_as (track_samples t chunks))
layout_joined setups chunks t w lt =
    layouts_joined setups (chunks ∷ []) t (w, tt) lt ∙ ap (λ (ss : List Stored). Some (map held_as ss)) (append-nil (track_samples t chunks))

begins_by : (scale start : ℕ) (ss : List Stored) → AllByRecursion (IsTimed scale) ss → Begins start (first_us ss) → 0 < length ss → begin_tick scale start ss ≡ first_tick ss
begins_by scale start [] all begins some = absurd (omega (arith, some))
begins_by scale start (s ∷ ss) all begins some = exact scale start s ss all.0 begins

-- The tick at which a track with samples begins is that of its first sample.
pub layout_begins : (setups : List TrackSetup) (chunks : List Chunk) (t : ℕ) → Writable setups chunks → t < length setups → 0 < length (track_samples t chunks)
    → begins_at (layout setups chunks) t ≡ Some (base_of t chunks)
layout_begins setups chunks t w lt some =
    let k : TrackAt (file_start setups chunks) 0 t t setups chunks = track_of t setups chunks w lt in
    begins_read setups chunks t w k ∙ ap (λ (b : ℕ). Some b) (begins_by k.setup.scale (file_start setups chunks) (track_samples t chunks) k.writable.timed k.begins some)

-- ---- by chunk

-- The box of the track of a number among those that are written.
record TrakAt (start number t k at : ℕ) (setups : List TrackSetup) (chunks : List Chunk) : Type 0 where
  setup : TrackSetup
  head : BoxHead
  found : slice_get (laid at (trak_list start number setups chunks)) t ≡ Some (record { head = head; body = trak_of start k setup chunks })
  writable : WritableTrack setup (track_samples k chunks)
  short : length (trak_of start k setup chunks) < 2 ^ 32 - 8

trak_at : (start number t k at : ℕ) (setups : List TrackSetup) (chunks : List Chunk) → number + t ≡ k → t < length setups → AllWritable number setups chunks
    → length (tiled (trak_list start number setups chunks)) < 2 ^ 32 - 8 → TrakAt start number t k at setups chunks
trak_at start number t k at [] chunks e lt w short = absurd (omega (arith, lt))
trak_at start number zero k at (setup ∷ setups) chunks e lt w short =
    let same : number ≡ k = omega (arith, e) in
    subst (λ (j : ℕ). TrakAt start number zero j at (setup ∷ setups) chunks) same
    (record { setup = setup; head = _; found = refl; writable = w.0; short = omega (arith, length-traks start number setup setups chunks, short) })
trak_at start number (suc t) k at (setup ∷ setups) chunks e lt w short =
    let next : ℕ = at + (8 + length (trak_of start number setup chunks)) in
    let more : TrakAt start (number + 1) t k next setups chunks =
    trak_at start (number + 1) t k next setups chunks (omega (arith, e)) (omega (arith, lt)) w.1 (omega (arith, length-traks start number setup setups chunks, short)) in
    record { setup = more.setup; head = more.head; found = more.found; writable = more.writable; short = more.short }

traks_read : (setups : List TrackSetup) (chunks : List Chunk) → Writable setups chunks
    → traks_in (file_parts setups chunks) ≡ Ok (1000000, laid (first_trak (moov_place chunks + 8) setups chunks) (trak_list (file_start setups chunks) 0 setups chunks))
unfolding traks_in only_moov tracks_of header_scale
traks_read setups chunks w =
    let f : FileRead setups chunks = file_of setups chunks w in
    let k : MoovRead setups chunks = moov_bounds setups chunks w in
    let at : ℕ = moov_place chunks + 8 in
    let few : drop 64 (laid (first_trak at setups chunks) (trak_list (file_start setups chunks) 0 setups chunks)) ≡ [] = drop_all 64 _ (moov_few at setups chunks w) in
    rw (f.boxes, f.small, moov_pieces at setups chunks k) (rw (moov_traks at setups chunks, moov_plain at setups chunks, few) (rw (moov_scale at setups chunks) refl))

-- how many samples each chunk of a track of the file has
pub layout_counts : (setups : List TrackSetup) (chunks : List Chunk) (t : ℕ) → Writable setups chunks → t < length setups
    → chunk_counts (layout setups chunks) t ≡ Some (counts_in_rows (track_rows t 40 chunks))
unfolding chunk_counts
layout_counts setups chunks t w lt =
    let start : ℕ = file_start setups chunks in
    let at : ℕ = first_trak (moov_place chunks + 8) setups chunks in
    let k : TrakAt start 0 t t at setups chunks = trak_at start 0 t t at setups chunks (omega arith) lt w.each (moov_bounds setups chunks w).traks_short in
    ap (λ (file : List ℕ). counts_among t (traks_in file)) (layout_is setups chunks)
    ∙ ap (counts_among t) (traks_read setups chunks w)
    ∙ rw k.found (counts_read start t k.setup chunks k.head w.filled (payload_of setups chunks w) k.writable k.short)

-- The groups of a track: the samples of each of its chunks, at the chunk's place.
pub layout_groups : (setups : List TrackSetup) (chunks : List Chunk) (t : ℕ) → Writable setups chunks → t < length setups
    → groups (layout setups chunks) t ≡ Some (track_groups (base_of t chunks) t 40 chunks)
unfolding groups
layout_groups setups chunks t w lt =
    let k : TrackAt (file_start setups chunks) 0 t t setups chunks = track_of t setups chunks w lt in
    let file : List ℕ = layout setups chunks in
    rw (layout_counts setups chunks t w lt, layout_read setups chunks w, k.found)
    (ap (λ (gs : List Group). Some gs) (rows_cut file (base_of t chunks) t 40 chunks (movie_box (held_tracks setups chunks)) w.filled (payload_at setups chunks)))
