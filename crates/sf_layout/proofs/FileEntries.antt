-- The sample entries of a written file are those of its setups.
use Rattle.std.proofs.Common.{◌≡◌, ℕ, ◌+◌, ◌-◌, ◌^◌, ◌<◌, List, [], ◌∷◌, length, drop, codes, Ok, refl, ap, ◌∙◌, arith}
use Rattle.std.specs.List.{AllByRecursion}
use Rattle.std.proofs.lemmas.List.{drop_all}
use Rattle.sf_box.specs.declared.types.BoxHead.{BoxHead}
use Rattle.sf_box.specs.Parts.{tiled, laid}
use Rattle.sf_tick.specs.declared.types.Chunk.{Chunk}
use Rattle.sf_entry.specs.declared.types.EntryAt.{EntryAt}
use Rattle.sf_entry.specs.declared.track_setup.TrackSetup.{TrackSetup}
use Rattle.sf_meaning.specs.Entries.{moov_entries, movie_entries, trak_entries}
use Rattle.sf_meaning.specs.Movie.{header_scale, only_moov, tracks_of}
use Rattle.sf_layout.specs.Layout.{layout, samples_of, stored_bytes}
use Rattle.sf_layout.specs.Written.{HaveEntries, start_in as file_start}
use Rattle.sf_layout.specs.Writable.{AllWritable, Writable}
use Rattle.sf_layout.proofs.Payload.{payload_of}
use Rattle.sf_layout.proofs.TracksBack.{entries_read, length-traks, trak_list, trak_of}
use Rattle.sf_layout.proofs.FileBack.{FileRead, MoovRead, file_of, file_parts, first_trak, layout_is, moov_bounds, moov_few, moov_pieces, moov_place, moov_plain, moov_scale, moov_traks}

-- the sample entries of the track boxes
traks_have : (start number at : ℕ) (setups : List TrackSetup) (chunks : List Chunk) → AllByRecursion (λ c. 0 < length c.samples) chunks → 40 + length (stored_bytes (samples_of chunks)) < 2 ^ 64
    → AllWritable number setups chunks → length (tiled (trak_list start number setups chunks)) < 2 ^ 32 - 8
    → (es : List (List EntryAt)) × (trak_entries 1000000 (laid at (trak_list start number setups chunks)) ≡ Ok es) × HaveEntries setups es
unfolding trak_entries
traks_have start number at [] chunks filled payload w short = ([], refl, tt)
traks_have start number at (setup ∷ setups) chunks filled payload w short =
    let body : List ℕ = trak_of start number setup chunks in
    let head : BoxHead = record { kind = record { 0 = codes "trak" }; at = at; head = 8; size = 8 + length body } in
    let long : length (tiled (trak_list start number (setup ∷ setups) chunks)) ≡ 8 + length body + length (tiled (trak_list start (number + 1) setups chunks)) = length-traks start number setup setups chunks in
    let one = entries_read start number setup chunks head filled payload w.0 (omega (arith, long, short)) in
    let rest = traks_have start (number + 1) (at + (8 + length body)) setups chunks filled payload w.1 (omega (arith, long, short)) in
    (one.0.entries ∷ rest.0, rw (one.1, rest.1) refl, ((one.2, one.3), rest.2))

-- Each track of a file that was laid out has the sample entries of its setup.
pub layout_entries : (setups : List TrackSetup) (chunks : List Chunk) → Writable setups chunks
    → (entries : List (List EntryAt)) × (movie_entries (layout setups chunks) ≡ Ok entries) × HaveEntries setups entries
unfolding movie_entries moov_entries only_moov tracks_of header_scale
layout_entries setups chunks w =
    let f : FileRead setups chunks = file_of setups chunks w in
    let k : MoovRead setups chunks = moov_bounds setups chunks w in
    let at : ℕ = moov_place chunks + 8 in
    let start : ℕ = file_start setups chunks in
    let one : ℕ = first_trak at setups chunks in
    let few : drop 64 (laid one (trak_list start 0 setups chunks)) ≡ [] = drop_all 64 _ (moov_few at setups chunks w) in
    let read = traks_have start 0 one setups chunks w.filled (payload_of setups chunks w) w.each k.traks_short in
    let whole : movie_entries (file_parts setups chunks) ≡ Ok read.0 =
    rw (f.boxes, f.small, moov_pieces at setups chunks k) (rw (moov_traks at setups chunks, moov_plain at setups chunks, few) (rw (moov_scale at setups chunks, read.1) refl)) in
    (read.0, ap movie_entries (layout_is setups chunks) ∙ whole, read.2)
