-- The track boxes of a written file are read back, each as the track of its chunks.
use Rattle.std.proofs.Common.{◌≡◌, ℕ, ◌+◌, ◌-◌, ◌^◌, ◌<◌, ◌≤◌, List, [], ◌∷◌, length, map, codes, Some, Ok, refl, sym, subst, arith}
use Rattle.std.specs.List.{AllByRecursion}
use Rattle.sf_box.specs.declared.types.BoxHead.{BoxHead}
use Rattle.sf_box.specs.Parts.{Part, tiled, laid}
use Rattle.sf_box.proofs.BoxLaws.{length-tiled-cons}
use Rattle.sf_tick.specs.declared.types.Stored.{Stored}
use Rattle.sf_tick.specs.declared.types.Chunk.{Chunk}
use Rattle.sf_entry.specs.Stsd.{entries_of, stsd_of}
use Rattle.sf_entry.specs.declared.track_setup.TrackSetup.{TrackSetup}
use Rattle.sf_meaning.specs.Groups.{counts_in_trak}
use Rattle.sf_meaning.specs.Tracks.{TrackParts, held_in, parts_in, track_in, tracks_in}
use Rattle.sf_meaning.specs.Stbl.{Row, counts_in_rows, stbl_parts}
use Rattle.sf_meaning.specs.Written.{listed}
use Rattle.sf_meaning.specs.Writable.{Tellable}
use Rattle.sf_meaning.proofs.MeaningLaws.{track_back, entries_back, counts_back}
use Rattle.sf_layout.specs.MovieBox.{trak_body, traks_from}
use Rattle.sf_layout.specs.Layout.{samples_of, stored_bytes, track_samples, track_rows, first_us, TrackRows, tracks_from, lead_of, stbl_of, head_of}
use Rattle.sf_layout.specs.Written.{kind_as, base_of, written_track, written_tracks}
use Rattle.sf_layout.specs.Writable.{IsTimed, WritableTrack, AllWritable}
use Rattle.sf_layout.specs.declared.heads.TrackHead.{TrackHead}
use Rattle.sf_layout.proofs.Parts.{parts_of_trak, trak_is}
use Rattle.sf_layout.proofs.HeadsBack.{HeadsRead, heads_read}
use Rattle.sf_layout.proofs.TrackRows.{rows_tellable, rows_held}

-- what a file of chunks holds of a track
abbrev pub held_of : ℕ → TrackSetup → List Chunk → TrackRows
held_of number setup chunks = record { setup = setup; first = first_us (track_samples number chunks); rows = track_rows number 40 chunks }

-- its box, in a file with this start
abbrev pub trak_of : ℕ → ℕ → TrackSetup → List Chunk → List ℕ
trak_of start number setup chunks = trak_body (number + 1) (head_of start (held_of number setup chunks)) (stbl_of (held_of number setup chunks))

-- the boxes of tracks, in a file with this start
abbrev pub trak_list : ℕ → ℕ → List TrackSetup → List Chunk → List Part
trak_list start number setups chunks = traks_from (number + 1) (map (head_of start) (tracks_from number setups chunks)) (map stbl_of (tracks_from number setups chunks))

-- What is known of chunks in a file of so many bytes.
pub record InFile (bytes : ℕ) (chunks : List Chunk) : Type 0 where
  pub filled : AllByRecursion (λ c. 0 < length c.samples) chunks
  pub payload : 40 + length (stored_bytes (samples_of chunks)) < 2 ^ 64
  pub whole : 40 + length (stored_bytes (samples_of chunks)) ≤ bytes

lead_early : (scale start : ℕ) (ss : List Stored) → AllByRecursion (IsTimed scale) ss → lead_of start (first_us ss) ≤ 2 ^ 48
lead_early scale start [] all = omega arith
lead_early scale start (s ∷ ss) all = omega (arith, all.0.early)

-- What is known of the box of a track.
record TrakRead (start number : ℕ) (setup : TrackSetup) (chunks : List Chunk) (h : BoxHead) : Type 0 where
  same : trak_of start number setup chunks ≡ tiled (parts_of_trak (number + 1) (head_of start (held_of number setup chunks)) setup.entry (track_rows number 40 chunks))
  heads : HeadsRead (record { head = h; body = trak_of start number setup chunks }) (head_of start (held_of number setup chunks)) (stbl_parts setup.entry (track_rows number 40 chunks))
  short : length (tiled (stbl_parts setup.entry (track_rows number 40 chunks))) < 2 ^ 32 - 8

trak_read : (start number : ℕ) (setup : TrackSetup) (chunks : List Chunk) (h : BoxHead) → WritableTrack setup (track_samples number chunks)
    → length (trak_of start number setup chunks) < 2 ^ 32 - 8 → TrakRead start number setup chunks h
trak_read start number setup chunks h w short =
    let head : TrackHead = head_of start (held_of number setup chunks) in
    let rs : List Row = track_rows number 40 chunks in
    let same : trak_of start number setup chunks ≡ tiled (parts_of_trak (number + 1) head setup.entry rs) = trak_is (number + 1) head setup.entry rs in
    let fits : length (tiled (parts_of_trak (number + 1) head setup.entry rs)) < 2 ^ 32 - 8 = subst (λ (b : List ℕ). length b < 2 ^ 32 - 8) same short in
    let both : HeadsRead (record { head = h; body = tiled (parts_of_trak (number + 1) head setup.entry rs) }) head (stbl_parts setup.entry rs) × (length (tiled (stbl_parts setup.entry rs)) < 2 ^ 32 - 8) =
    heads_read h (number + 1) head setup.entry rs fits (lead_early setup.scale start (track_samples number chunks) w.timed) w.scale_some w.scale_fits in
    record {
      same = same;
      heads = subst (λ (b : List ℕ). HeadsRead (record { head = h; body = b }) head (stbl_parts setup.entry rs)) (sym same) both.0;
      short = both.1;
    }

-- A track box is read as the track of its chunks.
track_read : (bytes start number : ℕ) (setup : TrackSetup) (chunks : List Chunk) (h : BoxHead) → InFile bytes chunks → WritableTrack setup (track_samples number chunks)
    → length (trak_of start number setup chunks) < 2 ^ 32 - 8
    → track_in bytes 1000000 number (record { head = h; body = trak_of start number setup chunks }) ≡ Ok (written_track start number setup chunks)
track_read bytes start number setup chunks h f w short =
    let k : TrakRead start number setup chunks h = trak_read start number setup chunks h w short in
    let base : ℕ = base_of number chunks in
    let rs : List Row = track_rows number 40 chunks in
    let t : Tellable setup.scale base rs = rows_tellable number 40 setup chunks f.filled w f.payload in
    let held : held_in bytes number 0 (listed base rs) ≡ Ok tt = rows_held bytes number base number 40 chunks f.whole w.each 0 in
    track_back bytes 1000000 number setup.scale base _ _ k.heads.0 setup.entry (kind_as setup.kind) rs k.heads.1 k.short w.entry.read t held

-- how many samples its chunks have
pub counts_read : (start number : ℕ) (setup : TrackSetup) (chunks : List Chunk) (h : BoxHead) → AllByRecursion (λ c. 0 < length c.samples) chunks
    → 40 + length (stored_bytes (samples_of chunks)) < 2 ^ 64 → WritableTrack setup (track_samples number chunks)
    → length (trak_of start number setup chunks) < 2 ^ 32 - 8
    → counts_in_trak 1000000 (Some (record { head = h; body = trak_of start number setup chunks })) ≡ Some (counts_in_rows (track_rows number 40 chunks))
counts_read start number setup chunks h filled payload w short =
    let k : TrakRead start number setup chunks h = trak_read start number setup chunks h w short in
    let t : Tellable setup.scale (base_of number chunks) (track_rows number 40 chunks) = rows_tellable number 40 setup chunks filled w payload in
    counts_back 1000000 setup.scale (base_of number chunks) _ _ k.heads.0 setup.entry (kind_as setup.kind) (track_rows number 40 chunks) k.heads.1 k.short w.entry.read t

-- its sample entries
pub entries_read : (start number : ℕ) (setup : TrackSetup) (chunks : List Chunk) (h : BoxHead) → AllByRecursion (λ c. 0 < length c.samples) chunks
    → 40 + length (stored_bytes (samples_of chunks)) < 2 ^ 64 → WritableTrack setup (track_samples number chunks)
    → length (trak_of start number setup chunks) < 2 ^ 32 - 8
    → (p : TrackParts) × (parts_in 1000000 (record { head = h; body = trak_of start number setup chunks }) ≡ Ok p) × (at : ℕ) × (entries_of at (stsd_of setup.entry) ≡ Ok p.entries)
entries_read start number setup chunks h filled payload w short =
    let k : TrakRead start number setup chunks h = trak_read start number setup chunks h w short in
    let t : Tellable setup.scale (base_of number chunks) (track_rows number 40 chunks) = rows_tellable number 40 setup chunks filled w payload in
    entries_back 1000000 setup.scale (base_of number chunks) _ _ k.heads.0 setup.entry (kind_as setup.kind) (track_rows number 40 chunks) k.heads.1 k.short w.entry.read t

pub length-traks : (start number : ℕ) (setup : TrackSetup) (setups : List TrackSetup) (chunks : List Chunk)
    → length (tiled (trak_list start number (setup ∷ setups) chunks)) ≡ 8 + length (trak_of start number setup chunks) + length (tiled (trak_list start (number + 1) setups chunks))
length-traks start number setup setups chunks = length-tiled-cons (codes "trak", trak_of start number setup chunks) (trak_list start (number + 1) setups chunks) refl

-- The track boxes are read as the tracks of their chunks.
pub tracks_read : (bytes start number at : ℕ) (setups : List TrackSetup) (chunks : List Chunk) → InFile bytes chunks → AllWritable number setups chunks
    → length (tiled (trak_list start number setups chunks)) < 2 ^ 32 - 8
    → tracks_in bytes 1000000 number (laid at (trak_list start number setups chunks)) ≡ Ok (written_tracks start number setups chunks)
unfolding tracks_in
tracks_read bytes start number at [] chunks f w short = refl
tracks_read bytes start number at (setup ∷ setups) chunks f w short =
    let long : length (tiled (trak_list start number (setup ∷ setups) chunks)) ≡ 8 + length (trak_of start number setup chunks) + length (tiled (trak_list start (number + 1) setups chunks)) =
    length-traks start number setup setups chunks in
    rw (
      track_read bytes start number setup chunks _ f w.0 (omega (arith, long, short)),
      tracks_read bytes start (number + 1) (at + (8 + length (trak_of start number setup chunks))) setups chunks f w.1 (omega (arith, long, short)),
    ) refl
