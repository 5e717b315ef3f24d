-- A file of few samples has a movie box that isn't too long.
use Rattle.std.proofs.Common.{◌≡◌, ℕ, zero, suc, ◌+◌, ◌*◌, ◌^◌, ◌≤◌, ◌<◌, ◌==◌, ◌⊎◌, Bool, true, false, cond, List, [], ◌∷◌, ◌++◌, length, map, refl, sym, ap, ◌∙◌, inl, inr, arith}
use Rattle.std.specs.List.{AllByRecursion}
use Rattle.std.proofs.lemmas.List.{length-append, length-map}
use Rattle.sf_tick.specs.declared.types.Kind.{Kind}
use Rattle.sf_tick.specs.declared.types.Kind.TheVariants.{Avc, Aac}
use Rattle.sf_tick.specs.declared.types.Stored.{Stored}
use Rattle.sf_tick.specs.declared.types.Chunk.{Chunk}
use Rattle.sf_entry.specs.declared.track_setup.TrackSetup.{TrackSetup}
use Rattle.sf_meaning.specs.Rows.{timed}
use Rattle.sf_meaning.specs.Stbl.{Row, timed_of}
use Rattle.sf_meaning.specs.WrittenHeaders.{is_long}
use Rattle.sf_layout.specs.Headers.{end_us, for_kind, longest}
use Rattle.sf_layout.specs.Layout.{TrackRows, first_us, head_of, movie_box, start_of, stbl_of, stored_bytes, track_rows, track_samples, tracks_from, tracks_of}
use Rattle.sf_layout.specs.declared.heads.TrackHead.{TrackHead}
use Rattle.sf_layout.proofs.LayoutLaws.{rows_timed, tracks_many}
use Rattle.sf_moov.specs.Heads.{HaveLengths}
use Rattle.sf_moov.specs.Lengths.{extra, moov_len, trak_len, traks_len}
use Rattle.sf_moov.proofs.BoxLengths.{length_moov}
use Rattle.sf_selftest.proofs.Bounds.{stbl_few}

bool_tells : (b : Bool) → (b ≡ true) ⊎ (b ≡ false)
bool_tells true = inl refl
bool_tells false = inr refl

-- a track has at most one chunk for each of its samples, where no chunk is empty
few_rows : (t at : ℕ) (chunks : List Chunk) → AllByRecursion (λ c. 0 < length c.samples) chunks → length (track_rows t at chunks) ≤ length (track_samples t chunks)
few_rows t at [] filled = omega arith
few_rows t at (c ∷ cs) filled =
    let rest = few_rows t (at + length (stored_bytes c.samples)) cs filled.1 in
    elim (bool_tells (c.track == t)) [
      | inl same ↦ rw same (omega (arith, rest, filled.0, length-append c.samples (track_samples t cs)))
      | inr other ↦ rw other rest
    ]

-- the sample tables of a track with few samples
few_tables : (number : ℕ) (setups : List TrackSetup) (chunks : List Chunk) → AllByRecursion (λ s. length s.entry ≤ 1000000) setups → AllByRecursion (λ c. 0 < length c.samples) chunks
    → ((t : ℕ) → length (track_samples t chunks) ≤ 200000) → AllByRecursion (λ t. length (stbl_of t) ≤ 10000000) (tracks_from number setups chunks)
few_tables number [] chunks entries filled few = tt
few_tables number (setup ∷ setups) chunks entries filled few =
    let rows : List Row = track_rows number 40 chunks in
    let timed_are = ap (λ (ss : List _). length ss) (rows_timed number 40 chunks) ∙ length-map (track_samples number chunks) timed in
    (omega (arith, stbl_few setup.entry rows, entries.0, timed_are, few number, few_rows number 40 chunks filled), few_tables (number + 1) setups chunks entries.1 filled few)

extra_few : (duration : ℕ) → extra duration ≤ 12
extra_few duration = elim (bool_tells (is_long duration)) [ inl t ↦ rw t (omega arith) | inr f ↦ rw f (omega arith) ]

kind_few : (kind : Kind) → for_kind kind 20 16 ≤ 20
kind_few Avc = omega arith
kind_few Aac = omega arith

edits_few : (b : Bool) → cond b 0 64 ≤ 64
edits_few true = omega arith
edits_few false = omega arith

trak_few : (head : TrackHead) → trak_len head ≤ 337 + head.stbl_len
trak_few head = omega (arith, kind_few head.kind, edits_few (head.lead_us == 0), extra_few (end_us head), extra_few head.duration)

traks_few : (start : ℕ) (tracks : List TrackRows) → AllByRecursion (λ t. length (stbl_of t) ≤ 10000000) tracks → traks_len (map (head_of start) tracks) ≤ 10000337 * length tracks
traks_few start [] few = omega arith
traks_few start (t ∷ tracks) few =
    let rest : traks_len (map (head_of start) tracks) ≤ 10000337 * length tracks = traks_few start tracks few.1 in
    let one : trak_len (head_of start t) ≤ 337 + length (stbl_of t) = trak_few (head_of start t) in
    omega (arith, rest, one, few.0)

have_lengths : (start : ℕ) (tracks : List TrackRows) → HaveLengths (map (head_of start) tracks) (map stbl_of tracks)
have_lengths start [] = tt
have_lengths start (t ∷ tracks) = (refl, have_lengths start tracks)

-- at most eight tracks of at most 200,000 samples each
pub movie_few : (setups : List TrackSetup) (chunks : List Chunk) → length setups ≤ 8 → AllByRecursion (λ s. length s.entry ≤ 1000000) setups → AllByRecursion (λ c. 0 < length c.samples) chunks
    → ((t : ℕ) → length (track_samples t chunks) ≤ 200000) → length (movie_box (tracks_of setups chunks)) ≤ 2 ^ 28
unfolding movie_box
movie_few setups chunks eight entries filled few =
    let tracks : List TrackRows = tracks_of setups chunks in
    let start : ℕ = start_of tracks in
    let whole = length_moov (map (head_of start) tracks) start (map stbl_of tracks) (have_lengths start tracks) in
    let many : length tracks ≡ length setups = tracks_many setups chunks in
    omega (arith, whole, many, eight, extra_few (longest (map (head_of start) tracks)), traks_few start tracks (few_tables 0 setups chunks entries filled few))
