-- Samples that follow one another have room in the tables.
use Rattle.std.proofs.Common.{◌≡◌, ℕ, ◌+◌, ◌-◌, ◌*◌, ◌^◌, ◌<◌, ◌≤◌, List, [], ◌∷◌, ◌++◌, length, map, sum, Option, Some, None, IfSome, refl, sym, ap, ◌∙◌, subst, arith}
use Rattle.std.proofs.lemmas.Bool.Decides.{nat_tests}
use Rattle.std.specs.List.{AllByRecursion}
use Rattle.std.proofs.lemmas.List.{map-append, length-append, length-map, append-nil}
use Rattle.std.proofs.lemmas.List.Concat.{flat_map-append}
use Rattle.std.proofs.lemmas.List.Sums.{sum_by-cons}
use Rattle.std.proofs.Math.Nat.{mul-le-mul_right, div-lt_iff_lt-mul}
use Rattle.sf_tick.specs.Tick.{tick}
use Rattle.sf_tick.proofs.TickLaws.{tick_rises}
use Rattle.sf_tick.specs.declared.types.Stored.{Stored}
use Rattle.sf_tick.specs.declared.types.Chunk.{Chunk}
use Rattle.sf_meaning.specs.Stbl.{Timed, Row, timed_of, ticks_of, differences, deltas_of, duration_in_rows}
use Rattle.sf_meaning.specs.Rows.{stored_bytes, timed, row_at}
use Rattle.sf_gather.specs.declared.given.LastSample.{LastSample}
use Rattle.sf_gather.specs.Accepting.{kept_of, last_from}
use Rattle.sf_gather.specs.Proper.{Follows, AllFollow}
use Rattle.sf_gather.proofs.GatherLaws.{last_from-append}
use Rattle.sf_tables.specs.Rows.{TrackTables, first_dts_with, with_chunk, last_tick, last_in_rows, HasRoom, AllHaveRoom, Addable}
use Rattle.sf_entry.specs.declared.track_setup.TrackSetup.{TrackSetup}
use Rattle.sf_layout.specs.Headers.{microseconds}
use Rattle.sf_layout.specs.Layout.{lead_of}
use Rattle.sf_file.specs.Open.{HeldTrack, Joins}
use Rattle.sf_file.specs.inner.Tracks.{KeptTrack}
use Rattle.sf_file.specs.inner.Sound.{last_ticks, IsTimed, SoundTrack}

abbrev pub decodes : List Timed → List ℕ
decodes ss = map (λ s. s.decode) ss

pub room_append : (last : Option ℕ) (xs ys : List Timed) → AllHaveRoom last xs → AllHaveRoom (last_tick last (decodes xs)) ys → AllHaveRoom last (xs ++ ys)
room_append last [] ys a b = b
room_append last (x ∷ xs) ys a b = (a.0, room_append (Some x.decode) xs ys a.1 b)

pub last_append : (last : Option ℕ) (xs ys : List ℕ) → last_tick last (xs ++ ys) ≡ last_tick (last_tick last xs) ys
last_append last [] ys = refl
last_append last (x ∷ xs) ys = last_append (Some x) xs ys

-- a sample that follows is timed as its track is
pub follows_timed : (scale : ℕ) (last : Option LastSample) (s : Stored) → Follows scale last s → IsTimed scale (kept_of s)
follows_timed scale last s f = record { early = f.time; decode = f.decode }

pub late_by : {scale : ℕ} {last : Option LastSample} {s : Stored} → Follows scale last s → s.compose < s.decode + 2 ^ 31
late_by f = let o = f.offset in grind (arith, nat_tests)

pub early_by : {scale : ℕ} {last : Option LastSample} {s : Stored} → Follows scale last s → s.decode ≤ s.compose + 2 ^ 31
early_by f = let o = f.offset in grind (arith, nat_tests)

one_room : (scale : ℕ) (last : Option LastSample) (s : Stored) → IfSome last (λ l. IsTimed scale l) → Follows scale last s → HasRoom (last_ticks last) (timed s)
one_room scale None s t f =
    record { rises = tt; near = tt; late = late_by f; early = early_by f; size = omega (arith, f.size) }
one_room scale (Some l) s t f =
    let rises : tick l.dts_us scale ≤ tick s.dts_us scale = tick_rises l.dts_us s.dts_us scale f.rises in
    record { rises = rw (t.decode, f.decode) rises; near = f.near; late = late_by f; early = early_by f; size = omega (arith, f.size) }

pub follow_room : (scale : ℕ) (last : Option LastSample) (ss : List Stored) → IfSome last (λ l. IsTimed scale l) → AllFollow scale last ss → AllHaveRoom (last_ticks last) (map timed ss)
follow_room scale last [] t f = tt
follow_room scale last (s ∷ ss) t f = (one_room scale last s t f.0, follow_room scale (Some (kept_of s)) ss (follows_timed scale last s f.0) f.1)

pub follow_last : (last : Option LastSample) (ss : List Stored) → last_ticks (last_from last ss) ≡ last_tick (last_ticks last) (decodes (map timed ss))
follow_last last [] = refl
follow_last last (s ∷ ss) = follow_last (Some (kept_of s)) ss

pub follow_timed : (scale : ℕ) (last : Option LastSample) (ss : List Stored) → IfSome last (λ l. IsTimed scale l) → AllFollow scale last ss → IfSome (last_from last ss) (λ l. IsTimed scale l)
follow_timed scale last [] t f = t
follow_timed scale last (s ∷ ss) t f = follow_timed scale (Some (kept_of s)) ss (follows_timed scale last s f.0) f.1

-- no sample is longer than 2 ^ 25 bytes
pub follow_short : (scale : ℕ) (last : Option LastSample) (ss : List Stored) → AllFollow scale last ss → AllByRecursion (λ s. length s.bytes ≤ 2 ^ 25) ss
follow_short scale last [] f = tt
follow_short scale last (s ∷ ss) f = (f.0.size, follow_short scale (Some (kept_of s)) ss f.1)

pub short_sum : (ss : List Stored) → AllByRecursion (λ s. length s.bytes ≤ 2 ^ 25) ss → length (stored_bytes ss) ≤ 2 ^ 25 * length ss
short_sum [] a = omega arith
short_sum (s ∷ ss) a = omega (arith, length-append s.bytes (stored_bytes ss), a.0, short_sum ss a.1)

-- the last tick of a list, or this one
abbrev pub last_or : ℕ → List ℕ → ℕ
last_or t [] = t
last_or t (u ∷ us) = last_or u us

abbrev pub tick_or_0 : Option ℕ → ℕ
tick_or_0 None = 0
tick_or_0 (Some t) = t

last_or_tick : (t : ℕ) (ts : List ℕ) → tick_or_0 (last_tick (Some t) ts) ≡ last_or t ts
last_or_tick t [] = refl
last_or_tick t (u ∷ us) = last_or_tick u us

-- the deltas sum to what lies between the first and the last tick, and the last delta again
sum_behind : (delta : ℕ) (s : Timed) (ss : List Timed) → delta < 2 ^ 32 → AllHaveRoom (Some s.decode) ss
    → sum (differences delta s.decode (decodes ss)) + s.decode ≤ last_or s.decode (decodes ss) + 2 ^ 32
sum_behind delta s [] lt r = omega (arith, sum_by-cons (λ (x : ℕ). x) delta [], lt)
sum_behind delta s (u ∷ us) lt r =
    let rises : s.decode ≤ u.decode = r.0.rises in
    let near : u.decode < s.decode + 2 ^ 32 = r.0.near in
    let rest = sum_behind (u.decode - s.decode) u us (omega (arith, rises, near)) r.1 in
    omega (arith, rises, rest, sum_by-cons (λ (x : ℕ). x) (u.decode - s.decode) (differences (u.decode - s.decode) u.decode (decodes us)))

duration_of_list : (ss : List Timed) → AllHaveRoom None ss → sum (deltas_of (decodes ss)) ≤ tick_or_0 (last_tick None (decodes ss)) + 2 ^ 32
duration_of_list [] r = omega arith
duration_of_list (s ∷ ss) r = omega (arith, sum_behind 0 s ss (omega arith) r.1, last_or_tick s.decode (decodes ss))

-- a track whose last sample is timed as it is isn't too long in microseconds
ticks_short : (scale t d : ℕ) → 1 ≤ scale → t ≤ 2 ^ 48 → d ≤ tick t scale + 2 ^ 32 → microseconds scale d < 2 ^ 62
ticks_short scale t d some le dle =
    let f : t * scale ≤ 2 ^ 48 * scale = mul-le-mul_right scale le in
    (div-lt_iff_lt-mul some).1 (omega (arith, f, dle, some))

pub rows_short : (scale : ℕ) (last : Option LastSample) (rows : List Row) → 1 ≤ scale → AllHaveRoom None (timed_of rows) → last_ticks last ≡ last_in_rows rows
    → IfSome last (λ l. IsTimed scale l) → microseconds scale (duration_in_rows rows) < 2 ^ 62
rows_short scale None rows some r e t =
    let d : duration_in_rows rows ≤ tick_or_0 (last_in_rows rows) + 2 ^ 32 = duration_of_list (timed_of rows) r in
    let z : tick_or_0 (last_in_rows rows) ≡ 0 = sym (ap tick_or_0 e) in
    ticks_short scale 0 (duration_in_rows rows) some (omega arith) (omega (arith, d, z))
rows_short scale (Some l) rows some r e t =
    let d : duration_in_rows rows ≤ tick_or_0 (last_in_rows rows) + 2 ^ 32 = duration_of_list (timed_of rows) r in
    let z : tick_or_0 (last_in_rows rows) ≡ l.decode = sym (ap tick_or_0 e) in
    let decode : l.decode ≡ tick l.dts_us scale = t.decode in
    ticks_short scale l.dts_us (duration_in_rows rows) some t.early (omega (arith, d, z, decode))

pub timed_of-append : (rows : List Row) (place : ℕ) (chunk : Chunk) → timed_of (with_chunk rows place chunk) ≡ timed_of rows ++ map timed chunk.samples
timed_of-append rows place chunk =
    flat_map-append (λ (r : Row). r.samples) rows (row_at place chunk ∷ []) ∙ ap (λ (ss : List Timed). timed_of rows ++ ss) (append-nil (map timed chunk.samples))

ticks_of-append : (rows : List Row) (place : ℕ) (chunk : Chunk) → ticks_of (with_chunk rows place chunk) ≡ ticks_of rows ++ decodes (map timed chunk.samples)
ticks_of-append rows place chunk =
    ap (λ (ss : List Timed). decodes ss) (timed_of-append rows place chunk) ∙ map-append (λ (s : Timed). s.decode) (timed_of rows) (map timed chunk.samples)

-- the first sample of samples that follow is early
first_in_time : (scale : ℕ) (last : Option LastSample) (first : Option ℕ) (ss : List Stored) → IfSome first (λ us. us ≤ 2 ^ 48) → AllFollow scale last ss
    → IfSome (first_dts_with first ss) (λ us. us ≤ 2 ^ 48)
first_in_time scale last None [] early f = tt
first_in_time scale last None (s ∷ ss) early f = f.0.time
first_in_time scale last (Some us) ss early f = early

-- a track of the file begins early
pub lead_short : (start_us : ℕ) (first : Option ℕ) → IfSome first (λ us. us ≤ 2 ^ 48) → lead_of start_us first ≤ 2 ^ 48
lead_short start_us None early = omega arith
lead_short start_us (Some us) early = omega (arith, early)

-- What holds of a track with one more chunk.
pub record Grows (setup : TrackSetup) (first : Option ℕ) (rows : List Row) (last : Option LastSample) (place : ℕ) (chunk : Chunk) : Type 0 where
  pub addable : Addable rows chunk
  pub early : IfSome (first_dts_with first chunk.samples) (λ us. us ≤ 2 ^ 48)
  pub room : AllHaveRoom None (timed_of (with_chunk rows place chunk))
  pub behind : last_ticks (last_from last chunk.samples) ≡ last_in_rows (with_chunk rows place chunk)
  pub timed : IfSome (last_from last chunk.samples) (λ l. IsTimed setup.scale l)
  pub count : length (timed_of (with_chunk rows place chunk)) ≡ length (timed_of rows) + length chunk.samples
  pub short : microseconds setup.scale (duration_in_rows (with_chunk rows place chunk)) < 2 ^ 62

pub grows : (t : HeldTrack) (place : ℕ) (chunk : Chunk) (tables : TrackTables) → tables.rows ≡ t.track.rows → tables.first_dts ≡ t.track.first → SoundTrack t.track.setup tables t.last → Joins t chunk
    → Grows t.track.setup t.track.first t.track.rows t.last place chunk
grows t place chunk tables same_rows same_first s j =
    let scale : ℕ = t.track.setup.scale in
    let rows : List Row = t.track.rows in
    let more : AllHaveRoom (last_ticks t.last) (map timed chunk.samples) = follow_room scale t.last chunk.samples s.timed j.follow in
    let ends : last_ticks t.last ≡ last_in_rows rows = s.behind ∙ ap last_in_rows same_rows in
    let behind_rows : AllHaveRoom (last_in_rows rows) (map timed chunk.samples) =
    subst (λ (u : Option ℕ). AllHaveRoom u (map timed chunk.samples)) ends more in
    let before : AllHaveRoom None (timed_of rows) = subst (λ (rs : List Row). AllHaveRoom None (timed_of rs)) same_rows s.room in
    let room : AllHaveRoom None (timed_of (with_chunk rows place chunk)) =
    subst (λ (ss : List Timed). AllHaveRoom None ss) (sym (timed_of-append rows place chunk)) (room_append None (timed_of rows) (map timed chunk.samples) before behind_rows) in
    let behind : last_ticks (last_from t.last chunk.samples) ≡ last_in_rows (with_chunk rows place chunk) =
    follow_last t.last chunk.samples
    ∙ ap (λ (u : Option ℕ). last_tick u (decodes (map timed chunk.samples))) ends
    ∙ sym (last_append None (ticks_of rows) (decodes (map timed chunk.samples)))
    ∙ sym (ap (λ (ts : List ℕ). last_tick None ts) (ticks_of-append rows place chunk)) in
    let last_timed : IfSome (last_from t.last chunk.samples) (λ l. IsTimed scale l) = follow_timed scale t.last chunk.samples s.timed j.follow in
    record {
      addable = record { some = j.some; room = behind_rows; few = j.few };
      early = first_in_time scale t.last t.track.first chunk.samples (subst (λ (f : Option ℕ). IfSome f (λ us. us ≤ 2 ^ 48)) same_first s.first) j.follow;
      room = room;
      behind = behind;
      timed = last_timed;
      count = ap length (timed_of-append rows place chunk) ∙ length-append (timed_of rows) (map timed chunk.samples)
          ∙ ap (λ (n : ℕ). length (timed_of rows) + n) (length-map chunk.samples timed);
      short = rows_short scale (last_from t.last chunk.samples) (with_chunk rows place chunk) s.ticks room behind last_timed;
    }

-- a track as it is kept, from its parts
abbrev pub kept : TrackSetup → TrackTables → Option LastSample → KeptTrack
kept setup tables last = record { held = record { track = record { setup = setup; first = tables.first_dts; rows = tables.rows }; last = last }; spare = tables.spare }

pub grows_seen : {setup : TrackSetup} {tables : TrackTables} {last : Option LastSample} {seen : KeptTrack} (place : ℕ) (chunk : Chunk) → kept setup tables last ≡ seen → SoundTrack setup tables last → Joins seen.held chunk
    → Grows setup tables.first_dts tables.rows last place chunk
grows_seen {setup} {tables} {last} {seen} place chunk e s j =
    grows (kept setup tables last).held place chunk tables refl refl s (subst (λ (k : KeptTrack). Joins k.held chunk) (sym e) j)

-- a track with one more chunk is sound
pub sound_more : {setup : TrackSetup} {tables after : TrackTables} {last last_after : Option LastSample} {seen : KeptTrack} (place : ℕ) (chunk : Chunk) → kept setup tables last ≡ seen → SoundTrack setup tables last → Joins seen.held chunk
    → after.rows ≡ with_chunk tables.rows place chunk → after.first_dts ≡ first_dts_with tables.first_dts chunk.samples → last_after ≡ last_from last chunk.samples
    → SoundTrack setup after last_after
sound_more {setup} {tables} {after} {last} {last_after} {seen} place chunk e s j rows first l =
    let g : Grows setup tables.first_dts tables.rows last place chunk = grows_seen place chunk e s j in
    let few : length (timed_of tables.rows) + length chunk.samples < 2 ^ 32 = g.addable.few in
    record {
      ticks = s.ticks;
      short = s.short;
      first = rw first g.early;
      room = rw rows g.room;
      behind = rw (rows, l) g.behind;
      timed = rw l g.timed;
      few = rw rows (omega (arith, g.count, few));
    }

pub last_more : (before : Option LastSample) (xs : List Stored) (s : Stored) → last_from before (xs ++ s ∷ []) ≡ Some (kept_of s)
last_more before xs s = last_from-append before xs (s ∷ [])
