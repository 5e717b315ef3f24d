-- What holds of an open file and of its tracks at every moment.
use Rattle.std.specs.Prelude.{◌≡◌, ℕ, ◌+◌, ◌*◌, ◌^◌, ◌<◌, ◌≤◌, List, length, sum_by, Option, Some, None, IfSome}
use Rattle.std.specs.List.{AllByRecursion}
use Rattle.sf_tick.specs.Tick.{tick}
use Rattle.sf_entry.specs.declared.track_setup.TrackSetup.{TrackSetup}
use Rattle.sf_meaning.specs.Stbl.{timed_of}
use Rattle.sf_layout.specs.Layout.{movie_box}
use Rattle.sf_gather.specs.declared.given.LastSample.{LastSample}
use Rattle.sf_tables.specs.Rows.{TrackTables, AllHaveRoom, last_in_rows}
use Rattle.sf_file.specs.Open.{HeldTrack, count_of, rows_in}

-- the ticks of the last sample
abbrev pub last_ticks : Option LastSample → Option ℕ
last_ticks None = None
last_ticks (Some last) = Some last.decode

-- the last sample is timed as its track is
pub record IsTimed (scale : ℕ) (last : LastSample) : Type 0 where
  pub early : last.dts_us ≤ 2 ^ 48
  pub decode : last.decode ≡ tick last.dts_us scale

-- What holds of a track of an open file.
pub record SoundTrack (setup : TrackSetup) (tables : TrackTables) (last : Option LastSample) : Type 0 where
  pub ticks : 1 ≤ setup.scale
  pub short : length setup.entry ≤ 2 ^ 27
  pub first : IfSome tables.first_dts (λ us. us ≤ 2 ^ 48)
  pub room : AllHaveRoom None (timed_of tables.rows)
  pub behind : last_ticks last ≡ last_in_rows tables.rows
  pub timed : IfSome last (λ l. IsTimed setup.scale l)
  pub few : length (timed_of tables.rows) < 2 ^ 32

-- a track has few enough samples, and how many all tracks have
abbrev pub HasFew : HeldTrack → Type 0
HasFew t = count_of t < 2 ^ 32

abbrev pub total : List HeldTrack → ℕ
total tracks = sum_by count_of tracks

-- What holds of an open file.
pub record Sound (tracks : List HeldTrack) (end size : ℕ) : Type 0 where
  pub most : length tracks ≤ 64
  pub few : AllByRecursion HasFew tracks
  pub near : end ≤ 40 + 2 ^ 25 * total tracks
  pub box : length (movie_box (rows_in tracks)) ≤ 2 ^ 28
  pub far : 40 ≤ end
  pub head : 40 ≤ size
