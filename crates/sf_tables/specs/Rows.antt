-- The rows of a track's tables as chunks are added.
use Rattle.std.specs.Prelude.{ℕ, ◌+◌, ◌^◌, ◌<◌, ◌≤◌, List, [], ◌∷◌, ◌++◌, length, map, Option, Some, None, IfSome}
use Rattle.sf_tick.specs.declared.types.Stored.{Stored}
use Rattle.sf_tick.specs.declared.types.Chunk.{Chunk}
use Rattle.sf_meaning.specs.Stbl.{Timed, Row, timed_of, ticks_of}
use Rattle.sf_meaning.specs.Rows.{row_at, timed}

-- the rows with one more chunk at the end
abbrev pub with_chunk : List Row → ℕ → Chunk → List Row
with_chunk rows place chunk = rows ++ row_at place chunk ∷ []

-- the last tick of a list that stands after an earlier one
abbrev pub last_tick : Option ℕ → List ℕ → Option ℕ
last_tick before [] = before
last_tick before (t ∷ ts) = last_tick (Some t) ts

-- when the last sample of the rows is decoded, in ticks; none without samples
abbrev pub last_in_rows : List Row → Option ℕ
last_in_rows rows = last_tick None (ticks_of rows)

-- A sample's numbers have room in the tables after the last tick: its delta and its size below 2 ^ 32, and its composition offset as a signed number of 32 bits (8.6.1.2, 8.6.1.3, 8.7.3).
pub record HasRoom (last : Option ℕ) (s : Timed) : Type 0 where
  pub rises : IfSome last (λ t. t ≤ s.decode)
  pub near : IfSome last (λ t. s.decode < t + 2 ^ 32)
  pub late : s.compose < s.decode + 2 ^ 31
  pub early : s.decode ≤ s.compose + 2 ^ 31
  pub size : s.size < 2 ^ 32

-- Each sample has room after the one before it, and the first one after the last tick.
abbrev pub AllHaveRoom : Option ℕ → List Timed → Type 0
AllHaveRoom last [] = Unit {0}
AllHaveRoom last (s ∷ ss) = HasRoom last s × AllHaveRoom (Some s.decode) ss

-- A chunk can be added to the rows: it isn't empty, its samples have room, and fewer than 2 ^ 32 samples are there in all. It depends on the rows by their last tick and the number of their samples.
pub record Addable (rows : List Row) (chunk : Chunk) : Type 0 where
  pub some : 1 ≤ length chunk.samples
  pub room : AllHaveRoom (last_in_rows rows) (map timed chunk.samples)
  pub few : length (timed_of rows) + length chunk.samples < 2 ^ 32

-- when the first of samples is decoded, in microseconds, after an earlier first one
abbrev pub first_dts_with : Option ℕ → List Stored → Option ℕ
first_dts_with None [] = None
first_dts_with None (s ∷ ss) = Some s.dts_us
first_dts_with (Some us) ss = Some us

-- What the tables of a track are to those who use them: their rows, when the first added sample is decoded in microseconds, and how many samples of one further chunk there is room for, 0 where there is no room for a chunk.
pub record TrackTables : Type 0 where
  pub rows : List Row
  pub first_dts : Option ℕ
  pub spare : ℕ
