-- Times in ticks and in microseconds. A timescale is the number of ticks in a second (ISO/IEC 14496-12, 8.4.2).
use Rattle.std.specs.Prelude.{ℕ, ◌+◌, ◌*◌, ◌/◌, ℤ, pos, neg_ℤ, ◌-ℤ◌, ◌*ℤ◌, ◌≤ℤ◌, ◌<ℤ◌}
use Rattle.std.specs.Int.{int_div_euclid}

-- the tick nearest to a time, the later one where two are as near
abbrev pub tick : ℕ → ℕ → ℕ
tick us scale = (us * scale + 500000) / 1000000

-- the microseconds at a tick, rounded down
abbrev pub us : ℤ → ℕ → ℤ
us tick scale = int_div_euclid (tick *ℤ pos 1000000) (pos scale)

-- A tick lies at most half a tick before a time, or less than half a tick after it.
pub record IsNearest (us scale : ℕ) (x : ℤ) : Type 0 where
  pub above : neg_ℤ (pos 500000) <ℤ ((x *ℤ pos 1000000) -ℤ pos (us * scale))
  pub below : ((x *ℤ pos 1000000) -ℤ pos (us * scale)) ≤ℤ pos 500000

-- A number of microseconds isn't after a tick.
pub record IsBefore (tick : ℤ) (scale : ℕ) (y : ℤ) : Type 0 where
  pub before : (y *ℤ pos scale) ≤ℤ (tick *ℤ pos 1000000)
