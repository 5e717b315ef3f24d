-- For how many samples of one further chunk there is room.
use Rattle.std.proofs.Common.{ℕ, zero, suc, ◌≤◌, arith}
use Rattle.sf_tables.specs.inner.Sound.{room_for}

-- there is no more room for them than for samples
pub room_within : (samples chunks n : ℕ) → n ≤ room_for samples chunks → n ≤ samples
room_within samples zero n le = omega (arith, le)
room_within samples (suc chunks) n le = le

-- where there is room for one, there is room for a chunk
pub room_chunk : (samples chunks : ℕ) → 1 ≤ room_for samples chunks → 1 ≤ chunks
room_chunk samples zero some = absurd (omega (arith, some))
room_chunk samples (suc chunks) some = omega arith

-- with room for a chunk there is room for as many samples as there is room for
pub room_made : (samples chunks n : ℕ) → n ≤ samples → 1 ≤ chunks → n ≤ room_for samples chunks
room_made samples zero n le some = absurd (omega (arith, some))
room_made samples (suc chunks) n le some = le

-- more room for samples and for chunks is no less room
pub room_rises : (s s' c c' : ℕ) → s ≤ s' → c ≤ c' → room_for s c ≤ room_for s' c'
room_rises s s' zero c' le more = omega arith
room_rises s s' (suc c) zero le more = absurd (omega (arith, more))
room_rises s s' (suc c) (suc c') le more = le

pub ruleset spare_facts = (room_within, room_chunk, room_made, room_rises)
