-- The tail of a track's chunks, as it is kept.
use Rattle.std.specs.Prelude.{ℕ, ◌+◌, true, false, Option, Some, None, if◌then◌else◌}
use Rattle.sf_tick.specs.declared.types.Chunk.{Chunk}
use Rattle.sf_gather.specs.Accepting.{last_from}
use Rattle.sf_gather.specs.Proper.{Tail}
use Rattle.sf_series.specs.Core.{is_filled}

-- how many chunks there are, by the number of the last one
abbrev pub count_to : Option ℕ → ℕ
count_to None = 0
count_to (Some number) = number + 1

-- a tail with one more chunk; an empty one only marks the end
abbrev pub tail_with : Tail → Chunk → Tail
tail_with tail chunk = record {
  count = (if is_filled chunk then tail.count + 1 else tail.count);
  ended = (if chunk.last then true else tail.ended);
  last = last_from tail.last chunk.samples;
}

-- the tail where nothing was handed
abbrev pub fresh_tail : Tail
fresh_tail = record { count = 0; ended = false; last = None }
