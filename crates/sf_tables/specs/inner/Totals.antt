-- What is counted of samples and chunks, so that the length of the tables is known without a walk.
use Rattle.std.specs.Prelude.{◌≡◌, ℕ, ◌+◌, ◌-◌, ◌*◌, ◌^◌, ◌≤◌, ◌==◌, nat_lt, nat_le, Option, Some, None, ◌&&◌, List, [], ◌∷◌, length, map, sum, if◌then◌else◌}
use Rattle.sf_meaning.specs.Stbl.{Timed, runs_of, deltas_of, offset_word, offset_words, all_in_time, none_early, all_sync, sync_numbers, uniform, spread_from, all_near}
use Rattle.sf_tables.specs.declared.totals.SampleTotals.{SampleTotals}
use Rattle.sf_tables.specs.declared.totals.ChunkTotals.{ChunkTotals}

-- the last of a list, or this value
abbrev pub last_or : ℕ → List ℕ → ℕ
last_or x [] = x
last_or x (y ∷ ys) = last_or y ys

-- The totals are those of these samples.
pub record CountsSamples (t : SampleTotals) (ss : List Timed) : Type 0 where
  pub count : t.count ≡ length ss
  pub decode : t.decode ≡ last_or 0 (map (λ s. s.decode) ss)
  pub delta : t.delta ≡ last_or 0 (deltas_of (map (λ s. s.decode) ss))
  pub delta_runs : t.delta_runs ≡ length (runs_of (deltas_of (map (λ s. s.decode) ss)))
  pub duration : t.closed + t.delta ≡ sum (deltas_of (map (λ s. s.decode) ss))
  pub offset : t.offset ≡ last_or 0 (offset_words ss)
  pub offset_runs : t.offset_runs ≡ length (runs_of (offset_words ss))
  pub in_time : t.in_time ≡ all_in_time ss
  pub none_early : t.none_early ≡ none_early ss
  pub all_sync : t.all_sync ≡ all_sync ss
  pub syncs : t.syncs ≡ length (sync_numbers ss)
  pub size : t.size ≡ uniform (map (λ s. s.size) ss)

-- The totals are those of chunks with these places and counts.
pub record CountsChunks (t : ChunkTotals) (places counts : List ℕ) : Type 0 where
  pub chunks : t.chunks ≡ length places
  pub last_count : t.last_count ≡ last_or 0 counts
  pub spreads : t.spreads ≡ length (spread_from 1 0 counts)
  pub near : t.near ≡ all_near places

-- the totals after one more sample
abbrev pub after_sample : SampleTotals → Timed → SampleTotals
after_sample t s =
    let delta : ℕ = if t.count == 0 then 0 else s.decode - t.decode in
    record {
      count = t.count + 1;
      decode = s.decode;
      delta = delta;
      delta_runs = if t.count == 0 then 1 else if t.count == 1 then 1 else if t.delta == delta then t.delta_runs else t.delta_runs + 1;
      closed = t.closed + delta;
      offset = offset_word s;
      offset_runs = if t.count == 0 then 1 else if t.offset == offset_word s then t.offset_runs else t.offset_runs + 1;
      in_time = t.in_time && (s.compose == s.decode);
      none_early = t.none_early && nat_le s.decode s.compose;
      all_sync = t.all_sync && s.sync;
      syncs = if s.sync then t.syncs + 1 else t.syncs;
      size = if t.count == 0 then s.size else if s.size == t.size then s.size else 0;
    }

-- the totals after more samples
abbrev pub after_samples : SampleTotals → List Timed → SampleTotals
after_samples t [] = t
after_samples t (s ∷ ss) = after_samples (after_sample t s) ss

-- the totals after one more chunk
abbrev pub after_chunk : ChunkTotals → ℕ → ℕ → ChunkTotals
after_chunk t place count =
    record {
      chunks = t.chunks + 1;
      last_count = count;
      spreads = if count == t.last_count then t.spreads else t.spreads + 1;
      near = t.near && nat_lt place (2 ^ 32);
    }

-- the decode tick of the last sample that was counted
abbrev pub last_counted : SampleTotals → Option ℕ
last_counted t = if t.count == 0 then None else Some t.decode

-- No total outgrows the number of samples.
pub record Steady (t : SampleTotals) : Type 0 where
  pub delta_runs : t.delta_runs ≤ t.count
  pub offset_runs : t.offset_runs ≤ t.count
  pub syncs : t.syncs ≤ t.count
  pub closed : t.closed ≤ t.count * (2 ^ 32 - 1)
