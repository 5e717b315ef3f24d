-- The tables of a track as the code holds them.
use Rattle.std.specs.Prelude.{◌≡◌, ◌^◌, ◌≤◌, ◌<◌, true, length, map}
use Rattle.sf_meaning.specs.inner.Entries.{time_runs, spreads_as, Rises}
use Rattle.sf_meaning.specs.SampleTables.{begins_rising}
use Rattle.sf_meaning.specs.Tables.{expand, offset_in}
use Rattle.sf_meaning.specs.TrackSamples.{Tables}
use Rattle.sf_meaning.specs.ReadTables.{sizes_view}
use Rattle.sf_meaning.specs.declared.track_tables.Tables.{Tables as HeldTables}

-- what the tables say
abbrev pub tables_view : HeldTables → Tables
tables_view t = record {
  deltas = expand (time_runs t.deltas);
  stts_at = t.stts_at;
  offsets = map (offset_in t.version) (expand (time_runs t.offsets));
  spreads = spreads_as t.spreads;
  stsc_at = t.stsc_at;
  sizes = sizes_view t.sizes;
  places = t.places;
  sync = t.sync;
}

-- There are few samples and few chunks, and what is in order was found so.
pub record IsInOrder (t : HeldTables) : Type 0 where
  pub few : length (sizes_view t.sizes) ≤ 16777216
  pub chunks : length t.places < 2 ^ 32
  pub spreads : begins_rising (spreads_as t.spreads) ≡ true
  pub syncs : Rises 0 t.sync
