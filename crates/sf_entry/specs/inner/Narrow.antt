-- The widths of the fields of a configuration of sound.
use Rattle.std.specs.Prelude.{◌^◌, ◌<◌}
use Rattle.sf_entry.specs.declared.asc.Front.{Front}

-- The fields have the values of so many bits.
pub record Narrow (f : Front) : Type 0 where
  pub index : f.index < 2 ^ 4
  pub stated : f.stated < 2 ^ 24
  pub channels : f.channels < 2 ^ 4
