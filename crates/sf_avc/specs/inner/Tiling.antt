-- What a step along the units of a stored sample answers.
use Rattle.std.specs.Prelude.{◌≡◌, ℕ, ◌+◌, ◌≤◌, ◌||◌, nat_lt, true, List, length, take}
use Rattle.sf_avc.specs.declared.nal.Unit.{Unit}
use Rattle.sf_avc.specs.declared.prefixed.LengthFault.{LengthFault}
use Rattle.sf_avc.specs.declared.prefixed.LengthFault.TheVariants.{BadLength}
use Rattle.sf_avc.specs.Tiling.{length_in, tile_size}

-- What is known of a unit that begins a rest with its length.
pub record Tile (width at : ℕ) (rest : List ℕ) (u : Unit) : Type 0 where
  pub place : u.at ≡ at + width
  pub len : u.len ≡ length_in (take width rest)
  pub whole : width + u.len ≤ length rest

-- No unit begins a rest with its length.
pub record NoTile (width at : ℕ) (rest : List ℕ) (f : LengthFault) : Type 0 where
  pub is : f ≡ BadLength at
  pub test : (nat_lt (length rest) width || nat_lt (length rest) (tile_size width rest)) ≡ true
