-- What the steps of making a configuration record answer, in the words of its definition.
use Rattle.std.specs.Prelude.{◌≡◌, ℕ, ◌≤◌, List, [], length, take, drop, map, get_or, Ok}
use Rattle.std.specs.List.{All}
use Rattle.sf_avc.specs.declared.nal.Unit.{Unit}
use Rattle.sf_avc.specs.declared.nal.NalFault.{NalFault}
use Rattle.sf_avc.specs.declared.nal.NalFault.TheVariants.{NoStart, EmptyUnit, NoMemory}
use Rattle.sf_avc.specs.declared.sps.SpsHead.{SpsHead}
use Rattle.sf_avc.specs.declared.config_body.ConfigFault.{ConfigFault}
use Rattle.sf_avc.specs.declared.config_body.ConfigFault.TheVariants.{Nal as NalRefused, NoMemory as NoRoom}
use Rattle.sf_avc.specs.Sps.{HeadFits}
use Rattle.sf_avc.specs.ConfigBody.{config_body, with_sets}

-- the bytes of a unit
abbrev pub bytes_at : List ℕ → Unit → List ℕ
bytes_at payload u = take u.len (drop u.at payload)

-- the bytes of units
abbrev pub sets_at : List ℕ → List Unit → List (List ℕ)
sets_at payload units = map (bytes_at payload) units

-- a unit is short enough for a record
abbrev pub IsShortSet : Unit → Type 0
IsShortSet u = u.len ≤ 65535

-- a refusal of units, as one of a configuration
abbrev pub refused_units : NalFault → ConfigFault
refused_units NoStart = NalRefused NoStart
refused_units (EmptyUnit at) = NalRefused (EmptyUnit at)
refused_units NoMemory = NoRoom

-- What is known of sets of which a record is made, and of the head of the first.
pub record Makeable (config : List ℕ) (sps pps : List Unit) (head : SpsHead) : Type 0 where
  pub is : with_sets (sets_at config sps) (sets_at config pps) ≡ Ok (config_body (sets_at config sps) (sets_at config pps) head)
  pub some : 1 ≤ length sps
  pub first : 4 ≤ length (get_or (sets_at config sps) 0 [])
  pub few_sps : length sps ≤ 31
  pub few_pps : length pps ≤ 255
  pub short_sps : All IsShortSet sps
  pub short_pps : All IsShortSet pps
  pub fits : HeadFits head
