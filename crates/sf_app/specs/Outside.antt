-- What stands outside of the program, and what a command's answer says of an input that it asked for.
use Rattle.std.specs.Prelude.{◌≡◌, ℕ, ◌≤◌, List, Option, Some}
use Rattle.sf_world.specs.Counts.{Rose}
use Rattle.sf_world.specs.Views.{GivenBack, InputsView, NotGiven, ShelfView, SinkView}

-- What inputs, shelf and text show.
pub record Outside : Type 0 where
  pub inputs : InputsView
  pub shelf : ShelfView
  pub text : SinkView

-- what the three show together
abbrev pub outside_of : InputsView → ShelfView → SinkView → Outside
outside_of inputs shelf text = record { inputs = inputs; shelf = shelf; text = text }

-- Inputs over a command: they tell the same bytes, and have room for as many sources as before.
pub record KeepInputs (before after : InputsView) : Type 0 where
  pub holds : (name : List ℕ) → after.holds name ≡ before.holds name
  pub spare : before.spare ≤ after.spare

-- No source was given for a name, because the inputs failed.
pub record Missed (name : List ℕ) (before after : InputsView) : Type 0 where
  pub failed : Rose before.misses after.misses
  pub asked : NotGiven name before after

-- The source of a name failed, and was given back with the number of its faults.
pub record Faulty (name : List ℕ) (before after : InputsView) : Type 0 where
  pub back : GivenBack name before after
  pub some : 1 ≤ back.faults
  pub failed : Rose before.faults after.faults

-- this holds of the bytes of a file, where they are told
abbrev pub OfTold : Option (List ℕ) → (List ℕ → Type 0) → Type 0
OfTold contents P = (file : List ℕ) → contents ≡ Some file → P file
