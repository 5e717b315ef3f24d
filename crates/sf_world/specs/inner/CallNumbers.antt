-- The calls of an object in memory, which are numbered from 0, and which of them fail.
use Rattle.std.specs.Prelude.{◌≡◌, Contains}
use Rattle.sf_world.specs.Counts.{both}
use Rattle.sf_world.specs.declared.calls.Calls.{Calls}

-- the next call is to fail
abbrev pub NextFails : Calls → Type 0
NextFails calls = Contains calls.failing.items calls.next

-- A call passed: its number isn't among the failing ones.
pub record CallPassed (before after : Calls) : Type 0 where
  pub right : ¬ NextFails before
  pub next : after.next ≡ both before.next 1
  pub failing : after.failing.items ≡ before.failing.items
  pub faults : after.faults ≡ before.faults

-- A call failed: its number is among the failing ones, and the count rose.
pub record CallFailed (before after : Calls) : Type 0 where
  pub right : NextFails before
  pub next : after.next ≡ both before.next 1
  pub failing : after.failing.items ≡ before.failing.items
  pub faults : after.faults ≡ both before.faults 1
