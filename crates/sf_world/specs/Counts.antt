-- Counts of faults: whole numbers that never fall, and stand still at the last value of a u64.
use Rattle.std.specs.Prelude.{◌≡◌, ℕ, ◌+◌, ◌-◌, ◌^◌, ◌≤◌, min, Result, Err, OnErr}
use Rattle.sf_world.specs.declared.failures.Denied.{Denied}
use Rattle.sf_world.specs.declared.failures.Denied.TheVariants.{Failed, NoMemory}

-- a count rose: it is greater, or stands at its last value
abbrev pub Rose : ℕ → ℕ → Type 0
Rose before now = min (before + 1) (2 ^ 64 - 1) ≤ now

-- two counts together, up to the last value
abbrev pub both : ℕ → ℕ → ℕ
both a b = min (a + b) (2 ^ 64 - 1)

-- A count over a call: it never falls, and rose at any error.
pub record HasCause {T E : Type 0} (before now : ℕ) (result : Result T E) : Type 0 where
  pub later : before ≤ now
  pub failed : OnErr result (Rose before now)

-- A count over a call that may be denied: it never falls, rose where the call failed, and stands without memory.
pub record HasDenial {T : Type 0} (before now : ℕ) (result : Result T Denied) : Type 0 where
  pub later : before ≤ now
  pub failed : result ≡ Err Failed → Rose before now
  pub no_memory : result ≡ Err NoMemory → now ≡ before
