-- Gates, the places in which threads share one value.
use Rattle.std.specs.Prelude.{ℕ, List, Option}

-- The name of a gate: what each value that stands there has.
pub record GateName : Type 0 where
  -- in bytes
  pub length : ℕ
  -- the bytes, where they are told
  pub content : Option (List ℕ)
  -- in bytes
  pub page_size : ℕ
  pub readers : ℕ
