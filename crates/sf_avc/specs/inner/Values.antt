-- What the steps of reading a value answer, in the words of its definition.
use Rattle.std.specs.Prelude.{◌≡◌, ℕ, ◌+◌, ◌≤◌, true, ◌∷◌, length, drop, Result, Ok, Err}
use Rattle.sf_avc.specs.declared.sps.SpsFault.{SpsFault}
use Rattle.sf_avc.specs.Bits.{Unread}
use Rattle.sf_avc.specs.Sps.{Read, zeros_in_front, value}

-- the number of all bits
abbrev pub total : Unread → ℕ
total u = u.at + length u.bits

-- The first bits were taken, at most so many.
pub record After (most : ℕ) (old new : Unread) : Type 0 where
  pub total : new.at + length new.bits ≡ old.at + length old.bits
  pub few : new.at ≤ old.at + most

-- A value was taken, as a definition reads it from the bits, or the fault of the definition met.
abbrev pub Gives : ℕ → Unread → Result Read SpsFault → Result ℕ SpsFault → Unread → Type 0
Gives most old found (Ok v) new = (found ≡ Ok (v, new.bits)) × After most old new
Gives most old found (Err fault) new = found ≡ Err fault

-- The zero bits in front of a value were taken, and the bit 1 after them.
pub record TookZeros (old : Unread) (k : ℕ) (new : Unread) : Type 0 where
  pub zeros : zeros_in_front old.bits ≡ k
  pub one : drop k old.bits ≡ true ∷ new.bits
  pub after : After 32 old new
  pub few : k ≤ 31

-- the zero bits in front of a value, or why it is refused for them
abbrev pub GivesZeros : Unread → Result ℕ SpsFault → Unread → Type 0
GivesZeros old (Ok k) new = TookZeros old k new
GivesZeros old (Err fault) new = (max : ℕ) → value (total old) max old.bits ≡ Err fault
