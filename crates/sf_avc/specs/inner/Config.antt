-- What the steps of reading parameter sets answer.
use Rattle.std.specs.Prelude.{◌≡◌, ℕ, suc, List, None, ⊤}
use Rattle.sf_avc.specs.declared.config.AvcCFault.{AvcCFault}
use Rattle.sf_avc.specs.declared.config.AvcCFault.TheVariants.{Version, Short, NoMemory}
use Rattle.sf_avc.specs.Config.{with_set, sets}

-- The set that begins the bytes, and those after it, are the first step of any count of sets.
abbrev pub FirstSet : List ℕ → List ℕ → List ℕ → Type 0
FirstSet bytes set after = (n : ℕ) → sets (suc n) bytes ≡ with_set set (sets n after)

-- no set begins the bytes
abbrev pub NoSet : List ℕ → Type 0
NoSet bytes = (n : ℕ) → sets (suc n) bytes ≡ None

-- why there are not so many sets
abbrev pub NoSets : ℕ → List ℕ → AvcCFault → Type 0
NoSets count bytes (Version version) = ⊥
NoSets count bytes Short = sets count bytes ≡ None
NoSets count bytes NoMemory = ⊤
