-- The dumps of several plans over one movie, and their names.
use Rattle.std.specs.Prelude.{◌≡◌, ℕ, zero, suc, ◌+◌, ◌-◌, ◌^◌, min, List, [], ◌∷◌, ◌++◌, length, map, codes, decimal, Option, Some, None}
use Rattle.sf_movie.specs.Loaded.{Loaded}
use Rattle.sf_extract.specs.Current.{unmoved}
use Rattle.sf_extract.specs.Plan.{missing_from}
use Rattle.sf_extract.specs.Readout.{Readout, read_out}
use Rattle.sf_extract.specs.declared.plan.Command.{Command}
use Rattle.sf_extract.specs.declared.types.BadSample.{BadSample}
use Rattle.sf_reader.specs.declared.outcome.Missing.{Missing}

-- the name of the dump of a number, from 1 on, for names that begin so
abbrev pub dump_name : List ℕ → ℕ → List ℕ
dump_name stem number = stem ++ (codes "-" ++ (decimal number ++ codes ".dump"))

-- the names of so many dumps, in order
abbrev pub dump_names : List ℕ → ℕ → List (List ℕ)
dump_names stem zero = []
dump_names stem (suc n) = dump_names stem n ++ dump_name stem (suc n) ∷ []

-- what each plan reads out of a file with this movie
abbrev pub readouts : List ℕ → Loaded → List (List Command) → List Readout
readouts file m plans = map (λ plan. read_out file plan (unmoved m)) plans

-- the dumps of readouts
abbrev pub dumps_of : List Readout → List (List ℕ)
dumps_of rs = map (λ r. r.dump) rs

-- the length of a dump as it's told, up to the last number of eight bytes
abbrev pub told_length : List ℕ → ℕ
told_length dump = min (length dump) (2 ^ 64 - 1)

-- that reader's command, or what is missing after it
abbrev pub missing_or : ℕ → Option ℕ → Option Missing → Option Missing
missing_or reader None later = later
missing_or reader (Some command) later = Some (record { reader = reader; command = command })

-- the first command of the first reader from one on that names a track which isn't among so many
unfoldable pub first_missing : ℕ → ℕ → List (List Command) → Option Missing
first_missing tracks reader [] = None
first_missing tracks reader (plan ∷ plans) = missing_or reader (missing_from tracks 0 plan) (first_missing tracks (reader + 1) plans)

-- A dump is the first part of a readout's.
pub record Begins (dump : List ℕ) (r : Readout) : Type 0 where
  pub rest : List ℕ
  pub whole : r.dump ≡ dump ++ rest

-- each dump is the first part of its readout's; there may be fewer dumps than readouts
abbrev pub AreBegun : List (List ℕ) → List Readout → Type 0
AreBegun [] rs = Unit {0}
AreBegun (d ∷ ds) [] = ⊥
AreBegun (d ∷ ds) (r ∷ rs) = Begins d r × AreBegun ds rs

-- Reader n is the first one of which a sample is refused: those before it are read out whole, it up to that sample, and those after it to any part.
abbrev pub AreUpTo : ℕ → BadSample → List (List ℕ) → List Readout → Type 0
AreUpTo n bad [] rs = ⊥
AreUpTo n bad (d ∷ ds) [] = ⊥
AreUpTo zero bad (d ∷ ds) (r ∷ rs) = (d ≡ r.dump) × (r.refused ≡ Some bad) × (length ds ≡ length rs) × AreBegun ds rs
AreUpTo (suc n) bad (d ∷ ds) (r ∷ rs) = (d ≡ r.dump) × (r.refused ≡ None) × AreUpTo n bad ds rs

-- no sample of these readouts is refused
abbrev pub AreWhole : List Readout → Type 0
AreWhole [] = Unit {0}
AreWhole (r ∷ rs) = (r.refused ≡ None) × AreWhole rs
