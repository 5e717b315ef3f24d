-- The names of the files of a series.
use Rattle.std.specs.Prelude.{ℕ, zero, suc, List, [], ◌∷◌, ◌++◌, codes, decimal}

-- the name of the file of a number, from 1 on, for names that begin so
abbrev pub file_name : List ℕ → ℕ → List ℕ
file_name stem number = stem ++ (codes "-" ++ (decimal number ++ codes ".mp4"))

-- The names of so many files, in order.
abbrev pub names_to : List ℕ → ℕ → List (List ℕ)
names_to stem zero = []
names_to stem (suc files) = names_to stem files ++ file_name stem (suc files) ∷ []
