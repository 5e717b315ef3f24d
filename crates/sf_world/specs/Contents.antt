-- Contents, which an object tells as a list of bytes or doesn't tell.
use Rattle.std.specs.Prelude.{◌≡◌, ℕ, ◌+◌, List, [], ◌∷◌, ◌++◌, length, take, drop, Option, Some, None, slice_get}

-- told contents have this length
abbrev pub HasLength : Option (List ℕ) → ℕ → Type 0
HasLength None size = Unit {0}
HasLength (Some bytes) size = length bytes ≡ size

-- the first n bytes of the buffer are those of the contents from the place on, where these are told
abbrev pub ReadsAt : Option (List ℕ) → ℕ → ℕ → List ℕ → Type 0
ReadsAt None at n buffer = Unit {0}
ReadsAt (Some bytes) at n buffer = take n buffer ≡ take n (drop at bytes)

-- with more bytes at the end
abbrev pub grown : Option (List ℕ) → List ℕ → Option (List ℕ)
grown None more = None
grown (Some bytes) more = Some (bytes ++ more)

-- with other bytes in a range
abbrev pub patched : Option (List ℕ) → ℕ → List ℕ → Option (List ℕ)
patched None at other = None
patched (Some bytes) at other = Some (take at bytes ++ other ++ drop (at + length other) bytes)

-- Any bytes stand in the range now, and the rest stayed.
pub record Spoils (before : Option (List ℕ)) (at size : ℕ) (after : Option (List ℕ)) : Type 0 where
  pub bytes : List ℕ
  pub range : length bytes ≡ size
  pub contents : after ≡ patched before at bytes

-- with one more file, where the shelf and the file are told
abbrev pub shelved : Option (List (List ℕ)) → Option (List ℕ) → Option (List (List ℕ))
shelved None file = None
shelved (Some files) None = None
shelved (Some files) (Some file) = Some (files ++ file ∷ [])

-- a new sink of a telling shelf tells that it is empty
abbrev pub BeginsEmpty : Option (List (List ℕ)) → Option (List ℕ) → Type 0
BeginsEmpty None contents = Unit {0}
BeginsEmpty (Some files) contents = contents ≡ Some []

-- the file that was kept after so many others, where the files are told
abbrev pub told_file : Option (List (List ℕ)) → ℕ → Option (List ℕ)
told_file None k = None
told_file (Some files) k = slice_get files k
