-- The files that a shelf in memory keeps: a chain of nodes, whose first is the last file.
use Rattle.std.specs.Prelude.{ℕ, List, [], ◌∷◌, ◌++◌, Option, Some, None}
use Rattle.std.specs.declared.alloc.Global.{Global}
use Rattle.std.specs.declared.boxed.Box.{Box}
use Rattle.sf_world.specs.declared.kept.Node.{Node, Node', Held-Node-next, None', Some'}

-- the file of a node after those that were kept before it
abbrev mutual
  pub files_from : Node → List (List ℕ)
  files_from (Node' contents next) = files_behind next ++ contents ∷ []

  pub files_behind : Held-Node-next → List (List ℕ)
  files_behind None' = []
  files_behind (Some' p n) = files_from n

-- the files of a chain, the first that was kept first
abbrev pub files_of : Option (Box Node Global) → List (List ℕ)
files_of None = []
files_of (Some b) = files_from b.value
