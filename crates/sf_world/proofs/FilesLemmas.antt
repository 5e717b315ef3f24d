-- A chain of nodes, link by link.
use Rattle.std.proofs.Common.{◌≡◌, ℕ, zero, suc, ◌+◌, ◌<◌, List, [], ◌∷◌, ◌++◌, length, slice_get, Some, refl, ◌∙◌, ap, arith, length-append}
use Rattle.std.proofs.lemmas.Option.{slice_get_past}
use Rattle.sf_world.specs.declared.kept.Node.{Node, Node', None', Some', out-Node}
use Rattle.sf_world.specs.inner.Files.{files_from, files_of}

-- the file of a node stands after those of the links after it
pub files_from-out : (n : Node) → files_from n ≡ files_of (out-Node n).next ++ (out-Node n).contents ∷ []
unfolding out-Node denote.Hole.Carrier.out
files_from-out (Node' contents None') = refl
files_from-out (Node' contents (Some' p n)) = refl

-- a node has one file more than the links after it
pub length-files_from : (n : Node) → length (files_from n) ≡ length (files_of (out-Node n).next) + 1
length-files_from n = ap length (files_from-out n) ∙ length-append (files_of (out-Node n).next) ((out-Node n).contents ∷ [])

-- an element in front of the last one
pub slice_get-push_below : {X : Type 0} (xs : List X) (x : X) (k : ℕ) → k < length xs → slice_get (xs ++ x ∷ []) k ≡ slice_get xs k
slice_get-push_below [] x k below = absurd (omega arith)
slice_get-push_below (y ∷ ys) x zero below = refl
slice_get-push_below (y ∷ ys) x (suc k) below = slice_get-push_below ys x k (omega arith)

-- the last element
pub slice_get-push_at : {X : Type 0} (xs : List X) (x : X) (k : ℕ) → k ≡ length xs → slice_get (xs ++ x ∷ []) k ≡ Some x
slice_get-push_at [] x zero at = refl
slice_get-push_at [] x (suc k) at = absurd (omega arith)
slice_get-push_at (y ∷ ys) x zero at = absurd (omega arith)
slice_get-push_at (y ∷ ys) x (suc k) at = slice_get-push_at ys x k (omega arith)

pub ruleset steps = (files_from-out, length-files_from, slice_get-push_below, slice_get-push_at, slice_get_past)
