use Rattle.std.proofs.Common.{◌≡◌, ℕ, true, List, Option, leb, leb-true, sym, subst, arith, rules}
use Rattle.std.proofs.lemmas.Bool.{leb-false}
use Rattle.std.proofs.lemmas.List.Sorted.{IsNonDecreasingBy-from_default, IsPartitionPoint-from_clause, IsPartitionedBy-leb}
use Rattle.sf_meaning.specs.inner.Entries.{Rises}
use Rattle.sf_meaning.specs.Tables.{rising}
use Rattle.sf_cursor.specs.inner.Sound.{AreSyncs, Tells}
use Rattle.sf_cursor.proofs.SyncNumbers.{none_falls}
use Rattle.sf_cursor.proofs.SyncSamples.{told_count}
use Rattle.sf_cursor.proofs.look_up.sync_count.Goals as goal

pub returns-in-Some : goal.returns-in-Some
returns-in-Some c =
    λ numbers h.
    let xs : List ℕ = c.as_slice.result.now in
    let up : rising 0 xs ≡ true = subst (λ (l : List ℕ). rising 0 l ≡ true) (sym c.as_slice.ensures) (subst (λ (s : Option (List ℕ)). Rises 0 s) c.in-Some.is c.requires) in
    let told : Tells xs c.args.count numbers =
    subst (λ (l : List ℕ). Tells l c.args.count numbers) (sym c.as_slice.ensures) (subst (λ (s : Option (List ℕ)). AreSyncs s c.args.count numbers) c.in-Some.is h) in
    let parted = IsPartitionedBy-leb (λ x. x) xs c.args.count (IsNonDecreasingBy-from_default (λ (x : ℕ). x) xs 0 (none_falls 0 xs up)) in
    let point = IsPartitionPoint-from_clause (λ x. leb x c.args.count) _ _ c.partition_point.ensures.partitioned parted (λ a r q k. search rules) in
    told_count xs c.args.count numbers c.partition_point.result told c.partition_point.ensures.bound
    (λ k lt. leb-true _ _ (point.0 k 0 (omega (arith, lt)) (omega (arith, lt))))
    (λ k le lt. leb-false _ _ (point.1 k 0 le lt))
