use Rattle.std.proofs.Common.{◌≡◌, ℕ, true, List, Option, sym, ap, ◌∙◌, subst}
use Rattle.std.specs.List.Sorted.{IsBinarySearchResult}
use Rattle.std.specs.Ordering.{nat_cmp}
use Rattle.sf_meaning.specs.inner.Entries.{Rises}
use Rattle.sf_meaning.specs.Tables.{rising, is_sync}
use Rattle.sf_cursor.proofs.SyncNumbers.{is_found}
use Rattle.sf_cursor.proofs.look_up.is_sync.Goals as goal

pub returns-in-Some : goal.returns-in-Some
returns-in-Some c =
    let numbers : List ℕ = c.in-Some.numbers in
    let up : rising 0 numbers ≡ true = subst (λ (s : Option (List ℕ)). Rises 0 s) c.in-Some.is c.requires in
    let at : IsBinarySearchResult (λ y. nat_cmp y c.args.number) numbers c.binary_search.result =
    subst (λ (xs : List ℕ). IsBinarySearchResult (λ y. nat_cmp y c.args.number) xs c.binary_search.result) c.as_slice.ensures c.binary_search.ensures.position in
    c.is_ok.ensures.value ∙ is_found numbers c.args.number c.binary_search.result up at
    ∙ sym (ap (λ (s : Option (List ℕ)). is_sync s c.args.number) c.in-Some.is)
