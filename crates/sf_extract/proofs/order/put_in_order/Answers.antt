use Rattle.std.proofs.Common.{◌≡◌, rules}
use Rattle.std.proofs.lemmas.Fn.{always_returns_same}
use Rattle.std.proofs.lemmas.List.Sorted.{IsPermutation-map}
use Rattle.sf_extract.specs.inner.Orders.{sync_of, time_at}
use Rattle.sf_extract.proofs.NumberLemmas.{sorted_rises}
use Rattle.sf_extract.proofs.order.put_in_order.Goals as goal

pub returns-clause-sorted : goal.returns-clause-sorted
returns-clause-sorted c = record {
  same = IsPermutation-map (sync_of c.args.movie.now.movie c.args.t) _ _ c.sort_unstable_by_key.ensures.permutation;
  rises = sorted_rises c.args.movie.now.movie c.args.t _ (c.sort_unstable_by_key.ensures.sorted (λ i. (time_at c.args.movie.now.movie c.args.t i, i)) (always_returns_same _ (λ a r. r ≡ (time_at c.args.movie.now.movie c.args.t a.0.now, a.0.now)) _ (λ a r q k. search rules)));
}
