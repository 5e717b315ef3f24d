use Rattle.std.proofs.Common.{◌+◌, ◌-◌, ◌<◌, leb, leb-true, get_or, arith, rules, inl, inr}
use Rattle.std.proofs.lemmas.Bool.{cases_lt, leb-false}
use Rattle.std.proofs.lemmas.List.Sorted.{IsPartitionPoint-from_clause, IsPartitionedBy-leb}
use Rattle.sf_cursor.proofs.starts.last_begun.Goals as goal

pub overflow_sub-result : goal.overflow_sub-result
overflow_sub-result c =
    let parted = IsPartitionedBy-leb (λ x. x) _ c.args.i c.requires.rising in
    let point = IsPartitionPoint-from_clause (λ x. leb x c.args.i) _ _ c.partition_point.ensures.partitioned parted (λ a r q k. search rules) in
    elim (cases_lt 0 c.partition_point.result) [
      | inl some ↦ omega (arith, some)
      | inr none ↦
          let above : c.args.i < get_or c.args.starts.now 0 0 = leb-false _ _ (point.1 0 0 (omega (arith, none)) c.requires.some) in
          absurd (omega (arith, above, c.requires.first))
    ]

pub returns : goal.returns
returns c =
    let parted = IsPartitionedBy-leb (λ x. x) _ c.args.i c.requires.rising in
    let point = IsPartitionPoint-from_clause (λ x. leb x c.args.i) _ _ c.partition_point.ensures.partitioned parted (λ a r q k. search rules) in
    let some : 0 < c.partition_point.result = elim (cases_lt 0 c.partition_point.result) [
      | inl some ↦ some
      | inr none ↦
          let above : c.args.i < get_or c.args.starts.now 0 0 = leb-false _ _ (point.1 0 0 (omega (arith, none)) c.requires.some) in
          absurd (omega (arith, above, c.requires.first))
    ] in
    record {
      there = omega (arith, c.partition_point.ensures.bound, some);
      begun = leb-true _ _ (point.0 (c.partition_point.result - 1) 0 (omega arith) (omega (arith, some)));
      next = λ h. leb-false _ _ (point.1 (c.partition_point.result - 1 + 1) 0 (omega (arith, some)) h);
    }
