-- The closure compares the keys, by a total order.
use Rattle.std.proofs.Common.{rules}
use Rattle.std.specs.Ordering.{is_lt}
use Rattle.std.proofs.lemmas.Fn.{always_returns_same}
use Rattle.std.proofs.lemmas.List.Sorted.{ranks_by}
use Rattle.mm_value.specs.Views.{value_of}
use Rattle.mm_value.specs.Order.{value_cmp}
use Rattle.mm_value.proofs.Orders.{value_cmp_total}
use Rattle.mm_plan.proofs.finding.sort_by_key.Goals as goal

pub returns-clause-sorted : goal.returns-clause-sorted
returns-clause-sorted c =
    c.sort_unstable_by.ensures.sorted (λ a b. is_lt (value_cmp (value_of a.key) (value_of b.key))) (ranks_by value_cmp_total (λ row. value_of row.key))
    (always_returns_same _ _ _ (λ a r f k. search rules))
