-- The comparison is a total order.
use Rattle.std.proofs.Common.{rules}
use Rattle.std.specs.Ordering.{is_lt}
use Rattle.std.proofs.lemmas.Fn.{always_returns_same}
use Rattle.std.proofs.lemmas.List.Sorted.{ranks_by}
use Rattle.mm_row_order.specs.Sorting.{sortable_cmp}
use Rattle.mm_row_order.proofs.SortedRows.{sortable_total}
use Rattle.mm_row_order.proofs.sorting.sort.Goals as goal

pub returns-clause-sorted : goal.returns-clause-sorted
returns-clause-sorted g c =
    let read = g.V.AsValue.value in
    c.sort_unstable_by.ensures.sorted (λ a b. is_lt (sortable_cmp read a b)) (ranks_by (sortable_total read) (λ x. x))
    (always_returns_same _ _ _ (λ a r f k. search rules))
