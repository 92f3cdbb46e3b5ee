-- The order of references by their rows is total.
use Rattle.std.proofs.Common.{ℕ}
use Rattle.std.specs.Prelude.{slice_get}
use Rattle.std.specs.Cmp.{IsTotalOrder, then_total, on_total}
use Rattle.std.proofs.lemmas.Cmp.{nat_cmp_total}
use Rattle.std.specs.Cmp.Lexicographic.{options_total}
use Rattle.mm_value.proofs.Orders.{value_cmp_total}
use Rattle.mm_value.specs.declared.row_ref.RowRef.{RowRef}
use Rattle.mm_row_order.specs.Refs.{Slots, row_at, refs_by}

pub refs_by_total : (column key : ℕ) (now : Slots) → IsTotalOrder (refs_by column key now)
refs_by_total column key now =
    then_total
    (then_total (on_total (λ at. slice_get (row_at now at) column) (options_total value_cmp_total))
    (on_total (λ at. slice_get (row_at now at) key) (options_total value_cmp_total)))
    (on_total (λ (at : RowRef). at.slot) nat_cmp_total)
