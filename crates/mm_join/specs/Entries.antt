-- The rows of a table along a tree, each with the prefix of its value in a column.
use Rattle.std.specs.Prelude.{ℕ, List}
use Rattle.std.specs.List.Sorted.{IsNonDecreasingBy}
use Rattle.mm_query.specs.Atoms.{value_in}
use Rattle.mm_row_order.specs.Refs.{Slots, row_at}
use Rattle.mm_value.specs.Prefix.{order_prefix}
use Rattle.mm_value.specs.declared.row_ref.RowRef.{RowRef}
use Rattle.mm_join.specs.declared.entries.Entry.{Entry}

-- The prefixes are in ascending order, perhaps with equal ones.
abbrev pub AreRising : List Entry → Type 0
AreRising entries = IsNonDecreasingBy (λ entry. entry.prefix) entries

-- The entry of a row, by its value in a column.
abbrev pub entry_of : ℕ → Slots → RowRef → Entry
entry_of column now at = record { prefix = order_prefix (value_in column (row_at now at)); at = at }
