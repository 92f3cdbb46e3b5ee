-- The rows of a table in an order.
use Rattle.std.specs.Prelude.{ℕ, ◌≤◌, All, List, length, map}
use Rattle.mm_partition.specs.Places.{IsLive, slot_at}
use Rattle.mm_indexed.specs.Kept.{StoredRows}
use Rattle.mm_indexed.specs.Reads.{HasIndex}
use Rattle.mm_row_order.specs.Refs.{row_at}
use Rattle.mm_indexed.specs.RowLists.{rows_of}
use Rattle.mm_indexed.specs.Twins.{AreApart}
use Rattle.mm_schema.specs.Rows.{rows_by, most_rows}
use Rattle.mm_schema.specs.Sorting.{in_order}
use Rattle.mm_schema.specs.declared.index.IndexKind.TheVariants as kind
use Rattle.mm_store.specs.declared.table_rows.Order.{Order}
use Rattle.mm_store.specs.declared.table_rows.Order.TheVariants.{Key, Made, Tree}
use Rattle.mm_value.specs.declared.values.Value.{Value}

-- The rows ordered by a column, and by their keys within a value.
abbrev pub rows_in_order : ℕ → StoredRows → List (List Value)
rows_in_order column stored = in_order (rows_by column stored.key) (rows_of stored)

-- The rows of a table in the order.
abbrev pub ordered_rows : StoredRows → Order → List (List Value)
ordered_rows stored Key = rows_of stored
ordered_rows stored (Tree place column) = rows_in_order column stored
ordered_rows stored (Made tree) = map (row_at (slot_at stored.places)) tree.refs

-- The rows can be read in this order: there are few enough of them; for an index, it exists and no two rows have one key; the references of
-- a built tree are of live rows.
abbrev pub IsOrder : StoredRows → Order → Type 0
IsOrder stored Key = length stored.refs ≤ most_rows
IsOrder stored (Tree place column) =
    (length stored.refs ≤ most_rows) × AreApart stored.key (slot_at stored.places) × HasIndex stored.indexes place column kind.Tree
IsOrder stored (Made tree) = All (IsLive stored.places) tree.refs × (length tree.refs ≤ most_rows)
