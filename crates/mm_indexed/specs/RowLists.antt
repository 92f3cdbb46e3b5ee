-- The rows of a table as a list.
use Rattle.std.specs.Prelude.{List, map}
use Rattle.mm_partition.specs.Places.{slot_at}
use Rattle.mm_value.specs.declared.values.Value.{Value}
use Rattle.mm_indexed.specs.Kept.{StoredRows}
use Rattle.mm_row_order.specs.Refs.{row_at}

-- The rows in use, in the order of the key.
abbrev pub rows_of : StoredRows → List (List Value)
rows_of stored = map (row_at (slot_at stored.places)) stored.refs
