-- The rows of an answer.
use Rattle.std.specs.Prelude.{List}
use Rattle.mm_value.specs.declared.values.Value.{Value}
use Rattle.mm_txn.specs.declared.rows.RowReader.{RowReader}
use Rattle.mm_txn.specs.declared.rows.RowReader.TheVariants as reader
use Rattle.mm_txn.specs.declared.rows.Source.{Source}
use Rattle.mm_txn.specs.declared.rows.Source.TheVariants as source

-- The rows, in their order.
abbrev pub source_rows : Source → List (List Value)
source_rows (source.Stored rows) = rows
source_rows (source.Shown rows) = rows

-- The unread rows, in their order.
abbrev pub rows_to_read : RowReader → List (List Value)
rows_to_read (reader.Stored rows) = rows
rows_to_read (reader.Shown rows) = rows.now
