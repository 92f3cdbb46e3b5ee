-- Columns in their C layout.
use Rattle.std.specs.Prelude.{◌≡◌, ◌++◌, ◌-◌, ℕ, List, drop, length, map, replicate, take}
use Rattle.mm_value.specs.declared.col_type.ColType.{ColType}
use Rattle.mm_value.specs.declared.col_type.ColType.TheVariants.{Int, Text}
use Rattle.mm_schema.specs.declared.column.Column.{Column}
use Rattle.mmdb_c.specs.declared.column.ColumnCell.{ColumnCell}

-- The kind of cells with values of a type.
abbrev pub kind_of : ColType → ℕ
kind_of Int = 0
kind_of Text = 1

-- A column in its C layout: the kind of its cells, and its name, padded with zeros to 32 bytes.
abbrev pub column_cell : Column → ColumnCell
column_cell column = record {
  kind = kind_of column.col_type;
  len = length column.name;
  name = column.name ++ replicate (32 - length column.name) 0;
}

-- As many columns as fit were written, and the count is that of all columns.
pub record WritesColumns (columns : List Column) (old new : List ColumnCell) (count : ℕ) : Type 0 where
  pub written : new ≡ map column_cell (take (length old) columns) ++ drop (length columns) old
  pub count_is : count ≡ length columns
