-- Rows read in place.
use Rattle.std.specs.Prelude.{List}
use Rattle.mm_value.specs.declared.values.Value.{Value}
use Rattle.mm_partition.specs.Places.{content_at, row_in}
use Rattle.mm_partition.specs.declared.view.RowView.{RowView}

-- The values of the row.
abbrev pub viewed : RowView → List Value
viewed view = row_in (content_at view.rows.now view.index)
