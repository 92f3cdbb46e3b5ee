use Rattle.std.proofs.Common.{◌≡◌, map, take}
use Rattle.std.specs.Prelude.{filter_map}
use Rattle.mm_session.specs.Columns.{column_of_field}
use Rattle.mm_session.proofs.columns.query_columns.Given as goal

abbrev pub invariant-loop-field : goal.invariant-loop-field
invariant-loop-field l = map (λ column. column.now) l.found.items ≡ filter_map (column_of_field l.catalog l.from) (take l.field-index l.field-items)
