use Rattle.std.proofs.Common.{◌≡◌, map, take}
use Rattle.std.specs.Prelude.{filter_map}
use Rattle.mm_session.specs.Columns.{column_at_place}
use Rattle.mm_session.proofs.columns.bound_columns.Given as goal

abbrev pub invariant-loop-place : goal.invariant-loop-place
invariant-loop-place l = map (λ column. column.now) l.found.items ≡ filter_map (column_at_place l.catalog l.from) (take l.place-index l.place-items)
