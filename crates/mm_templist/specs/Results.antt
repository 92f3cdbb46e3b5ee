-- The result of a temporary list.
use Rattle.std.specs.Prelude.{ℕ, Bool, if◌then◌else◌, List, Some, map}
use Rattle.mm_value.specs.declared.values.Value.{Value}
use Rattle.mm_schema.specs.Sorting.{in_order}
use Rattle.mm_query.specs.Queries.{one_of_each, rows_by_columns, values_of}
use Rattle.mm_store.specs.Tables.{Tables}
use Rattle.mm_templist.specs.Combos.{Combos, combo_rows}

-- The values of the fields, for each combination.
abbrev pub projected_rows : Tables → Combos → List (List Value)
projected_rows store list = map (λ rows. values_of list.fields (map Some rows)) (combo_rows store list)

-- The rows of the result, sorted by columns; with `distinct`, equal rows once.
abbrev pub result_rows : Tables → Combos → Bool → List ℕ → List (List Value)
result_rows store list distinct order =
    in_order (rows_by_columns order) (if distinct then one_of_each (projected_rows store list) else projected_rows store list)
