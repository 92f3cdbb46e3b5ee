-- Rows by their positions among referenced values.
use Rattle.std.specs.Prelude.{◌≡◌, ℕ, Bool, if◌then◌else◌, List}
use Rattle.std.specs.Ordering.{nat_cmp, ordering_then}
use Rattle.std.specs.declared.cmp.Ordering.{Ordering}
use Rattle.mm_value.specs.declared.value_ref.ValueRef.{ValueRef}
use Rattle.mm_value.specs.declared.values.Value.{Value}
use Rattle.mm_schema.specs.Sorting.{in_order}
use Rattle.mm_query.specs.Queries.{one_of_each, rows_by_columns, sort_key}
use Rattle.mm_templist.specs.Runs.{leading_prefix, run_from}
use Rattle.mm_templist.specs.declared.shown.Placed.{Placed}

-- The rows sorted by columns; with `distinct`, equal rows once.
abbrev pub in_shown_order : Bool → List ℕ → List (List Value) → List (List Value)
in_shown_order distinct order rows = in_order (rows_by_columns order) (if distinct then one_of_each rows else rows)

-- The row at a position.
abbrev pub placed_row : ℕ → List ValueRef → Placed → List Value
placed_row width refs placed = run_from width refs placed.start

-- The position has the prefix of the value by which its row is sorted first.
abbrev pub HasPrefix : List ℕ → ℕ → List ValueRef → Placed → Type 0
HasPrefix order width refs placed = placed.prefix ≡ leading_prefix (sort_key order (placed_row width refs placed))

-- The order of positions: by their prefixes, and then by their rows.
abbrev pub placed_cmp : List ℕ → ℕ → List ValueRef → Placed → Placed → Ordering
placed_cmp order width refs a b =
    ordering_then (nat_cmp a.prefix b.prefix) (rows_by_columns order (placed_row width refs a) (placed_row width refs b))
