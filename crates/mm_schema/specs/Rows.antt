-- A table as a list of rows in key order, and the effect of a change on it.
use Rattle.std.specs.Prelude.{ℕ, Bool, false, not, ◌||◌, List, [], ◌∷◌, ◌++◌, Option, Some, None, filter, length, map, nat_lt, slice_get}
use Rattle.std.specs.List.{list_any, filter_map}
use Rattle.std.specs.List.Sorted.{IsStrictlySortedBy}
use Rattle.std.specs.Option.{option_cmp}
use Rattle.std.specs.Ordering.{is_eq, ordering_then}
use Rattle.std.specs.declared.cmp.Ordering.{Ordering}
use Rattle.mm_value.specs.Order.{value_cmp}
use Rattle.mm_value.specs.declared.refusal.Refusal.TheVariants.{DuplicateKey, NoTargetRow, RowIsReferenced, TableFull}
use Rattle.mm_value.specs.declared.values.Value.{Value}
use Rattle.mm_schema.specs.Refused.{Condition}
use Rattle.mm_schema.specs.Sorting.{in_order}

-- Compares rows by their values in one column. A row without that column precedes others.
abbrev pub column_cmp : ℕ → List Value → List Value → Ordering
column_cmp column a b = option_cmp value_cmp (slice_get a column) (slice_get b column)

-- Two rows have the same value in the column.
abbrev pub same_in_column : ℕ → List Value → List Value → Bool
same_in_column column a b = is_eq (column_cmp column a b)

-- Compares rows by their values in one column, then by key.
abbrev pub rows_by : ℕ → ℕ → List Value → List Value → Ordering
rows_by column key a b = ordering_then (column_cmp column a b) (column_cmp key a b)

-- Each row's key is less than those of all later rows, so no two rows have the same key.
abbrev pub IsInKeyOrder : ℕ → List (List Value) → Type 0
IsInKeyOrder key rows = IsStrictlySortedBy (column_cmp key) rows

-- A pair of a change: the old row, if any, and the new row, if any.
abbrev pub Pair : Type 0
Pair = Option (List Value) × Option (List Value)

-- The pairs that insert rows.
abbrev pub additions : List (List Value) → List Pair
additions rows = map (λ (row : List Value). (None, Some row)) rows

-- The row is the old row of a pair: they have the same key.
abbrev pub goes : ℕ → List Value → Option (List Value) → Bool
goes key row None = false
goes key row (Some old) = same_in_column key row old

-- The rows after a change, before sorting: the rows that it keeps, and then the new rows.
abbrev pub unsorted : ℕ → List Pair → List (List Value) → List (List Value)
unsorted key pairs rows =
    filter (λ row. not (list_any (λ p. goes key row p.0) pairs)) rows ++ filter_map (λ p. p.1) pairs

-- The rows after a change, in key order: each old row is replaced by its new row or deleted, and new rows without an old one are inserted.
-- Without pairs the rows are unchanged.
abbrev pub changed : ℕ → List Pair → List (List Value) → List (List Value)
changed key [] rows = rows
changed key (p ∷ ps) rows = in_order (column_cmp key) (unsorted key (p ∷ ps) rows)

-- Two rows have the same key.
abbrev pub has_duplicate_keys : ℕ → List (List Value) → Bool
has_duplicate_keys key [] = false
has_duplicate_keys key (r ∷ rs) = list_any (same_in_column key r) rs || has_duplicate_keys key rs

-- The maximum number of rows in a table, and of combinations that match a query.
abbrev pub most_rows : ℕ
most_rows = 1048576

-- The conditions that refuse a change by rows, in the order of refusals. Two rows of its table would have the same key. A row would lack
-- its target. A referenced row would be deleted or get another key. There would be too many rows.
abbrev pub table_rows_conditions : ℕ → List (List Value) → Bool → Bool → List Condition
table_rows_conditions key rows some_lacks_target some_is_referred =
    record { holds = has_duplicate_keys key rows; refusal = DuplicateKey }
    ∷ record { holds = some_lacks_target; refusal = NoTargetRow }
    ∷ record { holds = some_is_referred; refusal = RowIsReferenced }
    ∷ record { holds = nat_lt most_rows (length rows); refusal = TableFull }
    ∷ []
