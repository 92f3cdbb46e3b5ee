-- The pairs of a change: for each changed row its old value, if any, and its new value, if any.
use Rattle.std.specs.Prelude.{ℕ, Bool, List, [], ◌∷◌, ◌++◌, Some, None, filter, map}
use Rattle.std.specs.List.{filter_map, flat_map, list_all, list_any}
use Rattle.mm_schema.specs.Instance.{Instance, TableEdits, pairs_of}
use Rattle.mm_schema.specs.References.{cascading_of, refers}
use Rattle.mm_schema.specs.Refused.{Condition}
use Rattle.mm_schema.specs.Rows.{Pair, additions}
use Rattle.mm_schema.specs.Schema.{Schema, key_named}
use Rattle.mm_schema.specs.declared.column.Column.{Column}
use Rattle.mm_schema.specs.declared.table.Table.{Table}
use Rattle.mm_value.specs.declared.values.Value.{Value}
use Rattle.mm_query.specs.Atoms.{holds, range_conditions, reads, updated_row}
use Rattle.mm_query.specs.Binding.{assignments_for, tests_for}
use Rattle.mm_query.specs.State.{State, rows_in}
use Rattle.mm_query.specs.declared.atom.Assignment.{Assignment}
use Rattle.mm_query.specs.declared.atom.Atom.{Atom}
use Rattle.mm_query.specs.declared.command.Mutation.{Mutation}
use Rattle.mm_query.specs.declared.command.Mutation.TheVariants.{Insert, Update, Delete}

-- A row matches tests if all of them hold of it.
abbrev pub meets : List (Atom ℕ) → List Value → Bool
meets tests row = list_all (holds (reads row)) tests

-- The pairs of the rows that match tests, with the rows that result from assignments.
abbrev pub updates : List (Assignment ℕ) → List (Atom ℕ) → List (List Value) → List Pair
updates assignments tests rows = map (λ (row : List Value). (Some row, Some (updated_row assignments row))) (filter (meets tests) rows)

-- The pairs that delete rows.
abbrev pub removals_of : List (List Value) → List Pair
removals_of rows = map (λ (row : List Value). (Some row, None)) rows

-- The pairs that delete the rows that match tests.
abbrev pub removals : List (Atom ℕ) → List (List Value) → List Pair
removals tests rows = removals_of (filter (meets tests) rows)

-- The table that a change names.
abbrev pub changed_table : Mutation → List ℕ
changed_table (Insert table tuples) = table
changed_table (Update table assignments tests) = table
changed_table (Delete table tests) = table

-- The pairs of that table: one for each tuple of an INSERT, and one for each row that matches the tests of an UPDATE or DELETE, in key
-- order.
abbrev pub own_pairs : Mutation → State → List Pair
own_pairs (Insert table tuples) state = additions tuples
own_pairs (Update table assignments tests) state =
    updates (assignments_for table state.schema assignments) (tests_for table state.schema tests) (rows_in state table)
own_pairs (Delete table tests) state = removals (tests_for table state.schema tests) (rows_in state table)

-- The values of the new rows.
abbrev pub new_values : List Pair → List Value
new_values pairs = flat_map (λ (row : List Value). row) (filter_map (λ (p : Pair). p.1) pairs)

-- The conditions that refuse a change by the range of the values that it computes.
abbrev pub value_conditions : Mutation → State → List Condition
value_conditions (Insert table tuples) state = []
value_conditions (Update table assignments tests) state = range_conditions (new_values (own_pairs (Update table assignments tests) state))
value_conditions (Delete table tests) state = []

-- ---- cascaded rows (the CASCADE of SQL's referential actions)

-- The old rows of a table's updates and deletes.
abbrev pub old_rows : List ℕ → List TableEdits → List (List Value)
old_rows name edits = filter_map (λ (p : Pair). p.0) (pairs_of name edits)

-- A CASCADE column of the row refers to a row that is deleted.
abbrev pub is_cascaded : Schema → List TableEdits → List Column → List Value → Bool
is_cascaded schema edits columns row =
    list_any (λ (r : ℕ × List ℕ). list_any (refers r.0 (key_named r.1 schema) row) (old_rows r.1 edits)) (cascading_of columns)

-- Edits with those of one more table, unless it has none.
abbrev pub also : List TableEdits → List ℕ → List Pair → List TableEdits
also edits table [] = edits
also edits table (pair ∷ pairs) = edits ++ record { table = table; pairs = pair ∷ pairs } ∷ []

-- Deletes, followed by the deletes of cascaded rows, table by table in the order of creation. A column refers only to older tables, so no
-- cascaded row is missed.
abbrev pub with_cascades : Schema → List Table → Instance → List TableEdits → List TableEdits
with_cascades schema (table ∷ tables) (rows ∷ others) edits =
    with_cascades schema tables others
    (also edits table.definition.name (removals_of (filter (is_cascaded schema edits table.definition.columns) rows)))
with_cascades schema (table ∷ tables) [] edits = edits
with_cascades schema [] rows edits = edits

-- The edits of the table that a change names.
abbrev pub own_edits : Mutation → State → TableEdits
own_edits mutation state = record { table = changed_table mutation; pairs = own_pairs mutation state }

-- The edits of each changed table, the table that the change names first. A DELETE includes the cascaded rows.
abbrev pub edits : Mutation → State → List TableEdits
edits (Insert table tuples) state = own_edits (Insert table tuples) state ∷ []
edits (Update table assignments tests) state = own_edits (Update table assignments tests) state ∷ []
edits (Delete table tests) state = with_cascades state.schema state.schema.tables state.rows (own_edits (Delete table tests) state ∷ [])
