-- Rows that satisfy atoms, and references in the order of their keys.
use Rattle.std.specs.Prelude.{◌≡◌, Bool, true, false, List, [], ◌∷◌, Option, Some, None, cond, filter, slice_get}
use Rattle.std.specs.List.{list_any}
use Rattle.mm_value.specs.Views.{value_of}
use Rattle.mm_partition.specs.Places.{slot_at}
use Rattle.mm_plan.specs.declared.finding.Keyed.{Keyed}
use Rattle.mm_plan.specs.declared.step.Step.{Step}
use Rattle.mm_plan.specs.declared.step.Step.TheVariants as step
use Rattle.mm_query.specs.Queries.{none_fails}
use Rattle.mm_query.specs.declared.atom.Atom.{Atom}
use Rattle.mm_query.specs.declared.bound_query.FieldPlace.{FieldPlace}
use Rattle.mm_tables.specs.Edits.{same_ref}
use Rattle.mm_indexed.specs.Kept.{StoredRows}
use Rattle.mm_row_order.specs.Refs.{row_at}
use Rattle.mm_store.specs.declared.index_ref.IndexRef.TheVariants.{Key}
use Rattle.mm_value.specs.declared.row_ref.RowRef.{RowRef}
use Rattle.mm_value.specs.declared.values.Value.{Value}

-- The row, as a combination of one table, fails no atom.
abbrev pub meets : List (Atom FieldPlace) → List Value → Bool
meets atoms row = none_fails atoms (Some row ∷ [])

-- The references of the rows of a relation that satisfy atoms, in key order.
abbrev pub meeting : List (Atom FieldPlace) → StoredRows → List RowRef
meeting atoms stored = filter (λ at. meets atoms (row_at (slot_at stored.places) at)) stored.refs

-- The references of a relation that are among some others, in key order.
abbrev pub among : List RowRef → StoredRows → List RowRef
among refs stored = filter (λ at. list_any (same_ref at) refs) stored.refs

-- The step finds rows in key order.
abbrev pub finds_in_key_order : Step → Bool
finds_in_key_order step.Scan = true
finds_in_key_order (step.Range Key atom) = true
finds_in_key_order _ = false

-- The key is the value of the referenced row in the key column.
abbrev pub IsKeyed : StoredRows → Keyed → Type 0
IsKeyed stored row = slice_get (row_at (slot_at stored.places) row.at) stored.key ≡ Some (value_of row.key)

-- The reference equals the previous one.
abbrev pub is_again : Option RowRef → RowRef → Bool
is_again None at = false
is_again (Some other) at = same_ref other at

-- The references, with consecutive equal ones once.
abbrev pub once : Option RowRef → List RowRef → List RowRef
once before [] = []
once before (at ∷ refs) = cond (is_again before at) (once (Some at) refs) (at ∷ once (Some at) refs)
