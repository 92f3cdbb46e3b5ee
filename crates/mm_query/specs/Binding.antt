-- The refusals of a change that depend on the catalog alone, and the resolution of its names.
use Rattle.std.specs.Prelude.{◌≡◌, ◌==◌, ℕ, Bool, false, not, ◌||◌, All, List, [], ◌∷◌, Some, length, map}
use Rattle.std.specs.List.{list_any}
use Rattle.mm_schema.specs.Columns.{same_type}
use Rattle.mm_schema.specs.Refused.{Condition}
use Rattle.mm_schema.specs.Schema.{Schema, columns_named, lacks_table, table_passes, table_place}
use Rattle.mm_schema.specs.declared.column.Column.{Column}
use Rattle.mm_value.specs.Types.{type_of}
use Rattle.mm_value.specs.declared.refusal.Refusal.TheVariants.{NoSuchTable, TypeMismatch, WrongNumberOfValues}
use Rattle.mm_value.specs.declared.values.Value.{Value}
use Rattle.mm_query.specs.Atoms.{IsWithin, ReadsWithin}
use Rattle.mm_query.specs.Placing.{column_conditions, mapped_atom, placed_assignment, placed_atom}
use Rattle.mm_query.specs.declared.atom.Assignment.{Assignment}
use Rattle.mm_query.specs.declared.atom.Atom.{Atom}
use Rattle.mm_query.specs.declared.bind.BoundChange.{BoundChange}
use Rattle.mm_query.specs.declared.bind.BoundChange.TheVariants as bound
use Rattle.mm_query.specs.declared.bound_query.FieldPlace.{FieldPlace}
use Rattle.mm_query.specs.declared.command.Mutation.{Mutation}
use Rattle.mm_query.specs.declared.command.Mutation.TheVariants as written

-- A value differs in type from its column. Values without a column are ignored.
abbrev pub has_type_mismatch : List Column → List Value → Bool
has_type_mismatch [] values = false
has_type_mismatch (c ∷ cs) [] = false
has_type_mismatch (c ∷ cs) (v ∷ vs) = not (same_type c.col_type (type_of v)) || has_type_mismatch cs vs

-- There are more or fewer values than columns.
abbrev pub has_other_length : List Column → List Value → Bool
has_other_length columns values = not (length values == length columns)

-- The conditions that refuse a change by the catalog alone, in the order of refusals.
abbrev pub binding_conditions : Mutation → Schema → List Condition
binding_conditions (written.Insert table tuples) schema =
    record { holds = lacks_table table schema; refusal = NoSuchTable }
    ∷ record { holds = table_passes (λ t. list_any (has_type_mismatch t.definition.columns) tuples) table schema; refusal = TypeMismatch }
    ∷ record { holds = table_passes (λ t. list_any (has_other_length t.definition.columns) tuples) table schema; refusal = WrongNumberOfValues }
    ∷ []
binding_conditions (written.Update table assignments tests) schema =
    record { holds = lacks_table table schema; refusal = NoSuchTable } ∷ column_conditions (columns_named table schema) assignments tests
binding_conditions (written.Delete table tests) schema =
    record { holds = lacks_table table schema; refusal = NoSuchTable } ∷ column_conditions (columns_named table schema) [] tests

-- The assignments of a change of a table, with positions of columns.
abbrev pub assignments_for : List ℕ → Schema → List (Assignment (List ℕ)) → List (Assignment ℕ)
assignments_for table schema assignments = map (placed_assignment (columns_named table schema)) assignments

-- The tests of a change of a table, with positions of columns.
abbrev pub tests_for : List ℕ → Schema → List (Atom (List ℕ)) → List (Atom ℕ)
tests_for table schema tests = map (placed_atom (columns_named table schema)) tests

-- A column of the only table of a query.
abbrev pub at_first : ℕ → FieldPlace
at_first column = record { place = 0; column = column }

-- The tests of a change of a table, as atoms of a query of that table alone.
abbrev pub atoms_for : List ℕ → Schema → List (Atom (List ℕ)) → List (Atom FieldPlace)
atoms_for table schema tests = map (mapped_atom at_first) (tests_for table schema tests)

-- The tests read only the first `width` columns of a row.
abbrev pub TestsWithin : ℕ → List (Atom ℕ) → Type 0
TestsWithin width tests = All (λ (t : Atom ℕ). ReadsWithin width t.left t.right) tests

-- The right sides of the assignments read only the first `width` columns of a row.
abbrev pub AssignmentsWithin : ℕ → List (Assignment ℕ) → Type 0
AssignmentsWithin width assignments = All (λ (a : Assignment ℕ). IsWithin width a.source) assignments

-- A bound UPDATE: the positions of its table and its columns, all within the table. Its tests are atoms of a query.
pub record BindsUpdate (schema : Schema) (name : List ℕ) (assignments : List (Assignment (List ℕ))) (tests : List (Atom (List ℕ)))
    (place : ℕ) (placed : List (Assignment ℕ)) (asked : List (Atom FieldPlace)) : Type 0 where
  pub table : table_place name schema ≡ Some place
  pub assignments_placed : placed ≡ assignments_for name schema assignments
  pub tests_placed : asked ≡ atoms_for name schema tests
  pub assignments_within : AssignmentsWithin (length (columns_named name schema)) placed
  pub tests_within : TestsWithin (length (columns_named name schema)) (tests_for name schema tests)

-- A bound DELETE.
pub record BindsDelete (schema : Schema) (name : List ℕ) (tests : List (Atom (List ℕ))) (place : ℕ) (asked : List (Atom FieldPlace)) : Type 0 where
  pub table : table_place name schema ≡ Some place
  pub tests_placed : asked ≡ atoms_for name schema tests
  pub tests_within : TestsWithin (length (columns_named name schema)) (tests_for name schema tests)

-- The bound form of a change: positions in place of the names of its table and columns.
abbrev pub Binds : Schema → Mutation → BoundChange → Type 0
Binds schema (written.Insert name tuples) (bound.Insert place rows) = (table_place name schema ≡ Some place) × (rows ≡ tuples)
Binds schema (written.Update name assignments tests) (bound.Update place placed asked) = BindsUpdate schema name assignments tests place placed asked
Binds schema (written.Delete name tests) (bound.Delete place asked) = BindsDelete schema name tests place asked
Binds schema _ _ = ⊥
