-- Changes whose columns are resolved against their table.
use Rattle.std.proofs.Common.{◌≡◌, ℕ, false, cond, List, [], Option, Some, None, length, map, nat_lt, slice_get, sym, ap, subst, ◌∙◌}
use Rattle.std.specs.List.{list_any}
use Rattle.std.specs.Option.{option_map_or}
use Rattle.std.proofs.lemmas.Bool.{or_parts}
use Rattle.mm_schema.specs.Refused.{first_refusal}
use Rattle.mm_schema.specs.Schema.{Schema, columns_named, lacks_table, table_place}
use Rattle.mm_schema.specs.declared.column.Column.{Column}
use Rattle.mm_schema.specs.declared.table.Table.{Table}
use Rattle.mm_schema.proofs.Places.{table_at_place}
use Rattle.mm_value.specs.declared.refusal.Refusal.{Refusal}
use Rattle.mm_value.specs.declared.refusal.Refusal.TheVariants.{NameTaken, NoSuchColumn, NoSuchTable}
use Rattle.mm_query.specs.Binding.{AssignmentsWithin, BindsDelete, BindsUpdate, TestsWithin, assignments_for, at_first, atoms_for, tests_for}
use Rattle.mm_query.specs.Faults.{fault_conditions, noted}
use Rattle.mm_query.specs.Placing.{assignment_lacks_column, atom_lacks_column, column_conditions, has_duplicate_targets, mapped_atom, mismatches}
use Rattle.mm_query.specs.Placing.{placed_assignment, placed_atom, type_named}
use Rattle.mm_query.specs.declared.atom.Assignment.{Assignment}
use Rattle.mm_query.specs.declared.atom.Atom.{Atom}
use Rattle.mm_query.specs.declared.bound_query.FieldPlace.{FieldPlace}
use Rattle.mm_query.specs.declared.faults.Faults.{Faults}
use Rattle.mm_query.proofs.Due.{lacks_nowhere, not_lacking}
use Rattle.mm_query.proofs.Within.{assignments_within, tests_within}
use Rattle.mm_schema.proofs.References.{first_none}

-- the refusal of an UPDATE or a DELETE by the catalog
abbrev due_of : List ℕ → Schema → List (Assignment (List ℕ)) → List (Atom (List ℕ)) → Option Refusal
due_of name schema assignments tests = cond (lacks_table name schema) (Some NoSuchTable)
    (first_refusal (column_conditions (columns_named name schema) assignments tests))

-- Without a position there is no table, ..
pub refused_nowhere : (name : List ℕ) (schema : Schema) (assignments : List (Assignment (List ℕ))) (tests : List (Atom (List ℕ)))
    → table_place name schema ≡ None → due_of name schema assignments tests ≡ Some NoSuchTable
refused_nowhere name schema assignments tests nowhere =
    ap (λ b. cond b (Some NoSuchTable) (first_refusal (column_conditions (columns_named name schema) assignments tests))) (lacks_nowhere name schema nowhere)

-- If nothing is refused, no column is missing.
pub none_missing : (columns : List Column) (assignments : List (Assignment (List ℕ))) (tests : List (Atom (List ℕ)))
    → None ≡ first_refusal (column_conditions columns assignments tests)
    → (list_any (assignment_lacks_column columns) assignments ≡ false) × (list_any (atom_lacks_column columns) tests ≡ false)
none_missing columns assignments tests none =
    or_parts (list_any (assignment_lacks_column columns) assignments) (list_any (atom_lacks_column columns) tests) (first_none _ NoSuchColumn _ (sym none))

-- The errors of a change's form, assignments and tests refuse it, in terms of lists that were read before.
module _ (columns : List Column) (tests read : List (Atom (List ℕ))) (read_is : read ≡ tests) where
  abbrev with_tests : Faults → Faults
  with_tests faults = noted (list_any (atom_lacks_column columns) tests) false
      (list_any (λ (t : Atom (List ℕ)). mismatches (type_named columns) t.left t.right) tests) faults

  abbrev form_of : List (Assignment (List ℕ)) → List (Atom (List ℕ)) → Faults
  form_of assignments tests =
      record { column = false; duplicate = has_duplicate_targets assignments; alias = false; mismatch = false; too_many = nat_lt 16 (length tests) }

  pub due_of_update : (assignments first : List (Assignment (List ℕ))) → first ≡ assignments → (form then all : Faults) → form ≡ form_of first read
      → then ≡ noted (list_any (assignment_lacks_column columns) assignments) false
      (list_any (λ (a : Assignment (List ℕ)). mismatches (type_named columns) a.column a.source) assignments) form
      → all ≡ with_tests then → first_refusal (fault_conditions NameTaken all) ≡ first_refusal (column_conditions columns assignments tests)
  due_of_update assignments first first_is form then all form_is then_is all_is =
      ap (λ f. first_refusal (fault_conditions NameTaken f))
      (all_is ∙ ap with_tests (then_is ∙ ap (noted (list_any (assignment_lacks_column columns) assignments) false
      (list_any (λ (a : Assignment (List ℕ)). mismatches (type_named columns) a.column a.source) assignments))
      (form_is ∙ λ i. form_of (first_is i) (read_is i))))

  pub due_of_delete : (form all : Faults) → form ≡ form_of [] read → all ≡ with_tests form
      → first_refusal (fault_conditions NameTaken all) ≡ first_refusal (column_conditions columns [] tests)
  due_of_delete form all form_is all_is =
      ap (λ f. first_refusal (fault_conditions NameTaken f)) (all_is ∙ ap with_tests (form_is ∙ λ i. form_of [] (read_is i)))

-- .. and with a position the columns of the table there decide.
module _ (name : List ℕ) (schema : Schema) (place : ℕ) (table : Table) (placed : table_place name schema ≡ Some place)
    (there : slice_get schema.tables place ≡ Some table) (columns : List Column) (columns_are : columns ≡ table.definition.columns) where
  pub columns_at_place : columns_named name schema ≡ columns
  columns_at_place =
      ap (λ t. option_map_or (λ (u : Table). u.definition.columns) t []) (table_at_place name schema place placed ∙ there) ∙ sym columns_are

  pub due_by_columns : (assignments : List (Assignment (List ℕ))) (tests : List (Atom (List ℕ))) (due : Option Refusal)
      → due ≡ first_refusal (column_conditions columns assignments tests) → due_of name schema assignments tests ≡ due
  due_by_columns assignments tests due is =
      (λ i. cond (not_lacking name schema place table placed there i) (Some NoSuchTable)
      (first_refusal (column_conditions (columns_at_place i) assignments tests))) ∙ sym is

  module _ (tests : List (Atom (List ℕ))) (missing : list_any (atom_lacks_column columns) tests ≡ false) (asked : List (Atom FieldPlace))
      (asked_are : asked ≡ map (mapped_atom at_first) (map (placed_atom columns) tests)) where
    asked_here : asked ≡ atoms_for name schema tests
    asked_here = asked_are ∙ (λ i. map (mapped_atom at_first) (map (placed_atom (sym columns_at_place i)) tests))

    asked_within : TestsWithin (length (columns_named name schema)) (tests_for name schema tests)
    asked_within =
        subst (λ (cs : List Column). TestsWithin (length cs) (map (placed_atom cs) tests)) (sym columns_at_place) (tests_within columns tests missing)

    pub bound_delete : BindsDelete schema name tests place asked
    bound_delete = record { table = placed; tests_placed = asked_here; tests_within = asked_within }

    pub bound_update : (assignments : List (Assignment (List ℕ))) (assigned : List (Assignment ℕ))
        → list_any (assignment_lacks_column columns) assignments ≡ false → assigned ≡ map (placed_assignment columns) assignments
        → BindsUpdate schema name assignments tests place assigned asked
    bound_update assignments assigned there assigned_are =
        let here : assigned ≡ assignments_for name schema assignments = assigned_are ∙ (λ i. map (placed_assignment (sym columns_at_place i)) assignments) in
        record {
          table = placed;
          assignments_placed = here;
          tests_placed = asked_here;
          assignments_within = subst (AssignmentsWithin (length (columns_named name schema))) (sym here)
              (subst (λ (cs : List Column). AssignmentsWithin (length cs) (map (placed_assignment cs) assignments)) (sym columns_at_place)
              (assignments_within columns assignments there));
          tests_within = asked_within;
        }
