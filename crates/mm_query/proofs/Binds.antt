-- A bound change in terms of the change.
use Rattle.std.proofs.Common.{◌≡◌, ℕ, ◌&&◌, List, [], ◌∷◌, Some, filter, map, refl, sym, ap, ◌∙◌}
use Rattle.mm_schema.specs.Rows.{additions}
use Rattle.mm_schema.specs.Schema.{Schema, table_place}
use Rattle.mm_value.specs.declared.values.Value.{Value}
use Rattle.mm_query.specs.Atoms.{holds, holds_of, operand_of, reads, updated_row}
use Rattle.mm_query.specs.Binding.{Binds, assignments_for, at_first, atoms_for, tests_for}
use Rattle.mm_query.specs.Edits.{changed_table, meets, own_pairs, removals, removals_of, updates}
use Rattle.mm_query.specs.Placing.{mapped_atom, mapped_operand}
use Rattle.mm_query.specs.Queries.{none_fails, value_at}
use Rattle.mm_query.specs.State.{State, rows_in}
use Rattle.mm_query.specs.declared.atom.Assignment.{Assignment}
use Rattle.mm_query.specs.declared.atom.Atom.{Atom}
use Rattle.mm_query.specs.declared.atom.Operand.{Operand}
use Rattle.mm_query.specs.declared.atom.Operand.TheVariants as operand
use Rattle.mm_query.specs.declared.bind.BoundChange.TheVariants as bound
use Rattle.mm_query.specs.declared.bound_query.FieldPlace.{FieldPlace}
use Rattle.mm_query.specs.declared.command.Mutation.{Mutation}
use Rattle.mm_query.specs.declared.command.Mutation.TheVariants as written

-- An operand and an atom of one table have the same values and truth at its only position, ..
operand_at_first : (row : List Value) (operand : Operand ℕ)
    → operand_of (value_at (Some row ∷ [])) (mapped_operand at_first operand) ≡ operand_of (reads row) operand
operand_at_first row (operand.Literal value) = refl
operand_at_first row (operand.Column column) = refl
operand_at_first row (operand.Shifted column by) = refl

pub holds_at_first : (row : List Value) (test : Atom ℕ) → holds (value_at (Some row ∷ [])) (mapped_atom at_first test) ≡ holds (reads row) test
holds_at_first row test = ap (holds_of test.comparison (reads row test.left)) (operand_at_first row test.right)

-- .. so a row matches tests if and only if none of them fails there.
pub meets_at_first : (tests : List (Atom ℕ)) (row : List Value) → none_fails (map (mapped_atom at_first) tests) (Some row ∷ []) ≡ meets tests row
meets_at_first [] row = refl
meets_at_first (test ∷ tests) row = λ i. holds_at_first row test i && meets_at_first tests row i

module _ (schema : Schema) where
  met : (name : List ℕ) (tests : List (Atom (List ℕ))) (atoms : List (Atom FieldPlace)) → atoms ≡ atoms_for name schema tests
      → meets (tests_for name schema tests) ≡ (λ (row : List Value). none_fails atoms (Some row ∷ []))
  met name tests atoms are i row = (sym (meets_at_first (tests_for name schema tests) row) ∙ ap (λ l. none_fails l (Some row ∷ [])) (sym are)) i

  -- The table's position is that of the name in the change.
  pub bound_place : (mutation : Mutation) (place : ℕ) (rows : List (List Value)) → Binds schema mutation (bound.Insert place rows)
      → table_place (changed_table mutation) schema ≡ Some place
  bound_place (written.Insert name tuples) place rows binds = binds.0
  bound_place (written.Update name assignments tests) place rows binds = absurd binds
  bound_place (written.Delete name tests) place rows binds = absurd binds

  -- The rows are the new rows of the change.
  pub bound_pairs : (mutation : Mutation) (place : ℕ) (rows : List (List Value)) (state : State) → Binds schema mutation (bound.Insert place rows)
      → own_pairs mutation state ≡ additions rows
  bound_pairs (written.Insert name tuples) place rows state binds = ap additions (sym binds.1)
  bound_pairs (written.Update name assignments tests) place rows state binds = absurd binds
  bound_pairs (written.Delete name tests) place rows state binds = absurd binds

  -- An UPDATE changes the rows by its bound assignments and tests, ..
  pub update_place : (mutation : Mutation) (place : ℕ) (assignments : List (Assignment ℕ)) (tests : List (Atom FieldPlace))
      → Binds schema mutation (bound.Update place assignments tests) → table_place (changed_table mutation) schema ≡ Some place
  update_place (written.Insert name tuples) place assignments tests binds = absurd binds
  update_place (written.Update name written_assignments written_tests) place assignments tests binds = binds.table
  update_place (written.Delete name written_tests) place assignments tests binds = absurd binds

  pub update_pairs : (mutation : Mutation) (place : ℕ) (assignments : List (Assignment ℕ)) (tests : List (Atom FieldPlace)) (state : State) → state.schema
      ≡ schema
      → Binds schema mutation (bound.Update place assignments tests)
      → own_pairs mutation state
      ≡ map (λ (row : List Value). (Some row, Some (updated_row assignments row)))
      (filter (λ row. none_fails tests (Some row ∷ [])) (rows_in state (changed_table mutation)))
  update_pairs (written.Insert name tuples) place assignments tests state same binds = absurd binds
  update_pairs (written.Update name written_assignments written_tests) place assignments tests state same binds =
      ap (λ s. updates (assignments_for name s written_assignments) (tests_for name s written_tests) (rows_in state name)) same
      ∙ λ i. map (λ (row : List Value). (Some row, Some (updated_row (sym binds.assignments_placed i) row)))
      (filter (met name written_tests tests binds.tests_placed i) (rows_in state name))
  update_pairs (written.Delete name written_tests) place assignments tests state same binds = absurd binds

  -- .. and a DELETE deletes them by its bound tests.
  pub delete_place : (mutation : Mutation) (place : ℕ) (tests : List (Atom FieldPlace)) → Binds schema mutation (bound.Delete place tests)
      → table_place (changed_table mutation) schema ≡ Some place
  delete_place (written.Insert name tuples) place tests binds = absurd binds
  delete_place (written.Update name written_assignments written_tests) place tests binds = absurd binds
  delete_place (written.Delete name written_tests) place tests binds = binds.table

  pub delete_pairs : (mutation : Mutation) (place : ℕ) (tests : List (Atom FieldPlace)) (state : State) → state.schema ≡ schema
      → Binds schema mutation (bound.Delete place tests) → own_pairs mutation state
      ≡ removals_of (filter (λ row. none_fails tests (Some row ∷ [])) (rows_in state (changed_table mutation)))
  delete_pairs (written.Insert name tuples) place tests state same binds = absurd binds
  delete_pairs (written.Update name written_assignments written_tests) place tests state same binds = absurd binds
  delete_pairs (written.Delete name written_tests) place tests state same binds =
      ap (λ s. removals (tests_for name s written_tests) (rows_in state name)) same
      ∙ λ i. removals_of (filter (met name written_tests tests binds.tests_placed i) (rows_in state name))
