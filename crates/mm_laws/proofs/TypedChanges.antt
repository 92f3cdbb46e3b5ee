-- A change of rows that the catalog does not refuse has only new rows of the types of their columns.
use Rattle.std.proofs.Common.{◌≡◌, ℕ, false, List, [], ◌∷◌, Option, Some, None, filter, find, is_none, sym, subst}
use Rattle.std.specs.List.{All, list_any}
use Rattle.std.specs.Option.{option_map_or}
use Rattle.std.proofs.lemmas.Bool.{or_parts}
use Rattle.std.proofs.lemmas.List.Elements.{All-filter, All-nil, All-weaker}
use Rattle.mm_schema.specs.Instance.{Instance, TableEdits, changed_instance}
use Rattle.mm_schema.specs.Refused.{first_refusal}
use Rattle.mm_schema.specs.Schema.{HasDistinctNames, Schema, columns_named}
use Rattle.mm_schema.specs.declared.table.Table.{Table}
use Rattle.mm_schema.proofs.Duplicates.{Row}
use Rattle.mm_query.specs.Binding.{assignments_for, binding_conditions, has_other_length, has_type_mismatch, tests_for}
use Rattle.mm_query.specs.Edits.{edits, meets, own_edits, own_pairs}
use Rattle.mm_query.specs.Atoms.{updated_row}
use Rattle.mm_query.specs.Machine.{after_change, after_edits}
use Rattle.mm_query.specs.Placing.{assignment_lacks_column, atom_lacks_column, mismatches, type_named}
use Rattle.mm_query.specs.State.{State, rows_in}
use Rattle.mm_query.specs.declared.atom.Assignment.{Assignment}
use Rattle.mm_query.specs.declared.atom.Atom.{Atom}
use Rattle.mm_query.specs.declared.command.Mutation.{Mutation}
use Rattle.mm_query.specs.declared.command.Mutation.TheVariants.{Insert, Update, Delete}
use Rattle.mm_query.proofs.PlacedQueries.{none_hold}
use Rattle.mm_laws.proofs.Removals.{EachRemoves, cascades_remove, none_comes, removals_remove}
use Rattle.mm_laws.specs.Typing.{AreTyped, HasTypes}
use Rattle.mm_laws.proofs.TypedAssignments.{all_fit, updated_typed}
use Rattle.mm_laws.proofs.NamedRows.{has}
use Rattle.mm_laws.proofs.TypedPlaces.{columns_in}
use Rattle.mm_laws.proofs.TypedRows.{coming, coming_added, coming_changed, tuples_typed}
use Rattle.mm_laws.proofs.TypedTables.{named_typed, typed_changed}

-- The tuples of an INSERT have the types of the columns of its table.
inserted_typed : (tuples : List Row) (found : Option Table) → is_none found ≡ false
    → option_map_or (λ (t : Table). list_any (has_type_mismatch t.definition.columns) tuples) found false ≡ false
    → option_map_or (λ (t : Table). list_any (has_other_length t.definition.columns) tuples) found false ≡ false
    → All (HasTypes (columns_in found)) tuples
inserted_typed tuples None there same long = cc
inserted_typed tuples (Some t) there same long = tuples_typed t.definition.columns tuples same long

-- If rows are only deleted, the others still have the types of their columns.
typed_all_removed : (schema : Schema) (gone : List TableEdits) (rows : Instance) → EachRemoves gone → HasDistinctNames schema
    → AreTyped schema.tables rows → AreTyped schema.tables (after_edits schema.tables gone rows)
typed_all_removed schema [] rows none distinct typed = typed
typed_all_removed schema (e ∷ es) rows none distinct typed =
    typed_all_removed schema es (changed_instance schema.tables (e ∷ []) rows) none.1 distinct
    (typed_changed e.table e.pairs schema.tables rows typed distinct
    (subst (All (HasTypes (columns_named e.table schema))) (sym (none_comes e.pairs none.0)) (All-nil _)))

module _ (state : State) (typed : AreTyped state.schema.tables state.rows) where
  module _ (table : List ℕ) (assignments : List (Assignment (List ℕ))) (tests : List (Atom (List ℕ))) where
    -- The new rows of an UPDATE have these types too.
    changed_rows_typed : first_refusal (binding_conditions (Update table assignments tests) state.schema) ≡ None
        → All (HasTypes (columns_named table state.schema)) (coming (own_pairs (Update table assignments tests) state))
    changed_rows_typed due =
        let columns = columns_named table state.schema in
        let hold = none_hold (binding_conditions (Update table assignments tests) state.schema) due in
        let there = or_parts (list_any (assignment_lacks_column columns) assignments) (list_any (atom_lacks_column columns) tests) hold.1.0 in
        let same = or_parts (list_any (λ (a : Assignment (List ℕ)). mismatches (type_named columns) a.column a.source) assignments)
        (list_any (λ (t : Atom (List ℕ)). mismatches (type_named columns) t.left t.right) tests) hold.1.1.1.0 in
        let picked = filter (meets (tests_for table state.schema tests)) (rows_in state table) in
        coming_changed (HasTypes columns) (updated_row (assignments_for table state.schema assignments)) picked
        (All-weaker (HasTypes columns) _
        (λ row has. updated_typed columns row has (assignments_for table state.schema assignments) (all_fit columns row has assignments there.0 same.0))
        picked
        (All-filter (meets (tests_for table state.schema tests)) (HasTypes columns) (rows_in state table)
        (named_typed table state.schema.tables state.rows typed)))

  -- So have the tuples of an INSERT.
  tuples_fit : (table : List ℕ) (tuples : List Row) → first_refusal (binding_conditions (Insert table tuples) state.schema) ≡ None
      → All (HasTypes (columns_named table state.schema)) (coming (own_pairs (Insert table tuples) state))
  tuples_fit table tuples due =
      let hold = none_hold (binding_conditions (Insert table tuples) state.schema) due in
      subst (All (HasTypes (columns_named table state.schema))) (sym (coming_added tuples))
      (inserted_typed tuples (find (has table) state.schema.tables) hold.0 hold.1.0 hold.1.1.0)

  -- So all rows have their types after a change. A DELETE has no new row, in none of the tables that it affects.
  pub typed_by_change : (mutation : Mutation) → HasDistinctNames state.schema → first_refusal (binding_conditions mutation state.schema) ≡ None
      → AreTyped state.schema.tables (after_change mutation state).rows
  typed_by_change (Insert table tuples) distinct due =
      typed_changed table (own_pairs (Insert table tuples) state) state.schema.tables state.rows typed distinct (tuples_fit table tuples due)
  typed_by_change (Update table assignments tests) distinct due =
      typed_changed table (own_pairs (Update table assignments tests) state) state.schema.tables state.rows typed distinct
      (changed_rows_typed table assignments tests due)
  typed_by_change (Delete table tests) distinct due =
      typed_all_removed state.schema (edits (Delete table tests) state) state.rows
      (cascades_remove state.schema state.schema.tables state.rows (own_edits (Delete table tests) state ∷ [])
      (removals_remove (filter (meets (tests_for table state.schema tests)) (rows_in state table)), tt)) distinct typed
