-- Every state that commands lead to has each table's rows strictly in key order.
use Rattle.std.proofs.Common.{◌≡◌, ℕ, Bool, true, false, List, [], ◌∷◌, ◌++◌, filter, map, None, refl, subst, sym}
use Rattle.std.specs.List.{IsDistinct}
use Rattle.std.specs.Prelude.{IfSome}
use Rattle.mm_schema.specs.Columns.{key_place}
use Rattle.mm_schema.specs.Indexes.{table_with_index, table_without_index}
use Rattle.mm_schema.specs.Instance.{AreInKeyOrder, Instance, TableEdits}
use Rattle.mm_schema.specs.Name.{same_name}
use Rattle.mm_schema.specs.Refused.{Condition, ascend, first_refusal}
use Rattle.mm_schema.specs.Rows.{has_duplicate_keys, table_rows_conditions}
use Rattle.mm_schema.specs.Schema.{HasDistinctNames, Schema, key_named}
use Rattle.mm_schema.specs.declared.table.Table.{Table}
use Rattle.mm_schema.specs.declared.table.TableDef.{TableDef}
use Rattle.mm_schema.proofs.Dues.{none_due_behind}
use Rattle.mm_schema.proofs.Instances.{AreInKeyOrder-changed, AreInKeyOrder-kept, AreInKeyOrder-push, AreInKeyOrder-without, IsDistinct-push}
use Rattle.mm_schema.proofs.Instances.{IsDistinct-without, names_kept}
use Rattle.mm_schema.proofs.References.{first_none, same_with, same_without}
use Rattle.mm_schema.proofs.Places.{new_name_is_free}
use Rattle.mm_schema.proofs.StrictOrder.{IsStrictlySortedBy-nil}
use Rattle.mm_schema.proofs.Duplicates.{Row, column_cmp_total}
use Rattle.mm_value.specs.declared.refusal.Refusal.TheVariants.{DuplicateKey}
use Rattle.mm_query.specs.Binding.{binding_conditions, tests_for}
use Rattle.mm_query.specs.Edits.{changed_table, edits, meets, own_edits, own_pairs, value_conditions}
use Rattle.mm_query.specs.Machine.{after_all, after_change, after_definition, after_edits, change_conditions, conditions, definition_conditions}
use Rattle.mm_query.specs.Machine.{row_conditions, some_is_referred, some_lacks_target}
use Rattle.mm_query.specs.Standing.{growth_conditions}
use Rattle.mm_query.specs.State.{AreSavedRows, State, first_state, rows_in}
use Rattle.mm_query.specs.declared.command.Command.{Command}
use Rattle.mm_query.specs.declared.command.Command.TheVariants.{Nothing, Define, Change, Scan, ScanIndex, Select, Explain, Show, Tables, Begin, Commit}
use Rattle.mm_query.specs.declared.command.Command.TheVariants.{Rollback, Savepoint as SetSavepoint, RollbackTo}
use Rattle.mm_query.specs.declared.command.Definition.{Definition}
use Rattle.mm_query.specs.declared.command.Definition.TheVariants as define
use Rattle.mm_query.specs.declared.command.Mutation.{Mutation}
use Rattle.mm_query.specs.declared.command.Mutation.TheVariants.{Insert, Update, Delete}
use Rattle.mm_laws.proofs.Removals.{AreInKeyOrder-all_removed, cascades_remove, removals_remove}
use Rattle.mm_laws.proofs.Throughout.{each_held, HoldsThroughout, held_by_all}

-- Each command's conditions are in the one order.
pub ascending : (command : Command) (state : State) → ascend (conditions command state) ≡ true
ascending Nothing state = refl
ascending (Define (define.Table definition)) state = refl
ascending (Define (define.DropTable name)) state = refl
ascending (Define (define.Index index)) state = refl
ascending (Define (define.DropIndex name)) state = refl
ascending (Define (define.Watch watched)) state = refl
ascending (Define (define.Unwatch name)) state = refl
ascending (Change (Insert table tuples)) state = refl
ascending (Change (Update table assignments tests)) state = refl
ascending (Change (Delete table tests)) state = refl
ascending (Scan table) state = refl
ascending (ScanIndex index) state = refl
ascending (Select query) state = refl
ascending (Explain query) state = refl
ascending (Show name) state = refl
ascending Tables state = refl
ascending Begin state = refl
ascending Commit state = refl
ascending Rollback state = refl
ascending (SetSavepoint name) state = refl
ascending (RollbackTo name) state = refl

-- the invariant of a catalog and rows at each step: no two tables have one name, and the rows of each are in key order
pub record IsKept (schema : Schema) (rows : Instance) : Type 0 where
  pub distinct : HasDistinctNames schema
  pub order : AreInKeyOrder schema.tables rows

kept_by_table : (definition : TableDef) (state : State) → first_refusal (definition_conditions (define.Table definition) state) ≡ None
    → IsKept state.schema state.rows
    → IsKept (after_definition (define.Table definition) state).schema (after_definition (define.Table definition) state).rows
kept_by_table definition state due kept =
    let table : Table = record { definition = definition; indexes = [] } in
    record {
      distinct = IsDistinct-push table state.schema.tables (new_name_is_free definition state.schema due) kept.distinct;
      order = AreInKeyOrder-push state.schema.tables state.rows table [] kept.order
          (IsStrictlySortedBy-nil (column_cmp_total (key_place definition.columns)));
    }

kept_by_drop_table : (name : List ℕ) (state : State) → IsKept state.schema state.rows
    → IsKept (after_definition (define.DropTable name) state).schema (after_definition (define.DropTable name) state).rows
kept_by_drop_table name state kept = record {
  distinct = IsDistinct-without name state.schema.tables kept.distinct;
  order = AreInKeyOrder-without name state.schema.tables state.rows kept.order;
}

-- If each table keeps its definition and all rows stay, names are still distinct and rows in key order.
kept_with_definitions : (change : Table → Table) → ((t : Table) → (change t).definition ≡ t.definition) → (state : State) → IsKept state.schema state.rows
    → IsKept (record state.schema { tables = map change state.schema.tables }) state.rows
kept_with_definitions change same state kept = record {
  distinct = subst (IsDistinct same_name) (sym (names_kept change same state.schema.tables)) kept.distinct;
  order = AreInKeyOrder-kept change same state.schema.tables state.rows kept.order;
}

pub kept_by_definition : (definition : Definition) (state : State) → first_refusal (definition_conditions definition state) ≡ None
    → IsKept state.schema state.rows → IsKept (after_definition definition state).schema (after_definition definition state).rows
kept_by_definition (define.Table definition) state due kept = kept_by_table definition state due kept
kept_by_definition (define.DropTable name) state due kept = kept_by_drop_table name state kept
kept_by_definition (define.Index index) state due kept = kept_with_definitions (table_with_index index) (same_with index) state kept
kept_by_definition (define.DropIndex name) state due kept = kept_with_definitions (table_without_index name) (same_without name) state kept
kept_by_definition (define.Watch watched) state due kept = record { distinct = kept.distinct; order = kept.order }
kept_by_definition (define.Unwatch name) state due kept = record { distinct = kept.distinct; order = kept.order }

no_duplicates : (key : ℕ) (rows : List Row) (lacks referred : Bool) (behind : List Condition)
    → first_refusal (table_rows_conditions key rows lacks referred ++ behind) ≡ None → has_duplicate_keys key rows ≡ false
no_duplicates key rows lacks referred behind due = first_none (has_duplicate_keys key rows) DuplicateKey _ due

-- If nothing refuses a change, neither its rows nor the standing queries do.
pub none_due_by_rows : (mutation : Mutation) (state : State) → first_refusal (change_conditions mutation state) ≡ None
    → first_refusal (row_conditions (changed_table mutation) (edits mutation state) (after_change mutation state)
    ++ growth_conditions (after_change mutation state)) ≡ None
none_due_by_rows mutation state due =
    let by_rows =
    row_conditions (changed_table mutation) (edits mutation state) (after_change mutation state)
    ++ growth_conditions (after_change mutation state) in
    none_due_behind (value_conditions mutation state) by_rows
    (none_due_behind (binding_conditions mutation state.schema) (value_conditions mutation state ++ by_rows) due)

module _ (mutation : Mutation) (state : State) (due : first_refusal (change_conditions mutation state) ≡ None) (kept : IsKept state.schema state.rows)
    (one : edits mutation state ≡ own_edits mutation state ∷ []) where
  -- A change of one table leaves it in key order, since no two of its rows have one key.
  order_of_one : AreInKeyOrder state.schema.tables (after_change mutation state).rows
  order_of_one =
      subst (λ (es : List TableEdits). AreInKeyOrder state.schema.tables (after_edits state.schema.tables es state.rows)) (sym one)
      (AreInKeyOrder-changed (changed_table mutation) (own_pairs mutation state) state.schema.tables state.rows kept.order kept.distinct
      (subst (λ (es : List TableEdits). has_duplicate_keys (key_named (changed_table mutation) state.schema)
      (rows_in (record state { rows = after_edits state.schema.tables es state.rows }) (changed_table mutation)) ≡ false) one
      (no_duplicates (key_named (changed_table mutation) state.schema) (rows_in (after_change mutation state) (changed_table mutation))
      (some_lacks_target (changed_table mutation) (after_change mutation state)) (some_is_referred (edits mutation state) (after_change mutation state))
      (growth_conditions (after_change mutation state))
      (none_due_by_rows mutation state due))))

order_after : (mutation : Mutation) (state : State) → first_refusal (change_conditions mutation state) ≡ None → IsKept state.schema state.rows
    → AreInKeyOrder state.schema.tables (after_change mutation state).rows
order_after (Insert table tuples) state due kept = order_of_one (Insert table tuples) state due kept refl
order_after (Update table assignments tests) state due kept = order_of_one (Update table assignments tests) state due kept refl
order_after (Delete table tests) state due kept =
    AreInKeyOrder-all_removed state.schema.tables (edits (Delete table tests) state) state.rows
    (cascades_remove state.schema state.schema.tables state.rows (own_edits (Delete table tests) state ∷ [])
    (removals_remove (filter (meets (tests_for table state.schema tests)) (rows_in state table)), tt))
    kept.order

pub kept_by_change : (mutation : Mutation) (state : State) → first_refusal (change_conditions mutation state) ≡ None → IsKept state.schema state.rows
    → IsKept state.schema (after_change mutation state).rows
kept_by_change mutation state due kept = record { distinct = kept.distinct; order = order_after mutation state due kept }

-- ---- every state

pub kept_at_first : IsKept first_state.schema first_state.rows
unfolding IsDistinct
kept_at_first = record { distinct = tt; order = tt }

reached : (commands : List Command) → HoldsThroughout IsKept (after_all commands first_state)
reached commands = held_by_all IsKept kept_by_definition kept_by_change commands first_state (record { rows = kept_at_first; saved = tt })

-- So rows are in key order in every state that commands lead to from the first, ..
pub reached_in_order : (commands : List Command) → AreInKeyOrder (after_all commands first_state).schema.tables (after_all commands first_state).rows
reached_in_order commands = (reached commands).rows.order

-- .. and so are the saved rows.
pub saved_in_order : (commands : List Command)
    → IfSome (after_all commands first_state).saved (AreSavedRows (AreInKeyOrder (after_all commands first_state).schema.tables))
saved_in_order commands =
    each_held (IsKept (after_all commands first_state).schema) (AreInKeyOrder (after_all commands first_state).schema.tables)
    (λ rows held. held.order) (after_all commands first_state).saved (reached commands).saved
