-- The deletions to which a DELETE cascades, in every state that commands lead to.
use Rattle.std.proofs.Common.{◌≡◌, ℕ, Bool, true, false, List, [], ◌∷◌, None, filter}
use Rattle.std.specs.List.{Contains}
use Rattle.mm_schema.specs.Indexes.{table_with_index, table_without_index}
use Rattle.mm_schema.specs.Instance.{Instance}
use Rattle.mm_schema.specs.References.{RefersBack, cascading_of, refers}
use Rattle.mm_schema.specs.Refused.{first_refusal}
use Rattle.mm_schema.specs.Schema.{Schema, key_named}
use Rattle.mm_schema.specs.declared.table.Table.{Table}
use Rattle.mm_schema.proofs.Instances.{beside_from_order}
use Rattle.mm_schema.proofs.References.{same_with, same_without}
use Rattle.mm_schema.proofs.StrictOrder.{Contains-from_IsIn, IsIn-from_Contains}
use Rattle.mm_schema.proofs.Duplicates.{Row}
use Rattle.mm_query.specs.Binding.{tests_for}
use Rattle.mm_query.specs.Edits.{edits, is_cascaded, meets, old_rows, own_edits}
use Rattle.mm_query.specs.Machine.{after_all, after_change, after_definition, change_conditions, definition_conditions}
use Rattle.mm_query.specs.State.{State, first_state, rows_in}
use Rattle.mm_query.specs.declared.atom.Atom.{Atom}
use Rattle.mm_query.specs.declared.command.Command.{Command}
use Rattle.mm_query.specs.declared.command.Definition.{Definition}
use Rattle.mm_query.specs.declared.command.Definition.TheVariants as define
use Rattle.mm_query.specs.declared.command.Mutation.{Mutation}
use Rattle.mm_query.specs.declared.command.Mutation.TheVariants.{Delete}
use Rattle.mm_laws.proofs.Cascaded.{cascades_hold, each_old, filter_holds}
use Rattle.mm_laws.proofs.ClosedCascades.{none_is_cascaded}
use Rattle.mm_laws.proofs.KeyOrder.{IsKept, kept_at_first, kept_by_change, kept_by_definition}
use Rattle.mm_laws.proofs.OlderTables.{older_with_definitions, older_with_table, older_without_table}
use Rattle.mm_laws.proofs.Removals.{removals_remove}
use Rattle.mm_laws.proofs.Throughout.{HoldsThroughout, held_by_all}

-- ---- columns refer to older tables

older_by_definition : (definition : Definition) (state : State) → first_refusal (definition_conditions definition state) ≡ None
    → RefersBack [] state.schema.tables → RefersBack [] (after_definition definition state).schema.tables
older_by_definition (define.Table definition) state due back = older_with_table definition state.schema due back
older_by_definition (define.DropTable name) state due back = older_without_table name state.schema due back
older_by_definition (define.Index index) state due back = older_with_definitions (table_with_index index) (same_with index) [] state.schema.tables back
older_by_definition (define.DropIndex name) state due back = older_with_definitions (table_without_index name) (same_without name) [] state.schema.tables back
older_by_definition (define.Watch watched) state due back = back
older_by_definition (define.Unwatch name) state due back = back

-- the invariant of a catalog and rows at each step
record IsInTurn (schema : Schema) (rows : Instance) : Type 0 where
  kept : IsKept schema rows
  back : RefersBack [] schema.tables

in_turn_by_definition : (definition : Definition) (state : State) → first_refusal (definition_conditions definition state) ≡ None
    → IsInTurn state.schema state.rows → IsInTurn (after_definition definition state).schema (after_definition definition state).rows
in_turn_by_definition definition state due is =
    record { kept = kept_by_definition definition state due is.kept; back = older_by_definition definition state due is.back }

in_turn_by_change : (mutation : Mutation) (state : State) → first_refusal (change_conditions mutation state) ≡ None
    → IsInTurn state.schema state.rows → IsInTurn state.schema (after_change mutation state).rows
in_turn_by_change mutation state due is = record { kept = kept_by_change mutation state due is.kept; back = is.back }

reached : (commands : List Command) → HoldsThroughout IsInTurn (after_all commands first_state)
reached commands =
    held_by_all IsInTurn in_turn_by_definition in_turn_by_change commands first_state (record { rows = record { kept = kept_at_first; back = tt }; saved = tt })

-- ---- the laws

-- A deletion cascades to no remaining row.
pub none_left : (commands : List Command) (name : List ℕ) (tests : List (Atom (List ℕ))) (table : Table) (row : Row)
    → let state = after_all commands first_state in
    Contains state.schema.tables table → Contains (rows_in (after_change (Delete name tests) state) table.definition.name) row
    → is_cascaded state.schema (edits (Delete name tests) state) table.definition.columns row ≡ false
none_left commands name tests table row there here =
    let state = after_all commands first_state in
    let is = (reached commands).rows in
    none_is_cascaded state.schema state.rows (own_edits (Delete name tests) state ∷ [])
    (removals_remove (filter (meets (tests_for name state.schema tests)) (rows_in state name)), tt)
    (beside_from_order state.schema.tables state.rows is.kept.order) is.back is.kept.distinct table (IsIn-from_Contains state.schema.tables table there) row
    (IsIn-from_Contains (rows_in (after_change (Delete name tests) state) table.definition.name) row here)

-- A closed test that holds of the rows that a DELETE names holds of all deleted rows.
pub no_others : (passes : List ℕ → Row → Bool) (name : List ℕ) (tests : List (Atom (List ℕ))) (state : State)
    → ((row : Row) → meets (tests_for name state.schema tests) row ≡ true → passes name row ≡ true)
    → ((table : Table) (row target : Row) (r : ℕ × List ℕ) → Contains (cascading_of table.definition.columns) r
    → refers r.0 (key_named r.1 state.schema) row target ≡ true → passes r.1 target ≡ true → passes table.definition.name row ≡ true)
    → (table : List ℕ) (row : Row) → Contains (old_rows table (edits (Delete name tests) state)) row → passes table row ≡ true
no_others passes name tests state own closed table row here =
    each_old passes (edits (Delete name tests) state)
    (cascades_hold passes state.schema (λ t r column target among. closed t r target column
    (Contains-from_IsIn (cascading_of t.definition.columns) column among))
    state.schema.tables state.rows (own_edits (Delete name tests) state ∷ [])
    (filter_holds (meets (tests_for name state.schema tests)) (passes name) own (rows_in state name), tt))
    table row (IsIn-from_Contains (old_rows table (edits (Delete name tests) state)) row here)
