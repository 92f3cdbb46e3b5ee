-- In every state that commands lead to, each value of a foreign key is the key of a row of the table that it refers to.
use Rattle.std.proofs.Common.{◌≡◌, ℕ, Bool, true, false, cond, not, ◌&&◌, List, [], ◌∷◌, ◌++◌, Option, Some, None, filter, find, map, inl, inr, refl, sym, ap}
use Rattle.std.proofs.Common.{subst, ◌∙◌}
use Rattle.std.specs.List.{AllByRecursion, list_any}
use Rattle.std.specs.Option.{option_map_or}
use Rattle.std.specs.Prelude.{IfSome}
use Rattle.std.proofs.lemmas.Bool.{cases_Bool, or_parts}
use Rattle.std.proofs.lemmas.List.Elements.{All-nil}
use Rattle.mm_schema.specs.Columns.{key_place}
use Rattle.mm_schema.specs.Indexes.{table_with_index, table_without_index}
use Rattle.mm_schema.specs.Instance.{Instance}
use Rattle.mm_schema.specs.Name.{same_name}
use Rattle.mm_schema.specs.References.{HasTargets}
use Rattle.mm_schema.specs.Refused.{Condition, first_refusal}
use Rattle.mm_schema.specs.Rows.{has_duplicate_keys, table_rows_conditions}
use Rattle.mm_schema.specs.Schema.{Schema, drop_table_conditions, is_other_referring_to, key_named, lacks_table, reads_table}
use Rattle.mm_schema.specs.declared.column.Column.{Column}
use Rattle.mm_schema.specs.declared.table.Table.{Table}
use Rattle.mm_schema.specs.declared.table.TableDef.{TableDef}
use Rattle.mm_schema.proofs.Instances.{AreBeside, beside_from_order, name_of}
use Rattle.mm_schema.proofs.NameLemmas.{same_bytes}
use Rattle.mm_schema.proofs.References.{same_with, same_without, second_none, targets_added, targets_indexed, targets_left, targets_unindexed}
use Rattle.mm_schema.proofs.StrictOrder.{IsIn}
use Rattle.mm_schema.proofs.Duplicates.{Row}
use Rattle.mm_value.specs.declared.refusal.Refusal.{Refusal}
use Rattle.mm_query.specs.Binding.{tests_for}
use Rattle.mm_query.specs.Edits.{changed_table, edits, meets, own_edits}
use Rattle.mm_query.specs.Machine.{after_all, after_change, after_definition, change_conditions, definition_conditions, some_is_referred, some_lacks_target}
use Rattle.mm_query.specs.Standing.{growth_conditions}
use Rattle.mm_query.specs.State.{AreSavedRows, State, first_state, rows_in}
use Rattle.mm_query.specs.declared.command.Command.{Command}
use Rattle.mm_query.specs.declared.command.Definition.{Definition}
use Rattle.mm_query.specs.declared.command.Definition.TheVariants as define
use Rattle.mm_query.specs.declared.command.Mutation.{Mutation}
use Rattle.mm_query.specs.declared.command.Mutation.TheVariants.{Insert, Update, Delete}
use Rattle.mm_query.proofs.FoundTargets.{none_among}
use Rattle.mm_laws.proofs.KeyOrder.{IsKept, kept_at_first, kept_by_change, kept_by_definition, none_due_by_rows}
use Rattle.mm_laws.proofs.NamedRows.{has, no_rows_behind, rows_behind, rows_gone, rows_kept, rows_left, table_behind, table_left, told_kept}
use Rattle.mm_laws.proofs.Removals.{cascades_remove, removals_remove}
use Rattle.mm_laws.proofs.StillFound.{AddsNone, AllFindTargets, adds_none, column_of, fails_of_each, found_after, found_again, no_row_lacks, references_in}
use Rattle.mm_laws.proofs.StillFound.{same_target, target_there}
use Rattle.mm_laws.proofs.Throughout.{each_held, HoldsThroughout, held_by_all}

-- ---- changes of the catalog

-- the columns and the key of a table that is found
abbrev columns_of : Option Table → List Column
columns_of table = option_map_or (λ t. t.definition.columns) table []

abbrev key_of : Option Table → ℕ
key_of table = option_map_or (λ t. key_place t.definition.columns) table 0

-- A new table has no rows, and no other refers to it.
found_with_table : (definition : TableDef) (state : State) → AreBeside state.schema.tables state.rows → HasTargets state.schema → AllFindTargets state
    → AllFindTargets (after_definition (define.Table definition) state)
found_with_table definition state beside targets found name =
    let table : Table = record { definition = definition; indexes = [] } in
    let tables = state.schema.tables in
    let new = after_definition (define.Table definition) state in
    elim (cases_Bool (lacks_table name state.schema)) [
      | inl none ↦ no_row_lacks new name (no_rows_behind name table tables state.rows beside none)
      | inr there ↦
          found_again state new name (ap columns_of (table_behind name table tables there)) (rows_behind name table tables state.rows beside there)
          (λ r column row here is.
          let its = target_there state.schema targets name r column in
          same_target state new r row (ap key_of (table_behind r.1 table tables its)) (rows_behind r.1 table tables state.rows beside its) is)
          (found name)
    ]

neither : (a b : Bool) → (not a && b) ≡ false → a ≡ false → b ≡ false
neither true b none other = cc
neither false b none other = none

-- No other table refers to a dropped table.
not_to_dropped : (gone : List ℕ) (state : State) → list_any (is_other_referring_to gone) state.schema.tables ≡ false → (name : List ℕ)
    → same_name gone name ≡ false → (r : ℕ × List ℕ) → IsIn r (references_in state name) → same_name gone r.1 ≡ false
not_to_dropped gone state unused name other r column =
    let found = column_of name state.schema.tables r (find (has name) state.schema.tables) refl column in
    let differs : same_name gone (name_of found.0) ≡ false = ap (same_name gone) (sym (same_bytes name (name_of found.0) found.2)) ∙ other in
    fails_of_each (same_name gone) 0 found.0.definition.columns
    (neither _ _ (none_among (is_other_referring_to gone) state.schema.tables found.0 found.1 unused) differs) r found.3

found_without_table : (gone : List ℕ) (state : State) → first_refusal (drop_table_conditions gone state.schema) ≡ None → AllFindTargets state
    → AllFindTargets (after_definition (define.DropTable gone) state)
found_without_table gone state due found name =
    let tables = state.schema.tables in
    let new = after_definition (define.DropTable gone) state in
    elim (cases_Bool (same_name gone name)) [
      | inl same ↦ no_row_lacks new name (subst (λ n. rows_in new n ≡ []) (same_bytes gone name same) (rows_gone gone tables state.rows))
      | inr other ↦
          found_again state new name (ap columns_of (table_left gone name other tables)) (rows_left gone name other tables state.rows)
          (λ r column row here is.
          let apart = not_to_dropped gone state (or_parts (list_any (is_other_referring_to gone) state.schema.tables)
          (list_any (reads_table gone) state.schema.standing)
          (second_none _ _ _ _ _ due)).0 name other r column in
          same_target state new r row (ap key_of (table_left gone r.1 apart tables)) (rows_left gone r.1 apart tables state.rows) is)
          (found name)
    ]

-- If each table keeps its definition and all rows stay, so do all targets.
found_with_definitions : (change : Table → Table) → ((t : Table) → (change t).definition ≡ t.definition) → (state : State) → AllFindTargets state
    → AllFindTargets (record state { schema = record state.schema { tables = map change state.schema.tables } })
found_with_definitions change same state found name =
    let tables = state.schema.tables in
    let new : State = record state { schema = record state.schema { tables = map change tables } } in
    found_again state new name (told_kept change same name (λ d. d.columns) [] tables) (rows_kept change same name tables state.rows)
    (λ r column row here is.
    same_target state new r row (told_kept change same r.1 (λ d. key_place d.columns) 0 tables) (rows_kept change same r.1 tables state.rows) is)
    (found name)

-- ---- changes of rows

third_none : (a b c : Bool) (r s q : Refusal) (rest : Option Refusal) → cond a (Some r) (cond b (Some s) (cond c (Some q) rest)) ≡ None → c ≡ false
third_none true b c r s q rest h = cc
third_none false b c r s q rest h = second_none b c s q rest h

neither_refused : (key : ℕ) (rows : List Row) (lacks referred : Bool) (behind : List Condition)
    → first_refusal (table_rows_conditions key rows lacks referred ++ behind) ≡ None → (lacks ≡ false) × (referred ≡ false)
neither_refused key rows lacks referred behind due = (
  second_none (has_duplicate_keys key rows) _ _ _ _ due,
  third_none (has_duplicate_keys key rows) _ _ _ _ _ _ due,
)

-- ---- every step

-- the invariant of a catalog and rows at each step
record IsReferential (schema : Schema) (rows : Instance) : Type 0 where
  kept : IsKept schema rows
  targets : HasTargets schema
  found : AllFindTargets (record { schema = schema; rows = rows; queries = []; saved = None })

beside_of : (state : State) → IsKept state.schema state.rows → AreBeside state.schema.tables state.rows
beside_of state kept = beside_from_order state.schema.tables state.rows kept.order

targets_by_definition : (definition : Definition) (state : State) → first_refusal (definition_conditions definition state) ≡ None
    → HasTargets state.schema → HasTargets (after_definition definition state).schema
targets_by_definition (define.Table definition) state due targets = targets_added definition state.schema targets due
targets_by_definition (define.DropTable name) state due targets = targets_left name state.schema targets due
targets_by_definition (define.Index index) state due targets = targets_indexed index state.schema targets
targets_by_definition (define.DropIndex name) state due targets = targets_unindexed name state.schema targets
targets_by_definition (define.Watch watched) state due targets = targets
targets_by_definition (define.Unwatch name) state due targets = targets

found_by_definition : (definition : Definition) (state : State) → first_refusal (definition_conditions definition state) ≡ None
    → IsReferential state.schema state.rows → AllFindTargets (after_definition definition state)
found_by_definition (define.Table definition) state due is = found_with_table definition state (beside_of state is.kept) is.targets is.found
found_by_definition (define.DropTable name) state due is = found_without_table name state due is.found
found_by_definition (define.Index index) state due is = found_with_definitions (table_with_index index) (same_with index) state is.found
found_by_definition (define.DropIndex name) state due is = found_with_definitions (table_without_index name) (same_without name) state is.found
found_by_definition (define.Watch watched) state due is = is.found
found_by_definition (define.Unwatch name) state due is = is.found

referential_by_definition : (definition : Definition) (state : State) → first_refusal (definition_conditions definition state) ≡ None
    → IsReferential state.schema state.rows → IsReferential (after_definition definition state).schema (after_definition definition state).rows
referential_by_definition definition state due is = record {
  kept = kept_by_definition definition state due is.kept;
  targets = targets_by_definition definition state due is.targets;
  found = found_by_definition definition state due is;
}

-- A change inserts rows only into its own table.
adds_to_own : (mutation : Mutation) (state : State) (name : List ℕ) → same_name (changed_table mutation) name ≡ false
    → AllByRecursion (AddsNone name) (edits mutation state)
adds_to_own (Insert table tuples) state name other = (inl other, tt)
adds_to_own (Update table assignments tests) state name other = (inl other, tt)
adds_to_own (Delete table tests) state name other =
    adds_none name (edits (Delete table tests) state)
    (cascades_remove state.schema state.schema.tables state.rows (own_edits (Delete table tests) state ∷ [])
    (removals_remove (filter (meets (tests_for table state.schema tests)) (rows_in state table)), tt))

found_by_change : (mutation : Mutation) (state : State) → first_refusal (change_conditions mutation state) ≡ None
    → IsReferential state.schema state.rows → AllFindTargets (after_change mutation state)
found_by_change mutation state due is =
    let table = changed_table mutation in
    let after = after_change mutation state in
    let none =
    neither_refused (key_named table state.schema) (rows_in after table) (some_lacks_target table after) (some_is_referred (edits mutation state) after)
    (growth_conditions after) (none_due_by_rows mutation state due) in
    found_after (edits mutation state) table state (beside_of state is.kept) is.targets (adds_to_own mutation state) none.1 none.0 is.found

referential_by_change : (mutation : Mutation) (state : State) → first_refusal (change_conditions mutation state) ≡ None
    → IsReferential state.schema state.rows → IsReferential state.schema (after_change mutation state).rows
referential_by_change mutation state due is =
    record { kept = kept_by_change mutation state due is.kept; targets = is.targets; found = found_by_change mutation state due is }

referential_at_first : IsReferential first_state.schema first_state.rows
referential_at_first = record { kept = kept_at_first; targets = All-nil _; found = λ name. refl }

reached : (commands : List Command) → HoldsThroughout IsReferential (after_all commands first_state)
reached commands =
    held_by_all IsReferential referential_by_definition referential_by_change commands first_state (record { rows = referential_at_first; saved = tt })

-- No row lacks a target in any state that commands lead to from the first, ..
pub reached_with_targets : (commands : List Command) (table : List ℕ) → some_lacks_target table (after_all commands first_state) ≡ false
reached_with_targets commands = (reached commands).rows.found

-- .. and none of the saved rows does.
pub saved_with_targets : (commands : List Command) (table : List ℕ)
    → IfSome (after_all commands first_state).saved
    (AreSavedRows (λ rows. some_lacks_target table (record (after_all commands first_state) { rows = rows }) ≡ false))
saved_with_targets commands table =
    each_held (IsReferential (after_all commands first_state).schema)
    (λ rows. some_lacks_target table (record (after_all commands first_state) { rows = rows }) ≡ false)
    (λ rows held. held.found table) (after_all commands first_state).saved (reached commands).saved
