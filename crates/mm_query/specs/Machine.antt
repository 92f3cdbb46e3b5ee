-- The machine of row lists: for each command its refusals, its reply, and the next state.
use Rattle.std.specs.Prelude.{ℕ, Bool, true, false, not, ◌&&◌, if◌then◌else◌, List, [], ◌∷◌, ◌++◌, Option, Some, None, length, map, nat_lt}
use Rattle.std.specs.List.{list_any}
use Rattle.std.specs.Option.{option_map, option_map_or}
use Rattle.mm_schema.specs.Indexes.{drop_index_conditions, index_conditions, index_named, lacks_index, with_index, without_index}
use Rattle.mm_schema.specs.Instance.{Instance, TableEdits, changed_instance, without_rows}
use Rattle.mm_schema.specs.Name.{same_name}
use Rattle.mm_schema.specs.References.{lacks_target_row, lose_targets, references_of}
use Rattle.mm_schema.specs.Refused.{Condition, first_refusal}
use Rattle.mm_schema.specs.Rows.{rows_by, table_rows_conditions}
use Rattle.mm_schema.specs.Schema.{column_place_in, columns_named, drop_table_conditions, key_named, lacks_table, table_conditions, with_table, without_table}
use Rattle.mm_schema.specs.Sorting.{in_order}
use Rattle.mm_schema.specs.declared.index.IndexDef.{IndexDef}
use Rattle.mm_schema.specs.declared.table.Table.{Table}
use Rattle.mm_value.specs.declared.refusal.Refusal.{Refusal}
use Rattle.mm_value.specs.declared.refusal.Refusal.TheVariants.{NoSuchIndex, NoSuchSavepoint, NoSuchTable, NoTransaction, NotInTransaction, TooMany}
use Rattle.mm_value.specs.declared.refusal.Refusal.TheVariants.{TransactionOpen}
use Rattle.mm_value.specs.declared.values.Value.{Value}
use Rattle.mm_query.specs.Binding.{binding_conditions}
use Rattle.mm_query.specs.Edits.{changed_table, edits, own_pairs, value_conditions}
use Rattle.mm_query.specs.Plans.{plan_of}
use Rattle.mm_query.specs.Resolving.{query_conditions, select_conditions, selected}
use Rattle.mm_query.specs.Standing.{after_unwatch, after_watch, growth_conditions, listing, shown_rows, unwatch_conditions, watch_conditions}
use Rattle.mm_query.specs.State.{Saved, Savepoint, State, has_transaction, rows_in, savepoints_of}
use Rattle.mm_query.specs.declared.command.Command.{Command}
use Rattle.mm_query.specs.declared.command.Command.TheVariants.{Nothing, Define, Change, Scan, ScanIndex, Select, Explain, Show, Tables, Begin, Commit}
use Rattle.mm_query.specs.declared.command.Command.TheVariants.{Rollback, Savepoint as SetSavepoint, RollbackTo}
use Rattle.mm_query.specs.declared.command.Definition.{Definition}
use Rattle.mm_query.specs.declared.command.Definition.TheVariants as define
use Rattle.mm_query.specs.declared.command.Mutation.{Mutation}
use Rattle.mm_query.specs.declared.plan_line.PlanLine.{PlanLine}
use Rattle.mm_query.specs.declared.query.Query.{Query}
use Rattle.mm_query.specs.declared.reply.Reply.{Reply}
use Rattle.mm_query.specs.declared.reply.Reply.TheVariants.{Done, Count, Rows, Steps, Listing, Refused}

-- ---- changes of the catalog

-- The conditions that refuse a change of the catalog outside a transaction, in the order of refusals.
abbrev pub definition_conditions : Definition → State → List Condition
definition_conditions (define.Table definition) state = table_conditions definition state.schema
definition_conditions (define.DropTable name) state = drop_table_conditions name state.schema
definition_conditions (define.Index index) state = index_conditions index state.schema
definition_conditions (define.DropIndex name) state = drop_index_conditions name state.schema
definition_conditions (define.Watch watched) state = watch_conditions watched.name watched.query state
definition_conditions (define.Unwatch name) state = unwatch_conditions name state

-- The change of the catalog creates or drops an index, so it changes no row.
abbrev pub is_of_index : Definition → Bool
is_of_index (define.Index index) = true
is_of_index (define.DropIndex name) = true
is_of_index _ = false

-- The state after a change of the catalog. A new table is appended and has no rows, and a dropped table loses its rows. A change of an
-- index or a standing query changes no row.
abbrev pub after_definition : Definition → State → State
after_definition (define.Table definition) state =
    record state { schema = with_table definition state.schema; rows = state.rows ++ [] ∷ [] }
after_definition (define.DropTable name) state =
    record state { schema = without_table name state.schema; rows = without_rows name state.schema.tables state.rows }
after_definition (define.Index index) state = record state { schema = with_index index state.schema }
after_definition (define.DropIndex name) state = record state { schema = without_index name state.schema }
after_definition (define.Watch watched) state = after_watch watched.name watched.query state
after_definition (define.Unwatch name) state = after_unwatch name state

-- ---- changes of rows

-- The rows of all tables after edits, which are made table by table.
abbrev pub after_edits : List Table → List TableEdits → Instance → Instance
after_edits tables [] rows = rows
after_edits tables (edits ∷ others) rows = after_edits tables others (changed_instance tables (edits ∷ []) rows)

-- The state after a change of rows.
abbrev pub after_change : Mutation → State → State
after_change mutation state = record state { rows = after_edits state.schema.tables (edits mutation state) state.rows }

-- A row of the table has a value in a REF column that is no key of the column's target.
abbrev pub some_lacks_target : List ℕ → State → Bool
some_lacks_target table state =
    list_any (λ (r : ℕ × List ℕ). list_any (lacks_target_row r.0 (key_named r.1 state.schema) (rows_in state r.1)) (rows_in state table))
    (references_of (columns_named table state.schema))

-- A pair deletes a row, or changes its key, while a row after the change refers to it. No table refers to itself, so the change leaves the
-- referring row unchanged.
abbrev pub is_referred_to : State → TableEdits → Bool
is_referred_to after edits =
    list_any (λ (t : Table). list_any (λ (r : ℕ × List ℕ). same_name r.1 edits.table
    && lose_targets r.0 (key_named edits.table after.schema) (rows_in after t.definition.name) edits.pairs) (references_of t.definition.columns))
    after.schema.tables

-- A pair of any table deletes a referenced row or changes its key.
abbrev pub some_is_referred : List TableEdits → State → Bool
some_is_referred edits after = list_any (is_referred_to after) edits

-- The conditions that refuse a change of a table by the rows after it, in the order of refusals.
abbrev pub row_conditions : List ℕ → List TableEdits → State → List Condition
row_conditions table edits after =
    table_rows_conditions (key_named table after.schema) (rows_in after table) (some_lacks_target table after) (some_is_referred edits after)

-- The conditions that refuse a change of rows, in the order of refusals. They depend on the catalog alone, then on the computed values, on
-- the rows of its table, and on the standing queries.
abbrev pub change_conditions : Mutation → State → List Condition
change_conditions mutation state =
    binding_conditions mutation state.schema ++ (value_conditions mutation state
    ++ (row_conditions (changed_table mutation) (edits mutation state) (after_change mutation state)
    ++ growth_conditions (after_change mutation state)))

-- ---- rows by an index

-- The rows of an index's table, ordered by the indexed column, then by key.
abbrev pub index_rows : State → IndexDef → List (List Value)
index_rows state index =
    in_order (rows_by (column_place_in index.table index.column state.schema) (key_named index.table state.schema)) (rows_in state index.table)

-- The rows of the table of the index with a name in that order, or none if there is no such index.
abbrev pub rows_by_index : State → List ℕ → List (List Value)
rows_by_index state name = option_map_or (index_rows state) (index_named name state.schema) []

-- ---- plans

-- The plan of a query for the current catalog and numbers of rows.
abbrev pub plan_in : State → Query → List PlanLine
plan_in state query = plan_of state.schema (map length state.rows) query

-- ---- transactions

-- BEGIN saves a copy of the rows.
abbrev pub after_begin : State → State
after_begin state = record state { saved = Some (record { at_begin = state.rows; savepoints = [] }) }

-- COMMIT drops all saved copies.
abbrev pub after_commit : State → State
after_commit state = record state { saved = None }

-- ROLLBACK restores the rows at BEGIN, and drops all saved copies.
abbrev pub after_rollback : State → State
after_rollback state = record state { rows = option_map_or (λ (saved : Saved). saved.at_begin) state.saved state.rows; saved = None }

-- The maximum number of savepoints in a transaction.
abbrev pub max_savepoints : ℕ
max_savepoints = 64

-- SAVEPOINT saves another copy of the rows under a name. Of savepoints with one name the latest is used.
abbrev pub after_savepoint : List ℕ → State → State
after_savepoint name state = record state {
  saved = option_map (λ (saved : Saved). record saved { savepoints = record { name = name; rows = state.rows } ∷ saved.savepoints }) state.saved;
}

-- The latest savepoint with a name, and all earlier savepoints.
abbrev pub back_to : List ℕ → List Savepoint → List Savepoint
back_to name [] = []
back_to name (savepoint ∷ earlier) = if same_name name savepoint.name then savepoint ∷ earlier else back_to name earlier

-- The open transaction has no savepoint with the name.
abbrev pub lacks_savepoint : List ℕ → State → Bool
lacks_savepoint name state = not (list_any (λ (savepoint : Savepoint). same_name name savepoint.name) (savepoints_of state))

-- The rows at the latest savepoint, or the given rows if there is none.
abbrev pub rows_at_latest : List Savepoint → Instance → Instance
rows_at_latest [] rows = rows
rows_at_latest (savepoint ∷ earlier) rows = savepoint.rows

-- ROLLBACK TO restores the rows at the latest savepoint with a name, keeps that savepoint, and drops all later ones.
abbrev pub after_rollback_to : List ℕ → State → State
after_rollback_to name state = record state {
  rows = rows_at_latest (back_to name (savepoints_of state)) state.rows;
  saved = option_map (λ (saved : Saved). record saved { savepoints = back_to name saved.savepoints }) state.saved;
}

-- ---- the step

-- The conditions that refuse a command, in the order of refusals. In a transaction, a change of the catalog other than of an index is
-- refused as NotInTransaction, whatever else refuses it.
abbrev pub conditions : Command → State → List Condition
conditions Nothing state = []
conditions (Define definition) state =
    record { holds = has_transaction state && not (is_of_index definition); refusal = NotInTransaction } ∷ definition_conditions definition state
conditions (Change mutation) state = change_conditions mutation state
conditions (Scan table) state = record { holds = lacks_table table state.schema; refusal = NoSuchTable } ∷ []
conditions (ScanIndex index) state = record { holds = lacks_index index state.schema; refusal = NoSuchIndex } ∷ []
conditions (Select query) state = select_conditions query state
conditions (Explain query) state = query_conditions query state.schema
conditions (Show name) state = unwatch_conditions name state
conditions Tables state = []
conditions Begin state = record { holds = has_transaction state; refusal = TransactionOpen } ∷ []
conditions Commit state = record { holds = not (has_transaction state); refusal = NoTransaction } ∷ []
conditions Rollback state = record { holds = not (has_transaction state); refusal = NoTransaction } ∷ []
conditions (SetSavepoint name) state =
    record { holds = not (has_transaction state); refusal = NoTransaction }
    ∷ record { holds = not (nat_lt (length (savepoints_of state)) max_savepoints); refusal = TooMany } ∷ []
conditions (RollbackTo name) state =
    record { holds = not (has_transaction state); refusal = NoTransaction }
    ∷ record { holds = lacks_savepoint name state; refusal = NoSuchSavepoint } ∷ []

-- The reply to a command that is not refused; an empty line has none. A change replies with the number of its own table's pairs. SCAN and
-- SCAN INDEX reply with the rows of a table, in key order or in the order of an index. SELECT and SHOW reply with the rows of a query or a
-- standing query, EXPLAIN with a plan, and TABLES with the listing of the catalog.
abbrev pub reply_to : Command → State → Option Reply
reply_to Nothing state = None
reply_to (Define definition) state = Some Done
reply_to (Change mutation) state = Some (Count (length (own_pairs mutation state)))
reply_to (Scan table) state = Some (Rows (rows_in state table))
reply_to (ScanIndex index) state = Some (Rows (rows_by_index state index))
reply_to (Select query) state = Some (Rows (selected query state))
reply_to (Explain query) state = Some (Steps (plan_in state query))
reply_to (Show name) state = Some (Rows (shown_rows name state))
reply_to Tables state = Some (Listing (listing state))
reply_to Begin state = Some Done
reply_to Commit state = Some Done
reply_to Rollback state = Some Done
reply_to (SetSavepoint name) state = Some Done
reply_to (RollbackTo name) state = Some Done

-- The state after a command that is not refused.
abbrev pub state_after : Command → State → State
state_after Nothing state = state
state_after (Define definition) state = after_definition definition state
state_after (Change mutation) state = after_change mutation state
state_after (Scan table) state = state
state_after (ScanIndex index) state = state
state_after (Select query) state = state
state_after (Explain query) state = state
state_after (Show name) state = state
state_after Tables state = state
state_after Begin state = after_begin state
state_after Commit state = after_commit state
state_after Rollback state = after_rollback state
state_after (SetSavepoint name) state = after_savepoint name state
state_after (RollbackTo name) state = after_rollback_to name state

-- The reply to a command, if any, and the next state.
pub record Outcome : Type 0 where
  pub reply : Option Reply
  pub state : State

-- The refusal is the reply, and the state is unchanged.
abbrev pub refused_outcome : Refusal → State → Outcome
refused_outcome refusal state = record { reply = Some (Refused refusal); state = state }

-- The given outcome, unless there is a refusal: then that is the reply, and the state is unchanged.
abbrev pub unless_refused : Option Refusal → State → Outcome → Outcome
unless_refused (Some refusal) state outcome = record { reply = Some (Refused refusal); state = state }
unless_refused None state outcome = outcome

-- One step of the machine.
abbrev pub step : Command → State → Outcome
step command state =
    unless_refused (first_refusal (conditions command state)) state (record { reply = reply_to command state; state = state_after command state })

-- The state after commands in order.
abbrev pub after_all : List Command → State → State
after_all [] state = state
after_all (command ∷ commands) state = after_all commands (step command state).state
