-- A successful change of the catalog keeps all rows and standing queries typed.
use Rattle.std.proofs.Common.{◌≡◌, ◌⊎◌, inl, inr, ℕ, Bool, true, false, List, [], ◌∷◌, Option, Some, None, IfSome, is_some, map}
use Rattle.std.specs.List.{All, AllByRecursion, list_any}
use Rattle.std.proofs.lemmas.Bool.{false≢true, or_parts}
use Rattle.std.proofs.lemmas.List.Elements.{All-from_recursion, All-push, recursion_from_All}
use Rattle.mm_schema.specs.Indexes.{table_with_index, table_without_index}
use Rattle.mm_schema.specs.Name.{same_name}
use Rattle.mm_schema.specs.Refused.{first_refusal}
use Rattle.mm_schema.specs.Schema.{Schema, is_other_referring_to, reads_table}
use Rattle.mm_schema.specs.declared.table.Table.{Table}
use Rattle.mm_schema.proofs.References.{same_with, same_without, second_none}
use Rattle.mm_query.specs.Machine.{after_definition, definition_conditions, is_of_index}
use Rattle.mm_query.specs.Resolving.{IsQueryWithin, field_lacks_column, lacks_alias, lacks_position, placed_query, some_field, some_side}
use Rattle.mm_query.specs.Standing.{AreBound, HasQueries, tables_read, watch_conditions, without_query}
use Rattle.mm_query.specs.State.{AreSavedRows, Saved, State, has_transaction}
use Rattle.mm_query.specs.declared.bound_query.BoundQuery.{BoundQuery}
use Rattle.mm_query.specs.declared.command.Definition.{Definition}
use Rattle.mm_query.specs.declared.command.Definition.TheVariants as define
use Rattle.mm_query.specs.declared.query.Query.{Query}
use Rattle.mm_query.proofs.PlacedQueries.{none_hold}
use Rattle.mm_laws.proofs.Throughout.{each_held}
use Rattle.mm_laws.specs.Typing.{AreTyped, IsTyped, ShiftsNumbers}
use Rattle.mm_laws.proofs.StandingQueries.{Stays, all_read_on, each_left, items_stay, none_out, stays_behind, stays_kept, stays_left, unread_beside}
use Rattle.mm_laws.proofs.TypedQueries.{atoms_shift, query_stays}
use Rattle.mm_laws.proofs.TypedTables.{typed_behind, typed_kept, typed_without}

-- ---- the existing standing queries

module _ (old new : Schema) (out : List ℕ → Bool) (stays : Stays old new out) where
  each_stays : (queries : List BoundQuery) → AllByRecursion (IsQueryWithin old) queries
      → AllByRecursion (λ query. list_any out (tables_read query) ≡ false) queries → AllByRecursion (ShiftsNumbers old) queries
      → AllByRecursion (ShiftsNumbers new) queries
  each_stays [] bound unread shifts = tt
  each_stays (q ∷ qs) bound unread shifts =
      (query_stays old new q (items_stay old new out stays q.from bound.0.tables unread.0) shifts.0, each_stays qs bound.1 unread.1 shifts.1)

  -- Bound queries that read only tables that stay still add numbers only to integer columns.
  all_stay : (queries : List BoundQuery) → All (IsQueryWithin old) queries → AllByRecursion (λ query. list_any out (tables_read query) ≡ false) queries
      → All (ShiftsNumbers old) queries → All (ShiftsNumbers new) queries
  all_stay queries bound unread shifts =
      All-from_recursion (ShiftsNumbers new) queries
      (each_stays queries (recursion_from_All (IsQueryWithin old) queries bound) unread (recursion_from_All (ShiftsNumbers old) queries shifts))

-- ---- one more standing query

-- A new standing query adds numbers only to integer columns.
watched_shifts : (name : List ℕ) (query : Query) (state : State) → first_refusal (watch_conditions name query state) ≡ None
    → ShiftsNumbers state.schema (placed_query state.schema query)
watched_shifts name query state due =
    let hold = none_hold (watch_conditions name query state) due in
    let lacks = field_lacks_column state.schema query.from in
    let columns = or_parts (some_field lacks query) (list_any (lacks_position query.fields) query.order) hold.1.0 in
    atoms_shift state.schema query.from hold.0 query.atoms
    (or_parts (list_any (lacks_alias query.from) query.fields) (list_any (some_side (lacks_alias query.from)) query.atoms) hold.1.1.1.1.0).1
    (or_parts (list_any lacks query.fields) (list_any (some_side lacks) query.atoms) columns.0).1 hold.1.1.1.1.1.0

-- ---- each change of the catalog

nothing_saved : (P : Saved → Type 0) (saved : Option Saved) → (is_some saved ≡ false) ⊎ (false ≡ true) → IfSome saved P
nothing_saved P None where_made = tt
nothing_saved P (Some rows) (inl closed) = absurd (cc)
nothing_saved P (Some rows) (inr of_index) = absurd (false≢true of_index)

typed_with_definitions : (change : Table → Table) → ((t : Table) → (change t).definition ≡ t.definition) → (state : State)
    → AreBound state → IsTyped state → IsTyped (record state { schema = record state.schema { tables = map change state.schema.tables } })
typed_with_definitions change same state bound typed =
    let new : Schema = record state.schema { tables = map change state.schema.tables } in
    record {
      rows = typed_kept change same state.schema.tables state.rows typed.rows;
      saved = each_held (AreTyped state.schema.tables) (AreTyped new.tables) (λ rows. typed_kept change same state.schema.tables rows) state.saved typed.saved;
      queries = all_stay state.schema new none_out (stays_kept change same state.schema)
          state.queries bound (all_read_on state.queries) typed.queries;
    }

-- Each change of the catalog keeps all rows and all standing queries typed.
pub typed_by_definition : (definition : Definition) (state : State) → (has_transaction state ≡ false) ⊎ (is_of_index definition ≡ true)
    → first_refusal (definition_conditions definition state) ≡ None → HasQueries state → AreBound state → IsTyped state
    → IsTyped (after_definition definition state)
typed_by_definition (define.Table definition) state where_made due beside bound typed =
    let table : Table = record { definition = definition; indexes = [] } in
    let new = after_definition (define.Table definition) state in
    record {
      rows = typed_behind state.schema.tables state.rows table typed.rows;
      saved = nothing_saved (AreSavedRows (AreTyped new.schema.tables)) state.saved where_made;
      queries = all_stay state.schema new.schema none_out (stays_behind definition state.schema)
          state.queries bound (all_read_on state.queries) typed.queries;
    }
typed_by_definition (define.DropTable name) state where_made due beside bound typed =
    let new = after_definition (define.DropTable name) state in
    let unused = or_parts (list_any (is_other_referring_to name) state.schema.tables) (list_any (reads_table name) state.schema.standing)
    (second_none _ _ _ _ _ due) in
    record {
      rows = typed_without name state.schema.tables state.rows typed.rows;
      saved = nothing_saved (AreSavedRows (AreTyped new.schema.tables)) state.saved where_made;
      queries = all_stay state.schema new.schema (same_name name) (stays_left name state.schema)
          state.queries bound (unread_beside name state.schema.standing state.queries beside unused.1) typed.queries;
    }
typed_by_definition (define.Index index) state where_made due beside bound typed =
    typed_with_definitions (table_with_index index) (same_with index) state bound typed
typed_by_definition (define.DropIndex name) state where_made due beside bound typed =
    typed_with_definitions (table_without_index name) (same_without name) state bound typed
typed_by_definition (define.Watch watched) state where_made due beside bound typed = record {
  rows = typed.rows;
  saved = typed.saved;
  queries = All-push (ShiftsNumbers state.schema) state.queries (placed_query state.schema watched.query) typed.queries
      (watched_shifts watched.name watched.query state due);
}
typed_by_definition (define.Unwatch name) state where_made due beside bound typed = record {
  rows = typed.rows;
  saved = typed.saved;
  queries = All-from_recursion (ShiftsNumbers state.schema) (without_query name state.schema.standing state.queries)
      (each_left name (ShiftsNumbers state.schema) state.schema.standing state.queries
      (recursion_from_All (ShiftsNumbers state.schema) state.queries typed.queries));
}
