-- A standing query has the columns of its query when it is kept, and they stay.
use Rattle.std.proofs.Common.{◌≡◌, ◌&&◌, ℕ, Bool, true, false, cond, not, List, [], ◌∷◌, Option, Some, None, filter, filter_map, find, is_none}
use Rattle.std.proofs.Common.{is_some, map, refl, sym, ap, ◌∙◌}
use Rattle.std.specs.List.{All, AllByRecursion, cons_option, list_any}
use Rattle.std.specs.Option.{option_map_or}
use Rattle.std.proofs.lemmas.Bool.{false≢true, or_from, or_parts}
use Rattle.std.proofs.lemmas.List.Elements.{All-head, All-tail}
use Rattle.mm_value.specs.declared.refusal.Refusal.TheVariants.{NotInTransaction}
use Rattle.mm_schema.specs.Indexes.{table_with_index, table_without_index}
use Rattle.mm_schema.specs.Name.{same_name}
use Rattle.mm_schema.specs.Refused.{first_refusal}
use Rattle.mm_schema.specs.Schema.{Schema, is_other_referring_to, reads_table}
use Rattle.mm_schema.specs.Standing.{lacks_standing}
use Rattle.mm_schema.specs.declared.standing.StandingDef.{StandingDef}
use Rattle.mm_schema.specs.declared.table.Table.{Table}
use Rattle.mm_schema.proofs.NameLemmas.{same_bytes, same_name_refl}
use Rattle.mm_schema.proofs.References.{same_with, same_without, second_none}
use Rattle.mm_query.specs.Machine.{after_definition, conditions, definition_conditions, is_of_index, state_after, step}
use Rattle.mm_query.specs.Resolving.{IsQueryWithin, placed_query}
use Rattle.mm_query.specs.Standing.{AreBeside, AreBound, HasQueries, after_unwatch, after_watch, query_named, tables_read, watch_conditions}
use Rattle.mm_query.specs.State.{State, has_transaction}
use Rattle.mm_query.specs.declared.bound_query.BoundQuery.{BoundQuery}
use Rattle.mm_query.specs.declared.bound_query.FieldPlace.{FieldPlace}
use Rattle.mm_query.specs.declared.command.Command.{Command}
use Rattle.mm_query.specs.declared.command.Command.TheVariants.{Nothing, Define, Change, Scan, ScanIndex, Select, Explain, Show, Tables, Begin, Commit}
use Rattle.mm_query.specs.declared.command.Command.TheVariants.{Rollback, Savepoint as SetSavepoint, RollbackTo}
use Rattle.mm_query.specs.declared.command.Definition.{Definition}
use Rattle.mm_query.specs.declared.command.Definition.TheVariants as define
use Rattle.mm_query.specs.declared.query.Query.{Query}
use Rattle.mm_query.proofs.PlacedQueries.{none_hold}
use Rattle.mm_laws.proofs.StandingQueries.{IsThere, Stays, items_stay, last_named, left_named, none_of_query, none_of_tables, none_out, others_named}
use Rattle.mm_laws.proofs.StandingQueries.{stays_behind, stays_kept, stays_left}
use Rattle.mm_laws.proofs.Throughout.{kept_by_step}
use Rattle.mm_laws.proofs.TypedQueries.{column_stays}
use Rattle.mm_session.specs.Columns.{bound_columns, column_at_place, columns_of}
use Rattle.mm_session.proofs.ColumnTypes.{bound_alike}
use Rattle.mm_schema.proofs.Dues.{none_here}

-- ---- the query of a name

abbrev is_named : List ℕ → StandingDef → Bool
is_named name standing = same_name name standing.name

module _ (gone : List ℕ) where
  abbrev stays : StandingDef → Bool
  stays standing = not (same_name gone standing.name)

  -- A dropped name is that of no standing query.
  none_left : (ss : List StandingDef) → is_none (find (is_named gone) (filter stays ss)) ≡ true
  none_left [] = refl
  none_left (s ∷ ss) = by (same_name gone s.name) refl (none_left ss)
    where
      by : (b : Bool) → same_name gone s.name ≡ b → is_none (find (is_named gone) (filter stays ss)) ≡ true
          → is_none (find (is_named gone) (cond (not b) (s ∷ filter stays ss) (filter stays ss))) ≡ true
      by true own later = later
      by false differs later = ap (λ b. is_none (cond b (Some s) (find (is_named gone) (filter stays ss)))) differs ∙ later

-- ---- a new standing query

-- A new standing query has the columns that its SELECT has.
pub columns_by_watch : (name : List ℕ) (query : Query) (state : State) → HasQueries state → first_refusal (watch_conditions name query state) ≡ None
    → columns_of (Show name) (after_watch name query state) ≡ columns_of (Select query) state
columns_by_watch name query state beside due =
    let free = (none_hold (watch_conditions name query state) due).1.1.0 in
    let bound = placed_query state.schema query in
    ap (λ (found : Option BoundQuery). option_map_or (bound_columns state.schema) found [])
    (last_named name (record { name = name; tables = tables_read bound }) bound state.schema.standing state.queries beside free (same_name_refl name))
    ∙ bound_alike state.schema query (none_of_query name query state due)

-- ---- over another catalog

module _ (old new : Schema) where
  columns_kept : (query : BoundQuery) → AllByRecursion (IsThere old new) query.from → bound_columns new query ≡ bound_columns old query
  columns_kept query there = each query.fields
    where
      each : (fields : List FieldPlace) → filter_map (column_at_place new query.from) fields ≡ filter_map (column_at_place old query.from) fields
      each [] = refl
      each (field ∷ fields) = λ i. cons_option (column_stays old new query.from there field.place field.column i) (each fields i)

  module _ (out : List ℕ → Bool) (stays : Stays old new out) where
    -- The query of a name has the same columns as before, if it reads only tables that keep theirs.
    named_kept : (name : List ℕ) (ss : List StandingDef) (qs : List BoundQuery) → AreBeside ss qs → All (IsQueryWithin old) qs
        → list_any (λ (standing : StandingDef). list_any out standing.tables) ss ≡ false
        → option_map_or (bound_columns new) (query_named name ss qs) [] ≡ option_map_or (bound_columns old) (query_named name ss qs) []
    named_kept name [] [] beside bound unread = refl
    named_kept name (s ∷ ss) (q ∷ qs) beside bound unread =
        let u = or_parts (list_any out s.tables) (list_any (λ (standing : StandingDef). list_any out standing.tables) ss) unread in
        let within = All-head (IsQueryWithin old) q qs bound in
        by (same_name name s.name) (columns_kept q (items_stay old new out stays q.from within.tables (ap (list_any out) beside.0 ∙ u.0)))
        (named_kept name ss qs beside.1 (All-tail (IsQueryWithin old) q qs bound) u.1)
      where
        by : (b : Bool) → bound_columns new q ≡ bound_columns old q
            → option_map_or (bound_columns new) (query_named name ss qs) [] ≡ option_map_or (bound_columns old) (query_named name ss qs) []
            → option_map_or (bound_columns new) (cond b (Some q) (query_named name ss qs)) []
            ≡ option_map_or (bound_columns old) (cond b (Some q) (query_named name ss qs)) []
        by true here later = here
        by false here later = later
    named_kept name [] (q ∷ qs) beside bound unread = absurd beside
    named_kept name (s ∷ ss) [] beside bound unread = absurd beside

no_query_out : (ss : List StandingDef) → list_any (λ (standing : StandingDef). list_any none_out standing.tables) ss ≡ false
no_query_out [] = refl
no_query_out (s ∷ ss) = or_from _ _ (none_of_tables s.tables) (no_query_out ss)

-- ---- a change of the catalog

module _ (name : List ℕ) (state : State) (beside : HasQueries state) (bound : AreBound state) where
  -- its columns stay, if the standing query of the name is there still
  abbrev Keeps : State → Type 0
  Keeps after = lacks_standing name after.schema ≡ false → columns_of (Show name) after ≡ columns_of (Show name) state

  kept_by_indexes : (change : Table → Table) → ((t : Table) → (change t).definition ≡ t.definition)
      → Keeps (record state { schema = record state.schema { tables = map change state.schema.tables } })
  kept_by_indexes change same there =
      named_kept state.schema (record state.schema { tables = map change state.schema.tables }) none_out
      (stays_kept change same state.schema) name state.schema.standing state.queries beside bound
      (no_query_out state.schema.standing)

  kept_by_definition : (definition : Definition) → first_refusal (definition_conditions definition state) ≡ None → lacks_standing name state.schema ≡ false
      → Keeps (after_definition definition state)
  kept_by_definition (define.Table definition) due had there =
      named_kept state.schema (after_definition (define.Table definition) state).schema none_out
      (stays_behind definition state.schema)
      name state.schema.standing state.queries beside bound (no_query_out state.schema.standing)
  kept_by_definition (define.DropTable gone) due had there =
      let unused = or_parts (list_any (is_other_referring_to gone) state.schema.tables) (list_any (reads_table gone) state.schema.standing)
      (second_none _ _ _ _ _ due) in
      named_kept state.schema (after_definition (define.DropTable gone) state).schema (same_name gone)
      (stays_left gone state.schema) name state.schema.standing state.queries beside bound unused.1
  kept_by_definition (define.Index index) due had there = kept_by_indexes (table_with_index index) (same_with index) there
  kept_by_definition (define.DropIndex gone) due had there = kept_by_indexes (table_without_index gone) (same_without gone) there
  kept_by_definition (define.Watch watched) due had there = by (same_name name watched.name) refl
    where
      placed : BoundQuery
      placed = placed_query state.schema watched.query

      by : (b : Bool) → same_name name watched.name ≡ b
          → columns_of (Show name) (after_watch watched.name watched.query state) ≡ columns_of (Show name) state
      by true own =
          let free = (none_hold (watch_conditions watched.name watched.query state) due).1.1.0 in
          let same = same_bytes name watched.name own in
          absurd (both (find (is_named watched.name) state.schema.standing) free
          (ap (λ n. is_none (find (is_named n) state.schema.standing)) (sym same) ∙ had))
        where
          both : (found : Option StandingDef) → is_some found ≡ false → is_none found ≡ false → ⊥
          both None none some = false≢true (sym some)
          both (Some s) none some = false≢true (sym none)
      by false other =
          ap (λ (found : Option BoundQuery). option_map_or (bound_columns state.schema) found [])
          (others_named name (record { name = watched.name; tables = tables_read placed }) placed state.schema.standing state.queries beside other)
  kept_by_definition (define.Unwatch gone) due had there = by (same_name gone name) refl
    where
      by : (b : Bool) → same_name gone name ≡ b → columns_of (Show name) (after_unwatch gone state) ≡ columns_of (Show name) state
      by true own =
          let same = same_bytes gone name own in
          let gone_now : lacks_standing name (after_unwatch gone state).schema ≡ true =
          (λ i. is_none (find (is_named (sym same i)) (filter (stays gone) state.schema.standing))) ∙ none_left gone state.schema.standing in
          absurd (false≢true (sym there ∙ gone_now))
      by false other =
          ap (λ (found : Option BoundQuery). option_map_or (bound_columns state.schema) found [])
          (left_named gone name other state.schema.standing state.queries)

  kept_by_command : (command : Command) → first_refusal (conditions command state) ≡ None → lacks_standing name state.schema ≡ false
      → Keeps (state_after command state)
  kept_by_command Nothing due had there = refl
  kept_by_command (Define definition) due had there =
      kept_by_definition definition
      (none_here (has_transaction state && not (is_of_index definition)) NotInTransaction (first_refusal (definition_conditions definition state)) due)
      had there
  kept_by_command (Change mutation) due had there = refl
  kept_by_command (Scan table) due had there = refl
  kept_by_command (ScanIndex index) due had there = refl
  kept_by_command (Select query) due had there = refl
  kept_by_command (Explain query) due had there = refl
  kept_by_command (Show shown) due had there = refl
  kept_by_command Tables due had there = refl
  kept_by_command Begin due had there = refl
  kept_by_command Commit due had there = refl
  kept_by_command Rollback due had there = refl
  kept_by_command (SetSavepoint savepoint) due had there = refl
  kept_by_command (RollbackTo savepoint) due had there = refl

  -- As long as a standing query is there, its columns stay.
  pub columns_stay : (command : Command) → lacks_standing name state.schema ≡ false → Keeps (step command state).state
  columns_stay command had = kept_by_step Keeps command state (λ due. kept_by_command command due had) (λ there. refl)
