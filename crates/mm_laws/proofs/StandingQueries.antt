-- Standing queries of the catalog: they are bound, they are shown, and they are within their limit.
use Rattle.std.proofs.Common.{◌≡◌, ◌&&◌, ℕ, zero, suc, ◌<◌, Bool, true, false, cond, not, List, [], ◌∷◌, ◌++◌, Option, Some, None, filter, find, is_some}
use Rattle.std.proofs.Common.{length, map, nat_le, refl, sym, ap, ◌∙◌, subst}
use Rattle.std.specs.List.{All, AllByRecursion, list_any}
use Rattle.std.specs.List.Sorted.{IsPermutation, IsSorted}
use Rattle.std.specs.Option.{option_map_or}
use Rattle.std.proofs.lemmas.Bool.{or_from, or_parts}
use Rattle.std.proofs.lemmas.List.Elements.{All-from_recursion, All-nil, All-push, All-weaker, recursion_from_All}
use Rattle.std.proofs.lemmas.List.Folds.{list_any-append}
use Rattle.mm_schema.specs.Indexes.{table_with_index, table_without_index}
use Rattle.mm_schema.specs.Instance.{Instance, TableEdits, changed_instance, rows_named}
use Rattle.mm_schema.specs.Name.{same_name}
use Rattle.mm_schema.specs.Refused.{Condition, first_refusal}
use Rattle.mm_schema.specs.Schema.{Schema, columns_named, is_other_referring_to, lacks_table, reads_table, with_table, without_table}
use Rattle.mm_schema.specs.declared.column.Column.{Column}
use Rattle.mm_schema.specs.declared.standing.StandingDef.{StandingDef}
use Rattle.mm_schema.specs.declared.table.Table.{Table}
use Rattle.mm_schema.specs.declared.table.TableDef.{TableDef}
use Rattle.mm_schema.proofs.Dues.{none_due_behind, none_here}
use Rattle.mm_schema.proofs.NameLemmas.{same_bytes, same_name_refl}
use Rattle.mm_schema.proofs.References.{as_there, first_none, same_with, same_without, second_none, there_behind, there_still}
use Rattle.mm_value.specs.declared.refusal.Refusal.TheVariants.{AliasTaken, NoSuchAlias, NoSuchColumn, NoSuchTable, NotInTransaction, StandingListTooLarge}
use Rattle.mm_value.specs.declared.refusal.Refusal.TheVariants.{TooMany, TypeMismatch}
use Rattle.mm_query.specs.Edits.{changed_table, edits}
use Rattle.mm_query.specs.Machine.{after_change, after_definition, after_edits, change_conditions, conditions, definition_conditions, is_of_index}
use Rattle.mm_query.specs.Machine.{row_conditions, state_after, step}
use Rattle.mm_query.specs.Queries.{bag, bag_of, eval, rows_by_columns, shown}
use Rattle.mm_query.specs.Resolving.{IsAtomWithin, IsFieldWithin, IsQueryWithin, answer_in, exceeds_query_limits, placed_query, query_conditions, selected}
use Rattle.mm_query.specs.Resolving.{width_at}
use Rattle.mm_query.specs.Standing.{AreBeside, AreBound, HasQueries, after_unwatch, after_watch, growth_conditions, outgrows, query_named, shown_rows}
use Rattle.mm_query.specs.Standing.{tables_read, watch_conditions, without_query}
use Rattle.mm_query.specs.State.{State, first_state, has_transaction, rows_in}
use Rattle.mm_query.specs.declared.atom.Atom.{Atom}
use Rattle.mm_query.specs.declared.bound_query.BoundQuery.{BoundQuery}
use Rattle.mm_query.specs.declared.bound_query.FieldPlace.{FieldPlace}
use Rattle.mm_query.specs.declared.command.Command.{Command}
use Rattle.mm_query.specs.declared.command.Command.TheVariants.{Nothing, Define, Change, Scan, ScanIndex, Select, Explain, Show, Tables, Begin, Commit}
use Rattle.mm_query.specs.declared.command.Command.TheVariants.{Rollback, Savepoint as SetSavepoint, RollbackTo}
use Rattle.mm_query.specs.declared.command.Definition.{Definition}
use Rattle.mm_query.specs.declared.command.Definition.TheVariants as define
use Rattle.mm_query.specs.declared.command.Mutation.{Mutation}
use Rattle.mm_query.specs.declared.query.FromItem.{FromItem}
use Rattle.mm_query.specs.declared.query.Query.{Query}
use Rattle.mm_laws.proofs.KeyOrder.{none_due_by_rows}
use Rattle.mm_laws.proofs.NamedRows.{rows_of_others, table_behind, table_left, told_kept}
use Rattle.mm_query.proofs.PlacedQueries.{none_hold, query_within}
use Rattle.mm_laws.proofs.QueryLaws.{shown_permutation, shown_sorted}
use Rattle.mm_laws.proofs.Throughout.{kept_by_step}

-- ---- queries over another catalog

-- a name that is not excluded keeps its table's columns
abbrev pub Stays : Schema → Schema → (List ℕ → Bool) → Type 0
Stays old new out =
    (name : List ℕ) → lacks_table name old ≡ false → out name ≡ false
    → (lacks_table name new ≡ false) × (columns_named name new ≡ columns_named name old)

-- the table of an item exists, with the same columns in the other catalog
abbrev pub IsThere : Schema → Schema → FromItem → Type 0
IsThere old new item = (lacks_table item.table new ≡ false) × (columns_named item.table new ≡ columns_named item.table old)

module _ (old new : Schema) (out : List ℕ → Bool) (stays : Stays old new out) where
  -- If a query reads only tables that stay, all of its tables exist.
  pub items_stay : (from : List FromItem) → list_any (λ (item : FromItem). lacks_table item.table old) from ≡ false
      → list_any out (map (λ (item : FromItem). item.table) from) ≡ false → AllByRecursion (IsThere old new) from
  items_stay [] there unread = tt
  items_stay (item ∷ items) there unread =
      let p = or_parts (lacks_table item.table old) (list_any (λ (x : FromItem). lacks_table x.table old) items) there in
      let q = or_parts (out item.table) (list_any out (map (λ (x : FromItem). x.table) items)) unread in
      (stays item.table p.0 q.0, items_stay items p.1 q.1)

  tables_there : (from : List FromItem) → AllByRecursion (IsThere old new) from → list_any (λ (item : FromItem). lacks_table item.table new) from ≡ false
  tables_there [] there = refl
  tables_there (item ∷ items) there = or_from _ _ there.0.0 (tables_there items there.1)

  same_width : (from : List FromItem) → AllByRecursion (IsThere old new) from → (place : ℕ) → width_at new from place ≡ width_at old from place
  same_width [] there place = refl
  same_width (item ∷ items) there zero = ap length there.0.1
  same_width (item ∷ items) there (suc place) = same_width items there.1 place

  module _ (from : List FromItem) (there : AllByRecursion (IsThere old new) from) where
    field_still : (field : FieldPlace) → IsFieldWithin old from field → IsFieldWithin new from field
    field_still field within = subst (λ width. field.column < width) (sym (same_width from there field.place)) within

    atom_still : (atom : Atom FieldPlace) → IsAtomWithin old from atom → IsAtomWithin new from atom
    atom_still atom within = (field_still atom.left within.0, λ field is. field_still field (within.1 field is))

  -- A query that reads only tables that stay is still bound, ..
  query_still : (query : BoundQuery) → list_any out (tables_read query) ≡ false → IsQueryWithin old query → IsQueryWithin new query
  query_still query unread within =
      let there = items_stay query.from within.tables unread in
      record {
        tables = tables_there query.from there;
        fields = All-weaker (IsFieldWithin old query.from) (IsFieldWithin new query.from) (field_still query.from there) query.fields within.fields;
        atoms = All-weaker (IsAtomWithin old query.from) (IsAtomWithin new query.from) (atom_still query.from there) query.atoms within.atoms;
        order = within.order;
      }

  queries_still : (queries : List BoundQuery) → AllByRecursion (λ query. list_any out (tables_read query) ≡ false) queries
      → AllByRecursion (IsQueryWithin old) queries → AllByRecursion (IsQueryWithin new) queries
  queries_still [] unread within = tt
  queries_still (q ∷ qs) unread within = (query_still q unread.0 within.0, queries_still qs unread.1 within.1)

  -- .. and so are all of them.
  pub all_still : (queries : List BoundQuery) → AllByRecursion (λ query. list_any out (tables_read query) ≡ false) queries
      → All (IsQueryWithin old) queries → All (IsQueryWithin new) queries
  all_still queries unread within =
      All-from_recursion (IsQueryWithin new) queries (queries_still queries unread (recursion_from_All (IsQueryWithin old) queries within))

-- no name is excluded
abbrev pub none_out : List ℕ → Bool
none_out name = false

-- So none of some tables is excluded, ..
pub none_of_tables : (tables : List (List ℕ)) → list_any none_out tables ≡ false
none_of_tables [] = refl
none_of_tables (t ∷ ts) = none_of_tables ts

-- .. and none that queries read.
pub all_read_on : (queries : List BoundQuery) → AllByRecursion (λ query. list_any none_out (tables_read query) ≡ false) queries
all_read_on [] = tt
all_read_on (q ∷ qs) = (none_of_tables (tables_read q), all_read_on qs)

-- The queries of standing queries that do not read a table do not read it.
pub unread_beside : (gone : List ℕ) (standing : List StandingDef) (queries : List BoundQuery) → AreBeside standing queries
    → list_any (reads_table gone) standing ≡ false → AllByRecursion (λ query. list_any (same_name gone) (tables_read query) ≡ false) queries
unread_beside gone [] [] beside unread = tt
unread_beside gone (s ∷ ss) (q ∷ qs) beside unread =
    let p = or_parts (reads_table gone s) (list_any (reads_table gone) ss) unread in
    (ap (list_any (same_name gone)) beside.0 ∙ p.0, unread_beside gone ss qs beside.1 p.1)
unread_beside gone [] (q ∷ qs) beside unread = absurd beside
unread_beside gone (s ∷ ss) [] beside unread = absurd beside

-- ---- changes of the catalog

abbrev columns_in : Option Table → List Column
columns_in table = option_map_or (λ (t : Table). t.definition.columns) table []

-- Tables stay if another one is added, ..
pub stays_behind : (definition : TableDef) (schema : Schema) → Stays schema (with_table definition schema) none_out
stays_behind definition schema name there kept =
    let table : Table = record { definition = definition; indexes = [] } in
    (there_behind name schema.tables table there, ap columns_in (table_behind name table schema.tables there))

-- .. if another one is dropped, ..
pub stays_left : (gone : List ℕ) (schema : Schema) → Stays schema (without_table gone schema) (same_name gone)
stays_left gone schema name there other =
    (there_still gone name schema.tables other there, ap columns_in (table_left gone name other schema.tables))

-- .. and if each keeps its definition.
pub stays_kept : (change : Table → Table) → ((t : Table) → (change t).definition ≡ t.definition) → (schema : Schema)
    → Stays schema (record schema { tables = map change schema.tables }) none_out
stays_kept change same schema name there kept =
    (as_there change same name schema.tables ∙ there, told_kept change same name (λ d. d.columns) [] schema.tables)

-- Each standing query has its query, which is bound.
abbrev IsWatched : State → Type 0
IsWatched state = HasQueries state × AreBound state

-- ---- one more standing query

beside_behind : (ss : List StandingDef) (qs : List BoundQuery) (s : StandingDef) (q : BoundQuery) → AreBeside ss qs → tables_read q ≡ s.tables
    → AreBeside (ss ++ s ∷ []) (qs ++ q ∷ [])
beside_behind [] [] s q beside last = (last, tt)
beside_behind (t ∷ ts) (r ∷ rs) s q beside last = (beside.0, beside_behind ts rs s q beside.1 last)
beside_behind [] (r ∷ rs) s q beside last = absurd beside
beside_behind (t ∷ ts) [] s q beside last = absurd beside

module _ (name : List ℕ) (query : Query) (state : State) where
  abbrev bound : BoundQuery
  bound = placed_query state.schema query

  abbrev watching : State
  watching = after_watch name query state

  -- A standing query changes no table.
  stays_watched : Stays state.schema watching.schema none_out
  stays_watched other there kept = (there, refl)

  module _ (due : first_refusal (watch_conditions name query state) ≡ None) where
    hold : AllByRecursion (λ (c : Condition). c.holds ≡ false) (watch_conditions name query state)
    hold = none_hold (watch_conditions name query state) due

    -- If nothing refuses a standing query, nothing refuses its query.
    pub none_of_query : first_refusal (query_conditions query state.schema) ≡ None
    none_of_query =
        let limits = or_parts (exceeds_query_limits query) (nat_le 32 (length state.schema.standing)) hold.1.1.1.1.1.1.0 in
        λ i. cond (hold.0 i) (Some NoSuchTable)
        (cond (hold.1.0 i) (Some NoSuchColumn)
        (cond (hold.1.1.1.0 i) (Some AliasTaken)
        (cond (hold.1.1.1.1.0 i) (Some NoSuchAlias) (cond (hold.1.1.1.1.1.0 i) (Some TypeMismatch) (cond (limits.0 i) (Some TooMany) None)))))

    -- After a new standing query that nothing refuses, each has its query, which is bound.
    watched_by_watch : HasQueries state → AreBound state → HasQueries watching × AreBound watching
    watched_by_watch beside bound_now = (
      beside_behind state.schema.standing state.queries (record { name = name; tables = tables_read bound }) bound beside refl,
      All-push (IsQueryWithin watching.schema) state.queries bound
          (all_still state.schema watching.schema none_out stays_watched state.queries (all_read_on state.queries) bound_now)
          (query_still state.schema watching.schema none_out stays_watched bound (none_of_tables (tables_read bound))
          (query_within state.schema query none_of_query)),
    )

    -- The new query is within its limit, as the others are.
    pub limit_by_watch : list_any (outgrows state) state.queries ≡ false → list_any (outgrows watching) watching.queries ≡ false
    limit_by_watch within =
        list_any-append (outgrows watching) state.queries (bound ∷ []) ∙ or_from _ _ within (or_from _ _ hold.1.1.1.1.1.1.1.0 refl)

-- ---- a dropped standing query

module _ (gone : List ℕ) where
  abbrev is_other : StandingDef → Bool
  is_other standing = not (same_name gone standing.name)

  beside_left : (ss : List StandingDef) (qs : List BoundQuery) → AreBeside ss qs → AreBeside (filter is_other ss) (without_query gone ss qs)
  beside_left [] [] beside = tt
  beside_left (s ∷ ss) (q ∷ qs) beside = by (same_name gone s.name) (beside_left ss qs beside.1)
    where
      by : (b : Bool) → AreBeside (filter is_other ss) (without_query gone ss qs)
          → AreBeside (cond (not b) (s ∷ filter is_other ss) (filter is_other ss)) (cond b (without_query gone ss qs) (q ∷ without_query gone ss qs))
      by true later = later
      by false later = (beside.0, later)
  beside_left [] (q ∷ qs) beside = absurd beside
  beside_left (s ∷ ss) [] beside = absurd beside

  module _ (P : BoundQuery → Type 0) where
    -- What holds of all queries holds of the remaining ones.
    pub each_left : (ss : List StandingDef) (qs : List BoundQuery) → AllByRecursion P qs → AllByRecursion P (without_query gone ss qs)
    each_left [] qs each = tt
    each_left (s ∷ ss) [] each = tt
    each_left (s ∷ ss) (q ∷ qs) each = by (same_name gone s.name) (each_left ss qs each.1)
      where
        by : (b : Bool) → AllByRecursion P (without_query gone ss qs) → AllByRecursion P (cond b (without_query gone ss qs) (q ∷ without_query gone ss qs))
        by true later = later
        by false later = (each.0, later)

  -- After a standing query is dropped, each other has its query, which is bound.
  watched_by_unwatch : (state : State) → HasQueries state → AreBound state → HasQueries (after_unwatch gone state) × AreBound (after_unwatch gone state)
  watched_by_unwatch state beside bound =
      let new = (after_unwatch gone state).schema in (
        beside_left state.schema.standing state.queries beside,
        All-from_recursion (IsQueryWithin new) (without_query gone state.schema.standing state.queries)
            (each_left (IsQueryWithin new) state.schema.standing state.queries
            (recursion_from_All (IsQueryWithin new) state.queries
            (all_still state.schema new none_out (λ name there kept. (there, refl)) state.queries (all_read_on state.queries) bound))),
      )

-- ---- every step

watched_by_definition : (definition : Definition) (state : State) → first_refusal (definition_conditions definition state) ≡ None → IsWatched state
    → IsWatched (after_definition definition state)
watched_by_definition (define.Table definition) state due is = (
  is.0,
  all_still state.schema (with_table definition state.schema) none_out (stays_behind definition state.schema) state.queries (all_read_on state.queries) is.1,
)
watched_by_definition (define.DropTable name) state due is =
    let unused = or_parts (list_any (is_other_referring_to name) state.schema.tables) (list_any (reads_table name) state.schema.standing)
    (second_none _ _ _ _ _ due) in (
      is.0,
      all_still state.schema (without_table name state.schema) (same_name name) (stays_left name state.schema) state.queries
          (unread_beside name state.schema.standing state.queries is.0 unused.1) is.1,
    )
watched_by_definition (define.Index index) state due is = (
  is.0,
  all_still state.schema (after_definition (define.Index index) state).schema none_out (stays_kept (table_with_index index) (same_with index) state.schema)
      state.queries (all_read_on state.queries) is.1,
)
watched_by_definition (define.DropIndex name) state due is = (
  is.0,
  all_still state.schema (after_definition (define.DropIndex name) state).schema none_out
      (stays_kept (table_without_index name) (same_without name) state.schema) state.queries (all_read_on state.queries) is.1,
)
watched_by_definition (define.Watch watched) state due is = watched_by_watch watched.name watched.query state due is.0 is.1
watched_by_definition (define.Unwatch name) state due is = watched_by_unwatch name state is.0 is.1

watched_by_command : (command : Command) (state : State) → first_refusal (conditions command state) ≡ None → IsWatched state
    → IsWatched (state_after command state)
watched_by_command Nothing state due is = is
watched_by_command (Define definition) state due is =
    watched_by_definition definition state
    (none_here (has_transaction state && not (is_of_index definition)) NotInTransaction (first_refusal (definition_conditions definition state)) due) is
watched_by_command (Change mutation) state due is = is
watched_by_command (Scan table) state due is = is
watched_by_command (ScanIndex index) state due is = is
watched_by_command (Select query) state due is = is
watched_by_command (Explain query) state due is = is
watched_by_command (Show name) state due is = is
watched_by_command Tables state due is = is
watched_by_command Begin state due is = is
watched_by_command Commit state due is = is
watched_by_command Rollback state due is = is
watched_by_command (SetSavepoint name) state due is = is
watched_by_command (RollbackTo name) state due is = is

pub watched_at_first : HasQueries first_state × AreBound first_state
watched_at_first = (tt, All-nil _)

-- Each command keeps this.
pub watched_by_step : (command : Command) (state : State) → HasQueries state → AreBound state
    → HasQueries (step command state).state × AreBound (step command state).state
watched_by_step command state beside bound =
    kept_by_step IsWatched command state (λ due. watched_by_command command state due (beside, bound)) (beside, bound)

-- ---- the shown rows

module _ (name : List ℕ) (query : BoundQuery) (state : State) (is : query_named name state.schema.standing state.queries ≡ Some query) where
  its_rows : shown_rows name state ≡ shown query (eval query (rows_in state))
  its_rows = ap (λ (found : Option BoundQuery). option_map_or (answer_in state) found []) is

  pub its_rows_are_there : IsPermutation (eval query (rows_in state)) (shown_rows name state)
  its_rows_are_there =
      subst (IsPermutation (eval query (rows_in state))) (sym its_rows) (shown_permutation query (eval query (rows_in state)))

  pub its_rows_are_sorted : IsSorted (rows_by_columns query.order) (shown_rows name state)
  its_rows_are_sorted = subst (IsSorted (rows_by_columns query.order)) (sym its_rows) (shown_sorted query (eval query (rows_in state)))

module _ (name : List ℕ) (s : StandingDef) (q : BoundQuery) where
  -- A new name is that of the last query, ..
  pub last_named : (ss : List StandingDef) (qs : List BoundQuery) → AreBeside ss qs → is_some (find (λ (x : StandingDef). same_name name x.name) ss) ≡ false
      → same_name name s.name ≡ true → query_named name (ss ++ s ∷ []) (qs ++ q ∷ []) ≡ Some q
  last_named [] [] beside free own = ap (λ b. cond b (Some q) None) own
  last_named (t ∷ ts) (r ∷ rs) beside free own = by (same_name name t.name) free (λ none. last_named ts rs beside.1 none own)
    where
      by : (b : Bool) → is_some (cond b (Some t) (find (λ (x : StandingDef). same_name name x.name) ts)) ≡ false
          → (is_some (find (λ (x : StandingDef). same_name name x.name) ts) ≡ false → query_named name (ts ++ s ∷ []) (rs ++ q ∷ []) ≡ Some q)
          → cond b (Some r) (query_named name (ts ++ s ∷ []) (rs ++ q ∷ [])) ≡ Some q
      by true none later = cc
      by false none later = later none
  last_named [] (r ∷ rs) beside free own = absurd beside
  last_named (t ∷ ts) [] beside free own = absurd beside

  -- .. and any other name is that of the same query as before.
  pub others_named : (ss : List StandingDef) (qs : List BoundQuery) → AreBeside ss qs → same_name name s.name ≡ false
      → query_named name (ss ++ s ∷ []) (qs ++ q ∷ []) ≡ query_named name ss qs
  others_named [] [] beside other = ap (λ b. cond b (Some q) None) other
  others_named (t ∷ ts) (r ∷ rs) beside other = ap (cond (same_name name t.name) (Some r)) (others_named ts rs beside.1 other)
  others_named [] (r ∷ rs) beside other = absurd beside
  others_named (t ∷ ts) [] beside other = absurd beside

-- A new standing query shows the rows of a SELECT of its query, ..
pub shown_by_watch : (name : List ℕ) (query : Query) (state : State) → HasQueries state → first_refusal (watch_conditions name query state) ≡ None
    → shown_rows name (after_watch name query state) ≡ selected query state
shown_by_watch name query state beside due =
    let taken = (none_hold (watch_conditions name query state) due).1.1.0 in
    let bound = placed_query state.schema query in
    ap (λ (found : Option BoundQuery). option_map_or (answer_in state) found [])
    (last_named name (record { name = name; tables = tables_read bound }) bound state.schema.standing state.queries beside taken (same_name_refl name))

-- .. and all others show the same as before.
pub others_by_watch : (name : List ℕ) (query : Query) (state : State) (other : List ℕ) → HasQueries state → same_name other name ≡ false
    → shown_rows other (after_watch name query state) ≡ shown_rows other state
others_by_watch name query state other beside differs =
    let bound = placed_query state.schema query in
    ap (λ (found : Option BoundQuery). option_map_or (answer_in state) found [])
    (others_named other (record { name = name; tables = tables_read bound }) bound state.schema.standing state.queries beside differs)

no_query : (name : List ℕ) (ss : List StandingDef) → query_named name ss [] ≡ None
no_query name [] = refl
no_query name (s ∷ ss) = refl

module _ (gone : List ℕ) where
  -- A remaining name is that of the same query as before, ..
  pub left_named : (name : List ℕ) → same_name gone name ≡ false → (ss : List StandingDef) (qs : List BoundQuery)
      → query_named name (filter (is_other gone) ss) (without_query gone ss qs) ≡ query_named name ss qs
  left_named name other [] qs = refl
  left_named name other (s ∷ ss) [] = no_query name (filter (is_other gone) (s ∷ ss))
  left_named name other (s ∷ ss) (q ∷ qs) = by (same_name name s.name) refl (same_name gone s.name) refl (left_named name other ss qs)
    where
      by : (b : Bool) → same_name name s.name ≡ b → (g : Bool) → same_name gone s.name ≡ g
          → query_named name (filter (is_other gone) ss) (without_query gone ss qs) ≡ query_named name ss qs
          → query_named name (cond (not g) (s ∷ filter (is_other gone) ss) (filter (is_other gone) ss))
          (cond g (without_query gone ss qs) (q ∷ without_query gone ss qs))
          ≡ cond b (Some q) (query_named name ss qs)
      by true own true went later =
          let same : false ≡ true = sym other ∙ ap (same_name gone) (same_bytes name s.name own) ∙ went in cc
      by true own false here later = ap (λ b. cond b (Some q) (query_named name (filter (is_other gone) ss) (without_query gone ss qs))) own
      by false differs true went later = later
      by false differs false here later =
          ap (λ b. cond b (Some q) (query_named name (filter (is_other gone) ss) (without_query gone ss qs))) differs ∙ later

  -- .. and the dropped one is that of none.
  gone_named : (ss : List StandingDef) (qs : List BoundQuery) → query_named gone (filter (is_other gone) ss) (without_query gone ss qs) ≡ None
  gone_named [] qs = refl
  gone_named (s ∷ ss) [] = no_query gone (filter (is_other gone) (s ∷ ss))
  gone_named (s ∷ ss) (q ∷ qs) = by (same_name gone s.name) refl (gone_named ss qs)
    where
      by : (g : Bool) → same_name gone s.name ≡ g → query_named gone (filter (is_other gone) ss) (without_query gone ss qs) ≡ None
          → query_named gone (cond (not g) (s ∷ filter (is_other gone) ss) (filter (is_other gone) ss))
          (cond g (without_query gone ss qs) (q ∷ without_query gone ss qs)) ≡ None
      by true went later = later
      by false here later = ap (λ b. cond b (Some q) (query_named gone (filter (is_other gone) ss) (without_query gone ss qs))) here ∙ later

-- Dropping a standing query does not change what the others show, ..
pub others_by_unwatch : (name : List ℕ) (state : State) (other : List ℕ) → same_name name other ≡ false
    → shown_rows other (after_unwatch name state) ≡ shown_rows other state
others_by_unwatch name state other differs =
    ap (λ (found : Option BoundQuery). option_map_or (answer_in state) found []) (left_named name other differs state.schema.standing state.queries)

-- .. and it no longer exists.
pub gone_by_unwatch : (name : List ℕ) (state : State)
    → query_named name (after_unwatch name state).schema.standing (after_unwatch name state).queries ≡ None
gone_by_unwatch name state = gone_named name state.schema.standing state.queries

-- ---- the limit

pub limit_by_change : (mutation : Mutation) (state : State) → first_refusal (change_conditions mutation state) ≡ None
    → list_any (outgrows (after_change mutation state)) (after_change mutation state).queries ≡ false
limit_by_change mutation state due =
    first_none (list_any (outgrows (after_change mutation state)) (after_change mutation state).queries) StandingListTooLarge None
    (none_due_behind (row_conditions (changed_table mutation) (edits mutation state) (after_change mutation state))
    (growth_conditions (after_change mutation state)) (none_due_by_rows mutation state due))

-- Tables that edits do not affect keep their rows.
rows_beside_edits : (name : List ℕ) (ts : List Table) (es : List TableEdits) (rows : Instance)
    → AllByRecursion (λ (e : TableEdits). same_name e.table name ≡ false) es → rows_named name ts (after_edits ts es rows) ≡ rows_named name ts rows
rows_beside_edits name ts [] rows others = refl
rows_beside_edits name ts (e ∷ es) rows others =
    rows_beside_edits name ts es (changed_instance ts (e ∷ []) rows) others.1 ∙ rows_of_others e.table e.pairs name others.0 ts rows

-- A query that reads none of the tables that a change affects keeps its combinations.
pub same_bag : (mutation : Mutation) (state : State) (query : BoundQuery)
    → AllByRecursion (λ (e : TableEdits). list_any (same_name e.table) (tables_read query) ≡ false) (edits mutation state)
    → bag query (rows_in (after_change mutation state)) ≡ bag query (rows_in state)
same_bag mutation state query unread = ap (bag_of query) (lists query.from unread)
  where
    firsts : (item : FromItem) (items : List FromItem) (es : List TableEdits)
        → AllByRecursion (λ (e : TableEdits). list_any (same_name e.table) (map (λ (x : FromItem). x.table) (item ∷ items)) ≡ false) es
        → AllByRecursion (λ (e : TableEdits). same_name e.table item.table ≡ false) es
        × AllByRecursion (λ (e : TableEdits). list_any (same_name e.table) (map (λ (x : FromItem). x.table) items) ≡ false) es
    firsts item items [] unread = (tt, tt)
    firsts item items (e ∷ es) unread =
        let p = or_parts (same_name e.table item.table) (list_any (same_name e.table) (map (λ (x : FromItem). x.table) items)) unread.0 in
        let rest = firsts item items es unread.1 in
        ((p.0, rest.0), (p.1, rest.1))

    lists : (from : List FromItem)
        → AllByRecursion (λ (e : TableEdits). list_any (same_name e.table) (map (λ (item : FromItem). item.table) from) ≡ false) (edits mutation state)
        → map (λ (item : FromItem). rows_in (after_change mutation state) item.table) from ≡ map (λ (item : FromItem). rows_in state item.table) from
    lists [] unread = refl
    lists (item ∷ items) unread =
        let p = firsts item items (edits mutation state) unread in
        λ i. rows_beside_edits item.table state.schema.tables (edits mutation state) state.rows p.0 i ∷ lists items p.1 i
