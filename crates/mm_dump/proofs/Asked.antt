-- The standing queries of every state can be bound again: each is the bound form of a query that the catalog accepts.
use Rattle.std.proofs.Common.{◌≡◌, ◌⊎◌, ◌≤◌, ◌-◌, ℕ, Bool, true, false, cond, not, ◌&&◌, ◌||◌, leb, ltb, List, [], ◌∷◌, ◌++◌, Option, Some, None}
use Rattle.std.proofs.Common.{filter, find, is_none, is_some, length, map}
use Rattle.std.proofs.Common.{inl, inr, refl, sym, ap, ◌∙◌, subst, length-append, arith}
use Rattle.std.specs.Prelude.{IfSome}
use Rattle.std.specs.List.{AllByRecursion, IsDistinct, list_any}
use Rattle.std.specs.Option.{option_and_then, option_map_or}
use Rattle.std.proofs.lemmas.Bool.{cases_Bool, false≢true, leb-false, or_from, or_parts}
use Rattle.std.proofs.lemmas.List.Elements.{All-nil}
use Rattle.mm_value.specs.declared.refusal.Refusal.TheVariants.{AliasTaken, NoSuchAlias, NoSuchColumn, NoSuchTable, NotInTransaction, TooMany, TypeMismatch}
use Rattle.mm_schema.specs.Indexes.{table_with_index, table_without_index}
use Rattle.mm_schema.specs.Instance.{Instance, rows_named, without_rows}
use Rattle.mm_schema.specs.Name.{same_name}
use Rattle.mm_schema.specs.Refused.{first_refusal}
use Rattle.mm_schema.specs.Rows.{most_rows}
use Rattle.mm_schema.specs.Schema.{Schema, is_other_referring_to, lacks_table, reads_table, table_named}
use Rattle.mm_schema.specs.Standing.{standing_named}
use Rattle.mm_schema.specs.declared.column.Column.{Column}
use Rattle.mm_schema.specs.declared.standing.StandingDef.{StandingDef}
use Rattle.mm_schema.specs.declared.table.Table.{Table}
use Rattle.mm_schema.specs.declared.table.TableDef.{TableDef}
use Rattle.mm_schema.proofs.Dues.{none_due_behind, none_here}
use Rattle.mm_schema.proofs.Instances.{AreBeside, beside_from_order, name_of}
use Rattle.mm_schema.proofs.References.{same_with, same_without, second_none}
use Rattle.mm_schema.proofs.StandingLemmas.{distinct_among, distinct_behind, names_of, none_distinct}
use Rattle.mm_schema.proofs.StrictOrder.{AllByRecursion-append, AllByRecursion-weaker}
use Rattle.mm_query.specs.Edits.{changed_table, edits}
use Rattle.mm_query.specs.Fields.{FieldName}
use Rattle.mm_query.specs.Machine.{after_all, after_change, after_definition, change_conditions, conditions, definition_conditions, is_of_index}
use Rattle.mm_query.specs.Machine.{row_conditions, state_after, step}
use Rattle.mm_query.specs.Placing.{lacks_column, mapped_atom, mismatches, placed, type_named}
use Rattle.mm_query.specs.Queries.{bag, bag_of}
use Rattle.mm_query.specs.Resolving.{exceeds_query_limits, field_lacks_column, field_type, has_duplicate_aliases, lacks_alias, lacks_position}
use Rattle.mm_query.specs.Resolving.{placed_field, placed_query}
use Rattle.mm_query.specs.Resolving.{query_conditions, some_field, table_of}
use Rattle.mm_query.specs.Standing.{AreBound, HasQueries, after_watch, growth_conditions, outgrows, tables_read, watch_conditions}
use Rattle.mm_query.specs.State.{AreSavedRows, Saved, Savepoint, State, first_state, has_transaction}
use Rattle.mm_query.specs.declared.atom.Atom.{Atom}
use Rattle.mm_query.specs.declared.bound_query.BoundQuery.{BoundQuery}
use Rattle.mm_query.specs.declared.command.Command.{Command}
use Rattle.mm_query.specs.declared.command.Command.TheVariants.{Nothing, Define, Change, Scan, ScanIndex, Select, Explain, Show, Tables, Begin, Commit}
use Rattle.mm_query.specs.declared.command.Command.TheVariants.{Rollback, Savepoint as SetSavepoint, RollbackTo}
use Rattle.mm_query.specs.declared.command.Definition.{Definition}
use Rattle.mm_query.specs.declared.command.Definition.TheVariants as define
use Rattle.mm_query.specs.declared.command.Mutation.{Mutation}
use Rattle.mm_query.specs.declared.query.FromItem.{FromItem}
use Rattle.mm_query.specs.declared.query.Query.{Query}
use Rattle.mm_query.proofs.PlacedQueries.{none_hold}
use Rattle.mm_lang.specs.QueryText.{named_query}
use Rattle.mm_laws.proofs.KeyOrder.{IsKept, kept_at_first, kept_by_change, kept_by_definition, none_due_by_rows}
use Rattle.mm_laws.proofs.NamedRows.{no_rows_behind, rows_behind, rows_kept, rows_left}
use Rattle.mm_laws.proofs.StandingQueries.{IsThere, Stays, all_read_on, each_left, items_stay, none_of_query, none_out, stays_behind, stays_kept}
use Rattle.mm_laws.proofs.StandingQueries.{stays_left, unread_beside}
use Rattle.mm_laws.proofs.StandingQueries.{watched_at_first, watched_by_step}
use Rattle.mm_laws.proofs.StillFound.{no_rows_lacking}
use Rattle.mm_laws.proofs.Throughout.{HoldsThroughout, closed_or_of_index, each_held, gone_back, held_before, held_by_all, held_further, kept_by_step}
use Rattle.mm_laws.proofs.Throughout.{none_saved, restored}
use Rattle.mm_dump.proofs.Named.{query_named_back}
use Rattle.mm_dump.proofs.Restorable.{state_of}
use Rattle.mm_dump.proofs.Creatable.{length-filter_le}

-- The catalog that has only some tables.
abbrev pub schema_of : List Table → Schema
schema_of tables = record { tables = tables; standing = [] }

-- A bound query is some query that the catalog doesn't refuse, bound.
pub record IsAsked (tables : List Table) (bound : BoundQuery) : Type 0 where
  pub query : Query
  pub due : first_refusal (query_conditions query (schema_of tables)) ≡ None
  pub bound_is : bound ≡ placed_query (schema_of tables) query

-- ---- queries over another catalog

and_then_or : {X Y : Type 0} (f : X → Option Y) (o : Option X) → option_and_then f o ≡ option_map_or f o None
and_then_or f None = refl
and_then_or f (Some x) = refl

module _ (old new : List Table) where
  abbrev items_there : List FromItem → Type 0
  items_there from = AllByRecursion (IsThere (schema_of old) (schema_of new)) from

  module _ {X : Type 0} (tell : List Column → X) (none : X) where
    abbrev told : Option Table → X
    told table = option_map_or (λ (t : Table). tell t.definition.columns) table none

    told_same : (a b : Option Table) → is_none a ≡ false → is_none b ≡ false
        → option_map_or (λ (t : Table). t.definition.columns) a [] ≡ option_map_or (λ (t : Table). t.definition.columns) b [] → told a ≡ told b
    told_same None b a_there b_there same = absurd (false≢true (sym a_there))
    told_same (Some t) None a_there b_there same = absurd (false≢true (sym b_there))
    told_same (Some t) (Some u) a_there b_there same = ap tell same

    -- The facts about the columns of an alias's table stay the same if the tables of FROM do.
    told_of : (from : List FromItem) → items_there from → list_any (λ (item : FromItem). lacks_table item.table (schema_of old)) from ≡ false
        → (alias : List ℕ) → told (table_of (schema_of new) from alias) ≡ told (table_of (schema_of old) from alias)
    told_of [] there tables alias = refl
    told_of (item ∷ items) there tables alias =
        let p = or_parts (lacks_table item.table (schema_of old)) (list_any (λ (x : FromItem). lacks_table x.table (schema_of old)) items) tables in
        by (same_name alias item.alias) p.0 (told_of items there.1 p.1 alias)
      where
        by : (b : Bool) → lacks_table item.table (schema_of old) ≡ false
            → told (table_of (schema_of new) items alias) ≡ told (table_of (schema_of old) items alias)
            → told (option_and_then (λ (x : FromItem). table_named x.table (schema_of new))
            (cond b (Some item) (find (λ (x : FromItem). same_name alias x.alias) items)))
            ≡ told (option_and_then (λ (x : FromItem). table_named x.table (schema_of old))
            (cond b (Some item) (find (λ (x : FromItem). same_name alias x.alias) items)))
        by true there_before later =
            told_same (table_named item.table (schema_of new)) (table_named item.table (schema_of old)) there.0.0 there_before there.0.1
        by false there_before later = later

  none_lacking : (from : List FromItem) → items_there from → list_any (λ (item : FromItem). lacks_table item.table (schema_of new)) from ≡ false
  none_lacking [] there = refl
  none_lacking (item ∷ items) there = or_from _ _ there.0.0 (none_lacking items there.1)

  module _ (query : Query) (there : items_there query.from) (due : first_refusal (query_conditions query (schema_of old)) ≡ None) where
    tables_before : list_any (λ (item : FromItem). lacks_table item.table (schema_of old)) query.from ≡ false
    tables_before = (none_hold (query_conditions query (schema_of old)) due).0

    place_same : (field : FieldName) → placed_field (schema_of new) query.from field ≡ placed_field (schema_of old) query.from field
    place_same field = λ i. record (placed_field (schema_of old) query.from field) {
      column = told_of (λ columns. placed columns field.column) 0 query.from there tables_before field.alias i;
    }

    lacking_same : (field : FieldName) → field_lacks_column (schema_of new) query.from field ≡ field_lacks_column (schema_of old) query.from field
    lacking_same field = told_of (λ columns. lacks_column columns field.column) false query.from there tables_before field.alias

    type_same : (field : FieldName) → field_type (schema_of new) query.from field ≡ field_type (schema_of old) query.from field
    type_same field =
        and_then_or (λ (t : Table). type_named t.definition.columns field.column) (table_of (schema_of new) query.from field.alias)
        ∙ told_of (λ columns. type_named columns field.column) None query.from there tables_before field.alias
        ∙ sym (and_then_or (λ (t : Table). type_named t.definition.columns field.column) (table_of (schema_of old) query.from field.alias))

    bound_same : placed_query (schema_of new) query ≡ placed_query (schema_of old) query
    bound_same = λ i. record {
      distinct = query.distinct;
      fields = map (λ field. place_same field i) query.fields;
      from = query.from;
      atoms = map (mapped_atom (λ field. place_same field i)) query.atoms;
      order = map (λ position. position - 1) query.order;
    }

    due_same : first_refusal (query_conditions query (schema_of new)) ≡ first_refusal (query_conditions query (schema_of old))
    due_same = λ i. cond ((none_lacking query.from there ∙ sym tables_before) i) (Some NoSuchTable)
        (cond (some_field (λ field. lacking_same field i) query || list_any (lacks_position query.fields) query.order) (Some NoSuchColumn)
        (cond (has_duplicate_aliases query.from) (Some AliasTaken)
        (cond (some_field (lacks_alias query.from) query) (Some NoSuchAlias)
        (cond (list_any (λ (a : Atom FieldName). mismatches (λ field. type_same field i) a.left a.right) query.atoms) (Some TypeMismatch)
        (cond (exceeds_query_limits query) (Some TooMany) None)))))

  module _ (out : List ℕ → Bool) (stays : Stays (schema_of old) (schema_of new) out) where
    asked_still : (bound : BoundQuery) → list_any out (tables_read bound) ≡ false → IsAsked old bound → IsAsked new bound
    asked_still bound unread asked =
        let unread_query : list_any out (map (λ (item : FromItem). item.table) asked.query.from) ≡ false =
        ap (λ (b : BoundQuery). list_any out (tables_read b)) (sym asked.bound_is) ∙ unread in
        let there = items_stay (schema_of old) (schema_of new) out stays asked.query.from
        (none_hold (query_conditions asked.query (schema_of old)) asked.due).0 unread_query in
        record {
          query = asked.query;
          due = due_same asked.query there asked.due ∙ asked.due;
          bound_is = asked.bound_is ∙ sym (bound_same asked.query there asked.due);
        }

    -- A query that reads none of the tables that go gets the same names.
    pub named_still : (bound : BoundQuery) → list_any out (tables_read bound) ≡ false → IsAsked old bound
        → named_query (schema_of new) bound ≡ named_query (schema_of old) bound
    named_still bound unread asked =
        let unread_query : list_any out (map (λ (item : FromItem). item.table) asked.query.from) ≡ false =
        ap (λ (b : BoundQuery). list_any out (tables_read b)) (sym asked.bound_is) ∙ unread in
        let there = items_stay (schema_of old) (schema_of new) out stays asked.query.from
        (none_hold (query_conditions asked.query (schema_of old)) asked.due).0 unread_query in
        ap (named_query (schema_of new)) (asked.bound_is ∙ sym (bound_same asked.query there asked.due))
        ∙ query_named_back (schema_of new) asked.query (due_same asked.query there asked.due ∙ asked.due)
        ∙ sym (ap (named_query (schema_of old)) asked.bound_is ∙ query_named_back (schema_of old) asked.query asked.due)

    all_asked : (queries : List BoundQuery) → AllByRecursion (λ query. list_any out (tables_read query) ≡ false) queries
        → AllByRecursion (IsAsked old) queries → AllByRecursion (IsAsked new) queries
    all_asked [] unread asked = tt
    all_asked (q ∷ qs) unread asked = (asked_still q unread.0 asked.0, all_asked qs unread.1 asked.1)

-- ---- the limit of combinations

-- A query stays within the limit on combinations of the rows of tables.
abbrev pub Fits : List Table → Instance → BoundQuery → Type 0
Fits tables rows query = outgrows (state_of tables rows) query ≡ false

abbrev pub AllFit : List Table → Instance → List BoundQuery → Type 0
AllFit tables rows queries = AllByRecursion (Fits tables rows) queries

-- The same rows under each name fit the same.
fit_alike : (old new : List Table) (before after : Instance) → ((name : List ℕ) → rows_named name new after ≡ rows_named name old before)
    → (queries : List BoundQuery) → AllFit old before queries → AllFit new after queries
fit_alike old new before after same queries fit =
    AllByRecursion-weaker (λ query fits. (λ i. ltb most_rows (length (bag query (λ name. same name i)))) ∙ fits) queries fit

module _ (gone : List ℕ) (tables : List Table) (rows : Instance) where
  abbrev stays : Table → Bool
  stays t = not (same_name gone (name_of t))

  rows_of_items : (from : List FromItem) → list_any (same_name gone) (map (λ (item : FromItem). item.table) from) ≡ false
      → map (λ (item : FromItem). rows_named item.table (filter stays tables) (without_rows gone tables rows)) from
      ≡ map (λ (item : FromItem). rows_named item.table tables rows) from
  rows_of_items [] unread = refl
  rows_of_items (item ∷ items) unread =
      let p = or_parts (same_name gone item.table) (list_any (same_name gone) (map (λ (x : FromItem). x.table) items)) unread in
      λ i. rows_left gone item.table p.0 tables rows i ∷ rows_of_items items p.1 i

  fit_left : (queries : List BoundQuery) → AllByRecursion (λ query. list_any (same_name gone) (tables_read query) ≡ false) queries
      → AllFit tables rows queries → AllFit (filter stays tables) (without_rows gone tables rows) queries
  fit_left [] unread fit = tt
  fit_left (q ∷ qs) unread fit =
      ((λ i. ltb most_rows (length (bag_of q (rows_of_items q.from unread.0 i)))) ∙ fit.0, fit_left qs unread.1 fit.1)

each_within : (state : State) (queries : List BoundQuery) → list_any (outgrows state) queries ≡ false
    → AllByRecursion (λ query. outgrows state query ≡ false) queries
each_within state [] within = tt
each_within state (q ∷ qs) within = let p = or_parts (outgrows state q) (list_any (outgrows state) qs) within in (p.0, each_within state qs p.1)

-- ---- each command keeps these properties of the standing queries

pub record AreKept (state : State) : Type 0 where
  pub asked : AllByRecursion (IsAsked state.schema.tables) state.queries
  pub names : IsDistinct same_name (names_of state.schema.standing)
  pub few : length state.schema.standing ≤ 32
  pub fit : AllFit state.schema.tables state.rows state.queries
  pub saved : IfSome state.saved (AreSavedRows (λ rows. AllFit state.schema.tables rows state.queries))

-- Nothing is saved outside a transaction.
nothing_saved : (P : Instance → Type 0) (saved : Option Saved) → is_some saved ≡ false → IfSome saved (AreSavedRows P)
nothing_saved P saved closed = subst (λ s. IfSome s (AreSavedRows P)) (sym (none_saved saved closed)) tt

kept_with_definitions : (change : Table → Table) → ((t : Table) → (change t).definition ≡ t.definition) → (state : State) → AreKept state
    → AreKept (record state { schema = record state.schema { tables = map change state.schema.tables } })
kept_with_definitions change same state is =
    let new = map change state.schema.tables in
    let still = λ (rows : Instance) (fit : AllFit state.schema.tables rows state.queries).
    fit_alike state.schema.tables new rows rows (λ name. rows_kept change same name state.schema.tables rows) state.queries fit in
    record {
      asked = all_asked state.schema.tables new none_out (stays_kept change same state.schema) state.queries (all_read_on state.queries) is.asked;
      names = is.names;
      few = is.few;
      fit = still state.rows is.fit;
      saved = each_held (λ rows. AllFit state.schema.tables rows state.queries) (λ rows. AllFit new rows state.queries) still state.saved is.saved;
    }

rows_of_more : (definition : TableDef) (tables : List Table) (rows : Instance) → AreBeside tables rows → (name : List ℕ)
    → rows_named name (tables ++ record { definition = definition; indexes = [] } ∷ []) (rows ++ [] ∷ []) ≡ rows_named name tables rows
rows_of_more definition tables rows beside name =
    let t : Table = record { definition = definition; indexes = [] } in
    elim (cases_Bool (lacks_table name (schema_of tables))) [
      | inl none ↦ no_rows_behind name t tables rows beside none ∙ sym (no_rows_lacking name tables rows none)
      | inr there ↦ rows_behind name t tables rows beside there
    ]

some_named : (o : Option StandingDef) → is_some o ≡ false → o ≡ None
some_named None none = refl
some_named (Some s) none = absurd (false≢true (sym none))

kept_by_watch : (name : List ℕ) (query : Query) (state : State) → first_refusal (watch_conditions name query state) ≡ None → has_transaction state ≡ false
    → AreKept state → AreKept (after_watch name query state)
kept_by_watch name query state due closed is =
    let bound = placed_query state.schema query in
    let new : StandingDef = record { name = name; tables = tables_read bound } in
    let hold = none_hold (watch_conditions name query state) due in
    let limits = or_parts (exceeds_query_limits query) (leb 32 (length state.schema.standing)) hold.1.1.1.1.1.1.0 in
    record {
      asked = AllByRecursion-append (IsAsked state.schema.tables) state.queries (bound ∷ []) is.asked
          (record { query = query; due = none_of_query name query state due; bound_is = refl }, tt);
      names = distinct_behind new state.schema.standing (some_named (standing_named name state.schema) hold.1.1.0) is.names;
      few = let lt = leb-false 32 (length state.schema.standing) limits.1 in omega (arith, lt, length-append state.schema.standing (new ∷ []));
      fit = AllByRecursion-append (Fits state.schema.tables state.rows) state.queries (bound ∷ []) is.fit (hold.1.1.1.1.1.1.1.0, tt);
      saved = nothing_saved (λ rows. AllFit state.schema.tables rows (state.queries ++ bound ∷ [])) state.saved closed;
    }

abbrev others : List ℕ → StandingDef → Bool
others gone query = not (same_name gone query.name)

closed_from : (state : State) (definition : Definition) → (has_transaction state ≡ false) ⊎ (is_of_index definition ≡ true) → is_of_index definition ≡ false
    → has_transaction state ≡ false
closed_from state definition (inl closed) other = closed
closed_from state definition (inr of_index) other = absurd (false≢true (sym other ∙ of_index))

kept_by_define : (definition : Definition) (state : State) → first_refusal (definition_conditions definition state) ≡ None
    → (has_transaction state ≡ false) ⊎ (is_of_index definition ≡ true) → AreBeside state.schema.tables state.rows → HasQueries state → AreKept state
    → AreKept (after_definition definition state)
kept_by_define (define.Table definition) state due where_done beside has is = record {
  asked = all_asked state.schema.tables (state.schema.tables ++ record { definition = definition; indexes = [] } ∷ []) none_out
      (stays_behind definition state.schema) state.queries (all_read_on state.queries) is.asked;
  names = is.names;
  few = is.few;
  fit = fit_alike state.schema.tables (state.schema.tables ++ record { definition = definition; indexes = [] } ∷ []) state.rows (state.rows ++ [] ∷ [])
      (rows_of_more definition state.schema.tables state.rows beside) state.queries is.fit;
  saved = nothing_saved _ state.saved (closed_from state (define.Table definition) where_done refl);
}
kept_by_define (define.DropTable name) state due where_done beside has is =
    let unused = or_parts (list_any (is_other_referring_to name) state.schema.tables) (list_any (reads_table name) state.schema.standing)
    (second_none _ _ _ _ _ due) in
    let unread = unread_beside name state.schema.standing state.queries has unused.1 in
    record {
      asked = all_asked state.schema.tables (filter (λ (t : Table). not (same_name name t.definition.name)) state.schema.tables) (same_name name)
          (stays_left name state.schema) state.queries unread is.asked;
      names = is.names;
      few = is.few;
      fit = fit_left name state.schema.tables state.rows state.queries unread is.fit;
      saved = nothing_saved _ state.saved (closed_from state (define.DropTable name) where_done refl);
    }
kept_by_define (define.Index index) state due where_done beside has is = kept_with_definitions (table_with_index index) (same_with index) state is
kept_by_define (define.DropIndex name) state due where_done beside has is = kept_with_definitions (table_without_index name) (same_without name) state is
kept_by_define (define.Watch watched) state due where_done beside has is =
    kept_by_watch watched.name watched.query state due (closed_from state (define.Watch watched) where_done refl) is
kept_by_define (define.Unwatch name) state due where_done beside has is = record {
  asked = each_left name (IsAsked state.schema.tables) state.schema.standing state.queries is.asked;
  names = distinct_among (others name) state.schema.standing is.names;
  few = omega (arith, is.few, length-filter_le (others name) state.schema.standing);
  fit = each_left name (Fits state.schema.tables state.rows) state.schema.standing state.queries is.fit;
  saved = nothing_saved _ state.saved (closed_from state (define.Unwatch name) where_done refl);
}

kept_by_rows : (mutation : Mutation) (state : State) → first_refusal (change_conditions mutation state) ≡ None → AreKept state
    → AreKept (after_change mutation state)
kept_by_rows mutation state due is =
    let after = after_change mutation state in
    let growth : first_refusal (growth_conditions after) ≡ None =
    none_due_behind (row_conditions (changed_table mutation) (edits mutation state) after) (growth_conditions after) (none_due_by_rows mutation state due) in
    record {
      asked = is.asked;
      names = is.names;
      few = is.few;
      fit = each_within after state.queries (none_hold (growth_conditions after) growth).0;
      saved = is.saved;
    }

kept_by_command : (command : Command) (state : State) → first_refusal (conditions command state) ≡ None → AreBeside state.schema.tables state.rows
    → HasQueries state → AreKept state → AreKept (state_after command state)
kept_by_command Nothing state due beside has is = is
kept_by_command (Define definition) state due beside has is =
    kept_by_define definition state
    (none_here (has_transaction state && not (is_of_index definition)) NotInTransaction (first_refusal (definition_conditions definition state)) due)
    (closed_or_of_index (has_transaction state) (is_of_index definition) NotInTransaction (first_refusal (definition_conditions definition state)) due)
    beside has is
kept_by_command (Change mutation) state due beside has is = kept_by_rows mutation state due is
kept_by_command (Scan table) state due beside has is = is
kept_by_command (ScanIndex index) state due beside has is = is
kept_by_command (Select query) state due beside has is = is
kept_by_command (Explain query) state due beside has is = is
kept_by_command (Show name) state due beside has is = is
kept_by_command Tables state due beside has is = is
kept_by_command Begin state due beside has is = record {
  asked = is.asked;
  names = is.names;
  few = is.few;
  fit = is.fit;
  saved = record { at_begin = is.fit; savepoints = All-nil (λ (s : Savepoint). AllFit state.schema.tables s.rows state.queries) };
}
kept_by_command Commit state due beside has is = record { asked = is.asked; names = is.names; few = is.few; fit = is.fit; saved = tt }
kept_by_command Rollback state due beside has is = record {
  asked = is.asked;
  names = is.names;
  few = is.few;
  fit = restored (λ rows. AllFit state.schema.tables rows state.queries) state.rows state.saved is.fit is.saved;
  saved = tt;
}
kept_by_command (SetSavepoint name) state due beside has is = record {
  asked = is.asked;
  names = is.names;
  few = is.few;
  fit = is.fit;
  saved = held_further (λ rows. AllFit state.schema.tables rows state.queries) name state.rows state.saved is.fit is.saved;
}
kept_by_command (RollbackTo name) state due beside has is = record {
  asked = is.asked;
  names = is.names;
  few = is.few;
  fit = gone_back (λ rows. AllFit state.schema.tables rows state.queries) name state.rows state.saved is.fit is.saved;
  saved = held_before (λ rows. AllFit state.schema.tables rows state.queries) name state.saved is.saved;
}

-- ---- every state

-- Each step keeps these properties of a state: its rows in key order, and its standing queries.
pub record IsSound (state : State) : Type 0 where
  pub rows : HoldsThroughout IsKept state
  pub has : HasQueries state
  pub bound : AreBound state
  pub kept : AreKept state

pub sound_at_first : IsSound first_state
sound_at_first = record {
  rows = record { rows = kept_at_first; saved = tt };
  has = watched_at_first.0;
  bound = watched_at_first.1;
  kept = record { asked = tt; names = none_distinct; few = omega arith; fit = tt; saved = tt };
}

sound_by_step : (command : Command) (state : State) → IsSound state → IsSound (step command state).state
sound_by_step command state is =
    let watched = watched_by_step command state is.has is.bound in
    record {
      rows = held_by_all IsKept kept_by_definition kept_by_change (command ∷ []) state is.rows;
      has = watched.0;
      bound = watched.1;
      kept = kept_by_step AreKept command state
          (λ due. kept_by_command command state due (beside_from_order state.schema.tables state.rows is.rows.rows.order) is.has is.kept) is.kept;
    }

pub sound_after : (commands : List Command) (state : State) → IsSound state → IsSound (after_all commands state)
sound_after [] state is = is
sound_after (c ∷ cs) state is = sound_after cs (step c state).state (sound_by_step c state is)

-- Each standing query of a state that commands lead to has its query beside it, which can be bound again.
pub reached_asked : (commands : List Command) → HasQueries (after_all commands first_state) × AreKept (after_all commands first_state)
reached_asked commands = let is = sound_after commands first_state sound_at_first in (is.has, is.kept)
