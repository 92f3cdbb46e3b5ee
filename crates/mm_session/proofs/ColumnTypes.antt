-- The rows that a command replies have the types of the columns that they are said to have.
use Rattle.std.proofs.Common.{◌≡◌, ℕ, zero, suc, ◌<◌, pos, Bool, true, false, cond, not, List, [], ◌∷◌, Option, Some, None, filter, filter_map}
use Rattle.std.proofs.Common.{length, map, slice_get, refl, sym, ap, subst, ◌∙◌, arith}
use Rattle.std.specs.Prelude.{IfSome}
use Rattle.std.specs.List.{All, AllByRecursion, cons_option, flat_map, list_any}
use Rattle.std.specs.Option.{option_and_then, option_map_or, unwrap_or}
use Rattle.std.proofs.lemmas.Bool.{or_parts}
use Rattle.std.proofs.lemmas.List.Elements.{All-append, All-cons, All-filter, All-head, All-map, All-nil, All-tail, All-weaker}
use Rattle.std.proofs.lemmas.List.Sorted.{All-permutation}
use Rattle.mm_value.specs.Types.{type_of}
use Rattle.mm_value.specs.declared.refusal.Refusal.{Refusal}
use Rattle.mm_value.specs.declared.values.Value.TheVariants.{Int}
use Rattle.mm_schema.specs.Columns.{column_named}
use Rattle.mm_schema.specs.Indexes.{index_named}
use Rattle.mm_schema.specs.Name.{same_name}
use Rattle.mm_schema.specs.Refused.{first_refusal}
use Rattle.mm_schema.specs.Schema.{Schema, columns_named, lacks_table}
use Rattle.mm_schema.specs.declared.column.Column.{Column}
use Rattle.mm_schema.specs.declared.index.IndexDef.{IndexDef}
use Rattle.mm_schema.specs.declared.standing.StandingDef.{StandingDef}
use Rattle.mm_schema.specs.declared.table.Table.{Table}
use Rattle.mm_schema.proofs.Duplicates.{Row}
use Rattle.mm_schema.proofs.InOrder.{IsPermutation-in_order}
use Rattle.mm_schema.proofs.NameLemmas.{same_bytes}
use Rattle.mm_query.specs.Atoms.{value_in}
use Rattle.mm_query.specs.Machine.{conditions, index_rows, reply_to, rows_by_index, state_after, step, unless_refused}
use Rattle.mm_query.specs.Queries.{bag, combinations, eval, fits, one_of_each, projected, rows_by_columns, same_row, size_conditions, value_at}
use Rattle.mm_query.specs.Queries.{values_of}
use Rattle.mm_query.specs.Fields.{FieldName}
use Rattle.mm_query.specs.Resolving.{IsFieldWithin, IsQueryWithin, answer_in, bag_in, field_lacks_column, lacks_alias, lacks_position, placed_field}
use Rattle.mm_query.specs.Resolving.{placed_query, query_conditions, select_conditions, selected, some_field, some_side, width_at}
use Rattle.mm_query.specs.Standing.{AreBound, query_named, shown_rows}
use Rattle.mm_query.specs.State.{State, rows_in}
use Rattle.mm_query.specs.declared.bound_query.BoundQuery.{BoundQuery}
use Rattle.mm_query.specs.declared.bound_query.FieldPlace.{FieldPlace}
use Rattle.mm_query.specs.declared.command.Command.{Command}
use Rattle.mm_query.specs.declared.command.Command.TheVariants.{Nothing, Define, Change, Scan, ScanIndex, Select, Explain, Show, Tables, Begin, Commit}
use Rattle.mm_query.specs.declared.command.Command.TheVariants.{Rollback, Savepoint as SetSavepoint, RollbackTo}
use Rattle.mm_query.specs.declared.query.FromItem.{FromItem}
use Rattle.mm_query.specs.declared.query.Query.{Query}
use Rattle.mm_query.specs.declared.reply.Reply.TheVariants.{Rows}
use Rattle.mm_query.proofs.FoundTargets.{found_among}
use Rattle.mm_query.proofs.PlacedQueries.{none_hold, query_within}
use Rattle.mm_laws.specs.Typing.{AreTyped, HasTypes}
use Rattle.mm_laws.proofs.TypedPlaces.{at_place}
use Rattle.mm_laws.proofs.TypedQueries.{IsResolved, field_resolved}
use Rattle.mm_laws.proofs.TypedRows.{value_typed}
use Rattle.mm_laws.proofs.TypedSteps.{none_in_front}
use Rattle.mm_laws.proofs.TypedTables.{named_typed}
use Rattle.mm_session.specs.Columns.{bound_columns, column_at_place, column_of_field, columns_of, query_columns}

-- ---- one row

-- a row has a value of the type of each column
abbrev pub HasTypesOf : List Column → Row → Type 0
HasTypesOf columns row = map type_of row ≡ map (λ (column : Column). column.col_type) columns

types_of_row : (columns : List Column) (row : Row) → HasTypes columns row → HasTypesOf columns row
types_of_row [] [] has = refl
types_of_row (c ∷ cs) (v ∷ vs) has = λ i. has.0 i ∷ types_of_row cs vs has.1 i
types_of_row [] (v ∷ vs) has = absurd has
types_of_row (c ∷ cs) [] has = absurd has

-- A row that has its types has a value of the type of the column at each place.
typed_at : (columns : List Column) (row : Row) (place : ℕ) → HasTypes columns row → place < length columns
    → (column : Column) × (slice_get columns place ≡ Some column) × (type_of (value_in place row) ≡ column.col_type)
typed_at columns row place has inside =
    let here = at_place columns place inside in
    (here.0, here.1, value_typed columns row place here.0 has here.1)

-- ---- the rows of a table of a state, and of a query

module _ (state : State) (typed : AreTyped state.schema.tables state.rows) where
  of_table : (name : List ℕ) → All (HasTypesOf (columns_named name state.schema)) (rows_in state name)
  of_table name =
      All-weaker (HasTypes (columns_named name state.schema)) _ (types_of_row (columns_named name state.schema)) (rows_in state name)
      (named_typed name state.schema.tables state.rows typed)

  -- a combination has for each item a row that has the types of its table
  abbrev AreRowsOf : List FromItem → List Row → Type 0
  AreRowsOf [] [] = Unit {0}
  AreRowsOf (item ∷ items) (row ∷ others) = HasTypes (columns_named item.table state.schema) row × AreRowsOf items others
  AreRowsOf [] (row ∷ others) = ⊥
  AreRowsOf (item ∷ items) [] = ⊥

  abbrev lists : List FromItem → List (List Row)
  lists items = map (λ (item : FromItem). rows_in state item.table) items

  combined : (items : List FromItem) → All (AreRowsOf items) (combinations (lists items))
  combined [] = All-cons (AreRowsOf []) [] [] tt (All-nil _)
  combined (item ∷ items) = each (combined items) (rows_in state item.table) (named_typed item.table state.schema.tables state.rows typed)
    where
      each : All (AreRowsOf items) (combinations (lists items)) → (rows : List Row) → All (HasTypes (columns_named item.table state.schema)) rows
          → All (AreRowsOf (item ∷ items)) (flat_map (λ (row : Row). map (λ others. row ∷ others) (combinations (lists items))) rows)
      each later [] has = All-nil _
      each later (row ∷ rows) has =
          let columns = columns_named item.table state.schema in
          All-append (AreRowsOf (item ∷ items)) _ _
          (All-map (AreRowsOf (item ∷ items)) (λ others. row ∷ others) (combinations (lists items))
          (All-weaker (AreRowsOf items) (λ others. AreRowsOf (item ∷ items) (row ∷ others))
          (λ others are. (All-head (HasTypes columns) row rows has, are)) _ later))
          (each later rows (All-tail (HasTypes columns) row rows has))

  -- A field has a value of the type of the column at its place.
  field_typed : (from : List FromItem) (combination : List Row) (place column : ℕ) → AreRowsOf from combination
      → column < width_at state.schema from place
      → (found : Column) × (column_at_place state.schema from (record { place = place; column = column }) ≡ Some found)
      × (type_of (unwrap_or (value_at (map Some combination) (record { place = place; column = column })) (Int (pos 0))) ≡ found.col_type)
  field_typed [] combination place column are within = absurd (omega (arith, within))
  field_typed (item ∷ items) [] place column are within = absurd are
  field_typed (item ∷ items) (row ∷ others) zero column are within = typed_at (columns_named item.table state.schema) row column are.0 within
  field_typed (item ∷ items) (row ∷ others) (suc place) column are within = field_typed items others place column are.1 within

  module _ (query : BoundQuery) (within : IsQueryWithin state.schema query) where
    projected_typed : (combination : List Row) → AreRowsOf query.from combination → HasTypesOf (bound_columns state.schema query) (projected query combination)
    projected_typed combination are = each query.fields within.fields
      where
        each : (fields : List FieldPlace) → All (IsFieldWithin state.schema query.from) fields
            → HasTypesOf (filter_map (column_at_place state.schema query.from) fields) (values_of fields (map Some combination))
        each [] all = refl
        each (field ∷ fields) all =
            let is = field_typed query.from combination field.place field.column are (All-head (IsFieldWithin state.schema query.from) field fields all) in
            let later = each fields (All-tail (IsFieldWithin state.schema query.from) field fields all) in
            let columns = filter_map (column_at_place state.schema query.from) fields in
            (λ i. is.2 i ∷ later i)
            ∙ ap (λ (found : Option Column). map (λ (column : Column). column.col_type) (cons_option found columns)) (sym is.1)

    bag_typed : All (HasTypesOf (bound_columns state.schema query)) (bag query (rows_in state))
    bag_typed =
        All-map (HasTypesOf (bound_columns state.schema query)) (projected query) (filter (fits query) (combinations (lists query.from)))
        (All-weaker (AreRowsOf query.from) _ projected_typed _ (All-filter (fits query) (AreRowsOf query.from) _ (combined query.from)))

    -- The rows of a query's result have the types of its columns.
    answer_typed : All (HasTypesOf (bound_columns state.schema query)) (answer_in state query)
    answer_typed =
        All-permutation (HasTypesOf (bound_columns state.schema query)) _ _
        (IsPermutation-in_order (rows_by_columns query.order) (eval query (rows_in state))) (by query.distinct)
      where
        once : (rows : List Row) → All (HasTypesOf (bound_columns state.schema query)) rows
            → All (HasTypesOf (bound_columns state.schema query)) (one_of_each rows)
        once [] all = all
        once (row ∷ rows) all =
            All-cons (HasTypesOf (bound_columns state.schema query)) row _ (All-head (HasTypesOf (bound_columns state.schema query)) row rows all)
            (All-filter (λ (other : Row). not (same_row row other)) (HasTypesOf (bound_columns state.schema query)) _
            (once rows (All-tail (HasTypesOf (bound_columns state.schema query)) row rows all)))

        by : (b : Bool) → All (HasTypesOf (bound_columns state.schema query)) (cond b (one_of_each (bag query (rows_in state))) (bag query (rows_in state)))
        by true = once (bag query (rows_in state)) bag_typed
        by false = bag_typed

-- ---- the columns of fields

module _ (schema : Schema) (from : List FromItem) (tables : list_any (λ (item : FromItem). lacks_table item.table schema) from ≡ false) where
  fields_found : (fields : List FieldName) → list_any (field_lacks_column schema from) fields ≡ false → list_any (lacks_alias from) fields ≡ false
      → AllByRecursion (IsResolved schema from) fields
  fields_found [] has alias = tt
  fields_found (field ∷ fields) has alias =
      let h = or_parts (field_lacks_column schema from field) (list_any (field_lacks_column schema from) fields) has in
      let a = or_parts (lacks_alias from field) (list_any (lacks_alias from) fields) alias in
      (field_resolved schema from tables field h.0 a.0, fields_found fields h.1 a.1)

module _ (schema : Schema) (from : List FromItem) where
  by_name : (field : FieldName) (is : IsResolved schema from field) → column_of_field schema from field ≡ Some is.column
  by_name field is = ap (option_and_then (λ (t : Table). column_named field.column t.definition.columns)) is.of ∙ is.named

  same_columns : (fields : List FieldName) → AllByRecursion (IsResolved schema from) fields
      → filter_map (column_at_place schema from) (map (placed_field schema from) fields) ≡ filter_map (column_of_field schema from) fields
  same_columns [] all = refl
  same_columns (field ∷ fields) all = λ i. cons_option ((all.0.by_place ∙ sym (by_name field all.0)) i) (same_columns fields all.1 i)

  same_names : (fields : List FieldName) → AllByRecursion (IsResolved schema from) fields
      → map (λ (column : Column). column.name) (filter_map (column_of_field schema from) fields) ≡ map (λ (field : FieldName). field.column) fields
  same_names [] all = refl
  same_names (field ∷ fields) all =
      let columns = all.0.table.definition.columns in
      let own = (found_among (λ (column : Column). same_name field.column column.name) columns all.0.column all.0.named).1 in
      ap (λ (found : Option Column). map (λ (column : Column). column.name) (cons_option found (filter_map (column_of_field schema from) fields)))
      (by_name field all.0)
      ∙ (λ i. sym (same_bytes field.column all.0.column.name own) i ∷ same_names fields all.1 i)

module _ (schema : Schema) (query : Query) (due : first_refusal (query_conditions query schema) ≡ None) where
  each_found : AllByRecursion (IsResolved schema query.from) query.fields
  each_found =
      let hold = none_hold (query_conditions query schema) due in
      let has = or_parts (some_field (field_lacks_column schema query.from) query) (list_any (lacks_position query.fields) query.order) hold.1.0 in
      let columns = or_parts (list_any (field_lacks_column schema query.from) query.fields)
      (list_any (some_side (field_lacks_column schema query.from)) query.atoms) has.0 in
      let aliases = or_parts (list_any (lacks_alias query.from) query.fields) (list_any (some_side (lacks_alias query.from)) query.atoms) hold.1.1.1.0 in
      fields_found schema query.from hold.0 query.fields columns.0 aliases.0

  -- A query that the catalog does not refuse has the columns at its places, ..
  pub bound_alike : bound_columns schema (placed_query schema query) ≡ query_columns schema query
  bound_alike = same_columns schema query.from query.fields each_found

  -- .. and they have the names of its fields.
  pub names_of_fields : map (λ (column : Column). column.name) (query_columns schema query) ≡ map (λ (field : FieldName). field.column) query.fields
  names_of_fields = same_names schema query.from query.fields each_found

-- ---- the reply of a command

-- The bound query of a name is one of them.
named_holds : (P : BoundQuery → Type 0) (name : List ℕ) (standing : List StandingDef) (queries : List BoundQuery) → All P queries
    → IfSome (query_named name standing queries) P
named_holds P name [] queries all = tt
named_holds P name (s ∷ ss) [] all = tt
named_holds P name (s ∷ ss) (q ∷ qs) all = by (same_name name s.name) (named_holds P name ss qs (All-tail P q qs all))
  where
    by : (b : Bool) → IfSome (query_named name ss qs) P → IfSome (cond b (Some q) (query_named name ss qs)) P
    by true later = All-head P q qs all
    by false later = later

module _ (state : State) (typed : AreTyped state.schema.tables state.rows) (bound : AreBound state) where
  by_index : (index : Option IndexDef)
      → All (HasTypesOf (option_map_or (λ (found : IndexDef). columns_named found.table state.schema) index [])) (option_map_or (index_rows state) index [])
  by_index None = All-nil _
  by_index (Some index) =
      All-permutation (HasTypesOf (columns_named index.table state.schema)) (rows_in state index.table) _ (IsPermutation-in_order _ (rows_in state index.table))
      (of_table state typed index.table)

  by_query : (query : Option BoundQuery) → IfSome query (IsQueryWithin state.schema)
      → All (HasTypesOf (option_map_or (bound_columns state.schema) query [])) (option_map_or (answer_in state) query [])
  by_query None within = All-nil _
  by_query (Some query) within = answer_typed state typed query within

  by_select : (query : Query) → first_refusal (select_conditions query state) ≡ None
      → All (HasTypesOf (query_columns state.schema query)) (selected query state)
  by_select query due =
      let alone = none_in_front (query_conditions query state.schema) (size_conditions (bag_in state query)) due in
      subst (λ (columns : List Column). All (HasTypesOf columns) (selected query state)) (bound_alike state.schema query alone)
      (answer_typed state typed (placed_query state.schema query) (query_within state.schema query alone))

  replied_typed : (command : Command) → first_refusal (conditions command state) ≡ None → (rows : List Row) → reply_to command state ≡ Some (Rows rows)
      → All (HasTypesOf (columns_of command state)) rows
  replied_typed (Scan table) due rows is =
      let same : rows_in state table ≡ rows = cc in subst (All (HasTypesOf (columns_named table state.schema))) same (of_table state typed table)
  replied_typed (ScanIndex index) due rows is =
      let same : rows_by_index state index ≡ rows = cc in
      subst (All (HasTypesOf (columns_of (ScanIndex index) state))) same (by_index (index_named index state.schema))
  replied_typed (Select query) due rows is =
      let same : selected query state ≡ rows = cc in subst (All (HasTypesOf (query_columns state.schema query))) same (by_select query due)
  replied_typed (Show name) due rows is =
      let same : shown_rows name state ≡ rows = cc in
      subst (All (HasTypesOf (columns_of (Show name) state))) same
      (by_query (query_named name state.schema.standing state.queries)
      (named_holds (IsQueryWithin state.schema) name state.schema.standing state.queries bound))
  replied_typed Nothing due rows is = cc
  replied_typed (Define definition) due rows is = cc
  replied_typed (Change mutation) due rows is = cc
  replied_typed (Explain query) due rows is = cc
  replied_typed Tables due rows is = cc
  replied_typed Begin due rows is = cc
  replied_typed Commit due rows is = cc
  replied_typed Rollback due rows is = cc
  replied_typed (SetSavepoint name) due rows is = cc
  replied_typed (RollbackTo name) due rows is = cc

  -- The rows that a step replies have the types of its command's columns.
  pub reply_typed : (command : Command) (rows : List Row) → (step command state).reply ≡ Some (Rows rows) → All (HasTypesOf (columns_of command state)) rows
  reply_typed command rows is = by (first_refusal (conditions command state)) refl is
    where
      by : (due : Option Refusal) → first_refusal (conditions command state) ≡ due
          → (unless_refused due state (record { reply = reply_to command state; state = state_after command state })).reply ≡ Some (Rows rows)
          → All (HasTypesOf (columns_of command state)) rows
      by (Some refusal) due is = cc
      by None due is = replied_typed command due rows is
