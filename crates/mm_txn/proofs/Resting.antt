-- Standing queries and their lists after a change of the tables of the catalog.
use Rattle.std.proofs.Common.{◌≡◌, ℕ, suc, ◌+◌, ◌≤◌, Bool, true, false, cond, not, Result, Ok, Err, OnOk, OnErr, List, [], ◌∷◌, ◌++◌, zero, Option, Some}
use Rattle.std.proofs.Common.{None, filter, map, pos, slice_get, refl, sym, ap, subst, ◌∙◌}
use Rattle.std.specs.List.{All, AllByRecursion, IsDistinct, list_any}
use Rattle.std.specs.Option.{option_map, unwrap_or}
use Rattle.std.proofs.lemmas.Bool.{or_parts}
use Rattle.std.proofs.lemmas.List.{length-map}
use Rattle.std.proofs.lemmas.List.Elements.{All-from_recursion, All-map, All-weaker, recursion_from_All}
use Rattle.std.proofs.lemmas.Map.Keys.{IsDistinct-tail}
use Rattle.mm_schema.specs.Indexes.{table_with_index, table_without_index}
use Rattle.mm_schema.specs.Instance.{Instance, rows_named, without_rows}
use Rattle.mm_schema.specs.Name.{same_name}
use Rattle.mm_schema.specs.References.{above}
use Rattle.mm_schema.specs.Refused.{AnswersDue, first_refusal}
use Rattle.mm_schema.specs.Schema.{HasDistinctNames, Schema, drop_table_conditions, is_other_referring_to, lacks_table, reads_table, table_place, with_table}
use Rattle.mm_schema.specs.Schema.{without_table}
use Rattle.mm_schema.specs.declared.column.Column.{Column}
use Rattle.mm_schema.specs.declared.index.IndexDef.{IndexDef}
use Rattle.mm_schema.specs.declared.standing.StandingDef.{StandingDef}
use Rattle.mm_schema.specs.declared.table.Table.{Table}
use Rattle.mm_schema.specs.declared.table.TableDef.{TableDef}
use Rattle.mm_schema.proofs.Instances.{LackName, name_of, others_lack}
use Rattle.mm_schema.proofs.NameLemmas.{same_bytes}
use Rattle.mm_schema.proofs.Places.{place_from_some}
use Rattle.mm_schema.proofs.References.{as_there, same_with, same_without, second_none, there_behind, there_still}
use Rattle.mm_multiset.specs.Counts.{count_of}
use Rattle.mm_store.specs.Tables.{Tables}
use Rattle.mm_value.specs.declared.refusal.Refusal.{Refusal}
use Rattle.mm_query.specs.Machine.{Outcome, after_definition, definition_conditions}
use Rattle.mm_query.specs.Queries.{bag_of}
use Rattle.mm_query.specs.Resolving.{IsQueryWithin, places_in}
use Rattle.mm_query.specs.Standing.{AreBeside, AreBound, HasQueries, tables_read}
use Rattle.mm_query.specs.State.{State}
use Rattle.mm_query.specs.declared.bound_query.BoundQuery.{BoundQuery}
use Rattle.mm_query.specs.declared.command.Command.TheVariants.{Define}
use Rattle.mm_query.specs.declared.command.Definition.{Definition}
use Rattle.mm_query.specs.declared.command.Definition.TheVariants as define
use Rattle.mm_query.specs.declared.query.FromItem.{FromItem}
use Rattle.mm_query.proofs.Due.{step-done}
use Rattle.mm_query.specs.declared.bound_query.FieldPlace.{FieldPlace}
use Rattle.mm_laws.specs.Typing.{type_at}
use Rattle.mm_laws.proofs.StandingQueries.{Stays, items_stay, none_of_tables, none_out, stays_behind, stays_kept, stays_left, watched_by_step}
use Rattle.mm_laws.proofs.TypedQueries.{column_stays}
use Rattle.mm_standing.specs.Queries.{RowsByPlace, StandingQuery, bag_over}
use Rattle.mm_standing.specs.State.{FitNow, Lists}
use Rattle.mm_plan.specs.Kept.{AreKept, instance_of}
use Rattle.mm_txn.specs.Kept.{state_of}
use Rattle.mm_txn.specs.Rest.{AreAtRest, state_at_rest}
use Rattle.mm_txn.specs.Listed.{AreListed, ArePlaced, IsPlaced, queries_of, rows_by_place}
use Rattle.mm_txn.proofs.Placed.{bag_by_place, first, has, place_is}
use Rattle.mm_schema.proofs.AllReferences.{first_behind, above_next, above_first, next_above_first}

-- ---- bound queries after a change of the catalog

-- Each standing query of the new catalog has its query, which is bound there.
pub watched_after : (definition : Definition) (schema : Schema) (rows : Instance) (queries : List BoundQuery)
    → first_refusal (definition_conditions definition (record { schema = schema; rows = rows; queries = queries; saved = None })) ≡ None
    → AreBeside schema.standing queries → All (IsQueryWithin schema) queries
    → HasQueries (after_definition definition (record { schema = schema; rows = rows; queries = queries; saved = None }))
    × AreBound (after_definition definition (record { schema = schema; rows = rows; queries = queries; saved = None }))
watched_after definition schema rows queries due beside bound =
    let state : State = record { schema = schema; rows = rows; queries = queries; saved = None } in
    subst (λ (o : Outcome). HasQueries o.state × AreBound o.state) (step-done (Define definition) state due)
    (watched_by_step (Define definition) state beside bound)

-- A placed query is bound.
pub bound_all : (schema : Schema) (standing : List StandingQuery) → All (IsPlaced schema) standing → All (IsQueryWithin schema) (queries_of standing)
bound_all schema standing placed =
    All-map (IsQueryWithin schema) (λ (s : StandingQuery). s.query) standing
    (All-weaker (IsPlaced schema) (λ s. IsQueryWithin schema s.query) (λ s is. is.within) standing placed)

-- ---- changes that move no table

-- Each existing table keeps its place.
abbrev pub KeepsPlaces : Schema → Schema → Type 0
KeepsPlaces old new = (name : List ℕ) → lacks_table name old ≡ false → unwrap_or (table_place name new) 0 ≡ unwrap_or (table_place name old) 0

-- The fields of a query whose tables stay keep their types.
types_stay : (old new : Schema) (out : List ℕ → Bool) → Stays old new out → (query : BoundQuery) → IsQueryWithin old query
    → list_any out (tables_read query) ≡ false → map (type_at new query.from) query.fields ≡ map (type_at old query.from) query.fields
types_stay old new out stays query within unread =
    let there = items_stay old new out stays query.from within.tables unread in
    λ i. map (λ (field : FieldPlace). ap (option_map (λ (c : Column). c.col_type)) (column_stays old new query.from there field.place field.column)
    i) query.fields

module _ (old new : Schema) (keeps : KeepsPlaces old new) (stays : Stays old new none_out) where
  places_kept : (from : List FromItem) → list_any (λ (item : FromItem). lacks_table item.table old) from ≡ false → places_in new from ≡ places_in old from
  places_kept [] there = refl
  places_kept (item ∷ items) there =
      let p = or_parts (lacks_table item.table old) (list_any (λ (x : FromItem). lacks_table x.table old) items) there in
      λ i. keeps item.table p.0 i ∷ places_kept items p.1 i

  each_kept : (standing : List StandingQuery) → AllByRecursion (IsQueryWithin new) (queries_of standing) → AllByRecursion (IsPlaced old) standing
      → AllByRecursion (IsPlaced new) standing
  each_kept [] within placed = tt
  each_kept (s ∷ ss) within placed = (
    record {
      within = within.0;
      places = placed.0.places ∙ sym (places_kept s.query.from placed.0.within.tables);
      few = placed.0.few;
      types = placed.0.types ∙ sym (types_stay old new none_out stays s.query placed.0.within (none_of_tables (tables_read s.query)));
    },
    each_kept ss within.1 placed.1,
  )

  -- So each standing query keeps its places.
  pub placed_kept : (standing : List StandingQuery) → AreBeside new.standing (queries_of standing) → All (IsQueryWithin new) (queries_of standing)
      → All (IsPlaced old) standing → ArePlaced new standing
  placed_kept standing beside within placed = record {
    beside = beside;
    placed = All-from_recursion (IsPlaced new) standing
        (each_kept standing (recursion_from_All (IsQueryWithin new) (queries_of standing) within) (recursion_from_All (IsPlaced old) standing placed));
  }

-- ---- a new table

keeps_behind : (definition : TableDef) (schema : Schema) → KeepsPlaces schema (with_table definition schema)
keeps_behind definition schema name there =
    let table : Table = record { definition = definition; indexes = [] } in
    place_is name (with_table definition schema) (there_behind name schema.tables table there) ∙ first_behind name schema.tables table there
    ∙ sym (place_is name schema there)

no_rows_behind : (rows : Instance) (place : ℕ) → rows_by_place rows place ≡ rows_by_place (rows ++ [] ∷ []) place
no_rows_behind [] zero = refl
no_rows_behind [] (suc place) = refl
no_rows_behind (r ∷ rs) zero = refl
no_rows_behind (r ∷ rs) (suc place) = no_rows_behind rs place

listed_behind : (rows : Instance) (lists : Lists) → AreListed rows lists → AreListed (rows ++ [] ∷ []) lists
listed_behind rows lists are =
    let same : rows_by_place rows ≡ rows_by_place (rows ++ [] ∷ []) = λ i place. no_rows_behind rows place i in
    record {
      fits = subst (λ r. FitNow r lists) same are.fits;
      ready = are.ready;
    }

-- ---- other indexes

place_changed : (change : Table → Table) → ((t : Table) → (change t).definition ≡ t.definition) → (name : List ℕ) (tables : List Table)
    → first name (map change tables) ≡ first name tables
place_changed change same name [] = refl
place_changed change same name (t ∷ ts) = λ i. cond (not (same_name name (same t i).name)) (1 + place_changed change same name ts i) 0

keeps_changed : (change : Table → Table) (same : (t : Table) → (change t).definition ≡ t.definition) (schema : Schema)
    → KeepsPlaces schema (record schema { tables = map change schema.tables })
keeps_changed change same schema name there =
    place_is name (record schema { tables = map change schema.tables }) (as_there change same name schema.tables ∙ there)
    ∙ place_changed change same name schema.tables ∙ sym (place_is name schema there)

-- ---- changes that keep the lists

-- A new table moves no other, and has no rows.
module _ (schema : Schema) (store : Tables) (lists : Lists) (rest : AreAtRest schema store lists) where
  abbrev state : State
  state = state_at_rest schema store lists

  abbrev bound : All (IsQueryWithin schema) (queries_of lists.queries)
  bound = bound_all schema lists.queries rest.placed.placed

  module _ (schema' : Schema) (store' : Tables) (kept : AreKept schema' store') where
    pub rest_by_table : (definition : TableDef) → first_refusal (definition_conditions (define.Table definition) state) ≡ None
        → state_of schema' store'.tables ≡ after_definition (define.Table definition) (state_of schema store.tables) → AreAtRest schema' store' lists
    rest_by_table definition due becomes =
        let after = watched_after (define.Table definition) schema (instance_of store.tables) (queries_of lists.queries) due rest.placed.beside bound in
        record {
          kept = kept;
          placed = subst (λ (s : State). ArePlaced s.schema lists.queries) (sym becomes)
              (placed_kept schema (with_table definition schema) (keeps_behind definition schema) (stays_behind definition schema) lists.queries after.0 after.1
              rest.placed.placed);
          listed = subst (λ (s : State). AreListed s.rows lists) (sym becomes) (listed_behind (instance_of store.tables) lists rest.listed);
        }

    -- An index moves no table and changes no rows, ..
    rest_by_change : (change : Table → Table) → ((t : Table) → (change t).definition ≡ t.definition)
        → AreBeside schema.standing (queries_of lists.queries)
        × All (IsQueryWithin (record schema { tables = map change schema.tables })) (queries_of lists.queries)
        → schema' ≡ record schema { tables = map change schema.tables } → instance_of store'.tables ≡ instance_of store.tables → AreAtRest schema' store' lists
    rest_by_change change same after tables rows = record {
      kept = kept;
      placed = subst (λ s. ArePlaced s lists.queries) (sym tables)
          (placed_kept schema (record schema { tables = map change schema.tables }) (keeps_changed change same schema) (stays_kept change same schema)
          lists.queries after.0 after.1 rest.placed.placed);
      listed = subst (λ r. AreListed r lists) (sym rows) rest.listed;
    }

    pub rest_by_index : (index : IndexDef) → first_refusal (definition_conditions (define.Index index) state) ≡ None
        → state_of schema' store'.tables ≡ after_definition (define.Index index) (state_of schema store.tables) → AreAtRest schema' store' lists
    rest_by_index index due becomes =
        rest_by_change (table_with_index index) (same_with index)
        (watched_after (define.Index index) schema (instance_of store.tables) (queries_of lists.queries) due rest.placed.beside bound)
        (ap (λ (s : State). s.schema) becomes) (ap (λ (s : State). s.rows) becomes)

    pub rest_by_no_index : (name : List ℕ) → first_refusal (definition_conditions (define.DropIndex name) state) ≡ None
        → state_of schema' store'.tables ≡ after_definition (define.DropIndex name) (state_of schema store.tables) → AreAtRest schema' store' lists
    rest_by_no_index name due becomes =
        rest_by_change (table_without_index name) (same_without name)
        (watched_after (define.DropIndex name) schema (instance_of store.tables) (queries_of lists.queries) due rest.placed.beside bound)
        (ap (λ (s : State). s.schema) becomes) (ap (λ (s : State). s.rows) becomes)

    -- .. and a refused change leaves everything unchanged.
    pub rest_refused : state_of schema' store'.tables ≡ state_of schema store.tables → AreAtRest schema' store' lists
    rest_refused becomes = record {
      kept = kept;
      placed = subst (λ (s : State). ArePlaced s.schema lists.queries) (sym becomes) rest.placed;
      listed = subst (λ (s : State). AreListed s.rows lists) (sym becomes) rest.listed;
    }

    -- So the lists still agree with the rows, whatever the result.
    pub rest_still : {T : Type 0} (r : Result T Refusal) (due : Option Refusal) (B : Type 0) → AnswersDue due r
        → (due ≡ None → B → AreAtRest schema' store' lists)
        → OnOk r B → OnErr r (state_of schema' store'.tables ≡ state_of schema store.tables) → AreAtRest schema' store' lists
    rest_still (Ok value) due B none done ok err = done none ok
    rest_still (Err refusal) due B answers done ok err = rest_refused err

-- ---- a dropped table

-- A standing query after the table at a place was dropped, which it does not read.
abbrev pub moved : ℕ → StandingQuery → StandingQuery
moved place standing = record standing { tables = map (above place) standing.tables }

-- The query is unchanged.
pub queries_of-moved : (place : ℕ) (standing : List StandingQuery) → queries_of (map (moved place) standing) ≡ queries_of standing
queries_of-moved place [] = refl
queries_of-moved place (s ∷ ss) = ap (λ qs. s.query ∷ qs) (queries_of-moved place ss)

module _ (gone : List ℕ) where
  abbrev stays : Table → Bool
  stays t = not (has gone t)

  all_stay : (tables : List Table) → LackName gone tables → filter stays tables ≡ tables
  all_stay [] lack = refl
  all_stay (t ∷ ts) lack = λ i. cond (not (lack.0 i)) (t ∷ all_stay ts lack.1 i) (all_stay ts lack.1 i)

  -- Another name moves forward if it was after the dropped one, ..
  first_without : (name : List ℕ) → same_name gone name ≡ false → (tables : List Table) → IsDistinct same_name (map name_of tables)
      → first name (filter stays tables) ≡ above (first gone tables) (first name tables)
  first_without name other [] distinct = refl
  first_without name other (t ∷ ts) distinct =
      by (has gone t) refl (has name t) refl (first_without name other ts (IsDistinct-tail same_name (name_of t) (map name_of ts) distinct))
    where
      by : (g : Bool) → has gone t ≡ g → (h : Bool) → has name t ≡ h → first name (filter stays ts) ≡ above (first gone ts) (first name ts)
          → first name (cond (not g) (t ∷ filter stays ts) (filter stays ts))
          ≡ above (cond (not g) (1 + first gone ts) 0) (cond (not h) (1 + first name ts) 0)
      by true went true own later =
          let same : false ≡ true = sym other ∙ ap (same_name gone) (same_bytes name (name_of t) own) ∙ went in cc
      by true went false differs later = ap (first name) (all_stay ts (others_lack gone t ts went distinct)) ∙ next_above_first (first name ts)
      by false here true own later = ap (λ b. cond (not b) (1 + first name (filter stays ts)) 0) own ∙ above_first (first gone ts)
      by false here false differs later =
          ap (λ b. cond (not b) (1 + first name (filter stays ts)) 0) differs ∙ ap (λ n. 1 + n) later ∙ above_next (first gone ts) (first name ts)

  no_rows : (name : List ℕ) (ts : List Table) → rows_named name ts [] ≡ []
  no_rows name [] = refl
  no_rows name (t ∷ ts) = refl

  -- .. and keeps its rows.
  rows_left : (name : List ℕ) → same_name gone name ≡ false → (ts : List Table) (rows : Instance)
      → rows_named name (filter stays ts) (without_rows gone ts rows) ≡ rows_named name ts rows
  rows_left name other [] rows = refl
  rows_left name other (t ∷ ts) [] = no_rows name (filter stays (t ∷ ts))
  rows_left name other (t ∷ ts) (r ∷ rs) = by (has name t) refl (has gone t) refl (rows_left name other ts rs)
    where
      by : (b : Bool) → has name t ≡ b → (g : Bool) → has gone t ≡ g
          → rows_named name (filter stays ts) (without_rows gone ts rs) ≡ rows_named name ts rs
          → rows_named name (cond (not g) (t ∷ filter stays ts) (filter stays ts)) (cond g (without_rows gone ts rs) (r ∷ without_rows gone ts rs))
          ≡ cond b r (rows_named name ts rs)
      by true own true went later =
          let same : false ≡ true = sym other ∙ ap (same_name gone) (same_bytes name (name_of t) own) ∙ went in cc
      by true own false here later = ap (λ b. cond b r (rows_named name (filter stays ts) (without_rows gone ts rs))) own
      by false differs true went later = later
      by false differs false here later = ap (λ b. cond b r (rows_named name (filter stays ts) (without_rows gone ts rs))) differs ∙ later

  -- The queries of standing queries that do not read a table do not read it.
  unread_beside : (standing : List StandingDef) (queries : List BoundQuery) → AreBeside standing queries → list_any (reads_table gone) standing ≡ false
      → AllByRecursion (λ query. list_any (same_name gone) (tables_read query) ≡ false) queries
  unread_beside [] [] beside unread = tt
  unread_beside (s ∷ ss) (q ∷ qs) beside unread =
      let p = or_parts (reads_table gone s) (list_any (reads_table gone) ss) unread in
      (ap (list_any (same_name gone)) beside.0 ∙ p.0, unread_beside ss qs beside.1 p.1)
  unread_beside [] (q ∷ qs) beside unread = absurd beside
  unread_beside (s ∷ ss) [] beside unread = absurd beside

  module _ (schema : Schema) (place : ℕ) (found : table_place gone schema ≡ Some place) (distinct : HasDistinctNames schema) where
    abbrev without : Schema
    without = without_table gone schema

    place_left : (name : List ℕ) → lacks_table name schema ≡ false → same_name gone name ≡ false
        → unwrap_or (table_place name without) 0 ≡ above place (unwrap_or (table_place name schema) 0)
    place_left name there other =
        place_is name without (there_still gone name schema.tables other there) ∙ first_without name other schema.tables distinct
        ∙ (λ i. above (sym (place_from_some (has gone) schema.tables place found) i) (sym (place_is name schema there) i))

    places_left : (from : List FromItem) → list_any (λ (item : FromItem). lacks_table item.table schema) from ≡ false
        → list_any (same_name gone) (map (λ (item : FromItem). item.table) from) ≡ false → places_in without from ≡ map (above place) (places_in schema from)
    places_left [] there unread = refl
    places_left (item ∷ items) there unread =
        let p = or_parts (lacks_table item.table schema) (list_any (λ (x : FromItem). lacks_table x.table schema) items) there in
        let q = or_parts (same_name gone item.table) (list_any (same_name gone) (map (λ (x : FromItem). x.table) items)) unread in
        λ i. place_left item.table p.0 q.0 i ∷ places_left items p.1 q.1 i

    one_moved : (standing : StandingQuery) → list_any (same_name gone) (tables_read standing.query) ≡ false → IsQueryWithin without standing.query
        → IsPlaced schema standing → IsPlaced without (moved place standing)
    one_moved standing unread within placed = record {
      within = within;
      places = ap (map (above place)) placed.places ∙ sym (places_left standing.query.from placed.within.tables unread);
      few = subst (λ n. n ≤ 4) (sym (length-map standing.tables (above place))) placed.few;
      types = placed.types ∙ sym (types_stay schema without (same_name gone) (stays_left gone schema) standing.query placed.within unread);
    }

    -- The standing queries move with their tables, ..
    each_moved : (standing : List StandingQuery) → AllByRecursion (λ query. list_any (same_name gone) (tables_read query) ≡ false) (queries_of standing)
        → AllByRecursion (IsQueryWithin without) (queries_of standing) → AllByRecursion (IsPlaced schema) standing
        → AllByRecursion (IsPlaced without) (map (moved place) standing)
    each_moved [] unread within placed = tt
    each_moved (s ∷ ss) unread within placed = (one_moved s unread.0 within.0 placed.0, each_moved ss unread.1 within.1 placed.1)

    module _ (rows : Instance) where
      same_lists : (from : List FromItem) → list_any (same_name gone) (map (λ (item : FromItem). item.table) from) ≡ false
          → map (λ (item : FromItem). rows_named item.table without.tables (without_rows gone schema.tables rows)) from
          ≡ map (λ (item : FromItem). rows_named item.table schema.tables rows) from
      same_lists [] unread = refl
      same_lists (item ∷ items) unread =
          let q = or_parts (same_name gone item.table) (list_any (same_name gone) (map (λ (x : FromItem). x.table) items)) unread in
          λ i. rows_left item.table q.0 schema.tables rows i ∷ same_lists items q.1 i

      -- .. and keep their combinations.
      same_bag : (standing : StandingQuery) → list_any (same_name gone) (tables_read standing.query) ≡ false → IsQueryWithin without standing.query
          → IsPlaced schema standing
          → bag_over (rows_by_place (without_rows gone schema.tables rows)) (moved place standing) ≡ bag_over (rows_by_place rows) standing
      same_bag standing unread within placed =
          let old : State = record { schema = schema; rows = rows; queries = []; saved = None } in
          let new : State = record { schema = without; rows = without_rows gone schema.tables rows; queries = []; saved = None } in
          sym (bag_by_place new (moved place standing) (one_moved standing unread within placed))
          ∙ ap (bag_of standing.query) (same_lists standing.query.from unread) ∙ bag_by_place old standing placed

      each_same : (standing : List StandingQuery) → AllByRecursion (λ query. list_any (same_name gone) (tables_read query) ≡ false) (queries_of standing)
          → AllByRecursion (IsQueryWithin without) (queries_of standing) → AllByRecursion (IsPlaced schema) standing
          → AllByRecursion (λ s. bag_over (rows_by_place (without_rows gone schema.tables rows)) (moved place s) ≡ bag_over (rows_by_place rows) s) standing
      each_same [] unread within placed = tt
      each_same (s ∷ ss) unread within placed = (same_bag s unread.0 within.0 placed.0, each_same ss unread.1 within.1 placed.1)

-- A property of all elements holds of the one at a place.
pub at_place : {X : Type 0} (P : X → Type 0) (xs : List X) (k : ℕ) (x : X) → AllByRecursion P xs → slice_get xs k ≡ Some x → P x
at_place P (y ∷ ys) zero x all at = let same : y ≡ x = cc in subst P same all.0
at_place P (y ∷ ys) (suc k) x all at = at_place P ys k x all.1 at
at_place P [] k x all at = cc

-- Lists whose queries turn into others with the same bags still agree with the rows.
module _ (rows rows' : RowsByPlace) (f : StandingQuery → StandingQuery) where
  bag_at : (standing : List StandingQuery) → AllByRecursion (λ s. bag_over rows' (f s) ≡ bag_over rows s) standing → (list : ℕ) (s : StandingQuery)
      → slice_get (map f standing) list ≡ Some s → (old : StandingQuery) × (slice_get standing list ≡ Some old) × (bag_over rows' s ≡ bag_over rows old)
  bag_at (x ∷ xs) same zero s at = let turned : f x ≡ s = cc in (x, refl, ap (bag_over rows') (sym turned) ∙ same.0)
  bag_at (x ∷ xs) same (suc list) s at = bag_at xs same.1 list s at
  bag_at [] same list s at = cc

pub listed_turned : (rows rows' : Instance) (f : StandingQuery → StandingQuery) (lists : Lists)
    → AllByRecursion (λ s. bag_over (rows_by_place rows') (f s) ≡ bag_over (rows_by_place rows) s) lists.queries
    → AreListed rows lists → AreListed rows' (record lists { queries = map f lists.queries })
listed_turned rows rows' f lists same are = record {
  fits = λ list s at row.
      let old = bag_at (rows_by_place rows) (rows_by_place rows') f lists.queries same list s at in
      are.fits list old.0 old.1 row ∙ ap (λ b. pos (count_of row b)) (sym old.2);
  ready = are.ready;
}

module _ (schema : Schema) (store store' : Tables) (lists : Lists) (rest : AreAtRest schema store lists) (name : List ℕ) (place : ℕ)
    (found : table_place name schema ≡ Some place) (distinct : HasDistinctNames schema)
    (due : first_refusal (drop_table_conditions name schema) ≡ None) where
  -- Dropping a table that no standing query reads changes none of their rows.
  pub rest_by_no_table : AreKept (without_table name schema) store' → instance_of store'.tables ≡ without_rows name schema.tables (instance_of store.tables)
      → AreAtRest (without_table name schema) store' (record lists { queries = map (moved place) lists.queries })
  rest_by_no_table kept rows =
      let after = watched_after (define.DropTable name) schema (instance_of store.tables) (queries_of lists.queries) due rest.placed.beside
      (bound_all schema lists.queries rest.placed.placed) in
      let unused = or_parts (list_any (is_other_referring_to name) schema.tables) (list_any (reads_table name) schema.standing) (second_none _ _ _ _ _ due) in
      let unread = unread_beside name schema.standing (queries_of lists.queries) rest.placed.beside unused.1 in
      let within = recursion_from_All (IsQueryWithin (without_table name schema)) (queries_of lists.queries) after.1 in
      let old = recursion_from_All (IsPlaced schema) lists.queries rest.placed.placed in
      record {
        kept = kept;
        placed = record {
          beside = subst (AreBeside schema.standing) (sym (queries_of-moved place lists.queries)) after.0;
          placed = All-from_recursion (IsPlaced (without_table name schema)) (map (moved place) lists.queries)
              (each_moved name schema place found distinct lists.queries unread within old);
        };
        listed = subst (λ r. AreListed r (record lists { queries = map (moved place) lists.queries })) (sym rows)
            (listed_turned (instance_of store.tables) (without_rows name schema.tables (instance_of store.tables)) (moved place) lists
            (each_same name schema place found distinct (instance_of store.tables) lists.queries unread within old) rest.listed);
      }

  pub state_by_no_table : instance_of store'.tables ≡ without_rows name schema.tables (instance_of store.tables)
      → state_at_rest (without_table name schema) store' (record lists { queries = map (moved place) lists.queries })
      ≡ after_definition (define.DropTable name) (state_at_rest schema store lists)
  state_by_no_table rows = λ i. record { schema = without_table name schema; rows = rows i; queries = queries_of-moved place lists.queries i; saved = None }
