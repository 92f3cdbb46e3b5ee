-- Creating and dropping standing queries.
use Rattle.std.proofs.Common.{◌≡◌, ℕ, ◌||◌, Bool, true, false, cond, not, List, [], ◌∷◌, ◌++◌, Some, None, filter, find, map, refl, sym, ◌∙◌, subst}
use Rattle.std.specs.List.{AllByRecursion, IsDistinct, list_any}
use Rattle.std.proofs.lemmas.Bool.{or_from, or_parts}
use Rattle.std.proofs.lemmas.Cmp.{nat_list_eq_equiv}
use Rattle.std.proofs.lemmas.List.{map-append}
use Rattle.std.proofs.lemmas.List.Elements.{All-filter, All-from_recursion, All-push, All-weaker, recursion_from_All}
use Rattle.std.proofs.lemmas.Map.Keys.{IsDistinct-cons, IsDistinct-head, IsDistinct-push, IsDistinct-tail}
use Rattle.mm_schema.specs.Indexes.{table_with_index, table_without_index, with_index, without_index}
use Rattle.mm_schema.specs.Name.{same_name}
use Rattle.mm_schema.specs.Refused.{first_refusal}
use Rattle.mm_schema.specs.Schema.{Schema, drop_table_conditions, is_other_referring_to, lacks_table, reads_table, with_table, without_table}
use Rattle.mm_schema.specs.Standing.{ReadsTables, lacks_some_table, with_standing, without_standing}
use Rattle.mm_schema.specs.declared.index.IndexDef.{IndexDef}
use Rattle.mm_schema.specs.declared.standing.StandingDef.{StandingDef}
use Rattle.mm_schema.specs.declared.table.Table.{Table}
use Rattle.mm_schema.specs.declared.table.TableDef.{TableDef}
use Rattle.mm_schema.proofs.References.{as_there, same_with, same_without, second_none, there_behind, there_still}

-- ---- names

-- the names of some standing queries
abbrev pub names_of : List StandingDef → List (List ℕ)
names_of queries = map (λ query. query.name) queries

-- The empty list has distinct names.
pub none_distinct : IsDistinct same_name []
unfolding IsDistinct
none_distinct = tt

not_among : (name : List ℕ) (qs : List StandingDef) → find (λ q. same_name name q.name) qs ≡ None → list_any (same_name name) (names_of qs) ≡ false
not_among name [] free = refl
not_among name (q ∷ qs) free = by (same_name name q.name) free (not_among name qs)
  where
    by : (b : Bool) → cond b (Some q) (find (λ r. same_name name r.name) qs) ≡ None
        → (find (λ r. same_name name r.name) qs ≡ None → list_any (same_name name) (names_of qs) ≡ false)
        → (b || list_any (same_name name) (names_of qs)) ≡ false
    by true free later = cc
    by false free later = later free

-- A new name keeps the names distinct, ..
pub distinct_behind : (query : StandingDef) (qs : List StandingDef) → find (λ q. same_name query.name q.name) qs ≡ None
    → IsDistinct same_name (names_of qs) → IsDistinct same_name (names_of (qs ++ query ∷ []))
distinct_behind query qs free distinct =
    subst (IsDistinct same_name) (sym (map-append (λ (q : StandingDef). q.name) qs (query ∷ [])))
    (IsDistinct-push nat_list_eq_equiv (names_of qs) query.name distinct (not_among query.name qs free))

module _ (stays : StandingDef → Bool) where
  apart : (name : List ℕ) (qs : List StandingDef) → AllByRecursion (λ other. same_name name other ≡ false) (names_of qs)
      → AllByRecursion (λ other. same_name name other ≡ false) (names_of (filter stays qs))
  apart name [] all = tt
  apart name (q ∷ qs) all = by (stays q) (apart name qs all.1)
    where
      by : (b : Bool) → AllByRecursion (λ other. same_name name other ≡ false) (names_of (filter stays qs))
          → AllByRecursion (λ other. same_name name other ≡ false) (names_of (cond b (q ∷ filter stays qs) (filter stays qs)))
      by true later = (all.0, later)
      by false later = later

  -- .. and so does a sublist.
  pub distinct_among : (qs : List StandingDef) → IsDistinct same_name (names_of qs) → IsDistinct same_name (names_of (filter stays qs))
  distinct_among [] distinct = none_distinct
  distinct_among (q ∷ qs) distinct =
      by (stays q) (distinct_among qs (IsDistinct-tail same_name q.name (names_of qs) distinct))
    where
      by : (b : Bool) → IsDistinct same_name (names_of (filter stays qs))
          → IsDistinct same_name (names_of (cond b (q ∷ filter stays qs) (filter stays qs)))
      by true later =
          IsDistinct-cons same_name q.name (names_of (filter stays qs))
          (apart q.name qs (IsDistinct-head same_name q.name (names_of qs) distinct)) later
      by false later = later

-- ---- the tables that they read

module _ (old new : Schema) (more : (name : List ℕ) → lacks_table name old ≡ false → lacks_table name new ≡ false) where
  tables_stay : (tables : List (List ℕ)) → lacks_some_table tables old ≡ false → lacks_some_table tables new ≡ false
  tables_stay [] there = refl
  tables_stay (t ∷ ts) there = let p = or_parts (lacks_table t old) (lacks_some_table ts old) there in or_from _ _ (more t p.0) (tables_stay ts p.1)

  -- If no table is lost, the same standing queries read existing tables.
  reads_stay : new.standing ≡ old.standing → ReadsTables old → ReadsTables new
  reads_stay same reads =
      All-weaker (λ q. lacks_some_table q.tables old ≡ false) (λ q. lacks_some_table q.tables new ≡ false) (λ q. tables_stay q.tables) new.standing
      (subst (λ qs. ReadsTables (record old { standing = qs })) (sym same) reads)

pub reads_added : (definition : TableDef) (schema : Schema) → ReadsTables schema → ReadsTables (with_table definition schema)
reads_added definition schema =
    reads_stay schema (with_table definition schema)
    (λ name. there_behind name schema.tables (record { definition = definition; indexes = [] })) refl

module _ (change : Table → Table) (same : (t : Table) → (change t).definition ≡ t.definition) (schema : Schema) where
  reads_kept : ReadsTables schema → ReadsTables (record schema { tables = map change schema.tables })
  reads_kept =
      reads_stay schema (record schema { tables = map change schema.tables }) (λ name is. as_there change same name schema.tables ∙ is) refl

pub reads_indexed : (index : IndexDef) (schema : Schema) → ReadsTables schema → ReadsTables (with_index index schema)
reads_indexed index schema = reads_kept (table_with_index index) (same_with index) schema

pub reads_unindexed : (name : List ℕ) (schema : Schema) → ReadsTables schema → ReadsTables (without_index name schema)
reads_unindexed name schema = reads_kept (table_without_index name) (same_without name) schema

pub reads_behind : (query : StandingDef) (schema : Schema) → ReadsTables schema → lacks_some_table query.tables schema ≡ false
    → ReadsTables (with_standing query schema)
reads_behind query schema reads there = All-push (λ q. lacks_some_table q.tables schema ≡ false) schema.standing query reads there

pub reads_among : (name : List ℕ) (schema : Schema) → ReadsTables schema → ReadsTables (without_standing name schema)
reads_among name schema reads =
    All-filter (λ q. not (same_name name q.name)) (λ q. lacks_some_table q.tables schema ≡ false) schema.standing reads

module _ (gone : List ℕ) (schema : Schema) where
  others_there : (tables : List (List ℕ)) → lacks_some_table tables schema ≡ false → list_any (same_name gone) tables ≡ false
      → lacks_some_table tables (without_table gone schema) ≡ false
  others_there [] there unread = refl
  others_there (t ∷ ts) there unread =
      let p = or_parts (lacks_table t schema) (lacks_some_table ts schema) there in
      let q = or_parts (same_name gone t) (list_any (same_name gone) ts) unread in
      or_from _ _ (there_still gone t schema.tables q.0 p.0) (others_there ts p.1 q.1)

  queries_there : (qs : List StandingDef) → AllByRecursion (λ q. lacks_some_table q.tables schema ≡ false) qs → list_any (reads_table gone) qs ≡ false
      → AllByRecursion (λ q. lacks_some_table q.tables (without_table gone schema) ≡ false) qs
  queries_there [] there unread = tt
  queries_there (q ∷ qs) there unread =
      let p = or_parts (reads_table gone q) (list_any (reads_table gone) qs) unread in
      (others_there q.tables there.0 p.0, queries_there qs there.1 p.1)

  pub reads_left : ReadsTables schema → first_refusal (drop_table_conditions gone schema) ≡ None → ReadsTables (without_table gone schema)
  reads_left reads due =
      let unused = or_parts (list_any (is_other_referring_to gone) schema.tables) (list_any (reads_table gone) schema.standing) (second_none _ _ _ _ _ due) in
      All-from_recursion _ _ (queries_there schema.standing (recursion_from_All _ schema.standing reads) unused.1)
