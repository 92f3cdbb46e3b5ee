-- Columns that refer to existing tables.
use Rattle.std.proofs.Common.{◌≡◌, ℕ, Bool, true, false, cond, not, ◌&&◌, List, [], ◌∷◌, ◌++◌, Option, Some, None, filter, find, is_none, map, refl, sym, ap}
use Rattle.std.proofs.Common.{◌∙◌}
use Rattle.std.specs.List.{AllByRecursion, list_any}
use Rattle.std.specs.Option.{option_map_or}
use Rattle.std.proofs.lemmas.Bool.{or_from, or_parts}
use Rattle.std.proofs.lemmas.List.Elements.{All-from_recursion, All-map, All-push, All-weaker, recursion_from_All}
use Rattle.mm_schema.specs.Columns.{refers_to, target_of}
use Rattle.mm_schema.specs.Indexes.{table_with_index, table_without_index, with_index, without_index}
use Rattle.mm_schema.specs.Name.{same_name}
use Rattle.mm_schema.specs.References.{HasTargets}
use Rattle.mm_schema.specs.Refused.{first_refusal}
use Rattle.mm_schema.specs.Schema.{Schema, drop_table_conditions, is_other_referring_to, lacks_table, lacks_target, reads_table, table_conditions, with_table}
use Rattle.mm_schema.specs.Schema.{without_table}
use Rattle.mm_schema.specs.declared.column.Column.{Column}
use Rattle.mm_schema.specs.declared.index.IndexDef.{IndexDef}
use Rattle.mm_schema.specs.declared.table.Table.{Table}
use Rattle.mm_schema.specs.declared.table.TableDef.{TableDef}
use Rattle.mm_value.specs.declared.refusal.Refusal.{Refusal}
use Rattle.mm_schema.proofs.Instances.{name_of}
use Rattle.mm_schema.proofs.NameLemmas.{same_bytes}

-- no table has the name
abbrev pub lacks : List ℕ → List Table → Bool
lacks name tables = is_none (find (λ t. same_name name (name_of t)) tables)

-- ---- tables with at least the names of others

module _ (old new : Schema) where
  by_target : (more : (name : List ℕ) → lacks_table name old ≡ false → lacks_table name new ≡ false) (target : Option (List ℕ))
      → option_map_or (λ t. lacks_table t old) target false ≡ false → option_map_or (λ t. lacks_table t new) target false ≡ false
  by_target more None there = refl
  by_target more (Some name) there = more name there

  -- Columns keep their targets if no name is lost.
  targets_stay : ((name : List ℕ) → lacks_table name old ≡ false → lacks_table name new ≡ false) → (columns : List Column)
      → list_any (lacks_target old) columns ≡ false → list_any (lacks_target new) columns ≡ false
  targets_stay more [] there = refl
  targets_stay more (c ∷ cs) there =
      let p = or_parts (lacks_target old c) (list_any (lacks_target old) cs) there in
      or_from _ _ (by_target more (target_of c) p.0) (targets_stay more cs p.1)

pub first_none : (b : Bool) (refusal : Refusal) (rest : Option Refusal) → cond b (Some refusal) rest ≡ None → b ≡ false
first_none true refusal rest h = cc
first_none false refusal rest h = refl

pub second_none : (a b : Bool) (r s : Refusal) (rest : Option Refusal) → cond a (Some r) (cond b (Some s) rest) ≡ None → b ≡ false
second_none true b r s rest h = cc
second_none false b r s rest h = first_none b s rest h

-- ---- a new table

pub there_behind : (name : List ℕ) (tables : List Table) (table : Table) → lacks name tables ≡ false → lacks name (tables ++ table ∷ []) ≡ false
there_behind name [] table there = cc
there_behind name (t ∷ ts) table there = by (same_name name (name_of t)) there (there_behind name ts table)
  where
    by : (b : Bool) → is_none (cond b (Some t) (find (λ u. same_name name (name_of u)) ts)) ≡ false
        → (lacks name ts ≡ false → lacks name (ts ++ table ∷ []) ≡ false)
        → is_none (cond b (Some t) (find (λ u. same_name name (name_of u)) (ts ++ table ∷ []))) ≡ false
    by true there later = refl
    by false there later = later there

pub targets_added : (definition : TableDef) (schema : Schema) → HasTargets schema → first_refusal (table_conditions definition schema) ≡ None
    → HasTargets (with_table definition schema)
targets_added definition schema whole due =
    let new = with_table definition schema in
    let more = λ (name : List ℕ). there_behind name schema.tables (record { definition = definition; indexes = [] }) in
    All-push (λ t. list_any (lacks_target new) t.definition.columns ≡ false) schema.tables _
    (All-weaker (λ t. list_any (lacks_target schema) t.definition.columns ≡ false) (λ t. list_any (lacks_target new) t.definition.columns ≡ false)
    (λ t. targets_stay schema new more t.definition.columns) schema.tables whole)
    (targets_stay schema new more definition.columns (first_none _ _ _ due))

-- ---- changed indexes

module _ (change : Table → Table) (same : (t : Table) → (change t).definition ≡ t.definition) where
  pub as_there : (name : List ℕ) (tables : List Table) → lacks name (map change tables) ≡ lacks name tables
  as_there name [] = refl
  as_there name (t ∷ ts) =
      ap (λ d. is_none (cond (same_name name d.name) (Some (change t)) (find (λ u. same_name name (name_of u)) (map change ts)))) (same t)
      ∙ by (same_name name (name_of t)) (as_there name ts)
    where
      by : (b : Bool) → lacks name (map change ts) ≡ lacks name ts
          → is_none (cond b (Some (change t)) (find (λ u. same_name name (name_of u)) (map change ts)))
          ≡ is_none (cond b (Some t) (find (λ u. same_name name (name_of u)) ts))
      by true later = refl
      by false later = later

  -- If each table keeps its definition, targets are kept.
  targets_kept : (schema : Schema) → HasTargets schema → HasTargets (record schema { tables = map change schema.tables })
  targets_kept schema whole =
      let new : Schema = record schema { tables = map change schema.tables } in
      All-map (λ t. list_any (lacks_target new) t.definition.columns ≡ false) change schema.tables
      (All-weaker (λ t. list_any (lacks_target schema) t.definition.columns ≡ false)
      (λ t. list_any (lacks_target new) (change t).definition.columns ≡ false)
      (λ t there. ap (λ d. list_any (lacks_target new) d.columns) (same t)
      ∙ targets_stay schema new (λ name is. as_there name schema.tables ∙ is) t.definition.columns there) schema.tables whole)

-- An index changes no definition, ..
pub same_with : (index : IndexDef) (t : Table) → (table_with_index index t).definition ≡ t.definition
same_with index t = by (same_name index.table (name_of t))
  where
    by : (b : Bool) → (cond b (record t { indexes = t.indexes ++ index ∷ [] }) t).definition ≡ t.definition
    by true = refl
    by false = refl

pub targets_indexed : (index : IndexDef) (schema : Schema) → HasTargets schema → HasTargets (with_index index schema)
targets_indexed index schema whole = targets_kept (table_with_index index) (same_with index) schema whole

-- .. and neither does dropping one.
pub same_without : (name : List ℕ) (t : Table) → (table_without_index name t).definition ≡ t.definition
same_without name t = refl

pub targets_unindexed : (name : List ℕ) (schema : Schema) → HasTargets schema → HasTargets (without_index name schema)
targets_unindexed name schema whole = targets_kept (table_without_index name) (same_without name) schema whole

-- ---- a dropped table

module _ (gone : List ℕ) where
  abbrev stays : Table → Bool
  stays t = not (same_name gone (name_of t))

  -- Another name keeps its table.
  pub there_still : (name : List ℕ) (tables : List Table) → same_name gone name ≡ false → lacks name tables ≡ false → lacks name (filter stays tables) ≡ false
  there_still name [] other there = there
  there_still name (t ∷ ts) other there = by (same_name name (name_of t)) refl (same_name gone (name_of t)) refl there (there_still name ts other)
    where
      by : (b : Bool) → same_name name (name_of t) ≡ b → (g : Bool) → same_name gone (name_of t) ≡ g
          → is_none (cond b (Some t) (find (λ u. same_name name (name_of u)) ts)) ≡ false
          → (lacks name ts ≡ false → lacks name (filter stays ts) ≡ false)
          → lacks name (cond (not g) (t ∷ filter stays ts) (filter stays ts)) ≡ false
      by true own true went there later =
          let same : false ≡ true = sym other ∙ ap (same_name gone) (same_bytes name (name_of t) own) ∙ went in cc
      by true own false here there later = ap (λ b. is_none (cond b (Some t) (find (λ u. same_name name (name_of u)) (filter stays ts)))) own
      by false differs true went there later = later there
      by false differs false here there later =
          ap (λ b. is_none (cond b (Some t) (find (λ u. same_name name (name_of u)) (filter stays ts)))) differs ∙ later there

  target_left : (schema : Schema) (target : Option (List ℕ)) → option_map_or (λ t. lacks_table t schema) target false ≡ false
      → option_map_or (same_name gone) target false ≡ false → option_map_or (λ t. lacks_table t (without_table gone schema)) target false ≡ false
  target_left schema None there other = refl
  target_left schema (Some name) there other = there_still name schema.tables other there

  columns_left : (schema : Schema) (columns : List Column) → list_any (lacks_target schema) columns ≡ false → list_any (refers_to gone) columns ≡ false
      → list_any (lacks_target (without_table gone schema)) columns ≡ false
  columns_left schema [] there other = refl
  columns_left schema (c ∷ cs) there other =
      let p = or_parts (lacks_target schema c) (list_any (lacks_target schema) cs) there in
      let q = or_parts (refers_to gone c) (list_any (refers_to gone) cs) other in
      or_from _ _ (target_left schema (target_of c) p.0 q.0) (columns_left schema cs p.1 q.1)

  tables_left : (schema : Schema) (tables : List Table) → AllByRecursion (λ t. list_any (lacks_target schema) t.definition.columns ≡ false) tables
      → list_any (is_other_referring_to gone) tables ≡ false
      → AllByRecursion (λ t. list_any (lacks_target (without_table gone schema)) t.definition.columns ≡ false) (filter stays tables)
  tables_left schema [] there unused = tt
  tables_left schema (t ∷ ts) there unused =
      let p = or_parts (is_other_referring_to gone t) (list_any (is_other_referring_to gone) ts) unused in
      by (same_name gone (name_of t)) p.0 (tables_left schema ts there.1 p.1)
    where
      by : (b : Bool) → (not b && list_any (refers_to gone) t.definition.columns) ≡ false
          → AllByRecursion (λ u. list_any (lacks_target (without_table gone schema)) u.definition.columns ≡ false) (filter stays ts)
          → AllByRecursion (λ u. list_any (lacks_target (without_table gone schema)) u.definition.columns ≡ false)
          (cond (not b) (t ∷ filter stays ts) (filter stays ts))
      by true unused later = later
      by false unused later = (columns_left schema t.definition.columns there.0 unused, later)

  pub targets_left : (schema : Schema) → HasTargets schema → first_refusal (drop_table_conditions gone schema) ≡ None → HasTargets (without_table gone schema)
  targets_left schema whole due =
      All-from_recursion _ _
      (tables_left schema schema.tables (recursion_from_All _ schema.tables whole)
      (or_parts (list_any (is_other_referring_to gone) schema.tables) (list_any (reads_table gone) schema.standing) (second_none _ _ _ _ _ due)).0)
