-- All foreign keys of a catalog, and the effect of a change of its tables on them.
use Rattle.std.proofs.Common.{◌≡◌, ◌≢◌, ℕ, zero, suc, ◌+◌, ◌<◌, ◌≤◌, ◌==◌, Bool, true, false, cond, ltb, not, ◌&&◌, List, [], ◌∷◌, ◌++◌, Option, Some, None}
use Rattle.std.proofs.Common.{inl, inr, filter, find, is_none, length, map, slice_get, All, Contains, refl, sym, ap, subst, ◌∙◌, append_assoc, append-nil}
use Rattle.std.proofs.Common.{arith}
use Rattle.std.specs.List.{AllByRecursion, IsDistinct, list_any, position_or_len}
use Rattle.std.specs.Option.{option_map_or, unwrap_or}
use Rattle.std.proofs.lemmas.Bool.Decides.{nat_tests}
use Rattle.std.proofs.lemmas.Bool.{cases_Bool, or_from, or_parts}
use Rattle.std.proofs.lemmas.List.{length-map, map-append}
use Rattle.std.proofs.lemmas.List.Elements.{All-append, All-cons, All-contains, All-filter, All-map, All-nil, All-push, All-weaker, filter-append}
use Rattle.std.proofs.lemmas.List.Elements.{recursion_from_All}
use Rattle.std.proofs.lemmas.List.Folds.{find_at}
use Rattle.std.proofs.lemmas.Simd.{map-map}
use Rattle.std.proofs.lemmas.Map.Keys.{IsDistinct-tail}
use Rattle.mm_schema.specs.Columns.{refers_to, target_of}
use Rattle.mm_schema.specs.Indexes.{table_with_index, table_without_index, with_index, without_index}
use Rattle.mm_schema.specs.Name.{same_name}
use Rattle.mm_schema.specs.References.{HasTargets, RefersToOthers, above, all_references, in_front, moved_up, reference_at, references_behind}
use Rattle.mm_schema.specs.References.{references_from, references_of}
use Rattle.mm_schema.specs.Refused.{first_refusal}
use Rattle.mm_schema.specs.Schema.{HasDistinctNames, Schema, drop_table_conditions, is_other_referring_to, lacks_table, lacks_target, reads_table}
use Rattle.mm_schema.specs.Schema.{table_conditions, table_named, table_place, with_table, without_table}
use Rattle.mm_schema.specs.declared.column.Column.{Column}
use Rattle.mm_schema.specs.declared.index.IndexDef.{IndexDef}
use Rattle.mm_schema.specs.declared.reference.Reference.{Reference}
use Rattle.mm_schema.specs.declared.table.Table.{Table}
use Rattle.mm_schema.specs.declared.table.TableDef.{TableDef}
use Rattle.mm_schema.proofs.Instances.{LackName, name_of, others_lack}
use Rattle.mm_schema.proofs.NameLemmas.{differs_back, same_bytes}
use Rattle.mm_schema.proofs.Places.{new_name_is_free, place_from_some}
use Rattle.mm_schema.proofs.References.{first_none, lacks, same_with, same_without, second_none, there_behind, there_still}

-- the table has the name
abbrev has : List ℕ → Table → Bool
has name table = same_name name (name_of table)

-- the position of the table with a name, which exists
abbrev first : List ℕ → List Table → ℕ
first name tables = position_or_len (has name) tables

-- ---- columns by the names that they refer to

module _ (P : List ℕ → Type 0) where
  abbrev IsSoAt : Option (List ℕ) → Type 0
  IsSoAt None = Unit {0}
  IsSoAt (Some name) = P name

  -- A property holds of the name of each table that a column refers to.
  abbrev IsSoOfTargets : List Column → Type 0
  IsSoOfTargets columns = AllByRecursion (λ (c : Column). IsSoAt (target_of c)) columns

  module _ {X : Type 0} (f g : ℕ × List ℕ → X) (same : (place : ℕ) (name : List ℕ) → P name → f (place, name) ≡ g (place, name)) where
    -- Two functions that agree at these names agree on all foreign keys.
    references_agree : (place : ℕ) (columns : List Column) → IsSoOfTargets columns
        → map f (references_from place columns) ≡ map g (references_from place columns)
    references_agree place [] so = refl
    references_agree place (c ∷ cs) so = by (target_of c) so.0 (references_agree (place + 1) cs so.1)
      where
        by : (target : Option (List ℕ)) → IsSoAt target → map f (references_from (place + 1) cs) ≡ map g (references_from (place + 1) cs)
            → map f (in_front place target (references_from (place + 1) cs)) ≡ map g (in_front place target (references_from (place + 1) cs))
        by None here later = later
        by (Some name) here later = λ i. same place name here i ∷ later i

module _ (test : List ℕ → Bool) where
  fails_at : (target : Option (List ℕ)) → option_map_or test target false ≡ false → IsSoAt (λ name. test name ≡ false) target
  fails_at None none = tt
  fails_at (Some name) none = none

  -- A test that no column's target passes fails for each.
  fail_at : (columns : List Column) → list_any (λ c. option_map_or test (target_of c) false) columns ≡ false
      → IsSoOfTargets (λ name. test name ≡ false) columns
  fail_at [] none = tt
  fail_at (c ∷ cs) none =
      let p = or_parts (option_map_or test (target_of c) false) (list_any (λ d. option_map_or test (target_of d) false) cs) none in
      (fails_at (target_of c) p.0, fail_at cs p.1)

-- ---- other indexes

module _ (change : Table → Table) (same : (t : Table) → (change t).definition ≡ t.definition) where
  first_kept : (name : List ℕ) (tables : List Table) → first name (map change tables) ≡ first name tables
  first_kept name [] = refl
  first_kept name (t ∷ ts) = λ i. cond (not (same_name name (same t i).name)) (1 + first_kept name ts i) 0

  place_kept : (name : List ℕ) (schema : Schema) → table_place name (record schema { tables = map change schema.tables }) ≡ table_place name schema
  place_kept name schema = λ i.
      cond (ltb (first_kept name schema.tables i) (length-map schema.tables change i)) (Some (first_kept name schema.tables i)) None

  reference_kept : (schema : Schema) (from : ℕ) → reference_at (record schema { tables = map change schema.tables }) from ≡ reference_at schema from
  reference_kept schema from = λ i r. record { from = from; column = r.0; to = unwrap_or (place_kept r.1 schema i) 0 }

  behind_kept : (schema : Schema) (place : ℕ) (tables : List Table)
      → references_behind (record schema { tables = map change schema.tables }) place (map change tables) ≡ references_behind schema place tables
  behind_kept schema place [] = refl
  behind_kept schema place (t ∷ ts) = λ i. map (reference_kept schema place i) (references_of (same t i).columns) ++ behind_kept schema (place + 1) ts i

-- A new index changes no foreign key, ..
pub references_with_index : (index : IndexDef) (schema : Schema) → all_references (with_index index schema) ≡ all_references schema
references_with_index index schema = behind_kept (table_with_index index) (same_with index) schema 0 schema.tables

-- .. and neither does dropping one.
pub references_without_index : (name : List ℕ) (schema : Schema) → all_references (without_index name schema) ≡ all_references schema
references_without_index name schema = behind_kept (table_without_index name) (same_without name) schema 0 schema.tables

-- ---- existing names

pub placed : (at len : ℕ) → at < len → unwrap_or (cond (ltb at len) (Some at) None) 0 ≡ at
placed at len h = grind (arith, nat_tests)

-- The position of an existing table is within the catalog.
pub within : (name : List ℕ) (tables : List Table) → lacks name tables ≡ false → first name tables < length tables
within name [] there = cc
within name (t ∷ ts) there = by (has name t) there (within name ts)
  where
    by : (b : Bool) → is_none (cond b (Some t) (find (has name) ts)) ≡ false → (lacks name ts ≡ false → first name ts < length ts)
        → cond (not b) (1 + first name ts) 0 < length (t ∷ ts)
    by true there later = omega arith
    by false there later = let rest = later there in omega arith

-- The position that a foreign key has for the table.
target_place : (name : List ℕ) (schema : Schema) → lacks name schema.tables ≡ false → unwrap_or (table_place name schema) 0 ≡ first name schema.tables
target_place name schema there = placed _ _ (within name schema.tables there)

-- ---- a new table

pub first_behind : (name : List ℕ) (tables : List Table) (table : Table) → lacks name tables ≡ false → first name (tables ++ table ∷ []) ≡ first name tables
first_behind name [] table there = cc
first_behind name (t ∷ ts) table there = by (has name t) there (first_behind name ts table)
  where
    by : (b : Bool) → is_none (cond b (Some t) (find (has name) ts)) ≡ false
        → (lacks name ts ≡ false → first name (ts ++ table ∷ []) ≡ first name ts)
        → cond (not b) (1 + first name (ts ++ table ∷ [])) 0 ≡ cond (not b) (1 + first name ts) 0
    by true there later = refl
    by false there later = ap (λ n. 1 + n) (later there)

module _ (definition : TableDef) (schema : Schema) where
  abbrev added : Table
  added = record { definition = definition; indexes = [] }

  abbrev IsThere : List ℕ → Type 0
  IsThere name = lacks name schema.tables ≡ false

  -- An existing name keeps its position.
  reference_stays : (from column : ℕ) (name : List ℕ) → IsThere name
      → reference_at (with_table definition schema) from (column, name) ≡ reference_at schema from (column, name)
  reference_stays from column name there =
      ap (λ (n : ℕ). record { from = from; column = column; to = n })
      (target_place name (with_table definition schema) (there_behind name schema.tables added there)
      ∙ first_behind name schema.tables added there ∙ sym (target_place name schema there))

  columns_stay : (from : ℕ) (columns : List Column) → list_any (lacks_target schema) columns ≡ false
      → map (reference_at (with_table definition schema) from) (references_of columns) ≡ map (reference_at schema from) (references_of columns)
  columns_stay from columns there =
      references_agree IsThere (reference_at (with_table definition schema) from) (reference_at schema from) (reference_stays from) 0 columns
      (fail_at (λ name. lacks_table name schema) columns there)

  behind_added : (place : ℕ) (tables : List Table) → AllByRecursion (λ t. list_any (lacks_target schema) t.definition.columns ≡ false) tables
      → list_any (lacks_target schema) definition.columns ≡ false
      → references_behind (with_table definition schema) place (tables ++ added ∷ [])
      ≡ references_behind schema place tables ++ map (reference_at schema (place + length tables)) (references_of definition.columns)
  behind_added place [] there last =
      let same : place ≡ place + 0 = omega arith in
      append-nil _ ∙ columns_stay place definition.columns last ∙ ap (λ n. map (reference_at schema n) (references_of definition.columns)) same
  behind_added place (t ∷ ts) there last =
      let same : (place + 1) + length ts ≡ place + length (t ∷ ts) = omega arith in
      (λ i. columns_stay place t.definition.columns there.0 i ++ behind_added (place + 1) ts there.1 last i)
      ∙ sym (append_assoc (map (reference_at schema place) (references_of t.definition.columns)) (references_behind schema (place + 1) ts)
      (map (reference_at schema ((place + 1) + length ts)) (references_of definition.columns)))
      ∙ ap (λ n. references_behind schema place (t ∷ ts) ++ map (reference_at schema n) (references_of definition.columns)) same

  -- A new table's foreign keys are appended.
  pub references_with_table : HasTargets schema → first_refusal (table_conditions definition schema) ≡ None
      → all_references (with_table definition schema)
      ≡ all_references schema ++ map (reference_at schema (length schema.tables)) (references_of definition.columns)
  references_with_table whole due =
      let same : 0 + length schema.tables ≡ length schema.tables = omega arith in
      behind_added 0 schema.tables (recursion_from_All _ schema.tables whole) (first_none _ _ _ due)
      ∙ ap (λ n. all_references schema ++ map (reference_at schema n) (references_of definition.columns)) same

-- ---- a dropped table

above_before : (gone place : ℕ) → place < gone → above gone place ≡ place
above_before gone place h = grind (arith, nat_tests)

above_behind : (gone place : ℕ) → gone ≤ place → above gone (place + 1) ≡ place
above_behind gone place h = grind (arith, nat_tests)

pub above_next : (gone place : ℕ) → 1 + above gone place ≡ above (1 + gone) (1 + place)
above_next gone place = grind (arith, nat_tests)

pub above_first : (gone : ℕ) → 0 ≡ above (1 + gone) 0
above_first gone = grind (arith, nat_tests)

pub next_above_first : (place : ℕ) → place ≡ above 0 (1 + place)
next_above_first place = grind (arith, nat_tests)

module _ (gone : List ℕ) where
  abbrev stays : Table → Bool
  stays t = not (has gone t)

  all_stay : (tables : List Table) → LackName gone tables → filter stays tables ≡ tables
  all_stay [] lack = refl
  all_stay (t ∷ ts) lack = λ i. cond (not (lack.0 i)) (t ∷ all_stay ts lack.1 i) (all_stay ts lack.1 i)

  -- Another table moves forward by one if it was later.
  first_without : (name : List ℕ) → same_name gone name ≡ false → (tables : List Table) → IsDistinct same_name (map name_of tables)
      → first name (filter stays tables) ≡ above (first gone tables) (first name tables)
  first_without name other [] distinct = refl
  first_without name other (t ∷ ts) distinct =
      by (has gone t) refl (has name t) refl (first_without name other ts (IsDistinct-tail same_name (name_of t) (map name_of ts) distinct))
    where
      by : (g : Bool) → has gone t ≡ g → (h : Bool) → has name t ≡ h → first name (filter stays ts) ≡ above (first gone ts) (first name ts)
          → first name (cond (not g) (t ∷ filter stays ts) (filter stays ts))
          ≡ above (cond (not g) (1 + first gone ts) 0) (cond (not h) (1 + first name ts) 0)
      by true went true own later =
          let same : false ≡ true = sym other ∙ ap (same_name gone) (same_bytes name (name_of t) own) ∙ went in cc
      by true went false differs later = ap (first name) (all_stay ts (others_lack gone t ts went distinct)) ∙ next_above_first (first name ts)
      by false here true own later = ap (λ b. cond (not b) (1 + first name (filter stays ts)) 0) own ∙ above_first (first gone ts)
      by false here false differs later =
          ap (λ b. cond (not b) (1 + first name (filter stays ts)) 0) differs ∙ ap (λ n. 1 + n) later ∙ above_next (first gone ts) (first name ts)

  module _ (schema : Schema) (distinct : HasDistinctNames schema) where
    abbrev place_of_gone : ℕ
    place_of_gone = first gone schema.tables

    -- Another name, which some table has.
    abbrev IsOther : List ℕ → Type 0
    IsOther name = (lacks name schema.tables ≡ false) × (same_name gone name ≡ false)

    abbrev RefersToOther : Table → Type 0
    RefersToOther t = has gone t ≡ false → IsSoOfTargets IsOther t.definition.columns

    abbrev kept : Reference → Bool
    kept r = not (r.from == place_of_gone)

    -- The foreign keys that remain of some.
    abbrev left : List Reference → List Reference
    left rs = map (moved_up place_of_gone) (filter kept rs)

    left-append : (rs ss : List Reference) → left (rs ++ ss) ≡ left rs ++ left ss
    left-append rs ss = ap (map (moved_up place_of_gone)) (filter-append kept rs ss) ∙ map-append (moved_up place_of_gone) (filter kept rs) (filter kept ss)

    reference_moves : (from to column : ℕ) (name : List ℕ) → above place_of_gone from ≡ to → IsOther name
        → reference_at (without_table gone schema) to (column, name) ≡ moved_up place_of_gone (reference_at schema from (column, name))
    reference_moves from to column name moves is =
        let target = target_place name (without_table gone schema) (there_still gone name schema.tables is.1 is.0)
        ∙ first_without name is.1 schema.tables distinct ∙ ap (above place_of_gone) (sym (target_place name schema is.0)) in
        λ i. record { from = sym moves i; column = column; to = target i }

    all_kept : (from : ℕ) → (from == place_of_gone) ≡ false → (rs : List (ℕ × List ℕ))
        → filter kept (map (reference_at schema from) rs) ≡ map (reference_at schema from) rs
    all_kept from differs [] = refl
    all_kept from differs (r ∷ rs) = λ i.
        cond (not (differs i)) (reference_at schema from r ∷ all_kept from differs rs i) (all_kept from differs rs i)

    none_kept : (from : ℕ) → (from == place_of_gone) ≡ true → (rs : List (ℕ × List ℕ)) → filter kept (map (reference_at schema from) rs) ≡ []
    none_kept from same [] = refl
    none_kept from same (r ∷ rs) = λ i.
        cond (not (same i)) (reference_at schema from r ∷ none_kept from same rs i) (none_kept from same rs i)

    columns_move : (from to : ℕ) → above place_of_gone from ≡ to → (from == place_of_gone) ≡ false → (columns : List Column) → IsSoOfTargets IsOther columns
        → map (reference_at (without_table gone schema) to) (references_of columns) ≡ left (map (reference_at schema from) (references_of columns))
    columns_move from to moves differs columns so =
        references_agree IsOther (reference_at (without_table gone schema) to) (λ r. moved_up place_of_gone (reference_at schema from r))
        (λ column name is. reference_moves from to column name moves is) 0 columns so
        ∙ sym (map-map (moved_up place_of_gone) (reference_at schema from) (references_of columns))
        ∙ ap (map (moved_up place_of_gone)) (sym (all_kept from differs (references_of columns)))

    -- The tables after the dropped one move forward by one, ..
    behind_moves : (place : ℕ) → place_of_gone ≤ place → (tables : List Table) → LackName gone tables → AllByRecursion RefersToOther tables
        → references_behind (without_table gone schema) place tables ≡ left (references_behind schema (place + 1) tables)
    behind_moves place behind [] lack other = refl
    behind_moves place behind (t ∷ ts) lack other =
        let next : place_of_gone ≤ place + 1 = omega arith in
        (λ i. columns_move (place + 1) place (above_behind place_of_gone place behind) (not_first place place_of_gone behind)
        t.definition.columns (other.0 lack.0) i ++ behind_moves (place + 1) next ts lack.1 other.1 i)
        ∙ sym (left-append (map (reference_at schema (place + 1)) (references_of t.definition.columns)) (references_behind schema ((place + 1) + 1) ts))
      where
        not_first : (n k : ℕ) → k ≤ n → ((n + 1) == k) ≡ false
        not_first n k h = grind (arith, nat_tests)

    -- .. and those before it are unchanged.
    tables_move : (place : ℕ) (tables : List Table) → place + first gone tables ≡ place_of_gone → IsDistinct same_name (map name_of tables)
        → AllByRecursion RefersToOther tables
        → references_behind (without_table gone schema) place (filter stays tables) ≡ left (references_behind schema place tables)
    tables_move place [] at names other = refl
    tables_move place (t ∷ ts) at names other =
        by (has gone t) refl at (λ next. tables_move (place + 1) ts next (IsDistinct-tail same_name (name_of t) (map name_of ts) names) other.1)
      where
        parts : left (references_behind schema place (t ∷ ts))
            ≡ left (map (reference_at schema place) (references_of t.definition.columns)) ++ left (references_behind schema (place + 1) ts)
        parts = left-append (map (reference_at schema place) (references_of t.definition.columns)) (references_behind schema (place + 1) ts)

        same_place : (n k : ℕ) → n ≡ k → (n == k) ≡ true
        same_place n k h = grind (arith, nat_tests)

        in_front_of : (n k : ℕ) → n < k → (n == k) ≡ false
        in_front_of n k h = grind (arith, nat_tests)

        by : (g : Bool) → has gone t ≡ g → place + cond (not g) (1 + first gone ts) 0 ≡ place_of_gone
            → ((place + 1) + first gone ts ≡ place_of_gone
            → references_behind (without_table gone schema) (place + 1) (filter stays ts) ≡ left (references_behind schema (place + 1) ts))
            → references_behind (without_table gone schema) place (cond (not g) (t ∷ filter stays ts) (filter stays ts))
            ≡ left (references_behind schema place (t ∷ ts))
        by true went at later =
            let here : place ≡ place_of_gone = omega arith in
            let behind : place_of_gone ≤ place = omega arith in
            let lack = others_lack gone t ts went names in
            ap (references_behind (without_table gone schema) place) (all_stay ts lack)
            ∙ behind_moves place behind ts lack other.1
            ∙ ap (λ rs. map (moved_up place_of_gone) rs ++ left (references_behind schema (place + 1) ts))
            (sym (none_kept place (same_place place place_of_gone here) (references_of t.definition.columns)))
            ∙ sym parts
        by false stays_here at later =
            let before : place < place_of_gone = omega arith in
            let next : (place + 1) + first gone ts ≡ place_of_gone = omega arith in
            (λ i. columns_move place place (above_before place_of_gone place before) (in_front_of place place_of_gone before) t.definition.columns
            (other.0 stays_here) i ++ later next i)
            ∙ sym parts

  others_at : (schema : Schema) (target : Option (List ℕ)) → option_map_or (λ name. lacks_table name schema) target false ≡ false
      → option_map_or (same_name gone) target false ≡ false → IsSoAt (λ name. (lacks name schema.tables ≡ false) × (same_name gone name ≡ false)) target
  others_at schema None there other = tt
  others_at schema (Some name) there other = (there, other)

  others_of : (schema : Schema) (columns : List Column) → list_any (lacks_target schema) columns ≡ false → list_any (refers_to gone) columns ≡ false
      → IsSoOfTargets (λ name. (lacks name schema.tables ≡ false) × (same_name gone name ≡ false)) columns
  others_of schema [] there other = tt
  others_of schema (c ∷ cs) there other =
      let p = or_parts (lacks_target schema c) (list_any (lacks_target schema) cs) there in
      let q = or_parts (refers_to gone c) (list_any (refers_to gone) cs) other in
      (others_at schema (target_of c) p.0 q.0, others_of schema cs p.1 q.1)

  unused : (a b : Bool) → (not a && b) ≡ false → a ≡ false → b ≡ false
  unused true b none stays_here = cc
  unused false b none stays_here = none

  refer_to_others : (schema : Schema) (distinct : HasDistinctNames schema) (tables : List Table)
      → AllByRecursion (λ t. list_any (lacks_target schema) t.definition.columns ≡ false) tables → list_any (is_other_referring_to gone) tables ≡ false
      → AllByRecursion (RefersToOther schema distinct) tables
  refer_to_others schema distinct [] there none = tt
  refer_to_others schema distinct (t ∷ ts) there none =
      let p = or_parts (is_other_referring_to gone t) (list_any (is_other_referring_to gone) ts) none in (
        λ stays_here. others_of schema t.definition.columns there.0 (unused (has gone t) (list_any (refers_to gone) t.definition.columns) p.0 stays_here),
        refer_to_others schema distinct ts there.1 p.1,
      )

-- Without a table its foreign keys are gone, and later positions decrease by one.
pub references_without_table : (name : List ℕ) (schema : Schema) (place : ℕ) → table_place name schema ≡ Some place → HasDistinctNames schema
    → HasTargets schema → first_refusal (drop_table_conditions name schema) ≡ None
    → all_references (without_table name schema) ≡ map (moved_up place) (filter (λ r. not (r.from == place)) (all_references schema))
references_without_table name schema place found distinct whole due =
    let at : place ≡ first name schema.tables = place_from_some (has name) schema.tables place found in
    let start : 0 + first name schema.tables ≡ first name schema.tables = omega arith in
    tables_move name schema distinct 0 schema.tables start distinct
    (refer_to_others name schema distinct schema.tables (recursion_from_All _ schema.tables whole)
    (or_parts (list_any (is_other_referring_to name) schema.tables) (list_any (reads_table name) schema.standing) (second_none _ _ _ _ _ due)).0)
    ∙ ap (λ k. map (moved_up k) (filter (λ r. not (r.from == k)) (all_references schema))) (sym at)

-- ---- the positions of a foreign key

-- The referring table exists, its column exists, and it refers to another table that exists.
pub record IsReferenceWithin (schema : Schema) (reference : Reference) : Type 0 where
  pub table : Table
  pub here : slice_get schema.tables reference.from ≡ Some table
  pub from_within : reference.from < length schema.tables
  pub to_within : reference.to < length schema.tables
  pub to_another : reference.from ≢ reference.to
  pub column_within : reference.column < length table.definition.columns

found_passes : (name : List ℕ) (tables : List Table) (t : Table) → find (has name) tables ≡ Some t → has name t ≡ true
found_passes name [] t found = cc
found_passes name (u ∷ us) t found = by (has name u) refl found (found_passes name us t)
  where
    by : (b : Bool) → has name u ≡ b → cond b (Some u) (find (has name) us) ≡ Some t → (find (has name) us ≡ Some t → has name t ≡ true) → has name t ≡ true
    by true own found later = let is : u ≡ t = cc in ap (has name) (sym is) ∙ own
    by false differs found later = later found

got_within : {X : Type 0} (xs : List X) (n : ℕ) (x : X) → slice_get xs n ≡ Some x → n < length xs
got_within [] n x got = cc
got_within (y ∷ ys) zero x got = omega arith
got_within (y ∷ ys) (suc n) x got = let rest = got_within ys n x got in omega arith

module _ (schema : Schema) where
  -- Some table has the name, and the table itself has another.
  abbrev IsOfAnother : Table → List ℕ → Type 0
  IsOfAnother t name = (lacks name schema.tables ≡ false) × (same_name (name_of t) name ≡ false)

  module _ (t : Table) (place : ℕ) (here : slice_get schema.tables place ≡ Some t) where
    not_itself : (name : List ℕ) → IsOfAnother t name → place ≢ unwrap_or (table_place name schema) 0
    not_itself name is same =
        let at : place ≡ first name schema.tables = same ∙ target_place name schema is.0 in
        let found : find (has name) schema.tables ≡ Some t = find_at (has name) schema.tables ∙ ap (slice_get schema.tables) (sym at) ∙ here in
        let other : has name t ≡ false = differs_back (name_of t) name is.1 in
        let own : has name t ≡ true = found_passes name schema.tables t found in
        cc

    reference_within : (column : ℕ) (name : List ℕ) → IsOfAnother t name → column < length t.definition.columns
        → IsReferenceWithin schema (reference_at schema place (column, name))
    reference_within column name is inside = record {
      table = t;
      here = here;
      from_within = got_within schema.tables place t here;
      to_within = subst (λ n. n < length schema.tables) (sym (target_place name schema is.0)) (within name schema.tables is.0);
      to_another = not_itself name is;
      column_within = inside;
    }

    columns_within : (column : ℕ) (columns : List Column) → column + length columns ≤ length t.definition.columns → IsSoOfTargets (IsOfAnother t) columns
        → All (IsReferenceWithin schema) (map (reference_at schema place) (references_from column columns))
    columns_within column [] inside so = All-nil (IsReferenceWithin schema)
    columns_within column (c ∷ cs) inside so =
        let here_inside : column < length t.definition.columns = omega arith in
        let rest_inside : (column + 1) + length cs ≤ length t.definition.columns = omega arith in
        by (target_of c) here_inside so.0 (columns_within (column + 1) cs rest_inside so.1)
      where
        by : (target : Option (List ℕ)) → column < length t.definition.columns → IsSoAt (IsOfAnother t) target
            → All (IsReferenceWithin schema) (map (reference_at schema place) (references_from (column + 1) cs))
            → All (IsReferenceWithin schema) (map (reference_at schema place) (in_front column target (references_from (column + 1) cs)))
        by None inside is later = later
        by (Some name) inside is later =
            All-cons (IsReferenceWithin schema) (reference_at schema place (column, name)) (map (reference_at schema place) (references_from (column + 1) cs))
            (reference_within column name is inside) later

  tables_within : (place : ℕ) (tables : List Table) → ((k : ℕ) → slice_get schema.tables (place + k) ≡ slice_get tables k)
      → AllByRecursion (λ t. list_any (lacks_target schema) t.definition.columns ≡ false) tables
      → AllByRecursion (λ t. list_any (refers_to (name_of t)) t.definition.columns ≡ false) tables
      → All (IsReferenceWithin schema) (references_behind schema place tables)
  tables_within place [] at there others = All-nil (IsReferenceWithin schema)
  tables_within place (t ∷ ts) at there others =
      let start : place + 0 ≡ place = omega arith in
      let whole : 0 + length t.definition.columns ≤ length t.definition.columns = omega arith in
      All-append (IsReferenceWithin schema) (map (reference_at schema place) (references_of t.definition.columns)) (references_behind schema (place + 1) ts)
      (columns_within t place (ap (slice_get schema.tables) (sym start) ∙ at 0) 0 t.definition.columns whole
      (others_of (name_of t) schema t.definition.columns there.0 others.0))
      (tables_within (place + 1) ts (λ k. let next : (place + 1) + k ≡ place + suc k = omega arith in ap (slice_get schema.tables) next ∙ at (suc k))
      there.1 others.1)

  -- Each foreign key is from a column of a table to another table.
  pub reference_there : HasTargets schema → RefersToOthers schema → (reference : Reference) → Contains (all_references schema) reference
      → IsReferenceWithin schema reference
  reference_there whole others reference among =
      All-contains (IsReferenceWithin schema) (all_references schema) reference
      (tables_within 0 schema.tables (λ k. let same : 0 + k ≡ k = omega arith in ap (slice_get schema.tables) same)
      (recursion_from_All _ schema.tables whole) (recursion_from_All _ schema.tables others)) among

-- ---- tables that refer only to others

abbrev OfOthers : Table → Type 0
OfOthers t = list_any (refers_to (name_of t)) t.definition.columns ≡ false

module _ (name : List ℕ) (schema : Schema) (free : table_named name schema ≡ None) where
  not_to : (target : Option (List ℕ)) → option_map_or (λ t. lacks_table t schema) target false ≡ false → option_map_or (same_name name) target false ≡ false
  not_to None there = refl
  not_to (Some other) there = elim (cases_Bool (same_name name other)) [
    | inl same ↦
        let named : lacks_table name schema ≡ false = ap (λ n. lacks_table n schema) (same_bytes name other same) ∙ there in
        let lack : lacks_table name schema ≡ true = ap is_none free in
        cc
    | inr differs ↦ differs
  ]

  -- Columns whose targets exist do not refer to an unused name.
  none_to : (columns : List Column) → list_any (lacks_target schema) columns ≡ false → list_any (refers_to name) columns ≡ false
  none_to [] there = refl
  none_to (c ∷ cs) there =
      let p = or_parts (lacks_target schema c) (list_any (lacks_target schema) cs) there in
      or_from _ _ (not_to (target_of c) p.0) (none_to cs p.1)

pub others_added : (definition : TableDef) (schema : Schema) → RefersToOthers schema → first_refusal (table_conditions definition schema) ≡ None
    → RefersToOthers (with_table definition schema)
others_added definition schema others due =
    All-push OfOthers schema.tables _ others
    (none_to definition.name schema (new_name_is_free definition schema due) definition.columns (first_none _ _ _ due))

pub others_left : (name : List ℕ) (schema : Schema) → RefersToOthers schema → RefersToOthers (without_table name schema)
others_left name schema others = All-filter (λ t. not (has name t)) OfOthers schema.tables others

module _ (change : Table → Table) (same : (t : Table) → (change t).definition ≡ t.definition) where
  others_kept : (schema : Schema) → RefersToOthers schema → RefersToOthers (record schema { tables = map change schema.tables })
  others_kept schema others =
      All-map OfOthers change schema.tables
      (All-weaker OfOthers (λ t. OfOthers (change t)) (λ t is. ap (λ (d : TableDef). list_any (refers_to d.name) d.columns) (same t) ∙ is)
      schema.tables others)

pub others_indexed : (index : IndexDef) (schema : Schema) → RefersToOthers schema → RefersToOthers (with_index index schema)
others_indexed index schema others = others_kept (table_with_index index) (same_with index) schema others

pub others_unindexed : (name : List ℕ) (schema : Schema) → RefersToOthers schema → RefersToOthers (without_index name schema)
others_unindexed name schema others = others_kept (table_without_index name) (same_without name) schema others
