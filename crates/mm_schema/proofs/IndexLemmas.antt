-- Creating and dropping indexes, in the entries of the catalog's map.
use Rattle.std.proofs.Common.{◌≡◌, ℕ, zero, suc, ◌+◌, ◌||◌, Bool, true, false, cond, not, List, [], ◌∷◌, ◌++◌, Option, Some, None, Result, Ok, Err, OnOk}
use Rattle.std.proofs.Common.{OnErr, IfErr, All, find, is_none, is_some, map, position, slice_get, inr, refl, sym, ap, ◌∙◌, subst, arith}
use Rattle.std.specs.List.{AllByRecursion, IsDistinct, list_any, position_or_len}
use Rattle.std.proofs.lemmas.List.Elements.{All-filter, All-from_recursion, All-map, All-push, All-weaker, recursion_from_All}
use Rattle.std.proofs.lemmas.List.Folds.{list_any-append}
use Rattle.std.proofs.lemmas.Map.Keys.{IsDistinct-tail}
use Rattle.indexmap.specs.IndexMap.{set_value_at}
use Rattle.mm_schema.specs.Catalog.{Tables, IsSound, tables_of}
use Rattle.mm_schema.specs.Indexes.{HasOwnIndexes, has_duplicate_indexes, index_conditions, index_named, indexes_of, lacks_index, table_with_index}
use Rattle.mm_schema.specs.Indexes.{table_without_index, with_index, without_index}
use Rattle.mm_schema.specs.Name.{same_name}
use Rattle.mm_schema.specs.Refused.{AnswersDue, first_refusal}
use Rattle.mm_schema.specs.Schema.{HasDistinctNames, Schema, table_place}
use Rattle.mm_schema.specs.declared.index.IndexDef.{IndexDef}
use Rattle.mm_schema.specs.declared.standing.StandingDef.{StandingDef}
use Rattle.mm_schema.specs.declared.table.Table.{Table}
use Rattle.mm_value.specs.declared.refusal.Refusal.{Refusal}
use Rattle.mm_value.specs.declared.refusal.Refusal.TheVariants.{Memory, NameTaken, NoSuchColumn, NoSuchTable, TooMany}
use Rattle.mm_schema.proofs.CatalogLemmas.{Entry, IsKeyed, seconds}
use Rattle.mm_schema.proofs.Instances.{name_of, others_lack}
use Rattle.mm_schema.proofs.NameLemmas.{same_bytes}
use Rattle.mm_schema.proofs.Places.{find_at_place, find_nowhere, place_from_some}
use Rattle.mm_schema.proofs.DuplicateIndexes.{distinct_with, distinct_without, duplicates_behind, free_behind, is_taken, others_stay, stay_without}
use Rattle.mm_schema.proofs.DuplicateIndexes.{stays_without}

-- ---- a single changed table

set_same : (es : List Entry) (n : ℕ) (t : Table) → slice_get (seconds es) n ≡ Some t → seconds (set_value_at es n t) ≡ seconds es
set_same [] n t here = refl
set_same (e ∷ es) zero t here = let was : e.1 ≡ t = cc in ap (λ (u : Table). u ∷ seconds es) (sym was)
set_same (e ∷ es) (suc n) t here = ap (λ ts. e.1 ∷ ts) (set_same es n t here)

keyed_set : (es : List Entry) (n : ℕ) (t w : Table) → AllByRecursion IsKeyed es → slice_get (seconds es) n ≡ Some t
    → w.definition.name ≡ t.definition.name → AllByRecursion IsKeyed (set_value_at es n w)
keyed_set [] n t w keyed here same = tt
keyed_set (e ∷ es) zero t w keyed here same =
    let was : e.1 ≡ t = cc in (keyed.0 ∙ ap (λ (u : Table). u.definition.name) was ∙ sym same, keyed.1)
keyed_set (e ∷ es) (suc n) t w keyed here same = (keyed.0, keyed_set es n t w keyed.1 here same)

module _ (test : Table → Bool) (f : Table → Table) where
  -- If a table passes, later ones are unchanged; if it does not, it is unchanged.
  abbrev ChangesFirst : List Table → Type 0
  ChangesFirst [] = Unit {0}
  ChangesFirst (t ∷ ts) = (test t ≡ true → map f ts ≡ ts) × (test t ≡ false → f t ≡ t) × ChangesFirst ts

  -- The table passes, and is the only one that changes.
  abbrev IsChanged : List Entry → ℕ → Table → Type 0
  IsChanged es n t = (test t ≡ true) × (seconds (set_value_at es n (f t)) ≡ map f (seconds es))

  first_or_later : (e : Entry) (es : List Entry) (t : Table) (n : ℕ) (b : Bool) → test e.1 ≡ b → ChangesFirst (seconds (e ∷ es))
      → slice_get (seconds (e ∷ es)) (cond (not b) (1 + n) 0) ≡ Some t → (slice_get (seconds es) n ≡ Some t → IsChanged es n t)
      → IsChanged (e ∷ es) (cond (not b) (1 + n) 0) t
  first_or_later e es t n true passes changes here later =
      let is : e.1 ≡ t = cc in
      (sym (ap test is) ∙ passes, λ i. f (sym is i) ∷ sym (changes.0 passes) i)
  first_or_later e es t n false fails changes here later =
      let next : 1 + n ≡ suc n = omega arith in
      let rest = later (subst (λ k. slice_get (seconds (e ∷ es)) k ≡ Some t) next here) in
      (rest.0, ap (λ k. seconds (set_value_at (e ∷ es) k (f t))) next ∙ (λ i. sym (changes.1 fails) i ∷ rest.1 i))

  changed_first : (es : List Entry) (t : Table) → ChangesFirst (seconds es) → slice_get (seconds es) (position_or_len test (seconds es)) ≡ Some t
      → IsChanged es (position_or_len test (seconds es)) t
  changed_first [] t changes here = cc
  changed_first (e ∷ es) t changes here =
      first_or_later e es t (position_or_len test (seconds es)) (test e.1) refl changes here (changed_first es t changes.2)

changes_named : (index : IndexDef) (ts : List Table) → IsDistinct same_name (map name_of ts)
    → ChangesFirst (λ t. same_name index.table (name_of t)) (table_with_index index) ts
changes_named index [] distinct = tt
changes_named index (t ∷ ts) distinct = (
  λ own. others_stay index ts (others_lack index.table t ts own distinct),
  λ other. λ i. cond (other i) (record t { indexes = t.indexes ++ index ∷ [] }) t,
  changes_named index ts (IsDistinct-tail same_name (name_of t) (map name_of ts) distinct),
)

changes_having : (name : List ℕ) (ts : List Table) → has_duplicate_indexes (indexes_of ts) ≡ false
    → ChangesFirst (λ t. is_taken name t.indexes) (table_without_index name) ts
changes_having name [] none = tt
changes_having name (t ∷ ts) none = (
  λ taken. stay_without name ts (free_behind name t.indexes (indexes_of ts) taken none),
  λ free. stays_without name t free,
  changes_having name ts (duplicates_behind t.indexes (indexes_of ts) none),
)

-- With other indexes of a table, each table is still stored under its own name.
keyed_with : (old new : Tables) (n : ℕ) (t : Table) (is : List IndexDef) → slice_get (tables_of old) n ≡ Some t
    → new.entries ≡ set_value_at old.entries n (record t { indexes = is }) → All IsKeyed old.entries → All IsKeyed new.entries
keyed_with old new n t is here set keyed =
    subst (All IsKeyed) (sym set)
    (All-from_recursion IsKeyed _
    (keyed_set old.entries n t (record t { indexes = is }) (recursion_from_All IsKeyed old.entries keyed) here refl))

-- ---- names of indexes

module _ {X : Type 0} (p : X → Bool) where
  none_is_found : (xs : List X) → is_none (find p xs) ≡ not (list_any p xs)
  none_is_found [] = refl
  none_is_found (x ∷ xs) = by (p x) (none_is_found xs)
    where
      by : (b : Bool) → is_none (find p xs) ≡ not (list_any p xs) → is_none (cond b (Some x) (find p xs)) ≡ not (b || list_any p xs)
      by true later = refl
      by false later = later

taken_by_table : (name : List ℕ) (ts : List Table) → is_taken name (indexes_of ts) ≡ list_any (λ t. is_taken name t.indexes) ts
taken_by_table name [] = refl
taken_by_table name (t ∷ ts) =
    list_any-append (λ (i : IndexDef). same_name name i.name) t.indexes (indexes_of ts) ∙ ap (λ b. is_taken name t.indexes || b) (taken_by_table name ts)

-- An index does not exist if and only if no table has it.
lacks_by_table : (name : List ℕ) (schema : Schema) → lacks_index name schema ≡ is_none (find (λ t. is_taken name t.indexes) schema.tables)
lacks_by_table name schema =
    none_is_found (λ (i : IndexDef). same_name name i.name) (indexes_of schema.tables)
    ∙ ap not (taken_by_table name schema.tables)
    ∙ sym (none_is_found (λ (t : Table). is_taken name t.indexes) schema.tables)

pub lacks_nowhere : (name : List ℕ) (schema : Schema) → position (λ t. is_taken name t.indexes) schema.tables ≡ None → lacks_index name schema ≡ true
lacks_nowhere name schema nowhere = lacks_by_table name schema ∙ ap is_none (find_nowhere _ schema.tables nowhere)

pub has_at_place : (name : List ℕ) (schema : Schema) (place : ℕ) (t : Table) → position (λ t. is_taken name t.indexes) schema.tables ≡ Some place
    → slice_get schema.tables place ≡ Some t → lacks_index name schema ≡ false
has_at_place name schema place t placed here = lacks_by_table name schema ∙ ap is_none (find_at_place _ schema.tables place placed ∙ here)

-- ---- one more index

due_free : (a b : Bool) (named : Option IndexDef) (d : Bool)
    → first_refusal (record { holds = a; refusal = NoSuchTable } ∷ record { holds = b; refusal = NoSuchColumn }
    ∷ record { holds = is_some named; refusal = NameTaken } ∷ record { holds = d; refusal = TooMany } ∷ []) ≡ None
    → is_none named ≡ true
due_free true b named d h = cc
due_free false true named d h = cc
due_free false false None d h = refl
due_free false false (Some index) d h = cc

not_taken : (b : Bool) → not b ≡ true → b ≡ false
not_taken true h = cc
not_taken false h = refl

-- An index that nothing refuses has a new name.
pub new_index_is_free : (index : IndexDef) (schema : Schema) → first_refusal (index_conditions index schema) ≡ None
    → is_taken index.name (indexes_of schema.tables) ≡ false
new_index_is_free index schema due =
    not_taken _ (sym (none_is_found (λ (i : IndexDef). same_name index.name i.name) (indexes_of schema.tables))
    ∙ due_free _ _ (index_named index.name schema) _ due)

own_with : (index : IndexDef) (t : Table) → HasOwnIndexes t → HasOwnIndexes (table_with_index index t)
own_with index t own = by (same_name index.table (name_of t)) refl
  where
    by : (b : Bool) → same_name index.table (name_of t) ≡ b → HasOwnIndexes (cond b (record t { indexes = t.indexes ++ index ∷ [] }) t)
    by true same = All-push (λ i. i.table ≡ name_of t) t.indexes index own (same_bytes index.table (name_of t) same)
    by false other = own

-- If nothing else refuses a new index, only Memory can.
pub only_memory : {T : Type 0} (due : Option Refusal) (result : Result T Refusal) → due ≡ None → IfErr result (λ refusal. refusal ≡ Memory)
    → AnswersDue due result
only_memory due (Ok value) none memory = none
only_memory due (Err refusal) none memory = inr memory

module _ {standing : List StandingDef} (index : IndexDef) (old : Tables) (schema : Schema) (sound : IsSound old)
    (view : record { tables = tables_of old; standing = standing } ≡ schema)
    (distinct : HasDistinctNames schema) (due : first_refusal (index_conditions index schema) ≡ None) (place : ℕ)
    (placed : table_place index.table schema ≡ Some place) (t : Table) (here : slice_get (tables_of old) place ≡ Some t) where
  abbrev has_name : Table → Bool
  has_name u = same_name index.table (name_of u)

  names_differ : HasDistinctNames (record { tables = tables_of old; standing = standing })
  names_differ = subst HasDistinctNames (sym view) distinct

  at : place ≡ position_or_len has_name (tables_of old)
  at = place_from_some has_name (tables_of old) place (ap (table_place index.table) view ∙ placed)

  changed : IsChanged has_name (table_with_index index) old.entries place t
  changed =
      subst (λ n. IsChanged has_name (table_with_index index) old.entries n t) (sym at)
      (changed_first has_name (table_with_index index) old.entries t (changes_named index (tables_of old) names_differ)
      (subst (λ n. slice_get (tables_of old) n ≡ Some t) at here))

  module _ (is : List IndexDef) (new : Tables) (set : new.entries ≡ set_value_at old.entries place (record t { indexes = is })) where
    tables_with : is ≡ t.indexes ++ index ∷ [] → tables_of new ≡ map (table_with_index index) (tables_of old)
    tables_with pushed =
        ap seconds set
        ∙ (λ i. seconds (set_value_at old.entries place (cond (sym changed.0 i) (record t { indexes = pushed i }) t)))
        ∙ changed.1

    tables_same : is ≡ t.indexes → tables_of new ≡ tables_of old
    tables_same same =
        ap seconds set ∙ ap (λ js. seconds (set_value_at old.entries place (record t { indexes = js }))) same ∙ set_same old.entries place t here

    -- The tables with the index, or unchanged tables if an allocation failed.
    pub sound_after_push : {T : Type 0} (result : Result T Refusal) → OnOk result (is ≡ t.indexes ++ index ∷ []) → OnErr result (is ≡ t.indexes) → IsSound new
    sound_after_push (Ok value) ok err = record {
      keyed = keyed_with old new place t is here set sound.keyed;
      distinct = ap (λ ts. has_duplicate_indexes (indexes_of ts)) (tables_with ok)
          ∙ distinct_with index (tables_of old) names_differ
          (ap (λ (s : Schema). is_taken index.name (indexes_of s.tables)) view ∙ new_index_is_free index schema due) sound.distinct;
      in_place = subst (All HasOwnIndexes) (sym (tables_with ok))
          (All-map HasOwnIndexes (table_with_index index) (tables_of old)
          (All-weaker HasOwnIndexes (λ u. HasOwnIndexes (table_with_index index u)) (own_with index) (tables_of old) sound.in_place));
    }
    sound_after_push (Err refusal) ok err = record {
      keyed = keyed_with old new place t is here set sound.keyed;
      distinct = ap (λ ts. has_duplicate_indexes (indexes_of ts)) (tables_same err) ∙ sound.distinct;
      in_place = subst (All HasOwnIndexes) (sym (tables_same err)) sound.in_place;
    }

    pub view_with : {T : Type 0} (result : Result T Refusal) → OnOk result (is ≡ t.indexes ++ index ∷ [])
        → OnOk result (record { tables = tables_of new; standing = standing } ≡ with_index index schema)
    view_with (Ok value) ok = ap (λ ts. record { tables = ts; standing = standing }) (tables_with ok) ∙ ap (with_index index) view
    view_with (Err refusal) ok = tt

    pub view_same : {T : Type 0} (result : Result T Refusal) → OnErr result (is ≡ t.indexes)
        → OnErr result (record { tables = tables_of new; standing = standing } ≡ schema)
    view_same (Ok value) err = tt
    view_same (Err refusal) err = ap (λ ts. record { tables = ts; standing = standing }) (tables_same err) ∙ view

-- ---- a dropped index

module _ {standing : List StandingDef} (name : List ℕ) (old : Tables) (schema : Schema) (sound : IsSound old)
    (view : record { tables = tables_of old; standing = standing } ≡ schema) (place : ℕ)
    (placed : position (λ t. is_taken name t.indexes) schema.tables ≡ Some place) (t : Table) (here : slice_get (tables_of old) place ≡ Some t) where
  abbrev has_index : Table → Bool
  has_index u = is_taken name u.indexes

  its_place : place ≡ position_or_len has_index (tables_of old)
  its_place = place_from_some has_index (tables_of old) place (ap (λ (s : Schema). position has_index s.tables) view ∙ placed)

  emptied : IsChanged has_index (table_without_index name) old.entries place t
  emptied =
      subst (λ n. IsChanged has_index (table_without_index name) old.entries n t) (sym its_place)
      (changed_first has_index (table_without_index name) old.entries t (changes_having name (tables_of old) sound.distinct)
      (subst (λ n. slice_get (tables_of old) n ≡ Some t) its_place here))

  module _ (is : List IndexDef) (new : Tables) (set : new.entries ≡ set_value_at old.entries place (record t { indexes = is }))
      (gone : is ≡ (table_without_index name t).indexes) where
    tables_without : tables_of new ≡ map (table_without_index name) (tables_of old)
    tables_without =
        ap seconds set ∙ ap (λ js. seconds (set_value_at old.entries place (record t { indexes = js }))) gone ∙ emptied.1

    pub sound_without_index : IsSound new
    sound_without_index = record {
      keyed = keyed_with old new place t is here set sound.keyed;
      distinct = ap (λ ts. has_duplicate_indexes (indexes_of ts)) tables_without ∙ distinct_without name (tables_of old) sound.distinct;
      in_place = subst (All HasOwnIndexes) (sym tables_without)
          (All-map HasOwnIndexes (table_without_index name) (tables_of old)
          (All-weaker HasOwnIndexes (λ u. HasOwnIndexes (table_without_index name u))
          (λ u. All-filter (λ i. not (same_name name i.name)) (λ i. i.table ≡ name_of u) u.indexes) (tables_of old) sound.in_place));
    }

    pub view_without_index : record { tables = tables_of new; standing = standing } ≡ without_index name schema
    view_without_index = ap (λ ts. record { tables = ts; standing = standing }) tables_without ∙ ap (without_index name) view
