-- The entries of the catalog's map, as its tables.
use Rattle.std.proofs.Common.{◌≡◌, ℕ, ◌+◌, Bool, true, false, cond, not, List, [], ◌∷◌, ◌++◌, Some, None, All, map, filter, find, position, ltb, refl, sym}
use Rattle.std.proofs.Common.{ap, ◌∙◌, subst}
use Rattle.std.specs.List.{AllByRecursion, IsDistinct, position_or_len}
use Rattle.std.specs.Map.{keys_of, lookup}
use Rattle.std.proofs.lemmas.List.{length-map, map-append}
use Rattle.std.proofs.lemmas.List.Elements.{All-filter, All-from_recursion, All-nil, All-push, recursion_from_All}
use Rattle.std.proofs.lemmas.Map.Keys.{IsDistinct-tail}
use Rattle.indexmap.specs.IndexMap.{insert_entry, shift_remove_entry}
use Rattle.indexmap.proofs.CallerLemmas.{insert_entry-new}
use Rattle.mm_schema.specs.Name.{same_name}
use Rattle.mm_schema.specs.Catalog.{Tables, IsKeyedByName, IsSound, tables_of}
use Rattle.mm_schema.specs.Indexes.{HasOwnIndexes, has_duplicate_indexes, indexes_of}
use Rattle.mm_schema.specs.Refused.{first_refusal}
use Rattle.mm_schema.specs.Schema.{HasDistinctNames, Schema, table_conditions, table_named, table_place, with_table, without_table}
use Rattle.mm_schema.specs.declared.standing.StandingDef.{StandingDef}
use Rattle.mm_schema.specs.declared.table.Table.{Table}
use Rattle.mm_schema.specs.declared.table.TableDef.{TableDef}
use Rattle.mm_schema.proofs.Instances.{LackName, name_of, others_lack}
use Rattle.mm_schema.proofs.Places.{new_name_is_free}
use Rattle.mm_schema.proofs.DuplicateIndexes.{distinct_in_fewer}

abbrev pub Entry : Type 0
Entry = List ℕ × Table

-- the entry is stored under its table's name
abbrev pub IsKeyed : Entry → Type 0
IsKeyed entry = entry.0 ≡ entry.1.definition.name

-- the keys are the names of the tables
names : (es : List Entry) → AllByRecursion IsKeyed es → keys_of es ≡ map (λ table. table.definition.name) (map (λ e. e.1) es)
names [] keyed = refl
names (e ∷ es) keyed = ap (λ k. k ∷ keys_of es) keyed.0 ∙ ap (λ ks. e.1.definition.name ∷ ks) (names es keyed.1)

pub keys_are_names : (tables : Tables) → IsKeyedByName tables → keys_of tables.entries ≡ map (λ table. table.definition.name) (tables_of tables)
keys_are_names tables keyed = names tables.entries (recursion_from_All IsKeyed tables.entries keyed)

-- a position in a list of names is the position of the table
place_in_names : (name : List ℕ) (tables : List Table)
    → position_or_len (same_name name) (map (λ table. table.definition.name) tables) ≡ position_or_len (λ table. same_name name table.definition.name) tables
place_in_names name [] = refl
place_in_names name (t ∷ ts) = ap (λ n. cond (not (same_name name t.definition.name)) (1 + n) 0) (place_in_names name ts)

-- The position of a key is the position of the table with that name.
pub place_of_key : {standing : List StandingDef} (name : List ℕ) (tables : Tables) (schema : Schema) → IsKeyedByName tables
    → record { tables = tables_of tables; standing = standing } ≡ schema
    → position (same_name name) (keys_of tables.entries) ≡ table_place name schema
place_of_key name tables schema keyed view =
    ap (position (same_name name)) (keys_are_names tables keyed)
    ∙ (λ i. cond (ltb (place_in_names name (tables_of tables) i) (length-map (tables_of tables) (λ table. table.definition.name) i))
    (Some (place_in_names name (tables_of tables) i)) None)
    ∙ ap (table_place name) view

-- Distinct keys are distinct names.
pub distinct_names : {standing : List StandingDef} (tables : Tables) (schema : Schema) → IsKeyedByName tables
    → record { tables = tables_of tables; standing = standing } ≡ schema
    → IsDistinct same_name (keys_of tables.entries) → HasDistinctNames schema
distinct_names tables schema keyed view distinct =
    subst HasDistinctNames view (subst (IsDistinct same_name) (keys_are_names tables keyed) distinct)

found : (name : List ℕ) (es : List Entry) → AllByRecursion IsKeyed es
    → lookup (same_name name) es ≡ find (λ table. same_name name table.definition.name) (map (λ e. e.1) es)
found name [] keyed = refl
found name (e ∷ es) keyed =
    ap (λ k. cond (same_name name k) (Some e.1) (lookup (same_name name) es)) keyed.0
    ∙ ap (cond (same_name name e.1.definition.name) (Some e.1)) (found name es keyed.1)

-- A name without a table is not a key.
absent_key : {standing : List StandingDef} (name : List ℕ) (tables : Tables) (schema : Schema) → IsKeyedByName tables
    → record { tables = tables_of tables; standing = standing } ≡ schema
    → table_named name schema ≡ None → lookup (same_name name) tables.entries ≡ None
absent_key name tables schema keyed view none =
    found name tables.entries (recursion_from_All IsKeyed tables.entries keyed) ∙ ap (table_named name) view ∙ none

-- A table that nothing refuses has a new name, so its entry is appended.
pub entry_comes_last : {standing : List StandingDef} (definition : TableDef) (tables : Tables) (schema : Schema) → IsKeyedByName tables
    → record { tables = tables_of tables; standing = standing } ≡ schema
    → first_refusal (table_conditions definition schema) ≡ None → (table : Table)
    → insert_entry same_name tables.entries definition.name table ≡ tables.entries ++ (definition.name, table) ∷ []
entry_comes_last definition tables schema keyed view due table =
    insert_entry-new same_name tables definition.name table
    (absent_key definition.name tables schema keyed view (new_name_is_free definition schema due))

-- the new table
abbrev pub new_table : TableDef → Table
new_table definition = record { definition = definition; indexes = [] }

-- the entries, and one more, stored under its table's name
abbrev pub IsPushed : TableDef → Tables → Tables → Type 0
IsPushed definition old new = new.entries ≡ old.entries ++ (definition.name, new_table definition) ∷ []

tables_pushed : (definition : TableDef) (old new : Tables) → IsPushed definition old new → tables_of new ≡ tables_of old ++ new_table definition ∷ []
tables_pushed definition old new pushed = ap (λ es. map (λ e. e.1) es) pushed ∙ map-append (λ e. e.1) old.entries _

indexes_pushed : (definition : TableDef) (ts : List Table) → indexes_of (ts ++ new_table definition ∷ []) ≡ indexes_of ts
indexes_pushed definition [] = refl
indexes_pushed definition (t ∷ ts) = ap (λ is. t.indexes ++ is) (indexes_pushed definition ts)

-- One more entry under its table's name preserves that each is stored under its own.
pub sound_push : (definition : TableDef) (old new : Tables) → IsPushed definition old new → IsSound old → IsSound new
sound_push definition old new pushed sound = record {
  keyed = subst (All IsKeyed) (sym pushed) (All-push IsKeyed old.entries _ sound.keyed refl);
  distinct = ap has_duplicate_indexes (ap indexes_of (tables_pushed definition old new pushed) ∙ indexes_pushed definition (tables_of old)) ∙ sound.distinct;
  in_place = subst (All HasOwnIndexes) (sym (tables_pushed definition old new pushed))
      (All-push HasOwnIndexes (tables_of old) (new_table definition) sound.in_place (All-nil _));
}

-- One more entry is one more table.
pub view_push : {standing : List StandingDef} (definition : TableDef) (old new : Tables) (schema : Schema) → IsPushed definition old new
    → record { tables = tables_of old; standing = standing } ≡ schema → record { tables = tables_of new; standing = standing } ≡ with_table definition schema
view_push {standing} definition old new schema pushed view =
    ap (λ ts. record { tables = ts; standing = standing }) (tables_pushed definition old new pushed)
    ∙ ap (with_table definition) view

-- ---- a dropped table

-- the tables of some entries
abbrev pub seconds : List Entry → List Table
seconds es = map (λ e. e.1) es

module _ (name : List ℕ) where
  abbrev other : Table → Bool
  other table = not (same_name name (name_of table))

  others_left : (ts : List Table) → LackName name ts → filter other ts ≡ ts
  others_left [] lack = refl
  others_left (t ∷ ts) lack = λ i. cond (not (lack.0 i)) (t ∷ others_left ts lack.1 i) (others_left ts lack.1 i)

  tables_left : (es : List Entry) → AllByRecursion IsKeyed es → IsDistinct same_name (map name_of (seconds es))
      → seconds (shift_remove_entry (same_name name) es) ≡ filter other (seconds es)
  tables_left [] keyed distinct = refl
  tables_left (e ∷ es) keyed distinct =
      ap (λ k. seconds (cond (same_name name k) es (e ∷ shift_remove_entry (same_name name) es))) keyed.0
      ∙ by (same_name name (name_of e.1)) refl
      (tables_left es keyed.1 (IsDistinct-tail same_name (name_of e.1) (map name_of (seconds es)) distinct))
    where
      by : (b : Bool) → same_name name (name_of e.1) ≡ b → seconds (shift_remove_entry (same_name name) es) ≡ filter other (seconds es)
          → seconds (cond b es (e ∷ shift_remove_entry (same_name name) es)) ≡ cond (not b) (e.1 ∷ filter other (seconds es)) (filter other (seconds es))
      by true own later = sym (others_left (seconds es) (others_lack name e.1 (seconds es) own distinct))
      by false differs later = ap (λ ts. e.1 ∷ ts) later

  keyed_left : (es : List Entry) → AllByRecursion IsKeyed es → AllByRecursion IsKeyed (shift_remove_entry (same_name name) es)
  keyed_left [] keyed = tt
  keyed_left (e ∷ es) keyed = by (same_name name e.0) (keyed_left es keyed.1)
    where
      by : (b : Bool) → AllByRecursion IsKeyed (shift_remove_entry (same_name name) es)
          → AllByRecursion IsKeyed (cond b es (e ∷ shift_remove_entry (same_name name) es))
      by true later = keyed.1
      by false later = (keyed.0, later)

  module _ {standing : List StandingDef} (old new : Tables) (schema : Schema) (sound : IsSound old)
      (view : record { tables = tables_of old; standing = standing } ≡ schema)
      (distinct : HasDistinctNames schema) (removed : new.entries ≡ shift_remove_entry (same_name name) old.entries) where
    left : tables_of new ≡ filter other (tables_of old)
    left =
        ap seconds removed
        ∙ tables_left old.entries (recursion_from_All IsKeyed old.entries sound.keyed) (subst HasDistinctNames (sym view) distinct)

    -- Without a table, each is still stored under its own name, ..
    pub sound_without : IsSound new
    sound_without = record {
      keyed = subst (All IsKeyed) (sym removed)
          (All-from_recursion IsKeyed _ (keyed_left old.entries (recursion_from_All IsKeyed old.entries sound.keyed)));
      distinct = ap (λ ts. has_duplicate_indexes (indexes_of ts)) left ∙ distinct_in_fewer other (tables_of old) sound.distinct;
      in_place = subst (All HasOwnIndexes) (sym left) (All-filter other HasOwnIndexes (tables_of old) sound.in_place);
    }

    -- .. and the others are in order.
    pub view_without : record { tables = tables_of new; standing = standing } ≡ without_table name schema
    view_without = ap (λ ts. record { tables = ts; standing = standing }) left ∙ ap (without_table name) view
