-- The names of a query, resolved by the positions of its tables.
use Rattle.std.proofs.Common.{◌≡◌, ℕ, ◌+◌, ◌<◌, ◌≤◌, ◌||◌, ◌⊎◌, Bool, true, false, List, [], ◌∷◌, ◌++◌, Option, Some, None, find, get_or, inl, inr, is_none}
use Rattle.std.proofs.Common.{length, slice_get, take, refl, sym, ap, ◌∙◌, arith}
use Rattle.std.specs.List.{list_any}
use Rattle.std.specs.Option.{option_and_then, option_map, option_map_or, unwrap_or}
use Rattle.std.proofs.lemmas.Bool.{false≢true}
use Rattle.std.proofs.lemmas.List.Folds.{list_any_at, list_any_more}
use Rattle.std.proofs.lemmas.List.{map_more}
use Rattle.std.proofs.lemmas.Option.{get_or_from_slice_get, slice_get-map, slice_get_cases}
use Rattle.mm_schema.proofs.Places.{find_at_place, find_nowhere, no_table, place_within, table_at_place, within_from_some}
use Rattle.mm_schema.specs.Name.{same_name}
use Rattle.mm_schema.specs.Schema.{Schema, lacks_table, table_named, table_place}
use Rattle.mm_schema.specs.declared.table.Table.{Table}
use Rattle.mm_query.specs.Faults.{noted}
use Rattle.mm_query.specs.Placing.{lacks_column, placed, type_named}
use Rattle.mm_query.specs.Resolving.{alias_place, field_lacks_column, field_type, lacks_alias, placed_field, places_in, table_of}
use Rattle.mm_query.specs.declared.faults.Faults.{Faults}
use Rattle.mm_query.specs.Fields.{FieldName}
use Rattle.mm_query.specs.declared.query.FromItem.{FromItem}
use Rattle.mm_query.proofs.FoundTargets.{found_among, none_among}
use Rattle.mm_query.proofs.Noted.{noted_alias}

abbrev is_missing : Schema → FromItem → Bool
is_missing schema item = lacks_table item.table schema

abbrev place_in : Schema → FromItem → ℕ
place_in schema item = unwrap_or (table_place item.table schema) 0

-- ---- the tables of FROM

module _ (schema : Schema) (from : List FromItem) (i : ℕ) (item : FromItem) (inside : i < length from) (is : item ≡ get_or from i item) where
  -- An item whose table has no position is missing.
  pub missed_among : table_place item.table schema ≡ None → list_any (is_missing schema) from ≡ true
  missed_among nowhere = list_any_at (is_missing schema) from i item inside (ap (is_missing schema) (sym is) ∙ ap is_none (no_table item.table schema nowhere))

  -- An item whose table has a position follows those that exist, ..
  pub there_more : (place : ℕ) → table_place item.table schema ≡ Some place → list_any (is_missing schema) (take i from) ≡ false
      → list_any (is_missing schema) (take (i + 1) from) ≡ false
  there_more place at so_far =
      list_any_more (is_missing schema) from i item inside
      ∙ ((λ j. so_far j || is_missing schema (sym is j)) ∙ by (slice_get_cases schema.tables place).1)
    where
      by : ((x : Table) × (place < length schema.tables) × (slice_get schema.tables place ≡ Some x) × (get_or schema.tables place x ≡ x))
          ⊎ ((length schema.tables ≤ place) × (slice_get schema.tables place ≡ None)) → is_missing schema item ≡ false
      by (inl found) = ap is_none (table_at_place item.table schema place at ∙ found.2)
      by (inr past) = let inside = place_within item.table schema place at in let behind = past.0 in absurd (omega (arith, inside, behind))

  -- .. and its position follows theirs.
  pub places_more : (places : List ℕ) (place : ℕ) → table_place item.table schema ≡ Some place → places ≡ places_in schema (take i from)
      → places ++ place ∷ [] ≡ places_in schema (take (i + 1) from)
  places_more places place at so_far =
      (λ j. so_far j ++ unwrap_or (sym at j) 0 ∷ []) ∙ ((λ j. places_in schema (take i from) ++ place_in schema (is j) ∷ [])
      ∙ sym (map_more (place_in schema) from i item inside))

-- ---- fields

module _ (schema : Schema) (from : List FromItem) (field : FieldName) where
  abbrev is_item : FromItem → Bool
  is_item item = same_name field.alias item.alias

  -- The resolution of a field whose alias has no position.
  module _ (nowhere : alias_place from field.alias ≡ None) where
    no_table_of : table_of schema from field.alias ≡ None
    no_table_of = ap (option_and_then (λ (item : FromItem). table_named item.table schema)) (find_nowhere is_item from nowhere)

    pub nowhere_placed : record { place = 0; column = 0 } ≡ placed_field schema from field
    nowhere_placed i = record {
      place = unwrap_or (sym nowhere i) 0;
      column = option_map_or (λ (t : Table). placed t.definition.columns field.column) (sym no_table_of i) 0;
    }

    pub nowhere_type : None ≡ field_type schema from field
    nowhere_type = ap (option_and_then (λ (t : Table). type_named t.definition.columns field.column)) (sym no_table_of)

    pub nowhere_noted : (faults : Faults) → record faults { alias = true } ≡ noted (field_lacks_column schema from field) (lacks_alias from field) false faults
    nowhere_noted faults =
        sym (noted_alias faults)
        ∙ λ i. noted (option_map_or (λ (t : Table). lacks_column t.definition.columns field.column) (sym no_table_of i) false) (is_none (sym nowhere i)) false
        faults

  module _ (tables : List ℕ) (there : list_any (is_missing schema) from ≡ false) (places : tables ≡ places_in schema from)
      (i : ℕ) (at : alias_place from field.alias ≡ Some i) where
    item_at : (item : FromItem) × (slice_get from i ≡ Some item)
    item_at = elim (slice_get_cases from i).1 [
      | inl found ↦ (found.0, found.2)
      | inr past ↦ (let inside = within_from_some is_item from i at in let behind = past.0 in absurd (omega (arith, inside, behind)))
    ]

    found : find is_item from ≡ Some item_at.0
    found = find_at_place is_item from i at ∙ item_at.1

    place_at : (place : ℕ) × (table_place item_at.0.table schema ≡ Some place)
    place_at = by (table_place item_at.0.table schema) refl
      where
        by : (o : Option ℕ) → table_place item_at.0.table schema ≡ o → (place : ℕ) × (table_place item_at.0.table schema ≡ Some place)
        by None nowhere =
            absurd (false≢true (sym (none_among (is_missing schema) from item_at.0 (found_among is_item from item_at.0 found).0 there)
            ∙ ap is_none (no_table item_at.0.table schema nowhere)))
        by (Some place) is = (place, is)

    read_at : get_or tables i 0 ≡ place_at.0
    read_at =
        get_or_from_slice_get tables i (place_in schema item_at.0) 0
        (ap (λ l. slice_get l i) places ∙ (slice_get-map (place_in schema) from i ∙ ap (option_map (place_in schema)) item_at.1))
        ∙ ap (λ o. unwrap_or o 0) place_at.1

    -- An alias that exists has a position among the tables of the catalog, ..
    pub table_within : get_or tables i 0 < length schema.tables
    table_within = let within = place_within item_at.0.table schema place_at.0 place_at.1 in let same = read_at in omega (arith, within, same)

    module _ (table : Table) (is : slice_get schema.tables (get_or tables i 0) ≡ Some table) where
      of : table_of schema from field.alias ≡ Some table
      of =
          ap (option_and_then (λ (item : FromItem). table_named item.table schema)) found
          ∙ (table_at_place item_at.0.table schema place_at.0 place_at.1 ∙ (ap (slice_get schema.tables) (sym read_at) ∙ is))

      -- .. and the field resolves as its column does in the table there.
      pub placed_at : record { place = i; column = placed table.definition.columns field.column } ≡ placed_field schema from field
      placed_at = sym (λ j. record {
        place = unwrap_or (at j) 0;
        column = option_map_or (λ (t : Table). placed t.definition.columns field.column) (of j) 0;
      })

      pub type_at : type_named table.definition.columns field.column ≡ field_type schema from field
      type_at = sym (ap (option_and_then (λ (t : Table). type_named t.definition.columns field.column)) of)

      pub noted_at : (faults : Faults) → noted (lacks_column table.definition.columns field.column) false false faults
          ≡ noted (field_lacks_column schema from field) (lacks_alias from field) false faults
      noted_at faults =
          sym (λ j. noted (option_map_or (λ (t : Table). lacks_column t.definition.columns field.column) (of j) false) (is_none (at j)) false faults)
