-- A query that is bound gets its names back.
use Rattle.std.proofs.Common.{◌≡◌, ◌+◌, ◌-◌, ℕ, zero, suc, Bool, true, false, List, [], ◌∷◌, Option, Some, None, find, is_none, map, position, slice_get}
use Rattle.std.proofs.Common.{inl, inr, refl, sym, ap, ◌∙◌, arith}
use Rattle.std.specs.List.{list_any}
use Rattle.std.specs.Option.{option_and_then, option_map_or, unwrap_or}
use Rattle.std.proofs.lemmas.Bool.{false≢true, or_parts}
use Rattle.std.proofs.lemmas.Option.{slice_get_cases}
use Rattle.mm_schema.specs.Name.{same_name}
use Rattle.mm_schema.specs.Refused.{first_refusal}
use Rattle.mm_schema.specs.Schema.{Schema, columns_named, lacks_table, table_named}
use Rattle.mm_schema.specs.declared.column.Column.{Column}
use Rattle.mm_schema.specs.declared.table.Table.{Table}
use Rattle.mm_schema.proofs.NameLemmas.{same_bytes}
use Rattle.mm_schema.proofs.Places.{find_at_place, within_from_some}
use Rattle.mm_query.specs.Fields.{FieldName}
use Rattle.mm_query.specs.Placing.{lacks_column, mapped_atom, mapped_operand, placed}
use Rattle.mm_query.specs.Resolving.{column_of, field_lacks_column, lacks_alias, lacks_position, placed_field, placed_query, query_conditions}
use Rattle.mm_query.specs.Resolving.{some_field, some_side, table_of}
use Rattle.mm_query.specs.declared.atom.Atom.{Atom}
use Rattle.mm_query.specs.declared.atom.Operand.{Operand}
use Rattle.mm_query.specs.declared.atom.Operand.TheVariants as operand
use Rattle.mm_query.specs.declared.bound_query.FieldPlace.{FieldPlace}
use Rattle.mm_query.specs.declared.query.FromItem.{FromItem}
use Rattle.mm_query.specs.declared.query.Query.{Query}
use Rattle.mm_query.proofs.FoundTargets.{found_among, none_among}
use Rattle.mm_query.proofs.PlacedQueries.{none_hold}
use Rattle.mm_lang.specs.QueryText.{column_at, named_field, named_query}

-- An element at a place that is found.
record IsFound {X : Type 0} (p : X → Bool) (xs : List X) : Type 0 where
  x : X
  at : slice_get xs (unwrap_or (position p xs) 0) ≡ Some x
  first : find p xs ≡ Some x
  passes : p x ≡ true

found_at : {X : Type 0} (p : X → Bool) (xs : List X) → is_none (position p xs) ≡ false → IsFound p xs
found_at {X} p xs there = by (position p xs) refl there
  where
    at_place : (i : ℕ) → position p xs ≡ Some i → IsFound p xs
    at_place i is = elim (slice_get_cases xs i).1 [
      | inl here ↦
          let first : find p xs ≡ Some here.0 = find_at_place p xs i is ∙ here.2 in
          record {
            x = here.0;
            at = ap (λ (o : Option ℕ). slice_get xs (unwrap_or o 0)) is ∙ here.2;
            first = first;
            passes = (found_among p xs here.0 first).1;
          }
      | inr past ↦ (let inside = within_from_some p xs i is in let behind = past.0 in absurd (omega (arith, inside, behind)))
    ]

    by : (o : Option ℕ) → position p xs ≡ o → is_none o ≡ false → IsFound p xs
    by None is none = absurd (false≢true (sym none))
    by (Some i) is some = at_place i is

some_there : {X : Type 0} (o : Option X) → is_none o ≡ false → (x : X) × (o ≡ Some x)
some_there None none = absurd (false≢true (sym none))
some_there (Some x) some = (x, refl)

module _ (schema : Schema) (from : List FromItem) (tables : list_any (λ (item : FromItem). lacks_table item.table schema) from ≡ false) where
  abbrev place_of : FieldName → FieldPlace
  place_of = placed_field schema from

  abbrev name_of_field : FieldPlace → FieldName
  name_of_field = named_field schema from

  module _ (field : FieldName) (column : field_lacks_column schema from field ≡ false) (alias : lacks_alias from field ≡ false) where
    abbrev is_item : FromItem → Bool
    is_item item = same_name field.alias item.alias

    item_found : IsFound is_item from
    item_found = found_at is_item from alias

    table_found : (t : Table) × (table_named item_found.x.table schema ≡ Some t)
    table_found =
        some_there (table_named item_found.x.table schema)
        (none_among (λ (x : FromItem). lacks_table x.table schema) from item_found.x (found_among is_item from item_found.x item_found.first).0 tables)

    abbrev columns : List Column
    columns = table_found.0.definition.columns

    table_is : table_of schema from field.alias ≡ Some table_found.0
    table_is = ap (option_and_then (λ (item : FromItem). table_named item.table schema)) item_found.first ∙ table_found.1

    column_found : IsFound (λ (c : Column). same_name field.column c.name) columns
    column_found =
        found_at (λ (c : Column). same_name field.column c.name) columns
        (sym (ap (λ (t : Option Table). option_map_or (λ (u : Table). lacks_column u.definition.columns field.column) t false) table_is) ∙ column)

    column_is : column_at schema from (place_of field) ≡ Some column_found.x
    column_is =
        let its_columns : columns_named item_found.x.table schema ≡ columns =
        ap (λ (t : Option Table). option_map_or (λ (u : Table). u.definition.columns) t []) table_found.1 in
        let its_place : (place_of field).column ≡ placed columns field.column =
        ap (λ (t : Option Table). option_map_or (λ (u : Table). placed u.definition.columns field.column) t 0) table_is in
        ap (λ (o : Option FromItem). option_and_then (λ (item : FromItem). slice_get (columns_named item.table schema) (place_of field).column) o) item_found.at
        ∙ (λ i. slice_get (its_columns i) (its_place i)) ∙ column_found.at

    -- A field whose alias, table and column exist gets its names back.
    field_named : name_of_field (place_of field) ≡ field
    field_named =
        let alias_is : (name_of_field (place_of field)).alias ≡ field.alias =
        ap (λ (o : Option FromItem). option_map_or (λ (item : FromItem). item.alias) o []) item_found.at
        ∙ sym (same_bytes field.alias item_found.x.alias item_found.passes) in
        let name_is : (name_of_field (place_of field)).column ≡ field.column =
        ap (λ (o : Option Column). option_map_or (λ (c : Column). c.name) o []) column_is
        ∙ sym (same_bytes field.column column_found.x.name column_found.passes) in
        λ i. record { alias = alias_is i; column = name_is i }

  fields_named : (fields : List FieldName) → list_any (field_lacks_column schema from) fields ≡ false → list_any (lacks_alias from) fields ≡ false
      → map name_of_field (map place_of fields) ≡ fields
  fields_named [] present aliases = refl
  fields_named (f ∷ fs) present aliases =
      let c = or_parts (field_lacks_column schema from f) (list_any (field_lacks_column schema from) fs) present in
      let a = or_parts (lacks_alias from f) (list_any (lacks_alias from) fs) aliases in
      λ i. field_named f c.0 a.0 i ∷ fields_named fs c.1 a.1 i

  operand_named : (o : Operand FieldName) → option_map_or (field_lacks_column schema from) (column_of o) false ≡ false
      → option_map_or (lacks_alias from) (column_of o) false ≡ false → mapped_operand name_of_field (mapped_operand place_of o) ≡ o
  operand_named (operand.Literal value) c a = refl
  operand_named (operand.Column f) c a = ap operand.Column (field_named f c a)
  operand_named (operand.Shifted f by) c a = ap (λ (g : FieldName). operand.Shifted g by) (field_named f c a)

  tests_named : (tests : List (Atom FieldName)) → list_any (some_side (field_lacks_column schema from)) tests ≡ false
      → list_any (some_side (lacks_alias from)) tests ≡ false → map (mapped_atom name_of_field) (map (mapped_atom place_of) tests) ≡ tests
  tests_named [] present aliases = refl
  tests_named (t ∷ ts) present aliases =
      let c = or_parts (some_side (field_lacks_column schema from) t) (list_any (some_side (field_lacks_column schema from)) ts) present in
      let a = or_parts (some_side (lacks_alias from) t) (list_any (some_side (lacks_alias from)) ts) aliases in
      let c' = or_parts (field_lacks_column schema from t.left) (option_map_or (field_lacks_column schema from) (column_of t.right) false) c.0 in
      let a' = or_parts (lacks_alias from t.left) (option_map_or (lacks_alias from) (column_of t.right) false) a.0 in
      λ i. record { left = field_named t.left c'.0 a'.0 i; comparison = t.comparison; right = operand_named t.right c'.1 a'.1 i } ∷ tests_named ts c.1 a.1 i

positions_named : (fields : List FieldName) (positions : List ℕ) → list_any (lacks_position fields) positions ≡ false
    → map (λ column. column + 1) (map (λ position. position - 1) positions) ≡ positions
positions_named fields [] there = refl
positions_named fields (p ∷ ps) there =
    let parts = or_parts (lacks_position fields p) (list_any (lacks_position fields) ps) there in
    λ i. one p parts.0 i ∷ positions_named fields ps parts.1 i
  where
    one : (q : ℕ) → lacks_position fields q ≡ false → (q - 1) + 1 ≡ q
    one zero e = absurd (false≢true (sym e))
    one (suc q) e = omega arith

-- A query that nothing refuses gets its names back.
pub query_named_back : (schema : Schema) (query : Query) → first_refusal (query_conditions query schema) ≡ None
    → named_query schema (placed_query schema query) ≡ query
query_named_back schema query none =
    let hold = none_hold (query_conditions query schema) none in
    let columns = or_parts (some_field (field_lacks_column schema query.from) query) (list_any (lacks_position query.fields) query.order) hold.1.0 in
    let missing = or_parts (list_any (field_lacks_column schema query.from) query.fields)
    (list_any (some_side (field_lacks_column schema query.from)) query.atoms) columns.0 in
    let aliases = or_parts (list_any (lacks_alias query.from) query.fields) (list_any (some_side (lacks_alias query.from)) query.atoms) hold.1.1.1.0 in
    λ i. record {
      distinct = query.distinct;
      fields = fields_named schema query.from hold.0 query.fields missing.0 aliases.0 i;
      from = query.from;
      atoms = tests_named schema query.from hold.0 query.atoms missing.1 aliases.1 i;
      order = positions_named query.fields query.order columns.1 i;
    }
