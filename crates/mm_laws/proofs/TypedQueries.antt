-- Standing queries add numbers only to integer columns: a new one whose types were tested, and all of them while the columns of their
-- tables stay.
use Rattle.std.proofs.Common.{◌≡◌, ℕ, zero, suc, Bool, false, List, [], ◌∷◌, Option, Some, None, is_none, map, slice_get, refl, sym, ap, ◌∙◌}
use Rattle.std.specs.List.{All, AllByRecursion, list_any}
use Rattle.std.specs.Option.{option_and_then, option_map, option_map_or, unwrap_or}
use Rattle.std.proofs.lemmas.Bool.{false≢true, or_parts}
use Rattle.std.proofs.lemmas.List.Elements.{All-cons, All-nil, All-weaker}
use Rattle.mm_schema.specs.Name.{same_name}
use Rattle.mm_schema.specs.Columns.{column_named, same_type}
use Rattle.mm_schema.specs.Schema.{Schema, columns_named, lacks_table, table_named}
use Rattle.mm_schema.specs.declared.column.Column.{Column}
use Rattle.mm_schema.specs.declared.table.Table.{Table}
use Rattle.mm_value.specs.declared.col_type.ColType.{ColType}
use Rattle.mm_value.specs.declared.col_type.ColType.TheVariants as type
use Rattle.mm_query.specs.Placing.{lacks_column, mapped_atom, mapped_operand, mismatches, placed, shifts_text, type_named}
use Rattle.mm_query.specs.Resolving.{column_of, field_lacks_column, field_type, lacks_alias, placed_field, some_side, table_of}
use Rattle.mm_query.specs.declared.atom.Atom.{Atom}
use Rattle.mm_query.specs.declared.atom.Operand.{Operand}
use Rattle.mm_query.specs.declared.atom.Operand.TheVariants as operand
use Rattle.mm_query.specs.declared.bound_query.BoundQuery.{BoundQuery}
use Rattle.mm_query.specs.declared.bound_query.FieldPlace.{FieldPlace}
use Rattle.mm_query.specs.Fields.{FieldName}
use Rattle.mm_query.specs.declared.query.FromItem.{FromItem}
use Rattle.mm_query.proofs.FoundTargets.{found_among, none_among}
use Rattle.mm_laws.specs.Typing.{ShiftsNumber, ShiftsNumbers, column_at, type_at}
use Rattle.mm_laws.proofs.StandingQueries.{IsThere}
use Rattle.mm_laws.proofs.TypedPlaces.{IsFound, column_placed, columns_in, found_placed, no_text}

-- ---- over another catalog

module _ (old new : Schema) where
  -- A field keeps its column, if its tables stay, ..
  pub column_stays : (from : List FromItem) → AllByRecursion (IsThere old new) from → (place column : ℕ)
      → column_at new from (record { place = place; column = column }) ≡ column_at old from (record { place = place; column = column })
  column_stays [] there place column = refl
  column_stays (item ∷ items) there zero column = ap (λ (cs : List Column). slice_get cs column) there.0.1
  column_stays (item ∷ items) there (suc place) column = column_stays items there.1 place column

  operand_stays : (from : List FromItem) → AllByRecursion (IsThere old new) from → (o : Operand FieldPlace) → ShiftsNumber old from o
      → ShiftsNumber new from o
  operand_stays from there (operand.Literal value) shifts = tt
  operand_stays from there (operand.Column field) shifts = tt
  operand_stays from there (operand.Shifted field by) shifts =
      ap (option_map (λ (c : Column). c.col_type)) (column_stays from there field.place field.column) ∙ shifts

  -- .. so a query still adds numbers only to integer columns.
  pub query_stays : (query : BoundQuery) → AllByRecursion (IsThere old new) query.from → ShiftsNumbers old query → ShiftsNumbers new query
  query_stays query there shifts =
      All-weaker (λ (atom : Atom FieldPlace). ShiftsNumber old query.from atom.right) _ (λ atom. operand_stays query.from there atom.right) query.atoms shifts

-- ---- a query whose types were tested

-- a field names a column of a table, and its places are those of the column
pub record IsResolved (schema : Schema) (from : List FromItem) (field : FieldName) : Type 0 where
  pub table : Table
  pub column : Column
  pub of : table_of schema from field.alias ≡ Some table
  pub named : column_named field.column table.definition.columns ≡ Some column
  pub by_place : column_at schema from (placed_field schema from field) ≡ Some column

module _ (schema : Schema) (from : List FromItem) (tables : list_any (λ (item : FromItem). lacks_table item.table schema) from ≡ false) where
  module _ (field : FieldName) (has : field_lacks_column schema from field ≡ false) where
    abbrev is_item : FromItem → Bool
    is_item item = same_name field.alias item.alias

    in_table : (item : IsFound FromItem is_item from) (table : Table) → table_named item.element.table schema ≡ Some table → IsResolved schema from field
    in_table item table named =
        let of : table_of schema from field.alias ≡ Some table = ap (option_and_then (λ (x : FromItem). table_named x.table schema)) item.found ∙ named in
        let columns = table.definition.columns in
        let here : lacks_column columns field.column ≡ false =
        sym (ap (λ (t : Option Table). option_map_or (λ (u : Table). lacks_column u.definition.columns field.column) t false) of) ∙ has in
        let is = column_placed columns field.column here in
        let place_is : (placed_field schema from field).place ≡ item.place = ap (λ (o : Option ℕ). unwrap_or o 0) item.at in
        let column_is : (placed_field schema from field).column ≡ placed columns field.column =
        ap (λ (t : Option Table). option_map_or (λ (u : Table). placed u.definition.columns field.column) t 0) of in
        record {
          table = table;
          column = is.column;
          of = of;
          named = is.named;
          by_place = (λ i. option_and_then (λ (x : FromItem). slice_get (columns_named x.table schema) (column_is i)) (slice_get from (place_is i)))
              ∙ (ap (option_and_then (λ (x : FromItem). slice_get (columns_named x.table schema) (placed columns field.column))) item.there
              ∙ (ap (λ (t : Option Table). slice_get (columns_in t) (placed columns field.column)) named ∙ is.there));
        }

    -- A field is resolved, if neither its alias nor its column is missing.
    pub field_resolved : lacks_alias from field ≡ false → IsResolved schema from field
    field_resolved alias = by (table_named item.element.table schema) refl
      where
        item : IsFound FromItem is_item from
        item = found_placed is_item from alias

        by : (table : Option Table) → table_named item.element.table schema ≡ table → IsResolved schema from field
        by None missing =
            absurd (false≢true (sym (none_among (λ (x : FromItem). lacks_table x.table schema) from item.element
            (found_among is_item from item.element item.found).0 tables) ∙ ap is_none missing))
        by (Some table) named = in_table item table named

  shifts_number : (field : FieldName) → lacks_alias from field ≡ false → field_lacks_column schema from field ≡ false
      → option_map_or (same_type type.Text) (field_type schema from field) false ≡ false
      → type_at schema from (placed_field schema from field) ≡ Some type.Int
  shifts_number field alias has whole =
      let is = field_resolved field has alias in
      let type_is : field_type schema from field ≡ Some is.column.col_type =
      ap (option_and_then (λ (t : Table). type_named t.definition.columns field.column)) is.of ∙ ap (option_map (λ (c : Column). c.col_type)) is.named in
      ap (option_map (λ (c : Column). c.col_type)) is.by_place
      ∙ ap Some (no_text is.column.col_type (sym (ap (λ (t : Option ColType). option_map_or (same_type type.Text) t false) type_is) ∙ whole))

  operand_shifts : (o : Operand FieldName) → option_map_or (lacks_alias from) (column_of o) false ≡ false
      → option_map_or (field_lacks_column schema from) (column_of o) false ≡ false → shifts_text (field_type schema from) o ≡ false
      → ShiftsNumber schema from (mapped_operand (placed_field schema from) o)
  operand_shifts (operand.Literal value) alias has whole = tt
  operand_shifts (operand.Column field) alias has whole = tt
  operand_shifts (operand.Shifted field by) alias has whole = shifts_number field alias has whole

  -- The atoms of such a query add numbers only to integer columns.
  pub atoms_shift : (atoms : List (Atom FieldName)) → list_any (some_side (lacks_alias from)) atoms ≡ false
      → list_any (some_side (field_lacks_column schema from)) atoms ≡ false
      → list_any (λ (a : Atom FieldName). mismatches (field_type schema from) a.left a.right) atoms ≡ false
      → All (λ (atom : Atom FieldPlace). ShiftsNumber schema from atom.right) (map (mapped_atom (placed_field schema from)) atoms)
  atoms_shift [] alias has whole = All-nil _
  atoms_shift (t ∷ ts) alias has whole =
      let a = or_parts (some_side (lacks_alias from) t) (list_any (some_side (lacks_alias from)) ts) alias in
      let h = or_parts (some_side (field_lacks_column schema from) t) (list_any (some_side (field_lacks_column schema from)) ts) has in
      let w = or_parts (mismatches (field_type schema from) t.left t.right)
      (list_any (λ (a : Atom FieldName). mismatches (field_type schema from) a.left a.right) ts) whole in
      All-cons (λ (atom : Atom FieldPlace). ShiftsNumber schema from atom.right) (mapped_atom (placed_field schema from) t) _
      (operand_shifts t.right (or_parts (lacks_alias from t.left) _ a.0).1 (or_parts (field_lacks_column schema from t.left) _ h.0).1 (or_parts _ _ w.0).1)
      (atoms_shift ts a.1 h.1 w.1)
