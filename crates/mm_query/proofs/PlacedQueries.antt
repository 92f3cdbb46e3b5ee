-- Everything that a query without refusals names exists.
use Rattle.std.proofs.Common.{◌≡◌, ℕ, zero, suc, ◌-◌, ◌<◌, Bool, true, false, cond, ◌==◌, List, [], ◌∷◌, Option, Some, None, find, is_none, length, map}
use Rattle.std.proofs.Common.{nat_lt, inl, inr, refl, sym, ap, ◌∙◌, subst, arith}
use Rattle.std.specs.List.{All, AllByRecursion, list_any}
use Rattle.std.specs.Option.{option_and_then, option_map_or, unwrap_or}
use Rattle.std.proofs.lemmas.Bool.{false≢true, ltb-false, or_parts}
use Rattle.std.proofs.lemmas.List.{length-map}
use Rattle.std.proofs.lemmas.Option.{none-some, slice_get_cases}
use Rattle.std.proofs.lemmas.List.Elements.{All-cons, All-nil}
use Rattle.mm_schema.proofs.Places.{find_at_place, within_from_some}
use Rattle.mm_schema.specs.Name.{same_name}
use Rattle.mm_schema.specs.Refused.{Condition, first_refusal}
use Rattle.mm_schema.specs.Schema.{Schema, columns_named, lacks_table, table_named}
use Rattle.mm_schema.specs.declared.table.Table.{Table}
use Rattle.mm_query.specs.Placing.{lacks_column, mapped_atom, mapped_operand, placed}
use Rattle.mm_query.specs.Resolving.{IsAtomWithin, IsFieldWithin, IsQueryWithin, alias_place, column_of, field_lacks_column, lacks_alias, lacks_position}
use Rattle.mm_query.specs.Resolving.{placed_field, placed_query, query_conditions, some_field, some_side, table_of, width_at}
use Rattle.mm_query.specs.declared.atom.Atom.{Atom}
use Rattle.mm_query.specs.declared.atom.Operand.{Operand}
use Rattle.mm_query.specs.declared.atom.Operand.TheVariants.{Literal, Column, Shifted}
use Rattle.mm_query.specs.declared.bound_query.FieldPlace.{FieldPlace}
use Rattle.mm_query.specs.Fields.{FieldName}
use Rattle.mm_query.specs.declared.query.FromItem.{FromItem}
use Rattle.mm_query.specs.declared.query.Query.{Query}
use Rattle.mm_query.proofs.FoundTargets.{found_among, none_among}
use Rattle.mm_query.proofs.Within.{placed_within}

-- If nothing is refused, no condition holds.
pub none_hold : (cs : List Condition) → first_refusal cs ≡ None → AllByRecursion (λ c. c.holds ≡ false) cs
none_hold [] e = tt
none_hold (c ∷ cs) e = by c.holds refl e (none_hold cs)
  where
    by : (b : Bool) → c.holds ≡ b → cond b (Some c.refusal) (first_refusal cs) ≡ None
        → (first_refusal cs ≡ None → AllByRecursion (λ c. c.holds ≡ false) cs) → AllByRecursion (λ c. c.holds ≡ false) (c ∷ cs)
    by true is e rest = cc
    by false is e rest = (is, rest e)

module _ (schema : Schema) (from : List FromItem) (field : FieldName) where
  abbrev is_item : FromItem → Bool
  is_item item = same_name field.alias item.alias

  found_and_named : (i : ℕ) (item : FromItem) (table : Table) → alias_place from field.alias ≡ Some i → find is_item from ≡ Some item
      → table_named item.table schema ≡ Some table → field_lacks_column schema from field ≡ false → IsFieldWithin schema from (placed_field schema from field)
  found_and_named i item table at found named there =
      let columns = table.definition.columns in
      let of : table_of schema from field.alias ≡ Some table = ap (option_and_then (λ (item : FromItem). table_named item.table schema)) found ∙ named in
      let here : lacks_column columns field.column ≡ false =
      sym (ap (λ (t : Option Table). option_map_or (λ (u : Table). lacks_column u.definition.columns field.column) t false) of) ∙ there in
      let column_is : (placed_field schema from field).column ≡ placed columns field.column =
      ap (λ (t : Option Table). option_map_or (λ (u : Table). placed u.definition.columns field.column) t 0) of in
      let wide : width_at schema from (placed_field schema from field).place ≡ length columns =
      ap (λ (o : Option ℕ). width_at schema from (unwrap_or o 0)) at
      ∙ (ap (λ (o : Option FromItem). option_map_or (λ (x : FromItem). length (columns_named x.table schema)) o 0)
      (sym (find_at_place is_item from i at) ∙ found)
      ∙ ap (λ (t : Option Table). length (option_map_or (λ (u : Table). u.definition.columns) t [])) named) in
      omega (arith, column_is, wide, placed_within columns field.column here)

  module _ (tables : list_any (λ (item : FromItem). lacks_table item.table schema) from ≡ false) (column : field_lacks_column schema from field ≡ false) where
    named_at : (i : ℕ) (item : FromItem) (t : Option Table) → alias_place from field.alias ≡ Some i → find is_item from ≡ Some item
        → table_named item.table schema ≡ t → IsFieldWithin schema from (placed_field schema from field)
    named_at i item None at found missing =
        absurd (false≢true (sym (none_among (λ (x : FromItem). lacks_table x.table schema) from item (found_among is_item from item found).0 tables)
        ∙ ap is_none missing))
    named_at i item (Some table) at found named = found_and_named i item table at found named column

    found_at : (i : ℕ) (o : Option FromItem) → alias_place from field.alias ≡ Some i → find is_item from ≡ o
        → IsFieldWithin schema from (placed_field schema from field)
    found_at i None at none =
        elim (slice_get_cases from i).1 [
          | inl there ↦ absurd (none-some there.0 (sym none ∙ (find_at_place is_item from i at ∙ there.2)))
          | inr past ↦ (let inside = within_from_some is_item from i at in let behind = past.0 in absurd (omega (arith, inside, behind)))
        ]
    found_at i (Some item) at found = named_at i item (table_named item.table schema) at found refl

    placed_at : (o : Option ℕ) → alias_place from field.alias ≡ o → is_none o ≡ false → IsFieldWithin schema from (placed_field schema from field)
    placed_at None at there = cc
    placed_at (Some i) at there = found_at i (find is_item from) at refl

    -- A field whose alias, table and column exist is within its table.
    pub field_within : lacks_alias from field ≡ false → IsFieldWithin schema from (placed_field schema from field)
    field_within there = placed_at (alias_place from field.alias) refl there

module _ (schema : Schema) (from : List FromItem) (tables : list_any (λ (item : FromItem). lacks_table item.table schema) from ≡ false) where
  abbrev place_of : FieldName → FieldPlace
  place_of = placed_field schema from

  fields_within : (fields : List FieldName) → list_any (field_lacks_column schema from) fields ≡ false → list_any (lacks_alias from) fields ≡ false
      → All (IsFieldWithin schema from) (map place_of fields)
  fields_within [] columns aliases = All-nil _
  fields_within (f ∷ fs) columns aliases =
      let c = or_parts (field_lacks_column schema from f) (list_any (field_lacks_column schema from) fs) columns in
      let a = or_parts (lacks_alias from f) (list_any (lacks_alias from) fs) aliases in
      All-cons (IsFieldWithin schema from) _ _ (field_within schema from f tables c.0 a.0) (fields_within fs c.1 a.1)

  operand_within : (operand : Operand FieldName) → option_map_or (field_lacks_column schema from) (column_of operand) false ≡ false
      → option_map_or (lacks_alias from) (column_of operand) false ≡ false
      → (field : FieldPlace) → column_of (mapped_operand place_of operand) ≡ Some field → IsFieldWithin schema from field
  operand_within (Literal value) c a field is = cc
  operand_within (Column f) c a field is = let same : place_of f ≡ field = cc in subst (IsFieldWithin schema from) same (field_within schema from f tables c a)
  operand_within (Shifted f by) c a field is = let same : place_of f
      ≡ field = cc in subst (IsFieldWithin schema from) same (field_within schema from f tables c a)

  atoms_within : (atoms : List (Atom FieldName)) → list_any (some_side (field_lacks_column schema from)) atoms ≡ false
      → list_any (some_side (lacks_alias from)) atoms ≡ false → All (IsAtomWithin schema from) (map (mapped_atom place_of) atoms)
  atoms_within [] columns aliases = All-nil _
  atoms_within (t ∷ ts) columns aliases =
      let c = or_parts (some_side (field_lacks_column schema from) t) (list_any (some_side (field_lacks_column schema from)) ts) columns in
      let a = or_parts (some_side (lacks_alias from) t) (list_any (some_side (lacks_alias from)) ts) aliases in
      let c' = or_parts (field_lacks_column schema from t.left) (option_map_or (field_lacks_column schema from) (column_of t.right) false) c.0 in
      let a' = or_parts (lacks_alias from t.left) (option_map_or (lacks_alias from) (column_of t.right) false) a.0 in
      All-cons (IsAtomWithin schema from) _ _ (field_within schema from t.left tables c'.0 a'.0, operand_within t.right c'.1 a'.1) (atoms_within ts c.1 a.1)

positions_within : (fields : List FieldName) (n : ℕ) (positions : List ℕ) → n ≡ length fields → list_any (lacks_position fields) positions ≡ false
    → All (λ column. column < n) (map (λ position. position - 1) positions)
positions_within fields n [] is there = All-nil _
positions_within fields n (p ∷ ps) is there =
    let parts = or_parts (lacks_position fields p) (list_any (lacks_position fields) ps) there in
    All-cons (λ column. column < n) _ _ (one p parts.0) (positions_within fields n ps is parts.1)
  where
    one : (q : ℕ) → lacks_position fields q ≡ false → q - 1 < n
    one zero e = cc
    one (suc q) e = let within = ltb-false (length fields) (suc q) (or_parts (suc q == 0) (nat_lt (length fields) (suc q)) e).1 in omega (arith, is, within)

-- Everything that a query without refusals names exists.
pub query_within : (schema : Schema) (query : Query) → first_refusal (query_conditions query schema) ≡ None
    → IsQueryWithin schema (placed_query schema query)
query_within schema query none =
    let hold = none_hold (query_conditions query schema) none in
    let columns = or_parts (some_field (field_lacks_column schema query.from) query) (list_any (lacks_position query.fields) query.order) hold.1.0 in
    let missing = or_parts (list_any (field_lacks_column schema query.from) query.fields)
    (list_any (some_side (field_lacks_column schema query.from)) query.atoms) columns.0 in
    let aliases = or_parts (list_any (lacks_alias query.from) query.fields) (list_any (some_side (lacks_alias query.from)) query.atoms) hold.1.1.1.0 in
    record {
      tables = hold.0;
      fields = fields_within schema query.from hold.0 query.fields missing.0 aliases.0;
      atoms = atoms_within schema query.from hold.0 query.atoms missing.1 aliases.1;
      order = positions_within query.fields (length (map (placed_field schema query.from) query.fields)) query.order
          (length-map query.fields (placed_field schema query.from)) columns.1;
    }
