-- Over rows that have the types of their columns, the rows of a standing query have the types of its fields.
use Rattle.std.proofs.Common.{◌≡◌, ℕ, zero, suc, pos, List, [], ◌∷◌, Option, Some, None, filter, get_or, map, slice_get, refl, sym, subst, ◌∙◌}
use Rattle.std.specs.List.{All, flat_map}
use Rattle.std.specs.Option.{option_and_then, option_map, unwrap_or}
use Rattle.std.proofs.lemmas.List.Elements.{All-append, All-cons, All-filter, All-head, All-map, All-nil, All-tail, All-weaker}
use Rattle.mm_partition.specs.Types.{HasTypes}
use Rattle.mm_value.specs.Types.{type_of}
use Rattle.mm_value.specs.declared.col_type.ColType.{ColType}
use Rattle.mm_value.specs.declared.values.Value.TheVariants.{Int}
use Rattle.mm_schema.specs.Instance.{Instance, rows_named}
use Rattle.mm_schema.specs.Schema.{Schema, columns_named}
use Rattle.mm_schema.specs.declared.column.Column.{Column}
use Rattle.mm_schema.proofs.Duplicates.{Row}
use Rattle.mm_query.specs.Atoms.{value_in}
use Rattle.mm_query.specs.Queries.{combinations, fits, projected, values_of}
use Rattle.mm_query.specs.State.{State}
use Rattle.mm_query.specs.declared.bound_query.FieldPlace.{FieldPlace}
use Rattle.mm_query.specs.declared.query.FromItem.{FromItem}
use Rattle.mm_laws.specs.Typing.{AreTyped, HasTypes as HasTypesOf, type_at}
use Rattle.mm_laws.proofs.TypedRows.{value_typed}
use Rattle.mm_laws.proofs.TypedTables.{named_typed}
use Rattle.mm_standing.specs.Queries.{GivesTyped, StandingQuery}
use Rattle.mm_txn.specs.Listed.{IsPlaced, rows_by_place}
use Rattle.mm_txn.proofs.Placed.{bag_by_place}

-- Equal lists have equal first elements and equal rests.
parts : {X : Type 0} (x y : X) (xs ys : List X) → x ∷ xs ≡ y ∷ ys → (x ≡ y) × (xs ≡ ys)
parts x y xs ys same = (cc, cc)

module _ (schema : Schema) where
  -- A combination has for each item a row that has the types of its table.
  abbrev AreRowsOf : List FromItem → List Row → Type 0
  AreRowsOf [] [] = Unit {0}
  AreRowsOf (item ∷ items) (row ∷ others) = HasTypesOf (columns_named item.table schema) row × AreRowsOf items others
  AreRowsOf [] (row ∷ others) = ⊥
  AreRowsOf (item ∷ items) [] = ⊥

  module _ (column : ℕ) (col_type : ColType) where
    in_row : (columns : List Column) (row : Row) → HasTypesOf columns row → (found : Option Column) → slice_get columns column ≡ found
        → option_map (λ (c : Column). c.col_type) found ≡ Some col_type → type_of (value_in column row) ≡ col_type
    in_row columns row has None there is = cc
    in_row columns row has (Some c) there is = let own : c.col_type ≡ col_type = cc in value_typed columns row column c has there ∙ own

    -- The value of a field has the type of its column.
    field_typed : (from : List FromItem) (combination : List Row) (place : ℕ) → AreRowsOf from combination
        → option_map (λ (c : Column). c.col_type)
        (option_and_then (λ (item : FromItem). slice_get (columns_named item.table schema) column) (slice_get from place)) ≡ Some col_type
        → type_of (unwrap_or (option_map (value_in column) (get_or (map Some combination) place None)) (Int (pos 0))) ≡ col_type
    field_typed [] combination place are is = cc
    field_typed (item ∷ items) [] place are is = absurd are
    field_typed (item ∷ items) (row ∷ others) zero are is = in_row (columns_named item.table schema) row are.0 _ refl is
    field_typed (item ∷ items) (row ∷ others) (suc place) are is = field_typed items others place are.1 is

  fields_typed : (from : List FromItem) (combination : List Row) → AreRowsOf from combination → (fields : List FieldPlace) (types : List ColType)
      → map Some types ≡ map (type_at schema from) fields → HasTypes types (values_of fields (map Some combination))
  fields_typed from combination are [] [] is = refl
  fields_typed from combination are [] (t ∷ ts) is = cc
  fields_typed from combination are (f ∷ fs) [] is = cc
  fields_typed from combination are (f ∷ fs) (t ∷ ts) is =
      let same = parts (Some t) (type_at schema from f) (map Some ts) (map (type_at schema from) fs) is in
      let first = field_typed f.column t from combination f.place are (sym same.0) in
      let rest = fields_typed from combination are fs ts same.1 in
      λ i. first i ∷ rest i

module _ (schema : Schema) (rows : Instance) (typed : AreTyped schema.tables rows) where
  abbrev lists : List FromItem → List (List Row)
  lists items = map (λ (item : FromItem). rows_named item.table schema.tables rows) items

  combined : (items : List FromItem) → All (AreRowsOf schema items) (combinations (lists items))
  combined [] = All-cons (AreRowsOf schema []) [] [] tt (All-nil _)
  combined (item ∷ items) = each (combined items) (rows_named item.table schema.tables rows) (named_typed item.table schema.tables rows typed)
    where
      each : All (AreRowsOf schema items) (combinations (lists items)) → (rs : List Row) → All (HasTypesOf (columns_named item.table schema)) rs
          → All (AreRowsOf schema (item ∷ items)) (flat_map (λ (row : Row). map (λ others. row ∷ others) (combinations (lists items))) rs)
      each later [] has = All-nil _
      each later (row ∷ rs) has =
          let columns = columns_named item.table schema in
          All-append (AreRowsOf schema (item ∷ items)) _ _
          (All-map (AreRowsOf schema (item ∷ items)) (λ others. row ∷ others) (combinations (lists items))
          (All-weaker (AreRowsOf schema items) (λ others. AreRowsOf schema (item ∷ items) (row ∷ others))
          (λ others are. (All-head (HasTypesOf columns) row rs has, are)) _ later))
          (each later rs (All-tail (HasTypesOf columns) row rs has))

  -- The rows of a standing query have the types of its fields.
  pub gives_typed : (standing : StandingQuery) → IsPlaced schema standing → GivesTyped (rows_by_place rows) standing
  gives_typed standing placed =
      let state : State = record { schema = schema; rows = rows; queries = []; saved = None } in
      let query = standing.query in
      subst (All (HasTypes standing.types)) (bag_by_place state standing placed)
      (All-map (HasTypes standing.types) (projected query) (filter (fits query) (combinations (lists query.from)))
      (All-weaker (AreRowsOf schema query.from) _
      (λ combination are. fields_typed schema query.from combination are query.fields standing.types placed.types) _
      (All-filter (fits query) (AreRowsOf schema query.from) _ (combined query.from))))
