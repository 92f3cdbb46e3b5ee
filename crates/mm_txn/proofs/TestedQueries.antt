-- Standing queries add numbers only to numbers, in the rows before a change and in those after it.
use Rattle.std.proofs.Common.{◌≡◌, ℕ, zero, suc, false, List, [], ◌∷◌, Option, Some, None, get_or, length, map, slice_get, refl, sym, ap, subst, ◌<◌, ◌∙◌}
use Rattle.std.proofs.Common.{arith}
use Rattle.std.specs.List.{All, list_any}
use Rattle.std.specs.Option.{option_and_then, option_map, option_map_or, unwrap_or}
use Rattle.std.proofs.lemmas.Bool.{or_parts}
use Rattle.std.proofs.lemmas.List.{get_or-map, length-map}
use Rattle.mm_value.specs.declared.col_type.ColType.TheVariants as type
use Rattle.mm_value.specs.declared.values.Value.{Value}
use Rattle.mm_schema.specs.Instance.{Instance, rows_named}
use Rattle.mm_schema.specs.Schema.{Schema, columns_named, lacks_table, table_place}
use Rattle.mm_schema.specs.declared.column.Column.{Column}
use Rattle.mm_query.specs.Atoms.{value_in}
use Rattle.mm_query.specs.declared.atom.Operand.{Operand}
use Rattle.mm_query.specs.declared.atom.Operand.TheVariants as operand
use Rattle.mm_query.specs.declared.bound_query.FieldPlace.{FieldPlace}
use Rattle.mm_query.specs.declared.query.FromItem.{FromItem}
use Rattle.mm_query.specs.Resolving.{places_in}
use Rattle.mm_query.specs.Additions.{AddsToNumber, AddsToNumbers, is_text}
use Rattle.mm_laws.specs.Typing.{AreTyped, ShiftsNumber, ShiftsNumbers, type_at}
use Rattle.mm_laws.proofs.TypedNumbers.{adds_to_numbers}
use Rattle.mm_delta.specs.declared.edited.TableChange.{TableChange}
use Rattle.mm_delta.specs.Edited.{after_at, before_at}
use Rattle.mm_standing.specs.Queries.{GivesTyped, RowsByPlace, StandingQuery}
use Rattle.mm_standing.specs.Reads.{AreTypeTested}
use Rattle.mm_store.specs.Tables.{Tables}
use Rattle.mm_plan.specs.Kept.{instance_of}
use Rattle.mm_txn.specs.PlacedEdits.{placed_change, rows_edited}
use Rattle.mm_txn.specs.Listed.{IsPlaced, IsTested, queries_of, rows_by_place}
use Rattle.mm_txn.proofs.ListedRows.{after_is, before_is}
use Rattle.mm_txn.proofs.Placed.{rows_by_name}
use Rattle.mm_txn.proofs.TypedBags.{gives_typed}

-- ---- for the lists

-- A test of the rows by their places is a test of a store and the edits of its tables.
pub type_tested : (store : Tables) (changes : List TableChange) (queries : List StandingQuery)
    → All (IsTested (rows_by_place (instance_of store.tables)) (rows_edited store (map placed_change changes))) queries
    → AreTypeTested store changes queries
type_tested store changes queries tested = λ k d within. record {
  whole = (tested k d within).whole;
  before = subst (λ (r : RowsByPlace). AddsToNumbers (get_or queries k d).query (λ j. r (get_or (get_or queries k d).tables j 0)))
      (sym (before_is store)) (tested k d within).before;
  after = subst (λ (r : RowsByPlace). AddsToNumbers (get_or queries k d).query (λ j. r (get_or (get_or queries k d).tables j 0)))
      (sym (after_is store changes)) (tested k d within).after;
}

module _ (store : Tables) (changes : List TableChange) (queries : List StandingQuery)
    (tested : All (IsTested (rows_by_place (instance_of store.tables)) (rows_edited store (map placed_change changes))) queries) where
  -- The rows of the queries have their types before a change, ..
  pub typed_before : All (GivesTyped (before_at store)) queries
  typed_before = λ k d within.
      subst (λ (r : RowsByPlace). GivesTyped r (get_or queries k d)) (sym (before_is store)) (tested k d within).typed_before

  -- .. and after it.
  pub typed_after : All (GivesTyped (after_at store changes)) queries
  typed_after = λ k d within.
      subst (λ (r : RowsByPlace). GivesTyped r (get_or queries k d)) (sym (after_is store changes)) (tested k d within).typed_after

-- ---- by the types of rows

module _ (schema : Schema) (rows : Instance) where
  -- the rows of the table of an item
  abbrev rows_of : Option FromItem → List (List Value)
  rows_of item = option_map_or (λ (item : FromItem). rows_named item.table schema.tables rows) item []

  -- The rows of a table of FROM are those at its place.
  place_rows : (from : List FromItem) (j : ℕ) (item : FromItem) → list_any (λ (i : FromItem). lacks_table i.table schema) from ≡ false
      → slice_get from j ≡ Some item → rows_of (slice_get from j) ≡ rows_by_place rows (get_or (places_in schema from) j 0)
  place_rows [] j item there at = absurd (let b : ⊥ = cc in b)
  place_rows (x ∷ xs) zero item there at =
      rows_by_name x.table schema rows (or_parts (lacks_table x.table schema) (list_any (λ (i : FromItem). lacks_table i.table schema) xs) there).0
  place_rows (x ∷ xs) (suc j) item there at =
      place_rows xs j item (or_parts (lacks_table x.table schema) (list_any (λ (i : FromItem). lacks_table i.table schema) xs) there).1 at

  -- The table of a field that has a type is in FROM.
  from_there : (from : List FromItem) (field : FieldPlace) → type_at schema from field ≡ Some type.Int
      → (item : FromItem) × (slice_get from field.place ≡ Some item)
  from_there from field typed = by (slice_get from field.place) refl typed
    where
      by : (found : Option FromItem) → slice_get from field.place ≡ found
          → option_map (λ (c : Column). c.col_type) (option_and_then (λ (item : FromItem). slice_get (columns_named item.table schema) field.column) found)
          ≡ Some type.Int
          → (item : FromItem) × (slice_get from field.place ≡ Some item)
      by None at typed = absurd (let b : ⊥ = cc in b)
      by (Some item) at typed = (item, at)

  module _ (standing : StandingQuery) (is : IsPlaced schema standing) (typed : AreTyped schema.tables rows) (shifts : ShiftsNumbers schema standing.query) where
    adds_one : (o : Operand FieldPlace) → ShiftsNumber schema standing.query.from o
        → AddsToNumber (λ place. rows_of (slice_get standing.query.from place)) o
        → AddsToNumber (λ j. rows_by_place rows (get_or standing.tables j 0)) o
    adds_one (operand.Literal value) number adds = tt
    adds_one (operand.Column field) number adds = tt
    adds_one (operand.Shifted field by) number adds =
        let there = from_there standing.query.from field number in
        subst (λ (rs : List (List Value)). All (λ (row : List Value). is_text (Some (value_in field.column row)) ≡ false) rs)
        (place_rows standing.query.from field.place there.0 is.within.tables there.1
        ∙ ap (λ (ts : List ℕ). rows_by_place rows (get_or ts field.place 0)) (sym is.places)) adds

    -- A standing query adds no number to a text of rows that have their types.
    pub adds_by_place : AddsToNumbers standing.query (λ j. rows_by_place rows (get_or standing.tables j 0))
    adds_by_place = λ k d within.
        adds_one (get_or standing.query.atoms k d).right (shifts k d within) (adds_to_numbers schema rows typed standing.query shifts k d within)

-- Each standing query is tested by rows that have their types before a change and after it.
pub queries_tested : (schema : Schema) (before after : Instance) (queries : List StandingQuery) → All (IsPlaced schema) queries
    → AreTyped schema.tables before → AreTyped schema.tables after → All (ShiftsNumbers schema) (queries_of queries)
    → All (IsTested (rows_by_place before) (rows_by_place after)) queries
queries_tested schema before after queries placed has_before has_after shifts = λ k d within.
    let standing = get_or queries k d in
    let is : IsPlaced schema standing = placed k d within in
    let own : ShiftsNumbers schema standing.query = shift k d within in
    record {
      whole = ap length is.places ∙ length-map standing.query.from (λ (item : FromItem). unwrap_or (table_place item.table schema) 0);
      before = adds_by_place schema before standing is has_before own;
      after = adds_by_place schema after standing is has_after own;
      typed_before = gives_typed schema before has_before standing is;
      typed_after = gives_typed schema after has_after standing is;
    }
  where
    shift : (k : ℕ) (d : StandingQuery) → k < length queries → ShiftsNumbers schema (get_or queries k d).query
    shift k d within =
        subst (ShiftsNumbers schema) (get_or-map (λ (s : StandingQuery). s.query) queries k d d.query within)
        (shifts k d.query (omega (arith, within, length-map queries (λ (s : StandingQuery). s.query))))
