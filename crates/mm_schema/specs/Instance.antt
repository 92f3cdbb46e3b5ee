-- The rows of all tables (an instance of the relational model of Codd), and the effect of a change on them.
use Rattle.std.specs.Prelude.{ℕ, if◌then◌else◌, List, [], ◌∷◌, filter}
use Rattle.std.specs.List.{flat_map}
use Rattle.mm_schema.specs.Columns.{key_place}
use Rattle.mm_schema.specs.Name.{same_name}
use Rattle.mm_schema.specs.Rows.{IsInKeyOrder, Pair, changed}
use Rattle.mm_schema.specs.declared.table.Table.{Table}
use Rattle.mm_value.specs.declared.values.Value.{Value}

-- The rows of each table in key order, table by table in the order of the catalog.
abbrev pub Instance : Type 0
Instance = List (List (List Value))

-- The rows of the table with a name, or none if there is no such table.
abbrev pub rows_named : List ℕ → List Table → Instance → List (List Value)
rows_named name (table ∷ tables) (rows ∷ others) = if same_name name table.definition.name then rows else rows_named name tables others
rows_named name (table ∷ tables) [] = []
rows_named name [] others = []

-- The rows of all tables except the one with a name, in order.
abbrev pub without_rows : List ℕ → List Table → Instance → Instance
without_rows name (table ∷ tables) (rows ∷ others) =
    if same_name name table.definition.name then without_rows name tables others else rows ∷ without_rows name tables others
without_rows name (table ∷ tables) [] = []
without_rows name [] others = []

-- A table, and its pairs in a change.
pub record TableEdits : Type 0 where
  pub table : List ℕ
  pub pairs : List Pair

-- The pairs of the table with a name.
abbrev pub pairs_of : List ℕ → List TableEdits → List Pair
pairs_of name edits = flat_map (λ (e : TableEdits). e.pairs) (filter (λ (e : TableEdits). same_name e.table name) edits)

-- The rows of each table after its pairs are applied.
abbrev pub changed_instance : List Table → List TableEdits → Instance → Instance
changed_instance (table ∷ tables) edits (rows ∷ others) =
    changed (key_place table.definition.columns) (pairs_of table.definition.name edits) rows ∷ changed_instance tables edits others
changed_instance (table ∷ tables) edits [] = []
changed_instance [] edits others = []

-- There is one list of rows for each table, strictly in the order of the table's key.
abbrev pub AreInKeyOrder : List Table → Instance → Type 0
AreInKeyOrder [] [] = Unit {0}
AreInKeyOrder (table ∷ tables) (rows ∷ others) = IsInKeyOrder (key_place table.definition.columns) rows × AreInKeyOrder tables others
AreInKeyOrder [] (rows ∷ others) = ⊥
AreInKeyOrder (table ∷ tables) [] = ⊥
