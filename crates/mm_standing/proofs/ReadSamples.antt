-- Stores and changes of the worked examples.
use Rattle.std.proofs.Common.{◌≡◌, ℕ, Bool, true, false, List, [], ◌∷◌, ◌++◌, length, map, refl}
use Rattle.std.specs.List.{range_with_len}
use Rattle.mm_partition.specs.Places.{Hidden, Live}
use Rattle.mm_indexed.specs.Kept.{StoredRows}
use Rattle.mm_indexed.specs.declared.indexes.index.Index.{Index}
use Rattle.mm_indexed.specs.declared.indexes.index.Index.TheVariants.{Tree}
use Rattle.mm_store.specs.Tables.{Tables}
use Rattle.mm_tables.specs.declared.edit.Edit.TheVariants.{Insert}
use Rattle.mm_tables.specs.declared.logged_table.LoggedTable.{LoggedTable}
use Rattle.mm_value.specs.declared.col_type.ColType.TheVariants.{Int}
use Rattle.mm_value.specs.declared.row_ref.RowRef.{RowRef}
use Rattle.mm_value.specs.declared.values.Value.{Value}
use Rattle.mm_delta.specs.Edited.{has_index}
use Rattle.mm_delta.specs.declared.edited.TableChange.{TableChange}
use Rattle.mm_standing.specs.ReadExamples.{AddsBesideFour, AddsThirdFive, row_of}

abbrev refs_to : ℕ → List RowRef
refs_to rows = map (λ slot. record { slot = slot }) (range_with_len 0 rows)

-- A table of two integer columns with these rows, in the order of their keys, and after them staged rows.
abbrev table_of : List (List Value) → List (List Value) → List Index → StoredRows
table_of rows staged indexes = record {
  key = 0;
  places = record { slots = map Live rows ++ map Hidden staged; room = 0; types = Int ∷ Int ∷ [] };
  refs = refs_to (length rows);
  spare = 0;
  indexes = indexes;
}

-- A table that was not edited.
abbrev unedited : StoredRows → LoggedTable
unedited rows = record { rows = rows; owed = record { key = 0; indexes = 0 } }

-- A store of these tables, none of which refers to another or was edited.
abbrev store_of : List StoredRows → Tables
store_of tables = record {
  tables = tables;
  links = [];
  stored = record { tables = map unedited tables; log = []; log_room = 0 };
  ties = [];
}

-- The row in a slot is inserted into the table at place 0.
abbrev addition_of : ℕ → List TableChange
addition_of slot = record { table = 0; edits = record { ref_ptr = (0, 0); now = Insert (record { slot = slot }) ∷ [] } } ∷ []

abbrev three : List (List Value)
three = row_of 1 5 ∷ row_of 2 5 ∷ row_of 4 9 ∷ []

-- The index on the numbers, if there is one.
abbrev indexes_if : Bool → List Index
indexes_if true = Tree 1 (record { refs = refs_to 3; height = 1; spare = 0 }) ∷ []
indexes_if false = []

-- The store with these three rows, and with the row (3, 5) staged.
abbrev three_and_one : Bool → Tables
three_and_one b = store_of (table_of three (row_of 3 5 ∷ []) (indexes_if b) ∷ [])

pub third_five_added : (b : Bool) → (store : Tables) × (changes : List TableChange) × AddsThirdFive store changes × (has_index store 0 1 ≡ b)
third_five_added b =
    (three_and_one b, addition_of 3, record { before = refl; after = refl; added = record { gone = refl; come = refl } }, by b)
  where
    by : (b : Bool) → has_index (three_and_one b) 0 1 ≡ b
    by true = refl
    by false = refl

pub added_beside_four : (row : List Value) → (store : Tables) × (changes : List TableChange) × AddsBesideFour store changes row
added_beside_four row = (
  store_of (table_of [] (row ∷ []) [] ∷ table_of (row_of 1 4 ∷ []) [] [] ∷ []),
  addition_of 0,
  record { before = refl; added = record { gone = refl; come = refl }; left = record { gone = refl; come = refl } },
)
