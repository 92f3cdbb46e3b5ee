-- Access paths to the rows of a table, and the rows along them.
use Rattle.std.specs.Prelude.{ℕ, ◌==◌, ◌&&◌, ◌||◌, Bool, true, false, not, List, Option, Some, None, Contains, IsPermutation, filter}
use Rattle.std.specs.Option.{option_copied}
use Rattle.std.specs.Ordering.{is_eq, is_ge, is_le}
use Rattle.std.specs.declared.cmp.Ordering.TheVariants.{Less, Greater}
use Rattle.mm_partition.specs.Places.{slot_at}
use Rattle.mm_query.specs.Atoms.{stands, value_in}
use Rattle.mm_query.specs.declared.atom.Atom.{Atom}
use Rattle.mm_query.specs.declared.atom.Comparison.{Comparison}
use Rattle.mm_query.specs.declared.atom.Comparison.TheVariants as comparison
use Rattle.mm_query.specs.declared.atom.Operand.{Operand}
use Rattle.mm_query.specs.declared.atom.Operand.TheVariants.{Literal, Column, Shifted}
use Rattle.mm_query.specs.declared.bound_query.FieldPlace.{FieldPlace}
use Rattle.mm_indexed.specs.Kept.{StoredRows}
use Rattle.mm_row_order.specs.Refs.{row_at}
use Rattle.mm_select.specs.Alone.{asks_of_first}
use Rattle.mm_select.specs.Asked.{IsHigh, IsLow, compares}
use Rattle.mm_select.specs.declared.access.Access.{Access}
use Rattle.mm_select.specs.declared.access.Access.TheVariants as access
use Rattle.mm_store.specs.Looked.{IsIndexOn, IsTree}
use Rattle.mm_store.specs.declared.index_ref.IndexRef.TheVariants.{Key, Tree, Hash}
use Rattle.mm_value.specs.Order.{value_cmp}
use Rattle.mm_value.specs.declared.row_ref.RowRef.{RowRef}
use Rattle.mm_value.specs.declared.values.Value.{Value}

-- The row has this value in the column.
abbrev pub has : ℕ → Value → List Value → Bool
has column value row = is_eq (value_cmp (value_in column row) value)

-- The value is not less than the lower bound, if there is one.
abbrev pub is_from : Option Value → Value → Bool
is_from None value = true
is_from (Some low) value = is_ge (value_cmp value low)

-- The value is not greater than the upper bound, if there is one.
abbrev pub is_up_to : Option Value → Value → Bool
is_up_to None value = true
is_up_to (Some high) value = is_le (value_cmp value high)

-- The row's value in the column is between two inclusive bounds.
abbrev pub lies_between : ℕ → Option Value → Option Value → List Value → Bool
lies_between column low high row = is_from low (value_in column row) && is_up_to high (value_in column row)

-- The row is along the access path.
abbrev pub is_along : Access → List Value → Bool
is_along access.Scan row = true
is_along (access.Equal index column value) row = has column value.now row
is_along (access.Range index column low high) row = lies_between column (option_copied low) (option_copied high) row

-- The relation has the index of the access path.
abbrev pub IsServed : StoredRows → Access → Type 0
IsServed stored access.Scan = Unit {0}
IsServed stored (access.Equal index column value) = IsIndexOn stored column index
IsServed stored (access.Range index column low high) = IsIndexOn stored column index × IsTree index

-- The atoms exclude all rows that are not along the access path.
abbrev pub Asks : List (Atom FieldPlace) → Access → Type 0
Asks atoms access.Scan = Unit {0}
Asks atoms (access.Equal index column value) = Contains atoms (compares column comparison.Equal value.now)
Asks atoms (access.Range index column low high) = IsLow atoms column (option_copied low) × IsHigh atoms column (option_copied high)

-- The references of the rows along the access path, in key order.
abbrev pub refs_along : StoredRows → Access → List RowRef
refs_along stored access = filter (λ at. is_along access (row_at (slot_at stored.places) at)) stored.refs

-- The references are those of the rows along the access path, each once.
abbrev pub AreAlong : StoredRows → Access → List RowRef → Type 0
AreAlong stored access found = IsPermutation found (refs_along stored access)

-- The rows along the access path are found in key order.
abbrev pub is_in_key_order : Access → Bool
is_in_key_order access.Scan = true
is_in_key_order (access.Equal index column value) = false
is_in_key_order (access.Range Key column low high) = true
is_in_key_order (access.Range (Tree place) column low high) = false
is_in_key_order (access.Range (Hash place) column low high) = false

-- The access path is a look-up of a key.
abbrev pub IsOfKey : Access → Type 0
IsOfKey access.Scan = ⊥
IsOfKey (access.Equal Key column value) = Unit {0}
IsOfKey (access.Equal (Tree place) column value) = ⊥
IsOfKey (access.Equal (Hash place) column value) = ⊥
IsOfKey (access.Range index column low high) = ⊥

-- The access path is a look-up in a HASH index.
abbrev pub IsOfHash : Access → Type 0
IsOfHash access.Scan = ⊥
IsOfHash (access.Equal Key column value) = ⊥
IsOfHash (access.Equal (Tree place) column value) = ⊥
IsOfHash (access.Equal (Hash place) column value) = Unit {0}
IsOfHash (access.Range index column low high) = ⊥

-- The comparison with a value holds for every value from this lower bound up: for the bound, and for all greater values.
abbrev pub stand_from : Option Value → Comparison → Value → Bool
stand_from None comparison value = false
stand_from (Some low) comparison value = stands comparison Greater && stands comparison (value_cmp low value)

-- The comparison with a value holds for every value up to this upper bound: for the bound, and for all lesser values.
abbrev pub stand_up_to : Option Value → Comparison → Value → Bool
stand_up_to None comparison value = false
stand_up_to (Some high) comparison value = stands comparison Less && stands comparison (value_cmp high value)

-- The comparison with a value holds for this column of every row along the access path.
abbrev pub all_stand : Access → ℕ → Comparison → Value → Bool
all_stand access.Scan column comparison value = false
all_stand (access.Equal index on at) column comparison value = (column == on) && stands comparison (value_cmp at.now value)
all_stand (access.Range index on low high) column comparison value =
    (column == on) && (stand_from (option_copied low) comparison value || stand_up_to (option_copied high) comparison value)

-- The operand is a literal, and the comparison with it holds for this column of every row along the access path.
abbrev pub all_stand_to : Access → ℕ → Comparison → Operand FieldPlace → Bool
all_stand_to access column comparison (Literal value) = all_stand access column comparison value
all_stand_to access column comparison (Column field) = false
all_stand_to access column comparison (Shifted field by) = false

-- The atom compares a column of the first table with a literal, and holds for every row along the access path.
abbrev pub is_met_along : Access → Atom FieldPlace → Bool
is_met_along access atom = (atom.left.place == 0) && all_stand_to access atom.left.column atom.comparison atom.right

-- The atom tests the first table alone, and some row along the access path may fail it.
abbrev pub asks_along : Access → Atom FieldPlace → Bool
asks_along access atom = asks_of_first atom && not (is_met_along access atom)
