-- Join equalities between a column of a further table and a field of the outer list, and the references that they lead to.
use Rattle.std.specs.Prelude.{◌≡◌, ◌⊎◌, ℕ, pos, ◌<◌, ℤ, neg_ℤ, Bool, true, List, [], ◌∷◌, ◌++◌, Option, Some, None, Contains, IsPermutation, filter, length}
use Rattle.std.specs.Prelude.{map}
use Rattle.std.specs.Option.{unwrap_or}
use Rattle.mm_partition.specs.Places.{slot_at}
use Rattle.mm_query.specs.Atoms.{shifted, value_in}
use Rattle.mm_query.specs.Queries.{Partial, none_fails, value_at}
use Rattle.mm_query.specs.declared.atom.Atom.{Atom}
use Rattle.mm_query.specs.declared.atom.Comparison.TheVariants.{Equal}
use Rattle.mm_query.specs.declared.atom.Operand.{Operand}
use Rattle.mm_query.specs.declared.atom.Operand.TheVariants.{Literal, Column, Shifted}
use Rattle.mm_query.specs.declared.bound_query.FieldPlace.{FieldPlace}
use Rattle.mm_indexed.specs.Kept.{StoredRows}
use Rattle.mm_row_order.specs.Refs.{Slots, row_at}
use Rattle.mm_link.specs.Links.{RefersTo}
use Rattle.mm_store.specs.Tables.{IsAt, Tables}
use Rattle.mm_value.specs.declared.row_ref.RowRef.{RowRef}
use Rattle.mm_value.specs.declared.values.Value.{Value}
use Rattle.mm_value.specs.declared.values.Value.TheVariants.{Int}
use Rattle.mm_join.specs.declared.key.JoinKey.{JoinKey}
use Rattle.mm_join.specs.declared.key.Shift.{Shift}
use Rattle.mm_join.specs.declared.key.Shift.TheVariants as shift

-- ---- the requirement of a join equality

-- The column that an operand names.
abbrev pub column_named_in : Operand FieldPlace → Option FieldPlace
column_named_in (Literal value) = None
column_named_in (Column field) = Some field
column_named_in (Shifted field by) = Some field

-- The atom is a join equality of the table at a position: `=` between one of its columns and a column of an earlier table. The columns are
-- in either order, with or without a shift.
abbrev pub IsJoinEquality : ℕ → Atom FieldPlace → Type 0
IsJoinEquality place atom = (atom.comparison ≡ Equal) × (other : FieldPlace) × (column_named_in atom.right ≡ Some other)
    × (((atom.left.place ≡ place) × (other.place < place)) ⊎ ((other.place ≡ place) × (atom.left.place < place)))

-- The number that a shift adds to an integer.
abbrev pub added : Shift → ℤ
added (shift.Plus number) = number
added (shift.Minus number) = neg_ℤ number

-- The value that a key requires after the rows of a combination: the value of its field, shifted. A field without a row counts as 0.
abbrev pub sought : JoinKey → Partial → Value
sought key rows = shifted (added key.shift) (unwrap_or (value_at rows key.field) (Int (pos 0)))

-- The key that requires a field's own value in a column.
abbrev pub plain_key : ℕ → FieldPlace → JoinKey
plain_key column field = record { column = column; field = field; shift = shift.Plus (pos 0) }

-- After rows of these tables, a row fits only if it has, in the key's column, the value that the key requires.
abbrev pub IsJoin : List (Atom FieldPlace) → List ℕ → JoinKey → Type 0
IsJoin atoms outers key = (rows : List (List Value)) (row : List Value) → length rows ≡ length outers
    → none_fails atoms (map Some rows ++ Some row ∷ []) ≡ true → value_in key.column row ≡ sought key (map Some rows)

-- ---- rows with a value

-- The found references include those of all rows that have the value in the column. They are among the given references, in any order, each
-- as often as there.
abbrev pub HaveMatches : ℕ → Slots → Value → List RowRef → List RowRef → Type 0
HaveMatches column now value refs found = (kept : RowRef → Bool)
    × ((at : RowRef) → Contains refs at → value_in column (row_at now at) ≡ value → kept at ≡ true)
    × IsPermutation found (filter kept refs)

-- ---- foreign keys

-- The row of a reference in one table refers by a column to the row of another reference.
abbrev pub IsPartner : Tables → ℕ → ℕ → RowRef → RowRef → Type 0
IsPartner store from column at partner = (stored : StoredRows) → IsAt store from stored
    → (target : StoredRows) × (to : ℕ) × Contains store.links (record { from = from; column = column; to = to })
    × IsAt store to target × RefersTo column target.key (slot_at target.places) (row_at (slot_at stored.places) at) partner
