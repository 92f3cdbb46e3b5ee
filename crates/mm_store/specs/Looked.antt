-- The index of a table in which values of a column are looked up.
use Rattle.std.specs.Prelude.{◌≡◌, ℕ, ◌+◌, ◌≤◌, Option, Some, None}
use Rattle.mm_indexed.specs.Kept.{StoredRows}
use Rattle.mm_indexed.specs.Reads.{HasIndex}
use Rattle.mm_schema.specs.declared.index.IndexKind.TheVariants as kind
use Rattle.mm_store.specs.declared.index_ref.IndexRef.{IndexRef}
use Rattle.mm_store.specs.declared.index_ref.IndexRef.TheVariants.{Key, Tree, Hash}

-- The table has the index, and it is on the column.
abbrev pub IsIndexOn : StoredRows → ℕ → IndexRef → Type 0
IsIndexOn stored column Key = column ≡ stored.key
IsIndexOn stored column (Tree place) = HasIndex stored.indexes place column kind.Tree
IsIndexOn stored column (Hash place) = HasIndex stored.indexes place column kind.Hash

-- The number of indexes of the table that were created before this one. The index on the key comes before all.
abbrev pub created_before : IndexRef → ℕ
created_before Key = 0
created_before (Tree place) = place + 1
created_before (Hash place) = place + 1

-- The first created of the indexes on the column, or none exactly if the column has no index.
abbrev pub IsFirstOn : StoredRows → ℕ → Option IndexRef → Type 0
IsFirstOn stored column (Some index) =
    IsIndexOn stored column index × ((other : IndexRef) → IsIndexOn stored column other → created_before index ≤ created_before other)
IsFirstOn stored column None = (index : IndexRef) → ¬ IsIndexOn stored column index

-- The index is a tree. The index on the key is one.
abbrev pub IsTree : IndexRef → Type 0
IsTree Key = Unit {0}
IsTree (Tree place) = Unit {0}
IsTree (Hash place) = ⊥

-- The index is a HASH index.
abbrev pub IsHash : IndexRef → Type 0
IsHash Key = ⊥
IsHash (Tree place) = ⊥
IsHash (Hash place) = Unit {0}

-- The first created of the indexes on the column with a property, or none exactly if no index on the column has it.
abbrev pub IsFirstSuch : (IndexRef → Type 0) → StoredRows → ℕ → Option IndexRef → Type 0
IsFirstSuch Holds stored column (Some index) =
    IsIndexOn stored column index × Holds index
    × ((other : IndexRef) → IsIndexOn stored column other → Holds other → created_before index ≤ created_before other)
IsFirstSuch Holds stored column None = (index : IndexRef) → Holds index → ¬ IsIndexOn stored column index
