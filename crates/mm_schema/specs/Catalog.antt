-- The representation of the catalog's tables.
use Rattle.std.specs.Prelude.{◌≡◌, ℕ, false, List, map, All}
use Rattle.std.specs.declared.hash.FoldHasher.{FoldHasher}
use Rattle.std.specs.declared.hash.BuildHasherDefault.{BuildHasherDefault}
use Rattle.indexmap.specs.IndexMap.{IndexMap}
use Rattle.mm_schema.specs.Indexes.{HasOwnIndexes, has_duplicate_indexes, indexes_of}
use Rattle.mm_schema.specs.declared.table.Table.{Table}

abbrev pub Tables : Type 0
Tables = IndexMap (List ℕ) Table (BuildHasherDefault FoldHasher)

-- the tables, in order of creation
abbrev pub tables_of : Tables → List Table
tables_of tables = map (λ entry. entry.1) tables.entries

-- each table is stored under its own name
abbrev pub IsKeyedByName : Tables → Type 0
IsKeyedByName tables = All (λ entry. entry.0 ≡ entry.1.definition.name) tables.entries

-- Each table is stored under its own name, no two indexes have the same name, and each index is in the table that it names.
pub record IsSound (tables : Tables) : Type 0 where
  pub keyed : IsKeyedByName tables
  pub distinct : has_duplicate_indexes (indexes_of (tables_of tables)) ≡ false
  pub in_place : All HasOwnIndexes (tables_of tables)
