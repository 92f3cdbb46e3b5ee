-- The names of steps: the alias of a table, and the names of an index, a column and a field by their positions in the catalog.
use Rattle.std.specs.Prelude.{◌≡◌, ℕ, suc, ◌<◌, List, [], ◌∷◌, Option, Some, get_or, length, slice_get}
use Rattle.std.specs.Option.{option_and_then, option_map_or}
use Rattle.mm_join.specs.Keys.{key_of}
use Rattle.mm_join.specs.declared.key.JoinKey.{JoinKey}
use Rattle.mm_query.specs.Resolving.{places_in}
use Rattle.mm_plan.specs.Steps.{HasKey}
use Rattle.mm_plan.specs.declared.naming.Naming.{Naming}
use Rattle.mm_plan.specs.declared.step.Step.{Step}
use Rattle.mm_plan.specs.declared.step.Step.TheVariants as step
use Rattle.mm_query.specs.declared.atom.Atom.{Atom}
use Rattle.mm_query.specs.declared.bound_query.FieldPlace.{FieldPlace}
use Rattle.mm_query.specs.declared.plan_line.PlanLine.{PlanLine}
use Rattle.mm_query.specs.declared.plan_line.PlanLine.TheVariants as line
use Rattle.mm_query.specs.Fields.{FieldName}
use Rattle.mm_query.specs.declared.query.FromItem.{FromItem}
use Rattle.mm_schema.specs.Schema.{Schema}
use Rattle.mm_schema.specs.declared.column.Column.{Column}
use Rattle.mm_schema.specs.declared.index.IndexDef.{IndexDef}
use Rattle.mm_schema.specs.declared.index.IndexId.{IndexId}
use Rattle.mm_schema.specs.declared.index.IndexId.TheVariants as id
use Rattle.mm_schema.specs.declared.table.Table.{Table}
use Rattle.mm_store.specs.declared.index_ref.IndexRef.{IndexRef}
use Rattle.mm_store.specs.declared.index_ref.IndexRef.TheVariants as index

-- The source of names: the catalog, FROM, and the positions of the tables of FROM in the catalog.
pub record Names : Type 0 where
  pub schema : Schema
  pub from : List FromItem
  pub tables : List ℕ

-- The names of a FROM.
abbrev pub names_of : Schema → List FromItem → Names
names_of schema from = record { schema = schema; from = from; tables = places_in schema from }

-- The names that the code reads.
abbrev pub names_in : Naming → Names
names_in naming = record { schema = naming.catalog.now; from = naming.from.now; tables = naming.tables.now }

-- The alias at a position in FROM.
abbrev pub alias_at : Names → ℕ → List ℕ
alias_at names place = option_map_or (λ (item : FromItem). item.alias) (slice_get names.from place) []

-- The name of a column of the table at a position in FROM.
abbrev pub column_at : Names → ℕ → ℕ → List ℕ
column_at names place column =
    option_map_or (λ (table : Table). option_map_or (λ (own : Column). own.name) (slice_get table.definition.columns column) [])
    (slice_get names.schema.tables (get_or names.tables place 0)) []

-- The name of an index of the table at a position in FROM.
abbrev pub index_at : Names → ℕ → ℕ → List ℕ
index_at names place number =
    option_map_or (λ (table : Table). option_map_or (λ (own : IndexDef). own.name) (slice_get table.indexes number) [])
    (slice_get names.schema.tables (get_or names.tables place 0)) []

-- A tree of the table at a position in FROM: its name, or that it is on the key.
abbrev pub tree_named : Names → ℕ → IndexRef → IndexId
tree_named names place index.Key = id.Key
tree_named names place (index.Tree number) = id.Named (index_at names place number)
tree_named names place (index.Hash number) = id.Named (index_at names place number)

-- The alias and the column name of a field.
abbrev pub field_named : Names → FieldPlace → FieldName
field_named names field = record { alias = alias_at names field.place; column = column_at names field.place field.column }

-- The key of the atom at a position, for the table at a position in FROM.
abbrev pub key_by : List (Atom FieldPlace) → ℕ → ℕ → Option JoinKey
key_by atoms place atom = option_and_then (key_of place) (slice_get atoms atom)

-- The line of a look-up in an index.
abbrev pub look_up_named : Names → ℕ → IndexRef → PlanLine
look_up_named names place index.Key = line.TreeEqual (alias_at names place) id.Key
look_up_named names place (index.Tree number) = line.TreeEqual (alias_at names place) (id.Named (index_at names place number))
look_up_named names place (index.Hash number) = line.Hash (alias_at names place) (index_at names place number)

-- The line of the step of the table at a position in FROM.
abbrev pub named : Names → List (Atom FieldPlace) → ℕ → Step → PlanLine
named names atoms place step.Scan = line.Scan (alias_at names place)
named names atoms place (step.LookUp index atom) = look_up_named names place index
named names atoms place (step.Range index atom) = line.TreeRange (alias_at names place) (tree_named names place index)
named names atoms place (step.Precomputed atom) =
    line.Precomputed (alias_at names place)
    (option_map_or (λ (key : JoinKey). field_named names key.field) (key_by atoms place atom) (record { alias = []; column = [] }))
named names atoms place (step.TreeMerge outer inner atom) =
    line.TreeMerge (alias_at names place) (tree_named names 0 outer) (tree_named names place inner)
named names atoms place (step.TreeJoin index atom) = line.TreeJoin (alias_at names place) (tree_named names place index)
named names atoms place (step.HashJoin (index.Hash number) atom) = line.HashJoin (alias_at names place) (index_at names place number)
named names atoms place (step.HashJoin (index.Tree number) atom) = line.HashJoin (alias_at names place) (index_at names place number)
named names atoms place (step.HashJoin index.Key atom) = line.HashJoin (alias_at names place) []
named names atoms place (step.BuiltHash atom) =
    line.BuiltHash (alias_at names place) (option_map_or (λ (key : JoinKey). column_at names place key.column) (key_by atoms place atom) [])
named names atoms place step.NestedLoops = line.NestedLoops (alias_at names place)

-- The lines of steps, where the first is that of the table at this position in FROM.
abbrev pub named_from : Names → List (Atom FieldPlace) → ℕ → List Step → List PlanLine
named_from names atoms place [] = []
named_from names atoms place (own ∷ steps) = named names atoms place own ∷ named_from names atoms (suc place) steps

-- The lines of a plan.
abbrev pub named_steps : Names → List (Atom FieldPlace) → List Step → List PlanLine
named_steps names atoms steps = named_from names atoms 0 steps

-- ---- names that exist

-- The table at a position in FROM is in the catalog, and this holds for it.
abbrev pub IsTableThere : Names → ℕ → (Table → Type 0) → Type 0
IsTableThere names place Holds = (place < length names.tables)
    × (table : Table) × (slice_get names.schema.tables (get_or names.tables place 0) ≡ Some table) × Holds table

-- The table has the index. Every table has one on its key.
abbrev pub IsIndexThere : Names → ℕ → IndexRef → Type 0
IsIndexThere names place index.Key = Unit {0}
IsIndexThere names place (index.Tree number) = IsTableThere names place (λ table. number < length table.indexes)
IsIndexThere names place (index.Hash number) = IsTableThere names place (λ table. number < length table.indexes)

-- The table has the HASH index.
abbrev pub IsHashThere : Names → ℕ → IndexRef → Type 0
IsHashThere names place (index.Hash number) = IsIndexThere names place (index.Hash number)
IsHashThere names place _ = ⊥

-- The table has the column.
abbrev pub IsColumnThere : Names → ℕ → ℕ → Type 0
IsColumnThere names place column = IsTableThere names place (λ table. column < length table.definition.columns)

-- The field's alias and column exist.
abbrev pub IsFieldThere : Names → FieldPlace → Type 0
IsFieldThere names field = (field.place < length names.from) × IsColumnThere names field.place field.column

-- All names in the line of a step exist.
abbrev pub AreNamesThere : Names → List (Atom FieldPlace) → ℕ → Step → Type 0
AreNamesThere names atoms place step.Scan = Unit {0}
AreNamesThere names atoms place (step.LookUp index atom) = IsIndexThere names place index
AreNamesThere names atoms place (step.Range index atom) = IsIndexThere names place index
AreNamesThere names atoms place (step.Precomputed atom) = HasKey atoms place atom (λ key. IsFieldThere names key.field)
AreNamesThere names atoms place (step.TreeMerge outer inner atom) = IsIndexThere names 0 outer × IsIndexThere names place inner
AreNamesThere names atoms place (step.TreeJoin index atom) = IsIndexThere names place index
AreNamesThere names atoms place (step.HashJoin index atom) = IsHashThere names place index
AreNamesThere names atoms place (step.BuiltHash atom) = HasKey atoms place atom (λ key. IsColumnThere names place key.column)
AreNamesThere names atoms place step.NestedLoops = Unit {0}
