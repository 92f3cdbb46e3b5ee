-- The dump of a state: entries that create its tables, insert their rows, and create its indexes and standing queries.
use Rattle.std.specs.Prelude.{◌≡◌, ◌≢◌, ℕ, false, All, List, [], ◌∷◌, ◌++◌, map}
use Rattle.std.specs.List.{AllZip, flat_map}
use Rattle.mm_value.specs.Storable.{AreStorable}
use Rattle.mm_value.specs.declared.values.Value.{Value}
use Rattle.mm_schema.specs.Indexes.{indexes_of}
use Rattle.mm_schema.specs.Schema.{Schema}
use Rattle.mm_schema.specs.declared.index.IndexDef.{IndexDef}
use Rattle.mm_schema.specs.declared.standing.StandingDef.{StandingDef}
use Rattle.mm_schema.specs.declared.table.Table.{Table}
use Rattle.mm_query.specs.State.{State}
use Rattle.mm_query.specs.declared.bound_query.BoundQuery.{BoundQuery}
use Rattle.mm_lang.specs.Answering.{answer}
use Rattle.mm_lang.specs.QueryText.{named_query}
use Rattle.mm_dump.specs.Entries.{Entry, FitsLine, IsPrintable, entry_text}
use Rattle.mm_dump.specs.Entries as entry

-- Groups of rows, one for each INSERT.
abbrev pub Groups : Type 0
Groups = List (List (List Value))

-- Rows divided into groups: no group is empty, and together, in order, they have all rows.
pub record AreGroups (rows : List (List Value)) (groups : Groups) : Type 0 where
  pub whole : flat_map (λ (group : List (List Value)). group) groups ≡ rows
  pub some : All (λ (group : List (List Value)). group ≢ []) groups

-- A group of more than one row fits a line.
abbrev pub FitsIfMany : List ℕ → List (List Value) → Type 0
FitsIfMany table [] = Unit {0}
FitsIfMany table (row ∷ []) = Unit {0}
FitsIfMany table (row ∷ other ∷ rows) = FitsLine (entry.Rows table (row ∷ other ∷ rows))

-- The entries that create tables, in order.
abbrev pub table_entries : List Table → List Entry
table_entries tables = map (λ (table : Table). entry.Table table.definition) tables

-- The entries that insert groups of rows into tables, table by table.
abbrev pub rows_entries : List Table → List Groups → List Entry
rows_entries (table ∷ tables) (groups ∷ others) = map (entry.Rows table.definition.name) groups ++ rows_entries tables others
rows_entries (table ∷ tables) [] = []
rows_entries [] groups = []

-- The entries that create the indexes of tables, table by table.
abbrev pub index_entries : List Table → List Entry
index_entries tables = map (λ (index : IndexDef). entry.Index index) (indexes_of tables)

-- The entries that create standing queries, in order.
abbrev pub watch_entries : Schema → List StandingDef → List BoundQuery → List Entry
watch_entries schema (standing ∷ others) (query ∷ queries) = entry.Watch standing.name (named_query schema query) ∷ watch_entries schema others queries
watch_entries schema (standing ∷ others) [] = []
watch_entries schema [] queries = []

-- A dump of a state: first all tables, then all rows, then all indexes, then all standing queries.
abbrev pub IsDump : State → List Entry → Type 0
IsDump state entries =
    (groups : List Groups) × AllZip AreGroups state.rows groups
    × (entries ≡ table_entries state.schema.tables ++ (rows_entries state.schema.tables groups
    ++ (index_entries state.schema.tables ++ watch_entries state.schema state.schema.standing state.queries)))

-- The script of entries: the line of each, with its line feed.
abbrev pub script_of : List Entry → List ℕ
script_of entries = flat_map (λ (e : Entry). entry_text e ++ 10 ∷ []) entries

-- The state that lines leave, read one after another where no allocation fails.
abbrev pub after_lines : List (List ℕ) → State → State
after_lines [] state = state
after_lines (line ∷ lines) state = after_lines lines (answer false line state).state

-- All names of a state are names, all of its values can be stored, and each table has one key.
pub record IsPrintableState (state : State) : Type 0 where
  pub tables : All (λ (table : Table). IsPrintable (entry.Table table.definition)) state.schema.tables
  pub rows : All (λ (table_rows : List (List Value)). All AreStorable table_rows) state.rows
  pub indexes : All (λ (index : IndexDef). IsPrintable (entry.Index index)) (indexes_of state.schema.tables)
  pub queries : All IsPrintable (watch_entries state.schema state.schema.standing state.queries)
