-- The entries of a dump, the command that each is, and its text.
use Rattle.std.specs.Prelude.{◌≡◌, ◌≢◌, ◌≤◌, ℕ, All, IfSome, List, [], length, pos}
use Rattle.mm_value.specs.Storable.{AreStorable, IsStorable}
use Rattle.mm_value.specs.declared.values.Value.{Value}
use Rattle.mm_value.specs.declared.values.Value.TheVariants.{Int}
use Rattle.mm_schema.specs.Columns.{key_count}
use Rattle.mm_schema.specs.Name.{IsName}
use Rattle.mm_schema.specs.declared.index.IndexDef.{IndexDef}
use Rattle.mm_schema.specs.declared.table.TableDef.{TableDef}
use Rattle.mm_query.specs.Fields.{FieldName}
use Rattle.mm_query.specs.Resolving.{column_of}
use Rattle.mm_query.specs.declared.atom.Atom.{Atom}
use Rattle.mm_query.specs.declared.atom.Operand.{Operand}
use Rattle.mm_query.specs.declared.command.Command.{Command}
use Rattle.mm_query.specs.declared.command.Command.TheVariants as command
use Rattle.mm_query.specs.declared.command.Definition.TheVariants as define
use Rattle.mm_query.specs.declared.command.Mutation.TheVariants as change
use Rattle.mm_query.specs.declared.query.FromItem.{FromItem}
use Rattle.mm_query.specs.declared.query.Query.{Query}
use Rattle.mm_lang.specs.Reading.{operand_literals}
use Rattle.mm_lang.specs.ReplyText.{HasIndexNames, HasTableNames, index_listed, table_listed}
use Rattle.mm_dump.specs.Texts.{insert_text, watch_text}

-- An entry of a dump: a line that creates a table, an index or a standing query, or that inserts rows.
pub data Entry : Type 0 where
  Table : (definition : TableDef) → Entry
  Rows : (table : List ℕ) (rows : List (List Value)) → Entry
  Index : (index : IndexDef) → Entry
  Watch : (name : List ℕ) (query : Query) → Entry

-- The command of an entry.
abbrev pub entry_command : Entry → Command
entry_command (Table definition) = command.Define (define.Table definition)
entry_command (Rows table rows) = command.Change (change.Insert table rows)
entry_command (Index index) = command.Define (define.Index index)
entry_command (Watch name query) = command.Define (define.Watch (record { name = name; query = query }))

-- The line of an entry, without its line feed.
abbrev pub entry_text : Entry → List ℕ
entry_text (Table definition) = table_listed definition
entry_text (Rows table rows) = insert_text table rows
entry_text (Index index) = index_listed index
entry_text (Watch name query) = watch_text name query

-- The alias and the column of a field are names.
abbrev pub HasFieldNames : FieldName → Type 0
HasFieldNames field = IsName field.alias × IsName field.column

-- The field of an operand consists of names, and its literal can be stored.
abbrev pub IsPrintableOperand : Operand FieldName → Type 0
IsPrintableOperand operand = IfSome (column_of operand) HasFieldNames × All IsStorable (operand_literals operand)

-- The sides of a test have fields of names and literals that can be stored.
abbrev pub IsPrintableTest : Atom FieldName → Type 0
IsPrintableTest test = HasFieldNames test.left × IsPrintableOperand test.right

-- A query has fields and tables, all names in it are names, and its numbers and texts are within their limits.
pub record IsPrintableQuery (query : Query) : Type 0 where
  pub some_fields : query.fields ≢ []
  pub some_from : query.from ≢ []
  pub fields : All HasFieldNames query.fields
  pub from : All (λ (item : FromItem). IsName item.table × IsName item.alias) query.from
  pub tests : All IsPrintableTest query.atoms
  pub order : All (λ position. IsStorable (Int (pos position))) query.order

-- The alias of a field has at most 6 bytes.
abbrev pub HasShortAlias : FieldName → Type 0
HasShortAlias field = length field.alias ≤ 6

-- The field of an operand, if it has one, has a short alias.
abbrev pub HasShortOperand : Operand FieldName → Type 0
HasShortOperand operand = IfSome (column_of operand) HasShortAlias

-- The fields of a test have short aliases.
abbrev pub HasShortTest : Atom FieldName → Type 0
HasShortTest test = HasShortAlias test.left × HasShortOperand test.right

-- All aliases of a query have at most 6 bytes.
pub record HasShortAliases (query : Query) : Type 0 where
  pub fields : All HasShortAlias query.fields
  pub from : All (λ (item : FromItem). length item.alias ≤ 6) query.from
  pub tests : All HasShortTest query.atoms

-- A row has values, and each can be stored.
abbrev pub IsPrintableRow : List Value → Type 0
IsPrintableRow row = (row ≢ []) × AreStorable row

-- The names of an entry are names, and its values can be stored. A table has exactly one key. An INSERT has at least one row, and a
-- row has at least one value.
abbrev pub IsPrintable : Entry → Type 0
IsPrintable (Table definition) = HasTableNames definition × (key_count definition.columns ≡ 1)
IsPrintable (Rows table rows) = IsName table × (rows ≢ []) × All IsPrintableRow rows
IsPrintable (Index index) = HasIndexNames index
IsPrintable (Watch name query) = IsName name × IsPrintableQuery query

-- The line of an entry is at most 4,096 bytes long.
abbrev pub FitsLine : Entry → Type 0
FitsLine entry = length (entry_text entry) ≤ 4096
