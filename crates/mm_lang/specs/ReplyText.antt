-- The text of a reply.
use Rattle.std.specs.Prelude.{ℕ, List, [], ◌∷◌, ◌++◌, All, IfSome, None, Option, Some, codes, length}
use Rattle.std.specs.Fmt.{decimal}
use Rattle.std.specs.List.{flat_map}
use Rattle.mm_value.specs.Refusals.{refusal_number, refusal_text}
use Rattle.mm_value.specs.Written.{row_text}
use Rattle.mm_value.specs.declared.values.Value.{Value}
use Rattle.mm_schema.specs.Columns.{target_of}
use Rattle.mm_schema.specs.Name.{IsName}
use Rattle.mm_schema.specs.declared.column.Column.{Column}
use Rattle.mm_schema.specs.declared.column.OnDelete.{OnDelete}
use Rattle.mm_schema.specs.declared.column.OnDelete.TheVariants.{Cascade, Restrict}
use Rattle.mm_schema.specs.declared.column.Role.{Role}
use Rattle.mm_schema.specs.declared.column.Role.TheVariants as role
use Rattle.mm_schema.specs.declared.index.IndexDef.{IndexDef}
use Rattle.mm_schema.specs.declared.index.IndexId.{IndexId}
use Rattle.mm_schema.specs.declared.index.IndexId.TheVariants as id
use Rattle.mm_schema.specs.declared.table.TableDef.{TableDef}
use Rattle.mm_query.specs.Plans.{line_alias}
use Rattle.mm_query.specs.declared.listing.ListedQuery.{ListedQuery}
use Rattle.mm_query.specs.declared.listing.ListedTable.{ListedTable}
use Rattle.mm_query.specs.declared.listing.Listing.{Listing as Listed}
use Rattle.mm_query.specs.declared.plan_line.PlanLine.{PlanLine}
use Rattle.mm_query.specs.declared.plan_line.PlanLine.TheVariants as line
use Rattle.mm_query.specs.declared.reply.Reply.{Reply}
use Rattle.mm_query.specs.declared.reply.Reply.TheVariants.{Done, Count, Rows, Steps, Listing, Refused}
use Rattle.mm_lang.specs.declared.read.keyword.Keyword.TheVariants as keyword
use Rattle.mm_lang.specs.Spelling.{kind_word, type_word}
use Rattle.mm_lang.specs.Words.{keyword_text}

-- a line for each item, and then their number
abbrev pub counted_lines : {X : Type 0} → (X → List ℕ) → List ℕ → List X → List ℕ
counted_lines text label items = flat_map (λ item. text item ++ 10 ∷ []) items ++ label ++ decimal (length items) ++ 10 ∷ []

-- a line for each row, and then their number
abbrev pub rows_text : List (List Value) → List ℕ
rows_text rows = counted_lines row_text (codes "rows ") rows

-- #key for the index on the key, or the name of another index
abbrev pub index_text : IndexId → List ℕ
index_text id.Key = codes "#key"
index_text (id.Named name) = name

-- how the rows of a table are found
abbrev pub access_method_text : PlanLine → List ℕ
access_method_text (line.Scan alias) = codes " scan"
access_method_text (line.Hash alias index) = codes " hash " ++ index
access_method_text (line.TreeEqual alias index) = codes " tree " ++ index_text index ++ codes " ="
access_method_text (line.TreeRange alias index) = codes " tree " ++ index_text index ++ codes " range"
access_method_text (line.Precomputed alias field) = codes " precomputed " ++ field.alias ++ 46 ∷ field.column
access_method_text (line.TreeMerge alias outer inner) = codes " tree merge " ++ index_text outer ++ 32 ∷ index_text inner
access_method_text (line.TreeJoin alias index) = codes " tree join " ++ index_text index
access_method_text (line.HashJoin alias index) = codes " hash join " ++ index
access_method_text (line.BuiltHash alias column) = codes " built hash " ++ column
access_method_text (line.NestedLoops alias) = codes " nested loops"

-- a line of a plan, without its line feed
abbrev pub line_text : PlanLine → List ℕ
line_text step = line_alias step ++ access_method_text step

-- a line for each line of a plan, and then their number
abbrev pub steps_text : List PlanLine → List ℕ
steps_text steps = counted_lines line_text (codes "steps ") steps

-- after a space, the rule for deleting referenced rows as in TABLE: CASCADE, or nothing
abbrev pub on_delete_text : OnDelete → List ℕ
on_delete_text Restrict = []
on_delete_text Cascade = 32 ∷ keyword_text keyword.Cascade

-- after a space, the role of a column as in TABLE: KEY, REF name [CASCADE], or nothing
abbrev pub role_text : Role → List ℕ
role_text role.Key = 32 ∷ keyword_text keyword.Key
role_text role.Plain = []
role_text (role.Reference table on_delete) = 32 ∷ keyword_text keyword.Ref ++ 32 ∷ table ++ on_delete_text on_delete

-- a column as in TABLE
abbrev pub column_text : Column → List ℕ
column_text column = column.name ++ 32 ∷ keyword_text (type_word column.col_type) ++ role_text column.role

-- columns, separated by a comma and a space
abbrev pub columns_text : List Column → List ℕ
columns_text [] = []
columns_text (c ∷ []) = column_text c
columns_text (c ∷ d ∷ cs) = column_text c ++ 44 ∷ 32 ∷ columns_text (d ∷ cs)

-- the end of a line with the number of rows
abbrev pub rows_listed : ℕ → List ℕ
rows_listed n = codes " rows " ++ decimal n ++ 10 ∷ []

-- an index as the INDEX that creates it: INDEX name ON name (name) kind
abbrev pub index_listed : IndexDef → List ℕ
index_listed index =
    codes "INDEX " ++ index.name ++ codes " ON " ++ index.table ++ codes " (" ++ index.column ++ codes ") " ++ keyword_text (kind_word index.kind)

-- the line of an index
abbrev pub index_line : IndexDef → List ℕ
index_line index = index_listed index ++ 10 ∷ []

-- a table as the TABLE that creates it: TABLE name (column, ..)
abbrev pub table_listed : TableDef → List ℕ
table_listed definition = codes "TABLE " ++ definition.name ++ (codes " (" ++ columns_text definition.columns ++ codes ")")

-- the line of a table
abbrev pub table_line : ListedTable → List ℕ
table_line listed = table_listed listed.table.definition ++ rows_listed listed.rows

-- the line of a table, and then one for each of its indexes
abbrev pub table_lines : ListedTable → List ℕ
table_lines listed = table_line listed ++ flat_map index_line listed.table.indexes

-- the line of a standing query: WATCH name rows n
abbrev pub query_line : ListedQuery → List ℕ
query_line listed = codes "WATCH " ++ listed.name ++ rows_listed listed.rows

-- the lines of all tables, then those of all standing queries, and then the number of tables
abbrev pub listing_text : Listed → List ℕ
listing_text listing =
    flat_map table_lines listing.tables ++ flat_map query_line listing.standing ++ (codes "tables " ++ decimal (length listing.tables) ++ 10 ∷ [])

-- each line of a reply ends with a line feed
abbrev pub reply_text : Reply → List ℕ
reply_text Done = codes "ok" ++ 10 ∷ []
reply_text (Count n) = codes "ok " ++ decimal n ++ 10 ∷ []
reply_text (Rows rows) = rows_text rows
reply_text (Steps steps) = steps_text steps
reply_text (Listing listing) = listing_text listing
reply_text (Refused refusal) = codes "error " ++ decimal (refusal_number refusal) ++ 32 ∷ refusal_text refusal ++ 10 ∷ []

-- the text of a reply, if there is one
abbrev pub text_of : Option Reply → List ℕ
text_of None = []
text_of (Some reply) = reply_text reply

-- The aliases in the lines of a plan are names. Other replies have none.
abbrev pub HasNames : Reply → Type 0
HasNames (Steps steps) = All (λ (step : PlanLine). IsName (line_alias step)) steps
HasNames _ = Unit {0}

-- The names of a table, of its columns and of the tables that they refer to are names.
abbrev pub HasTableNames : TableDef → Type 0
HasTableNames definition = IsName definition.name × All (λ (c : Column). IsName c.name × IfSome (target_of c) IsName) definition.columns

-- The names of an index, of its table and of its column are names.
abbrev pub HasIndexNames : IndexDef → Type 0
HasIndexNames index = IsName index.name × IsName index.table × IsName index.column
