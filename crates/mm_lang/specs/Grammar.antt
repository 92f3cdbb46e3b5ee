-- The parser as a definition: how tokens are read, from left to right.
use Rattle.std.specs.Prelude.{ℕ, ◌==◌, Bool, true, false, if◌then◌else◌, List, ◌∷◌, Option, Some, None, ℤ, pos, negsuc}
use Rattle.std.specs.Option.{option_and_then}
use Rattle.std.specs.Str.Parse.{digits_value}
use Rattle.std.proofs.Math.IntN.{neg_ℤ}
use Rattle.mm_schema.specs.Columns.{key_count}
use Rattle.mm_schema.specs.Name.{is_name}
use Rattle.mm_schema.specs.declared.column.Column.{Column}
use Rattle.mm_schema.specs.declared.column.OnDelete.{OnDelete}
use Rattle.mm_schema.specs.declared.column.OnDelete.TheVariants.{Cascade, Restrict}
use Rattle.mm_schema.specs.declared.column.Role.{Role}
use Rattle.mm_schema.specs.declared.column.Role.TheVariants.{Plain, Key, Reference}
use Rattle.mm_schema.specs.declared.index.IndexKind.{IndexKind}
use Rattle.mm_schema.specs.declared.index.IndexKind.TheVariants as kind
use Rattle.mm_value.specs.Literal.{is_numeral}
use Rattle.mm_value.specs.Reading.{signed_value}
use Rattle.mm_value.specs.declared.col_type.ColType.{ColType}
use Rattle.mm_value.specs.declared.col_type.ColType.TheVariants as type
use Rattle.mm_value.specs.declared.values.Value.{Value}
use Rattle.mm_value.specs.declared.values.Value.TheVariants as value
use Rattle.mm_query.specs.declared.atom.Assignment.{Assignment}
use Rattle.mm_query.specs.declared.atom.Atom.{Atom}
use Rattle.mm_query.specs.declared.atom.Comparison.{Comparison}
use Rattle.mm_query.specs.declared.atom.Comparison.TheVariants as compared
use Rattle.mm_query.specs.declared.atom.Operand.{Operand}
use Rattle.mm_query.specs.declared.atom.Operand.TheVariants as kind_of
use Rattle.mm_query.specs.declared.command.Command.{Command}
use Rattle.mm_query.specs.declared.command.Command.TheVariants as command
use Rattle.mm_query.specs.declared.command.Definition.TheVariants as define
use Rattle.mm_query.specs.declared.command.Mutation.TheVariants as change
use Rattle.mm_query.specs.Fields.{FieldName}
use Rattle.mm_query.specs.declared.query.FromItem.{FromItem}
use Rattle.mm_query.specs.declared.query.Query.{Query}
use Rattle.mm_lang.specs.declared.read.keyword.Keyword.{Keyword}
use Rattle.mm_lang.specs.declared.read.keyword.Keyword.TheVariants as keyword
use Rattle.mm_lang.specs.declared.read.phrase.Separator.TheVariants.{And}
use Rattle.mm_lang.specs.declared.read.token.Symbol.{Symbol}
use Rattle.mm_lang.specs.declared.read.token.Symbol.TheVariants as symbol
use Rattle.mm_lang.specs.Phrases.{Phrase, ◌>>=◌, ◌>>◌, say, never, one, one_word, word_of, mark_of, the_symbol, the_keyword, the_separator, only_if, maybe}
use Rattle.mm_lang.specs.Phrases.{has_keyword, list_of, clause, in_parentheses, whole}
use Rattle.mm_lang.specs.Tokens.{Token, Word, Signed, Quoted, Mark, Hole, Unreadable}
use Rattle.mm_lang.specs.Words.{keyword_named}

-- A name.
abbrev pub name : Phrase (List ℕ)
name = one_word (λ word. if is_name word then Some word else None)

-- The literal that a token denotes, of any size. A hole is 0 until a value is given.
abbrev pub literal_of : Token → Option Value
literal_of (Word word) = if is_numeral word then Some (value.Int (pos (digits_value 10 word))) else None
literal_of (Signed word) = if is_numeral word then Some (value.Int (neg_ℤ (pos (digits_value 10 word)))) else None
literal_of (Quoted text) = Some (value.Text text)
literal_of (Mark mark) = None
literal_of Hole = Some (value.Int (pos 0))
literal_of Unreadable = None

-- The type that a keyword denotes.
abbrev pub type_named : Keyword → Option ColType
type_named keyword.Int = Some type.Int
type_named keyword.Text = Some type.Text
type_named _ = None

-- The type that a word denotes.
abbrev pub col_type : Phrase ColType
col_type = one_word (λ word. option_and_then type_named (keyword_named word))

-- The kind of index that a keyword denotes.
abbrev pub kind_named : Keyword → Option IndexKind
kind_named keyword.Tree = Some kind.Tree
kind_named keyword.Hash = Some kind.Hash
kind_named _ = None

-- The kind of index that a word denotes.
abbrev pub index_kind : Phrase IndexKind
index_kind = one_word (λ word. option_and_then kind_named (keyword_named word))

-- x, .. : one or more, separated by commas
abbrev pub comma_list : {A : Type 0} → Phrase A → Phrase (List A)
comma_list item = list_of (the_symbol symbol.Comma) item

-- The comparison that a symbol denotes.
abbrev pub comparison_of : Symbol → Option Comparison
comparison_of symbol.Equal = Some compared.Equal
comparison_of symbol.Less = Some compared.Less
comparison_of symbol.AtMost = Some compared.LessOrEqual
comparison_of symbol.Greater = Some compared.Greater
comparison_of symbol.AtLeast = Some compared.GreaterOrEqual
comparison_of _ = None

-- op = = | < | <= | > | >=
abbrev pub comparison : Phrase Comparison
comparison = one (λ t. option_and_then comparison_of (mark_of t))

-- The value of a word of digits that was read, of any size, negated after a minus.
abbrev pub numbered : Bool → List ℕ → Phrase (Option ℤ)
numbered is_negative word = only_if (is_numeral word) (say (Some (signed_value is_negative word)))

-- Digits as a number of any size, negated after a minus.
abbrev pub digits : Bool → Phrase (Option ℤ)
digits is_negative = one word_of >>= numbered is_negative

-- A shift by one, up or down.
abbrev pub unit_shift : Bool → ℤ
unit_shift true = negsuc 0
unit_shift false = pos 1

-- After a sign: digits, or a hole, which is 1 until a value is given.
abbrev pub behind_sign : Bool → Phrase (Option ℤ)
behind_sign is_negative (Hole ∷ ts) = Some (Some (unit_shift is_negative), ts)
behind_sign is_negative ts = digits is_negative ts

-- [+ digits | - digits]: blanks may separate the minus from its digits. A hole may replace the digits.
unfoldable pub shift : Phrase (Option ℤ)
shift (Mark symbol.Plus ∷ ts) = behind_sign false ts
shift (Mark symbol.Minus ∷ ts) = behind_sign true ts
shift (Signed word ∷ ts) = numbered true word ts
shift ts = Some (None, ts)

-- A column, with a shift if there is one.
abbrev pub with_shift : {F : Type 0} → F → Option ℤ → Operand F
with_shift column None = kind_of.Column column
with_shift column (Some by) = kind_of.Shifted column by

-- After a literal: nothing. Otherwise: a column and [shift].
abbrev pub operand_behind : {F : Type 0} → Phrase F → Option Value → Phrase (Operand F)
operand_behind column (Some value) = say (kind_of.Literal value)
operand_behind column None = do
  its_name ← column
  by ← shift
  say (with_shift its_name by)

-- literal | column [shift], given the phrase of a column
unfoldable pub operand_on : {F : Type 0} → Phrase F → Phrase (Operand F)
operand_on column = maybe (one literal_of) >>= operand_behind column

-- test = column op literal | column op column [shift]
unfoldable pub test_on : {F : Type 0} → Phrase F → Phrase (Atom F)
test_on column = do
  left ← column
  how ← comparison
  right ← operand_on column
  say (record { left = left; comparison = how; right = right })

-- [WHERE test AND test ..]
abbrev pub tests_on : {F : Type 0} → Phrase F → Phrase (List (Atom F))
tests_on column = clause keyword.Where (the_separator And) (test_on column)

-- assign = name = literal | name = name [shift]
unfoldable pub assignment : Phrase (Assignment (List ℕ))
assignment = do
  column ← name
  the_symbol symbol.Equal
  source ← operand_on name
  say (record { column = column; source = source })

-- field = name . name
unfoldable pub field : Phrase FieldName
field = do
  alias ← name
  the_symbol symbol.Dot
  column ← name
  say (record { alias = alias; column = column })

-- A table of FROM and its alias: name name
unfoldable pub from_item : Phrase FromItem
from_item = do
  table ← name
  alias ← name
  say (record { table = table; alias = alias })

-- A position of ORDER: digits, as a number of any size.
abbrev pub position : Phrase ℕ
position = one_word (λ word. if is_numeral word then Some (digits_value 10 word) else None)

-- [ORDER digits, ..]
abbrev pub order : Phrase (List ℕ)
order = clause keyword.Order (the_symbol symbol.Comma) position

-- The rule for deleting referenced rows: Cascade if CASCADE follows the table's name.
abbrev pub on_delete_of : Bool → OnDelete
on_delete_of true = Cascade
on_delete_of false = Restrict

-- [CASCADE], after REF and the name of a table
abbrev pub reference_to : List ℕ → Phrase Role
reference_to table = has_keyword keyword.Cascade >>= (λ there. say (Reference table (on_delete_of there)))

-- name [CASCADE] after REF, and otherwise nothing
abbrev pub reference : Bool → Phrase Role
reference true = name >>= reference_to
reference false = say Plain

-- nothing after KEY, and otherwise [REF name [CASCADE]]
abbrev pub role_behind : Bool → Phrase Role
role_behind true = say Key
role_behind false = has_keyword keyword.Ref >>= reference

-- [KEY | REF name [CASCADE]]
abbrev pub role : Phrase Role
role = has_keyword keyword.Key >>= role_behind

-- coldef = name type [KEY | REF name [CASCADE]]
unfoldable pub column : Phrase Column
column = do
  name ← name
  type ← col_type
  its_role ← role
  say (record { name = name; col_type = type; role = its_role })

-- tuple = ( literal, .. )
unfoldable pub tuple : Phrase (List Value)
tuple = in_parentheses (comma_list (one literal_of))

-- TABLE, followed by: name ( coldef, .. ) with exactly one KEY
unfoldable pub table : Phrase Command
table = do
  name ← name
  columns ← in_parentheses (comma_list column)
  only_if (key_count columns == 1) (say (command.Define (define.Table (record { name = name; columns = columns }))))

-- DROP TABLE or DROP INDEX, followed by: name
abbrev pub dropped : Keyword → Phrase Command
dropped keyword.Table = do
  name ← name
  say (command.Define (define.DropTable name))
dropped keyword.Index = do
  name ← name
  say (command.Define (define.DropIndex name))
dropped _ = never

-- DROP, followed by: TABLE name | INDEX name
unfoldable pub drop : Phrase Command
drop = one_word keyword_named >>= dropped

-- INDEX, followed by: name ON name ( name ) kind
unfoldable pub index : Phrase Command
index = do
  index_name ← name
  the_keyword keyword.On
  table ← name
  column ← in_parentheses name
  kind ← index_kind
  say (command.Define (define.Index (record { name = index_name; table = table; column = column; kind = kind })))

-- INSERT, followed by: name tuple, ..
unfoldable pub insert : Phrase Command
insert = do
  table ← name
  tuples ← comma_list tuple
  say (command.Change (change.Insert table tuples))

-- SCAN INDEX of an index, or SCAN of a table.
abbrev pub scan_of : Bool → List ℕ → Command
scan_of true index = command.ScanIndex index
scan_of false table = command.Scan table

-- UPDATE, followed by: name SET assign, .. [WHERE test AND test ..]
unfoldable pub update : Phrase Command
update = do
  table ← name
  the_keyword keyword.Set
  assignments ← comma_list assignment
  asked ← tests_on name
  say (command.Change (change.Update table assignments asked))

-- DELETE, followed by: name [WHERE test AND test ..]
unfoldable pub delete : Phrase Command
delete = do
  table ← name
  asked ← tests_on name
  say (command.Change (change.Delete table asked))

-- SCAN, followed by: name | INDEX name
unfoldable pub scan : Phrase Command
scan = do
  by_index ← has_keyword keyword.Index
  name ← name
  say (scan_of by_index name)

-- query = [DISTINCT] field, .. FROM name name, .. [WHERE test AND test ..] [ORDER digits, ..]
unfoldable pub query : Phrase Query
query = do
  distinct ← has_keyword keyword.Distinct
  fields ← comma_list field
  the_keyword keyword.From
  from ← comma_list from_item
  asked ← tests_on field
  positions ← order
  say (record { distinct = distinct; fields = fields; from = from; atoms = asked; order = positions })

-- SELECT, followed by: query
unfoldable pub select : Phrase Command
select = do
  asked ← query
  say (command.Select asked)

-- SHOW, followed by: name
unfoldable pub show : Phrase Command
show = do
  name ← name
  say (command.Show name)

-- UNWATCH, followed by: name
unfoldable pub unwatch : Phrase Command
unwatch = do
  name ← name
  say (command.Define (define.Unwatch name))

-- WATCH, followed by: name SELECT query
unfoldable pub watch : Phrase Command
watch = do
  its_name ← name
  the_keyword keyword.Select
  asked ← query
  say (command.Define (define.Watch (record { name = its_name; query = asked })))

-- EXPLAIN, followed by: SELECT query
unfoldable pub explain : Phrase Command
explain = do
  the_keyword keyword.Select
  asked ← query
  say (command.Explain asked)

-- SAVEPOINT, followed by: name
unfoldable pub savepoint : Phrase Command
savepoint = do
  name ← name
  say (command.Savepoint name)

-- ROLLBACK TO, followed by: name; or ROLLBACK
abbrev pub rolled_back : Bool → Phrase Command
rolled_back true = name >>= (λ name. say (command.RollbackTo name))
rolled_back false = say command.Rollback

-- ROLLBACK, followed by: nothing, or TO name
unfoldable pub rollback : Phrase Command
rollback = do
  to ← has_keyword keyword.To
  rolled_back to

-- the rest of a command after its first keyword
abbrev pub command_behind : Keyword → Phrase Command
command_behind keyword.Begin = say command.Begin
command_behind keyword.Commit = say command.Commit
command_behind keyword.Delete = delete
command_behind keyword.Drop = drop
command_behind keyword.Explain = explain
command_behind keyword.Index = index
command_behind keyword.Insert = insert
command_behind keyword.Rollback = rollback
command_behind keyword.Savepoint = savepoint
command_behind keyword.Scan = scan
command_behind keyword.Select = select
command_behind keyword.Show = show
command_behind keyword.Table = table
command_behind keyword.Tables = say command.Tables
command_behind keyword.Unwatch = unwatch
command_behind keyword.Update = update
command_behind keyword.Watch = watch
command_behind _ = never

-- The command that tokens read as, with numbers and texts of any size, and with a number in place of each hole.
unfoldable pub command_of : List Token → Option Command
command_of = whole (one_word keyword_named >>= command_behind)
