-- The grammar: how commands are spelled.
use Rattle.std.specs.Prelude.{◌≡◌, ◌⊎◌, ℕ, Bool, true, false, List, [], ◌∷◌, ◌++◌, ℤ, pos}
use Rattle.std.specs.Str.Parse.{digits_value}
use Rattle.std.proofs.Math.IntN.{neg_ℤ}
use Rattle.mm_schema.specs.Columns.{key_count}
use Rattle.mm_schema.specs.Name.{IsName}
use Rattle.mm_schema.specs.declared.column.Column.{Column}
use Rattle.mm_schema.specs.declared.column.OnDelete.{OnDelete}
use Rattle.mm_schema.specs.declared.column.OnDelete.TheVariants.{Cascade, Restrict}
use Rattle.mm_schema.specs.declared.column.Role.{Role}
use Rattle.mm_schema.specs.declared.column.Role.TheVariants as role
use Rattle.mm_schema.specs.declared.index.IndexKind.{IndexKind}
use Rattle.mm_schema.specs.declared.index.IndexKind.TheVariants as kind
use Rattle.mm_value.specs.Literal.{IsNumeral}
use Rattle.mm_value.specs.declared.col_type.ColType.{ColType}
use Rattle.mm_value.specs.declared.col_type.ColType.TheVariants as type
use Rattle.mm_value.specs.declared.values.Value.{Value}
use Rattle.mm_value.specs.declared.values.Value.TheVariants as value
use Rattle.mm_query.specs.declared.atom.Assignment.{Assignment}
use Rattle.mm_query.specs.declared.atom.Atom.{Atom}
use Rattle.mm_query.specs.declared.atom.Comparison.{Comparison}
use Rattle.mm_query.specs.declared.atom.Comparison.TheVariants as compared
use Rattle.mm_query.specs.declared.atom.Operand.{Operand}
use Rattle.mm_query.specs.declared.atom.Operand.TheVariants as operand
use Rattle.mm_query.specs.declared.command.Command.{Command}
use Rattle.mm_query.specs.declared.command.Command.TheVariants as command
use Rattle.mm_query.specs.declared.command.Definition.TheVariants as define
use Rattle.mm_query.specs.declared.command.Mutation.TheVariants as change
use Rattle.mm_query.specs.Fields.{FieldName}
use Rattle.mm_query.specs.declared.query.FromItem.{FromItem}
use Rattle.mm_query.specs.declared.query.Query.{Query}
use Rattle.mm_lang.specs.declared.read.keyword.Keyword.{Keyword}
use Rattle.mm_lang.specs.declared.read.keyword.Keyword.TheVariants as keyword
use Rattle.mm_lang.specs.declared.read.token.Symbol.{Symbol}
use Rattle.mm_lang.specs.declared.read.token.Symbol.TheVariants.{Open, Close, Comma, Dot, Equal, Less, AtMost, Greater, AtLeast, Plus, Minus}
use Rattle.mm_lang.specs.Tokens.{Token, Word, Signed, Quoted, Mark, Hole}
use Rattle.mm_lang.specs.Words.{keyword_text}

abbrev pub word : Keyword → Token
word keyword = Word (keyword_text keyword)

-- A literal: digits, digits directly after a minus, or a text in quotes; or a hole, which is 0.
abbrev pub SpellsLiteral : Token → Value → Type 0
SpellsLiteral (Word digits) (value.Int z) = IsNumeral digits × (z ≡ pos (digits_value 10 digits))
SpellsLiteral (Signed digits) (value.Int z) = IsNumeral digits × (z ≡ neg_ℤ (pos (digits_value 10 digits)))
SpellsLiteral (Quoted said) (value.Text text) = text ≡ said
SpellsLiteral Hole (value.Int z) = z ≡ pos 0
SpellsLiteral token literal = ⊥

-- A single token.
abbrev pub SpellsOne : {A : Type 0} → (Token → A → Type 0) → List Token → A → Type 0
SpellsOne Spells ts x = (t : Token) × Spells t x × (ts ≡ t ∷ [])

-- x, .. : one or more, separated by a separator
abbrev pub SpellsList : {A : Type 0} → Token → (List Token → A → Type 0) → List Token → List A → Type 0
SpellsList separator Spells ts [] = ⊥
SpellsList separator Spells ts (x ∷ []) = Spells ts x
SpellsList separator Spells ts (x ∷ y ∷ xs) =
    (first others : List Token) × Spells first x × SpellsList separator Spells others (y ∷ xs) × (ts ≡ first ++ separator ∷ others)

-- [KEYWORD x, ..] : nothing, or a keyword and one or more items after it, separated by a separator
abbrev pub SpellsClause : {A : Type 0} → Keyword → Token → (List Token → A → Type 0) → List Token → List A → Type 0
SpellsClause keyword separator Spells ts [] = ts ≡ []
SpellsClause keyword separator Spells ts (x ∷ xs) = (inner : List Token) × SpellsList separator Spells inner (x ∷ xs) × (ts ≡ word keyword ∷ inner)

-- ( x )
abbrev pub SpellsInParentheses : {A : Type 0} → (List Token → A → Type 0) → List Token → A → Type 0
SpellsInParentheses Spells ts x = (inner : List Token) × Spells inner x × (ts ≡ Mark Open ∷ inner ++ Mark Close ∷ [])

-- tuple = ( literal, .. )
abbrev pub SpellsTuple : List Token → List Value → Type 0
SpellsTuple ts values = SpellsInParentheses (SpellsList (Mark Comma) (SpellsOne SpellsLiteral)) ts values

-- type = INT | TEXT
abbrev pub type_word : ColType → Keyword
type_word type.Int = keyword.Int
type_word type.Text = keyword.Text

-- [CASCADE]
abbrev pub SpellsOnDelete : List Token → OnDelete → Type 0
SpellsOnDelete ts Restrict = ts ≡ []
SpellsOnDelete ts Cascade = ts ≡ word keyword.Cascade ∷ []

-- coldef = name type [KEY | REF name [CASCADE]]
abbrev pub SpellsRole : List Token → Role → Type 0
SpellsRole ts role.Key = ts ≡ word keyword.Key ∷ []
SpellsRole ts role.Plain = ts ≡ []
SpellsRole ts (role.Reference table on_delete) =
    (behind : List Token) × IsName table × SpellsOnDelete behind on_delete × (ts ≡ word keyword.Ref ∷ Word table ∷ behind)

abbrev pub SpellsColumn : List Token → Column → Type 0
SpellsColumn ts column =
    (behind : List Token) × IsName column.name × SpellsRole behind column.role × (ts ≡ Word column.name ∷ word (type_word column.col_type) ∷ behind)

-- kind = TREE | HASH
abbrev pub kind_word : IndexKind → Keyword
kind_word kind.Tree = keyword.Tree
kind_word kind.Hash = keyword.Hash

-- + digits | - digits, where blanks may separate the minus from its digits
abbrev pub SpellsDigits : List Token → ℤ → Type 0
SpellsDigits ts z = (digits : List ℕ) × IsNumeral digits
    × (((ts ≡ Mark Plus ∷ Word digits ∷ []) × (z ≡ pos (digits_value 10 digits)))
    ⊎ (((ts ≡ Mark Minus ∷ Word digits ∷ []) ⊎ (ts ≡ Signed digits ∷ [])) × (z ≡ neg_ℤ (pos (digits_value 10 digits)))))

-- + hole | - hole, where the hole is 1
abbrev pub SpellsUnit : List Token → ℤ → Type 0
SpellsUnit ts z = ((ts ≡ Mark Plus ∷ Hole ∷ []) × (z ≡ pos 1)) ⊎ ((ts ≡ Mark Minus ∷ Hole ∷ []) × (z ≡ neg_ℤ (pos 1)))

-- shift = + digits | - digits | + hole | - hole
abbrev pub SpellsShift : List Token → ℤ → Type 0
SpellsShift ts z = SpellsDigits ts z ⊎ SpellsUnit ts z

-- A column of the table that the command names: name
abbrev pub SpellsName : List Token → List ℕ → Type 0
SpellsName ts name = IsName name × (ts ≡ Word name ∷ [])

-- A column of a table of FROM: name . name
abbrev pub SpellsField : List Token → FieldName → Type 0
SpellsField ts field = IsName field.alias × IsName field.column × (ts ≡ Word field.alias ∷ Mark Dot ∷ Word field.column ∷ [])

-- literal | column [shift], given how columns are spelled
abbrev pub SpellsOperandOn : {F : Type 0} → (List Token → F → Type 0) → List Token → Operand F → Type 0
SpellsOperandOn SpellsColumn ts (operand.Literal value) = SpellsOne SpellsLiteral ts value
SpellsOperandOn SpellsColumn ts (operand.Column column) = SpellsColumn ts column
SpellsOperandOn SpellsColumn ts (operand.Shifted column by) =
    (name shift : List Token) × SpellsColumn name column × SpellsShift shift by × (ts ≡ name ++ shift)

-- op = = | < | <= | > | >=
abbrev pub comparison_symbol : Comparison → Symbol
comparison_symbol compared.Equal = Equal
comparison_symbol compared.Less = Less
comparison_symbol compared.LessOrEqual = AtMost
comparison_symbol compared.Greater = Greater
comparison_symbol compared.GreaterOrEqual = AtLeast

-- test = column op literal | column op column [shift], given how columns are spelled
abbrev pub SpellsTestOn : {F : Type 0} → (List Token → F → Type 0) → List Token → Atom F → Type 0
SpellsTestOn SpellsColumn ts test =
    (left right : List Token) × SpellsColumn left test.left × SpellsOperandOn SpellsColumn right test.right
    × (ts ≡ left ++ Mark (comparison_symbol test.comparison) ∷ right)

-- assign = name = literal | name = name [shift]
abbrev pub SpellsAssignment : List Token → Assignment (List ℕ) → Type 0
SpellsAssignment ts assignment =
    (source : List Token) × IsName assignment.column × SpellsOperandOn SpellsName source assignment.source
    × (ts ≡ Word assignment.column ∷ Mark Equal ∷ source)

-- [WHERE test AND test ..], given how columns are spelled
abbrev pub SpellsTestsOn : {F : Type 0} → (List Token → F → Type 0) → List Token → List (Atom F) → Type 0
SpellsTestsOn SpellsColumn ts tests = SpellsClause keyword.Where (word keyword.And) (SpellsTestOn SpellsColumn) ts tests

-- A table of FROM and its alias: name name
abbrev pub SpellsFromItem : List Token → FromItem → Type 0
SpellsFromItem ts item = IsName item.table × IsName item.alias × (ts ≡ Word item.table ∷ Word item.alias ∷ [])

-- [DISTINCT]
abbrev pub SpellsDistinct : List Token → Bool → Type 0
SpellsDistinct ts true = ts ≡ word keyword.Distinct ∷ []
SpellsDistinct ts false = ts ≡ []

-- A position of ORDER: digits.
abbrev pub SpellsPosition : Token → ℕ → Type 0
SpellsPosition (Word digits) position = IsNumeral digits × (position ≡ digits_value 10 digits)
SpellsPosition token position = ⊥

-- [ORDER digits, ..]
abbrev pub SpellsOrder : List Token → List ℕ → Type 0
SpellsOrder ts positions = SpellsClause keyword.Order (Mark Comma) (SpellsOne SpellsPosition) ts positions

-- query = [DISTINCT] field, .. FROM name name, .. [WHERE test AND test ..] [ORDER digits, ..]
abbrev pub SpellsQuery : List Token → Query → Type 0
SpellsQuery ts query =
    (distinct fields from where_tests order : List Token) × SpellsDistinct distinct query.distinct
    × SpellsList (Mark Comma) SpellsField fields query.fields × SpellsList (Mark Comma) SpellsFromItem from query.from
    × SpellsTestsOn SpellsField where_tests query.atoms × SpellsOrder order query.order
    × (ts ≡ distinct ++ fields ++ word keyword.From ∷ from ++ where_tests ++ order)

-- command = TABLE name ( coldef, .. ) with exactly one KEY
--         | DROP TABLE name
--         | INDEX name ON name ( name ) kind
--         | DROP INDEX name
--         | INSERT name tuple, ..
--         | UPDATE name SET assign, .. [WHERE test AND test ..]
--         | DELETE name [WHERE test AND test ..]
--         | SCAN name
--         | SCAN INDEX name
--         | SELECT query
--         | EXPLAIN SELECT query
--         | WATCH name SELECT query
--         | UNWATCH name
--         | SHOW name
--         | TABLES
--         | BEGIN
--         | COMMIT
--         | ROLLBACK
--         | SAVEPOINT name
--         | ROLLBACK TO name
abbrev pub SpellsCommand : List Token → Command → Type 0
SpellsCommand ts command.Nothing = ⊥
SpellsCommand ts (command.Define (define.Table definition)) =
    (columns : List Token) × IsName definition.name × (key_count definition.columns ≡ 1)
    × SpellsInParentheses (SpellsList (Mark Comma) SpellsColumn) columns definition.columns
    × (ts ≡ word keyword.Table ∷ Word definition.name ∷ columns)
SpellsCommand ts (command.Define (define.DropTable name)) = IsName name × (ts ≡ word keyword.Drop ∷ word keyword.Table ∷ Word name ∷ [])
SpellsCommand ts (command.Define (define.Index index)) =
    IsName index.name × IsName index.table × IsName index.column
    × (ts ≡ word keyword.Index ∷ Word index.name ∷ word keyword.On ∷ Word index.table ∷ Mark Open ∷ Word index.column ∷ Mark Close
    ∷ word (kind_word index.kind) ∷ [])
SpellsCommand ts (command.Define (define.DropIndex name)) = IsName name × (ts ≡ word keyword.Drop ∷ word keyword.Index ∷ Word name ∷ [])
SpellsCommand ts (command.Define (define.Watch watched)) =
    (behind : List Token) × IsName watched.name × SpellsQuery behind watched.query
    × (ts ≡ word keyword.Watch ∷ Word watched.name ∷ word keyword.Select ∷ behind)
SpellsCommand ts (command.Define (define.Unwatch name)) = IsName name × (ts ≡ word keyword.Unwatch ∷ Word name ∷ [])
SpellsCommand ts (command.Change (change.Insert table tuples)) =
    (inner : List Token) × IsName table × SpellsList (Mark Comma) SpellsTuple inner tuples × (ts ≡ word keyword.Insert ∷ Word table ∷ inner)
SpellsCommand ts (command.Change (change.Update table assignments tests)) =
    (set where_tests : List Token) × IsName table × SpellsList (Mark Comma) SpellsAssignment set assignments × SpellsTestsOn SpellsName where_tests tests
    × (ts ≡ word keyword.Update ∷ Word table ∷ word keyword.Set ∷ set ++ where_tests)
SpellsCommand ts (command.Change (change.Delete table tests)) =
    (where_tests : List Token) × IsName table × SpellsTestsOn SpellsName where_tests tests × (ts ≡ word keyword.Delete ∷ Word table ∷ where_tests)
SpellsCommand ts (command.Scan table) = IsName table × (ts ≡ word keyword.Scan ∷ Word table ∷ [])
SpellsCommand ts (command.ScanIndex index) = IsName index × (ts ≡ word keyword.Scan ∷ word keyword.Index ∷ Word index ∷ [])
SpellsCommand ts (command.Select query) = (behind : List Token) × SpellsQuery behind query × (ts ≡ word keyword.Select ∷ behind)
SpellsCommand ts (command.Explain query) =
    (behind : List Token) × SpellsQuery behind query × (ts ≡ word keyword.Explain ∷ word keyword.Select ∷ behind)
SpellsCommand ts (command.Show name) = IsName name × (ts ≡ word keyword.Show ∷ Word name ∷ [])
SpellsCommand ts command.Tables = ts ≡ word keyword.Tables ∷ []
SpellsCommand ts command.Begin = ts ≡ word keyword.Begin ∷ []
SpellsCommand ts command.Commit = ts ≡ word keyword.Commit ∷ []
SpellsCommand ts command.Rollback = ts ≡ word keyword.Rollback ∷ []
SpellsCommand ts (command.Savepoint name) = IsName name × (ts ≡ word keyword.Savepoint ∷ Word name ∷ [])
SpellsCommand ts (command.RollbackTo name) = IsName name × (ts ≡ word keyword.Rollback ∷ word keyword.To ∷ Word name ∷ [])
