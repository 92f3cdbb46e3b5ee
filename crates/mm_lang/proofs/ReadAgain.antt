-- Listed tables and indexes read as the commands that create them.
use Rattle.std.proofs.Common.{◌≡◌, ℕ, Bool, true, false, ◌||◌, eqb, List, [], ◌∷◌, ◌++◌, Some, codes, nat_le, ◌&&◌, refl, sym, ap, ◌∙◌, append_assoc, arith}
use Rattle.std.specs.Prelude.{IfSome}
use Rattle.std.specs.List.{AllByRecursion, list_all}
use Rattle.std.proofs.lemmas.Bool.{and_parts, false≢true}
use Rattle.std.proofs.lemmas.List.Elements.{recursion_from_All}
use Rattle.mm_schema.specs.Columns.{key_count, target_of}
use Rattle.mm_schema.specs.Name.{IsName, is_lower, is_name_byte, is_name_text}
use Rattle.mm_schema.specs.declared.column.Column.{Column}
use Rattle.mm_schema.specs.declared.column.OnDelete.{OnDelete}
use Rattle.mm_schema.specs.declared.column.OnDelete.TheVariants.{Cascade, Restrict}
use Rattle.mm_schema.specs.declared.column.Role.{Role}
use Rattle.mm_schema.specs.declared.column.Role.TheVariants as role
use Rattle.mm_schema.specs.declared.index.IndexDef.{IndexDef}
use Rattle.mm_schema.specs.declared.index.IndexKind.{IndexKind}
use Rattle.mm_schema.specs.declared.index.IndexKind.TheVariants as kind
use Rattle.mm_schema.specs.declared.table.TableDef.{TableDef}
use Rattle.mm_value.specs.declared.col_type.ColType.{ColType}
use Rattle.mm_value.specs.declared.col_type.ColType.TheVariants as type
use Rattle.mm_query.specs.declared.command.Command.TheVariants as command
use Rattle.mm_query.specs.declared.command.Definition.TheVariants as define
use Rattle.mm_lang.specs.declared.read.keyword.Keyword.TheVariants as keyword
use Rattle.mm_lang.specs.declared.read.token.Symbol.TheVariants.{Open, Close, Comma}
use Rattle.mm_lang.specs.Grammar.{command_of}
use Rattle.mm_lang.specs.ReplyText.{HasIndexNames, HasTableNames, column_text, columns_text, index_listed, on_delete_text, role_text, table_listed}
use Rattle.mm_lang.specs.Spelling.{SpellsColumn, SpellsList, SpellsOnDelete, SpellsRole, kind_word, type_word, word}
use Rattle.mm_lang.specs.Tokens.{Token, Word, Mark, begins_word, is_word_byte, lexed, onto_word, tokens}
use Rattle.mm_lang.specs.Words.{keyword_text}
use Rattle.mm_lang.proofs.Lexing.{tokens_blank, tokens_none, word_step}
use Rattle.mm_lang.proofs.SpelledCommands.{command_spelled}

-- ---- words

-- A run of bytes of a word, followed by no such byte, is a token.
word_front : (w rest : List ℕ) → begins_word w ≡ true → list_all is_word_byte w ≡ true → begins_word rest ≡ false
    → tokens (w ++ rest) ≡ Word w ∷ tokens rest
word_front [] rest begins all ends = absurd (false≢true begins)
word_front (b ∷ []) rest begins all ends = word_step b rest begins ∙ ap (λ joins. onto_word b joins (tokens rest)) ends
word_front (b ∷ c ∷ cs) rest begins all ends =
    let behind = (and_parts (is_word_byte b) (list_all is_word_byte (c ∷ cs)) all).1 in
    let next = (and_parts (is_word_byte c) (list_all is_word_byte cs) behind).0 in
    word_step b (c ∷ cs ++ rest) begins ∙ ap (λ joins. onto_word b joins (tokens (c ∷ cs ++ rest))) next
    ∙ ap (onto_word b true) (word_front (c ∷ cs) rest next behind ends)

-- A byte of a name is a byte of a word, ..
byte_of_word : (b : ℕ) → is_name_byte b ≡ true → is_word_byte b ≡ true
byte_of_word b is = by (is_lower b) (nat_le 65 b && nat_le b 90) (nat_le 48 b && nat_le b 57) (eqb b 95) is
  where
    by : (lower upper digit under : Bool) → (lower || digit || under) ≡ true → (lower || upper || digit || under) ≡ true
    by true upper digit under is = refl
    by false true digit under is = refl
    by false false digit under is = is

bytes_of_word : (bs : List ℕ) → list_all is_name_byte bs ≡ true → list_all is_word_byte bs ≡ true
bytes_of_word [] all = refl
bytes_of_word (b ∷ bs) all =
    let p = and_parts (is_name_byte b) (list_all is_name_byte bs) all in
    λ i. byte_of_word b p.0 i && bytes_of_word bs p.1 i

letter_of_word : (b : ℕ) → is_lower b ≡ true → is_word_byte b ≡ true
letter_of_word b is = ap (λ l. l || (nat_le 65 b && nat_le b 90) || (nat_le 48 b && nat_le b 57) || eqb b 95) is

-- .. so a name is a token.
name_front : (n rest : List ℕ) → IsName n → begins_word rest ≡ false → tokens (n ++ rest) ≡ Word n ∷ tokens rest
name_front [] rest named ends = absurd (false≢true named)
name_front (b ∷ bs) rest named ends =
    let text = (and_parts (is_name_text (b ∷ bs)) _ named).0 in
    let p = and_parts (is_lower b) (list_all is_name_byte bs) text in
    let first = letter_of_word b p.0 in
    word_front (b ∷ bs) rest first (λ i. first i && bytes_of_word bs p.1 i) ends

blank_front : (bs : List ℕ) → tokens (32 ∷ bs) ≡ tokens bs
blank_front bs = tokens_blank 32 bs refl

comma_front : (bs : List ℕ) → tokens (44 ∷ bs) ≡ Mark Comma ∷ tokens bs
unfolding lexed
comma_front bs = refl

open_front : (bs : List ℕ) → tokens (40 ∷ bs) ≡ Mark Open ∷ tokens bs
unfolding lexed
open_front bs = refl

close_front : (bs : List ℕ) → tokens (41 ∷ bs) ≡ Mark Close ∷ tokens bs
unfolding lexed
close_front bs = refl

-- ---- columns

type_front : (t : ColType) (rest : List ℕ) → begins_word rest ≡ false → tokens (keyword_text (type_word t) ++ rest) ≡ word (type_word t) ∷ tokens rest
type_front type.Int rest ends = word_front (codes "INT") rest refl refl ends
type_front type.Text rest ends = word_front (codes "TEXT") rest refl refl ends

on_delete_tokens : OnDelete → List Token
on_delete_tokens Restrict = []
on_delete_tokens Cascade = word keyword.Cascade ∷ []

on_delete_ends : (d : OnDelete) (rest : List ℕ) → begins_word rest ≡ false → begins_word (on_delete_text d ++ rest) ≡ false
on_delete_ends Restrict rest ends = ends
on_delete_ends Cascade rest ends = refl

on_delete_front : (d : OnDelete) (rest : List ℕ) → begins_word rest ≡ false → tokens (on_delete_text d ++ rest) ≡ on_delete_tokens d ++ tokens rest
unfolding on_delete_tokens
on_delete_front Restrict rest ends = refl
on_delete_front Cascade rest ends = blank_front (codes "CASCADE" ++ rest) ∙ word_front (codes "CASCADE") rest refl refl ends

on_delete_spells : (d : OnDelete) → SpellsOnDelete (on_delete_tokens d) d
unfolding on_delete_tokens
on_delete_spells Restrict = refl
on_delete_spells Cascade = refl

role_tokens : Role → List Token
role_tokens role.Key = word keyword.Key ∷ []
role_tokens role.Plain = []
role_tokens (role.Reference table on_delete) = word keyword.Ref ∷ Word table ∷ on_delete_tokens on_delete

-- the name of a column and that of its target are names
abbrev IsNamed : Column → Type 0
IsNamed c = IsName c.name × IfSome (target_of c) IsName

role_ends : (r : Role) (rest : List ℕ) → begins_word rest ≡ false → begins_word (role_text r ++ rest) ≡ false
role_ends role.Key rest ends = refl
role_ends role.Plain rest ends = ends
role_ends (role.Reference table on_delete) rest ends = refl

abbrev column_of_role : Role → Column
column_of_role r = record { name = []; col_type = type.Int; role = r }

role_front : (r : Role) (rest : List ℕ) → IfSome (target_of (column_of_role r)) IsName → begins_word rest ≡ false
    → tokens (role_text r ++ rest) ≡ role_tokens r ++ tokens rest
unfolding role_tokens
role_front role.Key rest named ends = blank_front (codes "KEY" ++ rest) ∙ word_front (codes "KEY") rest refl refl ends
role_front role.Plain rest named ends = refl
role_front (role.Reference table on_delete) rest named ends =
    let behind = on_delete_text on_delete ++ rest in
    ap (λ l. tokens (32 ∷ (codes "REF" ++ 32 ∷ l))) (append_assoc table (on_delete_text on_delete) rest)
    ∙ blank_front (codes "REF" ++ 32 ∷ (table ++ behind)) ∙ word_front (codes "REF") (32 ∷ (table ++ behind)) refl refl refl
    ∙ ap (λ l. word keyword.Ref ∷ l) (blank_front (table ++ behind) ∙ name_front table behind named (on_delete_ends on_delete rest ends)
    ∙ ap (λ l. Word table ∷ l) (on_delete_front on_delete rest ends))

role_spells : (r : Role) → IfSome (target_of (column_of_role r)) IsName → SpellsRole (role_tokens r) r
unfolding role_tokens
role_spells role.Key named = refl
role_spells role.Plain named = refl
role_spells (role.Reference table on_delete) named = (on_delete_tokens on_delete, named, on_delete_spells on_delete, refl)

column_tokens : Column → List Token
column_tokens c = Word c.name ∷ word (type_word c.col_type) ∷ role_tokens c.role

column_front : (c : Column) (rest : List ℕ) → IsNamed c → begins_word rest ≡ false → tokens (column_text c ++ rest) ≡ column_tokens c ++ tokens rest
unfolding column_tokens
column_front c rest named ends =
    let type = keyword_text (type_word c.col_type) in
    let behind = role_text c.role ++ rest in
    ap tokens (append_assoc (c.name ++ 32 ∷ type) (role_text c.role) rest ∙ append_assoc c.name (32 ∷ type) behind)
    ∙ name_front c.name (32 ∷ type ++ behind) named.0 refl
    ∙ ap (λ l. Word c.name ∷ l) (blank_front (type ++ behind) ∙ type_front c.col_type behind (role_ends c.role rest ends)
    ∙ ap (λ l. word (type_word c.col_type) ∷ l) (role_front c.role rest named.1 ends))

column_spells : (c : Column) → IsNamed c → SpellsColumn (column_tokens c) c
unfolding column_tokens
column_spells c named = (role_tokens c.role, named.0, role_spells c.role named.1, refl)

columns_tokens : List Column → List Token
columns_tokens [] = []
columns_tokens (c ∷ []) = column_tokens c
columns_tokens (c ∷ d ∷ cs) = column_tokens c ++ Mark Comma ∷ columns_tokens (d ∷ cs)

columns_front : (cs : List Column) (rest : List ℕ) → AllByRecursion IsNamed cs → begins_word rest ≡ false
    → tokens (columns_text cs ++ rest) ≡ columns_tokens cs ++ tokens rest
unfolding columns_tokens
columns_front [] rest named ends = refl
columns_front (c ∷ []) rest named ends = column_front c rest named.0 ends
columns_front (c ∷ d ∷ cs) rest named ends =
    let behind = columns_text (d ∷ cs) in
    ap tokens (append_assoc (column_text c) (44 ∷ 32 ∷ behind) rest)
    ∙ column_front c (44 ∷ 32 ∷ (behind ++ rest)) named.0 refl
    ∙ ap (λ l. column_tokens c ++ l) (comma_front (32 ∷ (behind ++ rest))
    ∙ ap (λ l. Mark Comma ∷ l) (blank_front (behind ++ rest) ∙ columns_front (d ∷ cs) rest named.1 ends))
    ∙ sym (append_assoc (column_tokens c) (Mark Comma ∷ columns_tokens (d ∷ cs)) (tokens rest))

columns_spell : (c : Column) (cs : List Column) → AllByRecursion IsNamed (c ∷ cs) → SpellsList (Mark Comma) SpellsColumn (columns_tokens (c ∷ cs)) (c ∷ cs)
unfolding columns_tokens
columns_spell c [] named = column_spells c named.0
columns_spell c (d ∷ ds) named = (column_tokens c, columns_tokens (d ∷ ds), column_spells c named.0, columns_spell d ds named.1, refl)

-- ---- tables

table_tokens : (definition : TableDef) → HasTableNames definition
    → tokens (table_listed definition)
    ≡ word keyword.Table ∷ Word definition.name ∷ Mark Open ∷ columns_tokens definition.columns ++ Mark Close ∷ []
table_tokens definition named =
    let columns = columns_text definition.columns in
    let behind = codes " (" ++ columns ++ codes ")" in
    word_front (codes "TABLE") (32 ∷ (definition.name ++ behind)) refl refl refl
    ∙ ap (λ l. word keyword.Table ∷ l) (blank_front (definition.name ++ behind) ∙ name_front definition.name behind named.0 refl
    ∙ ap (λ l. Word definition.name ∷ l) (blank_front (40 ∷ (columns ++ codes ")")) ∙ open_front (columns ++ codes ")")
    ∙ ap (λ l. Mark Open ∷ l) (columns_front definition.columns (codes ")") (recursion_from_All IsNamed definition.columns named.1) refl
    ∙ ap (λ l. columns_tokens definition.columns ++ l) (close_front [] ∙ ap (λ l. Mark Close ∷ l) tokens_none))))

columns_spelled : (cs : List Column) → key_count cs ≡ 1 → AllByRecursion IsNamed cs → SpellsList (Mark Comma) SpellsColumn (columns_tokens cs) cs
columns_spelled [] one named = let wrong : ◌≡◌ {A = ℕ} 0 1 = one in absurd (omega (arith, wrong))
columns_spelled (c ∷ cs) one named = columns_spell c cs named

pub table_again : (definition : TableDef) → HasTableNames definition → key_count definition.columns ≡ 1
    → command_of (tokens (table_listed definition)) ≡ Some (command.Define (define.Table definition))
table_again definition named one =
    let inner = columns_tokens definition.columns in
    command_spelled (tokens (table_listed definition)) (command.Define (define.Table definition)) (
      Mark Open ∷ inner ++ Mark Close ∷ [],
      named.0,
      one,
      (inner, columns_spelled definition.columns one (recursion_from_All IsNamed definition.columns named.1), refl),
      table_tokens definition named,
    )

-- ---- indexes

kind_front : (k : IndexKind) → tokens (keyword_text (kind_word k)) ≡ word (kind_word k) ∷ []
kind_front kind.Tree = word_front (codes "TREE") [] refl refl refl ∙ ap (λ l. word keyword.Tree ∷ l) tokens_none
kind_front kind.Hash = word_front (codes "HASH") [] refl refl refl ∙ ap (λ l. word keyword.Hash ∷ l) tokens_none

regrouped : (a b c d e f g h : List ℕ) → a ++ b ++ c ++ d ++ e ++ f ++ g ++ h ≡ a ++ (b ++ (c ++ (d ++ (e ++ (f ++ (g ++ h))))))
regrouped a b c d e f g h = simp append_assoc

index_tokens : (index : IndexDef) → HasIndexNames index
    → tokens (index_listed index)
    ≡ word keyword.Index ∷ Word index.name ∷ word keyword.On ∷ Word index.table ∷ Mark Open ∷ Word index.column ∷ Mark Close
    ∷ word (kind_word index.kind) ∷ []
index_tokens index named =
    let kind = keyword_text (kind_word index.kind) in
    let behind_column = codes ") " ++ kind in
    let behind_table = codes " (" ++ (index.column ++ behind_column) in
    let behind_name = codes " ON " ++ (index.table ++ behind_table) in
    ap tokens (regrouped (codes "INDEX ") index.name (codes " ON ") index.table (codes " (") index.column (codes ") ") kind)
    ∙ word_front (codes "INDEX") (32 ∷ (index.name ++ behind_name)) refl refl refl
    ∙ ap (λ l. word keyword.Index ∷ l) (blank_front (index.name ++ behind_name) ∙ name_front index.name behind_name named.0 refl
    ∙ ap (λ l. Word index.name ∷ l) (blank_front (codes "ON" ++ 32 ∷ (index.table ++ behind_table))
    ∙ word_front (codes "ON") (32 ∷ (index.table ++ behind_table)) refl refl refl
    ∙ ap (λ l. word keyword.On ∷ l) (blank_front (index.table ++ behind_table) ∙ name_front index.table behind_table named.1 refl
    ∙ ap (λ l. Word index.table ∷ l) (blank_front (40 ∷ (index.column ++ behind_column)) ∙ open_front (index.column ++ behind_column)
    ∙ ap (λ l. Mark Open ∷ l) (name_front index.column behind_column named.2 refl
    ∙ ap (λ l. Word index.column ∷ l) (close_front (32 ∷ kind) ∙ ap (λ l. Mark Close ∷ l) (blank_front kind ∙ kind_front index.kind)))))))

pub index_again : (index : IndexDef) → HasIndexNames index → command_of (tokens (index_listed index)) ≡ Some (command.Define (define.Index index))
index_again index named =
    command_spelled (tokens (index_listed index)) (command.Define (define.Index index)) (named.0, named.1, named.2, index_tokens index named)
