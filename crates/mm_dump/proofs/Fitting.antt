-- Tables, indexes and single rows fit a line.
use Rattle.std.proofs.Common.{◌≡◌, ◌≤◌, ◌+◌, ◌*◌, ℕ, suc, List, [], ◌∷◌, ◌++◌, codes, length, pos, length-append, arith}
use Rattle.std.specs.Prelude.{IfSome}
use Rattle.std.specs.List.{AllByRecursion}
use Rattle.std.proofs.Math.IntN.{negsuc}
use Rattle.std.proofs.lemmas.Fmt.{length-decimal-le}
use Rattle.std.proofs.lemmas.List.Elements.{recursion_from_All}
use Rattle.mm_value.specs.Storable.{AreStorable, IsStorable}
use Rattle.mm_value.specs.Written.{row_text, value_text, values_text}
use Rattle.mm_value.specs.declared.col_type.ColType.{ColType}
use Rattle.mm_value.specs.declared.col_type.ColType.TheVariants as type
use Rattle.mm_value.specs.declared.values.Value.{Value}
use Rattle.mm_value.specs.declared.values.Value.TheVariants.{Int, Text}
use Rattle.mm_schema.specs.Columns.{target_of}
use Rattle.mm_schema.specs.Name.{IsName}
use Rattle.mm_schema.specs.declared.column.Column.{Column}
use Rattle.mm_schema.specs.declared.column.OnDelete.{OnDelete}
use Rattle.mm_schema.specs.declared.column.OnDelete.TheVariants.{Cascade, Restrict}
use Rattle.mm_schema.specs.declared.column.Role.{Role}
use Rattle.mm_schema.specs.declared.column.Role.TheVariants as role
use Rattle.mm_schema.specs.declared.index.IndexDef.{IndexDef}
use Rattle.mm_schema.specs.declared.index.IndexKind.{IndexKind}
use Rattle.mm_schema.specs.declared.index.IndexKind.TheVariants as kind
use Rattle.mm_schema.specs.declared.table.TableDef.{TableDef}
use Rattle.mm_lang.specs.declared.read.keyword.Keyword.TheVariants as keyword
use Rattle.mm_lang.specs.ReplyText.{HasIndexNames, HasTableNames, column_text, columns_text, index_listed, on_delete_text, role_text, table_listed}
use Rattle.mm_lang.specs.Spelling.{kind_word, type_word}
use Rattle.mm_lang.specs.Words.{keyword_text}
use Rattle.mm_dump.specs.Texts.{insert_text}
use Rattle.mm_dump.proofs.Lengths.{length_of_quoted, name_short, quoted_bound}

-- ---- tables

on_delete_short : (d : OnDelete) → length (on_delete_text d) ≤ 8
on_delete_short Restrict = omega arith
on_delete_short Cascade = omega arith

abbrev column_of_role : Role → Column
column_of_role r = record { name = []; col_type = type.Int; role = r }

role_short : (r : Role) → IfSome (target_of (column_of_role r)) IsName → length (role_text r) ≤ 45
role_short role.Key named = omega arith
role_short role.Plain named = omega arith
role_short (role.Reference table on_delete) named =
    let front : length (role_text (role.Reference table on_delete))
    ≡ length ((32 ∷ keyword_text keyword.Ref) ++ (32 ∷ table)) + length (on_delete_text on_delete) =
    length-append ((32 ∷ keyword_text keyword.Ref) ++ (32 ∷ table)) (on_delete_text on_delete) in
    let both : length ((32 ∷ keyword_text keyword.Ref) ++ (32 ∷ table)) ≡ 4 + length (32 ∷ table) =
    length-append (32 ∷ keyword_text keyword.Ref) (32 ∷ table) in
    omega (arith, front, both, name_short table named, on_delete_short on_delete)

type_short : (t : ColType) → length (keyword_text (type_word t)) ≤ 4
type_short type.Int = omega arith
type_short type.Text = omega arith

abbrev IsNamed : Column → Type 0
IsNamed c = IsName c.name × IfSome (target_of c) IsName

column_short : (c : Column) → IsNamed c → length (column_text c) ≤ 82
column_short c named =
    let word = keyword_text (type_word c.col_type) in
    let front : length (column_text c) ≡ length (c.name ++ (32 ∷ word)) + length (role_text c.role) =
    length-append (c.name ++ (32 ∷ word)) (role_text c.role) in
    let both : length (c.name ++ (32 ∷ word)) ≡ length c.name + length (32 ∷ word) = length-append c.name (32 ∷ word) in
    omega (arith, front, both, name_short c.name named.0, type_short c.col_type, role_short c.role named.1)

columns_short : (cs : List Column) → AllByRecursion IsNamed cs → length (columns_text cs) ≤ 84 * length cs
columns_short [] named = omega arith
columns_short (c ∷ []) named = omega (arith, column_short c named.0)
columns_short (c ∷ d ∷ cs) named =
    let rest = columns_text (d ∷ cs) in
    let both : length (columns_text (c ∷ d ∷ cs)) ≡ length (column_text c) + length (44 ∷ 32 ∷ rest) = length-append (column_text c) (44 ∷ 32 ∷ rest) in
    omega (arith, both, column_short c named.0, columns_short (d ∷ cs) named.1)

pub table_fits : (d : TableDef) → HasTableNames d → length d.columns ≤ 16 → length (table_listed d) ≤ 4096
table_fits d named few =
    let columns = columns_text d.columns in
    let front : length (table_listed d) ≡ length (codes "TABLE " ++ d.name) + length ((codes " (" ++ columns) ++ codes ")") =
    length-append (codes "TABLE " ++ d.name) ((codes " (" ++ columns) ++ codes ")") in
    let name : length (codes "TABLE " ++ d.name) ≡ 6 + length d.name = length-append (codes "TABLE ") d.name in
    let closed : length ((codes " (" ++ columns) ++ codes ")") ≡ length (codes " (" ++ columns) + 1 = length-append (codes " (" ++ columns) (codes ")") in
    let opened : length (codes " (" ++ columns) ≡ 2 + length columns = length-append (codes " (") columns in
    omega (arith, front, name, closed, opened, name_short d.name named.0, columns_short d.columns (recursion_from_All IsNamed d.columns named.1), few)

-- ---- indexes

kind_short : (k : IndexKind) → length (keyword_text (kind_word k)) ≤ 4
kind_short kind.Tree = omega arith
kind_short kind.Hash = omega arith

sum_of_eight : (a b c d e f g h : List ℕ)
    → length (a ++ b ++ c ++ d ++ e ++ f ++ g ++ h) ≡ length a + length b + length c + length d + length e + length f + length g + length h
sum_of_eight a b c d e f g h = simp length-append

pub index_fits : (i : IndexDef) → HasIndexNames i → length (index_listed i) ≤ 4096
index_fits i named =
    let word = keyword_text (kind_word i.kind) in
    omega (
      arith,
      sum_of_eight (codes "INDEX ") i.name (codes " ON ") i.table (codes " (") i.column (codes ") ") word,
      name_short i.name named.0,
      name_short i.table named.1,
      name_short i.column named.2,
      kind_short i.kind,
    )

-- ---- rows

pub value_short : (v : Value) → IsStorable v → length (value_text v) ≤ 130
value_short (Int (pos n)) fits =
    let short = length-decimal-le 20 n (omega arith) (omega (arith, fits.sfits)) (omega (arith, fits.sfits)) in omega (arith, short)
value_short (Int (negsuc n)) fits =
    let short = length-decimal-le 20 (suc n) (omega arith) (omega (arith, fits.sfits)) (omega (arith, fits.sfits)) in omega (arith, short)
value_short (Text text) is = omega (arith, length_of_quoted text, quoted_bound text is.short)

values_short : (values : List Value) → AllByRecursion IsStorable values → length (values_text values) ≤ 132 * length values
values_short [] stored = omega arith
values_short (v ∷ []) stored = omega (arith, value_short v stored.0)
values_short (v ∷ w ∷ vs) stored =
    let rest = values_text (w ∷ vs) in
    let both : length (values_text (v ∷ w ∷ vs)) ≡ length (value_text v) + length (44 ∷ 32 ∷ rest) = length-append (value_text v) (44 ∷ 32 ∷ rest) in
    omega (arith, both, value_short v stored.0, values_short (w ∷ vs) stored.1)

pub row_fits : (table : List ℕ) (row : List Value) → IsName table → AreStorable row → length row ≤ 16 → length (insert_text table (row ∷ [])) ≤ 4096
row_fits table row named stored few =
    let values = values_text row in
    let front : length (insert_text table (row ∷ [])) ≡ 7 + length (table ++ 32 ∷ row_text row) =
    length-append (codes "INSERT ") (table ++ 32 ∷ row_text row) in
    let name : length (table ++ 32 ∷ row_text row) ≡ length table + length (32 ∷ row_text row) = length-append table (32 ∷ row_text row) in
    let closed : length (row_text row) ≡ length (40 ∷ values) + 1 = length-append (40 ∷ values) (41 ∷ []) in
    omega (arith, front, name, closed, name_short table named, values_short row (recursion_from_All IsStorable row stored), few)
