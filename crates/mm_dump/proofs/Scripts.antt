-- The script of a dump is cut into the lines of its entries.
use Rattle.std.proofs.Common.{◌≡◌, ◌≢◌, ◌⊎◌, inl, inr, ℕ, suc, Bool, true, false, cond, not, ◌||◌, ◌&&◌, eqb, List, [], ◌∷◌, ◌++◌, codes, map, nat_le, pos}
use Rattle.std.proofs.Common.{refl, sym, ap, ◌∙◌, subst, append_assoc, append-nil}
use Rattle.std.specs.Prelude.{IfSome}
use Rattle.std.specs.Char.{is_ascii_digit}
use Rattle.std.specs.Fmt.{decimal}
use Rattle.std.specs.List.{AllByRecursion, list_all}
use Rattle.std.proofs.Math.IntN.{negsuc}
use Rattle.std.proofs.lemmas.Bool.{and_parts, false≢true, ne_eqb}
use Rattle.std.proofs.lemmas.List.Elements.{recursion_from_All}
use Rattle.std.proofs.lemmas.List.Folds.{list_all-append}
use Rattle.mm_value.specs.Literal.{IsNumeral, doubled}
use Rattle.mm_value.specs.Storable.{IsStorable}
use Rattle.mm_value.specs.Written.{row_text, value_text, values_text}
use Rattle.mm_value.specs.declared.col_type.ColType.{ColType}
use Rattle.mm_value.specs.declared.col_type.ColType.TheVariants as type
use Rattle.mm_value.specs.declared.values.Value.{Value}
use Rattle.mm_value.specs.declared.values.Value.TheVariants.{Int, Text}
use Rattle.mm_schema.specs.Columns.{target_of}
use Rattle.mm_schema.specs.Name.{IsName, is_lower, is_name_byte, is_name_text}
use Rattle.mm_schema.specs.declared.column.Column.{Column}
use Rattle.mm_schema.specs.declared.column.OnDelete.{OnDelete}
use Rattle.mm_schema.specs.declared.column.OnDelete.TheVariants.{Cascade, Restrict}
use Rattle.mm_schema.specs.declared.column.Role.{Role}
use Rattle.mm_schema.specs.declared.column.Role.TheVariants as role
use Rattle.mm_schema.specs.declared.index.IndexDef.{IndexDef}
use Rattle.mm_schema.specs.declared.index.IndexKind.{IndexKind}
use Rattle.mm_schema.specs.declared.index.IndexKind.TheVariants as kind
use Rattle.mm_schema.specs.declared.table.TableDef.{TableDef}
use Rattle.mm_schema.proofs.StrictOrder.{AllByRecursion-weaker}
use Rattle.mm_query.specs.Fields.{FieldName}
use Rattle.mm_query.specs.declared.atom.Atom.{Atom}
use Rattle.mm_query.specs.declared.atom.Comparison.{Comparison}
use Rattle.mm_query.specs.declared.atom.Comparison.TheVariants as compared
use Rattle.mm_query.specs.declared.atom.Operand.{Operand}
use Rattle.mm_query.specs.declared.atom.Operand.TheVariants as operand
use Rattle.mm_query.specs.declared.query.FromItem.{FromItem}
use Rattle.mm_query.specs.declared.query.Query.{Query}
use Rattle.mm_lang.specs.Lines.{HasNoFeed, lines_of, without_return}
use Rattle.mm_lang.specs.QueryText.{distinct_text, field_text, from_text, operand_text, order_text, query_text, separated, space_after, space_after_tests}
use Rattle.mm_lang.specs.QueryText.{test_text, tests_text, where_text}
use Rattle.mm_lang.specs.ReplyText.{HasIndexNames, HasTableNames, column_text, columns_text, index_listed, on_delete_text, role_text, table_listed}
use Rattle.mm_lang.specs.Spelling.{comparison_symbol, kind_word, type_word}
use Rattle.mm_lang.specs.Words.{keyword_text, symbol_text}
use Rattle.mm_lang.proofs.Pieces.{lines_of-line, lines_of-nil}
use Rattle.mm_dump.specs.Dumps.{script_of}
use Rattle.mm_dump.specs.Entries.{Entry, HasFieldNames, IsPrintable, IsPrintableOperand, IsPrintableQuery, IsPrintableRow, IsPrintableTest, entry_text}
use Rattle.mm_dump.specs.Entries as entry
use Rattle.mm_dump.specs.Texts.{comma_separated, insert_text}
use Rattle.mm_dump.proofs.Queries.{numeral_below, numeral_of}
use Rattle.mm_dump.proofs.Rows.{values_separated}

-- ---- lines

-- The byte is no line feed.
abbrev not_feed : ℕ → Bool
not_feed b = not (eqb b 10)

abbrev IsFree : List ℕ → Type 0
IsFree bytes = list_all not_feed bytes ≡ true

free_both : (xs ys : List ℕ) → IsFree xs → IsFree ys → IsFree (xs ++ ys)
free_both xs ys first second = list_all-append not_feed xs ys ∙ (λ i. first i && second i)

-- Bytes without a line feed, of which the last is no carriage return.
record IsLine (bytes : List ℕ) : Type 0 where
  free : IsFree bytes
  some : bytes ≢ []
  ends : without_return bytes ≡ bytes

ends_behind : (xs ys : List ℕ) → ys ≢ [] → without_return ys ≡ ys → without_return (xs ++ ys) ≡ xs ++ ys
ends_behind [] ys some ends = ends
ends_behind (x ∷ []) [] some ends = absurd (some refl)
ends_behind (x ∷ []) (y ∷ ys) some ends = ap (λ l. x ∷ l) ends
ends_behind (x ∷ z ∷ xs) ys some ends = ap (λ l. x ∷ l) (ends_behind (z ∷ xs) ys some ends)

-- A line after bytes without a line feed is a line.
line_behind : (xs ys : List ℕ) → IsFree xs → IsLine ys → IsLine (xs ++ ys)
line_behind xs ys front is = record { free = free_both xs ys front is.free; some = by xs; ends = ends_behind xs ys is.some is.ends }
  where
    by : (zs : List ℕ) → zs ++ ys ≢ []
    by [] = is.some
    by (z ∷ zs) = λ e. cc

-- Bytes that pass a test that a line feed and a carriage return fail.
module _ (p : ℕ → Bool) (feed : p 10 ≡ false) (return : p 13 ≡ false) where
  other_byte : (b n : ℕ) → p b ≡ true → p n ≡ false → eqb b n ≡ false
  other_byte b n is other = ne_eqb b n (λ e. false≢true (sym other ∙ ap p (sym e) ∙ is))

  passes_free : (bs : List ℕ) → list_all p bs ≡ true → IsFree bs
  passes_free [] all = refl
  passes_free (b ∷ bs) all =
      let q = and_parts (p b) (list_all p bs) all in λ i. not (other_byte b 10 q.0 feed i) && passes_free bs q.1 i

  passes_ends : (bs : List ℕ) → list_all p bs ≡ true → without_return bs ≡ bs
  passes_ends [] all = refl
  passes_ends (b ∷ []) all = ap (λ c. cond c [] (b ∷ [])) (other_byte b 13 (and_parts (p b) true all).0 return)
  passes_ends (b ∷ c ∷ bs) all = ap (λ l. b ∷ l) (passes_ends (c ∷ bs) (and_parts (p b) (list_all p (c ∷ bs)) all).1)

  passes_line : (bs : List ℕ) → bs ≢ [] → list_all p bs ≡ true → IsLine bs
  passes_line bs some all = record { free = passes_free bs all; some = some; ends = passes_ends bs all }

name_line : (n : List ℕ) → IsName n → IsLine n
name_line [] named = absurd (false≢true named)
name_line (b ∷ bs) named =
    let text = and_parts (is_lower b) (list_all is_name_byte bs) (and_parts (is_name_text (b ∷ bs)) _ named).0 in
    let first : is_name_byte b ≡ true = ap (λ l. l || (nat_le 48 b && nat_le b 57) || eqb b 95) text.0 in
    passes_line is_name_byte refl refl (b ∷ bs) (λ e. cc) (λ i. first i && text.1 i)

numeral_line : (ds : List ℕ) → IsNumeral ds → IsLine ds
numeral_line [] numeral = absurd (false≢true numeral)
numeral_line (d ∷ ds) numeral = passes_line is_ascii_digit refl refl (d ∷ ds) (λ e. cc) (and_parts _ (list_all is_ascii_digit (d ∷ ds)) numeral).1

-- Items between separators.
module _ {X : Type 0} (separator : List ℕ) (free : IsFree separator) (text : X → List ℕ) where
  list_line : (x : X) (xs : List X) → AllByRecursion (λ y. IsLine (text y)) (x ∷ xs) → IsLine (separated separator text (x ∷ xs))
  list_line x [] all = all.0
  list_line x (y ∷ ys) all =
      line_behind (text x) (separator ++ separated separator text (y ∷ ys)) all.0.free
      (line_behind separator (separated separator text (y ∷ ys)) free (list_line y ys all.1))

  some_line : (xs : List X) → xs ≢ [] → AllByRecursion (λ y. IsLine (text y)) xs → IsLine (separated separator text xs)
  some_line [] some all = absurd (some refl)
  some_line (x ∷ xs) some all = list_line x xs all

-- ---- rows

doubled_free : (text : List ℕ) → AllByRecursion (λ b. b ≢ 10) text → IsFree (doubled text)
doubled_free [] one_line = refl
doubled_free (b ∷ bs) one_line = by (eqb b 39) (doubled_free bs one_line.1)
  where
    by : (quote : Bool) → IsFree (doubled bs) → IsFree (cond quote (39 ∷ 39 ∷ []) (b ∷ []) ++ doubled bs)
    by true later = later
    by false later = λ i. not (ne_eqb b 10 one_line.0 i) && later i

value_line : (v : Value) → IsStorable v → IsLine (value_text v)
value_line (Int (pos n)) fits = numeral_line (decimal n) (numeral_of n fits).0
value_line (Int (negsuc n)) fits = line_behind (45 ∷ []) (decimal (suc n)) refl (numeral_line (decimal (suc n)) (numeral_below n fits).0)
value_line (Text text) is =
    line_behind (39 ∷ doubled text) (39 ∷ []) (doubled_free text (recursion_from_All (λ b. b ≢ 10) text is.one_line))
    (record { free = refl; some = λ e. cc; ends = refl })

row_line : (row : List Value) → IsPrintableRow row → IsLine (row_text row)
row_line row printable =
    let values : IsLine (comma_separated value_text row) =
    some_line (codes ", ") refl value_text row printable.0 (AllByRecursion-weaker value_line row (recursion_from_All IsStorable row printable.1)) in
    line_behind (40 ∷ values_text row) (41 ∷ []) (ap (λ l. list_all not_feed l) (sym (values_separated row)) ∙ values.free)
    (record { free = refl; some = λ e. cc; ends = refl })

insert_line : (table : List ℕ) (rows : List (List Value)) → IsName table → rows ≢ [] → AllByRecursion IsPrintableRow rows → IsLine (insert_text table rows)
insert_line table rows named some all =
    line_behind (codes "INSERT ") (table ++ 32 ∷ comma_separated row_text rows) refl
    (line_behind table (32 ∷ comma_separated row_text rows) (name_line table named).free
    (line_behind (32 ∷ []) (comma_separated row_text rows) refl (some_line (codes ", ") refl row_text rows some (AllByRecursion-weaker row_line rows all))))

-- ---- tables and indexes

on_delete_free : (d : OnDelete) → IsFree (on_delete_text d)
on_delete_free Restrict = refl
on_delete_free Cascade = refl

abbrev column_of_role : Role → Column
column_of_role r = record { name = []; col_type = type.Int; role = r }

role_free : (r : Role) → IfSome (target_of (column_of_role r)) IsName → IsFree (role_text r)
role_free role.Key named = refl
role_free role.Plain named = refl
role_free (role.Reference table on_delete) named =
    free_both (32 ∷ codes "REF" ++ 32 ∷ table) (on_delete_text on_delete)
    (free_both (32 ∷ codes "REF") (32 ∷ table) refl (name_line table named).free) (on_delete_free on_delete)

type_free : (t : ColType) → IsFree (keyword_text (type_word t))
type_free type.Int = refl
type_free type.Text = refl

abbrev IsNamed : Column → Type 0
IsNamed c = IsName c.name × IfSome (target_of c) IsName

column_free : (c : Column) → IsNamed c → IsFree (column_text c)
column_free c named =
    free_both (c.name ++ 32 ∷ keyword_text (type_word c.col_type)) (role_text c.role)
    (free_both c.name (32 ∷ keyword_text (type_word c.col_type)) (name_line c.name named.0).free (type_free c.col_type)) (role_free c.role named.1)

columns_free : (cs : List Column) → AllByRecursion IsNamed cs → IsFree (columns_text cs)
columns_free [] named = refl
columns_free (c ∷ []) named = column_free c named.0
columns_free (c ∷ d ∷ cs) named = free_both (column_text c) (44 ∷ 32 ∷ columns_text (d ∷ cs)) (column_free c named.0) (columns_free (d ∷ cs) named.1)

table_line : (d : TableDef) → HasTableNames d → IsLine (table_listed d)
table_line d named =
    line_behind (codes "TABLE " ++ d.name) (codes " (" ++ columns_text d.columns ++ codes ")")
    (free_both (codes "TABLE ") d.name refl (name_line d.name named.0).free)
    (line_behind (codes " (" ++ columns_text d.columns) (codes ")")
    (free_both (codes " (") (columns_text d.columns) refl (columns_free d.columns (recursion_from_All IsNamed d.columns named.1)))
    (record { free = refl; some = λ e. cc; ends = refl }))

kind_line : (k : IndexKind) → IsLine (keyword_text (kind_word k))
kind_line kind.Tree = record { free = refl; some = λ e. cc; ends = refl }
kind_line kind.Hash = record { free = refl; some = λ e. cc; ends = refl }

index_line : (i : IndexDef) → HasIndexNames i → IsLine (index_listed i)
index_line i named =
    let name = (name_line i.name named.0).free in
    let table = (name_line i.table named.1).free in
    let column = (name_line i.column named.2).free in
    let one = free_both (codes "INDEX ") i.name refl name in
    let two = free_both (codes "INDEX " ++ i.name ++ codes " ON ") i.table (free_both (codes "INDEX " ++ i.name) (codes " ON ") one refl) table in
    let front = codes "INDEX " ++ i.name ++ codes " ON " ++ i.table in
    let three = free_both (front ++ codes " (") i.column (free_both front (codes " (") two refl) column in
    line_behind (front ++ codes " (" ++ i.column ++ codes ") ") (keyword_text (kind_word i.kind))
    (free_both (front ++ codes " (" ++ i.column) (codes ") ") three refl) (kind_line i.kind)

-- ---- standing queries

field_line : (f : FieldName) → HasFieldNames f → IsLine (field_text f)
field_line f named =
    line_behind f.alias (46 ∷ f.column) (name_line f.alias named.0).free (line_behind (46 ∷ []) f.column refl (name_line f.column named.1))

from_line : (i : FromItem) → IsName i.table × IsName i.alias → IsLine (from_text i)
from_line i named = line_behind i.table (32 ∷ i.alias) (name_line i.table named.0).free (line_behind (32 ∷ []) i.alias refl (name_line i.alias named.1))

operand_line : (o : Operand FieldName) → IsPrintableOperand o → IsLine (operand_text o)
operand_line (operand.Literal value) printable = value_line value (recursion_from_All IsStorable (value ∷ []) printable.1).0
operand_line (operand.Column field) printable = field_line field printable.0
operand_line (operand.Shifted field (pos n)) printable =
    line_behind (field_text field) (43 ∷ decimal n) (field_line field printable.0).free
    (line_behind (43 ∷ []) (decimal n) refl
    (numeral_line (decimal n) (numeral_of n (recursion_from_All IsStorable (Int (pos n) ∷ []) printable.1).0).0))
operand_line (operand.Shifted field (negsuc n)) printable =
    line_behind (field_text field) (45 ∷ decimal (suc n)) (field_line field printable.0).free
    (line_behind (45 ∷ []) (decimal (suc n)) refl
    (numeral_line (decimal (suc n)) (numeral_below n (recursion_from_All IsStorable (Int (negsuc n) ∷ []) printable.1).0).0))

symbol_free : (c : Comparison) → IsFree (symbol_text (comparison_symbol c))
symbol_free compared.Equal = refl
symbol_free compared.Less = refl
symbol_free compared.LessOrEqual = refl
symbol_free compared.Greater = refl
symbol_free compared.GreaterOrEqual = refl

test_line : (t : Atom FieldName) → IsPrintableTest t → IsLine (test_text t)
test_line t printable =
    let symbol = symbol_text (comparison_symbol t.comparison) in
    line_behind (field_text t.left) (symbol ++ operand_text t.right) (field_line t.left printable.0).free
    (line_behind symbol (operand_text t.right) (symbol_free t.comparison) (operand_line t.right printable.1))

space_free : (o : Operand FieldName) → IsFree (space_after o)
space_free (operand.Literal (Int z)) = refl
space_free (operand.Literal (Text text)) = refl
space_free (operand.Column field) = refl
space_free (operand.Shifted field by) = refl

tests_line : (t : Atom FieldName) (ts : List (Atom FieldName)) → AllByRecursion IsPrintableTest (t ∷ ts) → IsLine (tests_text (t ∷ ts))
tests_line t [] all = test_line t all.0
tests_line t (u ∷ us) all =
    line_behind (test_text t) (space_after t.right ++ (codes "AND " ++ tests_text (u ∷ us))) (test_line t all.0).free
    (line_behind (space_after t.right) (codes "AND " ++ tests_text (u ∷ us)) (space_free t.right)
    (line_behind (codes "AND ") (tests_text (u ∷ us)) refl (tests_line u us all.1)))

spaces_free : (tests : List (Atom FieldName)) → IsFree (space_after_tests tests)
spaces_free [] = refl
spaces_free (t ∷ []) = space_free t.right
spaces_free (t ∷ u ∷ us) = spaces_free (u ∷ us)

-- Nothing, or a line.
abbrev IsTail : List ℕ → Type 0
IsTail bytes = (bytes ≡ []) ⊎ IsLine bytes

tail_behind : (xs ys : List ℕ) → IsLine xs → IsTail ys → IsLine (xs ++ ys)
tail_behind xs ys line (inl none) = subst IsLine (sym (append-nil xs) ∙ ap (λ l. xs ++ l) (sym none)) line
tail_behind xs ys line (inr more) = line_behind xs ys line.free more

tail_both : (xs ys : List ℕ) → IsTail xs → IsTail ys → IsTail (xs ++ ys)
tail_both xs ys (inl none) tail = subst IsTail (ap (λ l. l ++ ys) (sym none)) tail
tail_both xs ys (inr line) tail = inr (tail_behind xs ys line tail)

where_tail : (tests : List (Atom FieldName)) → AllByRecursion IsPrintableTest tests → IsTail (where_text tests)
where_tail [] printable = inl refl
where_tail (t ∷ ts) printable = inr (line_behind (codes " WHERE ") (tests_text (t ∷ ts)) refl (tests_line t ts printable))

order_tail : (tests : List (Atom FieldName)) (positions : List ℕ) → AllByRecursion (λ p. IsStorable (Int (pos p))) positions
    → IsTail (order_text tests positions)
order_tail tests [] stored = inl refl
order_tail tests (p ∷ ps) stored =
    inr (line_behind (space_after_tests tests) (codes "ORDER " ++ separated (codes ",") decimal (p ∷ ps)) (spaces_free tests)
    (line_behind (codes "ORDER ") (separated (codes ",") decimal (p ∷ ps)) refl
    (list_line (codes ",") refl decimal p ps (AllByRecursion-weaker (λ q fits. numeral_line (decimal q) (numeral_of q fits).0) (p ∷ ps) stored))))

distinct_free : (b : Bool) → IsFree (distinct_text b)
distinct_free true = refl
distinct_free false = refl

query_line : (q : Query) → IsPrintableQuery q → IsLine (query_text q)
query_line q printable =
    let fields = separated (codes ",") field_text q.fields in
    let from = separated (codes ",") from_text q.from in
    let behind = where_text q.atoms ++ order_text q.atoms q.order in
    let fields_are = some_line (codes ",") refl field_text q.fields printable.some_fields
    (AllByRecursion-weaker field_line q.fields (recursion_from_All HasFieldNames q.fields printable.fields)) in
    let from_is = some_line (codes ",") refl from_text q.from printable.some_from
    (AllByRecursion-weaker from_line q.from (recursion_from_All (λ (i : FromItem). IsName i.table × IsName i.alias) q.from printable.from)) in
    let tail = tail_both (where_text q.atoms) (order_text q.atoms q.order)
    (where_tail q.atoms (recursion_from_All IsPrintableTest q.atoms printable.tests))
    (order_tail q.atoms q.order (recursion_from_All (λ p. IsStorable (Int (pos p))) q.order printable.order)) in
    line_behind (distinct_text q.distinct) (fields ++ (codes " FROM " ++ (from ++ behind))) (distinct_free q.distinct)
    (line_behind fields (codes " FROM " ++ (from ++ behind)) fields_are.free
    (line_behind (codes " FROM ") (from ++ behind) refl (tail_behind from behind from_is tail)))

-- ---- scripts

entry_line : (e : Entry) → IsPrintable e → IsLine (entry_text e)
entry_line (entry.Table d) printable = table_line d printable.0
entry_line (entry.Rows table rows) printable =
    insert_line table rows printable.0 printable.1 (recursion_from_All IsPrintableRow rows printable.2)
entry_line (entry.Index i) printable = index_line i printable
entry_line (entry.Watch name query) printable =
    line_behind (codes "WATCH ") (name ++ (codes " SELECT " ++ query_text query)) refl
    (line_behind name (codes " SELECT " ++ query_text query) (name_line name printable.0).free
    (line_behind (codes " SELECT ") (query_text query) refl (query_line query printable.1)))

no_feed : (bs : List ℕ) → IsFree bs → HasNoFeed bs
no_feed [] free = tt
no_feed (b ∷ bs) free = let p = and_parts (not_feed b) (list_all not_feed bs) free in (by (eqb b 10) p.0, no_feed bs p.1)
  where
    by : (c : Bool) → not c ≡ true → c ≡ false
    by true is = absurd (false≢true is)
    by false is = refl

-- The lines of a script are the texts of its entries.
pub script_lines : (entries : List Entry) → AllByRecursion IsPrintable entries → lines_of (script_of entries) ≡ map entry_text entries
script_lines [] printable = lines_of-nil
script_lines (e ∷ es) printable =
    let line = entry_line e printable.0 in
    ap lines_of (append_assoc (entry_text e) (10 ∷ []) (script_of es))
    ∙ lines_of-line (entry_text e) (script_of es) (no_feed (entry_text e) line.free)
    ∙ (λ i. line.ends i ∷ script_lines es printable.1 i)
