-- Standing queries whose aliases are short fit a line.
use Rattle.std.proofs.Common.{◌≡◌, ◌≤◌, ◌+◌, ◌*◌, ◌^◌, ℕ, suc, Bool, true, false, ◌||◌, List, [], ◌∷◌, ◌++◌, codes, length, nat_lt, pos, length-append, arith}
use Rattle.std.specs.Fmt.{decimal}
use Rattle.std.specs.List.{AllByRecursion}
use Rattle.std.proofs.Math.IntN.{negsuc}
use Rattle.std.proofs.Math.Nat.{mul-suc}
use Rattle.std.proofs.lemmas.Bool.{ltb-false, or_parts}
use Rattle.std.proofs.lemmas.Fmt.{length-decimal-le}
use Rattle.std.proofs.lemmas.List.Elements.{recursion_from_All}
use Rattle.mm_value.specs.Storable.{IsStorable}
use Rattle.mm_value.specs.declared.values.Value.TheVariants.{Int, Text}
use Rattle.mm_schema.specs.Name.{IsName}
use Rattle.mm_query.specs.Fields.{FieldName}
use Rattle.mm_query.specs.Resolving.{exceeds_query_limits}
use Rattle.mm_query.specs.declared.atom.Atom.{Atom}
use Rattle.mm_query.specs.declared.atom.Comparison.{Comparison}
use Rattle.mm_query.specs.declared.atom.Comparison.TheVariants as compared
use Rattle.mm_query.specs.declared.atom.Operand.{Operand}
use Rattle.mm_query.specs.declared.atom.Operand.TheVariants as operand
use Rattle.mm_query.specs.declared.query.FromItem.{FromItem}
use Rattle.mm_query.specs.declared.query.Query.{Query}
use Rattle.mm_lang.specs.QueryText.{distinct_text, field_text, from_text, operand_text, order_text, query_text, separated, space_after, space_after_tests}
use Rattle.mm_lang.specs.QueryText.{test_text, tests_text, where_text}
use Rattle.mm_lang.specs.Spelling.{comparison_symbol}
use Rattle.mm_lang.specs.Words.{symbol_text}
use Rattle.mm_dump.specs.Entries.{HasFieldNames, HasShortAlias, HasShortAliases, HasShortOperand, HasShortTest, IsPrintableOperand, IsPrintableQuery}
use Rattle.mm_dump.specs.Entries.{IsPrintableTest}
use Rattle.mm_dump.specs.Texts.{watch_text}
use Rattle.mm_dump.proofs.Fitting.{value_short}
use Rattle.mm_dump.proofs.Lengths.{name_short}

-- ---- lists

module _ {X : Type 0} (separator : List ℕ) (text : X → List ℕ) (k : ℕ) where
  -- Texts that are at most so long with their separators.
  separated_short : (xs : List X) → AllByRecursion (λ x. length (text x) + length separator ≤ k) xs → length (separated separator text xs) ≤ k * length xs
  separated_short [] short = omega arith
  separated_short (x ∷ []) short = omega (arith, short.0, mul-suc k 0)
  separated_short (x ∷ y ∷ xs) short =
      let rest = separated separator text (y ∷ xs) in
      let both : length (separated separator text (x ∷ y ∷ xs)) ≡ length (text x) + length (separator ++ rest) = length-append (text x) (separator ++ rest) in
      let behind : length (separator ++ rest) ≡ length separator + length rest = length-append separator rest in
      omega (arith, both, behind, short.0, separated_short (y ∷ xs) short.1, mul-suc k (length (y ∷ xs)))

both_hold : {X : Type 0} {P Q R : X → Type 0} → ((x : X) → P x → Q x → R x) → (xs : List X) → AllByRecursion P xs → AllByRecursion Q xs → AllByRecursion R xs
both_hold f [] p q = tt
both_hold f (x ∷ xs) p q = (f x p.0 q.0, both_hold f xs p.1 q.1)

-- ---- parts of a query

field_short : (field : FieldName) → HasFieldNames field → HasShortAlias field → length (field_text field) ≤ 39
field_short field named short =
    let both : length (field_text field) ≡ length field.alias + length (46 ∷ field.column) = length-append field.alias (46 ∷ field.column) in
    omega (arith, both, short, name_short field.column named.1)

from_short : (item : FromItem) → IsName item.table × IsName item.alias → length item.alias ≤ 6 → length (from_text item) ≤ 39
from_short item named short =
    let both : length (from_text item) ≡ length item.table + length (32 ∷ item.alias) = length-append item.table (32 ∷ item.alias) in
    omega (arith, both, short, name_short item.table named.0)

number_short : (n : ℕ) → n ≤ 2 ^ 63 → length (decimal n) ≤ 20
number_short n small = length-decimal-le 20 n (omega arith) (omega (arith, small)) (omega (arith, small))

operand_short : (o : Operand FieldName) → IsPrintableOperand o → HasShortOperand o → length (operand_text o) ≤ 130
operand_short (operand.Literal value) printable short = value_short value (recursion_from_All IsStorable (value ∷ []) printable.1).0
operand_short (operand.Column field) printable short = omega (arith, field_short field printable.0 short)
operand_short (operand.Shifted field (pos n)) printable short =
    let fits : IsStorable (Int (pos n)) = (recursion_from_All IsStorable (Int (pos n) ∷ []) printable.1).0 in
    let both : length (operand_text (operand.Shifted field (pos n))) ≡ length (field_text field) + length (43 ∷ decimal n) =
    length-append (field_text field) (43 ∷ decimal n) in
    omega (arith, both, field_short field printable.0 short, number_short n (omega (arith, fits.sfits)))
operand_short (operand.Shifted field (negsuc n)) printable short =
    let fits : IsStorable (Int (negsuc n)) = (recursion_from_All IsStorable (Int (negsuc n) ∷ []) printable.1).0 in
    let both : length (operand_text (operand.Shifted field (negsuc n))) ≡ length (field_text field) + length (45 ∷ decimal (suc n)) =
    length-append (field_text field) (45 ∷ decimal (suc n)) in
    omega (arith, both, field_short field printable.0 short, number_short (suc n) (omega (arith, fits.sfits)))

space_short : (o : Operand FieldName) → length (space_after o) ≤ 1
space_short (operand.Literal (Int z)) = omega arith
space_short (operand.Literal (Text text)) = omega arith
space_short (operand.Column field) = omega arith
space_short (operand.Shifted field by) = omega arith

spaces_short : (tests : List (Atom FieldName)) → length (space_after_tests tests) ≤ 1
spaces_short [] = omega arith
spaces_short (t ∷ []) = space_short t.right
spaces_short (t ∷ u ∷ us) = spaces_short (u ∷ us)

symbol_short : (c : Comparison) → length (symbol_text (comparison_symbol c)) ≤ 2
symbol_short compared.Equal = omega arith
symbol_short compared.Less = omega arith
symbol_short compared.LessOrEqual = omega arith
symbol_short compared.Greater = omega arith
symbol_short compared.GreaterOrEqual = omega arith

test_short : (test : Atom FieldName) → IsPrintableTest test → HasShortTest test → length (test_text test) ≤ 171
test_short test printable short =
    let symbol = symbol_text (comparison_symbol test.comparison) in
    let right = operand_text test.right in
    let both : length (test_text test) ≡ length (field_text test.left) + length (symbol ++ right) = length-append (field_text test.left) (symbol ++ right) in
    let behind : length (symbol ++ right) ≡ length symbol + length right = length-append symbol right in
    omega (arith, both, behind, field_short test.left printable.0 short.0, symbol_short test.comparison, operand_short test.right printable.1 short.1)

tests_short : (tests : List (Atom FieldName)) → AllByRecursion IsPrintableTest tests → AllByRecursion HasShortTest tests
    → length (tests_text tests) ≤ 176 * length tests
tests_short [] printable short = omega arith
tests_short (t ∷ []) printable short = omega (arith, test_short t printable.0 short.0)
tests_short (t ∷ u ∷ us) printable short =
    let rest = tests_text (u ∷ us) in
    let space = space_after t.right in
    let both : length (tests_text (t ∷ u ∷ us)) ≡ length (test_text t) + length (space ++ (codes "AND " ++ rest)) =
    length-append (test_text t) (space ++ (codes "AND " ++ rest)) in
    let behind : length (space ++ (codes "AND " ++ rest)) ≡ length space + length (codes "AND " ++ rest) = length-append space (codes "AND " ++ rest) in
    let last : length (codes "AND " ++ rest) ≡ 4 + length rest = length-append (codes "AND ") rest in
    omega (
      arith,
      both,
      behind,
      last,
      test_short t printable.0 short.0,
      space_short t.right,
      tests_short (u ∷ us) printable.1 short.1,
      mul-suc 176 (length (u ∷ us)),
    )

-- ---- a query

where_short : (tests : List (Atom FieldName)) → AllByRecursion IsPrintableTest tests → AllByRecursion HasShortTest tests → length tests ≤ 16
    → length (where_text tests) ≤ 2823
where_short [] printable short few = omega arith
where_short (test ∷ tests) printable short few =
    let list = tests_text (test ∷ tests) in
    let both : length (where_text (test ∷ tests)) ≡ 7 + length list = length-append (codes " WHERE ") list in
    omega (arith, both, tests_short (test ∷ tests) printable short, few)

order_short : (tests : List (Atom FieldName)) (positions : List ℕ) → AllByRecursion (λ p. IsStorable (Int (pos p))) positions → length positions ≤ 16
    → length (order_text tests positions) ≤ 343
order_short tests [] stored few = omega arith
order_short tests (p ∷ ps) stored few =
    let list = separated (codes ",") decimal (p ∷ ps) in
    let space = space_after_tests tests in
    let both : length (order_text tests (p ∷ ps)) ≡ length space + length (codes "ORDER " ++ list) = length-append space (codes "ORDER " ++ list) in
    let behind : length (codes "ORDER " ++ list) ≡ 6 + length list = length-append (codes "ORDER ") list in
    omega (arith, both, behind, spaces_short tests, separated_short (codes ",") decimal 21 (p ∷ ps) (all (p ∷ ps) stored), few)
  where
    all : (qs : List ℕ) → AllByRecursion (λ q. IsStorable (Int (pos q))) qs → AllByRecursion (λ q. length (decimal q) + 1 ≤ 21) qs
    all [] stored = tt
    all (q ∷ qs) stored = (omega (arith, number_short q (omega (arith, stored.0.sfits))), all qs stored.1)

distinct_short : (b : Bool) → length (distinct_text b) ≤ 9
distinct_short true = omega arith
distinct_short false = omega arith

pub watch_fits_line : (name : List ℕ) (query : Query) → IsName name → IsPrintableQuery query → exceeds_query_limits query ≡ false → HasShortAliases query
    → length (watch_text name query) ≤ 4096
watch_fits_line name query named printable limits short =
    let four = nat_lt 4 (length query.from) in
    let sixteen = nat_lt 16 (length query.fields) in
    let positions = or_parts ((four || sixteen) || nat_lt 16 (length query.atoms)) (nat_lt 16 (length query.order)) limits in
    let tests = or_parts (four || sixteen) (nat_lt 16 (length query.atoms)) positions.0 in
    let tables = or_parts four sixteen tests.0 in
    let few_tables = ltb-false 4 (length query.from) tables.0 in
    let few_fields = ltb-false 16 (length query.fields) tables.1 in
    let few_tests = ltb-false 16 (length query.atoms) tests.1 in
    let few_positions = ltb-false 16 (length query.order) positions.1 in
    let each_field = both_hold (λ (f : FieldName) p q. let s = field_short f p q in let r : length (field_text f) + 1 ≤ 40 = omega (arith, s) in r)
    query.fields (recursion_from_All HasFieldNames query.fields printable.fields) (recursion_from_All HasShortAlias query.fields short.fields) in
    let each_table = both_hold (λ (i : FromItem) p q. let s = from_short i p q in let r : length (from_text i) + 1 ≤ 40 = omega (arith, s) in r)
    query.from (recursion_from_All (λ (i : FromItem). IsName i.table × IsName i.alias) query.from printable.from)
    (recursion_from_All (λ (i : FromItem). length i.alias ≤ 6) query.from short.from) in
    let fields_are = separated_short (codes ",") field_text 40 query.fields each_field in
    let tables_are = separated_short (codes ",") from_text 40 query.from each_table in
    let tests_are = where_short query.atoms (recursion_from_All IsPrintableTest query.atoms printable.tests)
    (recursion_from_All HasShortTest query.atoms short.tests) few_tests in
    let order_is = order_short query.atoms query.order (recursion_from_All (λ p. IsStorable (Int (pos p))) query.order printable.order) few_positions in
    let distinct = distinct_text query.distinct in
    let columns = separated (codes ",") field_text query.fields in
    let from = separated (codes ",") from_text query.from in
    let behind = where_text query.atoms ++ order_text query.atoms query.order in
    let parts_1 : length (watch_text name query) ≡ 6 + length (name ++ (codes " SELECT " ++ query_text query)) =
    length-append (codes "WATCH ") (name ++ (codes " SELECT " ++ query_text query)) in
    let parts_2 : length (name ++ (codes " SELECT " ++ query_text query)) ≡ length name + length (codes " SELECT " ++ query_text query) =
    length-append name (codes " SELECT " ++ query_text query) in
    let parts_3 : length (codes " SELECT " ++ query_text query) ≡ 8 + length (query_text query) = length-append (codes " SELECT ") (query_text query) in
    let parts_4 : length (query_text query) ≡ length distinct + length (columns ++ (codes " FROM " ++ (from ++ behind))) =
    length-append distinct (columns ++ (codes " FROM " ++ (from ++ behind))) in
    let parts_5 : length (columns ++ (codes " FROM " ++ (from ++ behind))) ≡ length columns + length (codes " FROM " ++ (from ++ behind)) =
    length-append columns (codes " FROM " ++ (from ++ behind)) in
    let parts_6 : length (codes " FROM " ++ (from ++ behind)) ≡ 6 + length (from ++ behind) = length-append (codes " FROM ") (from ++ behind) in
    let parts_7 : length (from ++ behind) ≡ length from + length behind = length-append from behind in
    let parts_8 : length behind ≡ length (where_text query.atoms) + length (order_text query.atoms query.order) =
    length-append (where_text query.atoms) (order_text query.atoms query.order) in
    let name_is = name_short name named in
    let distinct_is = distinct_short query.distinct in
    omega (
      arith,
      parts_1,
      parts_2,
      parts_3,
      parts_4,
      parts_5,
      parts_6,
      parts_7,
      parts_8,
      name_is,
      distinct_is,
      fields_are,
      tables_are,
      tests_are,
      order_is,
      few_tables,
      few_fields,
    )
