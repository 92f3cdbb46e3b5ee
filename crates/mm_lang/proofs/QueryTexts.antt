-- The text of a query as the parts in which it is written.
use Rattle.std.proofs.Common.{◌≡◌, ◌<◌, ◌≤◌, ◌==◌, ◌+◌, ◌-◌, ℕ, zero, suc, false, List, [], ◌∷◌, ◌++◌, Some, ℤ, pos, ◌≤ℤ◌, ◌<ℤ◌, codes}
use Rattle.std.proofs.Common.{decimal, get_or, length, map, slice_get, take, drop}
use Rattle.std.proofs.Common.{refl, sym, ap, ◌∙◌, append_assoc, append-nil, arith}
use Rattle.std.specs.Fmt.{signed_decimal}
use Rattle.std.specs.List.{flat_map}
use Rattle.std.proofs.Math.IntN.{negsuc}
use Rattle.std.proofs.lemmas.Int.{ints}
use Rattle.mm_value.specs.declared.values.Value.TheVariants as value
use Rattle.mm_schema.specs.Schema.{Schema}
use Rattle.mm_query.specs.Fields.{FieldName}
use Rattle.mm_query.specs.Placing.{mapped_atom, mapped_operand}
use Rattle.mm_query.specs.declared.atom.Atom.{Atom}
use Rattle.mm_query.specs.declared.atom.Operand.{Operand}
use Rattle.mm_query.specs.declared.atom.Operand.TheVariants as operand
use Rattle.mm_query.specs.declared.bound_query.BoundQuery.{BoundQuery}
use Rattle.mm_query.specs.declared.bound_query.FieldPlace.{FieldPlace}
use Rattle.mm_query.specs.declared.query.FromItem.{FromItem}
use Rattle.mm_lang.specs.QueryText.{distinct_text, field_text, from_text, named_field, named_query, order_text, query_text, separated, shift_text, space_after}
use Rattle.mm_lang.specs.QueryText.{space_after_tests, test_text, tests_text, where_text}
use Rattle.mm_lang.proofs.ListingTexts.{texts_all, texts_at}

-- ---- lists

module _ {X : Type 0} (text : X → List ℕ) where
  -- An item after another one.
  abbrev pub next_item : X → List ℕ
  next_item x = 44 ∷ text x

  separated-cons : (x : X) (xs : List X) → separated (codes ",") text (x ∷ xs) ≡ text x ++ flat_map next_item xs
  separated-cons x [] = sym (append-nil (text x))
  separated-cons x (y ∷ ys) = ap (λ l. text x ++ 44 ∷ l) (separated-cons y ys)

  -- The first item, the i items after it, the next one, and the remaining ones.
  pub separated_at : (items : List X) (first : X) (others : List X) (i : ℕ) (x : X) → items ≡ first ∷ others → i < length others → x ≡ get_or others i x
      → separated (codes ",") text items
      ≡ text first ++ (flat_map next_item (take i others) ++ (next_item x ++ flat_map next_item (drop (i + 1) others)))
  separated_at items first others i x e lt at =
      ap (separated (codes ",") text) e ∙ separated-cons first others
      ∙ ap (λ l. text first ++ l) (texts_at next_item others i x lt at
      ∙ append_assoc (flat_map next_item (take i others)) (next_item x) (flat_map next_item (drop (i + 1) others)))

  -- The first item, and all after it.
  pub separated_all : (items : List X) (first : X) (others : List X) (i : ℕ) → items ≡ first ∷ others → length others ≤ i
      → separated (codes ",") text items ≡ text first ++ flat_map next_item (take i others)
  separated_all items first others i e end =
      ap (separated (codes ",") text) e ∙ separated-cons first others ∙ ap (λ l. text first ++ l) (texts_all next_item others i end)

separated-map : {X Y : Type 0} (separator : List ℕ) (text : Y → List ℕ) (f : X → Y) (xs : List X)
    → separated separator text (map f xs) ≡ separated separator (λ x. text (f x)) xs
separated-map separator text f [] = refl
separated-map separator text f (x ∷ []) = refl
separated-map separator text f (x ∷ y ∷ xs) = ap (λ l. text (f x) ++ (separator ++ l)) (separated-map separator text f (y ∷ xs))

-- ---- shifts

-- A number without a minus has a plus.
pub with_sign : (z : ℤ) → pos 0 ≤ℤ z → shift_text z ≡ 43 ∷ signed_decimal z
with_sign (pos n) e = refl
with_sign (negsuc n) e = absurd (omega (arith, ints, e))

pub with_minus : (z : ℤ) → z <ℤ pos 0 → shift_text z ≡ signed_decimal z
with_minus (pos n) e = absurd (omega (arith, ints, e))
with_minus (negsuc n) e = refl

-- ---- tests

module _ {F G : Type 0} (f : F → G) where
  space_mapped : (o : Operand F) → space_after (mapped_operand f o) ≡ space_after o
  space_mapped (operand.Literal (value.Int z)) = refl
  space_mapped (operand.Literal (value.Text text)) = refl
  space_mapped (operand.Column field) = refl
  space_mapped (operand.Shifted field by) = refl

  spaces_mapped : (tests : List (Atom F)) → space_after_tests (map (mapped_atom f) tests) ≡ space_after_tests tests
  spaces_mapped [] = refl
  spaces_mapped (test ∷ []) = space_mapped test.right
  spaces_mapped (test ∷ other ∷ tests) = spaces_mapped (other ∷ tests)

module _ {F : Type 0} where
  last_at : (tests : List (Atom F)) (test : Atom F) (i : ℕ) → length tests ≡ suc i → slice_get tests i ≡ Some test
      → space_after_tests tests ≡ space_after test.right
  last_at [] test i long is = cc
  last_at (x ∷ []) test zero long is = let same : x ≡ test = cc in ap (λ (t : Atom F). space_after t.right) same
  last_at (x ∷ []) test (suc i) long is = cc
  last_at (x ∷ y ∷ xs) test zero long is = absurd (omega (arith, long))
  last_at (x ∷ y ∷ xs) test (suc i) long is = last_at (y ∷ xs) test i (omega (arith, long)) is

  -- The separator after tests is the separator after the last one.
  pub last_space : (tests : List (Atom F)) (test : Atom F) → slice_get tests (length tests - 1) ≡ Some test → space_after_tests tests ≡ space_after test.right
  last_space [] test is = cc
  last_space (x ∷ xs) test is =
      let place : length xs ≡ length (x ∷ xs) - 1 = omega arith in last_at (x ∷ xs) test (length xs) refl (ap (slice_get (x ∷ xs)) place ∙ is)

regrouped : (a b c d e : List ℕ) → a ++ (b ++ (c ++ (d ++ e))) ≡ (a ++ (b ++ (c ++ d))) ++ e
regrouped a b c d e = simp append_assoc

module _ (name : FieldPlace → FieldName) where
  abbrev pub named_test : Atom FieldPlace → Atom FieldName
  named_test = mapped_atom name

  -- A test after another one.
  abbrev pub next_test : Atom FieldPlace → Atom FieldPlace → List ℕ
  next_test before test = space_after before.right ++ (codes "AND " ++ test_text (named_test test))

  -- The first test alone.
  pub first_test : (tests : List (Atom FieldPlace)) (test : Atom FieldPlace) → slice_get tests 0 ≡ Some test
      → tests_text (map named_test (take 1 tests)) ≡ test_text (named_test test)
  first_test [] test is = cc
  first_test (x ∷ xs) test is = let same : x ≡ test = cc in ap (λ (t : Atom FieldPlace). test_text (named_test t)) same

  behind : (tests : List (Atom FieldPlace)) (i : ℕ) (before test : Atom FieldPlace) → slice_get tests i ≡ Some before → slice_get tests (suc i) ≡ Some test
      → tests_text (map named_test (take (suc (suc i)) tests)) ≡ tests_text (map named_test (take (suc i) tests)) ++ next_test before test
  behind [] i before test is_before is = cc
  behind (x ∷ []) i before test is_before is = cc
  behind (x ∷ y ∷ xs) zero before test is_before is =
      let here : x ≡ before = cc in
      let there : y ≡ test = cc in
      λ j. test_text (named_test x) ++ ((space_mapped name x.right ∙ ap (λ (t : Atom FieldPlace). space_after t.right) here) j
      ++ (codes "AND " ++ test_text (named_test (there j))))
  behind (x ∷ y ∷ xs) (suc i) before test is_before is =
      let more = behind (y ∷ xs) i before test is_before is in
      let space = space_after (named_test x).right in
      let so_far = tests_text (map named_test (y ∷ take i xs)) in
      ap (λ l. test_text (named_test x) ++ (space ++ (codes "AND " ++ l))) more
      ∙ regrouped (test_text (named_test x)) space (codes "AND ") so_far (next_test before test)

  -- i tests, at least one, and the next one.
  pub test_more : (tests : List (Atom FieldPlace)) (i : ℕ) (before test : Atom FieldPlace) → 1 ≤ i → slice_get tests (i - 1) ≡ Some before
      → slice_get tests i ≡ Some test → tests_text (map named_test (take (i + 1) tests)) ≡ tests_text (map named_test (take i tests)) ++ next_test before test
  test_more tests i before test some is_before is =
      let one : i ≡ suc (i - 1) = omega arith in
      let two : i + 1 ≡ suc (suc (i - 1)) = omega arith in
      ap (λ n. tests_text (map named_test (take n tests))) two
      ∙ behind tests (i - 1) before test is_before (ap (slice_get tests) (sym one) ∙ is)
      ∙ ap (λ n. tests_text (map named_test (take n tests)) ++ next_test before test) (sym one)

  -- The text of some tests begins with that of the first i.
  pub tests_front : (tests : List (Atom FieldPlace)) (i : ℕ)
      → (rest : List ℕ) × (tests_text (map named_test tests) ≡ tests_text (map named_test (take i tests)) ++ rest)
  tests_front tests zero = (tests_text (map named_test tests), refl)
  tests_front [] (suc i) = ([], refl)
  tests_front (x ∷ []) (suc zero) = ([], sym (append-nil (test_text (named_test x))))
  tests_front (x ∷ []) (suc (suc i)) = ([], sym (append-nil (test_text (named_test x))))
  tests_front (x ∷ y ∷ xs) (suc zero) =
      (space_after (named_test x).right ++ (codes "AND " ++ tests_text (map named_test (y ∷ xs))), refl)
  tests_front (x ∷ y ∷ xs) (suc (suc i)) =
      let (rest, e) = tests_front (y ∷ xs) (suc i) in
      let space = space_after (named_test x).right in (
        rest,
        ap (λ l. test_text (named_test x) ++ (space ++ (codes "AND " ++ l))) e
            ∙ regrouped (test_text (named_test x)) space (codes "AND ") (tests_text (map named_test (y ∷ take i xs))) rest,
      )

  pub some_tests : (tests : List (Atom FieldPlace)) → (length tests == 0) ≡ false
      → where_text (map named_test tests) ≡ codes " WHERE " ++ tests_text (map named_test tests)
  some_tests [] some = cc
  some_tests (x ∷ xs) some = refl

-- ---- positions

module _ {F : Type 0} (tests : List (Atom F)) where
  pub some_order : (columns : List ℕ) → (length columns == 0) ≡ false
      → order_text tests (map (λ column. column + 1) columns)
      ≡ space_after_tests tests ++ (codes "ORDER " ++ separated (codes ",") (λ column. decimal (column + 1)) columns)
  some_order [] some = cc
  some_order (x ∷ xs) some =
      ap (λ l. space_after_tests tests ++ (codes "ORDER " ++ l)) (separated-map (codes ",") decimal (λ column. column + 1) (x ∷ xs))

-- ---- queries

order_mapped : {F G : Type 0} (f : F → G) (tests : List (Atom F)) (positions : List ℕ)
    → order_text (map (mapped_atom f) tests) positions ≡ order_text tests positions
order_mapped f tests [] = refl
order_mapped f tests (p ∷ ps) = ap (λ l. l ++ (codes "ORDER " ++ separated (codes ",") decimal (p ∷ ps))) (spaces_mapped f tests)

module _ (schema : Schema) (from : List FromItem) (tests : List (Atom FieldPlace)) (columns : List ℕ) where
  -- The text after the tables of a query, ..
  abbrev pub after_tables : List ℕ
  after_tables = where_text (map (mapped_atom (named_field schema from)) tests) ++ order_text tests (map (λ column. column + 1) columns)

  -- .. and after its fields.
  abbrev pub after_fields : List ℕ
  after_fields = codes " FROM " ++ (separated (codes ",") from_text from ++ after_tables)

-- A query as the parts in which it is written.
pub query_parts : (schema : Schema) (query : BoundQuery) (distinct : List ℕ) (fields : List FieldPlace) (from : List FromItem)
    (tests : List (Atom FieldPlace)) (columns : List ℕ)
    → distinct ≡ distinct_text query.distinct → fields ≡ query.fields → from ≡ query.from → tests ≡ query.atoms → columns ≡ query.order
    → query_text (named_query schema query)
    ≡ distinct ++ (separated (codes ",") (λ field. field_text (named_field schema from field)) fields ++ after_fields schema from tests columns)
query_parts schema query distinct fields from tests columns d f g t c =
    let name = named_field schema query.from in
    let sources = separated (codes ",") from_text query.from in
    let conditions = where_text (map (mapped_atom name) query.atoms) in
    let positions = map (λ column. column + 1) query.order in
    ap (λ l. distinct_text query.distinct ++ (l ++ (codes " FROM " ++ (sources ++ (conditions
    ++ order_text (map (mapped_atom name) query.atoms) positions)))))
    (separated-map (codes ",") field_text name query.fields)
    ∙ ap (λ l. distinct_text query.distinct
    ++ (separated (codes ",") (λ field. field_text (named_field schema query.from field)) query.fields ++ (codes " FROM " ++ (sources ++ (conditions ++ l)))))
    (order_mapped name query.atoms positions)
    ∙ (λ i. sym d i ++ (separated (codes ",") (λ field. field_text (named_field schema (sym g i) field)) (sym f i)
    ++ after_fields schema (sym g i) (sym t i) (sym c i)))
