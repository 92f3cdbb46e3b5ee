-- The text of a query has no more bytes than any line of its tokens.
use Rattle.std.proofs.Common.{◌≡◌, ◌≤◌, ◌<◌, ◌+◌, ◌^◌, inl, inr, ℕ, zero, suc, Bool, true, false, List, [], ◌∷◌, ◌++◌, codes, length, pos, refl, sym, ap}
use Rattle.std.proofs.Common.{◌∙◌, subst, length-append, append_assoc, append-nil, arith}
use Rattle.std.specs.Fmt.{decimal, signed_decimal}
use Rattle.std.specs.List.{AllByRecursion}
use Rattle.std.specs.Str.Parse.{digits_value}
use Rattle.std.proofs.Math.IntN.{ℤ, negsuc, neg_ℤ}
use Rattle.std.proofs.lemmas.Bool.{false≢true, or_parts}
use Rattle.std.proofs.lemmas.Fmt.{length-decimal-le}
use Rattle.std.proofs.lemmas.Int.Digits.{digits_value-lt}
use Rattle.std.proofs.lemmas.List.Elements.{recursion_from_All}
use Rattle.std.proofs.lemmas.List.Folds.{list_any-append}
use Rattle.mm_value.specs.Literal.{IsNumeral, quoted}
use Rattle.mm_value.specs.Storable.{IsStorable}
use Rattle.mm_value.specs.Written.{value_text}
use Rattle.mm_value.specs.declared.values.Value.{Value}
use Rattle.mm_value.specs.declared.values.Value.TheVariants.{Int, Text}
use Rattle.mm_value.proofs.Numerals.{numeral_parts}
use Rattle.mm_query.specs.Fields.{FieldName}
use Rattle.mm_query.specs.declared.atom.Atom.{Atom}
use Rattle.mm_query.specs.declared.atom.Operand.{Operand}
use Rattle.mm_query.specs.declared.atom.Operand.TheVariants as operand
use Rattle.mm_query.specs.declared.query.FromItem.{FromItem}
use Rattle.mm_query.specs.declared.query.Query.{Query}
use Rattle.mm_lang.specs.declared.read.keyword.Keyword.TheVariants as keyword
use Rattle.mm_lang.specs.declared.read.token.Symbol.TheVariants.{Comma}
use Rattle.mm_lang.specs.QueryText.{distinct_text, field_text, from_text, operand_text, order_text, query_text, separated, shift_text, space_after}
use Rattle.mm_lang.specs.QueryText.{space_after_tests, test_text, tests_text, where_text}
use Rattle.mm_lang.specs.Spelling.{SpellsDistinct, SpellsField, SpellsFromItem, SpellsList, SpellsLiteral, SpellsOne, SpellsOperandOn, SpellsOrder}
use Rattle.mm_lang.specs.Spelling.{SpellsPosition, SpellsQuery, SpellsShift, SpellsTestOn, SpellsTestsOn, comparison_symbol, word}
use Rattle.mm_lang.specs.Tokens.{Token, Word, Signed, Quoted, Mark, Hole, Unreadable, has_hole, is_hole}
use Rattle.mm_lang.specs.Words.{keyword_text, symbol_text}
use Rattle.mm_dump.specs.Entries.{IsPrintableOperand, IsPrintableQuery, IsPrintableTest}
use Rattle.mm_dump.specs.Texts.{watch_text}

-- ---- the least bytes of tokens

-- 1 if tokens begin with a word, which a blank separates from a word before it.
abbrev pub word_first : List Token → ℕ
word_first [] = 0
word_first (Word w ∷ ts) = 1
word_first (Signed w ∷ ts) = 0
word_first (Quoted said ∷ ts) = 0
word_first (Mark symbol ∷ ts) = 0
word_first (Hole ∷ ts) = 0
word_first (Unreadable ∷ ts) = 0

-- The bytes of a token.
abbrev pub size_of : Token → ℕ
size_of (Word w) = length w
size_of (Signed w) = suc (length w)
size_of (Quoted said) = length (quoted said)
size_of (Mark symbol) = length (symbol_text symbol)
size_of Hole = 1
size_of Unreadable = 0

-- 1 if a token ends in a byte of a word.
abbrev pub ends_word : Token → ℕ
ends_word (Word w) = 1
ends_word (Signed w) = 1
ends_word (Quoted said) = 0
ends_word (Mark symbol) = 0
ends_word Hole = 0
ends_word Unreadable = 0

-- The blank between a token and those after it.
abbrev pub gap : Token → List Token → ℕ
gap (Word w) ts = word_first ts
gap (Signed w) ts = word_first ts
gap (Quoted said) ts = 0
gap (Mark symbol) ts = 0
gap Hole ts = 0
gap Unreadable ts = 0

-- The bytes of tokens, and one for each blank that separates two words.
abbrev pub least : List Token → ℕ
least [] = 0
least (t ∷ ts) = size_of t + (gap t ts + least ts)

-- 1 if tokens end in a byte of a word.
abbrev pub word_last : List Token → ℕ
word_last [] = 0
word_last (t ∷ []) = ends_word t
word_last (t ∷ u ∷ ts) = word_last (u ∷ ts)

-- ---- tokens after others

same_first : (t : Token) (ts us : List Token) → word_first (t ∷ ts) ≡ word_first (t ∷ us)
same_first (Word w) ts us = refl
same_first (Signed w) ts us = refl
same_first (Quoted said) ts us = refl
same_first (Mark symbol) ts us = refl
same_first Hole ts us = refl
same_first Unreadable ts us = refl

same_gap : (t u : Token) (ts us : List Token) → gap t (u ∷ ts) ≡ gap t (u ∷ us)
same_gap (Word w) u ts us = same_first u ts us
same_gap (Signed w) u ts us = same_first u ts us
same_gap (Quoted said) u ts us = refl
same_gap (Mark symbol) u ts us = refl
same_gap Hole u ts us = refl
same_gap Unreadable u ts us = refl

gap_before_word : (t : Token) (w : List ℕ) (ts : List Token) → gap t (Word w ∷ ts) ≡ ends_word t
gap_before_word (Word v) w ts = refl
gap_before_word (Signed v) w ts = refl
gap_before_word (Quoted said) w ts = refl
gap_before_word (Mark symbol) w ts = refl
gap_before_word Hole w ts = refl
gap_before_word Unreadable w ts = refl

-- A word after tokens that end in one takes a blank.
least_word : (ts : List Token) (w : List ℕ) (us : List Token) → least (ts ++ Word w ∷ us) ≡ least ts + (word_last ts + least (Word w ∷ us))
least_word [] w us = omega arith
least_word (t ∷ []) w us = let g = gap_before_word t w us in let n : gap t [] ≡ 0 = none t in omega (arith, g, n)
  where
    none : (t : Token) → gap t [] ≡ 0
    none (Word v) = refl
    none (Signed v) = refl
    none (Quoted said) = refl
    none (Mark symbol) = refl
    none Hole = refl
    none Unreadable = refl
least_word (t ∷ u ∷ ts) w us =
    let later = least_word (u ∷ ts) w us in
    let same = same_gap t u (ts ++ Word w ∷ us) ts in
    omega (arith, later, same)

-- Tokens take no fewer bytes if others follow.
least_both : (ts us : List Token) → least ts + least us ≤ least (ts ++ us)
least_both [] us = omega arith
least_both (t ∷ []) us = let n : gap t [] ≡ 0 = none t in omega (arith, n)
  where
    none : (t : Token) → gap t [] ≡ 0
    none (Word v) = refl
    none (Signed v) = refl
    none (Quoted said) = refl
    none (Mark symbol) = refl
    none Hole = refl
    none Unreadable = refl
least_both (t ∷ u ∷ ts) us =
    let later = least_both (u ∷ ts) us in
    let same = same_gap t u (ts ++ us) ts in
    omega (arith, later, same)

last_of_both : (ts : List Token) (u : Token) (us : List Token) → word_last (ts ++ u ∷ us) ≡ word_last (u ∷ us)
last_of_both [] u us = refl
last_of_both (t ∷ []) u us = refl
last_of_both (t ∷ v ∷ ts) u us = last_of_both (v ∷ ts) u us

first_stays : (ts us : List Token) → word_first ts ≡ 1 → word_first (ts ++ us) ≡ 1
first_stays [] us is = absurd (omega (arith, is))
first_stays (t ∷ ts) us is = same_first t (ts ++ us) ts ∙ is

last_joined : (k : ℕ) (ts us : List Token) → k ≤ word_last us → k ≤ word_last (ts ++ us)
last_joined k ts [] is = omega (arith, is)
last_joined k ts (u ∷ us) is = let e = last_of_both ts u us in omega (arith, e, is)

last_after : (k : ℕ) (t : Token) (us : List Token) → k ≤ word_last us → k ≤ word_last (t ∷ us)
last_after k t [] is = omega (arith, is)
last_after k t (u ∷ us) is = is

last_behind : (k : ℕ) (ts : List Token) (t : Token) (us : List Token) → k ≤ word_last us → k ≤ word_last (ts ++ t ∷ us)
last_behind k ts t us is = last_joined k ts (t ∷ us) (last_after k t us is)

-- No token is a hole in tokens of which the first and the others are none.
free_parts : (ts us : List Token) → has_hole (ts ++ us) ≡ false → (has_hole ts ≡ false) × (has_hole us ≡ false)
free_parts ts us free = or_parts (has_hole ts) (has_hole us) (sym (list_any-append is_hole ts us) ∙ free)

-- ---- phrases

-- A text has no more bytes than tokens that begin with a word, and the tokens end in a word if a space follows the text.
record IsLeast (ts : List Token) (text space : List ℕ) : Type 0 where
  size : length text ≤ least ts
  first : word_first ts ≡ 1
  last : length space ≤ word_last ts

field_least : (ts : List Token) (field : FieldName) → SpellsField ts field → IsLeast ts (field_text field) (codes " ")
field_least ts field is = subst (λ us. IsLeast us (field_text field) (codes " ")) (sym is.2) (record {
  size =
      let both : length (field_text field) ≡ length field.alias + length (46 ∷ field.column) = length-append field.alias (46 ∷ field.column) in
      omega (arith, both);
  first = refl;
  last = omega arith;
})

from_least : (ts : List Token) (item : FromItem) → SpellsFromItem ts item → IsLeast ts (from_text item) (codes " ")
from_least ts item is = subst (λ us. IsLeast us (from_text item) (codes " ")) (sym is.2) (record {
  size = let both : length (from_text item) ≡ length item.table + length (32 ∷ item.alias) = length-append item.table (32 ∷ item.alias) in omega (arith, both);
  first = refl;
  last = omega arith;
})

-- Items between commas.
module _ {X : Type 0} (text : X → List ℕ) (Spells : List Token → X → Type 0) (P : X → Type 0)
    (each : (ts : List Token) (x : X) → Spells ts x → P x → IsLeast ts (text x) (codes " ")) where
  list_least : (ts : List Token) (xs : List X) → SpellsList (Mark Comma) Spells ts xs → AllByRecursion P xs
      → IsLeast ts (separated (codes ",") text xs) (codes " ")
  list_least ts [] is all = absurd is
  list_least ts (x ∷ []) is all = each ts x is all.0
  list_least ts (x ∷ y ∷ xs) is all =
      let first = each is.0 x is.2 all.0 in
      let others = list_least is.1 (y ∷ xs) is.3 all.1 in
      let rest = separated (codes ",") text (y ∷ xs) in
      let both : length (text x ++ (codes "," ++ rest)) ≡ length (text x) + length (codes "," ++ rest) = length-append (text x) (codes "," ++ rest) in
      let behind : length (codes "," ++ rest) ≡ 1 + length rest = length-append (codes ",") rest in
      subst (λ us. IsLeast us (text x ++ (codes "," ++ rest)) (codes " ")) (sym is.4) (record {
        size = omega (arith, both, behind, first.size, others.size, least_both is.0 (Mark Comma ∷ is.1));
        first = first_stays is.0 (Mark Comma ∷ is.1) first.first;
        last = last_behind 1 is.0 (Mark Comma) is.1 others.last;
      })

-- A text after a word and a space, which come after another text and its space.
with_word : (ts : List Token) (w : List ℕ) (us : List Token) (text space other end : List ℕ) → IsLeast ts text space → IsLeast us other end
    → IsLeast (ts ++ Word w ∷ us) (text ++ (space ++ (w ++ (codes " " ++ other)))) end
with_word ts w us text space other end a b =
    let one : length (text ++ (space ++ (w ++ (codes " " ++ other)))) ≡ length text + length (space ++ (w ++ (codes " " ++ other))) =
    length-append text (space ++ (w ++ (codes " " ++ other))) in
    let two : length (space ++ (w ++ (codes " " ++ other))) ≡ length space + length (w ++ (codes " " ++ other)) =
    length-append space (w ++ (codes " " ++ other)) in
    let three : length (w ++ (codes " " ++ other)) ≡ length w + length (codes " " ++ other) = length-append w (codes " " ++ other) in
    let four : length (codes " " ++ other) ≡ 1 + length other = length-append (codes " ") other in
    record {
      size = omega (arith, one, two, three, four, a.size, a.last, b.size, b.first, least_word ts w us);
      first = first_stays ts (Word w ∷ us) a.first;
      last = last_behind (length end) ts (Word w) us b.last;
    }

-- ---- numbers

decimal_least : (n : ℕ) (ds : List ℕ) → IsNumeral ds → digits_value 10 ds ≡ n → n < 2 ^ 64 → length (decimal n) ≤ length ds
decimal_least n ds numeral is fits =
    let parts = numeral_parts ds numeral in
    let below : n < 10 ^ length ds = subst (λ v. v < 10 ^ length ds) is (digits_value-lt 10 ds parts.1) in
    length-decimal-le (length ds) n parts.0 below fits

some_digits : (ds : List ℕ) → IsNumeral ds → 1 ≤ length ds
some_digits ds numeral = let some = (numeral_parts ds numeral).0 in omega (arith, some)

-- A number with a minus before its digits.
negative_least : (v : ℕ) (z : ℤ) (ds : List ℕ) → IsNumeral ds → digits_value 10 ds ≡ v → z ≡ neg_ℤ (pos v) → IsStorable (Int z)
    → length (signed_decimal z) ≤ suc (length ds)
negative_least zero z ds numeral value is stored =
    let text : length (signed_decimal z) ≡ length (decimal 0) = ap (λ (y : ℤ). length (signed_decimal y)) is in
    let short = decimal_least 0 ds numeral value (omega arith) in
    omega (arith, text, short)
negative_least (suc n) z ds numeral value is stored =
    let text : length (signed_decimal z) ≡ suc (length (decimal (suc n))) = ap (λ (y : ℤ). length (signed_decimal y)) is in
    let fits : IsStorable (Int (negsuc n)) = subst (λ (y : ℤ). IsStorable (Int y)) is stored in
    let short = decimal_least (suc n) ds numeral value (omega (arith, fits.sfits)) in
    omega (arith, text, short)

-- A number after a sign that is a minus.
negative_shift : (v : ℕ) (z : ℤ) (ds : List ℕ) → IsNumeral ds → digits_value 10 ds ≡ v → z ≡ neg_ℤ (pos v) → IsStorable (Int z)
    → length (shift_text z) ≤ suc (length ds)
negative_shift zero z ds numeral value is stored =
    let text : length (shift_text z) ≡ suc (length (decimal 0)) = ap (λ (y : ℤ). length (shift_text y)) is in
    let short = decimal_least 0 ds numeral value (omega arith) in
    omega (arith, text, short)
negative_shift (suc n) z ds numeral value is stored =
    let text : length (shift_text z) ≡ suc (length (decimal (suc n))) = ap (λ (y : ℤ). length (shift_text y)) is in
    let fits : IsStorable (Int (negsuc n)) = subst (λ (y : ℤ). IsStorable (Int y)) is stored in
    let short = decimal_least (suc n) ds numeral value (omega (arith, fits.sfits)) in
    omega (arith, text, short)

-- ---- literals

literal_least : (t : Token) (v : Value) → is_hole t ≡ false → SpellsLiteral t v → IsStorable v
    → (length (value_text v) ≤ size_of t) × (length (space_after {F = FieldName} (operand.Literal v)) ≤ ends_word t)
literal_least (Word ds) (Int z) free is stored =
    let text : length (signed_decimal z) ≡ length (decimal (digits_value 10 ds)) = ap (λ (y : ℤ). length (signed_decimal y)) is.1 in
    let fits : IsStorable (Int (pos (digits_value 10 ds))) = subst (λ (y : ℤ). IsStorable (Int y)) is.1 stored in
    let short = decimal_least (digits_value 10 ds) ds is.0 refl (omega (arith, fits.sfits)) in
    (omega (arith, text, short), omega arith)
literal_least (Signed ds) (Int z) free is stored = (negative_least (digits_value 10 ds) z ds is.0 refl is.1 stored, omega arith)
literal_least (Quoted said) (Text text) free is stored =
    let same : length (quoted text) ≡ length (quoted said) = ap (λ l. length (quoted l)) is in
    (omega (arith, same), omega arith)
literal_least Hole (Int z) free is stored = absurd (false≢true (sym free))
literal_least (Word ds) (Text text) free is stored = absurd is
literal_least (Signed ds) (Text text) free is stored = absurd is
literal_least (Quoted said) (Int z) free is stored = absurd is
literal_least (Mark symbol) v free is stored = absurd is
literal_least Hole (Text text) free is stored = absurd is
literal_least Unreadable v free is stored = absurd is

-- ---- operands

-- A text has no more bytes than tokens, which end in a word if a space follows the text.
record EndsLeast (ts : List Token) (text space : List ℕ) : Type 0 where
  size : length text ≤ least ts
  last : length space ≤ word_last ts

shift_least : (ts : List Token) (z : ℤ) → has_hole ts ≡ false → SpellsShift ts z → IsStorable (Int z) → EndsLeast ts (shift_text z) (codes " ")
shift_least ts z free (inl (ds, numeral, inl (is, value))) stored =
    let fits : IsStorable (Int (pos (digits_value 10 ds))) = subst (λ (y : ℤ). IsStorable (Int y)) value stored in
    let short = decimal_least (digits_value 10 ds) ds numeral refl (omega (arith, fits.sfits)) in
    let text : length (shift_text z) ≡ suc (length (decimal (digits_value 10 ds))) = ap (λ (y : ℤ). length (shift_text y)) value in
    subst (λ us. EndsLeast us (shift_text z) (codes " ")) (sym is) (record { size = omega (arith, text, short); last = omega arith })
shift_least ts z free (inl (ds, numeral, inr (inl is, value))) stored =
    subst (λ us. EndsLeast us (shift_text z) (codes " ")) (sym is)
    (record { size = let short = negative_shift (digits_value 10 ds) z ds numeral refl value stored in omega (arith, short); last = omega arith })
shift_least ts z free (inl (ds, numeral, inr (inr is, value))) stored =
    subst (λ us. EndsLeast us (shift_text z) (codes " ")) (sym is)
    (record { size = let short = negative_shift (digits_value 10 ds) z ds numeral refl value stored in omega (arith, short); last = omega arith })
shift_least ts z free (inr (inl is)) stored = absurd (false≢true (sym free ∙ ap has_hole is.0))
shift_least ts z free (inr (inr is)) stored = absurd (false≢true (sym free ∙ ap has_hole is.0))

operand_least : (ts : List Token) (o : Operand FieldName) → has_hole ts ≡ false → SpellsOperandOn SpellsField ts o → IsPrintableOperand o
    → EndsLeast ts (operand_text o) (space_after o)
operand_least ts (operand.Literal v) free is printable =
    let alone : is_hole is.0 ≡ false = (or_parts (is_hole is.0) false (sym (ap has_hole is.2) ∙ free)).0 in
    let one = literal_least is.0 v alone is.1 (recursion_from_All IsStorable (v ∷ []) printable.1).0 in
    subst (λ us. EndsLeast us (value_text v) (space_after {F = FieldName} (operand.Literal v))) (sym is.2)
    (record { size = omega (arith, one.0); last = one.1 })
operand_least ts (operand.Column field) free is printable =
    let r = field_least ts field is in record { size = r.size; last = r.last }
operand_least ts (operand.Shifted field by) free is printable =
    let name = field_least is.0 field is.2 in
    let parts = free_parts is.0 is.1 (sym (ap has_hole is.4) ∙ free) in
    let number = shift_least is.1 by parts.1 is.3 (recursion_from_All IsStorable (Int by ∷ []) printable.1).0 in
    let both : length (field_text field ++ shift_text by) ≡ length (field_text field) + length (shift_text by) =
    length-append (field_text field) (shift_text by) in
    subst (λ us. EndsLeast us (field_text field ++ shift_text by) (codes " ")) (sym is.4)
    (record { size = omega (arith, both, name.size, number.size, least_both is.0 is.1); last = last_joined 1 is.0 is.1 number.last })

-- ---- tests

test_least : (ts : List Token) (test : Atom FieldName) → has_hole ts ≡ false → SpellsTestOn SpellsField ts test → IsPrintableTest test
    → IsLeast ts (test_text test) (space_after test.right)
test_least ts test free is printable =
    let left = field_least is.0 test.left is.2 in
    let symbol = symbol_text (comparison_symbol test.comparison) in
    let mark : Token = Mark (comparison_symbol test.comparison) in
    let parts = free_parts is.0 (mark ∷ is.1) (sym (ap has_hole is.4) ∙ free) in
    let right = operand_least is.1 test.right parts.1 is.3 printable.1 in
    let text = operand_text test.right in
    let both : length (test_text test) ≡ length (field_text test.left) + length (symbol ++ text) = length-append (field_text test.left) (symbol ++ text) in
    let behind : length (symbol ++ text) ≡ length symbol + length text = length-append symbol text in
    subst (λ us. IsLeast us (test_text test) (space_after test.right)) (sym is.4) (record {
      size = omega (arith, both, behind, left.size, right.size, least_both is.0 (mark ∷ is.1));
      first = first_stays is.0 (mark ∷ is.1) left.first;
      last = last_behind (length (space_after test.right)) is.0 mark is.1 right.last;
    })

tests_least : (ts : List Token) (tests : List (Atom FieldName)) → has_hole ts ≡ false → SpellsList (word keyword.And) (SpellsTestOn SpellsField) ts tests
    → AllByRecursion IsPrintableTest tests → IsLeast ts (tests_text tests) (space_after_tests tests)
tests_least ts [] free is printable = absurd is
tests_least ts (t ∷ []) free is printable = test_least ts t free is printable.0
tests_least ts (t ∷ u ∷ us) free is printable =
    let parts = free_parts is.0 (word keyword.And ∷ is.1) (sym (ap has_hole is.4) ∙ free) in
    let first = test_least is.0 t parts.0 is.2 printable.0 in
    let others = tests_least is.1 (u ∷ us) parts.1 is.3 printable.1 in
    subst (λ vs. IsLeast vs (tests_text (t ∷ u ∷ us)) (space_after_tests (u ∷ us))) (sym is.4)
    (with_word is.0 (keyword_text keyword.And) is.1 (test_text t) (space_after t.right) (tests_text (u ∷ us)) (space_after_tests (u ∷ us)) first others)

-- ---- clauses

position_least : (ts : List Token) (position : ℕ) → SpellsOne SpellsPosition ts position → IsStorable (Int (pos position))
    → IsLeast ts (decimal position) (codes " ")
position_least ts position (Word ds, spelled, is) stored =
    let short = decimal_least position ds spelled.0 (sym spelled.1) (omega (arith, stored.sfits)) in
    subst (λ us. IsLeast us (decimal position) (codes " ")) (sym is) (record { size = omega (arith, short); first = refl; last = omega arith })
position_least ts position (Signed ds, spelled, is) stored = absurd spelled
position_least ts position (Quoted said, spelled, is) stored = absurd spelled
position_least ts position (Mark symbol, spelled, is) stored = absurd spelled
position_least ts position (Hole, spelled, is) stored = absurd spelled
position_least ts position (Unreadable, spelled, is) stored = absurd spelled

where_least : (ts us : List Token) (text : List ℕ) (tests : List (Atom FieldName)) → IsLeast ts text (codes " ") → has_hole us ≡ false
    → SpellsTestsOn SpellsField us tests → AllByRecursion IsPrintableTest tests → IsLeast (ts ++ us) (text ++ where_text tests) (space_after_tests tests)
where_least ts us text [] a free is printable =
    subst (λ vs. IsLeast vs (text ++ []) (codes " ")) (sym (ap (λ l. ts ++ l) is ∙ append-nil ts))
    (subst (λ l. IsLeast ts l (codes " ")) (sym (append-nil text)) a)
where_least ts us text (t ∷ tests) a free is printable =
    let inner = tests_least is.0 (t ∷ tests) (sym (ap has_hole is.2) ∙ free) is.1 printable in
    subst (λ vs. IsLeast vs (text ++ where_text (t ∷ tests)) (space_after_tests (t ∷ tests))) (sym (ap (λ l. ts ++ l) is.2))
    (with_word ts (keyword_text keyword.Where) is.0 text (codes " ") (tests_text (t ∷ tests)) (space_after_tests (t ∷ tests)) a inner)

order_least : (ts us : List Token) (text : List ℕ) (tests : List (Atom FieldName)) (positions : List ℕ) → IsLeast ts text (space_after_tests tests)
    → SpellsOrder us positions → AllByRecursion (λ p. IsStorable (Int (pos p))) positions → IsLeast (ts ++ us) (text ++ order_text tests positions) []
order_least ts us text tests [] a is stored =
    let ended : IsLeast ts text [] = record { size = a.size; first = a.first; last = omega arith } in
    subst (λ vs. IsLeast vs (text ++ []) []) (sym (ap (λ l. ts ++ l) is ∙ append-nil ts)) (subst (λ l. IsLeast ts l []) (sym (append-nil text)) ended)
order_least ts us text tests (p ∷ ps) a is stored =
    let inner = list_least decimal (SpellsOne SpellsPosition) (λ q. IsStorable (Int (pos q))) position_least is.0 (p ∷ ps) is.1 stored in
    let positions = separated (codes ",") decimal (p ∷ ps) in
    let ended : IsLeast is.0 positions [] = record { size = inner.size; first = inner.first; last = omega arith } in
    subst (λ vs. IsLeast vs (text ++ order_text tests (p ∷ ps)) []) (sym (ap (λ l. ts ++ l) is.2))
    (with_word ts (keyword_text keyword.Order) is.0 text (space_after_tests tests) positions [] a ended)

-- ---- queries

distinct_least : (ts us : List Token) (distinct : Bool) (text space : List ℕ) → SpellsDistinct ts distinct → IsLeast us text space
    → IsLeast (ts ++ us) (distinct_text distinct ++ text) space
distinct_least ts us true text space is a =
    let both : length (codes "DISTINCT " ++ text) ≡ 9 + length text = length-append (codes "DISTINCT ") text in
    subst (λ vs. IsLeast (vs ++ us) (codes "DISTINCT " ++ text) space) (sym is)
    (record { size = omega (arith, both, a.size, a.first); first = refl; last = last_after (length space) (word keyword.Distinct) us a.last })
distinct_least ts us false text space is a = subst (λ vs. IsLeast (vs ++ us) text space) (sym is) a

any : {X : Type 0} (xs : List X) → AllByRecursion (λ x. Unit {0}) xs
any [] = tt
any (x ∷ xs) = (tt, any xs)

regrouped : (a b c d e f : List ℕ) → a ++ (b ++ (c ++ (d ++ (e ++ f)))) ≡ (((a ++ b) ++ (c ++ d)) ++ e) ++ f
regrouped a b c d e f = simp append_assoc

query_least : (ts : List Token) (query : Query) → has_hole ts ≡ false → SpellsQuery ts query → IsPrintableQuery query → IsLeast ts (query_text query) []
query_least ts query free (distinct, fields, from, asked, order, distinct_is, fields_are, from_are, tests_are, order_is, is) printable =
    let columns = separated (codes ",") field_text query.fields in
    let sources = separated (codes ",") from_text query.from in
    let tests = where_text query.atoms in
    let positions = order_text query.atoms query.order in
    let front = (distinct ++ fields) ++ word keyword.From ∷ from in
    let whole = free_parts (front ++ asked) order (sym (ap has_hole is) ∙ free) in
    let asked_free = (free_parts front asked whole.0).1 in
    let one = distinct_least distinct fields query.distinct columns (codes " ") distinct_is
    (list_least field_text SpellsField (λ f. Unit {0}) (λ us f spelled all. field_least us f spelled) fields query.fields fields_are (any query.fields)) in
    let two = with_word (distinct ++ fields) (keyword_text keyword.From) from (distinct_text query.distinct ++ columns) (codes " ") sources (codes " ") one
    (list_least from_text SpellsFromItem (λ i. Unit {0}) (λ us i spelled all. from_least us i spelled) from query.from from_are (any query.from)) in
    let three = where_least front asked ((distinct_text query.distinct ++ columns) ++ (codes " FROM " ++ sources)) query.atoms two asked_free tests_are
    (recursion_from_All IsPrintableTest query.atoms printable.tests) in
    let four = order_least (front ++ asked) order (((distinct_text query.distinct ++ columns) ++ (codes " FROM " ++ sources)) ++ tests) query.atoms query.order
    three order_is (recursion_from_All (λ p. IsStorable (Int (pos p))) query.order printable.order) in
    subst (λ vs. IsLeast vs (query_text query) []) (sym is)
    (subst (λ l. IsLeast ((front ++ asked) ++ order) l [])
    (sym (regrouped (distinct_text query.distinct) columns (codes " FROM ") sources tests positions)) four)

-- The WATCH of a query has no more bytes than tokens that spell it.
pub watch_least : (ts : List Token) (name : List ℕ) (query : Query) → has_hole ts ≡ false → SpellsQuery ts query → IsPrintableQuery query
    → length (watch_text name query) ≤ least (word keyword.Watch ∷ Word name ∷ word keyword.Select ∷ ts)
watch_least ts name query free is printable =
    let behind = query_least ts query free is printable in
    let one : length (watch_text name query) ≡ 6 + length (name ++ (codes " SELECT " ++ query_text query)) =
    length-append (codes "WATCH ") (name ++ (codes " SELECT " ++ query_text query)) in
    let two : length (name ++ (codes " SELECT " ++ query_text query)) ≡ length name + length (codes " SELECT " ++ query_text query) =
    length-append name (codes " SELECT " ++ query_text query) in
    let three : length (codes " SELECT " ++ query_text query) ≡ 8 + length (query_text query) = length-append (codes " SELECT ") (query_text query) in
    omega (arith, one, two, three, behind.size, behind.first)
