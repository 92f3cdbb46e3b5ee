-- WATCH lines read as the queries that they are of.
use Rattle.std.proofs.Common.{◌≡◌, ◌≢◌, inl, inr, ℕ, suc, Bool, true, false, List, [], ◌∷◌, ◌++◌, codes, get_or, pos, refl, sym, ap, ◌∙◌, append_assoc}
use Rattle.std.proofs.Common.{append-nil, arith}
use Rattle.std.specs.Char.{is_ascii_digit}
use Rattle.std.specs.Fmt.{decimal}
use Rattle.std.specs.List.{AllByRecursion, flat_map, list_all}
use Rattle.std.specs.Str.Parse.{digits_value}
use Rattle.std.proofs.Math.IntN.{negsuc, neg_ℤ}
use Rattle.std.proofs.lemmas.Bool.{and_parts, false≢true, ne_eqb}
use Rattle.std.proofs.lemmas.Fmt.{decimal_is_IsNumeral}
use Rattle.std.proofs.lemmas.List.Elements.{recursion_from_All}
use Rattle.mm_value.specs.Literal.{IsNumeral}
use Rattle.mm_value.specs.Storable.{IsStorable}
use Rattle.mm_value.specs.Written.{value_text}
use Rattle.mm_value.specs.declared.values.Value.TheVariants.{Int, Text}
use Rattle.mm_value.proofs.Numerals.{numeral_from}
use Rattle.mm_value.proofs.Spelling.{value_text-spells}
use Rattle.mm_schema.specs.Name.{IsName, is_lower, is_name_byte, is_name_text}
use Rattle.mm_schema.proofs.StrictOrder.{AllByRecursion-append, AllByRecursion-weaker}
use Rattle.mm_query.specs.Fields.{FieldName}
use Rattle.mm_query.specs.declared.atom.Atom.{Atom}
use Rattle.mm_query.specs.declared.atom.Comparison.{Comparison}
use Rattle.mm_query.specs.declared.atom.Comparison.TheVariants as compared
use Rattle.mm_query.specs.declared.atom.Operand.{Operand}
use Rattle.mm_query.specs.declared.atom.Operand.TheVariants as operand
use Rattle.mm_query.specs.declared.command.Command.TheVariants as command
use Rattle.mm_query.specs.declared.command.Definition.TheVariants as define
use Rattle.mm_query.specs.declared.query.FromItem.{FromItem}
use Rattle.mm_query.specs.declared.query.Query.{Query}
use Rattle.mm_lang.specs.declared.read.keyword.Keyword.{Keyword}
use Rattle.mm_lang.specs.declared.read.keyword.Keyword.TheVariants as keyword
use Rattle.mm_lang.specs.declared.read.token.Symbol.TheVariants.{AtLeast, AtMost, Comma, Dot, Greater, Less, Plus}
use Rattle.mm_lang.specs.QueryText.{distinct_text, field_text, from_text, operand_text, order_text, query_text, separated, shift_text, space_after}
use Rattle.mm_lang.specs.QueryText.{space_after_tests, test_text, tests_text, where_text}
use Rattle.mm_lang.specs.Reading.{position_literals, query_literals, test_literals}
use Rattle.mm_lang.specs.Spelling.{SpellsCommand, SpellsDistinct, SpellsField, SpellsFromItem, SpellsList, SpellsOne, SpellsOperandOn}
use Rattle.mm_lang.specs.Spelling.{SpellsOrder, SpellsPosition, SpellsQuery, SpellsTestOn, SpellsTestsOn, comparison_symbol, word}
use Rattle.mm_lang.specs.Tokens.{Token, Word, Signed, Quoted, Mark, begins_equal, begins_word, has_hole, is_word_byte, lexed, onto_equal, tokens}
use Rattle.mm_lang.specs.Words.{keyword_text, symbol_text}
use Rattle.mm_dump.specs.Entries.{HasFieldNames, IsPrintableOperand, IsPrintableQuery, IsPrintableTest}
use Rattle.mm_dump.specs.Texts.{watch_text}
use Rattle.mm_dump.proofs.Fronts.{bare_comma, blank_front, literal_reads, name_lexed, numeral_lexed, signed_lexed, text_front, text_lexed, word_lexed}
use Rattle.mm_dump.proofs.Phrases.{IsLexed, Reads, ends_token, free_of_both, lexed_alone, lexed_both, list_reads}

-- ---- fields

dot_front : (bs : List ℕ) → tokens (46 ∷ bs) ≡ Mark Dot ∷ tokens bs
unfolding lexed
dot_front bs = refl

-- a name after a dot
dotted : (n : List ℕ) → IsName n → IsLexed (46 ∷ n) (Mark Dot ∷ Word n ∷ [])
dotted n named = record {
  front = λ rest end. dot_front (n ++ rest) ∙ ap (λ l. Mark Dot ∷ l) ((name_lexed n named).front rest end);
  free = refl;
}

field_reads : (field : FieldName) → HasFieldNames field → Reads SpellsField (field_text field) field
field_reads field named = record {
  ts = Word field.alias ∷ Mark Dot ∷ Word field.column ∷ [];
  lexed = lexed_both (name_lexed field.alias named.0) (dotted field.column named.1) (λ rest end. refl);
  spelled = (named.0, named.1, refl);
}

-- a word after a blank
behind_blank : {text : List ℕ} {ts : List Token} → IsLexed text ts → IsLexed (32 ∷ text) ts
behind_blank {text} is = record { front = λ rest end. blank_front (text ++ rest) ∙ is.front rest end; free = is.free }

from_reads : (item : FromItem) → IsName item.table × IsName item.alias → Reads SpellsFromItem (from_text item) item
from_reads item named = record {
  ts = Word item.table ∷ Word item.alias ∷ [];
  lexed = lexed_both (name_lexed item.table named.0) (behind_blank (name_lexed item.alias named.1)) (λ rest end. refl);
  spelled = (named.0, named.1, refl);
}

-- ---- operands

abbrev pub Numeral : ℕ → Type 0
Numeral n = IsNumeral (decimal n) × (digits_value 10 (decimal n) ≡ n)

pub numeral_of : (n : ℕ) → IsStorable (Int (pos n)) → Numeral n
numeral_of n fits = let h = decimal_is_IsNumeral n (omega (arith, fits.sfits)) in (numeral_from (decimal n) h.0.0 h.0.1, h.1)

pub numeral_below : (n : ℕ) → IsStorable (Int (negsuc n)) → Numeral (suc n)
numeral_below n fits = let h = decimal_is_IsNumeral (suc n) (omega (arith, fits.sfits)) in (numeral_from (decimal (suc n)) h.0.0 h.0.1, h.1)

plus_front : (bs : List ℕ) → tokens (43 ∷ bs) ≡ Mark Plus ∷ tokens bs
unfolding lexed
plus_front bs = refl

plus_lexed : (n : ℕ) → Numeral n → IsLexed (43 ∷ decimal n) (Mark Plus ∷ Word (decimal n) ∷ [])
plus_lexed n numeral = record {
  front = λ rest end. plus_front (decimal n ++ rest) ∙ ap (λ l. Mark Plus ∷ l) ((numeral_lexed (decimal n) numeral.0).front rest end);
  free = refl;
}

-- An operand is lexed before any bytes that end a token, and with its space before any bytes that begin with no quote.
record ReadsOperand (o : Operand FieldName) : Type 0 where
  ts : List Token
  lexed : IsLexed (operand_text o) ts
  closed : (rest : List ℕ) → get_or rest 0 0 ≢ 39 → tokens (operand_text o ++ (space_after o ++ rest)) ≡ ts ++ tokens rest
  spelled : SpellsOperandOn SpellsField ts o

-- A space ends a token.
spaced : {text : List ℕ} {ts : List Token} → IsLexed text ts → (rest : List ℕ) → tokens (text ++ 32 ∷ rest) ≡ ts ++ tokens rest
spaced {text} {ts} is rest = is.front (32 ∷ rest) refl ∙ ap (λ l. ts ++ l) (blank_front rest)

operand_reads : (o : Operand FieldName) → IsPrintableOperand o → ReadsOperand o
operand_reads (operand.Literal (Int z)) printable =
    let stored : IsStorable (Int z) = (recursion_from_All IsStorable (Int z ∷ []) printable.1).0 in
    let r = literal_reads (value_text (Int z)) (Int z) (value_text-spells (Int z) stored).0 in
    record { ts = r.ts; lexed = r.lexed; closed = λ rest end. spaced r.lexed rest; spelled = r.spelled }
operand_reads (operand.Literal (Text said)) printable =
    let stored : IsStorable (Text said) = (recursion_from_All IsStorable (Text said ∷ []) printable.1).0 in
    record {
      ts = Quoted said ∷ [];
      lexed = text_lexed said stored.one_line;
      closed = λ rest end. text_front said rest stored.one_line end;
      spelled = (Quoted said, refl, refl);
    }
operand_reads (operand.Column field) printable =
    let r = field_reads field printable.0 in
    record { ts = r.ts; lexed = r.lexed; closed = λ rest end. spaced r.lexed rest; spelled = r.spelled }
operand_reads (operand.Shifted field (pos n)) printable =
    let numeral = numeral_of n (recursion_from_All IsStorable (Int (pos n) ∷ []) printable.1).0 in
    let is = lexed_both (field_reads field printable.0).lexed (plus_lexed n numeral) (λ rest end. refl) in
    record {
      ts = (field_reads field printable.0).ts ++ Mark Plus ∷ Word (decimal n) ∷ [];
      lexed = is;
      closed = λ rest end. spaced is rest;
      spelled = (
        (field_reads field printable.0).ts,
        Mark Plus ∷ Word (decimal n) ∷ [],
        (field_reads field printable.0).spelled,
        inl (decimal n, numeral.0, inl (refl, ap pos (sym numeral.1))),
        refl,
      );
    }
operand_reads (operand.Shifted field (negsuc n)) printable =
    let numeral = numeral_below n (recursion_from_All IsStorable (Int (negsuc n) ∷ []) printable.1).0 in
    let is = lexed_both (field_reads field printable.0).lexed (signed_lexed (decimal (suc n)) numeral.0) (λ rest end. refl) in
    record {
      ts = (field_reads field printable.0).ts ++ Signed (decimal (suc n)) ∷ [];
      lexed = is;
      closed = λ rest end. spaced is rest;
      spelled = (
        (field_reads field printable.0).ts,
        Signed (decimal (suc n)) ∷ [],
        (field_reads field printable.0).spelled,
        inl (decimal (suc n), numeral.0, inr (inr refl, ap (λ k. neg_ℤ (pos k)) (sym numeral.1))),
        refl,
      );
    }

-- ---- tests

-- Bytes begin with no equals sign if they begin with a digit, ..
numeral_no_equal : (ds rest : List ℕ) → IsNumeral ds → begins_equal (ds ++ rest) ≡ false
numeral_no_equal [] rest numeral = absurd (false≢true numeral)
numeral_no_equal (d ∷ ds) rest numeral =
    let all = (and_parts _ (list_all is_ascii_digit (d ∷ ds)) numeral).1 in
    let first = (and_parts (is_ascii_digit d) (list_all is_ascii_digit ds) all).0 in
    ne_eqb d 61 (λ e. false≢true (ap is_ascii_digit (sym e) ∙ first))

-- .. or with a name.
name_no_equal : (n rest : List ℕ) → IsName n → begins_equal (n ++ rest) ≡ false
name_no_equal [] rest named = absurd (false≢true named)
name_no_equal (b ∷ bs) rest named =
    let text = (and_parts (is_name_text (b ∷ bs)) _ named).0 in
    let first = (and_parts (is_lower b) (list_all is_name_byte bs) text).0 in
    ne_eqb b 61 (λ e. false≢true (ap is_lower (sym e) ∙ first))

field_no_equal : (field : FieldName) (behind rest : List ℕ) → IsName field.alias → begins_equal ((field_text field ++ behind) ++ rest) ≡ false
field_no_equal field behind rest named =
    ap begins_equal (append_assoc (field_text field) behind rest ∙ append_assoc field.alias (46 ∷ field.column) (behind ++ rest))
    ∙ name_no_equal field.alias (46 ∷ field.column ++ (behind ++ rest)) named

no_equal : (o : Operand FieldName) → IsPrintableOperand o → (rest : List ℕ) → begins_equal (operand_text o ++ rest) ≡ false
no_equal (operand.Literal (Int (pos n))) printable rest =
    numeral_no_equal (decimal n) rest (numeral_of n (recursion_from_All IsStorable (Int (pos n) ∷ []) printable.1).0).0
no_equal (operand.Literal (Int (negsuc n))) printable rest = refl
no_equal (operand.Literal (Text said)) printable rest = refl
no_equal (operand.Column field) printable rest =
    ap begins_equal (append_assoc field.alias (46 ∷ field.column) rest) ∙ name_no_equal field.alias (46 ∷ field.column ++ rest) printable.0.0
no_equal (operand.Shifted field by) printable rest = field_no_equal field (shift_text by) rest printable.0.0

symbol_front : (c : Comparison) (bs : List ℕ) → begins_equal bs ≡ false
    → tokens (symbol_text (comparison_symbol c) ++ bs) ≡ Mark (comparison_symbol c) ∷ tokens bs
unfolding lexed
symbol_front compared.Equal bs other = refl
symbol_front compared.Less bs other = ap (λ joins. onto_equal Less AtMost joins (tokens bs)) other
symbol_front compared.LessOrEqual bs other = refl
symbol_front compared.Greater bs other = ap (λ joins. onto_equal Greater AtLeast joins (tokens bs)) other
symbol_front compared.GreaterOrEqual bs other = refl

symbol_ends : (c : Comparison) (bs : List ℕ) → ends_token (symbol_text (comparison_symbol c) ++ bs) ≡ true
symbol_ends compared.Equal bs = refl
symbol_ends compared.Less bs = refl
symbol_ends compared.LessOrEqual bs = refl
symbol_ends compared.Greater bs = refl
symbol_ends compared.GreaterOrEqual bs = refl

record ReadsTest (test : Atom FieldName) : Type 0 where
  ts : List Token
  lexed : IsLexed (test_text test) ts
  closed : (rest : List ℕ) → get_or rest 0 0 ≢ 39 → tokens (test_text test ++ (space_after test.right ++ rest)) ≡ ts ++ tokens rest
  spelled : SpellsTestOn SpellsField ts test

test_reads : (test : Atom FieldName) → IsPrintableTest test → ReadsTest test
test_reads test printable =
    let left = field_reads test.left printable.0 in
    let right = operand_reads test.right printable.1 in
    let symbol = comparison_symbol test.comparison in
    let text = operand_text test.right in
    -- the tokens after the field, if the tokens after the symbol are known
    let behind = λ (rest : List ℕ) (us : List Token) (is : tokens (text ++ rest) ≡ right.ts ++ us).
    ap tokens (append_assoc (symbol_text symbol) text rest) ∙ symbol_front test.comparison (text ++ rest) (no_equal test.right printable.1 rest)
    ∙ ap (λ l. Mark symbol ∷ l) is in
    let whole = λ (rest : List ℕ) (us : List Token) (is : tokens (text ++ rest) ≡ right.ts ++ us).
    ap tokens (append_assoc (field_text test.left) (symbol_text symbol ++ text) rest)
    ∙ left.lexed.front ((symbol_text symbol ++ text) ++ rest)
    (ap ends_token (append_assoc (symbol_text symbol) text rest) ∙ symbol_ends test.comparison (text ++ rest))
    ∙ ap (λ l. left.ts ++ l) (behind rest us is) ∙ sym (append_assoc left.ts (Mark symbol ∷ right.ts) us) in
    record {
      ts = left.ts ++ Mark symbol ∷ right.ts;
      lexed = record {
        front = λ rest end. whole rest (tokens rest) (right.lexed.front rest end);
        free = free_of_both left.ts (Mark symbol ∷ right.ts) left.lexed.free right.lexed.free;
      };
      closed = λ rest end. whole (space_after test.right ++ rest) (tokens rest) (right.closed rest end);
      spelled = (left.ts, right.ts, left.spelled, right.spelled, refl);
    }

-- ---- clauses

-- a keyword between two blanks, whatever follows it
keyword_front : (k : Keyword) → begins_word (keyword_text k) ≡ true → list_all is_word_byte (keyword_text k) ≡ true → (bs : List ℕ)
    → tokens (32 ∷ keyword_text k ++ 32 ∷ bs) ≡ word k ∷ tokens bs
keyword_front k begins all bs =
    blank_front (keyword_text k ++ 32 ∷ bs) ∙ (word_lexed (keyword_text k) begins all).front (32 ∷ bs) refl ∙ ap (λ l. word k ∷ l) (blank_front bs)

and_front : (bs : List ℕ) → tokens (codes "AND " ++ bs) ≡ word keyword.And ∷ tokens bs
and_front bs = (word_lexed (codes "AND") refl refl).front (32 ∷ bs) refl ∙ ap (λ l. word keyword.And ∷ l) (blank_front bs)

order_front : (bs : List ℕ) → tokens (codes "ORDER " ++ bs) ≡ word keyword.Order ∷ tokens bs
order_front bs = (word_lexed (codes "ORDER") refl refl).front (32 ∷ bs) refl ∙ ap (λ l. word keyword.Order ∷ l) (blank_front bs)

record ReadsTests (tests : List (Atom FieldName)) : Type 0 where
  ts : List Token
  lexed : IsLexed (tests_text tests) ts
  closed : (rest : List ℕ) → get_or rest 0 0 ≢ 39 → tokens (tests_text tests ++ (space_after_tests tests ++ rest)) ≡ ts ++ tokens rest
  spelled : SpellsList (word keyword.And) (SpellsTestOn SpellsField) ts tests

letter_a : (bs : List ℕ) → get_or (codes "AND " ++ bs) 0 0 ≢ 39
letter_a bs e = omega (arith, e)

letter_o : (bs : List ℕ) → get_or (codes "ORDER " ++ bs) 0 0 ≢ 39
letter_o bs e = omega (arith, e)

tests_read : (test : Atom FieldName) (tests : List (Atom FieldName)) → AllByRecursion IsPrintableTest (test ∷ tests) → ReadsTests (test ∷ tests)
tests_read test [] all = let r = test_reads test all.0 in record { ts = r.ts; lexed = r.lexed; closed = r.closed; spelled = r.spelled }
tests_read test (other ∷ tests) all =
    let first = test_reads test all.0 in
    let others = tests_read other tests all.1 in
    let text = tests_text (other ∷ tests) in
    let space = space_after test.right in
    let whole = λ (rest : List ℕ) (us : List Token) (is : tokens (text ++ rest) ≡ others.ts ++ us).
    ap tokens (append_assoc (test_text test) (space ++ (codes "AND " ++ text)) rest
    ∙ ap (λ l. test_text test ++ l) (append_assoc space (codes "AND " ++ text) rest))
    ∙ first.closed (codes "AND " ++ (text ++ rest)) (letter_a (text ++ rest))
    ∙ ap (λ l. first.ts ++ l) (and_front (text ++ rest) ∙ ap (λ l. word keyword.And ∷ l) is)
    ∙ sym (append_assoc first.ts (word keyword.And ∷ others.ts) us) in
    record {
      ts = first.ts ++ word keyword.And ∷ others.ts;
      lexed = record {
        front = λ rest end. whole rest (tokens rest) (others.lexed.front rest end);
        free = free_of_both first.ts (word keyword.And ∷ others.ts) first.lexed.free others.lexed.free;
      };
      closed = λ rest end. whole (space_after_tests (other ∷ tests) ++ rest) (tokens rest) (others.closed rest end);
      spelled = (first.ts, others.ts, first.spelled, others.spelled, refl);
    }

position_reads : (position : ℕ) → IsStorable (Int (pos position)) → Reads (SpellsOne SpellsPosition) (decimal position) position
position_reads position fits =
    let numeral = numeral_of position fits in
    record {
      ts = Word (decimal position) ∷ [];
      lexed = numeral_lexed (decimal position) numeral.0;
      spelled = (Word (decimal position), (numeral.0, sym numeral.1), refl);
    }

positions_read : (position : ℕ) (positions : List ℕ) → AllByRecursion (λ p. IsStorable (Int (pos p))) (position ∷ positions)
    → Reads (SpellsList (Mark Comma) (SpellsOne SpellsPosition)) (separated (codes ",") decimal (position ∷ positions)) (position ∷ positions)
positions_read position positions all =
    list_reads decimal (SpellsOne SpellsPosition) bare_comma position positions (AllByRecursion-weaker position_reads (position ∷ positions) all)

-- The tests and the positions of a query, before the end of a line.
record ReadsClauses (tests : List (Atom FieldName)) (positions : List ℕ) : Type 0 where
  asked : List Token
  order : List Token
  lexed : IsLexed (where_text tests ++ order_text tests positions) (asked ++ order)
  ends : (rest : List ℕ) → ends_token rest ≡ true → ends_token ((where_text tests ++ order_text tests positions) ++ rest) ≡ true
  tests_spelled : SpellsTestsOn SpellsField asked tests
  order_spelled : SpellsOrder order positions

clauses_read : (tests : List (Atom FieldName)) (positions : List ℕ) → AllByRecursion IsPrintableTest tests
    → AllByRecursion (λ p. IsStorable (Int (pos p))) positions → ReadsClauses tests positions
clauses_read [] [] all stored = record {
  asked = [];
  order = [];
  lexed = record { front = λ rest end. refl; free = refl };
  ends = λ rest end. end;
  tests_spelled = refl;
  order_spelled = refl;
}
clauses_read [] (p ∷ ps) all stored =
    let r = positions_read p ps stored in
    let text = separated (codes ",") decimal (p ∷ ps) in
    record {
      asked = [];
      order = word keyword.Order ∷ r.ts;
      lexed = record {
        front = λ rest end. keyword_front keyword.Order refl refl (text ++ rest) ∙ ap (λ l. word keyword.Order ∷ l) (r.lexed.front rest end);
        free = r.lexed.free;
      };
      ends = λ rest end. refl;
      tests_spelled = refl;
      order_spelled = (r.ts, r.spelled, refl);
    }
clauses_read (test ∷ tests) [] all stored =
    let r = tests_read test tests all in
    let text = tests_text (test ∷ tests) in
    record {
      asked = word keyword.Where ∷ r.ts;
      order = [];
      lexed = record {
        front = λ rest end.
            keyword_front keyword.Where refl refl ((text ++ []) ++ rest)
            ∙ ap (λ l. word keyword.Where ∷ l) (ap (λ l. tokens (l ++ rest)) (append-nil text) ∙ r.lexed.front rest end
            ∙ ap (λ l. l ++ tokens rest) (sym (append-nil r.ts)));
        free = ap has_hole (append-nil r.ts) ∙ r.lexed.free;
      };
      ends = λ rest end. refl;
      tests_spelled = (r.ts, r.spelled, refl);
      order_spelled = refl;
    }
clauses_read (test ∷ tests) (p ∷ ps) all stored =
    let r = tests_read test tests all in
    let o = positions_read p ps stored in
    let text = tests_text (test ∷ tests) in
    let space = space_after_tests (test ∷ tests) in
    let positions = separated (codes ",") decimal (p ∷ ps) in
    let behind = codes "ORDER " ++ positions in
    record {
      asked = word keyword.Where ∷ r.ts;
      order = word keyword.Order ∷ o.ts;
      lexed = record {
        front = λ rest end.
            keyword_front keyword.Where refl refl ((text ++ (space ++ behind)) ++ rest)
            ∙ ap (λ l. word keyword.Where ∷ l) (ap tokens (append_assoc text (space ++ behind) rest ∙ ap (λ l. text ++ l) (append_assoc space behind rest))
            ∙ r.closed (behind ++ rest) (letter_o (positions ++ rest))
            ∙ ap (λ l. r.ts ++ l) (order_front (positions ++ rest) ∙ ap (λ l. word keyword.Order ∷ l) (o.lexed.front rest end))
            ∙ sym (append_assoc r.ts (word keyword.Order ∷ o.ts) (tokens rest)));
        free = free_of_both r.ts (word keyword.Order ∷ o.ts) r.lexed.free o.lexed.free;
      };
      ends = λ rest end. refl;
      tests_spelled = (r.ts, r.spelled, refl);
      order_spelled = (o.ts, o.spelled, refl);
    }

-- ---- queries

distinct_reads : (distinct : Bool)
    → (ts : List Token) × ((rest : List ℕ) → tokens (distinct_text distinct ++ rest) ≡ ts ++ tokens rest) × (has_hole ts ≡ false) × SpellsDistinct ts distinct
distinct_reads true = (
  word keyword.Distinct ∷ [],
  (λ rest. (word_lexed (codes "DISTINCT") refl refl).front (32 ∷ rest) refl ∙ ap (λ l. word keyword.Distinct ∷ l) (blank_front rest)),
  refl,
  refl,
)
distinct_reads false = ([], (λ rest. refl), refl, refl)

some_reads : {A : Type 0} (text : A → List ℕ) (Spells : List Token → A → Type 0) (xs : List A) → xs ≢ [] → AllByRecursion (λ x. Reads Spells (text x) x) xs
    → Reads (SpellsList (Mark Comma) Spells) (separated (codes ",") text xs) xs
some_reads text Spells [] some all = absurd (some refl)
some_reads text Spells (x ∷ xs) some all = list_reads text Spells bare_comma x xs all

regrouped : (a b c d e : List Token) → a ++ (b ++ (c ++ (d ++ e))) ≡ a ++ b ++ c ++ d ++ e
regrouped a b c d e = simp append_assoc

query_reads : (query : Query) → IsPrintableQuery query → (ts : List Token) × (tokens (query_text query) ≡ ts) × (has_hole ts ≡ false) × SpellsQuery ts query
query_reads query printable =
    let distinct = distinct_reads query.distinct in
    let fields = some_reads field_text SpellsField query.fields printable.some_fields
    (AllByRecursion-weaker field_reads query.fields (recursion_from_All HasFieldNames query.fields printable.fields)) in
    let from = some_reads from_text SpellsFromItem query.from printable.some_from
    (AllByRecursion-weaker from_reads query.from (recursion_from_All _ query.from printable.from)) in
    let clauses = clauses_read query.atoms query.order (recursion_from_All IsPrintableTest query.atoms printable.tests)
    (recursion_from_All _ query.order printable.order) in
    let columns = separated (codes ",") field_text query.fields in
    let sources = separated (codes ",") from_text query.from in
    let text = sources ++ (where_text query.atoms ++ order_text query.atoms query.order) in
    let behind : IsLexed text (from.ts ++ (clauses.asked ++ clauses.order)) = lexed_both from.lexed clauses.lexed clauses.ends in (
      distinct.0 ++ (fields.ts ++ word keyword.From ∷ (from.ts ++ (clauses.asked ++ clauses.order))),
      distinct.1 (columns ++ (codes " FROM " ++ text))
          ∙ ap (λ l. distinct.0 ++ l) (fields.lexed.front (codes " FROM " ++ text) refl
          ∙ ap (λ l. fields.ts ++ l) (keyword_front keyword.From refl refl text ∙ ap (λ l. word keyword.From ∷ l) (lexed_alone behind))),
      free_of_both distinct.0 _ distinct.2 (free_of_both fields.ts _ fields.lexed.free behind.free),
      (
        distinct.0,
        fields.ts,
        from.ts,
        clauses.asked,
        clauses.order,
        distinct.3,
        fields.spelled,
        from.spelled,
        clauses.tests_spelled,
        clauses.order_spelled,
        regrouped distinct.0 fields.ts (word keyword.From ∷ from.ts) clauses.asked clauses.order,
      ),
    )

module _ (name : List ℕ) (query : Query) (named : IsName name) (printable : IsPrintableQuery query) where
  watch_tokens : tokens (watch_text name query) ≡ word keyword.Watch ∷ Word name ∷ word keyword.Select ∷ (query_reads query printable).0
  watch_tokens =
      let behind = query_text query in
      (word_lexed (codes "WATCH") refl refl).front (32 ∷ (name ++ (codes " SELECT " ++ behind))) refl
      ∙ ap (λ l. word keyword.Watch ∷ l) (blank_front (name ++ (codes " SELECT " ++ behind)) ∙ (name_lexed name named).front (codes " SELECT " ++ behind) refl
      ∙ ap (λ l. Word name ∷ l) (keyword_front keyword.Select refl refl behind ∙ ap (λ l. word keyword.Select ∷ l) (query_reads query printable).1))

  pub watch_spelled : SpellsCommand (tokens (watch_text name query)) (command.Define (define.Watch (record { name = name; query = query })))
  watch_spelled = ((query_reads query printable).0, named, (query_reads query printable).3, watch_tokens)

  pub watch_free : has_hole (tokens (watch_text name query)) ≡ false
  watch_free = ap has_hole watch_tokens ∙ (query_reads query printable).2

tests_stored : (tests : List (Atom FieldName)) → AllByRecursion IsPrintableTest tests → AllByRecursion IsStorable (flat_map test_literals tests)
tests_stored [] all = tt
tests_stored (test ∷ tests) all =
    AllByRecursion-append IsStorable (test_literals test) (flat_map test_literals tests)
    (recursion_from_All IsStorable (test_literals test) all.0.1.1) (tests_stored tests all.1)

order_stored : (positions : List ℕ) → AllByRecursion (λ p. IsStorable (Int (pos p))) positions
    → AllByRecursion IsStorable (flat_map position_literals positions)
order_stored [] all = tt
order_stored (p ∷ ps) all = (all.0, order_stored ps all.1)

pub watch_fits : (query : Query) → IsPrintableQuery query → AllByRecursion IsStorable (query_literals query)
watch_fits query printable =
    AllByRecursion-append IsStorable (flat_map test_literals query.atoms) (flat_map position_literals query.order)
    (tests_stored query.atoms (recursion_from_All IsPrintableTest query.atoms printable.tests))
    (order_stored query.order (recursion_from_All _ query.order printable.order))
