-- The tokens of words, names, literals and symbols, whatever ends them.
use Rattle.std.proofs.Common.{◌≡◌, ◌≢◌, inl, inr, ℕ, Bool, true, false, not, ◌||◌, ◌&&◌, cond, eqb, nat_le, List, [], ◌∷◌, ◌++◌, codes, refl, sym}
use Rattle.std.proofs.Common.{ap, ◌∙◌, subst, append_assoc, get_or, arith}
use Rattle.std.specs.Prelude.{All}
use Rattle.std.specs.Char.{is_ascii_digit}
use Rattle.std.specs.List.{AllByRecursion, list_all}
use Rattle.std.proofs.lemmas.Bool.{and_parts, eq-eqb, eqb-true, false≢true}
use Rattle.std.proofs.lemmas.List.Elements.{recursion_from_All}
use Rattle.mm_value.specs.Literal.{IsNumeral, Spells, doubled, quoted}
use Rattle.mm_value.specs.declared.values.Value.{Value}
use Rattle.mm_value.specs.declared.values.Value.TheVariants.{Int, Text}
use Rattle.mm_schema.specs.Name.{IsName, is_lower, is_name_byte, is_name_text}
use Rattle.mm_lang.specs.declared.read.token.Symbol.TheVariants.{Open, Close, Comma}
use Rattle.mm_lang.specs.Spelling.{SpellsLiteral, SpellsOne}
use Rattle.mm_lang.specs.Tokens.{Word, Signed, Quoted, Mark, Inside, begins_word, is_word_byte, lexed, onto_minus, onto_text, onto_word, tokens}
use Rattle.mm_lang.proofs.Lexing.{text_byte, text_end, text_quotes, tokens_blank, tokens_quote, word_step}
use Rattle.mm_dump.proofs.Phrases.{IsLexed, IsSeparator, Reads, ends_token}

-- The end of a token begins with no byte of a word, ..
no_word : (rest : List ℕ) → ends_token rest ≡ true → begins_word rest ≡ false
no_word [] end = refl
no_word (b ∷ bs) end = by (is_word_byte b) (eqb b 39) end
  where
    by : (word quote : Bool) → not (word || quote) ≡ true → word ≡ false
    by true quote h = absurd (false≢true h)
    by false quote h = refl

-- .. and with no quote.
no_quote : (rest : List ℕ) → ends_token rest ≡ true → get_or rest 0 0 ≢ 39
no_quote [] end e = absurd (omega (arith, e))
no_quote (b ∷ bs) end e = by (is_word_byte b) (eqb b 39) (ap (λ c. eqb c 39) e) end
  where
    by : (word quote : Bool) → quote ≡ true → not (word || quote) ≡ true → ⊥
    by word false is h = false≢true is
    by true true is h = false≢true h
    by false true is h = false≢true h

-- ---- words

-- Bytes of a word, before bytes that begin with none, are a token.
word_front : (w rest : List ℕ) → begins_word w ≡ true → list_all is_word_byte w ≡ true → begins_word rest ≡ false
    → tokens (w ++ rest) ≡ Word w ∷ tokens rest
word_front [] rest begins all end = absurd (false≢true begins)
word_front (b ∷ []) rest begins all end = word_step b rest begins ∙ ap (λ joins. onto_word b joins (tokens rest)) end
word_front (b ∷ c ∷ cs) rest begins all end =
    let behind = (and_parts (is_word_byte b) (list_all is_word_byte (c ∷ cs)) all).1 in
    let next = (and_parts (is_word_byte c) (list_all is_word_byte cs) behind).0 in
    word_step b (c ∷ cs ++ rest) begins ∙ ap (λ joins. onto_word b joins (tokens (c ∷ cs ++ rest))) next
    ∙ ap (onto_word b true) (word_front (c ∷ cs) rest next behind end)

pub word_lexed : (w : List ℕ) → begins_word w ≡ true → list_all is_word_byte w ≡ true → IsLexed w (Word w ∷ [])
word_lexed w begins all = record { front = λ rest end. word_front w rest begins all (no_word rest end); free = refl }

-- ---- names

byte_of_word : (b : ℕ) → is_name_byte b ≡ true → is_word_byte b ≡ true
byte_of_word b is = by (is_lower b) (nat_le 65 b && nat_le b 90) (nat_le 48 b && nat_le b 57) (eqb b 95) is
  where
    by : (lower upper digit under : Bool) → (lower || digit || under) ≡ true → (lower || upper || digit || under) ≡ true
    by true upper digit under is = refl
    by false true digit under is = refl
    by false false digit under is = is

bytes_of_word : (bs : List ℕ) → list_all is_name_byte bs ≡ true → list_all is_word_byte bs ≡ true
bytes_of_word [] all = refl
bytes_of_word (b ∷ bs) all =
    let p = and_parts (is_name_byte b) (list_all is_name_byte bs) all in
    λ i. byte_of_word b p.0 i && bytes_of_word bs p.1 i

letter_of_word : (b : ℕ) → is_lower b ≡ true → is_word_byte b ≡ true
letter_of_word b is = ap (λ l. l || (nat_le 65 b && nat_le b 90) || (nat_le 48 b && nat_le b 57) || eqb b 95) is

-- A name is a word.
pub name_lexed : (n : List ℕ) → IsName n → IsLexed n (Word n ∷ [])
name_lexed [] named = absurd (false≢true named)
name_lexed (b ∷ bs) named =
    let text = (and_parts (is_name_text (b ∷ bs)) _ named).0 in
    let p = and_parts (is_lower b) (list_all is_name_byte bs) text in
    let first = letter_of_word b p.0 in
    word_lexed (b ∷ bs) first (λ i. first i && bytes_of_word bs p.1 i)

-- ---- literals

digit_of_word : (b : ℕ) → is_ascii_digit b ≡ true → is_word_byte b ≡ true
digit_of_word b is = by (nat_le 97 b && nat_le b 122) (nat_le 65 b && nat_le b 90) (nat_le 48 b && nat_le b 57) (eqb b 95) is
  where
    by : (lower upper digit under : Bool) → digit ≡ true → (lower || upper || digit || under) ≡ true
    by true upper digit under is = refl
    by false true digit under is = refl
    by false false true under is = refl
    by false false false under is = absurd (false≢true is)

digits_of_word : (bs : List ℕ) → list_all is_ascii_digit bs ≡ true → list_all is_word_byte bs ≡ true
digits_of_word [] all = refl
digits_of_word (b ∷ bs) all =
    let p = and_parts (is_ascii_digit b) (list_all is_ascii_digit bs) all in
    λ i. digit_of_word b p.0 i && digits_of_word bs p.1 i

-- Digits are a word, ..
pub numeral_lexed : (ds : List ℕ) → IsNumeral ds → IsLexed ds (Word ds ∷ [])
numeral_lexed [] numeral = absurd (false≢true numeral)
numeral_lexed (b ∷ bs) numeral =
    let all = digits_of_word (b ∷ bs) (and_parts _ (list_all is_ascii_digit (b ∷ bs)) numeral).1 in
    word_lexed (b ∷ bs) (and_parts (is_word_byte b) (list_all is_word_byte bs) all).0 all

-- .. and directly after a minus a number with a sign.
minus_front : (bs : List ℕ) → tokens (45 ∷ bs) ≡ onto_minus (begins_word bs) (tokens bs)
unfolding lexed
minus_front bs = refl

pub signed_lexed : (ds : List ℕ) → IsNumeral ds → IsLexed (45 ∷ ds) (Signed ds ∷ [])
signed_lexed [] numeral = absurd (false≢true numeral)
signed_lexed (b ∷ bs) numeral =
    let all = digits_of_word (b ∷ bs) (and_parts _ (list_all is_ascii_digit (b ∷ bs)) numeral).1 in
    let begins = (and_parts (is_word_byte b) (list_all is_word_byte bs) all).0 in
    record {
      front = λ rest end.
          minus_front (b ∷ bs ++ rest) ∙ ap (λ joins. onto_minus joins (tokens (b ∷ bs ++ rest))) begins
          ∙ ap (onto_minus true) ((numeral_lexed (b ∷ bs) numeral).front rest end);
      free = refl;
    }

-- The content of a text, from its opening quote on.
body_front : (said rest : List ℕ) → AllByRecursion (λ b. b ≢ 10) said → get_or rest 0 0 ≢ 39
    → lexed Inside (doubled said ++ 39 ∷ rest) ≡ Quoted said ∷ tokens rest
body_front [] rest one_line end = text_end rest end
body_front (b ∷ bs) rest one_line end = by (eqb b 39) refl (body_front bs rest one_line.1 end)
  where
    by : (quote : Bool) → eqb b 39 ≡ quote → lexed Inside (doubled bs ++ 39 ∷ rest) ≡ Quoted bs ∷ tokens rest
        → lexed Inside ((cond (eqb b 39) (39 ∷ 39 ∷ []) (b ∷ []) ++ doubled bs) ++ 39 ∷ rest) ≡ Quoted (b ∷ bs) ∷ tokens rest
    by true is more =
        ap (λ c. lexed Inside ((cond c (39 ∷ 39 ∷ []) (b ∷ []) ++ doubled bs) ++ 39 ∷ rest)) is
        ∙ text_quotes (doubled bs ++ 39 ∷ rest) ∙ ap (onto_text 39) more ∙ ap (λ x. Quoted (x ∷ bs) ∷ tokens rest) (sym (eqb-true b 39 is))
    by false is more =
        ap (λ c. lexed Inside ((cond c (39 ∷ 39 ∷ []) (b ∷ []) ++ doubled bs) ++ 39 ∷ rest)) is
        ∙ text_byte b (doubled bs ++ 39 ∷ rest) one_line.0 (λ e. false≢true (sym is ∙ eq-eqb b 39 e)) ∙ ap (onto_text b) more

-- A text in quotes ends before bytes that begin with no quote.
pub text_front : (said rest : List ℕ) → All (λ b. b ≢ 10) said → get_or rest 0 0 ≢ 39 → tokens (quoted said ++ rest) ≡ Quoted said ∷ tokens rest
text_front said rest one_line end =
    ap tokens (ap (λ l. 39 ∷ l) (append_assoc (doubled said) (39 ∷ []) rest)) ∙ tokens_quote (doubled said ++ 39 ∷ rest)
    ∙ body_front said rest (recursion_from_All (λ b. b ≢ 10) said one_line) end

pub text_lexed : (said : List ℕ) → All (λ b. b ≢ 10) said → IsLexed (quoted said) (Quoted said ∷ [])
text_lexed said one_line = record { front = λ rest end. text_front said rest one_line (no_quote rest end); free = refl }

-- Bytes that spell a value are a literal of that value.
pub literal_reads : (bytes : List ℕ) (v : Value) → Spells bytes v → Reads (SpellsOne SpellsLiteral) bytes v
literal_reads bytes (Int z) (inl h) = record { ts = Word bytes ∷ []; lexed = numeral_lexed bytes h.0; spelled = (Word bytes, h, refl) }
literal_reads bytes (Int z) (inr h) = record {
  ts = Signed h.0 ∷ [];
  lexed = subst (λ (l : List ℕ). IsLexed l (Signed h.0 ∷ [])) (sym h.1) (signed_lexed h.0 h.2);
  spelled = (Signed h.0, (h.2, h.3), refl);
}
literal_reads bytes (Text said) h = record {
  ts = Quoted said ∷ [];
  lexed = subst (λ (l : List ℕ). IsLexed l (Quoted said ∷ [])) (sym h.0) (text_lexed said h.1);
  spelled = (Quoted said, refl, refl);
}

-- ---- blanks and symbols

pub blank_front : (bs : List ℕ) → tokens (32 ∷ bs) ≡ tokens bs
blank_front bs = tokens_blank 32 bs refl

pub open_front : (bs : List ℕ) → tokens (40 ∷ bs) ≡ Mark Open ∷ tokens bs
unfolding lexed
open_front bs = refl

pub close_front : (bs : List ℕ) → tokens (41 ∷ bs) ≡ Mark Close ∷ tokens bs
unfolding lexed
close_front bs = refl

comma_front : (bs : List ℕ) → tokens (44 ∷ bs) ≡ Mark Comma ∷ tokens bs
unfolding lexed
comma_front bs = refl

-- A comma, ..
pub bare_comma : IsSeparator (codes ",") (Mark Comma)
bare_comma = record { front = comma_front; ends = λ rest. refl; free = refl }

-- .. and one with a space after it.
pub comma : IsSeparator (codes ", ") (Mark Comma)
comma = record { front = λ rest. comma_front (32 ∷ rest) ∙ ap (λ l. Mark Comma ∷ l) (blank_front rest); ends = λ rest. refl; free = refl }
