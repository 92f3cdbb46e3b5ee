-- Literals of values are single tokens.
use Rattle.std.proofs.Common.{append-nil, ◌≡◌, ◌≢◌, inl, inr, ⊎_elim, ℕ, Bool, true, false, ◌&&◌, ◌||◌, eqb, leb, ltb, List, [], ◌∷◌, ◌++◌}
use Rattle.std.proofs.Common.{length, refl, sym, ap, subst, ◌∙◌}
use Rattle.std.specs.Char.{is_ascii_digit}
use Rattle.std.specs.List.{All, AllByRecursion, AllZip, list_all}
use Rattle.std.proofs.lemmas.Bool.{and_parts, cases_Bool, cond-false, eqb-true, false≢true, ne_eqb}
use Rattle.std.proofs.lemmas.List.Elements.{recursion_from_All}
use Rattle.mm_value.specs.Literal.{IsNumeral, Spells, doubled, quoted}
use Rattle.mm_value.specs.declared.values.Value.{Value}
use Rattle.mm_value.specs.declared.values.Value.TheVariants.{Int, Text}
use Rattle.mm_lang.specs.Tokens.{Token, Word, Signed, Quoted, Inside, begins_word, is_word_byte, lexed, onto_minus, onto_text, onto_word, tokens}
use Rattle.mm_statement.specs.Texts.{IsText, begins_minus}
use Rattle.mm_statement.proofs.TextBytes.{HasSign, IsTokenText, begins_quote, text_closes, is_signed, word_step}

-- ---- numbers

word_of_digit : (b : ℕ) → is_ascii_digit b ≡ true → is_word_byte b ≡ true
word_of_digit b is = by (leb 97 b && leb b 122) (leb 65 b && leb b 90) (leb 48 b && leb b 57) (eqb b 95) is
  where
    by : (lower upper digit under : Bool) → digit ≡ true → (lower || upper || digit || under) ≡ true
    by true upper digit under is = refl
    by false true digit under is = refl
    by false false true under is = refl
    by false false false under is = absurd (false≢true is)

digit_front : (d : ℕ) (ds rest : List ℕ) → list_all is_ascii_digit (d ∷ ds) ≡ true → begins_word rest ≡ false
    → tokens ((d ∷ ds) ++ rest) ≡ Word (d ∷ ds) ∷ tokens rest
digit_front d [] rest all ends =
    let p = and_parts (is_ascii_digit d) true all in
    word_step d rest (word_of_digit d p.0) ∙ ap (λ joins. onto_word d joins (tokens rest)) ends
digit_front d (e ∷ es) rest all ends =
    let p = and_parts (is_ascii_digit d) (list_all is_ascii_digit (e ∷ es)) all in
    let q = and_parts (is_ascii_digit e) (list_all is_ascii_digit es) p.1 in
    let behind = (e ∷ es) ++ rest in
    word_step d behind (word_of_digit d p.0) ∙ ap (λ joins. onto_word d joins (tokens behind)) (word_of_digit e q.0)
    ∙ ap (onto_word d true) (digit_front e es rest p.1 ends)

all_digits : (ds : List ℕ) → IsNumeral ds → list_all is_ascii_digit ds ≡ true
all_digits ds numeral = (and_parts (ltb 0 (length ds)) (list_all is_ascii_digit ds) numeral).1

-- Digits are a word, ..
digits_front : (ds : List ℕ) → IsNumeral ds → IsTokenText ds (Word ds)
digits_front [] numeral rest ends single = absurd (false≢true numeral)
digits_front (d ∷ ds) numeral rest ends single = digit_front d ds rest (all_digits (d ∷ ds) numeral) ends

digits_begin : (ds rest : List ℕ) → IsNumeral ds → begins_word (ds ++ rest) ≡ true
digits_begin [] rest numeral = absurd (false≢true numeral)
digits_begin (d ∷ ds) rest numeral =
    word_of_digit d (and_parts (is_ascii_digit d) (list_all is_ascii_digit ds) (all_digits (d ∷ ds) numeral)).0

-- .. and after a minus a signed one.
minus_front : (ds : List ℕ) → IsNumeral ds → IsTokenText (45 ∷ ds) (Signed ds)
unfolding lexed
minus_front ds numeral rest ends single =
    ap (λ joins. onto_minus joins (tokens (ds ++ rest))) (digits_begin ds rest numeral)
    ∙ ap (onto_minus true) (digits_front ds numeral rest ends single)

no_minus : (ds : List ℕ) → IsNumeral ds → begins_minus ds ≡ false
no_minus [] numeral = refl
no_minus (d ∷ ds) numeral =
    let digit = (and_parts (is_ascii_digit d) (list_all is_ascii_digit ds) (all_digits (d ∷ ds) numeral)).0 in
    ne_eqb d 45 (λ minus. false≢true (ap is_ascii_digit (sym minus) ∙ digit))

-- ---- texts in quotes

text_byte : (b : ℕ) (bs : List ℕ) → b ≢ 10 → eqb b 39 ≡ false → lexed Inside (b ∷ bs) ≡ onto_text b (lexed Inside bs)
unfolding lexed
text_byte b [] one_line other = cond-false (eqb b 39) _ _ other
text_byte b (c ∷ bs) one_line other = cond-false (eqb b 10) _ _ (ne_eqb b 10 one_line) ∙ cond-false (eqb b 39) _ _ other

-- the bytes after the opening quote
closed : List ℕ → List ℕ → List ℕ
closed text rest = (doubled text ++ 39 ∷ []) ++ rest

closed_front : (text rest : List ℕ) → AllByRecursion (λ b. b ≢ 10) text → begins_quote rest ≡ false
    → lexed Inside (closed text rest) ≡ Quoted text ∷ tokens rest
unfolding lexed closed
closed_front [] rest one_line single = text_closes rest single
closed_front (b ∷ bs) rest one_line single =
    let behind = closed_front bs rest one_line.1 single in
    ⊎_elim
    (λ quote. subst (λ c. lexed Inside (closed (c ∷ bs) rest) ≡ Quoted (c ∷ bs) ∷ tokens rest) (sym (eqb-true b 39 quote)) (ap (onto_text 39) behind))
    (λ other. ap (λ bytes. lexed Inside (((bytes ++ doubled bs) ++ 39 ∷ []) ++ rest)) (cond-false (eqb b 39) (39 ∷ 39 ∷ []) (b ∷ []) other)
    ∙ text_byte b (closed bs rest) one_line.0 other ∙ ap (onto_text b) behind)
    (cases_Bool (eqb b 39))

-- A text in quotes is a token.
quoted_front : (text : List ℕ) → All (λ b. b ≢ 10) text → IsTokenText (quoted text) (Quoted text)
unfolding lexed closed
quoted_front text one_line rest ends single = closed_front text rest (recursion_from_All (λ b. b ≢ 10) text one_line) single

-- ---- values

-- A literal of a value, as a token.
record Piece (text : List ℕ) (v : Value) : Type 0 where
  token : Token
  is_text : IsText token v
  front : IsTokenText text token
  sign : HasSign text token

piece_of : (text : List ℕ) (v : Value) → Spells text v → Piece text v
unfolding is_signed
piece_of text (Int z) (inl h) = record { token = Word text; is_text = h; front = digits_front text h.0; sign = sym (no_minus text h.0) }
piece_of text (Int z) (inr h) =
    subst (λ l. Piece l (Int z)) (sym h.1) (record { token = Signed h.0; is_text = (h.2, h.3); front = minus_front h.0 h.2; sign = refl })
piece_of text (Text said) h =
    subst (λ l. Piece l (Text said)) (sym h.0) (record { token = Quoted said; is_text = refl; front = quoted_front said h.1; sign = refl })

-- Literals of values, as tokens.
pub record Pieces (texts : List (List ℕ)) (values : List Value) : Type 0 where
  pub said : List Token
  pub are_texts : AllZip IsText said values
  pub fronts : AllZip IsTokenText texts said
  pub signs : AllZip HasSign texts said

pub pieces_of : (texts : List (List ℕ)) (values : List Value) → AllZip Spells texts values → Pieces texts values
pieces_of [] [] h = record { said = []; are_texts = tt; fronts = tt; signs = tt }
pieces_of [] (v ∷ values) h = absurd h
pieces_of (x ∷ texts) [] h = absurd h
pieces_of (x ∷ texts) (v ∷ values) h =
    let p = piece_of x v h.0 in
    let q = pieces_of texts values h.1 in
    record { said = p.token ∷ q.said; are_texts = (p.is_text, q.are_texts); fronts = (p.front, q.fronts); signs = (p.sign, q.signs) }

-- The bytes of a literal are one token, which denotes its value.
pub text_token : (text : List ℕ) (v : Value) → Spells text v → (t : Token) × IsText t v × (tokens text ≡ t ∷ [])
unfolding lexed begins_quote
text_token text v h =
    let p = piece_of text v h in
    (p.token, p.is_text, ap tokens (sym (append-nil text)) ∙ p.front [] refl refl)
