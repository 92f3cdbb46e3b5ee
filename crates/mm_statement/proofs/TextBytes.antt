-- The tokens of a line with literals in place of its holes.
use Rattle.std.proofs.Common.{◌≡◌, ⊎_elim, ℕ, Bool, true, false, not, ◌&&◌, cond, eqb, List, [], ◌∷◌, ◌++◌}
use Rattle.std.proofs.Common.{refl, sym, ap, subst, ◌∙◌}
use Rattle.std.specs.List.{AllZip}
use Rattle.std.proofs.lemmas.Bool.{and_parts, cases_Bool, cond-false, cond-true, eqb-true, false≢true, or_from}
use Rattle.mm_lang.specs.Tokens.{Token, Word, Signed, Quoted, Mark, Hole, Unreadable, Place, Outside, Inside, begins_equal, begins_word, is_blank, is_word_byte}
use Rattle.mm_lang.specs.Tokens.{lexed, onto_equal, onto_minus, onto_symbol, onto_text, onto_word, tokens}
use Rattle.mm_lang.specs.declared.read.token.Symbol.{Symbol}
use Rattle.mm_lang.specs.declared.read.token.Symbol.TheVariants.{Open, Close, Comma, Dot, Equal, Less, AtMost, Greater, AtLeast, Plus, Minus}
use Rattle.mm_statement.specs.Texts.{behind, begins_minus, filled_bytes, keeps_signs, with_texts}
use Rattle.mm_statement.proofs.TextTokens.{no_texts}
use Rattle.mm_lang.proofs.Lexing.{word_byte_not}

-- ---- tokens with tokens in the place of holes

unfoldable pub in_place : List Token → List Token → List Token
in_place [] texts = []
in_place (Hole ∷ ts) (text ∷ texts) = text ∷ in_place ts texts
in_place (t ∷ ts) texts = t ∷ in_place ts texts

none_in_place : (ts : List Token) → in_place ts [] ≡ ts
unfolding in_place
none_in_place [] = refl
none_in_place (Hole ∷ ts) = ap (λ l. Hole ∷ l) (none_in_place ts)
none_in_place (t ∷ ts) = ap (λ l. t ∷ l) (none_in_place ts)

pub begins_hole : List Token → Bool
begins_hole (Hole ∷ ts) = true
begins_hole ts = false

-- the same with either of two lists of tokens
either_in_place : (is : Bool) (vs ws ts us texts : List Token) → vs ≡ in_place ts texts → ws ≡ in_place us texts
    → cond is vs ws ≡ in_place (cond is ts us) texts
either_in_place true vs ws ts us texts h k = h
either_in_place false vs ws ts us texts h k = k

word_in_place : (b : ℕ) (joins : Bool) (ts texts : List Token) → (joins ≡ true → begins_hole ts ≡ false)
    → onto_word b joins (in_place ts texts) ≡ in_place (onto_word b joins ts) texts
unfolding in_place begins_hole
word_in_place b true [] texts h = refl
word_in_place b true (Word w ∷ ts) texts h = refl
word_in_place b true (Signed w ∷ ts) texts h = refl
word_in_place b true (Quoted text ∷ ts) texts h = refl
word_in_place b true (Mark s ∷ ts) texts h = refl
word_in_place b true (Hole ∷ ts) texts h = absurd (false≢true (sym (h refl)))
word_in_place b true (Unreadable ∷ ts) texts h = refl
word_in_place b false ts texts h = refl

minus_in_place : (joins : Bool) (ts texts : List Token) → (joins ≡ true → begins_hole ts ≡ false)
    → onto_minus joins (in_place ts texts) ≡ in_place (onto_minus joins ts) texts
unfolding in_place begins_hole
minus_in_place true [] texts h = refl
minus_in_place true (Word w ∷ ts) texts h = refl
minus_in_place true (Signed w ∷ ts) texts h = refl
minus_in_place true (Quoted text ∷ ts) texts h = refl
minus_in_place true (Mark s ∷ ts) texts h = refl
minus_in_place true (Hole ∷ ts) texts h = absurd (false≢true (sym (h refl)))
minus_in_place true (Unreadable ∷ ts) texts h = refl
minus_in_place false ts texts h = refl

equal_in_place : (alone joined : Symbol) (joins : Bool) (ts texts : List Token) → (joins ≡ true → begins_hole ts ≡ false)
    → onto_equal alone joined joins (in_place ts texts) ≡ in_place (onto_equal alone joined joins ts) texts
unfolding in_place begins_hole
equal_in_place alone joined true [] texts h = refl
equal_in_place alone joined true (Hole ∷ ts) texts h = absurd (false≢true (sym (h refl)))
equal_in_place alone joined true (t ∷ ts) texts h = refl
equal_in_place alone joined false ts texts h = refl

text_in_place : (b : ℕ) (ts texts : List Token) → begins_hole ts ≡ false → onto_text b (in_place ts texts) ≡ in_place (onto_text b ts) texts
unfolding in_place begins_hole
text_in_place b [] texts h = refl
text_in_place b (Quoted text ∷ ts) texts h = refl
text_in_place b (Hole ∷ ts) texts h = absurd (false≢true (sym h))
text_in_place b (t ∷ ts) texts h = refl

-- ---- the first token

-- A word is not a hole, ..
word_begins : (b : ℕ) (joins : Bool) (ts : List Token) → begins_hole (onto_word b joins ts) ≡ false
unfolding begins_hole
word_begins b true [] = refl
word_begins b true (Word w ∷ ts) = refl
word_begins b true (t ∷ ts) = refl
word_begins b false ts = refl

pub word_step : (b : ℕ) (bs : List ℕ) → is_word_byte b ≡ true → tokens (b ∷ bs) ≡ onto_word b (begins_word bs) (tokens bs)
unfolding lexed
word_step b bs word =
    cond-false (is_blank b) _ _ (or_from (eqb b 32) (eqb b 9) (word_byte_not b 32 word refl) (word_byte_not b 9 word refl))
    ∙ cond-false (eqb b 39) _ _ (word_byte_not b 39 word refl)
    ∙ cond-true (is_word_byte b) _ _ word

word_no_hole : (bs : List ℕ) → begins_word bs ≡ true → begins_hole (tokens bs) ≡ false
word_no_hole [] is = absurd (false≢true is)
word_no_hole (b ∷ bs) is = ap begins_hole (word_step b bs is) ∙ word_begins b (begins_word bs) (tokens bs)

-- .. nor is an equals sign, ..
equal_no_hole : (bs : List ℕ) → begins_equal bs ≡ true → begins_hole (tokens bs) ≡ false
unfolding lexed begins_hole
equal_no_hole [] is = absurd (false≢true is)
equal_no_hole (b ∷ bs) is = ap (λ c. begins_hole (tokens (c ∷ bs))) (eqb-true b 61 is)

-- .. nor is a text.
onto_no_hole : (b : ℕ) (ts : List Token) → begins_hole ts ≡ false → begins_hole (onto_text b ts) ≡ false
unfolding begins_hole
onto_no_hole b [] h = refl
onto_no_hole b (Quoted text ∷ ts) h = refl
onto_no_hole b (t ∷ ts) h = h

either_no_hole : (is : Bool) (ts us : List Token) → begins_hole ts ≡ false → begins_hole us ≡ false → begins_hole (cond is ts us) ≡ false
either_no_hole true ts us h k = h
either_no_hole false ts us h k = k

pub text_no_hole : (bs : List ℕ) → begins_hole (lexed Inside bs) ≡ false
unfolding lexed begins_hole
text_no_hole [] = refl
text_no_hole (b ∷ []) = either_no_hole (eqb b 39) (Quoted [] ∷ []) (Unreadable ∷ []) refl refl
text_no_hole (b ∷ c ∷ bs) =
    either_no_hole (eqb b 10) (Unreadable ∷ []) _ refl
    (either_no_hole (eqb b 39) _ _
    (either_no_hole (eqb c 39) _ _ (onto_no_hole 39 (lexed Inside bs) (text_no_hole bs)) refl)
    (onto_no_hole b (lexed Inside (c ∷ bs)) (text_no_hole (c ∷ bs))))

-- ---- bytes with literals in place of holes

-- the first byte is a quote
unfoldable pub begins_quote : List ℕ → Bool
begins_quote [] = false
begins_quote (b ∷ bs) = eqb b 39

-- The bytes are this token, if the following bytes do not continue it.
abbrev pub IsTokenText : List ℕ → Token → Type 0
IsTokenText text token =
    (rest : List ℕ) → begins_word rest ≡ false → begins_quote rest ≡ false → tokens (text ++ rest) ≡ token ∷ tokens rest

first_word : (bs : List ℕ) (text : List ℕ) (texts : List (List ℕ)) → begins_word (filled_bytes Outside bs (text ∷ texts)) ≡ begins_word bs
unfolding filled_bytes
first_word [] text texts = refl
first_word (b ∷ bs) text texts = by (eqb b 63) refl
  where
    rest : Bool → List ℕ
    rest is = cond is (32 ∷ text ++ 32 ∷ filled_bytes Outside bs texts) (b ∷ filled_bytes (cond (eqb b 39) Inside Outside) bs (text ∷ texts))

    by : (is : Bool) → eqb b 63 ≡ is → begins_word (rest is) ≡ is_word_byte b
    by true is = sym (ap is_word_byte (eqb-true b 63 is))
    by false is = refl

first_equal : (bs : List ℕ) (text : List ℕ) (texts : List (List ℕ)) → begins_equal (filled_bytes Outside bs (text ∷ texts)) ≡ begins_equal bs
unfolding filled_bytes
first_equal [] text texts = refl
first_equal (b ∷ bs) text texts = by (eqb b 63) refl
  where
    rest : Bool → List ℕ
    rest is = cond is (32 ∷ text ++ 32 ∷ filled_bytes Outside bs texts) (b ∷ filled_bytes (cond (eqb b 39) Inside Outside) bs (text ∷ texts))

    by : (is : Bool) → eqb b 63 ≡ is → begins_equal (rest is) ≡ eqb b 61
    by true is = sym (ap (λ c. eqb c 61) (eqb-true b 63 is))
    by false is = refl

-- A byte outside a text, and the following bytes with literals in place of holes.
module _ (b : ℕ) (bs fs : List ℕ) (texts : List Token) (same : tokens fs ≡ in_place (tokens bs) texts) (words : begins_word fs ≡ begins_word bs)
    (equals : begins_equal fs ≡ begins_equal bs) where
  onto_equal_same : (alone joined : Symbol)
      → onto_equal alone joined (begins_equal fs) (tokens fs) ≡ in_place (onto_equal alone joined (begins_equal bs) (tokens bs)) texts
  onto_equal_same alone joined =
      (λ i. onto_equal alone joined (equals i) (same i))
      ∙ equal_in_place alone joined (begins_equal bs) (tokens bs) texts (equal_no_hole bs)

  onto_minus_same : onto_minus (begins_word fs) (tokens fs) ≡ in_place (onto_minus (begins_word bs) (tokens bs)) texts
  onto_minus_same = (λ i. onto_minus (words i) (same i)) ∙ minus_in_place (begins_word bs) (tokens bs) texts (word_no_hole bs)

  onto_word_same : onto_word b (begins_word fs) (tokens fs) ≡ in_place (onto_word b (begins_word bs) (tokens bs)) texts
  onto_word_same = (λ i. onto_word b (words i) (same i)) ∙ word_in_place b (begins_word bs) (tokens bs) texts (word_no_hole bs)

  mark_same : (s : Symbol) → Mark s ∷ tokens fs ≡ in_place (Mark s ∷ tokens bs) texts
  unfolding in_place
  mark_same s = ap (λ l. Mark s ∷ l) same

  unreadable_same : Unreadable ∷ [] ≡ in_place (Unreadable ∷ []) texts
  unfolding in_place
  unreadable_same = refl

  symbol_same : eqb b 63 ≡ false → onto_symbol b fs (tokens fs) ≡ in_place (onto_symbol b bs (tokens bs)) texts
  symbol_same other =
      either_in_place (eqb b 40) _ _ _ _ texts (mark_same Open)
      (either_in_place (eqb b 41) _ _ _ _ texts (mark_same Close)
      (either_in_place (eqb b 44) _ _ _ _ texts (mark_same Comma)
      (either_in_place (eqb b 46) _ _ _ _ texts (mark_same Dot)
      (either_in_place (eqb b 61) _ _ _ _ texts (mark_same Equal)
      (either_in_place (eqb b 60) _ _ _ _ texts (onto_equal_same Less AtMost)
      (either_in_place (eqb b 62) _ _ _ _ texts (onto_equal_same Greater AtLeast)
      (either_in_place (eqb b 43) _ _ _ _ texts (mark_same Plus)
      (either_in_place (eqb b 45) _ _ _ _ texts onto_minus_same
      (cond-false (eqb b 63) _ _ other ∙ unreadable_same ∙ ap (λ l. in_place l texts) (sym (cond-false (eqb b 63) _ _ other)))))))))))

  outside_same : eqb b 39 ≡ false → eqb b 63 ≡ false → tokens (b ∷ fs) ≡ in_place (tokens (b ∷ bs)) texts
  unfolding lexed
  outside_same plain other =
      either_in_place (is_blank b) _ _ _ _ texts same
      (cond-false (eqb b 39) _ _ plain ∙ either_in_place (is_word_byte b) _ _ _ _ texts onto_word_same (symbol_same other)
      ∙ ap (λ l. in_place l texts) (sym (cond-false (eqb b 39) _ _ plain)))

-- ---- bytes inside a text

first_quote : (bs : List ℕ) (text : List ℕ) (texts : List (List ℕ)) → begins_quote (filled_bytes Outside bs (text ∷ texts)) ≡ begins_quote bs
unfolding filled_bytes begins_quote
first_quote [] text texts = refl
first_quote (b ∷ bs) text texts = by (eqb b 63) refl
  where
    rest : Bool → List ℕ
    rest is = cond is (32 ∷ text ++ 32 ∷ filled_bytes Outside bs texts) (b ∷ filled_bytes (cond (eqb b 39) Inside Outside) bs (text ∷ texts))

    by : (is : Bool) → eqb b 63 ≡ is → begins_quote (rest is) ≡ eqb b 39
    by true is = sym (ap (λ c. eqb c 39) (eqb-true b 63 is))
    by false is = refl

pub text_closes : (bs : List ℕ) → begins_quote bs ≡ false → lexed Inside (39 ∷ bs) ≡ Quoted [] ∷ tokens bs
unfolding lexed begins_quote
text_closes [] single = refl
text_closes (c ∷ bs) single = cond-false (eqb c 39) _ _ single

text_goes_on : (b c : ℕ) (bs : List ℕ) → eqb b 39 ≡ false
    → lexed Inside (b ∷ c ∷ bs) ≡ cond (eqb b 10) (Unreadable ∷ []) (onto_text b (lexed Inside (c ∷ bs)))
unfolding lexed
text_goes_on b c bs other = ap (λ l. cond (eqb b 10) (Unreadable ∷ []) l) (cond-false (eqb b 39) _ _ other)

-- ---- all bytes

module _ (x : List ℕ) (texts : List (List ℕ)) (t : Token) (said : List Token) where
  -- The tokens of bytes with literals in place of holes.
  abbrev IsSame : Place → List ℕ → Type 0
  IsSame place bs = lexed place (filled_bytes place bs (x ∷ texts)) ≡ in_place (lexed place bs) (t ∷ said)

  hole_same : (bs : List ℕ) → IsTokenText x t → tokens (filled_bytes Outside bs texts) ≡ in_place (tokens bs) said → IsSame Outside (63 ∷ bs)
  unfolding filled_bytes lexed in_place begins_quote
  hole_same bs h rest = h (32 ∷ filled_bytes Outside bs texts) refl refl ∙ ap (λ l. t ∷ l) rest

  quote_same : (bs : List ℕ) → IsSame Inside bs → IsSame Outside (39 ∷ bs)
  unfolding filled_bytes lexed
  quote_same bs rest = rest

  plain_same : (b : ℕ) (bs : List ℕ) → eqb b 63 ≡ false → eqb b 39 ≡ false → IsSame Outside bs → IsSame Outside (b ∷ bs)
  unfolding filled_bytes
  plain_same b bs other plain rest =
      ap (lexed Outside)
      (cond-false (eqb b 63) _ _ other ∙ ap (λ place. b ∷ filled_bytes place bs (x ∷ texts)) (cond-false (eqb b 39) Inside Outside plain))
      ∙ outside_same b bs (filled_bytes Outside bs (x ∷ texts)) (t ∷ said) rest (first_word bs x texts) (first_equal bs x texts) plain other

  byte_same : (b : ℕ) (bs : List ℕ) → IsTokenText x t → tokens (filled_bytes Outside bs texts) ≡ in_place (tokens bs) said → IsSame Inside bs
      → IsSame Outside bs → IsSame Outside (b ∷ bs)
  byte_same b bs h behind inside outside =
      ⊎_elim (λ hole. subst (λ c. IsSame Outside (c ∷ bs)) (sym (eqb-true b 63 hole)) (hole_same bs h behind))
      (λ other. ⊎_elim (λ quote. subst (λ c. IsSame Outside (c ∷ bs)) (sym (eqb-true b 39 quote)) (quote_same bs inside))
      (λ plain. plain_same b bs other plain outside) (cases_Bool (eqb b 39)))
      (cases_Bool (eqb b 63))

  last_same : (b : ℕ) → IsSame Inside (b ∷ [])
  unfolding filled_bytes lexed in_place
  last_same b = either_in_place (eqb b 39) _ _ _ _ (t ∷ said) refl refl

  doubled_same : (bs : List ℕ) → IsSame Inside bs → IsSame Inside (39 ∷ 39 ∷ bs)
  unfolding filled_bytes lexed
  doubled_same bs rest = ap (onto_text 39) rest ∙ text_in_place 39 (lexed Inside bs) (t ∷ said) (text_no_hole bs)

  closed_same : (c : ℕ) (bs : List ℕ) → eqb c 39 ≡ false → IsSame Outside (c ∷ bs) → IsSame Inside (39 ∷ c ∷ bs)
  unfolding filled_bytes in_place begins_quote
  closed_same c bs single rest =
      text_closes (filled_bytes Outside (c ∷ bs) (x ∷ texts)) (first_quote (c ∷ bs) x texts ∙ single) ∙ ap (λ l. Quoted [] ∷ l) rest
      ∙ ap (λ l. in_place l (t ∷ said)) (sym (text_closes (c ∷ bs) single))

  inner_same : (b c : ℕ) (bs : List ℕ) → eqb b 39 ≡ false → IsSame Inside (c ∷ bs) → IsSame Inside (b ∷ c ∷ bs)
  unfolding filled_bytes in_place
  inner_same b c bs other rest =
      ap (λ place. lexed Inside (b ∷ filled_bytes place (c ∷ bs) (x ∷ texts))) (cond-false (eqb b 39) Outside Inside other)
      ∙ text_goes_on b c (filled_bytes (cond (eqb c 39) Outside Inside) bs (x ∷ texts)) other
      ∙ either_in_place (eqb b 10) _ _ _ _ (t ∷ said) refl
      (ap (onto_text b) rest ∙ text_in_place b (lexed Inside (c ∷ bs)) (t ∷ said) (text_no_hole (c ∷ bs)))
      ∙ ap (λ l. in_place l (t ∷ said)) (sym (text_goes_on b c bs other))

  bytes_inside : (b c : ℕ) (bs : List ℕ) → IsSame Inside bs → IsSame Outside (c ∷ bs) → IsSame Inside (c ∷ bs) → IsSame Inside (b ∷ c ∷ bs)
  bytes_inside b c bs behind outside inside =
      ⊎_elim (λ quote. subst (λ d. IsSame Inside (d ∷ c ∷ bs)) (sym (eqb-true b 39 quote))
      (⊎_elim (λ twice. subst (λ d. IsSame Inside (39 ∷ d ∷ bs)) (sym (eqb-true c 39 twice)) (doubled_same bs behind))
      (λ single. closed_same c bs single outside) (cases_Bool (eqb c 39))))
      (λ other. inner_same b c bs other inside)
      (cases_Bool (eqb b 39))

-- The tokens of bytes with literals in place of holes are the tokens with those literals in place of holes.
pub bytes_same : (place : Place) (bs : List ℕ) (texts : List (List ℕ)) (said : List Token) → AllZip IsTokenText texts said
    → lexed place (filled_bytes place bs texts) ≡ in_place (lexed place bs) said
unfolding filled_bytes lexed in_place
bytes_same place bs [] [] h = sym (none_in_place (lexed place bs))
bytes_same place bs [] (t ∷ said) h = absurd h
bytes_same place bs (x ∷ texts) [] h = absurd h
bytes_same Outside [] (x ∷ texts) (t ∷ said) h = refl
bytes_same Outside (b ∷ bs) (x ∷ texts) (t ∷ said) h =
    byte_same x texts t said b bs h.0 (bytes_same Outside bs texts said h.1) (bytes_same Inside bs (x ∷ texts) (t ∷ said) h)
    (bytes_same Outside bs (x ∷ texts) (t ∷ said) h)
bytes_same Inside [] (x ∷ texts) (t ∷ said) h = refl
bytes_same Inside (b ∷ []) (x ∷ texts) (t ∷ said) h = last_same x texts t said b
bytes_same Inside (b ∷ c ∷ bs) (x ∷ texts) (t ∷ said) h =
    bytes_inside x texts t said b c bs (bytes_same Inside bs (x ∷ texts) (t ∷ said) h) (bytes_same Outside (c ∷ bs) (x ∷ texts) (t ∷ said) h)
    (bytes_same Inside (c ∷ bs) (x ∷ texts) (t ∷ said) h)

-- ---- the signs before holes

unfoldable pub is_signed : Token → Bool
is_signed (Signed w) = true
is_signed t = false

-- the token has a minus if and only if its bytes do
abbrev pub HasSign : List ℕ → Token → Type 0
HasSign text token = is_signed token ≡ begins_minus text

behind_plain : (s o : Symbol) (t : Token) (us : List Token) → is_signed t ≡ false → Mark s ∷ t ∷ us ≡ behind s o t us
unfolding is_signed
behind_plain s o (Signed w) us h = absurd (false≢true (sym h))
behind_plain s o t us h = refl

not_true : (is : Bool) → not is ≡ true → is ≡ false
not_true true h = absurd (false≢true h)
not_true false h = refl

signed_in_place : (s o : Symbol) (text : List ℕ) (t : Token) (us : List Token) (kept : Bool) → HasSign text t → (not (begins_minus text) && kept) ≡ true
    → Mark s ∷ t ∷ us ≡ behind s o t us
signed_in_place s o text t us kept sign keeps =
    behind_plain s o t us (sign ∙ not_true (begins_minus text) (and_parts (not (begins_minus text)) kept keeps).0)

-- If no literal with a minus follows a sign, the literals replace holes unchanged.
pub kept_signs : (ts : List Token) (texts : List (List ℕ)) (said : List Token) → AllZip HasSign texts said → keeps_signs ts texts ≡ true
    → in_place ts said ≡ with_texts ts said
unfolding in_place
kept_signs ts [] [] h keeps = none_in_place ts ∙ sym (no_texts ts)
kept_signs ts [] (t ∷ said) h keeps = absurd h
kept_signs ts (x ∷ texts) [] h keeps = absurd h
kept_signs [] (x ∷ texts) (t ∷ said) h keeps = refl
kept_signs (Mark Plus ∷ Hole ∷ ts) (x ∷ texts) (t ∷ said) h keeps =
    ap (λ l. Mark Plus ∷ t ∷ l) (kept_signs ts texts said h.1 (and_parts (not (begins_minus x)) (keeps_signs ts texts) keeps).1)
    ∙ signed_in_place Plus Minus x t (with_texts ts said) (keeps_signs ts texts) h.0 keeps
kept_signs (Mark Minus ∷ Hole ∷ ts) (x ∷ texts) (t ∷ said) h keeps =
    ap (λ l. Mark Minus ∷ t ∷ l) (kept_signs ts texts said h.1 (and_parts (not (begins_minus x)) (keeps_signs ts texts) keeps).1)
    ∙ signed_in_place Minus Plus x t (with_texts ts said) (keeps_signs ts texts) h.0 keeps
kept_signs (Hole ∷ ts) (x ∷ texts) (t ∷ said) h keeps = ap (λ l. t ∷ l) (kept_signs ts texts said h.1 keeps)
kept_signs (v ∷ ts) (x ∷ texts) (t ∷ said) h keeps = ap (λ l. v ∷ l) (kept_signs ts (x ∷ texts) (t ∷ said) h keeps)
