-- Symbols, keywords, names and literals: how a single token is read, and what the grammar says.
use Rattle.std.proofs.Common.{◌≡◌, ◌≤◌, ◌⊎◌, inl, inr, ⊎_elim, ℕ, Bool, true, false, cond, List, [], ◌∷◌, Some, None, Decides, leb, ltb, length, pos, neg_ℤ}
use Rattle.std.proofs.Common.{refl, sym, ap, subst, ◌∙◌, arith}
use Rattle.std.specs.Char.{is_ascii_digit}
use Rattle.std.specs.List.{find, list_all}
use Rattle.std.specs.Option.{option_map}
use Rattle.std.specs.Str.Parse.{digits_value}
use Rattle.std.proofs.lemmas.Bool.{cond-true, false≢true, cases_Bool, and_parts, leb-true}
use Rattle.std.proofs.lemmas.Option.{none-some, same_Some}
use Rattle.std.proofs.lemmas.Slice.Eq.{bytes_eq-Decides}
use Rattle.mm_schema.specs.Name.{is_name, IsName, is_lower, is_name_byte, is_name_text}
use Rattle.mm_value.specs.Literal.{is_numeral}
use Rattle.mm_value.specs.declared.values.Value.{Value}
use Rattle.mm_value.specs.declared.values.Value.TheVariants.{Int, Text}
use Rattle.mm_lang.specs.declared.read.keyword.Keyword.{Keyword}
use Rattle.mm_lang.specs.declared.read.keyword.TheConstants.{KEYWORDS}
use Rattle.mm_lang.specs.declared.read.token.Symbol.{Symbol}
use Rattle.mm_lang.specs.declared.read.token.Symbol.TheVariants.{Open, Close, Comma, Dot, Equal, Less, AtMost, Greater, AtLeast, Plus, Minus}
use Rattle.mm_lang.specs.Grammar.{literal_of, name}
use Rattle.mm_lang.specs.Phrases.{◌>>◌, say, is_mark, the_keyword, the_symbol, has_keyword}
use Rattle.mm_lang.specs.Spelling.{word, SpellsLiteral}
use Rattle.mm_lang.specs.Tokens.{Token, Word, Signed, Quoted, Mark, Hole, Unreadable}
use Rattle.mm_lang.specs.Words.{is_symbol, is_word, keyword_named, keyword_text}
use Rattle.mm_lang.specs.steps.Parts.{Front, said_same, tested, then_parts, one_parts, word_parts, optional_parts}

symbol_same : (a b : Symbol) → is_symbol a b ≡ true → b ≡ a
symbol_same Open Open h = refl
symbol_same Close Close h = refl
symbol_same Comma Comma h = refl
symbol_same Dot Dot h = refl
symbol_same Equal Equal h = refl
symbol_same Less Less h = refl
symbol_same AtMost AtMost h = refl
symbol_same Greater Greater h = refl
symbol_same AtLeast AtLeast h = refl
symbol_same Plus Plus h = refl
symbol_same Minus Minus h = refl
symbol_same _ _ h = absurd (false≢true h)

mark_read : (s : Symbol) (t : Token) → is_mark s t ≡ Some tt → t ≡ Mark s
mark_read s (Mark other) e = let p = tested (is_symbol s other) (Some tt) tt e in ap Mark (symbol_same s other p.0)
mark_read s _ e = absurd (none-some tt e)

pub symbol_read : (s : Symbol) (ts us : List Token) → the_symbol s ts ≡ Some (tt, us) → ts ≡ Mark s ∷ us
symbol_read s ts us e = let p = one_parts (is_mark s) ts tt us e in p.1 ∙ ap (λ t. t ∷ us) (mark_read s p.0 p.2)

pub is_word-Decides : (k : Keyword) (w : List ℕ) → Decides (is_word k w) (w ≡ keyword_text k)
is_word-Decides k w = bytes_eq-Decides w (keyword_text k)

pub keyword_read : (k : Keyword) (ts us : List Token) → the_keyword k ts ≡ Some (tt, us) → ts ≡ word k ∷ us
keyword_read k ts us e =
    let p = word_parts _ ts tt us e in
    let q = tested (is_word k p.0) (Some tt) tt p.2 in
    p.1 ∙ ap (λ w. Word w ∷ us) ((is_word-Decides k p.0).0 q.0)

-- A keyword that is not a name is not read at a name.
pub name_no_keyword : (k : Keyword) → is_name (keyword_text k) ≡ false → (n : List ℕ) (us : List Token) → IsName n → the_keyword k (Word n ∷ us) ≡ None
name_no_keyword k upper n us named =
    ⊎_elim
    (λ is. absurd (false≢true (sym upper ∙ ap is_name (sym ((is_word-Decides k n).0 is)) ∙ named)))
    (λ other. let pair : Unit {0} → Front (Unit {0}) = λ x. (x, us) in ap (λ b. option_map pair (cond b (Some tt) None)) other)
    (cases_Bool (is_word k n))

-- Whether a keyword is next, as it was read.
pub has_keyword_read : (k : Keyword) (ts : List Token) (b : Bool) (us : List Token) → has_keyword k ts ≡ Some (b, us)
    → ((b ≡ true) × (ts ≡ word k ∷ us)) ⊎ ((b ≡ false) × (ts ≡ us))
has_keyword_read k ts b us e =
    ⊎_elim
    (λ there. let p = then_parts (the_keyword k) (λ u. say true) ts b us there in
    let q = said_same true b p.1 us p.3 in
    inl (sym q.0, keyword_read k ts p.1 p.2 ∙ ap (λ l. word k ∷ l) q.1))
    (λ not_there. inr (sym not_there.1, not_there.2))
    (optional_parts false (the_keyword k >> say true) ts b us e)

find_passes : {A : Type 0} (p : A → Bool) (xs : List A) (x : A) → find p xs ≡ Some x → p x ≡ true
find_passes p [] x e = absurd (none-some x e)
find_passes p (y ∷ ys) x e = by (p y) refl e (λ f. find_passes p ys x f)
  where
    by : (b : Bool) → p y ≡ b → cond b (Some y) (find p ys) ≡ Some x → (find p ys ≡ Some x → p x ≡ true) → p x ≡ true
    by true is e rest = ap p (sym (same_Some y x e)) ∙ is
    by false is e rest = rest e

-- the word of a keyword
pub named_read : (w : List ℕ) (k : Keyword) → keyword_named w ≡ Some k → Word w ≡ word k
named_read w k e = ap Word ((is_word-Decides k w).0 (find_passes (λ k. is_word k w) KEYWORDS k e))

pub name_read : (ts : List Token) (n : List ℕ) (us : List Token) → name ts ≡ Some (n, us) → (ts ≡ Word n ∷ us) × IsName n
name_read ts n us e =
    let p = word_parts _ ts n us e in
    let q = tested (is_name p.0) (Some p.0) n p.2 in
    let same = same_Some p.0 n q.1 in
    (p.1 ∙ ap (λ w. Word w ∷ us) same, ap is_name (sym same) ∙ q.0)

pub name_spelled : (n : List ℕ) (us : List Token) → IsName n → name (Word n ∷ us) ≡ Some (n, us)
name_spelled n us h = let pair : List ℕ → Front (List ℕ) = λ m. (m, us) in ap (option_map pair) (cond-true (is_name n) (Some n) None h)

pub literal_read : (t : Token) (v : Value) → literal_of t ≡ Some v → SpellsLiteral t v
literal_read (Word w) v e =
    let p = tested (is_numeral w) (Some (Int (pos (digits_value 10 w)))) v e in
    subst (SpellsLiteral (Word w)) (same_Some _ v p.1) (p.0, refl)
literal_read (Signed w) v e =
    let p = tested (is_numeral w) (Some (Int (neg_ℤ (pos (digits_value 10 w))))) v e in
    subst (SpellsLiteral (Signed w)) (same_Some _ v p.1) (p.0, refl)
literal_read (Quoted text) v e = subst (SpellsLiteral (Quoted text)) (same_Some _ v e) refl
literal_read (Mark symbol) v e = absurd (none-some v e)
literal_read Hole v e = subst (SpellsLiteral Hole) (same_Some _ v e) refl
literal_read Unreadable v e = absurd (none-some v e)

pub literal_spelled : (t : Token) (v : Value) → SpellsLiteral t v → literal_of t ≡ Some v
literal_spelled (Word w) (Int z) h = cond-true (is_numeral w) (Some (Int (pos (digits_value 10 w)))) None h.0 ∙ ap (λ n. Some (Int n)) (sym h.1)
literal_spelled (Signed w) (Int z) h = cond-true (is_numeral w) (Some (Int (neg_ℤ (pos (digits_value 10 w))))) None h.0 ∙ ap (λ n. Some (Int n)) (sym h.1)
literal_spelled (Quoted text) (Text said) h = ap (λ t. Some (Text t)) (sym h)
literal_spelled Hole (Int z) h = ap (λ n. Some (Int n)) (sym h)
literal_spelled _ _ h = absurd h

-- a name is not a numeral
pub name_no_numeral : (name : List ℕ) → IsName name → is_numeral name ≡ true → ⊥
name_no_numeral [] named numeral = let p = and_parts (is_name_text []) (leb 0 32) named in absurd (cc (p.0))
name_no_numeral (b ∷ bs) named numeral =
    let p = and_parts (is_name_text (b ∷ bs)) (leb (length (b ∷ bs)) 32) named in
    let lower = and_parts (is_lower b) (list_all is_name_byte bs) p.0 in
    let letter = and_parts (leb 97 b) (leb b 122) lower.0 in
    let q = and_parts (ltb 0 (length (b ∷ bs))) (list_all is_ascii_digit (b ∷ bs)) numeral in
    let digits = and_parts (is_ascii_digit b) (list_all is_ascii_digit bs) q.1 in
    let digit = and_parts (leb 48 b) (leb b 57) digits.0 in
    let low : 97 ≤ b = leb-true 97 b letter.0 in
    let high : b ≤ 57 = leb-true b 57 digit.1 in
    omega arith

pub name_no_literal : (name : List ℕ) → IsName name → literal_of (Word name) ≡ None
name_no_literal name named =
    ⊎_elim (λ numeral. absurd (name_no_numeral name named numeral)) (λ other. ap (λ b. cond b (Some (Int (pos (digits_value 10 name)))) None) other)
    (cases_Bool (is_numeral name))
