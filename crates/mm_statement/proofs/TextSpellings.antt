-- A spelling with holes is a spelling with literals in their place.
use Rattle.std.proofs.Common.{◌≡◌, ◌⊎◌, inl, inr, ⊎_elim, ℕ, Bool, true, false, List, [], ◌∷◌, ◌++◌, None, map, pos, neg_ℤ, refl, sym, ap, ◌∙◌, subst}
use Rattle.std.proofs.Common.{append_assoc, append-nil}
use Rattle.std.specs.List.{AllByRecursion, cons_option, flat_map}
use Rattle.std.specs.Prelude.{ℤ}
use Rattle.std.specs.Str.Parse.{digits_value}
use Rattle.mm_schema.specs.Name.{IsName}
use Rattle.mm_value.specs.Literal.{IsNumeral}
use Rattle.mm_value.specs.declared.values.Value.{Value}
use Rattle.mm_value.specs.declared.values.Value.TheVariants.{Int, Text}
use Rattle.mm_query.specs.Fields.{FieldName}
use Rattle.mm_query.specs.declared.atom.Assignment.{Assignment}
use Rattle.mm_query.specs.declared.atom.Atom.{Atom}
use Rattle.mm_query.specs.declared.atom.Comparison.{Comparison}
use Rattle.mm_query.specs.declared.atom.Comparison.TheVariants as compared
use Rattle.mm_query.specs.declared.atom.Operand.TheVariants as operand
use Rattle.mm_query.specs.declared.query.FromItem.{FromItem}
use Rattle.mm_query.specs.declared.query.Query.{Query}
use Rattle.mm_lang.specs.Grammar.{literal_of}
use Rattle.mm_lang.specs.Reading.{assignment_literals, literals_among, operand_literals, position_literals, query_literals, test_literals}
use Rattle.mm_lang.specs.Spelling.{SpellsAssignment, SpellsClause, SpellsDistinct, SpellsField, SpellsFromItem, SpellsInParentheses}
use Rattle.mm_lang.specs.Spelling.{SpellsList, SpellsLiteral, SpellsName, SpellsOne, SpellsOperandOn, SpellsOrder, SpellsPosition, SpellsQuery, SpellsShift}
use Rattle.mm_lang.specs.Spelling.{SpellsTestOn, SpellsTestsOn, SpellsTuple, comparison_symbol, word}
use Rattle.mm_lang.specs.Tokens.{Token, Word, Signed, Quoted, Mark, Hole, Unreadable}
use Rattle.mm_lang.specs.declared.read.keyword.Keyword.{Keyword}
use Rattle.mm_lang.specs.declared.read.keyword.Keyword.TheVariants as keyword
use Rattle.mm_lang.specs.declared.read.token.Symbol.TheVariants.{Comma, Close, Equal, Minus, Open, Plus}
use Rattle.mm_lang.proofs.SpelledWords.{name_no_literal}
use Rattle.mm_statement.specs.Filling.{blank_assignment, blank_atom, blank_operand, blank_query, blank_value}
use Rattle.mm_statement.specs.Texts.{IsText, behind, with_texts}
use Rattle.mm_statement.specs.steps.Fills.{only_value}
use Rattle.mm_statement.proofs.TextTokens.{AreReadable, literal_front, text_spelled}

-- the literals among tokens
abbrev pub among : List Token → List Value
among ts = literals_among ts

-- ---- unchanged tokens

-- The token is neither a hole nor a sign.
abbrev pub IsQuiet : Token → Type 0
IsQuiet (Mark Plus) = ⊥
IsQuiet (Mark Minus) = ⊥
IsQuiet Hole = ⊥
IsQuiet token = Unit {0}

abbrev pub AreQuiet : List Token → Type 0
AreQuiet ts = AllByRecursion IsQuiet ts

-- The token is not a literal either.
abbrev pub IsPlain : Token → Type 0
IsPlain token = IsQuiet token × (literal_of token ≡ None)

abbrev pub ArePlain : List Token → Type 0
ArePlain ts = AllByRecursion IsPlain ts

quiet_step : (t : Token) (us texts : List Token) → IsQuiet t → with_texts (t ∷ us) texts ≡ t ∷ with_texts us texts
quiet_step (Mark Plus) us texts q = absurd q
quiet_step (Mark Minus) us texts q = absurd q
quiet_step Hole us texts q = absurd q
quiet_step t us texts q = refl

quiet_texts : (ts us texts : List Token) → AreQuiet ts → with_texts (ts ++ us) texts ≡ ts ++ with_texts us texts
quiet_texts [] us texts q = refl
quiet_texts (t ∷ ts) us texts q = quiet_step t (ts ++ us) texts q.0 ∙ ap (λ l. t ∷ l) (quiet_texts ts us texts q.1)

plain_quiet : (ts : List Token) → ArePlain ts → AreQuiet ts
plain_quiet [] p = tt
plain_quiet (t ∷ ts) p = (p.0.0, plain_quiet ts p.1)

plain_step : (t : Token) (us : List Token) → IsPlain t → among (t ∷ us) ≡ among us
plain_step (Mark Plus) us p = absurd p.0
plain_step (Mark Minus) us p = absurd p.0
plain_step (Mark s) us p = refl
plain_step (Word w) us p = ap (λ o. cons_option o (among us)) p.1
plain_step (Signed w) us p = ap (λ o. cons_option o (among us)) p.1
plain_step (Quoted text) us p = ap (λ o. cons_option o (among us)) p.1
plain_step Hole us p = absurd p.0
plain_step Unreadable us p = refl

pub plain_among : (ts us : List Token) → ArePlain ts → among (ts ++ us) ≡ among us
plain_among [] us p = refl
plain_among (t ∷ ts) us p = plain_step t (ts ++ us) p.0 ∙ plain_among ts us p.1

plain_append : (ts us : List Token) → ArePlain ts → ArePlain us → ArePlain (ts ++ us)
plain_append [] us p q = q
plain_append (t ∷ ts) us p q = (p.0, plain_append ts us p.1 q)

-- The remaining tokens after plain tokens, with literals in place of holes.
plain_texts : (ts us texts : List Token) → ArePlain ts → with_texts (ts ++ us) texts ≡ ts ++ with_texts us texts
plain_texts ts us texts p = quiet_texts ts us texts (plain_quiet ts p)

pub plain_left : (ts us texts : List Token) → ArePlain ts → among (with_texts (ts ++ us) texts) ≡ among (with_texts us texts)
plain_left ts us texts p = ap among (plain_texts ts us texts p) ∙ plain_among ts (with_texts us texts) p

-- ---- parts

-- Some tokens begin with a spelling of a part. The rest are the following tokens, with the remaining literals and with these values.
pub record Respelled {A : Type 0} (Spells : List Token → A → Type 0) (part : A) (all behind : List Token) (literals : List Value) : Type 0 where
  pub front : List Token
  pub left : List Token
  pub readable : AreReadable left
  pub spelled : Spells front part
  pub split : all ≡ front ++ with_texts behind left
  pub literals_left : among (with_texts behind left) ≡ literals

-- With literals in place of its holes, a spelling of a part spells each part that differs from it only in its literals and has those among
-- the tokens.
abbrev pub Respells : {A : Type 0} → (List Token → A → Type 0) → (A → A) → (A → List Value) → Type 0
Respells {A} Spells blank literals =
    (ts : List Token) (x y : A) (us texts : List Token) (tail : List Value) → AreReadable texts → Spells ts x → blank y ≡ blank x
    → among (with_texts (ts ++ us) texts) ≡ literals y ++ tail → Respelled Spells y (with_texts (ts ++ us) texts) us tail

-- The same tokens, read as a spelling of another part.
read_as_other : {A B : Type 0} (Spells : List Token → A → Type 0) (Others : List Token → B → Type 0) (x : A) (y : B) (all us : List Token)
    (tail : List Value) → ((front : List Token) → Spells front x → Others front y) → Respelled Spells x all us tail → Respelled Others y all us tail
read_as_other Spells Others x y all us tail other r = record {
  front = r.front;
  left = r.left;
  readable = r.readable;
  spelled = other r.front r.spelled;
  split = r.split;
  literals_left = r.literals_left;
}

-- The same part after plain tokens.
behind_plain : {A : Type 0} (Spells : List Token → A → Type 0) (x : A) (ts more us texts : List Token) (tail : List Value) → ArePlain ts
    → Respelled Spells x (with_texts (more ++ us) texts) us tail
    → Respelled (λ front y. (rest : List Token) × Spells rest y × (front ≡ ts ++ rest)) x (with_texts ((ts ++ more) ++ us) texts) us tail
behind_plain Spells x ts more us texts tail p r = record {
  front = ts ++ r.front;
  left = r.left;
  readable = r.readable;
  spelled = (r.front, r.spelled, refl);
  split =
      ap (λ l. with_texts l texts) (append_assoc ts more us) ∙ plain_texts ts (more ++ us) texts p ∙ ap (λ l. ts ++ l) r.split
      ∙ sym (append_assoc ts r.front (with_texts us r.left));
  literals_left = r.literals_left;
}

left_behind : (ts more us texts : List Token) (literals : List Value) → ArePlain ts → among (with_texts ((ts ++ more) ++ us) texts) ≡ literals
    → among (with_texts (more ++ us) texts) ≡ literals
left_behind ts more us texts literals p e =
    sym (ap (λ l. among (with_texts l texts)) (append_assoc ts more us) ∙ plain_left ts (more ++ us) texts p) ∙ e

-- A part that plain tokens alone spell.
plain_respells : {A : Type 0} (Spells : List Token → A → Type 0) → ((ts : List Token) (x : A) → Spells ts x → ArePlain ts)
    → Respells Spells (λ x. x) (λ x. [])
plain_respells Spells plain ts x y us texts tail r h same e = record {
  front = ts;
  left = texts;
  readable = r;
  spelled = subst (Spells ts) (sym same) h;
  split = plain_texts ts us texts (plain ts x h);
  literals_left = sym (plain_left ts us texts (plain ts x h)) ∙ e;
}

-- ---- literals

-- The first of the literals among tokens is spelled by the first token.
front_literal : (t : Token) (v w : Value) (us : List Token) (tail : List Value) → SpellsLiteral t v → among (t ∷ us) ≡ w ∷ tail
    → SpellsLiteral t w × (among us ≡ tail)
front_literal t v w us tail h e =
    let both : v ∷ among us ≡ w ∷ tail = sym (literal_front t v us h) ∙ e in
    let same : v ≡ w = cc in
    let rest : among us ≡ tail = cc in
    (subst (SpellsLiteral t) same h, rest)

one_literal : (t : Token) (v y : Value) (us texts all : List Token) (tail : List Value) → AreReadable texts → SpellsLiteral t v
    → all ≡ t ∷ with_texts us texts → among all ≡ y ∷ tail → Respelled (SpellsOne SpellsLiteral) y all us tail
one_literal t v y us texts all tail r h is e =
    let p = front_literal t v y (with_texts us texts) tail h (ap among (sym is) ∙ e) in
    record { front = t ∷ []; left = texts; readable = r; spelled = (t, p.0, refl); split = is; literals_left = p.1 }

literal_token : (t : Token) (v y : Value) (us texts : List Token) (tail : List Value) → AreReadable texts → SpellsLiteral t v
    → among (with_texts (t ∷ us) texts) ≡ y ∷ tail → Respelled (SpellsOne SpellsLiteral) y (with_texts (t ∷ us) texts) us tail
literal_token (Word w) v y us texts tail r h e = one_literal (Word w) v y us texts (with_texts (Word w ∷ us) texts) tail r h refl e
literal_token (Signed w) v y us texts tail r h e = one_literal (Signed w) v y us texts (with_texts (Signed w ∷ us) texts) tail r h refl e
literal_token (Quoted text) v y us texts tail r h e = one_literal (Quoted text) v y us texts (with_texts (Quoted text ∷ us) texts) tail r h refl e
literal_token (Mark s) v y us texts tail r h e = absurd h
literal_token Hole v y us [] tail r h e = one_literal Hole v y us [] (with_texts (Hole ∷ us) []) tail r h refl e
literal_token Hole v y us (t ∷ texts) tail r h e =
    one_literal t r.0.0 y us texts (with_texts (Hole ∷ us) (t ∷ texts)) tail r.1 (text_spelled t r.0.0 r.0.1) refl e
literal_token Unreadable v y us texts tail r h e = absurd h

literal_respells : Respells (SpellsOne SpellsLiteral) blank_value only_value
literal_respells ts x y us texts tail r h same e =
    subst (λ l. among (with_texts (l ++ us) texts) ≡ y ∷ tail → Respelled (SpellsOne SpellsLiteral) y (with_texts (l ++ us) texts) us tail) (sym h.2)
    (literal_token h.0 x y us texts tail r h.1) e

-- ---- shifts

abbrev ShiftIn : ℤ → List Token → List Token → List Value → Type 0
ShiftIn z all us tail = Respelled SpellsShift z all us tail

-- The number among the tokens is that of the digits, ..
front_number : (t : Token) (v : Value) (z : ℤ) (us : List Token) (tail : List Value) → SpellsLiteral t v → among (t ∷ us) ≡ Int z ∷ tail
    → SpellsLiteral t (Int z) × (among us ≡ tail)
front_number t v z us tail h e = front_literal t v (Int z) us tail h e

plus_digits : (w : List ℕ) (z : ℤ) (us texts all : List Token) (tail : List Value) → AreReadable texts → IsNumeral w
    → all ≡ Mark Plus ∷ Word w ∷ with_texts us texts → among all ≡ Int z ∷ tail → ShiftIn z all us tail
plus_digits w z us texts all tail r numeral is e =
    let p = front_number (Word w) (Int (pos (digits_value 10 w))) z (with_texts us texts) tail (numeral, refl) (ap among (sym is) ∙ e) in
    record {
      front = Mark Plus ∷ Word w ∷ [];
      left = texts;
      readable = r;
      spelled = inl (w, numeral, inl (refl, p.0.1));
      split = is;
      literals_left = p.1;
    }

minus_digits : (w : List ℕ) (z : ℤ) (us texts all : List Token) (tail : List Value) → AreReadable texts → IsNumeral w
    → all ≡ Mark Minus ∷ Word w ∷ with_texts us texts → among all ≡ Int z ∷ tail → ShiftIn z all us tail
minus_digits w z us texts all tail r numeral is e =
    let p = front_number (Signed w) (Int (neg_ℤ (pos (digits_value 10 w)))) z (with_texts us texts) tail (numeral, refl) (ap among (sym is) ∙ e) in
    record {
      front = Mark Minus ∷ Word w ∷ [];
      left = texts;
      readable = r;
      spelled = inl (w, numeral, inr (inl refl, p.0.1));
      split = is;
      literals_left = p.1;
    }

joined_digits : (w : List ℕ) (z : ℤ) (us texts all : List Token) (tail : List Value) → AreReadable texts → IsNumeral w
    → all ≡ Signed w ∷ with_texts us texts → among all ≡ Int z ∷ tail → ShiftIn z all us tail
joined_digits w z us texts all tail r numeral is e =
    let p = front_number (Signed w) (Int (neg_ℤ (pos (digits_value 10 w)))) z (with_texts us texts) tail (numeral, refl) (ap among (sym is) ∙ e) in
    record {
      front = Signed w ∷ [];
      left = texts;
      readable = r;
      spelled = inl (w, numeral, inr (inr refl, p.0.1));
      split = is;
      literals_left = p.1;
    }

-- .. or one, for a hole without a literal, ..
plus_hole : (z : ℤ) (us : List Token) (tail : List Value) → among (with_texts (Mark Plus ∷ Hole ∷ us) []) ≡ Int z ∷ tail
    → ShiftIn z (with_texts (Mark Plus ∷ Hole ∷ us) []) us tail
plus_hole z us tail e =
    let both : Int (pos 1) ∷ among (with_texts us []) ≡ Int z ∷ tail = e in
    let same : pos 1 ≡ z = cc in
    let rest : among (with_texts us []) ≡ tail = cc in
    record {
      front = Mark Plus ∷ Hole ∷ [];
      left = [];
      readable = tt;
      spelled = inr (inl (refl, sym same));
      split = refl;
      literals_left = rest;
    }

minus_hole : (z : ℤ) (us : List Token) (tail : List Value) → among (with_texts (Mark Minus ∷ Hole ∷ us) []) ≡ Int z ∷ tail
    → ShiftIn z (with_texts (Mark Minus ∷ Hole ∷ us) []) us tail
minus_hole z us tail e =
    let both : Int (neg_ℤ (pos 1)) ∷ among (with_texts us []) ≡ Int z ∷ tail = e in
    let same : neg_ℤ (pos 1) ≡ z = cc in
    let rest : among (with_texts us []) ≡ tail = cc in
    record {
      front = Mark Minus ∷ Hole ∷ [];
      left = [];
      readable = tt;
      spelled = inr (inr (refl, sym same));
      split = refl;
      literals_left = rest;
    }

-- .. or that of the literal.
plus_text : (t : Token) (v : Value) (z : ℤ) (us texts : List Token) (tail : List Value) → AreReadable texts → IsText t v
    → among (behind Plus Minus t (with_texts us texts)) ≡ Int z ∷ tail → ShiftIn z (behind Plus Minus t (with_texts us texts)) us tail
plus_text (Word w) (Int n) z us texts tail r h e = plus_digits w z us texts (behind Plus Minus (Word w) (with_texts us texts)) tail r h.0 refl e
plus_text (Signed w) (Int n) z us texts tail r h e = minus_digits w z us texts (behind Plus Minus (Signed w) (with_texts us texts)) tail r h.0 refl e
plus_text (Quoted text) v z us texts tail r h e =
    let both : Text text ∷ among (with_texts us texts) ≡ Int z ∷ tail = e in
    absurd (cc)
plus_text _ _ z us texts tail r h e = absurd h

minus_text : (t : Token) (v : Value) (z : ℤ) (us texts : List Token) (tail : List Value) → AreReadable texts → IsText t v
    → among (behind Minus Plus t (with_texts us texts)) ≡ Int z ∷ tail → ShiftIn z (behind Minus Plus t (with_texts us texts)) us tail
minus_text (Word w) (Int n) z us texts tail r h e = minus_digits w z us texts (behind Minus Plus (Word w) (with_texts us texts)) tail r h.0 refl e
minus_text (Signed w) (Int n) z us texts tail r h e = plus_digits w z us texts (behind Minus Plus (Signed w) (with_texts us texts)) tail r h.0 refl e
minus_text (Quoted text) v z us texts tail r h e =
    let both : Text text ∷ among (with_texts us texts) ≡ Int z ∷ tail = e in
    absurd (cc)
minus_text _ _ z us texts tail r h e = absurd h

-- The shift of these tokens, with the number among them.
abbrev ShiftsTo : ℤ → List Token → List Token → List Value → List Token → Type 0
ShiftsTo z us texts tail ts = among (with_texts (ts ++ us) texts) ≡ Int z ∷ tail → ShiftIn z (with_texts (ts ++ us) texts) us tail

plus_shift : (z : ℤ) (us texts : List Token) (tail : List Value) → AreReadable texts → ShiftsTo z us texts tail (Mark Plus ∷ Hole ∷ [])
plus_shift z us [] tail r e = plus_hole z us tail e
plus_shift z us (t ∷ texts) tail r e = plus_text t r.0.0 z us texts tail r.1 r.0.1 e

minus_shift : (z : ℤ) (us texts : List Token) (tail : List Value) → AreReadable texts → ShiftsTo z us texts tail (Mark Minus ∷ Hole ∷ [])
minus_shift z us [] tail r e = minus_hole z us tail e
minus_shift z us (t ∷ texts) tail r e = minus_text t r.0.0 z us texts tail r.1 r.0.1 e

shift_respells : (ts : List Token) (x z : ℤ) (us texts : List Token) (tail : List Value) → AreReadable texts → SpellsShift ts x
    → ShiftsTo z us texts tail ts
shift_respells ts x z us texts tail r (inl h) = digits_shift h.2
  where
    to : (l : List Token) → ts ≡ l → ShiftsTo z us texts tail l → ShiftsTo z us texts tail ts
    to l is shifted = subst (ShiftsTo z us texts tail) (sym is) shifted

    digits_shift : ((ts ≡ Mark Plus ∷ Word h.0 ∷ []) × (x ≡ pos (digits_value 10 h.0)))
        ⊎ (((ts ≡ Mark Minus ∷ Word h.0 ∷ []) ⊎ (ts ≡ Signed h.0 ∷ [])) × (x ≡ neg_ℤ (pos (digits_value 10 h.0)))) → ShiftsTo z us texts tail ts
    digits_shift (inl plus) = to (Mark Plus ∷ Word h.0 ∷ []) plus.0 (plus_digits h.0 z us texts _ tail r h.1 refl)
    digits_shift (inr minus) =
        ⊎_elim (λ apart. to (Mark Minus ∷ Word h.0 ∷ []) apart (minus_digits h.0 z us texts _ tail r h.1 refl))
        (λ joined. to (Signed h.0 ∷ []) joined (joined_digits h.0 z us texts _ tail r h.1 refl)) minus.0
shift_respells ts x z us texts tail r (inr (inl plus)) = subst (ShiftsTo z us texts tail) (sym plus.0) (plus_shift z us texts tail r)
shift_respells ts x z us texts tail r (inr (inr minus)) = subst (ShiftsTo z us texts tail) (sym minus.0) (minus_shift z us texts tail r)

-- ---- lists

-- no literal
abbrev no_literals : {A : Type 0} → A → List Value
no_literals x = []

pub list_respells : {A : Type 0} (separator : Token) (Spells : List Token → A → Type 0) (blank : A → A) (literals : A → List Value) → IsPlain separator
    → Respells Spells blank literals → Respells (SpellsList separator Spells) (map blank) (flat_map literals)
list_respells separator Spells blank literals plain each ts [] ys us texts tail r h same e = absurd h
list_respells separator Spells blank literals plain each ts (x ∷ xs) [] us texts tail r h same e = absurd (cc)
list_respells separator Spells blank literals plain each ts (x ∷ []) (y ∷ []) us texts tail r h same e =
    let here : blank y ≡ blank x = cc in
    read_as_other Spells (SpellsList separator Spells) y (y ∷ []) (with_texts (ts ++ us) texts) us tail (λ front k. k)
    (each ts x y us texts tail r h here (e ∙ ap (λ l. l ++ tail) (append-nil (literals y))))
list_respells separator Spells blank literals plain each ts (x ∷ []) (y ∷ z ∷ ys) us texts tail r h same e = absurd (cc)
list_respells separator Spells blank literals plain each ts (x ∷ w ∷ xs) (y ∷ []) us texts tail r h same e = absurd (cc)
list_respells separator Spells blank literals plain each ts (x ∷ w ∷ xs) (y ∷ z ∷ ys) us texts tail r h same e =
    let here : blank y ≡ blank x = cc in
    let others : map blank (z ∷ ys) ≡ map blank (w ∷ xs) = cc in
    let more = separator ∷ (h.1 ++ us) in
    let regrouped : ts ++ us ≡ h.0 ++ more = ap (λ l. l ++ us) h.4 ∙ append_assoc h.0 (separator ∷ h.1) us in
    let behind = flat_map literals (z ∷ ys) ++ tail in
    let first = each h.0 x y more texts behind r h.2 here
    (ap (λ l. among (with_texts l texts)) (sym regrouped) ∙ e ∙ append_assoc (literals y) (flat_map literals (z ∷ ys)) tail) in
    let rest = list_respells separator Spells blank literals plain each h.1 (w ∷ xs) (z ∷ ys) us first.left tail first.readable h.3 others
    (sym (plain_left (separator ∷ []) (h.1 ++ us) first.left (plain, tt)) ∙ first.literals_left) in
    record {
      front = first.front ++ separator ∷ rest.front;
      left = rest.left;
      readable = rest.readable;
      spelled = (first.front, rest.front, first.spelled, rest.spelled, refl);
      split =
          ap (λ l. with_texts l texts) regrouped ∙ first.split
          ∙ ap (λ l. first.front ++ l) (plain_texts (separator ∷ []) (h.1 ++ us) first.left (plain, tt) ∙ ap (λ l. separator ∷ l) rest.split)
          ∙ sym (append_assoc first.front (separator ∷ rest.front) (with_texts us rest.left));
      literals_left = rest.literals_left;
    }

-- A clause: nothing, or a keyword and a list.
clause_respells : {A : Type 0} (wanted : Keyword) (separator : Token) (Spells : List Token → A → Type 0) (blank : A → A) (literals : A → List Value)
    → IsPlain (word wanted) → IsPlain separator → Respells Spells blank literals
    → Respells (SpellsClause wanted separator Spells) (map blank) (flat_map literals)
clause_respells wanted separator Spells blank literals opens plain each ts [] [] us texts tail r h same e = record {
  front = [];
  left = texts;
  readable = r;
  spelled = refl;
  split = ap (λ l. with_texts (l ++ us) texts) h;
  literals_left = ap (λ l. among (with_texts (l ++ us) texts)) (sym h) ∙ e;
}
clause_respells wanted separator Spells blank literals opens plain each ts [] (y ∷ ys) us texts tail r h same e = absurd (cc)
clause_respells wanted separator Spells blank literals opens plain each ts (x ∷ xs) [] us texts tail r h same e = absurd (cc)
clause_respells wanted separator Spells blank literals opens plain each ts (x ∷ xs) (y ∷ ys) us texts tail r h same e =
    let keyword = word wanted ∷ [] in
    let is : ts ≡ keyword ++ h.0 = h.2 in
    let inner = list_respells separator Spells blank literals plain each h.0 (x ∷ xs) (y ∷ ys) us texts tail r h.1 same
    (left_behind keyword h.0 us texts (flat_map literals (y ∷ ys) ++ tail) (opens, tt) (ap (λ l. among (with_texts (l ++ us) texts)) (sym is) ∙ e)) in
    subst (λ l. Respelled (SpellsClause wanted separator Spells) (y ∷ ys) (with_texts (l ++ us) texts) us tail) (sym is)
    (read_as_other _ (SpellsClause wanted separator Spells) (y ∷ ys) (y ∷ ys) (with_texts ((keyword ++ h.0) ++ us) texts) us tail
    (λ front k. (k.0, k.1, k.2))
    (behind_plain (SpellsList separator Spells) (y ∷ ys) keyword h.0 us texts tail (opens, tt) inner))

-- ---- tuples

-- A part in parentheses.
parentheses_respells : {A : Type 0} (Spells : List Token → A → Type 0) (blank : A → A) (literals : A → List Value) → Respells Spells blank literals
    → Respells (SpellsInParentheses Spells) blank literals
parentheses_respells Spells blank literals each ts x y us texts tail r h same e =
    let more = Mark Close ∷ us in
    let regrouped : ts ++ us ≡ Mark Open ∷ (h.0 ++ more) = ap (λ l. l ++ us) h.2 ∙ ap (λ l. Mark Open ∷ l) (append_assoc h.0 (Mark Close ∷ []) us) in
    let inner = each h.0 x y more texts tail r h.1 same (ap (λ l. among (with_texts l texts)) (sym regrouped) ∙ e) in
    record {
      front = Mark Open ∷ inner.front ++ Mark Close ∷ [];
      left = inner.left;
      readable = inner.readable;
      spelled = (inner.front, inner.spelled, refl);
      split =
          ap (λ l. with_texts l texts) regrouped ∙ ap (λ l. Mark Open ∷ l) inner.split
          ∙ ap (λ l. Mark Open ∷ l) (sym (append_assoc inner.front (Mark Close ∷ []) (with_texts us inner.left)));
      literals_left = inner.literals_left;
    }

all_values : (values : List Value) → flat_map only_value values ≡ values
all_values [] = refl
all_values (v ∷ values) = ap (λ l. v ∷ l) (all_values values)

pub tuple_respells : Respells SpellsTuple (map blank_value) (λ values. values)
tuple_respells ts x y us texts tail r h same e =
    parentheses_respells (SpellsList (Mark Comma) (SpellsOne SpellsLiteral)) (map blank_value) (flat_map only_value)
    (list_respells (Mark Comma) (SpellsOne SpellsLiteral) blank_value only_value (tt, refl) literal_respells) ts x y us texts tail r h same
    (e ∙ ap (λ l. l ++ tail) (sym (all_values y)))

-- ---- operands, tests and assignments

comparison_plain : (c : Comparison) → IsPlain (Mark (comparison_symbol c))
comparison_plain compared.Equal = (tt, refl)
comparison_plain compared.Less = (tt, refl)
comparison_plain compared.LessOrEqual = (tt, refl)
comparison_plain compared.Greater = (tt, refl)
comparison_plain compared.GreaterOrEqual = (tt, refl)

module _ {F : Type 0} (Spells : List Token → F → Type 0) (plain : (ts : List Token) (f : F) → Spells ts f → ArePlain ts) where
  shifted_respells : (ts : List Token) (f g : F) (x z : ℤ) (us texts : List Token) (tail : List Value) → AreReadable texts
      → SpellsOperandOn Spells ts (operand.Shifted f x) → g ≡ f → among (with_texts (ts ++ us) texts) ≡ Int z ∷ tail
      → Respelled (SpellsOperandOn Spells) (operand.Shifted g z) (with_texts (ts ++ us) texts) us tail
  shifted_respells ts f g x z us texts tail r h same e =
      let column = h.0 in
      let quiet = plain column f h.2 in
      let by = shift_respells h.1 x z us texts tail r h.3
      (left_behind column h.1 us texts (Int z ∷ tail) quiet (ap (λ l. among (with_texts (l ++ us) texts)) (sym h.4) ∙ e)) in
      subst (λ l. Respelled (SpellsOperandOn Spells) (operand.Shifted g z) (with_texts (l ++ us) texts) us tail) (sym h.4)
      (read_as_other _ (SpellsOperandOn Spells) z (operand.Shifted g z) (with_texts ((column ++ h.1) ++ us) texts) us tail
      (λ front k. (column, k.0, subst (Spells column) (sym same) h.2, k.1, k.2))
      (behind_plain SpellsShift z column h.1 us texts tail quiet by))

  operand_respells : Respells (SpellsOperandOn Spells) blank_operand operand_literals
  operand_respells ts (operand.Literal v) (operand.Literal w) us texts tail r h same e =
      read_as_other (SpellsOne SpellsLiteral) (SpellsOperandOn Spells) w (operand.Literal w) (with_texts (ts ++ us) texts) us tail (λ front k. k)
      (literal_respells ts v w us texts tail r h refl e)
  operand_respells ts (operand.Column f) (operand.Column g) us texts tail r h same e =
      let names : g ≡ f = cc in
      read_as_other Spells (SpellsOperandOn Spells) g (operand.Column g) (with_texts (ts ++ us) texts) us tail (λ front k. k)
      (plain_respells Spells plain ts f g us texts tail r h names e)
  operand_respells ts (operand.Shifted f x) (operand.Shifted g z) us texts tail r h same e =
      let names : g ≡ f = cc in
      shifted_respells ts f g x z us texts tail r h names e
  operand_respells ts _ _ us texts tail r h same e = absurd (cc)

  test_respells : Respells (SpellsTestOn Spells) blank_atom test_literals
  test_respells ts x y us texts tail r h same e =
      let names : y.left ≡ x.left = ap (λ (a : Atom F). a.left) same in
      let how : y.comparison ≡ x.comparison = ap (λ (a : Atom F). a.comparison) same in
      let shape : blank_operand y.right ≡ blank_operand x.right = ap (λ (a : Atom F). a.right) same in
      let front = h.0 ++ Mark (comparison_symbol x.comparison) ∷ [] in
      let quiet = plain_append h.0 (Mark (comparison_symbol x.comparison) ∷ []) (plain h.0 x.left h.2) (comparison_plain x.comparison, tt) in
      let is : ts ≡ front ++ h.1 = h.4 ∙ sym (append_assoc h.0 (Mark (comparison_symbol x.comparison) ∷ []) h.1) in
      let right = operand_respells h.1 x.right y.right us texts tail r h.3 shape
      (left_behind front h.1 us texts (test_literals y ++ tail) quiet (ap (λ l. among (with_texts (l ++ us) texts)) (sym is) ∙ e)) in
      subst (λ l. Respelled (SpellsTestOn Spells) y (with_texts (l ++ us) texts) us tail) (sym is)
      (read_as_other _ (SpellsTestOn Spells) y.right y (with_texts ((front ++ h.1) ++ us) texts) us tail
      (λ all k. (
        h.0,
        k.0,
        subst (Spells h.0) (sym names) h.2,
        k.1,
        k.2 ∙ append_assoc h.0 (Mark (comparison_symbol x.comparison) ∷ []) k.0 ∙ ap (λ c. h.0 ++ Mark (comparison_symbol c) ∷ k.0) (sym how),
      ))
      (behind_plain (SpellsOperandOn Spells) y.right front h.1 us texts tail quiet right))

  pub tests_respell : Respells (SpellsTestsOn Spells) (map blank_atom) (flat_map test_literals)
  tests_respell = clause_respells keyword.Where (word keyword.And) (SpellsTestOn Spells) blank_atom test_literals (tt, refl) (tt, refl) test_respells

pub name_plain : (ts : List Token) (name : List ℕ) → SpellsName ts name → ArePlain ts
name_plain ts name h = subst ArePlain (sym h.1) ((tt, name_no_literal name h.0), tt)

field_plain : (ts : List Token) (field : FieldName) → SpellsField ts field → ArePlain ts
field_plain ts field h =
    subst ArePlain (sym h.2) ((tt, name_no_literal field.alias h.0), ((tt, refl), ((tt, name_no_literal field.column h.1), tt)))

pub assignment_respells : Respells SpellsAssignment blank_assignment assignment_literals
assignment_respells ts x y us texts tail r h same e =
    let names : y.column ≡ x.column = ap (λ (a : Assignment (List ℕ)). a.column) same in
    let shape : blank_operand y.source ≡ blank_operand x.source = ap (λ (a : Assignment (List ℕ)). a.source) same in
    let front = Word x.column ∷ Mark Equal ∷ [] in
    let quiet : ArePlain front = ((tt, name_no_literal x.column h.1), ((tt, refl), tt)) in
    let is : ts ≡ front ++ h.0 = h.3 in
    let source = operand_respells SpellsName name_plain h.0 x.source y.source us texts tail r h.2 shape
    (left_behind front h.0 us texts (assignment_literals y ++ tail) quiet (ap (λ l. among (with_texts (l ++ us) texts)) (sym is) ∙ e)) in
    subst (λ l. Respelled SpellsAssignment y (with_texts (l ++ us) texts) us tail) (sym is)
    (read_as_other _ SpellsAssignment y.source y (with_texts ((front ++ h.0) ++ us) texts) us tail
    (λ all k. (k.0, subst IsName (sym names) h.1, k.1, k.2 ∙ ap (λ c. Word c ∷ Mark Equal ∷ k.0) (sym names)))
    (behind_plain (SpellsOperandOn SpellsName) y.source front h.0 us texts tail quiet source))

-- ---- queries

list_plain : {A : Type 0} (separator : Token) (Spells : List Token → A → Type 0) → IsPlain separator
    → ((ts : List Token) (x : A) → Spells ts x → ArePlain ts) → (xs : List A) (ts : List Token) → SpellsList separator Spells ts xs → ArePlain ts
list_plain separator Spells plain each [] ts h = absurd h
list_plain separator Spells plain each (x ∷ []) ts h = each ts x h
list_plain separator Spells plain each (x ∷ y ∷ xs) ts h =
    subst ArePlain (sym h.4)
    (plain_append h.0 (separator ∷ h.1) (each h.0 x h.2) (plain, list_plain separator Spells plain each (y ∷ xs) h.1 h.3))

item_plain : (ts : List Token) (item : FromItem) → SpellsFromItem ts item → ArePlain ts
item_plain ts item h = subst ArePlain (sym h.2) ((tt, name_no_literal item.table h.0), ((tt, name_no_literal item.alias h.1), tt))

distinct_plain : (ts : List Token) (distinct : Bool) → SpellsDistinct ts distinct → ArePlain ts
distinct_plain ts true h = subst ArePlain (sym h) ((tt, refl), tt)
distinct_plain ts false h = subst ArePlain (sym h) tt

position_quiet : (t : Token) (position : ℕ) → SpellsPosition t position → IsQuiet t
position_quiet (Word w) position h = tt
position_quiet _ position h = absurd h

positions_quiet : (positions : List ℕ) (ts : List Token) → SpellsList (Mark Comma) (SpellsOne SpellsPosition) ts positions → AreQuiet ts
positions_quiet [] ts h = absurd h
positions_quiet (n ∷ []) ts h = subst AreQuiet (sym h.2) (position_quiet h.0 n h.1, tt)
positions_quiet (n ∷ m ∷ positions) ts h =
    subst AreQuiet (sym (h.4 ∙ ap (λ l. l ++ Mark Comma ∷ h.1) h.2.2))
    (position_quiet h.2.0 n h.2.1, (tt, positions_quiet (m ∷ positions) h.1 h.3))

order_quiet : (ts : List Token) (positions : List ℕ) → SpellsOrder ts positions → AreQuiet ts
order_quiet ts [] h = subst AreQuiet (sym h) tt
order_quiet ts (n ∷ positions) h = subst AreQuiet (sym h.2) (tt, positions_quiet (n ∷ positions) h.0 h.1)

quiet_alone : (ts texts : List Token) → AreQuiet ts → with_texts ts texts ≡ ts
quiet_alone ts texts q = ap (λ l. with_texts l texts) (sym (append-nil ts)) ∙ quiet_texts ts [] texts q ∙ append-nil ts

regrouped : (a b c d e : List Token) → a ++ b ++ c ++ d ++ e ≡ (a ++ (b ++ c)) ++ (d ++ e)
regrouped a b c d e =
    append_assoc (a ++ b ++ c) d e ∙ ap (λ l. l ++ (d ++ e)) (append_assoc a b c)

pub query_respells : (ts : List Token) (x y : Query) (texts : List Token) → AreReadable texts → SpellsQuery ts x → blank_query y ≡ blank_query x
    → among (with_texts ts texts) ≡ query_literals y → SpellsQuery (with_texts ts texts) y
query_respells ts x y texts r h same e =
    let from = word keyword.From ∷ h.2 in
    let front = h.0 ++ (h.1 ++ from) in
    let is : ts ≡ front ++ (h.3 ++ h.4) = h.10 ∙ regrouped h.0 h.1 from h.3 h.4 in
    let quiet : ArePlain front =
    plain_append h.0 (h.1 ++ from) (distinct_plain h.0 x.distinct h.5)
    (plain_append h.1 from (list_plain (Mark Comma) SpellsField (tt, refl) field_plain x.fields h.1 h.6)
    ((tt, refl), list_plain (Mark Comma) SpellsFromItem (tt, refl) item_plain x.from h.2 h.7)) in
    let distinct : y.distinct ≡ x.distinct = ap (λ (q : Query). q.distinct) same in
    let fields : y.fields ≡ x.fields = ap (λ (q : Query). q.fields) same in
    let tables : y.from ≡ x.from = ap (λ (q : Query). q.from) same in
    let order : y.order ≡ x.order = ap (λ (q : Query). q.order) same in
    let shape : map blank_atom y.atoms ≡ map blank_atom x.atoms = ap (λ (q : Query). q.atoms) same in
    let asked = tests_respell SpellsField field_plain h.3 x.atoms y.atoms h.4 texts (flat_map position_literals y.order) r h.8 shape
    (sym (plain_left front (h.3 ++ h.4) texts quiet) ∙ ap (λ l. among (with_texts l texts)) (sym is) ∙ e) in
    let whole : with_texts ts texts ≡ front ++ (asked.front ++ h.4) =
    ap (λ l. with_texts l texts) is ∙ plain_texts front (h.3 ++ h.4) texts quiet
    ∙ ap (λ l. front ++ l) (asked.split ∙ ap (λ l. asked.front ++ l) (quiet_alone h.4 asked.left (order_quiet h.4 x.order h.9))) in (
      h.0,
      h.1,
      h.2,
      asked.front,
      h.4,
      subst (SpellsDistinct h.0) (sym distinct) h.5,
      subst (SpellsList (Mark Comma) SpellsField h.1) (sym fields) h.6,
      subst (SpellsList (Mark Comma) SpellsFromItem h.2) (sym tables) h.7,
      asked.spelled,
      subst (SpellsOrder h.4) (sym order) h.9,
      whole ∙ sym (regrouped h.0 h.1 from asked.front h.4),
    )

-- ---- a part alone

-- The tokens of a whole part, with literals in place of its holes.
pub respelled_alone : {A : Type 0} (Spells : List Token → A → Type 0) (blank : A → A) (literals : A → List Value) → Respells Spells blank literals
    → (ts : List Token) (x y : A) (texts : List Token) → AreReadable texts → Spells ts x → blank y ≡ blank x
    → among (with_texts ts texts) ≡ literals y → Spells (with_texts ts texts) y
respelled_alone Spells blank literals each ts x y texts r h same e =
    let part = each ts x y [] texts [] r h same
    (ap (λ l. among (with_texts l texts)) (append-nil ts) ∙ e ∙ sym (append-nil (literals y))) in
    let is : with_texts ts texts ≡ part.front =
    ap (λ l. with_texts l texts) (sym (append-nil ts)) ∙ part.split ∙ append-nil part.front in
    subst (λ l. Spells l y) (sym is) part.spelled
