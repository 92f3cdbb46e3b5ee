-- Phrases that read tokens with holes, and with literals in their place.
use Rattle.std.proofs.Common.{◌≡◌, ◌⊎◌, inl, inr, ⊎_elim, ℕ, zero, suc, Bool, true, false, cond, List, [], ◌∷◌, Option, Some, None, length, map, refl, sym}
use Rattle.std.proofs.Common.{ap, ◌∙◌}
use Rattle.std.proofs.Common.{subst}
use Rattle.std.specs.Option.{option_map, option_and_then, option_or}
use Rattle.std.proofs.lemmas.Bool.{cases_Bool, false≢true}
use Rattle.std.proofs.lemmas.Option.{none-some}
use Rattle.mm_schema.specs.Name.{is_name}
use Rattle.mm_value.specs.Literal.{IsNumeral, is_numeral}
use Rattle.mm_value.specs.declared.values.Value.{Value}
use Rattle.mm_value.specs.declared.values.Value.TheVariants.{Int, Text}
use Rattle.mm_lang.specs.Grammar.{comparison, comparison_of, name}
use Rattle.mm_lang.specs.Phrases.{Phrase, ◌>>=◌, ◌>>◌, at_most, behind_item, clause, clause_behind, has_keyword, in_parentheses, is_mark, list_of, mark_of}
use Rattle.mm_lang.specs.Phrases.{one, say, the_keyword, the_symbol, word_of}
use Rattle.mm_lang.specs.Tokens.{Token, Word, Signed, Mark, Hole}
use Rattle.mm_lang.specs.Words.{is_word, keyword_text}
use Rattle.mm_lang.specs.declared.read.keyword.Keyword.{Keyword}
use Rattle.mm_lang.specs.declared.read.token.Symbol.{Symbol}
use Rattle.mm_lang.specs.declared.read.token.Symbol.TheVariants.{Open, Close, Comma, Dot, Equal, Plus, Minus}
use Rattle.mm_lang.specs.steps.Parts.{Front, said_same, then_parts}
use Rattle.mm_lang.proofs.SpelledWords.{is_word-Decides, name_no_numeral}
use Rattle.mm_statement.specs.Texts.{IsText, behind, with_texts}
use Rattle.mm_statement.proofs.TextTokens.{AreReadable}

-- ---- phrases on both sides

-- The remaining tokens of the two sides: those of the second have the remaining literals in place of the holes of the first.
pub record Left (us ws : List Token) : Type 0 where
  pub texts : List Token
  pub readable : AreReadable texts
  pub split : ws ≡ with_texts us texts

-- The next token is a hole.
abbrev pub IsHoled : List Token → Type 0
IsHoled (Hole ∷ ts) = Unit {0}
IsHoled ts = ⊥

-- Two phrases read alike, one from tokens with holes and the other with literals in their place: their values differ only in their
-- literals, and their remaining tokens correspond. The exception is that the next remaining token is a hole.
abbrev pub ReadAlike : {A : Type 0} → Phrase A → Phrase A → (A → A) → Type 0
ReadAlike {A} phrase other blank =
    (ts texts : List Token) (x y : A) (us ws : List Token) → AreReadable texts → phrase ts ≡ Some (x, us)
    → other (with_texts ts texts) ≡ Some (y, ws) → ((blank y ≡ blank x) × Left us ws) ⊎ IsHoled us

-- Before a hole the phrase reads nothing, if it matches at all.
abbrev pub StopsAtHole : {A : Type 0} → Phrase A → Type 0
StopsAtHole {A} phrase = (ts : List Token) (x : A) (us : List Token) → phrase (Hole ∷ ts) ≡ Some (x, us) → IsHoled us

pub say_stops : {A : Type 0} (x : A) → StopsAtHole (say x)
say_stops x ts y us e = let p = said_same x y (Hole ∷ ts) us e in subst IsHoled p.1 tt

stopped : {A : Type 0} (phrase : Phrase A) → StopsAtHole phrase → (ms : List Token) (x : A) (us : List Token) → IsHoled ms
    → phrase ms ≡ Some (x, us) → IsHoled us
stopped phrase stops (Hole ∷ ts) x us h e = stops ts x us e
stopped phrase stops _ x us h e = absurd h

-- The results on both sides, if they are known.
pub settled : {A : Type 0} (phrase other : Phrase A) (blank : A → A) (ts vs : List Token) (x y : A) (us ws : List Token) → blank y ≡ blank x → Left us ws
    → phrase ts ≡ Some (x, us) → other vs ≡ Some (y, ws) → (v w : A) (us ws : List Token) → phrase ts ≡ Some (v, us) → other vs ≡ Some (w, ws)
    → ((blank w ≡ blank v) × Left us ws) ⊎ IsHoled us
settled phrase other blank ts vs x y us ws same left here there v w ls rs e f =
    let p = said_same x v us ls (sym here ∙ e) in
    let q = said_same y w ws rs (sym there ∙ f) in
    inl (
      ap blank (sym q.0) ∙ same ∙ ap blank p.0,
      record { texts = left.texts; readable = left.readable; split = sym q.1 ∙ left.split ∙ ap (λ l. with_texts l left.texts) p.1 },
    )

pub say_alike : {A : Type 0} (blank : A → A) (x y : A) → blank y ≡ blank x → ReadAlike (say x) (say y) blank
say_alike blank x y same ts texts v w us ws r e f =
    settled (say x) (say y) blank ts (with_texts ts texts) x y ts (with_texts ts texts) same (record { texts = texts; readable = r; split = refl }) refl refl
    v w us ws e f

module _ {A B : Type 0} (first first_other : Phrase A) (next next_other : A → Phrase B) (blank_first : A → A) (blank : B → B)
    (stops : (x : A) → StopsAtHole (next x)) (firsts : ReadAlike first first_other blank_first)
    (nexts : (x y : A) → blank_first y ≡ blank_first x → ReadAlike (next x) (next_other y) blank) where
  pub then_alike : ReadAlike (first >>= next) (first_other >>= next_other) blank
  then_alike ts texts v w us ws r e f =
      let p = then_parts first next ts v us e in
      let q = then_parts first_other next_other (with_texts ts texts) w ws f in
      ⊎_elim
      (λ h. nexts p.0 q.0 h.0 p.1 h.1.texts v w us ws h.1.readable p.3 (ap (next_other q.0) (sym h.1.split) ∙ q.3))
      (λ h. inr (stopped (next p.0) (stops p.0) p.1 v us h p.3))
      (firsts ts texts p.0 q.0 p.1 q.1 r p.2 q.2)

-- ---- phrases that read the same on both sides

-- the value that was read, and the remaining tokens with literals
abbrev moved : {A : Type 0} → List Token → Front A → Front A
moved texts r = (r.0, with_texts r.1 texts)

abbrev pub ReadsSame : {A : Type 0} → Phrase A → Type 0
ReadsSame {A} phrase = (ts texts : List Token) → AreReadable texts → phrase (with_texts ts texts) ≡ option_map (moved {A = A} texts) (phrase ts)

module _ {A B : Type 0} (first : Phrase A) (next next_other : A → Phrase B) (blank : B → B) (same : ReadsSame first)
    (nexts : (x : A) → ReadAlike (next x) (next_other x) blank) where
  -- A phrase after one that reads the same on both sides.
  pub same_alike : ReadAlike (first >>= next) (first >>= next_other) blank
  same_alike ts texts v w us ws r e f =
      let p = then_parts first next ts v us e in
      let q = then_parts first next_other (with_texts ts texts) w ws f in
      let s = said_same q.0 p.0 q.1 (with_texts p.1 texts) (sym q.2 ∙ same ts texts r ∙ ap (option_map (moved texts)) p.2) in
      nexts p.0 p.1 texts v w us ws r p.3 (ap (next_other p.0) (sym s.1) ∙ ap (λ x. next_other x q.1) (sym s.0) ∙ q.3)

-- The function has no value for a hole, a sign or a literal of a value.
pub record IsBlind {A : Type 0} (says : Token → Option A) : Type 0 where
  pub hole : says Hole ≡ None
  pub plus : says (Mark Plus) ≡ None
  pub minus : says (Mark Minus) ≡ None
  pub text : (t : Token) (v : Value) → IsText t v → says t ≡ None

module _ {A : Type 0} (says : Token → Option A) (blind : IsBlind says) where
  none_first : (t : Token) (us : List Token) → says t ≡ None → one says (t ∷ us) ≡ None
  none_first t us none = let pair : A → Front A = λ x. (x, us) in ap (option_map pair) none

  sign_first : (s o : Symbol) (t : Token) (us : List Token) → says (Mark s) ≡ None → says (Mark o) ≡ None → one says (behind s o t us) ≡ None
  sign_first s o (Signed w) us here there = none_first (Mark o) (Word w ∷ us) there
  sign_first s o t us here there = none_first (Mark s) (t ∷ us) here

  both_none : (ts texts us : List Token) → one says us ≡ None → one says ts ≡ None → one says us ≡ option_map (moved texts) (one says ts)
  both_none ts texts us here there = here ∙ ap (option_map (moved texts)) (sym there)

  moved_same : (o : Option A) (ts texts : List Token)
      → option_map (λ x. (x, with_texts ts texts)) o ≡ option_map (moved {A = A} texts) (option_map (λ x. (x, ts)) o)
  moved_same None ts texts = refl
  moved_same (Some x) ts texts = refl

  pub one_same : ReadsSame (one says)
  one_same [] texts r = refl
  one_same (Mark Plus ∷ Hole ∷ ts) (t ∷ texts) r =
      both_none (Mark Plus ∷ Hole ∷ ts) (t ∷ texts) (behind Plus Minus t (with_texts ts texts))
      (sign_first Plus Minus t (with_texts ts texts) blind.plus blind.minus) (none_first (Mark Plus) (Hole ∷ ts) blind.plus)
  one_same (Mark Minus ∷ Hole ∷ ts) (t ∷ texts) r =
      both_none (Mark Minus ∷ Hole ∷ ts) (t ∷ texts) (behind Minus Plus t (with_texts ts texts))
      (sign_first Minus Plus t (with_texts ts texts) blind.minus blind.plus) (none_first (Mark Minus) (Hole ∷ ts) blind.minus)
  one_same (Hole ∷ ts) (t ∷ texts) r =
      both_none (Hole ∷ ts) (t ∷ texts) (t ∷ with_texts ts texts) (none_first t (with_texts ts texts) (blind.text t r.0.0 r.0.1))
      (none_first Hole ts blind.hole)
  one_same (t ∷ ts) texts r = moved_same (says t) ts texts

-- ---- symbols and words

pub mark_blind : {A : Type 0} (says : Symbol → Option A) → says Plus ≡ None → says Minus ≡ None → IsBlind (λ t. option_and_then says (mark_of t))
mark_blind says plus minus = record { hole = refl; plus = plus; minus = minus; text = text }
  where
    text : (t : Token) (v : Value) → IsText t v → option_and_then says (mark_of t) ≡ None
    text (Mark s) v h = absurd h
    text t v h = refl

pub symbol_blind : (s : Symbol) → is_mark s (Mark Plus) ≡ None → is_mark s (Mark Minus) ≡ None → IsBlind (is_mark s)
symbol_blind s plus minus = record { hole = refl; plus = plus; minus = minus; text = text }
  where
    text : (t : Token) (v : Value) → IsText t v → is_mark s t ≡ None
    text (Mark s) v h = absurd h
    text t v h = refl

-- A function of words that has no value for digits.
pub word_blind : {A : Type 0} (says : List ℕ → Option A) → ((w : List ℕ) → IsNumeral w → says w ≡ None) → IsBlind (λ t. option_and_then says (word_of t))
word_blind {A} says none = record { hole = refl; plus = refl; minus = refl; text = text }
  where
    text : (t : Token) (v : Value) → IsText t v → option_and_then says (word_of t) ≡ None
    text (Word w) (Int z) h = none w h.0
    text (Word w) (Text said) h = absurd h
    text t v h = refl

name_of_digits : (w : List ℕ) → IsNumeral w → cond (is_name w) (Some w) None ≡ None
name_of_digits w numeral =
    ⊎_elim (λ is. absurd (name_no_numeral w is numeral)) (λ other. ap (λ b. cond b (Some w) None) other) (cases_Bool (is_name w))

pub name_same : ReadsSame name
name_same = one_same (λ t. option_and_then (λ w. cond (is_name w) (Some w) None) (word_of t)) (word_blind (λ w. cond (is_name w) (Some w) None) name_of_digits)

-- whether the word is the keyword
abbrev the_word : Keyword → List ℕ → Option (Unit {0})
the_word k w = cond (is_word k w) (Some tt) None

keyword_of_digits : (k : Keyword) → is_numeral (keyword_text k) ≡ false → (w : List ℕ) → IsNumeral w → the_word k w ≡ None
keyword_of_digits k letters w numeral =
    ⊎_elim (λ is. absurd (false≢true (sym letters ∙ ap is_numeral (sym ((is_word-Decides k w).0 is)) ∙ numeral)))
    (λ other. let is : Option (Unit {0}) = Some tt in ap (λ b. cond b is None) other) (cases_Bool (is_word k w))

pub keyword_same : (k : Keyword) → is_numeral (keyword_text k) ≡ false → ReadsSame (the_keyword k)
keyword_same k letters = one_same (λ t. option_and_then (the_word k) (word_of t)) (word_blind (the_word k) (keyword_of_digits k letters))

-- the result of reading a keyword
found : List Token → Option (Front (Unit {0})) → Option (Front Bool)
found ts o = option_or (option_and_then (λ (r : Front (Unit {0})). say true r.1) o) (Some (false, ts))

found_same : (o : Option (Front (Unit {0}))) (ts texts : List Token)
    → found (with_texts ts texts) (option_map (moved texts) o) ≡ option_map (moved texts) (found ts o)
unfolding found
found_same None ts texts = refl
found_same (Some s) ts texts = refl

pub has_keyword_same : (k : Keyword) → is_numeral (keyword_text k) ≡ false → ReadsSame (has_keyword k)
unfolding found
has_keyword_same k letters ts texts r =
    ap (found (with_texts ts texts)) (keyword_same k letters ts texts r) ∙ found_same (the_keyword k ts) ts texts

pub comparison_same : ReadsSame comparison
comparison_same = one_same (λ t. option_and_then comparison_of (mark_of t)) (mark_blind comparison_of refl refl)

pub comma_same : ReadsSame (the_symbol Comma)
comma_same = one_same (is_mark Comma) (symbol_blind Comma refl refl)

pub open_same : ReadsSame (the_symbol Open)
open_same = one_same (is_mark Open) (symbol_blind Open refl refl)

pub close_same : ReadsSame (the_symbol Close)
close_same = one_same (is_mark Close) (symbol_blind Close refl refl)

pub dot_same : ReadsSame (the_symbol Dot)
dot_same = one_same (is_mark Dot) (symbol_blind Dot refl refl)

pub equal_same : ReadsSame (the_symbol Equal)
equal_same = one_same (is_mark Equal) (symbol_blind Equal refl refl)

-- ---- combinations of such phrases

pub say_same : {A : Type 0} (x : A) → ReadsSame (say x)
say_same x ts texts r = refl

module _ {A B : Type 0} (first : Phrase A) (next : A → Phrase B) (same : ReadsSame first) (nexts : (x : A) → ReadsSame (next x)) where
  by_first : (o : Option (Front A)) (texts : List Token) → AreReadable texts
      → option_and_then (λ (s : Front A). next s.0 s.1) (option_map (moved texts) o)
      ≡ option_map (moved texts) (option_and_then (λ (s : Front A). next s.0 s.1) o)
  by_first None texts r = refl
  by_first (Some s) texts r = nexts s.0 s.1 texts r

  pub then_same : ReadsSame (first >>= next)
  then_same ts texts r = ap (option_and_then (λ (s : Front A). next s.0 s.1)) (same ts texts r) ∙ by_first (first ts) texts r

-- ---- lists

pub length_texts : (ts texts : List Token) → length (with_texts ts texts) ≡ length ts
length_texts [] texts = refl
length_texts (Mark Plus ∷ Hole ∷ ts) (Signed w ∷ texts) = ap (λ n. suc (suc n)) (length_texts ts texts)
length_texts (Mark Plus ∷ Hole ∷ ts) (t ∷ texts) = ap (λ n. suc (suc n)) (length_texts ts texts)
length_texts (Mark Minus ∷ Hole ∷ ts) (Signed w ∷ texts) = ap (λ n. suc (suc n)) (length_texts ts texts)
length_texts (Mark Minus ∷ Hole ∷ ts) (t ∷ texts) = ap (λ n. suc (suc n)) (length_texts ts texts)
length_texts (Hole ∷ ts) (t ∷ texts) = ap suc (length_texts ts texts)
length_texts (t ∷ ts) texts = ap suc (length_texts ts texts)

module _ {A : Type 0} (separator : Phrase (Unit {0})) (item : Phrase A) (blank : A → A) (same : ReadsSame separator)
    (ends : (ts : List Token) → separator (Hole ∷ ts) ≡ None) (items : ReadAlike item item blank) where
  -- the items after the first
  others : ℕ → Phrase (List A)
  others n ts = behind_item (separator ts) (at_most n separator item) ts

  others_stop : (n : ℕ) (x : A) → StopsAtHole (others n >>= (λ xs. say (x ∷ xs)))
  unfolding others
  others_stop n x ts ys us e =
      let p = then_parts (others n) (λ xs. say (x ∷ xs)) (Hole ∷ ts) ys us e in
      let q = said_same [] p.0 (Hole ∷ ts) p.1
      (sym (ap (λ o. behind_item o (at_most n separator item) (Hole ∷ ts)) (ends ts)) ∙ p.2) in
      let s = said_same (x ∷ p.0) ys p.1 us p.3 in
      subst IsHoled (q.1 ∙ s.1) tt

  others_alike : (n : ℕ) → ReadAlike (at_most n separator item) (at_most n separator item) (map blank) → ReadAlike (others n) (others n) (map blank)
  unfolding others
  others_alike n rest ts texts xs ys us ws r e f =
      by (separator ts) refl
    where
      by : (o : Option (Front (Unit {0}))) → separator ts ≡ o → ((map blank ys ≡ map blank xs) × Left us ws) ⊎ IsHoled us
      by None is =
          let there = same ts texts r ∙ ap (option_map (moved texts)) is in
          settled (others n) (others n) (map blank) ts (with_texts ts texts) [] [] ts (with_texts ts texts) refl
          (record { texts = texts; readable = r; split = refl }) (ap (λ o. behind_item o (at_most n separator item) ts) is)
          (ap (λ o. behind_item o (at_most n separator item) (with_texts ts texts)) there) xs ys us ws e f
      by (Some s) is =
          let there = same ts texts r ∙ ap (option_map (moved texts)) is in
          rest s.1 texts xs ys us ws r (sym (ap (λ o. behind_item o (at_most n separator item) ts) is) ∙ e)
          (sym (ap (λ o. behind_item o (at_most n separator item) (with_texts ts texts)) there) ∙ f)

  at_most_alike : (n : ℕ) → ReadAlike (at_most n separator item) (at_most n separator item) (map blank)
  unfolding at_most others
  at_most_alike zero = λ ts texts xs ys us ws r e f. let answer : Front (List A) = (xs, us) in absurd (none-some answer e)
  at_most_alike (suc n) =
      then_alike item item (λ x. others n >>= (λ xs. say (x ∷ xs))) (λ y. others n >>= (λ ys. say (y ∷ ys))) blank (map blank) (others_stop n) items
      (λ x y here. then_alike (others n) (others n) (λ xs. say (x ∷ xs)) (λ ys. say (y ∷ ys)) (map blank) (map blank) (λ xs. say_stops (x ∷ xs))
      (others_alike n (at_most_alike n)) (λ xs ys more. say_alike (map blank) (x ∷ xs) (y ∷ ys) (λ i. here i ∷ more i)))

  pub list_alike : ReadAlike (list_of separator item) (list_of separator item) (map blank)
  list_alike ts texts xs ys us ws r e f =
      at_most_alike (suc (length ts)) ts texts xs ys us ws r e
      (ap (λ n. at_most (suc n) separator item (with_texts ts texts)) (sym (length_texts ts texts)) ∙ f)

  module _ (wanted : Keyword) (letters : is_numeral (keyword_text wanted) ≡ false) where
    clause_behind_alike : (there : Bool) → ReadAlike (clause_behind separator item there) (clause_behind separator item there) (map blank)
    clause_behind_alike true = list_alike
    clause_behind_alike false = say_alike (map blank) [] [] refl

    pub clause_alike : ReadAlike (clause wanted separator item) (clause wanted separator item) (map blank)
    unfolding clause
    clause_alike =
        same_alike (has_keyword wanted) (clause_behind separator item) (clause_behind separator item) (map blank) (has_keyword_same wanted letters)
        clause_behind_alike

-- ---- parentheses

module _ {A : Type 0} (phrase : Phrase A) (blank : A → A) (alike : ReadAlike phrase phrase blank) where
  close_stops : (x : A) → StopsAtHole (the_symbol Close >> say x)
  close_stops x ts y us e = let answer : Front A = (y, us) in absurd (none-some answer e)

  pub parentheses_alike : ReadAlike (in_parentheses phrase) (in_parentheses phrase) blank
  parentheses_alike =
      same_alike (the_symbol Open) (λ o. phrase >>= (λ x. the_symbol Close >> say x)) (λ o. phrase >>= (λ x. the_symbol Close >> say x)) blank open_same
      (λ o. then_alike phrase phrase (λ x. the_symbol Close >> say x) (λ x. the_symbol Close >> say x) blank blank close_stops alike
      (λ x y same. same_alike (the_symbol Close) (λ c. say x) (λ c. say y) blank close_same (λ c. say_alike blank x y same)))
