-- Shifts, operands, tests and assignments: the tokens that are read spell the value, and each spelling is read.
use Rattle.std.proofs.Common.{◌≡◌, ◌⊎◌, inl, inr, ⊎_elim, ℕ, Bool, true, false, cond, List, [], ◌∷◌, ◌++◌, Option, Some, None, refl, sym, ap, subst, ◌∙◌}
use Rattle.std.proofs.Common.{append-nil, append_assoc}
use Rattle.std.specs.Prelude.{ℤ}
use Rattle.std.specs.Option.{option_map, option_and_then, option_or}
use Rattle.std.proofs.lemmas.Option.{none-some, same_Some}
use Rattle.mm_schema.specs.Name.{IsName}
use Rattle.mm_value.specs.Literal.{IsNumeral, is_numeral}
use Rattle.mm_value.specs.Reading.{signed_value}
use Rattle.mm_value.specs.declared.values.Value.{Value}
use Rattle.mm_query.specs.declared.atom.Assignment.{Assignment}
use Rattle.mm_query.specs.declared.atom.Atom.{Atom}
use Rattle.mm_query.specs.declared.atom.Comparison.{Comparison}
use Rattle.mm_query.specs.declared.atom.Comparison.TheVariants as compared
use Rattle.mm_query.specs.declared.atom.Operand.{Operand}
use Rattle.mm_query.specs.declared.atom.Operand.TheVariants as kind_of
use Rattle.mm_query.specs.declared.command.Command.{Command}
use Rattle.mm_query.specs.declared.command.Command.TheVariants as command
use Rattle.mm_query.specs.declared.command.Mutation.TheVariants as change
use Rattle.mm_query.specs.Fields.{FieldName}
use Rattle.mm_lang.specs.declared.read.keyword.Keyword.TheVariants as keyword
use Rattle.mm_lang.specs.declared.read.phrase.Separator.TheVariants.{And}
use Rattle.mm_lang.specs.declared.read.token.Symbol.{Symbol}
use Rattle.mm_lang.specs.declared.read.token.Symbol.TheVariants as symbol
use Rattle.mm_lang.specs.Grammar.{literal_of, name, comparison, comparison_of, comma_list, numbered, digits, shift, with_shift, operand_behind, operand_on}
use Rattle.mm_lang.specs.Grammar.{unit_shift, behind_sign, test_on, assignment, field, tests_on, update, delete}
use Rattle.mm_lang.specs.Phrases.{Phrase, ◌>>=◌, ◌>>◌, say, one, word_of, mark_of, the_symbol, the_keyword, the_separator, maybe, list_of}
use Rattle.mm_lang.specs.Spelling.{word, comparison_symbol, SpellsAssignment, SpellsCommand, SpellsField, SpellsList, SpellsName, SpellsOperandOn}
use Rattle.mm_lang.specs.Spelling.{SpellsDigits, SpellsUnit, SpellsShift, SpellsTestOn, SpellsTestsOn}
use Rattle.mm_lang.specs.Tokens.{Token, Word, Signed, Mark, Hole}
use Rattle.mm_lang.specs.steps.Parts.{Front, said_same, tested, then_parts, one_parts, optional_parts}
use Rattle.mm_lang.proofs.Exactness.{Always, IsExact, IsToken, list_exact, clause_exact}
use Rattle.mm_lang.proofs.SpelledWords.{symbol_read, keyword_read, name_read, name_spelled, name_no_literal, literal_read, literal_spelled}

pub comma : IsToken (the_symbol symbol.Comma) (Mark symbol.Comma)
comma = record { sound = symbol_read symbol.Comma; complete = λ us. refl }

and_token : IsToken (the_separator And) (word keyword.And)
and_token = record { sound = keyword_read keyword.And; complete = λ us. refl }

-- ---- numbers

numbered_parts : (is_negative : Bool) (w : List ℕ) (ts : List Token) (o : Option ℤ) (us : List Token) → numbered is_negative w ts ≡ Some (o, us)
    → IsNumeral w × (Some (signed_value is_negative w) ≡ o) × (ts ≡ us)
numbered_parts is_negative w ts o us e =
    let answer : Front (Option ℤ) = (o, us) in
    let p = tested (is_numeral w) (Some (Some (signed_value is_negative w), ts)) answer e in
    let q = said_same (Some (signed_value is_negative w)) o ts us p.1 in
    (p.0, q.0, q.1)

word_front : (t : Token) (w : List ℕ) → word_of t ≡ Some w → t ≡ Word w
word_front (Word v) w e = ap Word (same_Some v w e)
word_front _ w e = absurd (none-some w e)

digits_parts : (is_negative : Bool) (ts : List Token) (o : Option ℤ) (us : List Token) → digits is_negative ts ≡ Some (o, us)
    → (w : List ℕ) × IsNumeral w × (Some (signed_value is_negative w) ≡ o) × (ts ≡ Word w ∷ us)
digits_parts is_negative ts o us e =
    let p = then_parts (one word_of) (numbered is_negative) ts o us e in
    let q = one_parts word_of ts p.0 p.1 p.2 in
    let r = numbered_parts is_negative p.0 p.1 o us p.3 in
    (p.0, r.0, r.1, q.1 ∙ ap (λ t. t ∷ p.1) (word_front q.0 p.0 q.2) ∙ ap (λ l. Word p.0 ∷ l) r.2)

-- ---- shifts

-- a shift, or no token
abbrev SpellsMaybe : List Token → Option ℤ → Type 0
SpellsMaybe ts None = ts ≡ []
SpellsMaybe ts (Some z) = SpellsShift ts z

-- a sign
abbrev sign : Bool → Symbol
sign true = symbol.Minus
sign false = symbol.Plus

signed_digits : (is_negative : Bool) (w : List ℕ) → IsNumeral w → SpellsShift (Mark (sign is_negative) ∷ Word w ∷ []) (signed_value is_negative w)
signed_digits true w numeral = inl (w, numeral, inr (inl refl, refl))
signed_digits false w numeral = inl (w, numeral, inl (refl, refl))

signed_hole : (is_negative : Bool) → SpellsShift (Mark (sign is_negative) ∷ Hole ∷ []) (unit_shift is_negative)
signed_hole true = inr (inr (refl, refl))
signed_hole false = inr (inl (refl, refl))

behind_sign_read : (is_negative : Bool) (ts : List Token) (o : Option ℤ) (us : List Token) → behind_sign is_negative ts ≡ Some (o, us)
    → (front : List Token) × SpellsMaybe (Mark (sign is_negative) ∷ front) o × (ts ≡ front ++ us)
behind_sign_read is_negative (Hole ∷ ts) o us e =
    let r = said_same (Some (unit_shift is_negative)) o ts us e in
    (Hole ∷ [], subst (SpellsMaybe (Mark (sign is_negative) ∷ Hole ∷ [])) r.0 (signed_hole is_negative), ap (λ l. Hole ∷ l) r.1)
behind_sign_read is_negative ts o us e =
    let q = digits_parts is_negative ts o us e in
    let front = Mark (sign is_negative) ∷ Word q.0 ∷ [] in
    (Word q.0 ∷ [], subst (SpellsMaybe front) q.2 (signed_digits is_negative q.0 q.1), q.3)

shift_read : (ts : List Token) (o : Option ℤ) (us : List Token) → shift ts ≡ Some (o, us) → (front : List Token) × SpellsMaybe front o × (ts ≡ front ++ us)
unfolding shift
shift_read (Mark symbol.Plus ∷ ts) o us e =
    let q = behind_sign_read false ts o us e in (Mark symbol.Plus ∷ q.0, q.1, ap (λ l. Mark symbol.Plus ∷ l) q.2)
shift_read (Mark symbol.Minus ∷ ts) o us e =
    let q = behind_sign_read true ts o us e in (Mark symbol.Minus ∷ q.0, q.1, ap (λ l. Mark symbol.Minus ∷ l) q.2)
shift_read (Signed w ∷ ts) o us e =
    let q = numbered_parts true w ts o us e in
    let front = Signed w ∷ [] in
    (front, subst (SpellsMaybe front) q.1 (inl (w, q.0, inr (inr refl, refl))), ap (λ l. Signed w ∷ l) q.2)
shift_read ts o us e = let r = said_same None o ts us e in ([], subst (SpellsMaybe []) r.0 refl, r.1)

number_read : (is_negative : Bool) (w : List ℕ) (z : ℤ) (us : List Token) → IsNumeral w → z ≡ signed_value is_negative w
    → numbered is_negative w us ≡ Some (Some z, us)
number_read is_negative w z us numeral is =
    let read : Front (Option ℤ) = (Some (signed_value is_negative w), us) in
    ap (λ b. cond b (Some read) None) numeral
    ∙ ap (λ n. Some (Some n, us)) (sym is)

digits_spelled : (front : List Token) (z : ℤ) (us : List Token) → SpellsDigits front z → shift (front ++ us) ≡ Some (Some z, us)
unfolding shift
digits_spelled front z us h =
    ⊎_elim
    (λ plus. ap (λ l. shift (l ++ us)) plus.0 ∙ number_read false h.0 z us h.1 plus.1)
    (λ minus.
    ⊎_elim (λ apart. ap (λ l. shift (l ++ us)) apart ∙ number_read true h.0 z us h.1 minus.1)
    (λ joined. ap (λ l. shift (l ++ us)) joined ∙ number_read true h.0 z us h.1 minus.1) minus.0)
    h.2

unit_spelled : (front : List Token) (z : ℤ) (us : List Token) → SpellsUnit front z → shift (front ++ us) ≡ Some (Some z, us)
unfolding shift
unit_spelled front z us (inl plus) = ap (λ l. shift (l ++ us)) plus.0 ∙ ap (λ n. Some (Some n, us)) (sym plus.1)
unit_spelled front z us (inr minus) = ap (λ l. shift (l ++ us)) minus.0 ∙ ap (λ n. Some (Some n, us)) (sym minus.1)

shift_spelled : (front : List Token) (z : ℤ) (us : List Token) → SpellsShift front z → shift (front ++ us) ≡ Some (Some z, us)
shift_spelled front z us h = ⊎_elim (digits_spelled front z us) (unit_spelled front z us) h

-- the tokens do not begin with a sign
abbrev pub NoSign : List Token → Type 0
NoSign us = shift us ≡ Some (None, us)

-- the tokens begin neither with a shift nor with AND or WHERE
abbrev pub NoTest : List Token → Type 0
NoTest us = (NoSign us × (the_separator And us ≡ None)) × (the_keyword keyword.Where us ≡ None)

-- ---- columns

maybe_parts : {A : Type 0} (phrase : Phrase A) (ts : List Token) (o : Option A) (us : List Token) → maybe phrase ts ≡ Some (o, us)
    → ((x : A) × (phrase ts ≡ Some (x, us)) × (Some x ≡ o)) ⊎ ((None ≡ o) × (ts ≡ us))
maybe_parts {A} phrase ts o us e =
    ⊎_elim
    (λ there. let p = then_parts phrase (λ x. say (Some x)) ts o us there in
    let q = said_same (Some p.0) o p.1 us p.3 in
    inl (p.0, p.2 ∙ ap (λ ms. Some (p.0, ms)) q.1, q.0))
    (λ not_there. inr (not_there.1, not_there.2))
    (optional_parts None (phrase >>= (λ x. say (Some x))) ts o us e)

-- The phrase of a column is exact for how columns are spelled, and no column is a literal.
pub record IsColumn {F : Type 0} (column : Phrase F) (Spells : List Token → F → Type 0) : Type 0 where
  pub exact : IsExact column Spells Always
  pub no_literal : (front : List Token) (f : F) (us : List Token) → Spells front f → one literal_of (front ++ us) ≡ None

first_no_literal : (n : List ℕ) (us : List Token) → IsName n → one literal_of (Word n ∷ us) ≡ None
first_no_literal n us named = let pair : Value → Front Value = λ v. (v, us) in ap (option_map pair) (name_no_literal n named)

-- A name is a column, ..
pub name_column : IsColumn name SpellsName
name_column = record {
  exact = record {
    sound = λ ts n us e. let p = name_read ts n us e in (Word n ∷ [], (p.1, refl), p.0);
    complete = λ front n us h _. ap (λ l. name (l ++ us)) h.1 ∙ name_spelled n us h.0;
  };
  no_literal = λ front n us h. ap (λ l. one literal_of (l ++ us)) h.1 ∙ first_no_literal n us h.0;
}

say_field : List ℕ → List ℕ → Phrase FieldName
say_field a c = say (record { alias = a; column = c })

after_dot : List ℕ → Phrase FieldName
after_dot a = name >>= say_field a

after_alias : List ℕ → Phrase FieldName
after_alias a = the_symbol symbol.Dot >> after_dot a

field_read : (ts : List Token) (f : FieldName) (us : List Token) → field ts ≡ Some (f, us) → (front : List Token) × SpellsField front f × (ts ≡ front ++ us)
unfolding field after_alias after_dot say_field
field_read ts f us e =
    let p = then_parts name after_alias ts f us e in
    let q = then_parts (the_symbol symbol.Dot) (λ u. after_dot p.0) p.1 f us p.3 in
    let r = then_parts name (say_field p.0) q.1 f us q.3 in
    let read : FieldName = record { alias = p.0; column = r.0 } in
    let s = said_same read f r.1 us r.3 in
    let a = name_read ts p.0 p.1 p.2 in
    let c = name_read q.1 r.0 r.1 r.2 in
    let front = Word p.0 ∷ Mark symbol.Dot ∷ Word r.0 ∷ [] in (
      front,
      subst (SpellsField front) s.0 (a.1, c.1, refl),
      a.0 ∙ ap (λ l. Word p.0 ∷ l) (symbol_read symbol.Dot p.1 q.1 q.2 ∙ ap (λ l. Mark symbol.Dot ∷ l) (c.0 ∙ ap (λ l. Word r.0 ∷ l) s.1)),
    )

field_spelled : (front : List Token) (f : FieldName) (us : List Token) → SpellsField front f → field (front ++ us) ≡ Some (f, us)
unfolding field after_alias after_dot say_field
field_spelled front f us h =
    ap (λ l. field (l ++ us)) h.2
    ∙ ap (option_and_then (λ (r : Front (List ℕ)). after_alias r.0 r.1)) (name_spelled f.alias (Mark symbol.Dot ∷ Word f.column ∷ us) h.0)
    ∙ ap (option_and_then (λ (r : Front (List ℕ)). say_field f.alias r.0 r.1)) (name_spelled f.column us h.1)

-- .. and so is a field.
pub field_column : IsColumn field SpellsField
field_column = record {
  exact = record { sound = field_read; complete = λ front f us h _. field_spelled front f us h };
  no_literal = λ front f us h. ap (λ l. one literal_of (l ++ us)) h.2 ∙ first_no_literal f.alias (Mark symbol.Dot ∷ Word f.column ∷ us) h.0;
}

-- ---- comparisons

symbol_of : (s : Symbol) (c : Comparison) → comparison_of s ≡ Some c → s ≡ comparison_symbol c
symbol_of symbol.Equal c e = ap comparison_symbol (same_Some compared.Equal c e)
symbol_of symbol.Less c e = ap comparison_symbol (same_Some compared.Less c e)
symbol_of symbol.AtMost c e = ap comparison_symbol (same_Some compared.LessOrEqual c e)
symbol_of symbol.Greater c e = ap comparison_symbol (same_Some compared.Greater c e)
symbol_of symbol.AtLeast c e = ap comparison_symbol (same_Some compared.GreaterOrEqual c e)
symbol_of _ c e = absurd (none-some c e)

mark_is : (t : Token) (c : Comparison) → option_and_then comparison_of (mark_of t) ≡ Some c → t ≡ Mark (comparison_symbol c)
mark_is (Mark s) c e = ap Mark (symbol_of s c e)
mark_is _ c e = absurd (none-some c e)

comparison_read : (ts : List Token) (c : Comparison) (us : List Token) → comparison ts ≡ Some (c, us) → ts ≡ Mark (comparison_symbol c) ∷ us
comparison_read ts c us e =
    let p = one_parts (λ t. option_and_then comparison_of (mark_of t)) ts c us e in p.1 ∙ ap (λ t. t ∷ us) (mark_is p.0 c p.2)

comparison_spelled : (c : Comparison) (us : List Token) → comparison (Mark (comparison_symbol c) ∷ us) ≡ Some (c, us)
comparison_spelled compared.Equal us = refl
comparison_spelled compared.Less us = refl
comparison_spelled compared.LessOrEqual us = refl
comparison_spelled compared.Greater us = refl
comparison_spelled compared.GreaterOrEqual us = refl

-- ---- operands and tests

module _ {F : Type 0} (column : Phrase F) (Spells : List Token → F → Type 0) (named : IsColumn column Spells) where
  shifted_spelled : (f : F) (by : Option ℤ) (front behind : List Token) → Spells front f → SpellsMaybe behind by
      → SpellsOperandOn Spells (front ++ behind) (with_shift f by)
  shifted_spelled f None front behind h none = subst (λ l. Spells l f) (sym (ap (λ l. front ++ l) none ∙ append-nil front)) h
  shifted_spelled f (Some z) front behind h shifted = (front, behind, h, shifted, refl)

  abbrev IsFront : List Token → Operand F → List Token → Type 0
  IsFront ts o us = (front : List Token) × SpellsOperandOn Spells front o × (ts ≡ front ++ us)

  after_column : F → Phrase (Operand F)
  after_column f = shift >>= (λ by. say (with_shift f by))

  column_read : (ts : List Token) (o : Operand F) (us : List Token) → operand_behind column None ts ≡ Some (o, us) → IsFront ts o us
  unfolding after_column
  column_read ts o us e =
      let p = then_parts column after_column ts o us e in
      let q = then_parts shift (λ by. say (with_shift p.0 by)) p.1 o us p.3 in
      let r = said_same (with_shift p.0 q.0) o q.1 us q.3 in
      let c = named.exact.sound ts p.0 p.1 p.2 in
      let s = shift_read p.1 q.0 q.1 q.2 in
      let front = c.0 ++ s.0 in (
        front,
        subst (SpellsOperandOn Spells front) r.0 (shifted_spelled p.0 q.0 c.0 s.0 c.1 s.1),
        c.2 ∙ ap (λ l. c.0 ++ l) (s.2 ∙ ap (λ l. s.0 ++ l) r.1) ∙ sym (append_assoc c.0 s.0 us),
      )

  value_read : (ts ms : List Token) (v : Value) (o : Operand F) (us : List Token) → one literal_of ts ≡ Some (v, ms)
      → operand_behind column (Some v) ms ≡ Some (o, us) → IsFront ts o us
  value_read ts ms v o us h e =
      let r = said_same (kind_of.Literal v) o ms us e in
      let s = one_parts literal_of ts v ms h in
      let front = s.0 ∷ [] in
      (front, subst (SpellsOperandOn Spells front) r.0 (s.0, literal_read s.0 v s.2, refl), s.1 ∙ ap (λ l. s.0 ∷ l) r.1)

  operand_read : (ts : List Token) (o : Operand F) (us : List Token) → operand_on column ts ≡ Some (o, us) → IsFront ts o us
  unfolding operand_on
  operand_read ts o us e =
      let p = then_parts (maybe (one literal_of)) (operand_behind column) ts o us e in
      ⊎_elim
      (λ there. value_read ts p.1 there.0 o us there.1 (ap (λ f. operand_behind column f p.1) there.2 ∙ p.3))
      (λ not_there. column_read ts o us (ap (operand_behind column None) not_there.1 ∙ (ap (λ f. operand_behind column f p.1) not_there.0 ∙ p.3)))
      (maybe_parts (one literal_of) ts p.0 p.1 p.2)

  -- an operand, given the result of reading a literal
  by_literal : List Token → Option (Front Value) → Option (Front (Operand F))
  by_literal ts found =
      option_and_then (λ (r : Front (Option Value)). operand_behind column r.0 r.1)
      (option_or (option_and_then (λ (r : Front Value). say (Some r.0) r.1) found) (Some (None, ts)))

  operand_spelled : (front : List Token) (o : Operand F) (us : List Token) → SpellsOperandOn Spells front o → NoSign us
      → operand_on column (front ++ us) ≡ Some (o, us)
  unfolding operand_on by_literal after_column
  operand_spelled front (kind_of.Literal v) us h end =
      let pair : Value → Front Value = λ x. (x, us) in
      ap (λ l. operand_on column (l ++ us)) h.2 ∙ ap (λ o. by_literal (h.0 ∷ us) (option_map pair o)) (literal_spelled h.0 v h.1)
  operand_spelled front (kind_of.Column f) us h end =
      ap (by_literal (front ++ us)) (named.no_literal front f us h)
      ∙ ap (option_and_then (λ (r : Front F). after_column r.0 r.1)) (named.exact.complete front f us h tt)
      ∙ ap (option_and_then (λ (r : Front (Option ℤ)). say (with_shift f r.0) r.1)) end
  operand_spelled front (kind_of.Shifted f z) us h end =
      ap (λ l. operand_on column (l ++ us)) h.4 ∙ ap (operand_on column) (append_assoc h.0 h.1 us)
      ∙ ap (by_literal (h.0 ++ (h.1 ++ us))) (named.no_literal h.0 f (h.1 ++ us) h.2)
      ∙ ap (option_and_then (λ (r : Front F). after_column r.0 r.1)) (named.exact.complete h.0 f (h.1 ++ us) h.2 tt)
      ∙ ap (option_and_then (λ (r : Front (Option ℤ)). say (with_shift f r.0) r.1)) (shift_spelled h.1 z us h.3)

  say_test : F → Comparison → Operand F → Phrase (Atom F)
  say_test f c o = say (record { left = f; comparison = c; right = o })

  after_how : F → Comparison → Phrase (Atom F)
  after_how f c = operand_on column >>= say_test f c

  after_left : F → Phrase (Atom F)
  after_left f = comparison >>= after_how f

  test_read : (ts : List Token) (a : Atom F) (us : List Token) → test_on column ts ≡ Some (a, us)
      → (front : List Token) × SpellsTestOn Spells front a × (ts ≡ front ++ us)
  unfolding test_on after_left after_how say_test
  test_read ts a us e =
      let p = then_parts column after_left ts a us e in
      let q = then_parts comparison (after_how p.0) p.1 a us p.3 in
      let r = then_parts (operand_on column) (say_test p.0 q.0) q.1 a us q.3 in
      let read : Atom F = record { left = p.0; comparison = q.0; right = r.0 } in
      let s = said_same read a r.1 us r.3 in
      let c = named.exact.sound ts p.0 p.1 p.2 in
      let o = operand_read q.1 r.0 r.1 r.2 in
      let behind = Mark (comparison_symbol q.0) ∷ o.0 in (
        c.0 ++ behind,
        subst (SpellsTestOn Spells (c.0 ++ behind)) s.0 (c.0, o.0, c.1, o.1, refl),
        c.2
            ∙ ap (λ l. c.0 ++ l)
            (comparison_read p.1 q.0 q.1 q.2 ∙ ap (λ l. Mark (comparison_symbol q.0) ∷ l) (o.2 ∙ ap (λ l. o.0 ++ l) s.1))
            ∙ sym (append_assoc c.0 behind us),
      )

  test_spelled : (front : List Token) (a : Atom F) (us : List Token) → SpellsTestOn Spells front a → NoSign us → test_on column (front ++ us) ≡ Some (a, us)
  unfolding test_on after_left after_how say_test
  test_spelled front a us h end =
      let behind = Mark (comparison_symbol a.comparison) ∷ h.1 in
      ap (λ l. test_on column (l ++ us)) h.4 ∙ ap (test_on column) (append_assoc h.0 behind us)
      ∙ ap (option_and_then (λ (r : Front F). after_left r.0 r.1)) (named.exact.complete h.0 a.left (behind ++ us) h.2 tt)
      ∙ ap (option_and_then (λ (r : Front Comparison). after_how a.left r.0 r.1)) (comparison_spelled a.comparison (h.1 ++ us))
      ∙ ap (option_and_then (λ (r : Front (Operand F)). say_test a.left a.comparison r.0 r.1)) (operand_spelled h.1 a.right us h.3 end)

  asked_exact : IsExact (list_of (the_separator And) (test_on column)) (SpellsList (word keyword.And) (SpellsTestOn Spells))
      (λ us. NoSign us × (the_separator And us ≡ None))
  unfolding shift
  asked_exact =
      list_exact (the_separator And) (word keyword.And) (test_on column) (SpellsTestOn Spells) NoSign and_token
      (record { sound = test_read; complete = test_spelled }) (λ us. refl)

  pub tests_exact : IsExact (tests_on column) (SpellsTestsOn Spells) NoTest
  tests_exact =
      clause_exact keyword.Where (the_separator And) (word keyword.And) (test_on column) (SpellsTestOn Spells)
      (λ us. NoSign us × (the_separator And us ≡ None)) asked_exact (λ us. refl)

  tests_spelled : (front : List Token) (asked : List (Atom F)) → SpellsTestsOn Spells front asked → tests_on column front ≡ Some (asked, [])
  unfolding shift
  tests_spelled front asked h = ap (tests_on column) (sym (append-nil front)) ∙ tests_exact.complete front asked [] h ((refl, refl), refl)

-- ---- assignments

say_assignment : List ℕ → Operand (List ℕ) → Phrase (Assignment (List ℕ))
say_assignment n o = say (record { column = n; source = o })

after_equal : List ℕ → Phrase (Assignment (List ℕ))
after_equal n = operand_on name >>= say_assignment n

after_assigned : List ℕ → Phrase (Assignment (List ℕ))
after_assigned n = the_symbol symbol.Equal >> after_equal n

assignment_read : (ts : List Token) (a : Assignment (List ℕ)) (us : List Token) → assignment ts ≡ Some (a, us)
    → (front : List Token) × SpellsAssignment front a × (ts ≡ front ++ us)
unfolding assignment after_assigned after_equal say_assignment
assignment_read ts a us e =
    let p = then_parts name after_assigned ts a us e in
    let q = then_parts (the_symbol symbol.Equal) (λ u. after_equal p.0) p.1 a us p.3 in
    let r = then_parts (operand_on name) (say_assignment p.0) q.1 a us q.3 in
    let read : Assignment (List ℕ) = record { column = p.0; source = r.0 } in
    let s = said_same read a r.1 us r.3 in
    let n = name_read ts p.0 p.1 p.2 in
    let o = operand_read name SpellsName name_column q.1 r.0 r.1 r.2 in
    let front = Word p.0 ∷ Mark symbol.Equal ∷ o.0 in (
      front,
      subst (SpellsAssignment front) s.0 (o.0, n.1, o.1, refl),
      n.0 ∙ ap (λ l. Word p.0 ∷ l)
          (symbol_read symbol.Equal p.1 q.1 q.2 ∙ ap (λ l. Mark symbol.Equal ∷ l) (o.2 ∙ ap (λ l. o.0 ++ l) s.1)),
    )

assignment_spelled : (front : List Token) (a : Assignment (List ℕ)) (us : List Token) → SpellsAssignment front a → NoSign us
    → assignment (front ++ us) ≡ Some (a, us)
unfolding assignment after_assigned after_equal say_assignment
assignment_spelled front a us h end =
    ap (λ l. assignment (l ++ us)) h.3
    ∙ ap (option_and_then (λ (r : Front (List ℕ)). after_assigned r.0 r.1)) (name_spelled a.column (Mark symbol.Equal ∷ h.0 ++ us) h.1)
    ∙ ap (option_and_then (λ (r : Front (Operand (List ℕ))). say_assignment a.column r.0 r.1))
    (operand_spelled name SpellsName name_column h.0 a.source us h.2 end)

assignments_exact : IsExact (comma_list assignment) (SpellsList (Mark symbol.Comma) SpellsAssignment) (λ us. NoSign us × (the_symbol symbol.Comma us ≡ None))
unfolding shift
assignments_exact =
    list_exact (the_symbol symbol.Comma) (Mark symbol.Comma) assignment SpellsAssignment NoSign comma
    (record { sound = assignment_read; complete = assignment_spelled }) (λ us. refl)

-- A WHERE ends the assignments before it.
where_ends : (front : List Token) (asked : List (Atom (List ℕ))) → SpellsTestsOn SpellsName front asked → NoSign front × (the_symbol symbol.Comma front ≡ None)
unfolding shift
where_ends front [] h = subst (λ l. NoSign l × (the_symbol symbol.Comma l ≡ None)) (sym h) (refl, refl)
where_ends front (a ∷ others) h = subst (λ l. NoSign l × (the_symbol symbol.Comma l ≡ None)) (sym h.2) (refl, refl)

-- ---- DELETE

say_delete : List ℕ → List (Atom (List ℕ)) → Phrase Command
say_delete t asked = say (command.Change (change.Delete t asked))

asked_in : List ℕ → Phrase Command
asked_in t = tests_on name >>= say_delete t

pub delete_read : (ts : List Token) (c : Command) → delete ts ≡ Some (c, []) → SpellsCommand (word keyword.Delete ∷ ts) c
unfolding delete asked_in say_delete
delete_read ts c e =
    let p = then_parts name asked_in ts c [] e in
    let q = then_parts (tests_on name) (say_delete p.0) p.1 c [] p.3 in
    let r = said_same (command.Change (change.Delete p.0 q.0)) c q.1 [] q.3 in
    let n = name_read ts p.0 p.1 p.2 in
    let s = (tests_exact name SpellsName name_column).sound p.1 q.0 q.1 q.2 in
    let all : p.1 ≡ s.0 = s.2 ∙ ap (λ l. s.0 ++ l) r.1 ∙ append-nil s.0 in
    subst (SpellsCommand (word keyword.Delete ∷ ts)) r.0
    (s.0, n.1, s.1, ap (λ l. word keyword.Delete ∷ l) (n.0 ∙ ap (λ l. Word p.0 ∷ l) all))

pub delete_spelled : (t : List ℕ) (asked : List (Atom (List ℕ))) (front : List Token) → IsName t → SpellsTestsOn SpellsName front asked
    → delete (Word t ∷ front) ≡ Some (command.Change (change.Delete t asked), [])
unfolding delete asked_in say_delete
delete_spelled t asked front named h =
    ap (option_and_then (λ (r : Front (List ℕ)). asked_in r.0 r.1)) (name_spelled t front named)
    ∙ ap (option_and_then (λ (r : Front (List (Atom (List ℕ)))). say_delete t r.0 r.1))
    (tests_spelled name SpellsName name_column front asked h)

-- ---- UPDATE

abbrev Assignments : Type 0
Assignments = List (Assignment (List ℕ))

say_update : List ℕ → Assignments → List (Atom (List ℕ)) → Phrase Command
say_update t set asked = say (command.Change (change.Update t set asked))

after_assignments : List ℕ → Assignments → Phrase Command
after_assignments t set = tests_on name >>= say_update t set

after_set : List ℕ → Phrase Command
after_set t = comma_list assignment >>= after_assignments t

after_updated : List ℕ → Phrase Command
after_updated t = the_keyword keyword.Set >> after_set t

pub update_read : (ts : List Token) (c : Command) → update ts ≡ Some (c, []) → SpellsCommand (word keyword.Update ∷ ts) c
unfolding update after_updated after_set after_assignments say_update
update_read ts c e =
    let p = then_parts name after_updated ts c [] e in
    let q = then_parts (the_keyword keyword.Set) (λ u. after_set p.0) p.1 c [] p.3 in
    let r = then_parts (comma_list assignment) (after_assignments p.0) q.1 c [] q.3 in
    let s = then_parts (tests_on name) (say_update p.0 r.0) r.1 c [] r.3 in
    let u = said_same (command.Change (change.Update p.0 r.0 s.0)) c s.1 [] s.3 in
    let n = name_read ts p.0 p.1 p.2 in
    let set = assignments_exact.sound q.1 r.0 r.1 r.2 in
    let asked = (tests_exact name SpellsName name_column).sound r.1 s.0 s.1 s.2 in
    let last : r.1 ≡ asked.0 = asked.2 ∙ ap (λ l. asked.0 ++ l) u.1 ∙ append-nil asked.0 in
    let all : p.1 ≡ word keyword.Set ∷ set.0 ++ asked.0 =
    keyword_read keyword.Set p.1 q.1 q.2 ∙ ap (λ l. word keyword.Set ∷ l) (set.2 ∙ ap (λ l. set.0 ++ l) last) in
    subst (SpellsCommand (word keyword.Update ∷ ts)) u.0
    (set.0, asked.0, n.1, set.1, asked.1, ap (λ l. word keyword.Update ∷ l) (n.0 ∙ ap (λ l. Word p.0 ∷ l) all))

pub update_spelled : (t : List ℕ) (set : Assignments) (asked : List (Atom (List ℕ))) (front behind : List Token) → IsName t
    → SpellsList (Mark symbol.Comma) SpellsAssignment front set → SpellsTestsOn SpellsName behind asked
    → update (Word t ∷ word keyword.Set ∷ front ++ behind) ≡ Some (command.Change (change.Update t set asked), [])
unfolding update after_updated after_set after_assignments say_update
update_spelled t set asked front behind named h k =
    ap (option_and_then (λ (r : Front (List ℕ)). after_updated r.0 r.1)) (name_spelled t (word keyword.Set ∷ front ++ behind) named)
    ∙ ap (option_and_then (λ (r : Front Assignments). after_assignments t r.0 r.1)) (assignments_exact.complete front set behind h (where_ends behind asked k))
    ∙ ap (option_and_then (λ (r : Front (List (Atom (List ℕ)))). say_update t set r.0 r.1))
    (tests_spelled name SpellsName name_column behind asked k)
