-- Commands read with holes and with literals in their place differ only in their literals.
use Rattle.std.proofs.Common.{◌≡◌, ◌⊎◌, inr, ℕ, Bool, true, false, cond, List, [], ◌∷◌, Option, Some, None, refl, sym, ap, ◌∙◌}
use Rattle.std.specs.Prelude.{ℤ}
use Rattle.std.specs.Option.{option_map, option_and_then, option_or}
use Rattle.std.proofs.lemmas.Option.{none-some}
use Rattle.mm_value.specs.Literal.{IsNumeral, is_numeral}
use Rattle.mm_value.specs.Reading.{signed_value}
use Rattle.mm_value.specs.declared.values.Value.{Value}
use Rattle.mm_value.specs.declared.values.Value.TheVariants.{Int, Text}
use Rattle.mm_query.specs.declared.atom.Atom.{Atom}
use Rattle.mm_query.specs.declared.atom.Comparison.{Comparison}
use Rattle.mm_query.specs.declared.atom.Operand.{Operand}
use Rattle.mm_query.specs.declared.atom.Operand.TheVariants as operand
use Rattle.mm_lang.specs.Grammar.{comparison, literal_of, numbered, operand_behind, operand_on, shift, test_on, with_shift}
use Rattle.mm_lang.specs.Phrases.{Phrase, ◌>>=◌, maybe, one, say}
use Rattle.mm_lang.specs.Tokens.{Token, Word, Signed, Quoted, Mark, Hole, Unreadable}
use Rattle.mm_lang.specs.declared.read.token.Symbol.{Symbol}
use Rattle.mm_lang.specs.declared.read.token.Symbol.TheVariants.{Minus, Plus}
use Rattle.mm_lang.specs.steps.Parts.{Front, tested}
use Rattle.mm_lang.proofs.SpelledWords.{literal_spelled}
use Rattle.mm_statement.specs.Filling.{blank_atom, blank_operand, blank_value}
use Rattle.mm_statement.specs.Texts.{IsText, behind, with_texts}
use Rattle.mm_statement.specs.steps.Fills.{blank_number}
use Rattle.mm_statement.proofs.TextPhrases.{IsHoled, Left, ReadAlike, ReadsSame, StopsAtHole, comparison_same, same_alike, say_alike, say_stops}
use Rattle.mm_statement.proofs.TextPhrases.{settled, then_alike}
use Rattle.mm_statement.proofs.TextTokens.{AreReadable, text_spelled}

-- ---- literals

literal_there : (t : Token) (v : Value) (us : List Token) → literal_of t ≡ Some v → maybe (one literal_of) (t ∷ us) ≡ Some (Some v, us)
literal_there t v us is =
    ap (λ (o : Option Value). option_or (option_and_then (λ (r : Front Value). say (Some r.0) r.1) (option_map (λ x. (x, us)) o)) (Some (None, t ∷ us))) is

no_literal_there : (t : Token) (us : List Token) → literal_of t ≡ None → maybe (one literal_of) (t ∷ us) ≡ Some (None, t ∷ us)
no_literal_there t us is =
    ap (λ (o : Option Value). option_or (option_and_then (λ (r : Front Value). say (Some r.0) r.1) (option_map (λ x. (x, us)) o)) (Some (None, t ∷ us))) is

sign_there : (s o : Symbol) (t : Token) (us : List Token) → maybe (one literal_of) (behind s o t us) ≡ Some (None, behind s o t us)
sign_there s o (Signed w) us = refl
sign_there s o t us = refl

-- Both sides begin with the same token.
same_token : (t : Token) (ts texts : List Token) → AreReadable texts → with_texts (t ∷ ts) texts ≡ t ∷ with_texts ts texts → (o : Option Value)
    → literal_of t ≡ o → (x y : Option Value) (us ws : List Token) → maybe (one literal_of) (t ∷ ts) ≡ Some (x, us)
    → maybe (one literal_of) (with_texts (t ∷ ts) texts) ≡ Some (y, ws) → ((option_map blank_value y ≡ option_map blank_value x) × Left us ws) ⊎ IsHoled us
same_token t ts texts r same None is x y us ws e f =
    settled (maybe (one literal_of)) (maybe (one literal_of)) (option_map blank_value) (t ∷ ts) (with_texts (t ∷ ts) texts) None None (t ∷ ts)
    (t ∷ with_texts ts texts) refl (record { texts = texts; readable = r; split = sym same }) (no_literal_there t ts is)
    (ap (maybe (one literal_of)) same ∙ no_literal_there t (with_texts ts texts) is) x y us ws e f
same_token t ts texts r same (Some v) is x y us ws e f =
    settled (maybe (one literal_of)) (maybe (one literal_of)) (option_map blank_value) (t ∷ ts) (with_texts (t ∷ ts) texts) (Some v) (Some v) ts
    (with_texts ts texts) refl (record { texts = texts; readable = r; split = refl }) (literal_there t v ts is)
    (ap (maybe (one literal_of)) same ∙ literal_there t v (with_texts ts texts) is) x y us ws e f

-- The next token is a literal, or not.
pub literal_alike : ReadAlike (maybe (one literal_of)) (maybe (one literal_of)) (option_map blank_value)
literal_alike [] texts x y us ws r e f =
    settled (maybe (one literal_of)) (maybe (one literal_of)) (option_map blank_value) [] [] None None [] [] refl
    (record { texts = texts; readable = r; split = refl }) refl refl x y us ws e f
literal_alike (Mark Plus ∷ Hole ∷ ts) (t ∷ texts) x y us ws r e f =
    let all = behind Plus Minus t (with_texts ts texts) in
    settled (maybe (one literal_of)) (maybe (one literal_of)) (option_map blank_value) (Mark Plus ∷ Hole ∷ ts) all None None (Mark Plus ∷ Hole ∷ ts) all refl
    (record { texts = t ∷ texts; readable = r; split = refl }) refl (sign_there Plus Minus t (with_texts ts texts)) x y us ws e f
literal_alike (Mark Minus ∷ Hole ∷ ts) (t ∷ texts) x y us ws r e f =
    let all = behind Minus Plus t (with_texts ts texts) in
    settled (maybe (one literal_of)) (maybe (one literal_of)) (option_map blank_value) (Mark Minus ∷ Hole ∷ ts) all None None (Mark Minus ∷ Hole ∷ ts) all refl
    (record { texts = t ∷ texts; readable = r; split = refl }) refl (sign_there Minus Plus t (with_texts ts texts)) x y us ws e f
literal_alike (Hole ∷ ts) (t ∷ texts) x y us ws r e f =
    settled (maybe (one literal_of)) (maybe (one literal_of)) (option_map blank_value) (Hole ∷ ts) (t ∷ with_texts ts texts) (Some (Int (ℤ.pos 0)))
    (Some r.0.0) ts (with_texts ts texts) refl (record { texts = texts; readable = r.1; split = refl }) refl
    (literal_there t r.0.0 (with_texts ts texts) (literal_spelled t r.0.0 (text_spelled t r.0.0 r.0.1))) x y us ws e f
literal_alike (t ∷ ts) texts x y us ws r e f = same_token t ts texts r refl (literal_of t) refl x y us ws e f

-- ---- shifts

number_read : (is_negative : Bool) (w : List ℕ) (us : List Token) → IsNumeral w → numbered is_negative w us ≡ Some (Some (signed_value is_negative w), us)
number_read is_negative w us numeral =
    let read : Front (Option ℤ) = (Some (signed_value is_negative w), us) in
    ap (λ b. cond b (Some read) None) numeral

numbered_numeral : (is_negative : Bool) (w : List ℕ) (ts : List Token) (o : Option ℤ) (us : List Token) → numbered is_negative w ts ≡ Some (o, us) → IsNumeral w
numbered_numeral is_negative w ts o us e =
    let answer : Front (Option ℤ) = (o, us) in
    let read : Front (Option ℤ) = (Some (signed_value is_negative w), ts) in
    (tested (is_numeral w) (Some read) answer e).0

word_numeral : (w : List ℕ) (v : Value) → IsText (Word w) v → IsNumeral w
word_numeral w (Int z) h = h.0
word_numeral w (Text text) h = absurd h

signed_numeral : (w : List ℕ) (v : Value) → IsText (Signed w) v → IsNumeral w
signed_numeral w (Int z) h = h.0
signed_numeral w (Text text) h = absurd h

-- A shift on both sides.
abbrev ShiftsAlike : List Token → List Token → Type 0
ShiftsAlike ts vs =
    (x y : Option ℤ) (us ws : List Token) → shift ts ≡ Some (x, us) → shift vs ≡ Some (y, ws)
    → ((option_map blank_number y ≡ option_map blank_number x) × Left us ws) ⊎ IsHoled us

shift_there : (ts vs : List Token) (x y : ℤ) (us texts : List Token) → AreReadable texts → shift ts ≡ Some (Some x, us)
    → shift vs ≡ Some (Some y, with_texts us texts) → ShiftsAlike ts vs
shift_there ts vs x y us texts r here there =
    settled shift shift (option_map blank_number) ts vs (Some x) (Some y) us (with_texts us texts) refl
    (record { texts = texts; readable = r; split = refl }) here there

plus_hole_alike : (ts : List Token) (t : Token) (texts : List Token) → AreReadable (t ∷ texts)
    → ShiftsAlike (Mark Plus ∷ Hole ∷ ts) (with_texts (Mark Plus ∷ Hole ∷ ts) (t ∷ texts))
unfolding shift
plus_hole_alike ts (Word w) texts r =
    shift_there (Mark Plus ∷ Hole ∷ ts) (Mark Plus ∷ Word w ∷ with_texts ts texts) _ _ ts texts r.1 refl
    (number_read false w (with_texts ts texts) (word_numeral w r.0.0 r.0.1))
plus_hole_alike ts (Signed w) texts r =
    shift_there (Mark Plus ∷ Hole ∷ ts) (Mark Minus ∷ Word w ∷ with_texts ts texts) _ _ ts texts r.1 refl
    (number_read true w (with_texts ts texts) (signed_numeral w r.0.0 r.0.1))
plus_hole_alike ts (Quoted text) texts r = λ x y us ws e f. let answer : Front (Option ℤ) = (y, ws) in absurd (none-some answer f)
plus_hole_alike ts (Mark s) texts r = absurd r.0.1
plus_hole_alike ts Hole texts r = absurd r.0.1
plus_hole_alike ts Unreadable texts r = absurd r.0.1

minus_hole_alike : (ts : List Token) (t : Token) (texts : List Token) → AreReadable (t ∷ texts)
    → ShiftsAlike (Mark Minus ∷ Hole ∷ ts) (with_texts (Mark Minus ∷ Hole ∷ ts) (t ∷ texts))
unfolding shift
minus_hole_alike ts (Word w) texts r =
    shift_there (Mark Minus ∷ Hole ∷ ts) (Mark Minus ∷ Word w ∷ with_texts ts texts) _ _ ts texts r.1 refl
    (number_read true w (with_texts ts texts) (word_numeral w r.0.0 r.0.1))
minus_hole_alike ts (Signed w) texts r =
    shift_there (Mark Minus ∷ Hole ∷ ts) (Mark Plus ∷ Word w ∷ with_texts ts texts) _ _ ts texts r.1 refl
    (number_read false w (with_texts ts texts) (signed_numeral w r.0.0 r.0.1))
minus_hole_alike ts (Quoted text) texts r = λ x y us ws e f. let answer : Front (Option ℤ) = (y, ws) in absurd (none-some answer f)
minus_hole_alike ts (Mark s) texts r = absurd r.0.1
minus_hole_alike ts Hole texts r = absurd r.0.1
minus_hole_alike ts Unreadable texts r = absurd r.0.1

shift_alike : ReadAlike shift shift (option_map blank_number)
unfolding shift
shift_alike (Mark Plus ∷ Hole ∷ ts) (t ∷ texts) x y us ws r e f = plus_hole_alike ts t texts r x y us ws e f
shift_alike (Mark Minus ∷ Hole ∷ ts) (t ∷ texts) x y us ws r e f = minus_hole_alike ts t texts r x y us ws e f
shift_alike (Mark Plus ∷ Hole ∷ ts) [] x y us ws r e f =
    shift_there (Mark Plus ∷ Hole ∷ ts) (Mark Plus ∷ Hole ∷ with_texts ts []) _ _ ts [] r refl refl x y us ws e f
shift_alike (Mark Minus ∷ Hole ∷ ts) [] x y us ws r e f =
    shift_there (Mark Minus ∷ Hole ∷ ts) (Mark Minus ∷ Hole ∷ with_texts ts []) _ _ ts [] r refl refl x y us ws e f
shift_alike (Mark Plus ∷ Word w ∷ ts) texts x y us ws r e f =
    let numeral = numbered_numeral false w ts x us e in
    shift_there (Mark Plus ∷ Word w ∷ ts) (Mark Plus ∷ Word w ∷ with_texts ts texts) _ _ ts texts r (number_read false w ts numeral)
    (number_read false w (with_texts ts texts) numeral) x y us ws e f
shift_alike (Mark Minus ∷ Word w ∷ ts) texts x y us ws r e f =
    let numeral = numbered_numeral true w ts x us e in
    shift_there (Mark Minus ∷ Word w ∷ ts) (Mark Minus ∷ Word w ∷ with_texts ts texts) _ _ ts texts r (number_read true w ts numeral)
    (number_read true w (with_texts ts texts) numeral) x y us ws e f
shift_alike (Mark Plus ∷ ts) texts x y us ws r e f = let answer : Front (Option ℤ) = (x, us) in absurd (none-some answer e)
shift_alike (Mark Minus ∷ ts) texts x y us ws r e f = let answer : Front (Option ℤ) = (x, us) in absurd (none-some answer e)
shift_alike (Signed w ∷ ts) texts x y us ws r e f =
    let numeral = numbered_numeral true w ts x us e in
    shift_there (Signed w ∷ ts) (Signed w ∷ with_texts ts texts) _ _ ts texts r (number_read true w ts numeral)
    (number_read true w (with_texts ts texts) numeral) x y us ws e f
shift_alike (Hole ∷ ts) texts x y us ws r e f = inr (say_stops None ts x us e)
shift_alike ts texts x y us ws r e f =
    settled shift shift (option_map blank_number) ts (with_texts ts texts) None None ts (with_texts ts texts) refl
    (record { texts = texts; readable = r; split = refl }) refl refl x y us ws e f

-- ---- operands and tests

with_shift_alike : {F : Type 0} (f : F) (x y : Option ℤ) → option_map blank_number y ≡ option_map blank_number x
    → blank_operand (with_shift f y) ≡ blank_operand (with_shift f x)
with_shift_alike f None None h = refl
with_shift_alike f (Some x) (Some y) h = refl
with_shift_alike f None (Some y) h = absurd (cc)
with_shift_alike f (Some x) None h = absurd (cc)

module _ {F : Type 0} (column : Phrase F) (same : ReadsSame column) (ends : (ts : List Token) → column (Hole ∷ ts) ≡ None) where
  -- a shift after a column
  shifted : F → Phrase (Operand F)
  shifted f = shift >>= (λ by. say (with_shift f by))

  shifted_alike : (f : F) → ReadAlike (shifted f) (shifted f) blank_operand
  unfolding shifted
  shifted_alike f =
      then_alike shift shift (λ by. say (with_shift f by)) (λ by. say (with_shift f by)) (option_map blank_number) blank_operand
      (λ by. say_stops (with_shift f by)) shift_alike
      (λ x y h. say_alike blank_operand (with_shift f x) (with_shift f y) (with_shift_alike f x y h))

  behind_stops : (o : Option Value) → StopsAtHole (operand_behind column o)
  unfolding shifted
  behind_stops (Some v) = say_stops (operand.Literal v)
  behind_stops None = λ ts x us e.
      let answer : Front (Operand F) = (x, us) in
      absurd (none-some answer (sym (ap (option_and_then (λ (r : Front F). shifted r.0 r.1)) (ends ts)) ∙ e))

  behind_alike : (o p : Option Value) → option_map blank_value p ≡ option_map blank_value o
      → ReadAlike (operand_behind column o) (operand_behind column p) blank_operand
  unfolding shifted
  behind_alike (Some v) (Some w) h = say_alike blank_operand (operand.Literal v) (operand.Literal w) refl
  behind_alike None None h = same_alike column shifted shifted blank_operand same shifted_alike
  behind_alike (Some v) None h = absurd (cc)
  behind_alike None (Some w) h = absurd (cc)

  pub operand_alike : ReadAlike (operand_on column) (operand_on column) blank_operand
  unfolding operand_on
  operand_alike =
      then_alike (maybe (one literal_of)) (maybe (one literal_of)) (operand_behind column) (operand_behind column) (option_map blank_value) blank_operand
      behind_stops literal_alike behind_alike

  -- a test, made of its parts
  say_test : F → Comparison → Operand F → Phrase (Atom F)
  say_test f c o = say (record { left = f; comparison = c; right = o })

  compared : F → Comparison → Phrase (Atom F)
  compared f c = operand_on column >>= say_test f c

  after_left : F → Phrase (Atom F)
  after_left f = comparison >>= compared f

  compared_alike : (f : F) (c : Comparison) → ReadAlike (compared f c) (compared f c) blank_atom
  unfolding compared say_test
  compared_alike f c =
      then_alike (operand_on column) (operand_on column) (say_test f c) (say_test f c) blank_operand blank_atom
      (λ o. say_stops (record { left = f; comparison = c; right = o })) operand_alike
      (λ x y h. say_alike blank_atom (record { left = f; comparison = c; right = x }) (record { left = f; comparison = c; right = y })
      (λ i. record { left = f; comparison = c; right = h i }))

  pub test_alike : ReadAlike (test_on column) (test_on column) blank_atom
  unfolding test_on after_left compared say_test
  test_alike =
      same_alike column after_left after_left blank_atom same
      (λ f. same_alike comparison (compared f) (compared f) blank_atom comparison_same (compared_alike f))
