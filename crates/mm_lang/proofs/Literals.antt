-- The literal that a token denotes, and the result of reading its bytes.
use Rattle.std.proofs.Common.{◌≡◌, ◌<◌, ◌⊎◌, inl, inr, ⊎_elim, ℕ, Bool, true, false, cond, List, [], ◌∷◌, ◌++◌, Option, Some, None, Result, Ok, Err, length}
use Rattle.std.proofs.Common.{Bor, MatchResult, refl, sym, ap, ◌∙◌, subst, arith}
use Rattle.std.specs.Prelude.{pos, ℤ, IsErrOf, FitsSigned, ◌↔◌}
use Rattle.std.specs.Option.{option_map, option_or}
use Rattle.std.specs.Int.{w64}
use Rattle.std.specs.Str.Parse.{digits_value}
use Rattle.std.proofs.Math.IntN.{neg_ℤ}
use Rattle.std.proofs.lemmas.Bool.{cases_Bool, false≢true, leb-false}
use Rattle.mm_value.specs.declared.refusal.Refusal.{Refusal}
use Rattle.mm_value.specs.declared.refusal.Refusal.TheVariants.{Syntax, NumberOutOfRange, TextTooLong, Memory}
use Rattle.mm_value.specs.declared.values.Value.{Value}
use Rattle.mm_value.specs.declared.values.Value.TheVariants.{Int, Text}
use Rattle.mm_value.specs.Literal.{is_numeral, is_within_limit, IsNumeral, SpellsInt, SpellsText, Spells, IsWithinLimit, doubled}
use Rattle.mm_value.proofs.Limits.{int_within}
use Rattle.mm_value.proofs.Spelling.{minus_no_digits, minus_no_text}
use Rattle.mm_lang.specs.declared.read.token.Token.{Token as Shown}
use Rattle.mm_lang.specs.declared.read.token.Token.TheVariants as shown
use Rattle.mm_lang.specs.declared.read.reader.Reader.{Reader}
use Rattle.mm_lang.specs.Grammar.{literal_of}
use Rattle.mm_lang.specs.Phrases.{one}
use Rattle.mm_lang.specs.Reading.{checked, unless, literal_fault, past_limit}
use Rattle.mm_lang.specs.steps.Parsing.{AnswersOrMemory, Gives, is_limit, only_literal}
use Rattle.mm_lang.specs.steps.Parts.{Front}
use Rattle.mm_lang.specs.steps.Splitting.{Shows, Splits}
use Rattle.mm_lang.specs.Tokens.{Token, Word, Signed, Quoted, is_word_byte, begins_word, tokens}

-- the contract of reading a literal
pub record Reads (bytes : List ℕ) (r : Result Value Refusal) : Type 0 where
  pub found : (value : Value) → Spells bytes value → IsWithinLimit value → MatchResult r (λ v. v ≡ value) (λ e. e ≡ Memory)
  pub syntax : ((value : Value) → Spells bytes value → ⊥) → r ≡ Err Syntax
  pub range : (z : ℤ) × SpellsInt bytes z × ¬ FitsSigned w64 z → r ≡ Err NumberOutOfRange
  pub too_long : (text : List ℕ) × SpellsText bytes text × (64 < length text) → r ≡ Err TextTooLong

answers_err : (o : Option Value) (r : Result Value Refusal) (e : Refusal) → r ≡ Err e → checked literal_fault o ≡ Err e
    → AnswersOrMemory (checked literal_fault o) r
answers_err o r e is due = subst (AnswersOrMemory (checked literal_fault o)) (sym is) (inl due)

answers_found : (v : Value) (r : Result Value Refusal) → literal_fault v ≡ None → MatchResult r (λ w. w ≡ v) (λ e. e ≡ Memory)
    → AnswersOrMemory (checked literal_fault (Some v)) r
answers_found v (Ok w) none h = ap (unless v) none ∙ ap Ok (sym h)
answers_found v (Err e) none h = inr h

pub within_none : (v : Value) → is_within_limit v ≡ true → literal_fault v ≡ None
within_none v h = ap (λ b. cond b None (Some (past_limit v))) h

past_some : (v : Value) → is_within_limit v ≡ false → literal_fault v ≡ Some (past_limit v)
past_some v h = ap (λ b. cond b None (Some (past_limit v))) h

-- bytes that spell a value past its limit
past_answers : (bytes : List ℕ) (r : Result Value Refusal) (v : Value) → Reads bytes r → Spells bytes v → is_within_limit v ≡ false → r ≡ Err (past_limit v)
past_answers bytes r (Int z) reads spells past = reads.range (z, spells, λ fits. false≢true (sym past ∙ int_within z fits))
past_answers bytes r (Text text) reads spells past = reads.too_long (text, spells, leb-false (length text) 64 past)

-- bytes that spell a value
pub spelled_answers : (bytes : List ℕ) (r : Result Value Refusal) (v : Value) → Reads bytes r → Spells bytes v
    → AnswersOrMemory (checked literal_fault (Some v)) r
spelled_answers bytes r v reads spells =
    ⊎_elim
    (λ within. answers_found v r (within_none v within) (reads.found v spells within))
    (λ past. answers_err (Some v) r (past_limit v) (past_answers bytes r v reads spells past) (ap (unless v) (past_some v past)))
    (cases_Bool (is_within_limit v))

-- bytes that spell no value
pub none_answers : (bytes : List ℕ) (r : Result Value Refusal) → Reads bytes r → ((v : Value) → Spells bytes v → ⊥)
    → AnswersOrMemory (checked literal_fault None) r
none_answers bytes r reads none = answers_err None r Syntax (reads.syntax none) refl

no_numeral : (word : List ℕ) → is_numeral word ≡ false → IsNumeral word → ⊥
no_numeral word bad h = false≢true (sym bad ∙ h)

-- a word begins with neither a minus nor a quote
word_front : (word : List ℕ) (b : ℕ) (bs : List ℕ) → begins_word word ≡ true → word ≡ b ∷ bs → is_word_byte b ≡ false → ⊥
word_front word b bs begins is other = false≢true (sym other ∙ ap begins_word (sym is) ∙ begins)

word_spells_none : (word : List ℕ) → begins_word word ≡ true → (IsNumeral word → ⊥) → (v : Value) → Spells word v → ⊥
word_spells_none word begins bad (Int z) (inl h) = bad h.0
word_spells_none word begins bad (Int z) (inr h) = word_front word 45 h.0 begins h.1 refl
word_spells_none word begins bad (Text text) h = word_front word 39 (doubled text ++ 39 ∷ []) begins h.0 refl

signed_spells_none : (bytes word : List ℕ) → bytes ≡ 45 ∷ word → (IsNumeral word → ⊥) → (v : Value) → Spells bytes v → ⊥
signed_spells_none bytes word is bad (Int z) (inl h) = minus_no_digits bytes word is h.0
signed_spells_none bytes word is bad (Int z) (inr h) = let same : h.0 ≡ word = cc (is, h.1) in bad (subst IsNumeral same h.2)
signed_spells_none bytes word is bad (Text text) h = minus_no_text bytes word text is h

module _ (bytes : List ℕ) (r : Result Value Refusal) (reads : Reads bytes r) where
  pub word_answers : (t : Token) → (t ≡ Word bytes) × (begins_word bytes ≡ true) → AnswersOrMemory (checked literal_fault (literal_of t)) r
  word_answers t shows =
      subst (λ u. AnswersOrMemory (checked literal_fault (literal_of u)) r) (sym shows.0)
      (⊎_elim
      (λ good.
      subst (λ b. AnswersOrMemory (checked literal_fault (cond b (Some (Int (pos (digits_value 10 bytes)))) None)) r) (sym good)
      (spelled_answers bytes r (Int (pos (digits_value 10 bytes))) reads (inl (good, refl))))
      (λ bad.
      subst (λ b. AnswersOrMemory (checked literal_fault (cond b (Some (Int (pos (digits_value 10 bytes)))) None)) r) (sym bad)
      (none_answers bytes r reads (word_spells_none bytes shows.1 (no_numeral bytes bad))))
      (cases_Bool (is_numeral bytes)))

  pub signed_answers : (t : Token) → (word : List ℕ) × (bytes ≡ 45 ∷ word) × (t ≡ Signed word) → AnswersOrMemory (checked literal_fault (literal_of t)) r
  signed_answers t shows =
      let word = shows.0 in
      subst (λ u. AnswersOrMemory (checked literal_fault (literal_of u)) r) (sym shows.2)
      (⊎_elim
      (λ good.
      subst (λ b. AnswersOrMemory (checked literal_fault (cond b (Some (Int (neg_ℤ (pos (digits_value 10 word))))) None)) r) (sym good)
      (spelled_answers bytes r (Int (neg_ℤ (pos (digits_value 10 word)))) reads (inr (word, shows.1, good, refl))))
      (λ bad.
      subst (λ b. AnswersOrMemory (checked literal_fault (cond b (Some (Int (neg_ℤ (pos (digits_value 10 word))))) None)) r) (sym bad)
      (none_answers bytes r reads (signed_spells_none bytes word shows.1 (no_numeral word bad))))
      (cases_Bool (is_numeral word)))

  pub quoted_answers : (t : Token) → (text : List ℕ) × SpellsText bytes text × (t ≡ Quoted text) → AnswersOrMemory (checked literal_fault (literal_of t)) r
  quoted_answers t shows =
      subst (λ u. AnswersOrMemory (checked literal_fault (literal_of u)) r) (sym shows.2)
      (spelled_answers bytes r (Text shows.0) reads shows.1)

pub reads_from : {bytes : List ℕ} {r : Result Value Refusal}
    → ((value : Value) → Spells bytes value → IsWithinLimit value → MatchResult r (λ v. v ≡ value) (λ e. e ≡ Memory))
    → (IsErrOf r Syntax ↔ ((value : Value) → Spells bytes value → ⊥))
    → (IsErrOf r NumberOutOfRange ↔ ((z : ℤ) × SpellsInt bytes z × ¬ FitsSigned w64 z))
    → (IsErrOf r TextTooLong ↔ ((text : List ℕ) × SpellsText bytes text × (64 < length text))) → Reads bytes r
reads_from found syntax range too_long = record { found = found; syntax = syntax.1; range = range.1; too_long = too_long.1 }

-- a token with bytes
pub token_answers : (token : Shown) (bytes : Bor (List ℕ)) (r : Result Value Refusal)
    → (token ≡ shown.Word bytes) ⊎ ((token ≡ shown.Signed bytes) ⊎ (token ≡ shown.Quoted bytes)) → Reads bytes.now r
    → (t : Token) → Shows token t → AnswersOrMemory (checked literal_fault (literal_of t)) r
token_answers token bytes r (inl is) reads t shows = word_answers bytes.now r reads t (subst (λ u. Shows u t) is shows)
token_answers token bytes r (inr (inl is)) reads t shows = signed_answers bytes.now r reads t (subst (λ u. Shows u t) is shows)
token_answers token bytes r (inr (inr is)) reads t shows = quoted_answers bytes.now r reads t (subst (λ u. Shows u t) is shows)

front : List ℕ → Value → Front Value
front rest v = (v, tokens rest)

-- A literal past its limit is recorded, and other refusals end the reading.

limit_of_past : (v : Value) → is_limit (past_limit v) ≡ true
limit_of_past (Int z) = refl
limit_of_past (Text text) = refl

fault_by : (v : Value) (b : Bool) → is_within_limit v ≡ b → (e : Refusal) → unless v (cond b None (Some (past_limit v))) ≡ Err e
    → (literal_fault v ≡ Some e) × (is_limit e ≡ true)
fault_by v true is e h = absurd (cc)
fault_by v false is e h = let same : past_limit v ≡ e = cc in (past_some v is ∙ ap Some same, subst (λ r. is_limit r ≡ true) same (limit_of_past v))

faulty : (o : Option Value) (e : Refusal) → checked literal_fault o ≡ Err e
    → ((o ≡ None) × (e ≡ Syntax)) ⊎ ((v : Value) × (o ≡ Some v) × (literal_fault v ≡ Some e) × (is_limit e ≡ true))
faulty None e h = inl (refl, cc)
faulty (Some v) e h = let p = fault_by v (is_within_limit v) refl e h in inr (v, refl, p.0, p.1)

module _ (old : Reader) (token : Shown) (rest : List ℕ) (e : Refusal) (s : Splits (tokens old.rest) (length old.rest) token rest)
    (answers : AnswersOrMemory (checked literal_fault (literal_of s.first)) (Err e)) where
  pub literal_past : is_limit e ≡ true → (placeholder : Value) (fault : Option Refusal) → fault ≡ option_or old.fault (Some e)
      → Gives (one literal_of) only_literal old (record old { rest = rest; fault = fault }) placeholder
  unfolding front
  literal_past limit placeholder fault noted =
      ⊎_elim (λ h. by (faulty (literal_of s.first) e h)) (λ h. absurd (false≢true (ap is_limit (sym h) ∙ limit))) answers
    where
      by : ((literal_of s.first ≡ None) × (e ≡ Syntax)) ⊎ ((v : Value) × (literal_of s.first ≡ Some v) × (literal_fault v ≡ Some e) × (is_limit e ≡ true))
          → Gives (one literal_of) only_literal old (record old { rest = rest; fault = fault }) placeholder
      by (inl h) = absurd (false≢true (ap is_limit (sym h.1) ∙ limit))
      by (inr h) = record {
        said = h.0;
        read = ap (one literal_of) s.in_front ∙ ap (option_map (front rest)) h.1;
        fault = noted ∙ ap (λ f. option_or old.fault (option_or f None)) (sym h.2);
        same = λ none. absurd (cc (h.2, none));
        shorter = omega (arith, s.shorter);
      }
