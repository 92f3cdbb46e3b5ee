-- The effect of literals in place of holes on tokens.
use Rattle.std.proofs.Common.{◌≡◌, ℕ, zero, suc, Bool, true, false, cond, List, [], ◌∷◌, Some, None, pos, negsuc, neg_ℤ, refl, sym, ap, ◌∙◌}
use Rattle.std.specs.List.{AllByRecursion, AllZip, cons_option}
use Rattle.std.specs.Option.{option_map}
use Rattle.std.specs.Str.Parse.{digits_value}
use Rattle.mm_value.specs.Literal.{is_numeral}
use Rattle.mm_value.specs.declared.values.Value.{Value}
use Rattle.mm_value.specs.declared.values.Value.TheVariants.{Int, Text}
use Rattle.mm_lang.specs.Grammar.{literal_of}
use Rattle.mm_lang.specs.Reading.{literals_among}
use Rattle.mm_lang.specs.Spelling.{SpellsLiteral}
use Rattle.mm_lang.specs.Templates.{holes_among}
use Rattle.mm_lang.specs.Tokens.{Token, Word, Signed, Quoted, Mark, Hole, Unreadable}
use Rattle.mm_lang.specs.declared.read.token.Symbol.{Symbol}
use Rattle.mm_lang.specs.declared.read.token.Symbol.TheVariants.{Plus, Minus}
use Rattle.mm_lang.proofs.SpelledWords.{literal_spelled}
use Rattle.mm_statement.specs.Filling.{given, merged}
use Rattle.mm_statement.specs.Texts.{IsText, behind, with_texts}
use Rattle.mm_statement.proofs.Fillers.{merged_no_values}

-- ---- literals of values

-- The token is a literal of some value.
abbrev pub IsReadable : Token → Type 0
IsReadable token = (value : Value) × IsText token value

abbrev pub AreReadable : List Token → Type 0
AreReadable texts = AllByRecursion IsReadable texts

pub texts_readable : (texts : List Token) (values : List Value) → AllZip IsText texts values → AreReadable texts
texts_readable [] [] h = tt
texts_readable [] (v ∷ values) h = absurd h
texts_readable (t ∷ texts) [] h = absurd h
texts_readable (t ∷ texts) (v ∷ values) h = ((v, h.0), texts_readable texts values h.1)

-- ---- literals

-- a literal before tokens
pub literal_front : (t : Token) (v : Value) (us : List Token) → SpellsLiteral t v → literals_among (t ∷ us) ≡ v ∷ literals_among us
literal_front (Word w) (Int z) us h = ap (λ o. cons_option o (literals_among us)) (literal_spelled (Word w) (Int z) h)
literal_front (Signed w) (Int z) us h = ap (λ o. cons_option o (literals_among us)) (literal_spelled (Signed w) (Int z) h)
literal_front (Quoted text) (Text said) us h = ap (λ o. cons_option o (literals_among us)) (literal_spelled (Quoted text) (Text said) h)
literal_front Hole (Int z) us h = ap (λ o. cons_option o (literals_among us)) (literal_spelled Hole (Int z) h)
literal_front _ _ us h = absurd h

pub text_spelled : (t : Token) (v : Value) → IsText t v → SpellsLiteral t v
text_spelled (Word w) v h = h
text_spelled (Signed w) v h = h
text_spelled (Quoted text) v h = h
text_spelled Hole v h = absurd h
text_spelled (Mark symbol) v h = h
text_spelled Unreadable v h = h

text_front : (t : Token) (v : Value) (us : List Token) → IsText t v → literals_among (t ∷ us) ≡ v ∷ literals_among us
text_front t v us h = literal_front t v us (text_spelled t v h)

-- .. after a plus ..
plus_front : (t : Token) (v : Value) (us : List Token) → IsText t v → literals_among (behind Plus Minus t us) ≡ v ∷ literals_among us
plus_front (Word w) v us h = text_front (Word w) v us h
plus_front (Signed w) v us h = text_front (Signed w) v us h
plus_front (Quoted text) v us h = text_front (Quoted text) v us h
plus_front (Mark symbol) v us h = absurd h
plus_front _ v us h = absurd h

neg_twice : (n : ℕ) → neg_ℤ (neg_ℤ (pos n)) ≡ pos n
neg_twice zero = refl
neg_twice (suc n) = refl

-- .. and after a minus
minus_front : (t : Token) (v : Value) (us : List Token) → IsText t v
    → literals_among (behind Minus Plus t us) ≡ given (Int (negsuc zero)) v ∷ literals_among us
minus_front (Word w) (Int z) us h = text_front (Signed w) (Int (neg_ℤ z)) us (h.0, ap neg_ℤ h.1)
minus_front (Signed w) (Int z) us h =
    text_front (Word w) (Int (neg_ℤ z)) us (h.0, ap neg_ℤ h.1 ∙ neg_twice (digits_value 10 w))
minus_front (Quoted text) (Text said) us h = text_front (Quoted text) (Text said) us h
minus_front _ _ us h = absurd h

-- ---- tokens with no literals left to insert

pub no_texts : (ts : List Token) → with_texts ts [] ≡ ts
no_texts [] = refl
no_texts (Mark Plus ∷ Hole ∷ ts) = ap (λ l. Mark Plus ∷ Hole ∷ l) (no_texts ts)
no_texts (Mark Minus ∷ Hole ∷ ts) = ap (λ l. Mark Minus ∷ Hole ∷ l) (no_texts ts)
no_texts (Hole ∷ ts) = ap (λ l. Hole ∷ l) (no_texts ts)
no_texts (t ∷ ts) = ap (λ l. t ∷ l) (no_texts ts)

-- ---- literals among tokens with inserted literals

begins_number : List Token → Bool
begins_number (Word w ∷ ts) = true
begins_number (Hole ∷ ts) = true
begins_number ts = false

-- A symbol remains a symbol.
symbol_stays : (s : Symbol) (ts texts : List Token) → begins_number (with_texts (Mark s ∷ ts) texts) ≡ false
unfolding begins_number
symbol_stays Plus (Hole ∷ ts) (Signed w ∷ texts) = refl
symbol_stays Plus (Hole ∷ ts) (t ∷ texts) = refl
symbol_stays Minus (Hole ∷ ts) (Signed w ∷ texts) = refl
symbol_stays Minus (Hole ∷ ts) (t ∷ texts) = refl
symbol_stays s ts texts = refl

-- A symbol is not a literal, unless it is a sign of the following token.
symbol_skipped : (s : Symbol) (ts : List Token) → begins_number ts ≡ false → literals_among (Mark s ∷ ts) ≡ literals_among ts
unfolding begins_number
symbol_skipped Plus (Hole ∷ ts) h = absurd (cc)
symbol_skipped Minus (Word w ∷ ts) h = absurd (cc)
symbol_skipped Minus (Hole ∷ ts) h = absurd (cc)
symbol_skipped s ts h = refl

merged_number : (is_number : Bool) (v w : Value) (holes : List Bool) (values literals : List Value)
    → merged (cons_option (option_map (λ (x : Value). false) (cond is_number (Some v) None)) holes) values (cons_option (cond is_number (Some w) None) literals)
    ≡ cons_option (cond is_number (Some w) None) (merged holes values literals)
merged_number true v w holes values literals = refl
merged_number false v w holes values literals = refl

-- Inserting literals in place of holes is the same as replacing the holes among the literals by their values.
pub among_texts : (ts texts : List Token) (values : List Value) → AllZip IsText texts values
    → literals_among (with_texts ts texts) ≡ merged (holes_among ts) values (literals_among ts)
among_texts ts [] [] h = ap literals_among (no_texts ts) ∙ sym (merged_no_values (holes_among ts) (literals_among ts))
among_texts ts [] (v ∷ values) h = absurd h
among_texts ts (t ∷ texts) [] h = absurd h
among_texts [] (t ∷ texts) (v ∷ values) h = refl
among_texts (Mark Plus ∷ Hole ∷ ts) (t ∷ texts) (v ∷ values) h =
    plus_front t v (with_texts ts texts) h.0 ∙ ap (λ l. v ∷ l) (among_texts ts texts values h.1)
among_texts (Mark Minus ∷ Hole ∷ ts) (t ∷ texts) (v ∷ values) h =
    minus_front t v (with_texts ts texts) h.0 ∙ ap (λ l. given (Int (negsuc zero)) v ∷ l) (among_texts ts texts values h.1)
among_texts (Mark Minus ∷ Word w ∷ ts) (t ∷ texts) (v ∷ values) h =
    ap (cons_option (literal_of (Signed w))) (among_texts ts (t ∷ texts) (v ∷ values) h)
    ∙ sym (merged_number (is_numeral w) _ _ (holes_among ts) (v ∷ values) (literals_among ts))
among_texts (Mark Plus ∷ Mark s ∷ ts) (t ∷ texts) (v ∷ values) h =
    symbol_skipped Plus (with_texts (Mark s ∷ ts) (t ∷ texts)) (symbol_stays s ts (t ∷ texts))
    ∙ among_texts (Mark s ∷ ts) (t ∷ texts) (v ∷ values) h
among_texts (Mark Minus ∷ Mark s ∷ ts) (t ∷ texts) (v ∷ values) h =
    symbol_skipped Minus (with_texts (Mark s ∷ ts) (t ∷ texts)) (symbol_stays s ts (t ∷ texts))
    ∙ among_texts (Mark s ∷ ts) (t ∷ texts) (v ∷ values) h
among_texts (Mark s ∷ ts) (t ∷ texts) (v ∷ values) h = among_texts ts (t ∷ texts) (v ∷ values) h
among_texts (Hole ∷ ts) (t ∷ texts) (v ∷ values) h = text_front t v (with_texts ts texts) h.0 ∙ ap (λ l. v ∷ l) (among_texts ts texts values h.1)
among_texts (Word w ∷ ts) (t ∷ texts) (v ∷ values) h =
    ap (cons_option (literal_of (Word w))) (among_texts ts (t ∷ texts) (v ∷ values) h)
    ∙ sym (merged_number (is_numeral w) _ _ (holes_among ts) (v ∷ values) (literals_among ts))
among_texts (Signed w ∷ ts) (t ∷ texts) (v ∷ values) h =
    ap (cons_option (literal_of (Signed w))) (among_texts ts (t ∷ texts) (v ∷ values) h)
    ∙ sym (merged_number (is_numeral w) _ _ (holes_among ts) (v ∷ values) (literals_among ts))
among_texts (Quoted text ∷ ts) (t ∷ texts) (v ∷ values) h = ap (λ l. Text text ∷ l) (among_texts ts (t ∷ texts) (v ∷ values) h)
among_texts (Unreadable ∷ ts) (t ∷ texts) (v ∷ values) h = among_texts ts (t ∷ texts) (v ∷ values) h
