-- A token before bytes that agree.
use Rattle.std.proofs.Common.{◌≡◌, ◌<◌, inl, ℕ, suc, Bool, true, false, cond, List, [], ◌∷◌, ◌++◌, Some, None, length, one-add, get_or, refl, sym, ap, ◌∙◌}
use Rattle.std.proofs.Common.{arith}
use Rattle.std.specs.Prelude.{count_by}
use Rattle.std.specs.List.{cons_option}
use Rattle.std.specs.Option.{option_map}
use Rattle.std.proofs.lemmas.Bool.{false≢true}
use Rattle.std.proofs.lemmas.List.Sums.{sum_by-cons}
use Rattle.mm_value.specs.Literal.{is_numeral}
use Rattle.mm_value.specs.declared.values.Value.{Value}
use Rattle.mm_lang.specs.Templates.{holes_among}
use Rattle.mm_lang.specs.Tokens.{Token, Word, Signed, Quoted, Mark, Hole, Unreadable, is_hole, tokens}
use Rattle.mm_lang.specs.declared.read.token.Symbol.TheVariants.{Plus, Minus}
use Rattle.mm_statement.specs.Texts.{with_texts}
use Rattle.mm_template.specs.steps.Pieces.{IsOneToken, is_sign}
use Rattle.mm_template.specs.steps.Progress.{Agrees, begins_signed}

-- ---- a token before tokens

-- A token that is not a hole stays, unless it is a sign before a number with a minus.
pub with_step : (t : Token) (ts texts : List Token) → is_hole t ≡ false → (is_sign t ≡ true → begins_signed ts texts ≡ false)
    → with_texts (t ∷ ts) texts ≡ t ∷ with_texts ts texts
with_step (Mark Plus) [] texts no_hole unsigned = refl
with_step (Mark Plus) (Hole ∷ ts) [] no_hole unsigned = refl
with_step (Mark Plus) (Hole ∷ ts) (Signed w ∷ texts) no_hole unsigned = absurd (false≢true (sym (unsigned refl)))
with_step (Mark Plus) (Hole ∷ ts) (text ∷ texts) no_hole unsigned = refl
with_step (Mark Plus) (t ∷ ts) texts no_hole unsigned = refl
with_step (Mark Minus) [] texts no_hole unsigned = refl
with_step (Mark Minus) (Hole ∷ ts) [] no_hole unsigned = refl
with_step (Mark Minus) (Hole ∷ ts) (Signed w ∷ texts) no_hole unsigned = absurd (false≢true (sym (unsigned refl)))
with_step (Mark Minus) (Hole ∷ ts) (text ∷ texts) no_hole unsigned = refl
with_step (Mark Minus) (t ∷ ts) texts no_hole unsigned = refl
with_step Hole ts texts no_hole unsigned = absurd (false≢true (sym no_hole))
with_step t ts texts no_hole unsigned = refl

pub not_signed : (t : Token) (ts texts : List Token) → is_hole t ≡ false → begins_signed (t ∷ ts) texts ≡ false
not_signed Hole ts texts no_hole = absurd (false≢true (sym no_hole))
not_signed (Word w) ts texts no_hole = refl
not_signed (Signed w) ts texts no_hole = refl
not_signed (Quoted w) ts texts no_hole = refl
not_signed (Mark s) ts texts no_hole = refl
not_signed Unreadable ts texts no_hole = refl

-- the number of holes
abbrev pub holes_in : List Token → ℕ
holes_in ts = count_by (λ hole. hole) (holes_among ts)

not_counted : (is_number : Bool) (v : Value) (holes : List Bool)
    → count_by (λ hole. hole) (cons_option (option_map (λ (x : Value). false) (cond is_number (Some v) None)) holes) ≡ count_by (λ hole. hole) holes
not_counted true v holes = refl
not_counted false v holes = refl

pub count_step : (t : Token) (ts : List Token) → is_hole t ≡ false → holes_in (t ∷ ts) ≡ holes_in ts
count_step Hole ts no_hole = absurd (false≢true (sym no_hole))
count_step (Word w) ts no_hole = not_counted (is_numeral w) _ (holes_among ts)
count_step (Signed w) ts no_hole = not_counted (is_numeral w) _ (holes_among ts)
count_step (Quoted w) ts no_hole = refl
count_step (Mark s) ts no_hole = refl
count_step Unreadable ts no_hole = refl

pub count_hole : (ts : List Token) → holes_in (Hole ∷ ts) ≡ suc (holes_in ts)
count_hole ts = sum_by-cons (λ hole. cond hole 1 0) true (holes_among ts) ∙ one-add (holes_in ts)

-- ---- a piece before bytes

first_of : (front rest tail : List ℕ) → 0 < length front → get_or (front ++ tail) 0 0 ≡ get_or (front ++ rest) 0 0
first_of [] rest tail some = absurd (omega arith)
first_of (b ∷ bs) rest tail some = refl

pub token_agrees : (before after may_be_sign : Bool) (front rest tail : List ℕ) (texts : List Token) → 0 < length front → IsOneToken may_be_sign front rest
    → (may_be_sign ≡ true → after ≡ false) → Agrees after rest tail texts → Agrees before (front ++ rest) (front ++ tail) texts
token_agrees before after may_be_sign front rest tail texts some one signs a =
    let same : tokens (front ++ tail) ≡ one.token ∷ tokens tail = one.is tail a.begins in
    record {
      begins = inl (first_of front rest tail some);
      written =
          one.is rest (inl refl) ∙ ap (λ ts. one.token ∷ ts) a.written
          ∙ sym (with_step one.token (tokens tail) texts one.no_hole (λ is. a.unsigned (by may_be_sign signs one.no_sign is)))
          ∙ ap (λ ts. with_texts ts texts) (sym same);
      count = ap holes_in same ∙ count_step one.token (tokens tail) one.no_hole ∙ a.count;
      unsigned = λ isnt. ap (λ ts. begins_signed ts texts) same ∙ not_signed one.token (tokens tail) texts one.no_hole;
    }
  where
    by : (may : Bool) → (may ≡ true → after ≡ false) → (may ≡ false → is_sign one.token ≡ false) → is_sign one.token ≡ true → after ≡ false
    by true signs no_sign is = signs refl
    by false signs no_sign is = absurd (false≢true (sym (no_sign refl) ∙ is))
