-- The progress of a cut.
use Rattle.std.specs.Prelude.{◌≡◌, ℕ, Bool, true, false, List, ◌∷◌, ◌++◌, count_by, length}
use Rattle.std.specs.List.{AllZip}
use Rattle.mm_value.specs.declared.values.Value.{Value}
use Rattle.mm_lang.specs.Templates.{holes_among}
use Rattle.mm_lang.specs.Tokens.{Token, Signed, Hole, tokens}
use Rattle.mm_statement.specs.Texts.{IsText, with_texts}
use Rattle.mm_template.specs.steps.Pieces.{BeginsAs}

-- The first token is a hole, and its text is a number with a minus.
abbrev pub begins_signed : List Token → List Token → Bool
begins_signed (Hole ∷ ts) (Signed digits ∷ texts) = true
begins_signed ts texts = false

-- The rest of a line is the rest of a template with texts in place of its holes. A number with a minus may be first or not.
pub record Agrees (may_be_signed : Bool) (rest tail : List ℕ) (texts : List Token) : Type 0 where
  pub begins : BeginsAs tail rest
  pub written : tokens rest ≡ with_texts (tokens tail) texts
  pub count : count_by (λ hole. hole) (holes_among (tokens tail)) ≡ length texts
  pub unsigned : may_be_signed ≡ false → begins_signed (tokens tail) texts ≡ false

-- A line is this template with texts of these values in place of its holes.
pub record IsWhole (line template : List ℕ) (values : List Value) : Type 0 where
  pub texts : List Token
  pub are_texts : AllZip IsText texts values
  pub agrees : Agrees true line template texts

-- A prefix of a line is cut, and this rest is left. The template still lacks the bytes before the rest. With each rest of a template that
-- agrees with the rest of the line, the template agrees with the line.
pub record IsCutTo (line left rest template : List ℕ) (values : List Value) (may_be_signed : Bool) : Type 0 where
  pub kept : List ℕ
  pub split : left ≡ kept ++ rest
  pub texts : List Token
  pub are_texts : AllZip IsText texts values
  pub goes_on : (tail : List ℕ) (others : List Token) → Agrees may_be_signed rest tail others
      → Agrees true line ((template ++ kept) ++ tail) (texts ++ others)
