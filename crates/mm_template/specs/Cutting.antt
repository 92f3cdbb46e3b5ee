-- Lines cut into a template and values.
use Rattle.std.specs.Prelude.{◌≡◌, ℕ, ◌≤◌, false, List, count_by, length}
use Rattle.std.specs.List.{AllZip}
use Rattle.mm_value.specs.declared.values.Value.{Value}
use Rattle.mm_lang.specs.Reading.{is_nothing}
use Rattle.mm_lang.specs.Templates.{holes_of}
use Rattle.mm_lang.specs.Tokens.{Token, tokens}
use Rattle.mm_statement.specs.Texts.{IsText, with_texts}

-- A template with holes, and the values of the literals that the holes replace, in order.
pub record Cut : Type 0 where
  pub template : List ℕ
  pub values : List Value

-- A line is this template with texts of these values, in their order, in place of its holes.
pub record IsCut (line template : List ℕ) (values : List Value) : Type 0 where
  pub texts : List Token
  pub are_texts : AllZip IsText texts values
  pub written : tokens line ≡ with_texts (tokens template) texts
  pub count : length values ≡ count_by (λ hole. hole) (holes_of template)
  pub something : is_nothing template ≡ false
  pub fits : length line ≤ 4096
