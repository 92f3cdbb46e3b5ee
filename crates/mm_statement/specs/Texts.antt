-- Literals in place of holes.
use Rattle.std.specs.Prelude.{ℕ, ◌==◌, Bool, true, false, not, ◌&&◌, if◌then◌else◌, List, [], ◌∷◌, ◌++◌}
use Rattle.mm_value.specs.declared.values.Value.{Value}
use Rattle.mm_lang.specs.Spelling.{SpellsLiteral}
use Rattle.mm_lang.specs.Tokens.{Token, Word, Signed, Mark, Hole, Place, Outside, Inside}
use Rattle.mm_lang.specs.declared.read.token.Symbol.{Symbol}
use Rattle.mm_lang.specs.declared.read.token.Symbol.TheVariants.{Plus, Minus}

-- The token is a literal of the value, and not a hole.
abbrev pub IsText : Token → Value → Type 0
IsText Hole value = ⊥
IsText token value = SpellsLiteral token value

-- A literal after a sign, followed by other tokens. The minus of a number inverts the sign.
abbrev pub behind : Symbol → Symbol → Token → List Token → List Token
behind sign other (Signed digits) ts = Mark other ∷ Word digits ∷ ts
behind sign other text ts = Mark sign ∷ text ∷ ts

-- Tokens with literals, in order, in place of their holes.
abbrev pub with_texts : List Token → List Token → List Token
with_texts [] texts = []
with_texts (Mark Plus ∷ Hole ∷ ts) (text ∷ texts) = behind Plus Minus text (with_texts ts texts)
with_texts (Mark Minus ∷ Hole ∷ ts) (text ∷ texts) = behind Minus Plus text (with_texts ts texts)
with_texts (Hole ∷ ts) (text ∷ texts) = text ∷ with_texts ts texts
with_texts (t ∷ ts) texts = t ∷ with_texts ts texts

-- The bytes of a line from a position on, with literals, in order, in place of its holes, and a blank on each side of a literal.
unfoldable pub filled_bytes : Place → List ℕ → List (List ℕ) → List ℕ
filled_bytes place bytes [] = bytes
filled_bytes place [] (text ∷ texts) = []
filled_bytes Outside (b ∷ bs) (text ∷ texts) =
    if b == 63 then 32 ∷ text ++ 32 ∷ filled_bytes Outside bs texts
    else b ∷ filled_bytes (if b == 39 then Inside else Outside) bs (text ∷ texts)
filled_bytes Inside (b ∷ bs) (text ∷ texts) = b ∷ filled_bytes (if b == 39 then Outside else Inside) bs (text ∷ texts)

-- A line with literals in place of its holes.
abbrev pub filled_line : List ℕ → List (List ℕ) → List ℕ
filled_line line texts = filled_bytes Outside line texts

-- The literal begins with a minus.
abbrev pub begins_minus : List ℕ → Bool
begins_minus [] = false
begins_minus (b ∷ bs) = b == 45

-- No literal with a minus follows a sign.
abbrev pub keeps_signs : List Token → List (List ℕ) → Bool
keeps_signs [] texts = true
keeps_signs (Mark Plus ∷ Hole ∷ ts) (text ∷ texts) = not (begins_minus text) && keeps_signs ts texts
keeps_signs (Mark Minus ∷ Hole ∷ ts) (text ∷ texts) = not (begins_minus text) && keeps_signs ts texts
keeps_signs (Hole ∷ ts) (text ∷ texts) = keeps_signs ts texts
keeps_signs (t ∷ ts) texts = keeps_signs ts texts
