-- The pieces of a line, and how a cut treats each.
use Rattle.std.specs.Prelude.{◌≡◌, ◌⊎◌, ℕ, ◌<◌, ◌≤◌, ◌==◌, Bool, true, false, not, ◌&&◌, ◌||◌, List, [], ◌∷◌, ◌++◌, length, take, drop, slice_index}
use Rattle.mm_value.specs.Literal.{Spells}
use Rattle.mm_value.specs.declared.values.Value.{Value}
use Rattle.mm_lang.specs.Tokens.{Token, Mark, begins_word, is_blank, is_hole, is_word_byte, tokens}
use Rattle.mm_lang.specs.declared.read.token.Symbol.TheVariants.{Plus, Minus}
use Rattle.mm_statement.specs.Texts.{begins_minus}
use Rattle.mm_template.specs.Cutting.{Cut}

-- The token is a sign.
abbrev pub is_sign : Token → Bool
is_sign (Mark Plus) = true
is_sign (Mark Minus) = true
is_sign token = false

-- The byte is a symbol by itself, whatever follows it: `.`, `,`, `(` or `)`.
abbrev pub is_mark : ℕ → Bool
is_mark b = (b == 46) || (b == 44) || (b == 40) || (b == 41)

-- The byte is part of a word, is a blank, or is such a symbol.
abbrev pub is_kept_byte : ℕ → Bool
is_kept_byte b = is_word_byte b || is_blank b || is_mark b

-- The byte is a symbol that a value of an INSERT follows: `,` or `(`.
abbrev pub is_before_value : ℕ → Bool
is_before_value b = (b == 44) || (b == 40)

-- The byte is kept and skipped: in an INSERT it is not a symbol that a value follows.
abbrev pub is_passed : Bool → ℕ → Bool
is_passed is_insert b = is_kept_byte b && not (is_insert && is_before_value b)

-- One of two bytes.
abbrev pub IsOneOf : ℕ → ℕ → ℕ → Type 0
IsOneOf a b byte = (byte ≡ a) ⊎ (byte ≡ b)

-- The bytes begin with a quote.
abbrev pub begins_text : List ℕ → Bool
begins_text [] = false
begins_text (b ∷ bs) = b == 39

-- Some bytes begin as others do, or with a `?`.
abbrev pub BeginsAs : List ℕ → List ℕ → Type 0
BeginsAs tail rest = (slice_index tail 0 ≡ slice_index rest 0) ⊎ (slice_index tail 0 ≡ 63)

-- The bytes are one token before the rest, and before all bytes that begin as the rest does. The token is not a hole.
pub record IsOneToken (may_be_sign : Bool) (front rest : List ℕ) : Type 0 where
  pub token : Token
  pub is : (tail : List ℕ) → BeginsAs tail rest → tokens (front ++ tail) ≡ token ∷ tokens tail
  pub no_hole : is_hole token ≡ false
  pub no_sign : may_be_sign ≡ false → is_sign token ≡ false

-- The first `len` bytes are an operator: one token, and not a sign if any literal may be cut after it.
pub record IsOperator (bytes : List ℕ) (takes_any : Bool) (len : ℕ) : Type 0 where
  pub some : 0 < len
  pub fits : len ≤ length bytes
  pub is : IsOneToken (not takes_any) (take len bytes) (drop len bytes)

-- The first `len` bytes may be cut as a literal: they begin with a minus only if any literal may be cut there.
pub record MayBeCut (bytes : List ℕ) (takes_any : Bool) (len : ℕ) : Type 0 where
  pub fits : len ≤ length bytes
  pub unsigned : takes_any ≡ false → begins_minus (take len bytes) ≡ false

-- The bytes begin with the first letter of a keyword whose lines are cut.
abbrev pub begins_keyword : List ℕ → Bool
begins_keyword [] = false
begins_keyword (b ∷ bs) = (b == 83) || (b == 73) || (b == 85) || (b == 68)

-- A cut continues with bytes that are kept, and then with a literal that is cut.
pub record CutsLiteral (old new : Cut) (kept bytes rest : List ℕ) : Type 0 where
  pub value : Value
  pub spelled : Spells bytes value
  pub no_word : begins_word rest ≡ false
  pub no_text : begins_text rest ≡ false
  pub template : new.template ≡ (old.template ++ kept) ++ 63 ∷ []
  pub values : new.values ≡ old.values ++ value ∷ []

-- A cut continues with bytes that are kept.
pub record Keeps (old new : Cut) (kept : List ℕ) : Type 0 where
  pub template : new.template ≡ old.template ++ kept
  pub values : new.values ≡ old.values
