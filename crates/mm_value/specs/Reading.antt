-- The results of the steps of reading a literal.
use Rattle.std.specs.Prelude.{◌≡◌, ◌≢◌, ◌⊎◌, ℕ, ◌<◌, ◌≤◌, Bool, true, false, List, [], ◌∷◌, ◌++◌, length, take, pos, All, Option, MatchOption, Result}
use Rattle.std.specs.Prelude.{MatchResult, FitsSigned}
use Rattle.std.specs.Int.{w64}
use Rattle.std.specs.Str.Parse.{digits_value}
use Rattle.std.proofs.Math.IntN.{ℤ, neg_ℤ}
use Rattle.mm_value.specs.declared.refusal.Refusal.{Refusal}
use Rattle.mm_value.specs.declared.refusal.Refusal.TheVariants.{Syntax, NumberOutOfRange, TextTooLong, Memory}
use Rattle.mm_value.specs.declared.literals.Head.{Head}
use Rattle.mm_value.specs.declared.literals.Head.TheVariants.{Byte, End, Fault}
use Rattle.mm_value.specs.Literal.{IsNumeral, doubled_byte, doubled}

-- The value of digits, negated or not.
abbrev pub signed_value : Bool → List ℕ → ℤ
signed_value true digits = neg_ℤ (pos (digits_value 10 digits))
signed_value false digits = pos (digits_value 10 digits)

-- Digits read as their value, if it fits into 64 bits.
abbrev pub ReadsInt : Bool → List ℕ → Result ℤ Refusal → Type 0
ReadsInt is_negative digits result = MatchResult result
    (λ z. IsNumeral digits × (z ≡ signed_value is_negative digits) × FitsSigned w64 z)
    (λ e. ((e ≡ Syntax) × ¬ IsNumeral digits)
    ⊎ ((e ≡ NumberOutOfRange) × IsNumeral digits × ¬ FitsSigned w64 (signed_value is_negative digits)))

-- The bytes after an opening quote are this text, with each quote in it doubled, and the closing quote.
pub record Closes (body text : List ℕ) : Type 0 where
  pub spelled : body ≡ doubled text ++ 39 ∷ []
  pub one_line : All (λ b. b ≢ 10) text

-- The first piece inside a text in quotes.
abbrev pub IsHead : List ℕ → Head → Type 0
IsHead rest (Byte b tail) = (rest ≡ doubled_byte b ++ tail.now) × (b ≢ 10)
IsHead rest End = rest ≡ 39 ∷ []
IsHead rest Fault = (text : List ℕ) → Closes rest text → ⊥

-- The length of the text. The buffer contains the text, if it fits.
abbrev pub Unquotes : List ℕ → List ℕ → Option ℕ → Type 0
Unquotes body buffer result = MatchOption result
    ((text : List ℕ) → Closes body text → ⊥)
    (λ n. (text : List ℕ) × Closes body text × (n ≡ length text) × (n ≤ length buffer → take n buffer ≡ text))

-- The bytes after an opening quote read as their text, if it has at most 64 bytes.
abbrev pub ReadsText : List ℕ → Result (List ℕ) Refusal → Type 0
ReadsText body result = MatchResult result
    (λ text. Closes body text × (length text ≤ 64))
    (λ e. ((e ≡ Syntax) × ((text : List ℕ) → Closes body text → ⊥))
    ⊎ (((e ≡ TextTooLong) × ((text : List ℕ) × Closes body text × (64 < length text)))
    ⊎ ((e ≡ Memory) × ((text : List ℕ) × Closes body text × (16 < length text) × (length text ≤ 64)))))
