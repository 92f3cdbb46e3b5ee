-- How literals are spelled.
use Rattle.std.specs.Prelude.{◌≡◌, ◌≢◌, ◌⊎◌, ℕ, ◌^◌, ◌==◌, Bool, ◌&&◌, if◌then◌else◌, List, [], ◌∷◌, ◌++◌, length, nat_lt, nat_le, IsTrue, All}
use Rattle.std.specs.Char.{is_ascii_digit}
use Rattle.std.specs.List.{flat_map, list_all}
use Rattle.std.specs.Str.Parse.{digits_value}
use Rattle.std.proofs.Math.IntN.{ℤ, pos, negsuc, neg_ℤ}
use Rattle.mm_value.specs.declared.values.Value.{Value}
use Rattle.mm_value.specs.declared.values.Value.TheVariants.{Int, Text}

-- one or more decimal digits
abbrev pub is_numeral : List ℕ → Bool
is_numeral ds = nat_lt 0 (length ds) && list_all is_ascii_digit ds

-- The bytes are one or more decimal digits.
abbrev pub IsNumeral : List ℕ → Type 0
IsNumeral ds = IsTrue (is_numeral ds)

-- A whole number is spelled by digits, or by a minus directly before digits; zeros may lead.
abbrev pub SpellsInt : List ℕ → ℤ → Type 0
SpellsInt bytes z = (IsNumeral bytes × (z ≡ pos (digits_value 10 bytes)))
    ⊎ ((ds : List ℕ) × (bytes ≡ 45 ∷ ds) × IsNumeral ds × (z ≡ neg_ℤ (pos (digits_value 10 ds))))

-- A quote is written twice, any other byte as it is.
abbrev pub doubled_byte : ℕ → List ℕ
doubled_byte b = if b == 39 then 39 ∷ 39 ∷ [] else b ∷ []

-- Each quote is written twice.
abbrev pub doubled : List ℕ → List ℕ
doubled bytes = flat_map doubled_byte bytes

-- A text between quotes, each quote in it written twice.
abbrev pub quoted : List ℕ → List ℕ
quoted bytes = 39 ∷ doubled bytes ++ 39 ∷ []

-- A text is spelled between quotes, and has no line feed.
abbrev pub SpellsText : List ℕ → List ℕ → Type 0
SpellsText bytes text = (bytes ≡ quoted text) × All (λ b. b ≢ 10) text

-- The bytes are exactly one literal of this value, of any size.
abbrev pub Spells : List ℕ → Value → Type 0
Spells bytes (Int z) = SpellsInt bytes z
Spells bytes (Text text) = SpellsText bytes text

-- a whole number of 64 bits
abbrev pub fits_64_bits : ℤ → Bool
fits_64_bits (pos n) = nat_lt n (2 ^ 63)
fits_64_bits (negsuc n) = nat_lt n (2 ^ 63)

-- a whole number of 64 bits, or a text of at most 64 bytes
abbrev pub is_within_limit : Value → Bool
is_within_limit (Int z) = fits_64_bits z
is_within_limit (Text text) = nat_le (length text) 64

-- The value is within its limit.
abbrev pub IsWithinLimit : Value → Type 0
IsWithinLimit value = IsTrue (is_within_limit value)
