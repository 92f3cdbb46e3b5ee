-- Names.
use Rattle.std.specs.Prelude.{ℕ, ◌==◌, ◌||◌, ◌&&◌, Bool, false, List, [], ◌∷◌, length, IsTrue, nat_eq, nat_le}
use Rattle.std.specs.List.{list_all}
use Rattle.std.specs.Cmp.Lexicographic.{pointwise}

-- a to z
abbrev pub is_lower : ℕ → Bool
is_lower b = nat_le 97 b && nat_le b 122

-- a to z, 0 to 9 or _
abbrev pub is_name_byte : ℕ → Bool
is_name_byte b = is_lower b || (nat_le 48 b && nat_le b 57) || (b == 95)

-- a letter, followed by letters, digits and _
abbrev pub is_name_text : List ℕ → Bool
is_name_text [] = false
is_name_text (b ∷ bs) = is_lower b && list_all is_name_byte bs

-- at most 32 bytes: a letter, followed by letters, digits and _
abbrev pub is_name : List ℕ → Bool
is_name bytes = is_name_text bytes && nat_le (length bytes) 32

-- The bytes are a name.
abbrev pub IsName : List ℕ → Type 0
IsName bytes = IsTrue (is_name bytes)

-- Two names are equal.
abbrev pub same_name : List ℕ → List ℕ → Bool
same_name a b = pointwise nat_eq a b
