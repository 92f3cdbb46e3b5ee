-- The tokens of a line: the longest runs, from left to right.
use Rattle.std.specs.Prelude.{ℕ, ◌==◌, Bool, true, false, ◌||◌, ◌&&◌, if◌then◌else◌, List, [], ◌∷◌, nat_le}
use Rattle.std.specs.List.{list_any}
use Rattle.mm_lang.specs.declared.read.token.Symbol.{Symbol}
use Rattle.mm_lang.specs.declared.read.token.Symbol.TheVariants.{Open, Close, Comma, Dot, Equal, Less, AtMost, Greater, AtLeast, Plus, Minus}

pub data Token : Type 0 where
  -- letters, digits and _
  Word : (bytes : List ℕ) → Token
  -- a word directly after a minus
  Signed : (bytes : List ℕ) → Token
  -- the text that is written between quotes
  Quoted : (bytes : List ℕ) → Token
  Mark : (symbol : Symbol) → Token
  -- a ?, a parameter
  Hole : Token
  -- a byte or an unclosed quote that no command contains
  Unreadable : Token

-- The token is a hole.
abbrev pub is_hole : Token → Bool
is_hole Hole = true
is_hole token = false

-- One of the tokens is a hole.
abbrev pub has_hole : List Token → Bool
has_hole ts = list_any is_hole ts

-- a space or a tab
abbrev pub is_blank : ℕ → Bool
is_blank b = (b == 32) || (b == 9)

-- a letter, a digit or _
abbrev pub is_word_byte : ℕ → Bool
is_word_byte b = (nat_le 97 b && nat_le b 122) || (nat_le 65 b && nat_le b 90) || (nat_le 48 b && nat_le b 57) || (b == 95)

-- the bytes begin with a byte of a word
abbrev pub begins_word : List ℕ → Bool
begins_word [] = false
begins_word (b ∷ bs) = is_word_byte b

-- the bytes begin with an equals sign
abbrev pub begins_equal : List ℕ → Bool
begins_equal [] = false
begins_equal (b ∷ bs) = b == 61

-- a byte of a word is prepended to the word that directly follows
abbrev pub onto_word : ℕ → Bool → List Token → List Token
onto_word b true (Word w ∷ ts) = Word (b ∷ w) ∷ ts
onto_word b _ ts = Word (b ∷ []) ∷ ts

-- a minus is joined with the word that directly follows
abbrev pub onto_minus : Bool → List Token → List Token
onto_minus true (Word w ∷ ts) = Signed w ∷ ts
onto_minus _ ts = Mark Minus ∷ ts

-- a comparison is joined with the equals sign that directly follows
abbrev pub onto_equal : Symbol → Symbol → Bool → List Token → List Token
onto_equal alone joined true (t ∷ ts) = Mark joined ∷ ts
onto_equal alone joined _ ts = Mark alone ∷ ts

-- a byte of a text is prepended to the rest of the text
abbrev pub onto_text : ℕ → List Token → List Token
onto_text b (Quoted text ∷ ts) = Quoted (b ∷ text) ∷ ts
onto_text b ts = ts

-- the tokens from a byte that is neither a blank, a quote nor a byte of a word, given the bytes after it and their tokens
abbrev pub onto_symbol : ℕ → List ℕ → List Token → List Token
onto_symbol b bs ts =
    if b == 40 then Mark Open ∷ ts
    else (if b == 41 then Mark Close ∷ ts
    else (if b == 44 then Mark Comma ∷ ts
    else (if b == 46 then Mark Dot ∷ ts
    else (if b == 61 then Mark Equal ∷ ts
    else (if b == 60 then onto_equal Less AtMost (begins_equal bs) ts
    else (if b == 62 then onto_equal Greater AtLeast (begins_equal bs) ts
    else (if b == 43 then Mark Plus ∷ ts
    else (if b == 45 then onto_minus (begins_word bs) ts
    else (if b == 63 then Hole ∷ ts
    else Unreadable ∷ [])))))))))

-- The position of a byte: outside a text, or inside one, after its opening quote.
pub data Place : Type 0 where
  Outside : Place
  Inside : Place

-- the tokens of bytes that begin outside or inside a text
unfoldable pub lexed : Place → List ℕ → List Token
lexed Outside [] = []
lexed Outside (b ∷ bs) =
    if is_blank b then lexed Outside bs
    else (if b == 39 then lexed Inside bs
    else (if is_word_byte b then onto_word b (begins_word bs) (lexed Outside bs)
    else onto_symbol b bs (lexed Outside bs)))
lexed Inside [] = Unreadable ∷ []
lexed Inside (b ∷ []) = if b == 39 then Quoted [] ∷ [] else Unreadable ∷ []
lexed Inside (b ∷ c ∷ bs) =
    if b == 10 then Unreadable ∷ []
    else (if b == 39 then (if c == 39 then onto_text 39 (lexed Inside bs) else Quoted [] ∷ lexed Outside (c ∷ bs))
    else onto_text b (lexed Inside (c ∷ bs)))

-- the tokens of a line
abbrev pub tokens : List ℕ → List Token
tokens line = lexed Outside line
