-- The results of splitting the first token off some bytes.
use Rattle.std.specs.Prelude.{◌≡◌, ◌≢◌, ℕ, ◌<◌, ◌≤◌, Bool, true, false, List, [], ◌∷◌, length, take, drop}
use Rattle.mm_value.specs.Literal.{SpellsText, doubled}
use Rattle.mm_lang.specs.declared.read.token.Token.{Token as Shown}
use Rattle.mm_lang.specs.declared.read.token.Token.TheVariants as shown
use Rattle.mm_lang.specs.declared.read.token.Piece.{Piece}
use Rattle.mm_lang.specs.declared.read.token.Piece.TheVariants.{Bytes, End, Fault}
use Rattle.mm_lang.specs.Tokens.{Token, Word, Signed, Quoted, Mark, Hole, Unreadable, Inside, tokens, lexed, is_blank, begins_word, onto_text}

-- A token as written in the line denotes a token of the grammar.
abbrev pub Shows : Shown → Token → Type 0
Shows (shown.Word raw) t = (t ≡ Word raw.now) × (begins_word raw.now ≡ true)
Shows (shown.Signed raw) t = (word : List ℕ) × (raw.now ≡ 45 ∷ word) × (t ≡ Signed word)
Shows (shown.Quoted raw) t = (text : List ℕ) × SpellsText raw.now text × (t ≡ Quoted text)
Shows (shown.Mark symbol) t = t ≡ Mark symbol
Shows shown.Hole t = t ≡ Hole
Shows shown.Unreadable t = t ≡ Unreadable

-- A token is the first of some tokens, and the rest are fewer bytes than a limit, with the remaining tokens.
pub record Splits (ts : List Token) (limit : ℕ) (token : Shown) (rest : List ℕ) : Type 0 where
  pub first : Token
  pub shows : Shows token first
  pub in_front : ts ≡ first ∷ tokens rest
  pub shorter : length rest < limit

-- the bytes begin with a blank
abbrev pub begins_blank : List ℕ → Bool
begins_blank [] = false
begins_blank (b ∷ bs) = is_blank b

-- Inside a text, the first n bytes spell one byte of it.
pub record StandsForByte (rest : List ℕ) (n : ℕ) : Type 0 where
  pub byte : ℕ
  pub one_line : byte ≢ 10
  pub in_range : n ≤ length rest
  pub spelled : take n rest ≡ doubled (byte ∷ [])
  pub lexed : lexed Inside rest ≡ onto_text byte (lexed Inside (drop n rest))

-- Inside a text, the first byte is its closing quote.
pub record EndsText (rest : List ℕ) : Type 0 where
  pub quote : take 1 rest ≡ 39 ∷ []
  pub lexed : lexed Inside rest ≡ Quoted [] ∷ tokens (drop 1 rest)

-- The next piece inside a text.
abbrev pub GoesOn : List ℕ → Piece → Type 0
GoesOn rest (Bytes n) = StandsForByte rest n
GoesOn rest End = EndsText rest
GoesOn rest Fault = lexed Inside rest ≡ Unreadable ∷ []
