-- Phrases: parsers of a prefix of some tokens, and their combinators.
use Rattle.std.specs.Prelude.{ℕ, zero, suc, Bool, true, false, if◌then◌else◌, List, [], ◌∷◌, Option, Some, None, length}
use Rattle.std.specs.Option.{option_map, option_and_then, option_or}
use Rattle.mm_lang.specs.declared.read.keyword.Keyword.{Keyword}
use Rattle.mm_lang.specs.declared.read.keyword.Keyword.TheVariants as keyword
use Rattle.mm_lang.specs.declared.read.token.Symbol.{Symbol}
use Rattle.mm_lang.specs.declared.read.token.Symbol.TheVariants.{Open, Close}
use Rattle.mm_lang.specs.declared.read.token.Symbol.TheVariants as symbol
use Rattle.mm_lang.specs.declared.read.phrase.Separator.{Separator}
use Rattle.mm_lang.specs.declared.read.phrase.Separator.TheVariants.{Comma, And}
use Rattle.mm_lang.specs.Tokens.{Token, Word, Mark}
use Rattle.mm_lang.specs.Words.{is_symbol, is_word}

-- A phrase reads a prefix of the tokens. It returns a value and the remaining tokens, or None if no prefix matches.
abbrev pub Phrase : Type 0 → Type 0
Phrase A = List Token → Option (A × List Token)

-- Reads no token, and returns a value.
abbrev pub say : {A : Type 0} → A → Phrase A
say x ts = Some (x, ts)

-- Matches no tokens.
abbrev pub never : {A : Type 0} → Phrase A
never ts = None

infixl 10 ◌>>=◌ ◌>>◌
-- One phrase, followed by another, which may depend on the value of the first.
abbrev pub ◌>>=◌ : {A B : Type 0} → Phrase A → (A → Phrase B) → Phrase B
(first >>= next) ts = option_and_then (λ r. next r.0 r.1) (first ts)

-- One phrase, whose value is dropped, followed by another.
abbrev pub ◌>>◌ : {A B : Type 0} → Phrase A → Phrase B → Phrase B
first >> next = first >>= (λ x. next)

-- A single token with a value.
abbrev pub one : {A : Type 0} → (Token → Option A) → Phrase A
one says [] = None
one says (t ∷ ts) = option_map (λ x. (x, ts)) (says t)

-- a token that is this symbol
abbrev pub is_mark : Symbol → Token → Option (Unit {0})
is_mark mark (Mark other) = if is_symbol mark other then Some tt else None
is_mark mark _ = None

-- the symbol that a token is
abbrev pub mark_of : Token → Option Symbol
mark_of (Mark mark) = Some mark
mark_of _ = None

-- This symbol.
abbrev pub the_symbol : Symbol → Phrase (Unit {0})
the_symbol mark = one (is_mark mark)

-- the bytes of a word, if the token is one
abbrev pub word_of : Token → Option (List ℕ)
word_of (Word word) = Some word
word_of _ = None

-- A single word with a value.
abbrev pub one_word : {A : Type 0} → (List ℕ → Option A) → Phrase A
one_word says = one (λ t. option_and_then says (word_of t))

-- This keyword.
abbrev pub the_keyword : Keyword → Phrase (Unit {0})
the_keyword wanted = one_word (λ word. if is_word wanted word then Some tt else None)

-- A phrase, if a condition holds.
abbrev pub only_if : {A : Type 0} → Bool → Phrase A → Phrase A
only_if condition phrase ts = if condition then phrase ts else None

-- A phrase; or no token, with a default value.
abbrev pub optional : {A : Type 0} → A → Phrase A → Phrase A
optional absent phrase ts = option_or (phrase ts) (Some (absent, ts))

-- Reads this keyword if it is next, and returns whether it was.
abbrev pub has_keyword : Keyword → Phrase Bool
has_keyword wanted = optional false (the_keyword wanted >> say true)

-- A phrase, if it matches.
abbrev pub maybe : {A : Type 0} → Phrase A → Phrase (Option A)
maybe phrase = optional None (phrase >>= (λ x. say (Some x)))

-- This separator.
abbrev pub the_separator : Separator → Phrase (Unit {0})
the_separator Comma = the_symbol symbol.Comma
the_separator And = the_keyword keyword.And

-- After an item of a list: the end of the list if no separator follows, or a separator and further items.
abbrev pub behind_item : {A : Type 0} → Option (Unit {0} × List Token) → Phrase (List A) → Phrase (List A)
behind_item None others ts = Some ([], ts)
behind_item (Some separated) others ts = others separated.1

-- At least one item and at most a number of items, separated by a separator.
unfoldable pub at_most : {A : Type 0} → ℕ → Phrase (Unit {0}) → Phrase A → Phrase (List A)
at_most zero separator item = never
at_most (suc n) separator item = do
  x ← item
  xs ← λ ts. behind_item (separator ts) (at_most n separator item) ts
  say (x ∷ xs)

-- One or more items, separated by a separator. There cannot be more than one item plus one for each token, since each separator is a token.
abbrev pub list_of : {A : Type 0} → Phrase (Unit {0}) → Phrase A → Phrase (List A)
list_of separator item ts = at_most (suc (length ts)) separator item ts

-- One or more items after a keyword, separated by a separator; none without the keyword.
abbrev pub clause_behind : {A : Type 0} → Phrase (Unit {0}) → Phrase A → Bool → Phrase (List A)
clause_behind separator item true = list_of separator item
clause_behind separator item false = say []

-- [KEYWORD x, ..]
unfoldable pub clause : {A : Type 0} → Keyword → Phrase (Unit {0}) → Phrase A → Phrase (List A)
clause wanted separator item = has_keyword wanted >>= clause_behind separator item

-- A phrase in parentheses.
abbrev pub in_parentheses : {A : Type 0} → Phrase A → Phrase A
in_parentheses phrase = do
  the_symbol Open
  x ← phrase
  the_symbol Close
  say x

-- a value, if no tokens remain
abbrev pub alone : {A : Type 0} → A → List Token → Option A
alone x [] = Some x
alone x (t ∷ ts) = None

-- The value of a phrase that matches all tokens.
abbrev pub whole : {A : Type 0} → Phrase A → List Token → Option A
whole phrase ts = option_and_then (λ r. alone r.0 r.1) (phrase ts)
