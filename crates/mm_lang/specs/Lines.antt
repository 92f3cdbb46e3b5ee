-- The lines of an input.
use Rattle.std.specs.Prelude.{◌≡◌, ℕ, ◌==◌, if◌then◌else◌, false, List, [], ◌∷◌, ◌++◌, map}

-- An input split at its line feeds: the bytes before each of them, and the rest after the last one.
pub record Pieces : Type 0 where
  pub ended : List (List ℕ)
  pub rest : List ℕ

-- A byte is prepended to the first of the following pieces.
abbrev pub with_byte : ℕ → List (List ℕ) → List ℕ → Pieces
with_byte b [] rest = record { ended = []; rest = b ∷ rest }
with_byte b (line ∷ lines) rest = record { ended = (b ∷ line) ∷ lines; rest = rest }

-- The pieces of an input.
unfoldable pub pieces_of : List ℕ → Pieces
pieces_of [] = record { ended = []; rest = [] }
pieces_of (b ∷ bs) =
    if b == 10 then record { ended = [] ∷ (pieces_of bs).ended; rest = (pieces_of bs).rest }
    else with_byte b (pieces_of bs).ended (pieces_of bs).rest

-- Drops one carriage return at the end of a line.
abbrev pub without_return : List ℕ → List ℕ
without_return [] = []
without_return (b ∷ []) = if b == 13 then [] else b ∷ []
without_return (b ∷ c ∷ bs) = b ∷ without_return (c ∷ bs)

-- The lines that end with a line feed.
abbrev pub whole_lines_of : List ℕ → List (List ℕ)
whole_lines_of input = map without_return (pieces_of input).ended

-- The bytes after the last line feed are a line too, unless there are none.
abbrev pub last_line_of : List ℕ → List (List ℕ)
last_line_of [] = []
last_line_of (b ∷ bs) = without_return (b ∷ bs) ∷ []

-- All lines of an input: those that end with a line feed, and the bytes after the last one.
abbrev pub lines_of : List ℕ → List (List ℕ)
lines_of input = whole_lines_of input ++ last_line_of (pieces_of input).rest

-- No byte is a line feed.
abbrev pub HasNoFeed : List ℕ → Type 0
HasNoFeed [] = Unit {0}
HasNoFeed (b ∷ bs) = ((b == 10) ≡ false) × HasNoFeed bs
