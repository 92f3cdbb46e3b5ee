-- The end of a script's first line.
use Rattle.std.specs.Prelude.{◌≡◌, ℕ, ◌+◌, ◌<◌, List, ◌∷◌, ◌++◌, drop, length, take}
use Rattle.mm_lang.specs.Lines.{HasNoFeed}

-- The bytes begin with a line of this length and its line feed.
pub record EndsLine (bytes : List ℕ) (len : ℕ) : Type 0 where
  pub within : len < length bytes
  pub no_feed : HasNoFeed (take len bytes)
  pub feed : bytes ≡ take len bytes ++ 10 ∷ drop (len + 1) bytes
