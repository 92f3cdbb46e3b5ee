-- Texts.
use Rattle.std.specs.Prelude.{◌≢◌, ℕ, ◌≤◌, List, length, All}

-- at most 64 bytes, none of them a line feed
pub record IsText (bytes : List ℕ) : Type 0 where
  pub short : length bytes ≤ 64
  pub one_line : All (λ b. b ≢ 10) bytes
