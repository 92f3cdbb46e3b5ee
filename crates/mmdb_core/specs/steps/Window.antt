-- The contents of a window.
use Rattle.std.specs.Prelude.{ℕ, List}

-- The bytes, and the number of further bytes that fit after them.
pub record Held : Type 0 where
  pub bytes : List ℕ
  pub room : ℕ
