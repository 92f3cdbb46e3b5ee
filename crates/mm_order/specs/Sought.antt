-- Counted searches.
use Rattle.std.specs.Prelude.{ℕ}

-- A probe, and the number of its comparisons.
pub record Sought (P : Type 0) : Type 0 where
  pub probe : P
  pub count : ℕ
