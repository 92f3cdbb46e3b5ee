-- The lowest binary trees.
use Rattle.std.specs.Prelude.{ℕ, ◌+◌, ◌*◌, ◌^◌, ◌<◌, ◌≤◌}

-- No binary tree of that many nodes has a smaller height.
abbrev pub IsLowest : ℕ → ℕ → Type 0
IsLowest nodes height = (nodes < 2 ^ height) × (2 ^ height ≤ 2 * nodes + 1)
