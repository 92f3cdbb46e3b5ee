-- Combinations in one list, one after another.
use Rattle.std.specs.Prelude.{ℕ, zero, suc, List, [], ◌∷◌, drop, take}

-- The first pieces of a list, this many of this width.
abbrev pub pieces : {X : Type 0} → ℕ → ℕ → List X → List (List X)
pieces width zero xs = []
pieces width (suc count) xs = take width xs ∷ pieces width count (drop width xs)
