-- Counts of combinations.
use Rattle.std.specs.Prelude.{ℕ, ◌*◌, Bool, true, false, ◌&&◌, List, [], ◌∷◌}
use Rattle.std.specs.List.{count_by}

-- Each element passes the test at its position, and there are as many tests as elements.
abbrev pub pass_each : {X : Type 0} → List (X → Bool) → List X → Bool
pass_each [] [] = true
pass_each (test ∷ tests) (x ∷ xs) = test x && pass_each tests xs
pass_each [] (x ∷ xs) = false
pass_each (test ∷ tests) [] = false

-- The product, over all lists, of the number of elements that pass the list's test; 0 unless there are as many tests as lists.
abbrev pub product_of_counts : {X : Type 0} → List (X → Bool) → List (List X) → ℕ
product_of_counts [] [] = 1
product_of_counts (test ∷ tests) (xs ∷ lists) = count_by test xs * product_of_counts tests lists
product_of_counts [] (xs ∷ lists) = 0
product_of_counts (test ∷ tests) [] = 0
