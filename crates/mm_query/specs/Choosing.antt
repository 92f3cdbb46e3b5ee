-- Choices among optional values.
use Rattle.std.specs.Prelude.{List, [], ◌∷◌, Option, Some, None, map}

-- The first value that exists.
abbrev pub first_there : {X : Type 0} → List (Option X) → Option X
first_there [] = None
first_there (Some x ∷ others) = Some x
first_there (None ∷ others) = first_there others

-- The result of a function for the first element that has one.
abbrev pub first_given : {X Y : Type 0} → (X → Option Y) → List X → Option Y
first_given give xs = first_there (map give xs)
